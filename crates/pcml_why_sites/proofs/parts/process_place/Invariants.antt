use Rattle.std.proofs.Common.{◌≡◌, take}
use Rattle.std.specs.List.{position_or_len}
use Rattle.script_token.specs.Tokens.{view}
use Rattle.pcml_why_sites.specs.Writing.{is_process}
use Rattle.pcml_why_sites.proofs.parts.process_place.Given as goal

abbrev pub invariant-loop-place : goal.invariant-loop-place
invariant-loop-place l = position_or_len (λ p. is_process (view p.token)) (take l.place l.tokens) ≡ l.place
