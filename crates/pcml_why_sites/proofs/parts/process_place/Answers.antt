use Rattle.std.proofs.Common.{sym}
use Rattle.script_token.specs.Tokens.{view}
use Rattle.pcml_why_sites.specs.Writing.{is_process}
use Rattle.pcml_why_sites.proofs.Places.{stops-at}
use Rattle.pcml_why_sites.proofs.parts.process_place.Goals as goal

pub returns-then-is_process-clause-place : goal.returns-then-is_process-clause-place
returns-then-is_process-clause-place c = stops-at (λ p. is_process (view p.token)) c.args.tokens.now c.loop-place.place _ c.loop-place-test.true c.loop-place.invariant (sym c.if-is_process.ensures)
