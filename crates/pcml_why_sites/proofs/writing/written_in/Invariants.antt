use Rattle.std.proofs.Common.{◌≡◌, ◌++◌, length}
use Rattle.script_token.specs.Lexemes.{seen}
use Rattle.pcml_why_sites.specs.Writing.{seen_offers, written_in}
use Rattle.pcml_why_sites.proofs.writing.written_in.Given as goal

abbrev pub invariant-loop-rest : goal.invariant-loop-rest
invariant-loop-rest l = seen_offers l.written.items ++ written_in (seen l.rest) ≡ written_in (seen l.fn.tokens)

abbrev pub decreases-loop-rest : goal.decreases-loop-rest
decreases-loop-rest l = length l.rest
