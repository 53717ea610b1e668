use Rattle.pcml_answers.proofs.Parts.{HasLeft}
use Rattle.pcml_answers.proofs.need.is_in.Given as goal

abbrev pub invariant-loop-at : goal.invariant-loop-at
invariant-loop-at l = HasLeft l.name l.names l.begun l.at
