use Rattle.script.specs.Scripts.{script_of}
use Rattle.pcml_answers.proofs.Parts.{FindsLeft}
use Rattle.pcml_answers.proofs.need.unnamed_in.Given as goal

abbrev pub invariant-loop-at : goal.invariant-loop-at
invariant-loop-at l = FindsLeft (script_of l.script) l.names l.begun l.at
