use Rattle.std.proofs.Common.{map}
use Rattle.script_tree.specs.Processes.{proc_of}
use Rattle.pcml_why.specs.Served.{AreAnswers}
use Rattle.pcml_why.proofs.served.push_answers.Given as goal

abbrev pub invariant-loop-offer : goal.invariant-loop-offer
invariant-loop-offer l = AreAnswers (map proc_of l.processes) l.fn.answers.items → AreAnswers (map proc_of l.processes) l.answers.items
