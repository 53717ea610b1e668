use Rattle.std.proofs.Common.{map}
use Rattle.script_tree.specs.Processes.{proc_of}
use Rattle.pcml_why.specs.Served.{AreAnswers}
use Rattle.pcml_why.proofs.served.answers_of.Given as goal

abbrev pub invariant-loop-site : goal.invariant-loop-site
invariant-loop-site l = AreAnswers (map proc_of l.processes) l.answers.items
