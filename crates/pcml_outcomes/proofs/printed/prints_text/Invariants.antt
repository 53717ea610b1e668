use Rattle.std.proofs.Common.{take}
use Rattle.script.specs.Scripts.{script_of}
use Rattle.pcml_outcomes.specs.Printed.{TellsPrints}
use Rattle.pcml_outcomes.proofs.printed.prints_text.Given as goal

abbrev pub invariant-loop-print : goal.invariant-loop-print
invariant-loop-print g l = TellsPrints (script_of l.script) l.limit (take l.print-index l.prints) l.told
