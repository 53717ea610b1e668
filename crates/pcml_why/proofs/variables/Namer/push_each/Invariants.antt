use Rattle.std.proofs.Common.{◌≡◌, ◌++◌}
use Rattle.std.specs.String.{string_bytes}
use Rattle.script.specs.Scripts.{script_of}
use Rattle.script_tree.specs.Processes.{proc_of}
use Rattle.journal_text.specs.Names.{named}
use Rattle.pcml_why.specs.Variables.{variables_below}
use Rattle.pcml_why.proofs.variables.Namer.push_each.Given as goal

abbrev pub invariant-loop-variable : goal.invariant-loop-variable
invariant-loop-variable l =
    string_bytes l.out ≡ string_bytes l.fn.out ++ variables_below (named (script_of l.self.script.now)) (proc_of l.self.process.now).variables l.variables l.variable
