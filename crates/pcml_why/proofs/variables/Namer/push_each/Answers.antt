use Rattle.std.specs.String.{string_bytes}
use Rattle.script.specs.Scripts.{script_of}
use Rattle.script_tree.specs.Processes.{proc_of}
use Rattle.journal_text.specs.Names.{named}
use Rattle.pcml_why.proofs.Telling.{variables_below-more}
use Rattle.pcml_why.proofs.variables.Namer.push_each.Goals as goal

pub loop-variable-preserved : goal.loop-variable-preserved
loop-variable-preserved c =
    variables_below-more (named (script_of c.args.self.now.script.now)) (proc_of c.args.self.now.process.now).variables c.args.variables.now c.loop-variable.variable _ c.some_set-behind.result
    (string_bytes c.args.out.now) (string_bytes c.loop-variable.out) (string_bytes c.push_variable.new.out) c.loop-variable-test.true c.some_set-behind.ensures c.loop-variable.invariant
    c.in_ok-push_variable.ensures
