use Rattle.std.proofs.Common.{List, Bool, ap, length, ◌∙◌}
use Rattle.script.specs.Scripts.{script_of}
use Rattle.pcml_answers.proofs.Columns.{each-named}
use Rattle.pcml_tool.proofs.seeking.told_of.Goals as goal

pub left_text-requires-clause-marks : goal.left_text-requires-clause-marks
left_text-requires-clause-marks g c =
    let s = script_of c.args.script.now in
    ap (λ (m : List Bool). length m) (c.deref.ensures.value ∙ c.in_ok-marks-in-Left.ensures.named.1) ∙ each-named s c.in-Left.names.now
