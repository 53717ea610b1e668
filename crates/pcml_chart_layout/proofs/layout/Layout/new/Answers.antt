use Rattle.script.specs.Scripts.{script_of}
use Rattle.journal_text.specs.Names.{named}
use Rattle.pcml_chart_layout.proofs.Laying.{few_gaps}
use Rattle.pcml_chart_layout.proofs.layout.Layout.new.Goals as goal

pub new-requires-2 : goal.new-requires-2
new-requires-2 c =
    let columns = c.in_ok-columns.columns in
    few_gaps (named (script_of c.args.script.now)) columns.own.now c.args.feet.now c.args.commits.now c.in_ok-gaps.gaps.items columns.few c.in_ok-gaps.ensures.gaps
