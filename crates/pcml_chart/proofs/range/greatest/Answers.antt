use Rattle.protocol_values.specs.Commits.{stamp_of}
use Rattle.pcml_chart_layout.proofs.Greatest.{most_by-step}
use Rattle.pcml_chart.proofs.range.greatest.Goals as goal

pub loop-commit-preserved : goal.loop-commit-preserved
loop-commit-preserved c =
    most_by-step stamp_of c.args.commits.now c.loop-commit.commit-index _ c.loop-commit.greatest c.greater-greatest.result c.loop-commit-test.true c.loop-commit.invariant c.greater-greatest.ensures
