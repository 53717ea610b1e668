use Rattle.std.specs.String.{string_bytes}
use Rattle.pcml_chart_layout.specs.Laid.{laid}
use Rattle.pcml_chart.specs.Drawn.{stamps_of}
use Rattle.pcml_chart.specs.Rows.{row}
use Rattle.pcml_chart.proofs.Pieces.{each_below-more}
use Rattle.pcml_chart.proofs.row.push_rows.Goals as goal

pub loop-place-preserved : goal.loop-place-preserved
loop-place-preserved c = λ names are.
    each_below-more (row names (stamps_of c.args.state.now) (laid c.args.layout.now) c.args.commits.now) c.loop-place.place (string_bytes c.args.out.now) (string_bytes c.loop-place.out) (string_bytes c.push_row.new.out)
    (c.loop-place.invariant names are) (c.in_ok-push_row.ensures names are)
