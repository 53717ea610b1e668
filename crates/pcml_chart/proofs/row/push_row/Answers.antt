use Rattle.std.proofs.Common.{ℕ, ◌++◌, ap, ◌∙◌}
use Rattle.std.specs.String.{string_bytes}
use Rattle.std.proofs.lemmas.Result.{on_ok_weaker}
use Rattle.pcml_chart_layout.specs.Laid.{laid, written}
use Rattle.pcml_chart.specs.Drawn.{stamps_of}
use Rattle.pcml_chart.specs.Rows.{stamp_mark}
use Rattle.pcml_chart.proofs.Rowing.{row_grown}
use Rattle.pcml_chart.proofs.row.push_row.Goals as goal

pub returns : goal.returns
returns c = λ names are.
    on_ok_weaker c.push_beside.result
    (λ e. row_grown names (stamps_of c.args.state.now) (laid c.args.layout.now) c.args.commits.now c.args.place c.height-y.result _ c.requires.place c.height-y.ensures
    (written c.args.layout.now) c.label.result.now (string_bytes c.args.out.now) (string_bytes c.push_stamp_mark.new.out) (string_bytes c.push_figure.new.out) (string_bytes c.push_beside.new.out)
    are c.label.ensures (c.in_ok-push_stamp_mark.ensures ∙ ap (λ (width : ℕ). string_bytes c.args.out.now ++ stamp_mark width c.args.commits.now c.args.place) c.width.ensures) c.in_ok-push_figure.ensures e)
    c.push_beside.ensures
