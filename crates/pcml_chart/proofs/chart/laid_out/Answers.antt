use Rattle.std.proofs.Common.{Bool, List, map, ap, sym, ◌∙◌}
use Rattle.std.specs.String.{string_bytes}
use Rattle.script.specs.Scripts.{script_of}
use Rattle.journal_text.specs.Names.{named}
use Rattle.pcml_chart_layout.specs.Labels.{label_text}
use Rattle.pcml_chart_layout.specs.Laid.{AreLabels, laid, written}
use Rattle.pcml_chart.specs.Drawn.{picture_of, stamps_of}
use Rattle.pcml_chart.proofs.Laying.{laid_so}
use Rattle.pcml_chart.proofs.chart.laid_out.Goals as goal

pub returns : goal.returns
returns c =
    let names = named (script_of c.args.script.now) in
    let drawing = c.args.drawing.now in
    let layout = c.args.layout.now in
    let labels : AreLabels names (laid layout).own drawing.commits.now (written layout) =
    c.requires.labels ∙ ap (λ (own : List Bool). map (label_text names own) drawing.commits.now) (sym c.requires.own) in
    laid_so (picture_of names (stamps_of c.args.state.now) drawing) (laid layout) c.width.result c.height.result c.bottom-low.result c.args.words.now (string_bytes c.new-out.result)
    (string_bytes c.push_front.new.out) (string_bytes c.push_heading.new.out) (string_bytes c.push_lifelines.new.out) (string_bytes c.push_rows.new.out) (string_bytes c.push_feet.new.out)
    (string_bytes c.push_page_end.new.out) c.new-out.ensures.bytes c.width.ensures (c.height.ensures ∙ c.requires.tall) c.requires.words c.bottom-low.ensures c.in_ok-push_front.ensures
    c.in_ok-push_heading.ensures c.in_ok-push_lifelines.ensures (c.in_ok-push_rows.ensures names labels) c.in_ok-push_feet.ensures c.in_ok-push_page_end.ensures
