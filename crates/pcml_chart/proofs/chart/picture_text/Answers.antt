use Rattle.std.proofs.Common.{◌≡◌, ap, length, ◌∙◌}
use Rattle.std.specs.String.{string_bytes}
use Rattle.std.proofs.lemmas.Result.{IfOk-weaker}
use Rattle.script.specs.Scripts.{script_of}
use Rattle.journal_text.specs.Names.{named}
use Rattle.pcml_chart_layout.specs.Laid.{laid}
use Rattle.pcml_chart_layout.specs.Places.{Layout}
use Rattle.pcml_chart.specs.Chart.{heading}
use Rattle.pcml_chart.specs.Drawn.{picture_of, stamps_of}
use Rattle.pcml_chart.proofs.Laying.{picture_laid}
use Rattle.pcml_chart.proofs.chart.picture_text.Goals as goal

pub laid_out-requires : goal.laid_out-requires
laid_out-requires c =
    let is_laid = c.in_ok-layout.ensures in
    record {
      own = ap (λ (l : Layout). l.own) is_laid.places;
      labels = is_laid.labels;
      tall = is_laid.height;
      count = c.requires.count;
      few = c.requires.few;
      words = c.deref.ensures ∙ c.in_ok-heading.ensures (named (script_of c.args.script.now)) (stamps_of c.args.state.now);
    }

pub returns : goal.returns
returns c =
    let names = named (script_of c.args.script.now) in
    let stamps = stamps_of c.args.state.now in
    let is_laid = c.in_ok-layout.ensures in
    let told : string_bytes c.in_ok-heading.heading ≡ heading (picture_of names stamps c.args.drawing.now) = c.in_ok-heading.ensures names stamps in
    let long : c.len.result ≡ length (heading (picture_of names stamps c.args.drawing.now)) =
    c.len.ensures ∙ c.in_ok-heading.heading.bytes.ok.0 ∙ ap length told in
    IfOk-weaker c.laid_out.result _ _
    (λ text is. picture_laid (picture_of names stamps c.args.drawing.now) (laid c.in_ok-layout.layout) c.len.result (string_bytes text) is_laid.places
    long is)
    c.laid_out.ensures
