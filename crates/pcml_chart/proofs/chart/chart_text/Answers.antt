use Rattle.std.specs.String.{string_bytes}
use Rattle.std.proofs.lemmas.Result.{IfOk-weaker}
use Rattle.script.specs.Scripts.{script_of}
use Rattle.pcml_chart.proofs.Charting.{is_chart}
use Rattle.pcml_chart.proofs.chart.chart_text.Goals as goal

pub returns : goal.returns
returns c =
    IfOk-weaker c.picture_text.result _ _
    (λ text is.
    is_chart (script_of c.args.script.now) c.args.state.now c.args.own.now c.args.commits.now c.args.from c.args.to c.range_end-below.result c.in_ok-feet.feet.items c.deref.result.now c.deref-2.result.now c.in_ok-found.found.items
    c.from.result (string_bytes text) c.range_end-below.ensures c.in_ok-feet.ensures c.in_ok-found.ensures c.deref.ensures.value c.deref-2.ensures.value c.from.ensures is)
    c.picture_text.ensures
