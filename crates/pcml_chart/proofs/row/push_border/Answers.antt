use Rattle.std.proofs.Common.{◌∙◌, append_assoc}
use Rattle.std.proofs.lemmas.Result.{on_ok_weaker}
use Rattle.pcml_chart.specs.Rows.{border}
use Rattle.pcml_chart.proofs.row.push_border.Goals as goal

pub returns : goal.returns
unfolding border
returns c = on_ok_weaker c.write.result (λ e. e ∙ simp append_assoc) c.write.ensures.bytes
