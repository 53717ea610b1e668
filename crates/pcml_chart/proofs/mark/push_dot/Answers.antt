use Rattle.std.proofs.Common.{◌∙◌, append_assoc}
use Rattle.std.proofs.lemmas.Result.{on_ok_weaker}
use Rattle.pcml_chart.specs.Marks.{dot}
use Rattle.pcml_chart.proofs.mark.push_dot.Goals as goal

pub returns : goal.returns
unfolding dot
returns c = on_ok_weaker c.write.result (λ e. e ∙ simp append_assoc) c.write.ensures.bytes
