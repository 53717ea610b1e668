use Rattle.pcml_answers.proofs.Summing.{sums_agree}
use Rattle.pcml_answers.proofs.stats.stats_laws.Goals as goal

pub returns : goal.returns
returns c = sums_agree
