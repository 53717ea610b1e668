use Rattle.pcml_answers.proofs.Refusing.{reason_refuses}
use Rattle.pcml_answers.proofs.reason.reason_law.Goals as goal

pub returns : goal.returns
returns c = reason_refuses
