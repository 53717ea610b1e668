use Rattle.pcml_tool.proofs.Playing.{played_or_faulty, has_one_first_refused}
use Rattle.pcml_tool.proofs.play.play_laws.Goals as goal

pub returns : goal.returns
returns c = record { apart = played_or_faulty; first = has_one_first_refused }
