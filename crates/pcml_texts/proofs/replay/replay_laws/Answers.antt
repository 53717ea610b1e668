use Rattle.pcml_texts.proofs.Judging.{replayed_to_one, replayed_or_no_run, one_unlawful_line}
use Rattle.pcml_texts.proofs.replay.replay_laws.Goals as goal

pub returns : goal.returns
returns c = record { one = replayed_to_one; apart = replayed_or_no_run; first = one_unlawful_line }
