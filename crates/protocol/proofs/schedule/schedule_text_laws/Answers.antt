use Rattle.protocol.proofs.PlanLaws.{spells_only_one, spells_or_is_bad, has_one_first_bad_line}
use Rattle.protocol.proofs.schedule.schedule_text_laws.Goals as goal

pub returns : goal.returns
returns c = record { one = spells_only_one; apart = spells_or_is_bad; first = has_one_first_bad_line }
