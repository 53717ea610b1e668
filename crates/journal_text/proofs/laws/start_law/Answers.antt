use Rattle.journal_text.proofs.Starting.{its_text_spawns, starts_where_spawned, unstarted_is_not_started}
use Rattle.journal_text.proofs.laws.start_law.Goals as goal

pub returns-clause-text : goal.returns-clause-text
returns-clause-text c = its_text_spawns

pub returns-clause-starts : goal.returns-clause-starts
returns-clause-starts c = starts_where_spawned

pub returns-clause-told : goal.returns-clause-told
returns-clause-told c = unstarted_is_not_started
