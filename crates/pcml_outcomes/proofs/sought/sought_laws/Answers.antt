use Rattle.pcml_outcomes.proofs.Meaning.{clear_all_can_end, clear_never_faults, clear_never_prints, stuck_has_faulted, stuck_has_printed, stuck_is_left_behind}
use Rattle.pcml_outcomes.proofs.sought.sought_laws.Goals as goal

pub returns-clause-ends : goal.returns-clause-ends
returns-clause-ends c = clear_all_can_end

pub returns-clause-left : goal.returns-clause-left
returns-clause-left c = stuck_is_left_behind

pub returns-clause-faultless : goal.returns-clause-faultless
returns-clause-faultless c = clear_never_faults

pub returns-clause-faulted : goal.returns-clause-faulted
returns-clause-faulted c = stuck_has_faulted

pub returns-clause-never : goal.returns-clause-never
returns-clause-never c = clear_never_prints

pub returns-clause-printed : goal.returns-clause-printed
returns-clause-printed c = stuck_has_printed
