use Rattle.pcml_outcomes.proofs.Clearing.{clear_always_ends, clear_never_waits, free_clear_always_ends, free_clear_never_waits, free_never_spends, free_stuck_is_left, stuck_is_left}
use Rattle.pcml_outcomes.proofs.Endings.{all_says_whether_runs_end}
use Rattle.pcml_outcomes.proofs.Forever.{clear_never_strands, clear_never_waits_for_ever, stuck_is_stranded}
use Rattle.pcml_outcomes.proofs.listing.outcomes_laws.Goals as goal

pub returns-clause-waiting : goal.returns-clause-waiting
returns-clause-waiting c = clear_never_waits

pub returns-clause-ends : goal.returns-clause-ends
returns-clause-ends c = clear_always_ends

pub returns-clause-stuck : goal.returns-clause-stuck
returns-clause-stuck c = stuck_is_left

pub returns-clause-unspent : goal.returns-clause-unspent
returns-clause-unspent c = free_never_spends

pub returns-clause-waiting_freely : goal.returns-clause-waiting_freely
returns-clause-waiting_freely c = free_clear_never_waits

pub returns-clause-ends_freely : goal.returns-clause-ends_freely
returns-clause-ends_freely c = free_clear_always_ends

pub returns-clause-stuck_freely : goal.returns-clause-stuck_freely
returns-clause-stuck_freely c = free_stuck_is_left

pub returns-clause-endings : goal.returns-clause-endings
returns-clause-endings c = all_says_whether_runs_end

pub returns-clause-strands : goal.returns-clause-strands
returns-clause-strands c = clear_never_strands

pub returns-clause-stranded : goal.returns-clause-stranded
returns-clause-stranded c = stuck_is_stranded

pub returns-clause-waits : goal.returns-clause-waits
returns-clause-waits c = clear_never_waits_for_ever
