use Rattle.std.proofs.Common.{◌≡◌, ◌≤◌, drop, length}
use Rattle.std.specs.Option.{option_copied}
use Rattle.pcml_outcomes.specs.Stranding.{soonest}
use Rattle.pcml_outcomes.proofs.stranding.soonest.Given as goal

abbrev pub invariant-loop-at : goal.invariant-loop-at
invariant-loop-at l = record {
  first : option_copied l.first ≡ soonest l.is_alone (drop l.at l.stranded);
  within : l.at ≤ length l.stranded;
}

abbrev pub decreases-loop-at : goal.decreases-loop-at
decreases-loop-at l = l.at
