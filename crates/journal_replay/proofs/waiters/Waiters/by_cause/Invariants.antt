use Rattle.std.proofs.Common.{◌≤◌, ℕ, length}
use Rattle.protocol_values.specs.declared.Cause.{Cause}
use Rattle.protocol_values.specs.declared.Row.{Row}
use Rattle.journal_replay.specs.Searching.{IsBrought, KeepsBrought, NoCause}
use Rattle.journal_replay.specs.Standing.{Finds, base_for}
use Rattle.journal_replay.proofs.Removing.{Behind}
use Rattle.journal_replay.proofs.waiters.Waiters.by_cause.Given as goal

abbrev pub invariant-loop-index : goal.invariant-loop-index
invariant-loop-index l =
    let strands = l.threads.strands.items in
    record {
      within : l.index ≤ length l.self-inside.places.items;
      kept : KeepsBrought strands l.threads.rows l.fn.self l.self-inside.places.items;
      none : Behind (λ (at : Row × ℕ). (why : Cause) → IsBrought why → Finds strands l.threads.rows at (base_for why) → NoCause strands at why) l.self-inside.places.items l.index;
    }

abbrev pub decreases-loop-index : goal.decreases-loop-index
decreases-loop-index l = l.index
