use Rattle.std.proofs.Common.{◌≡◌, ◌≤◌, ℕ, length}
use Rattle.protocol_values.specs.declared.Message.{Message}
use Rattle.protocol_values.specs.declared.Row.{Row}
use Rattle.journal_replay.specs.Searching.{KeepsSide, base_on}
use Rattle.journal_replay.specs.Standing.{Finds}
use Rattle.journal_replay.proofs.Removing.{Behind}
use Rattle.journal_replay.proofs.waiters.Waiters.partner.Given as goal

abbrev pub invariant-loop-index : goal.invariant-loop-index
invariant-loop-index l =
    let strands = l.threads.strands.items in
    record {
      within : l.index ≤ length l.self-inside.places.items;
      kept : KeepsSide strands l.threads.rows l.side l.chan l.fn.self l.self-inside.places.items;
      own : Behind (λ (at : Row × ℕ). (m : Message) → Finds strands l.threads.rows at (base_on l.side l.chan m) → at.0.thread ≡ l.thread) l.self-inside.places.items l.index;
    }

abbrev pub decreases-loop-index : goal.decreases-loop-index
decreases-loop-index l = l.index
