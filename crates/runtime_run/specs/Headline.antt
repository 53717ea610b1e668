-- The headline: what the record of a run is.
use Rattle.std.specs.Prelude.{◌≡◌, ◌<◌, ◌≤◌, ℕ, List, length, map, Some, slice_get}
use Rattle.script_tree.specs.Processes.{Proc}
use Rattle.protocol_values.specs.declared.Commit.{Commit}
use Rattle.protocol_values.specs.Commits.{IsInOrder}
use Rattle.thread.specs.declared.end.End.TheVariants.{Spent}
use Rattle.journal_replay.specs.Runs.{HasRow, IsMaximal, IsRun, TellsEnds, config_of}
use Rattle.journal_order.specs.Meetings.{Meets}
use Rattle.journal_order.specs.Messages.{named, received, sent}
use Rattle.journal.specs.declared.record.Record.{Record}

-- the commits, in stamp order, are a maximal run of the processes, each of so many rows
pub record IsMaximalRun (ps : List Proc) (rows : ℕ) (journal : List Commit) : Type 0 where
  pub run : IsRun ps rows journal
  pub in_order : IsInOrder journal
  pub maximal : IsMaximal ps rows (config_of journal)
  -- each sync commits at most one offer: it is in at most one commit
  pub at_most_one : (i j : ℕ) (c d : Commit) (t g : ℕ) → slice_get journal i ≡ Some c → slice_get journal j ≡ Some d → HasRow c t g → HasRow d t g → i ≡ j
  -- each committed send meets a receive of another thread on its channel, giving it its message, and a nack is answered only where
  -- its sync committed outside its scope
  pub meets : (i : ℕ) (c : Commit) → slice_get journal i ≡ Some c → Meets ps (config_of journal) c
  -- one thread's messages on a channel are received in sending order: what the receivers got is what the pairs name, and what it sent
  pub received_is_sent : (t chan : ℕ) → received t chan journal ≡ sent ps t chan (config_of journal t)
  pub named_is_received : (t chan : ℕ) → named t chan journal ≡ received t chan journal

-- the record tells such a run, how each process ended and what it printed; what was added behind the workers is a part of it
pub record TellsMaximalRun (ps : List Proc) (rows : ℕ) (r : Record) : Type 0 where
  pub journal : IsMaximalRun ps rows r.journal.items
  pub ends : TellsEnds ps rows (config_of r.journal.items) r.ends.items (map (λ v. v.items) r.outputs.items)
  pub tail : r.tail ≤ length r.journal.items

-- RUNS WITHOUT A LIMIT ON SYNCS

-- the commits, in stamp order, are a run of the processes that can go no further, however many syncs they may make
pub record IsFreeRun (ps : List Proc) (journal : List Commit) : Type 0 where
  pub rows : ℕ
  -- as of a maximal run of so many rows: what it says of syncs, meetings and messages does not speak of rows
  pub run : IsMaximalRun ps rows journal
  pub maximal : (more : ℕ) → IsMaximal ps more (config_of journal)

-- the record tells such a run, and how each process ended where it may make more syncs than it did: for want of syncs none stopped
pub record TellsFreeRun (ps : List Proc) (r : Record) : Type 0 where
  pub journal : IsFreeRun ps r.journal.items
  pub ends : (rows : ℕ) → ((t : ℕ) → length (config_of r.journal.items t) < rows) → TellsEnds ps rows (config_of r.journal.items) r.ends.items (map (λ v. v.items) r.outputs.items)
  pub never_spent : (t : ℕ) → slice_get r.ends.items t ≡ Some Spent → ⊥
  pub tail : r.tail ≤ length r.journal.items
