-- Laws of runs.
use Rattle.std.specs.Prelude.{◌≡◌, ℕ, ◌<◌, ◌≤◌, List, Some, length, take, slice_get, Contains, IsPermutation}
use Rattle.event.specs.Tree.{Tree, scope_nacks}
use Rattle.script_tree.specs.Processes.{Proc}
use Rattle.thread.specs.After.{Chosen}
use Rattle.protocol_values.specs.declared.Commit.{Commit}
use Rattle.protocol_values.specs.Commits.{IsInOrder, stamp_of}
use Rattle.journal_replay.specs.Runs.{HasRow, HasThread, IsOffering, IsRun, Starts, config_of}
use Rattle.journal_replay.specs.Starting.{CountsForStart}
use Rattle.journal_order.specs.Meetings.{Meets}
use Rattle.journal_order.specs.Messages.{named, received, sent}

-- STAMPS

-- of two commits of one thread the later has the greater stamp
abbrev pub StampsRise : Type 0
StampsRise =
    (ps : List Proc) (rows : ℕ) (journal : List Commit) → IsRun ps rows journal →
    (i j : ℕ) (c d : Commit) (t : ℕ) → slice_get journal i ≡ Some c → slice_get journal j ≡ Some d → i < j →
    HasThread c t → HasThread d t → stamp_of c < stamp_of d

-- two commits of one stamp share no thread
abbrev pub OneStampOneThread : Type 0
OneStampOneThread =
    (ps : List Proc) (rows : ℕ) (journal : List Commit) → IsRun ps rows journal →
    (i j : ℕ) (c d : Commit) (t : ℕ) → slice_get journal i ≡ Some c → slice_get journal j ≡ Some d →
    HasThread c t → HasThread d t → stamp_of c ≡ stamp_of d → i ≡ j

-- STARTS

-- the threads of each commit have started by then
abbrev pub EachStarted : Type 0
EachStarted =
    (ps : List Proc) (rows : ℕ) (journal : List Commit) → IsRun ps rows journal →
    (i : ℕ) (c : Commit) (t : ℕ) → slice_get journal i ≡ Some c → HasThread c t → Starts ps (config_of (take i journal)) t

-- and its stamp is above that of each earlier one that counts for the start of one of them
abbrev pub AboveStarts : Type 0
AboveStarts =
    (ps : List Proc) (rows : ℕ) (journal : List Commit) → IsRun ps rows journal →
    (i : ℕ) (c d : Commit) (t : ℕ) → slice_get journal i ≡ Some c → HasThread c t → Contains (take i journal) d →
    CountsForStart ps (config_of (take i journal)) d t → stamp_of d < stamp_of c

-- ROWS

-- a sync is in at most one commit
abbrev pub OneRowOneCommit : Type 0
OneRowOneCommit =
    (ps : List Proc) (rows : ℕ) (journal : List Commit) → IsRun ps rows journal →
    (i j : ℕ) (c d : Commit) (t g : ℕ) → slice_get journal i ≡ Some c → slice_get journal j ≡ Some d →
    HasRow c t g → HasRow d t g → i ≡ j

-- NACKS

-- of a thread with these results, sync g offers, or offered, an event with a scope for nack k
pub record HasScopeAt (ps : List Proc) (t : ℕ) (results : List Chosen) (k g : ℕ) : Type 0 where
  pub within : g ≤ length results
  pub event : Tree
  pub offered : IsOffering ps t (take g results) event
  pub scope : Contains (scope_nacks event) k

-- a nack stands in the scopes of at most one sync of its thread
abbrev pub OneSyncOneNack : Type 0
OneSyncOneNack =
    (ps : List Proc) (t : ℕ) (results : List Chosen) (k g h : ℕ) → HasScopeAt ps t results k g → HasScopeAt ps t results k h → g ≡ h

-- MEETINGS

-- each commit of a run is a meeting of the syncs that it names
abbrev pub EachMeets : Type 0
EachMeets =
    (ps : List Proc) (rows : ℕ) (journal : List Commit) → IsRun ps rows journal →
    (i : ℕ) (c : Commit) → slice_get journal i ≡ Some c → Meets ps (config_of journal) c

-- THE JOURNAL'S ORDER: by stamp, and then by the thread named first

-- the commits of a run in this order are a run too, and lead to the same configuration
abbrev pub OrderedIsRun : Type 0
OrderedIsRun =
    (ps : List Proc) (rows : ℕ) (commits ordered : List Commit) → IsRun ps rows commits →
    IsPermutation commits ordered → IsInOrder ordered → IsRun ps rows ordered × (config_of ordered ≡ config_of commits)

-- the commits of a run can be put in this order
abbrev pub HasOrder : Type 0
HasOrder =
    (ps : List Proc) (rows : ℕ) (commits : List Commit) → IsRun ps rows commits →
    (ordered : List Commit) × IsPermutation commits ordered × IsInOrder ordered

-- in one way
abbrev pub OneOrder : Type 0
OneOrder =
    (ps : List Proc) (rows : ℕ) (commits first second : List Commit) → IsRun ps rows commits →
    IsPermutation commits first → IsInOrder first → IsPermutation commits second → IsInOrder second → first ≡ second

-- MESSAGES

-- what is received from a thread on a channel, in the journal's order, is what the thread sent on it, in its own order
abbrev pub ReceivedIsSent : Type 0
ReceivedIsSent =
    (ps : List Proc) (rows : ℕ) (journal : List Commit) → IsRun ps rows journal →
    (t chan : ℕ) → received t chan journal ≡ sent ps t chan (config_of journal t)

-- and it is what the pairs on the channel with that sender name
abbrev pub NamedIsReceived : Type 0
NamedIsReceived =
    (ps : List Proc) (rows : ℕ) (journal : List Commit) → IsRun ps rows journal →
    (t chan : ℕ) → named t chan journal ≡ received t chan journal
