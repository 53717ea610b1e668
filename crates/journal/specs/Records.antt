-- What commits come to, once they are led on to their end.
use Rattle.std.specs.Prelude.{◌≡◌, ℕ, ⊤, List, ◌++◌, length, map, IsPermutation}
use Rattle.script_tree.specs.Processes.{Proc}
use Rattle.protocol_values.specs.declared.Atom.{Atom}
use Rattle.protocol_values.specs.declared.Commit.{Commit}
use Rattle.protocol_values.specs.Commits.{IsInOrder}
use Rattle.protocol_ledger.specs.Ledgers.{Ledger, commits_in}
use Rattle.thread.specs.declared.end.End.{End}
use Rattle.journal_replay.specs.declared.state.State.{State}
use Rattle.journal_replay.specs.declared.state.ReplayFault.{ReplayFault}
use Rattle.journal_replay.specs.declared.state.ReplayFault.TheVariants.{Memory, Unlawful}
use Rattle.journal_replay.specs.Runs.{BreaksOffAt, IsMaximal, IsRun, TellsEnds, config_of}
use Rattle.journal_replay.specs.Replays.{StandsAfter}
use Rattle.journal_order.specs.Messages.{named, sent}
use Rattle.journal.specs.declared.record.Record.{Record}

-- the list has the given commits, each as often, in order; those of one stamp and one first thread stand in any order
pub record IsOrdering (given commits : List Commit) : Type 0 where
  pub all : IsPermutation given commits
  pub ordered : IsInOrder commits

-- The journal is a run in order, which can go no further; the state stands where it leads.
pub record IsCompletion (ps : List Proc) (rows : ℕ) (given journal : List Commit) (state : State) (ends : List End) (outputs : List (List Atom)) (tail : ℕ) : Type 0 where
  pub run : IsRun ps rows journal
  pub in_order : IsInOrder journal
  pub maximal : IsMaximal ps rows (config_of journal)
  pub stands : StandsAfter ps rows journal state
  pub ends_are : TellsEnds ps rows (config_of journal) ends outputs
  -- the given commits in order are a run
  pub given_run : (commits : List Commit) × IsOrdering given commits × IsRun ps rows commits
  -- one thread's messages on a channel were received in sending order
  pub received : (t chan : ℕ) → named t chan journal ≡ sent ps t chan (config_of journal t)
  -- the journal has each of them, and so many others
  pub added : List Commit
  pub whole : IsPermutation (given ++ added) journal
  pub tail_is : length added ≡ tail

abbrev pub CompletesRun : List Proc → ℕ → List Commit → Record → Type 0
CompletesRun ps rows given r = IsCompletion ps rows given r.journal.items r.state r.ends.items (map (λ v. v.items) r.outputs.items) r.tail

-- the first so many of the given commits in order are a run, and with the next they are none
abbrev pub RefusesRun : List Proc → ℕ → List Commit → ReplayFault → Type 0
RefusesRun ps rows given Memory = ⊤
RefusesRun ps rows given (Unlawful index) = (commits : List Commit) × IsOrdering given commits × BreaksOffAt ps rows commits index

-- OF A LEDGER

abbrev pub Completes : List Proc → ℕ → Ledger → Record → Type 0
Completes ps rows l r = CompletesRun ps rows (commits_in l) r

abbrev pub RefusesLedger : List Proc → ℕ → Ledger → ReplayFault → Type 0
RefusesLedger ps rows l fault = RefusesRun ps rows (commits_in l) fault

-- OF COMMITS IN ORDER, whichever list was so put in order

abbrev pub CompletesOrdered : List Proc → ℕ → List Commit → Record → Type 0
CompletesOrdered ps rows commits r = (given : List Commit) → IsOrdering given commits → CompletesRun ps rows given r

-- the record leads their run, which led to this state, to its end
abbrev pub Records : List Commit → State → Record → Type 0
Records commits state r = (ps : List Proc) (rows : ℕ) → StandsAfter ps rows commits state → CompletesOrdered ps rows commits r
