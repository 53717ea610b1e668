-- What a replay answers.
use Rattle.std.specs.Prelude.{◌≡◌, ◌⊎◌, ℕ, List, [], ◌++◌, length, Option, Some, None, slice_get, ⊤}
use Rattle.event.specs.Tree.{offers, scope_nacks}
use Rattle.script_tree.specs.Processes.{Proc}
use Rattle.thread.specs.After.{Outcome, Offers, State as Thread, after}
use Rattle.protocol_values.specs.declared.Atom.{Atom}
use Rattle.protocol_values.specs.declared.Commit.{Commit}
use Rattle.protocol_values.specs.declared.NackName.{NackName}
use Rattle.protocol_values.specs.declared.Offer.{Offer}
use Rattle.thread.specs.declared.end.End.{End}
use Rattle.journal_replay.specs.declared.state.State.{State}
use Rattle.journal_replay.specs.declared.state.ReplayFault.{ReplayFault}
use Rattle.journal_replay.specs.declared.state.ReplayFault.TheVariants.{Memory, Unlawful}
use Rattle.journal_replay.specs.Reaching.{AreAfter}
use Rattle.journal_replay.specs.Runs.{Config, CountsOf, IsMaximal, Follows, BreaksOffAt, EndsAs, Fires, HasEnded, IsFiredAt, IsGreatest, Starts, config_of}
use Rattle.journal_replay.specs.Standing.{ended_in, fired_in}

-- the commits are a run of the processes in so many rows each, and the state stands where they lead
abbrev pub StandsAfter : List Proc → ℕ → List Commit → State → Type 0
StandsAfter ps rows journal s = AreAfter ps rows journal s.threads

abbrev pub Refuses : List Proc → ℕ → List Commit → ReplayFault → Type 0
Refuses ps rows commits Memory = ⊤
Refuses ps rows commits (Unlawful index) = BreaksOffAt ps rows commits index

-- what a state says of a thread's end, and of what it printed
abbrev pub TellsEnd : State → ℕ → End → Type 0
TellsEnd s t end =
    (ps : List Proc) (rows : ℕ) (journal : List Commit) → StandsAfter ps rows journal s → (printed : List Atom) × EndsAs ps rows t (config_of journal) end printed

abbrev pub TellsOutput : State → ℕ → List Atom → Type 0
TellsOutput s t printed =
    (ps : List Proc) (rows : ℕ) (journal : List Commit) → StandsAfter ps rows journal s → (end : End) × EndsAs ps rows t (config_of journal) end printed

-- the offers of the event that a process came to, and the nacks of its scopes; none where it came to no event
abbrev pub offered : Outcome Thread → List Offer
offered (Offers event printed) = offers event
offered outcome = []

abbrev pub scoped : Outcome Thread → List ℕ
scoped (Offers event printed) = scope_nacks event
scoped outcome = []

-- the thread of this number makes these offers, and no other, with these nacks; none before it has started
pub record OpensAs (ps : List Proc) (t : ℕ) (config : Config) (os : List Offer) (nacks : List ℕ) : Type 0 where
  pub process : Proc
  pub is_its : slice_get ps t ≡ Some process
  pub opens :
      (Starts ps config t × (os ≡ offered (after process.body (length process.variables) t (config t)))
      × (nacks ≡ scoped (after process.body (length process.variables) t (config t))))
      ⊎ ((Starts ps config t → ⊥) × (os ≡ []) × (nacks ≡ []))

-- what a state says of a thread's open sync
abbrev pub TellsOpen : State → ℕ → List Offer → List ℕ → Type 0
TellsOpen s t os nacks =
    (ps : List Proc) (rows : ℕ) (journal : List Commit) → StandsAfter ps rows journal s → OpensAs ps t (config_of journal) os nacks

-- the stamp that a state has for a nack
abbrev pub fired_by : State → NackName → Option ℕ
fired_by s n = fired_in s.threads.strands.items n

-- the greatest stamp of the commits that fired the nack, or none where the nack is not fired
abbrev pub TellsFired : State → NackName → Option ℕ → Type 0
TellsFired s n None =
    (ps : List Proc) (rows : ℕ) (journal : List Commit) → StandsAfter ps rows journal s → ((g : ℕ) × IsFiredAt ps (config_of journal) n g) → ⊥
TellsFired s n (Some stamp) =
    (ps : List Proc) (rows : ℕ) (journal : List Commit) → StandsAfter ps rows journal s
    → ((g : ℕ) × IsFiredAt ps (config_of journal) n g) × IsGreatest journal (Fires ps (config_of journal) n) stamp

-- the stamp that a state has for the end of a thread
abbrev pub ended_by : State → ℕ → Option ℕ
ended_by s t = ended_in s.threads.strands.items t

-- the thread has started, and has ended or faulted
abbrev pub IsEnded : List Proc → Config → ℕ → Type 0
IsEnded ps config t = Starts ps config t × HasEnded ps t (config t)

-- the greatest stamp of the commits that count for the ended thread, or none where it has not ended
abbrev pub TellsEnded : State → ℕ → Option ℕ → Type 0
TellsEnded s t None = (ps : List Proc) (rows : ℕ) (journal : List Commit) → StandsAfter ps rows journal s → IsEnded ps (config_of journal) t → ⊥
TellsEnded s t (Some stamp) =
    (ps : List Proc) (rows : ℕ) (journal : List Commit) → StandsAfter ps rows journal s
    → IsEnded ps (config_of journal) t × IsGreatest journal (CountsOf ps (config_of journal) t) stamp

-- how many threads a state has
abbrev pub thread_count : State → ℕ
thread_count s = length s.threads.strands.items

-- one end for each thread of a state, and one output
pub record EndsOf (s : State) (ends : List End) : Type 0 where
  pub count : length ends ≡ thread_count s
  pub each : (t : ℕ) (end : End) → slice_get ends t ≡ Some end → TellsEnd s t end

pub record OutputsOf (s : State) (outputs : List (List Atom)) : Type 0 where
  pub count : length outputs ≡ thread_count s
  pub each : (t : ℕ) (printed : List Atom) → slice_get outputs t ≡ Some printed → TellsOutput s t printed

-- a commit that may come next, or none where the run is maximal
abbrev pub TellsEnabled : State → Option Commit → Type 0
TellsEnabled s None = (ps : List Proc) (rows : ℕ) (journal : List Commit) → StandsAfter ps rows journal s → IsMaximal ps rows (config_of journal)
TellsEnabled s (Some c) = (ps : List Proc) (rows : ℕ) (journal : List Commit) → StandsAfter ps rows journal s → Follows ps rows journal c

-- the commits that were added lead the run on to its end
abbrev pub Settles : State → State → List Commit → Type 0
Settles old new added =
    (ps : List Proc) (rows : ℕ) (journal : List Commit) → StandsAfter ps rows journal old →
    StandsAfter ps rows (journal ++ added) new × IsMaximal ps rows (config_of (journal ++ added))
