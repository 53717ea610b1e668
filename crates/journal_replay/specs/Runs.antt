-- Sequential CML: which lists of commits are runs of a script's processes.
use Rattle.std.specs.Prelude.{◌≡◌, ◌≢◌, ◌⊎◌, ◌==◌, ℕ, ◌+◌, ◌<◌, ◌≤◌, if◌then◌else◌, List, [], ◌∷◌, ◌++◌, length, take, Option, Some, None, nat_lt, slice_get, Contains}
use Rattle.event.specs.Tree.{Tree, BaseEvent, bases, scope_nacks}
use Rattle.script_tree.specs.Processes.{Proc}
use Rattle.thread.specs.After.{Chosen, Said, State, Outcome, Goes, Offers, Finishes, Fails, Strays, after}
use Rattle.protocol_values.specs.declared.Atom.{Atom}
use Rattle.protocol_values.specs.declared.Base.{Base}
use Rattle.protocol_values.specs.declared.Base.TheVariants.{Send, Recv, Always, OnNack, OnEnd}
use Rattle.protocol_values.specs.declared.Cause.{Cause}
use Rattle.protocol_values.specs.declared.Cause.TheVariants as cause
use Rattle.protocol_values.specs.declared.Commit.{Commit}
use Rattle.protocol_values.specs.declared.Commit.TheVariants.{Pair, Alone}
use Rattle.protocol_values.specs.declared.Message.TheVariants.{Empty}
use Rattle.protocol_values.specs.declared.NackName.{NackName}
use Rattle.protocol_values.specs.declared.Row.{Row}
use Rattle.protocol_values.specs.Commits.{stamp_of}
pub use Rattle.protocol_values.specs.Commits.{message_by}
pub use Rattle.journal_replay.specs.Starting.{Config, no_results, HasThread, IsRow, HasRow, HasEnded, Starts, CountsOf}
use Rattle.thread.specs.declared.end.End.{End}
use Rattle.thread.specs.declared.end.End.TheVariants as ends

-- after these results the thread of this number offers this event
pub record IsOffering (ps : List Proc) (t : ℕ) (results : List Chosen) (event : Tree) : Type 0 where
  pub process : Proc
  pub is_its : slice_get ps t ≡ Some process
  pub said : Said
  pub offers : after process.body (length process.variables) t results ≡ Offers event said

-- Of a thread with these results, sync g has a scope for nack k and chose outside it: the nack is fired.
pub record FiredAt (ps : List Proc) (t : ℕ) (results : List Chosen) (k g : ℕ) : Type 0 where
  pub chosen : Chosen
  pub result : slice_get results g ≡ Some chosen
  pub event : Tree
  pub offered : IsOffering ps t (take g results) event
  pub scope : ℕ
  pub nack : slice_get (scope_nacks event) scope ≡ Some k
  pub base : BaseEvent
  pub took : slice_get (bases event) chosen.0 ≡ Some base
  pub outside : Contains base.scopes scope → ⊥

abbrev pub IsFiredAt : List Proc → Config → NackName → ℕ → Type 0
IsFiredAt ps config n g = FiredAt ps n.thread (config n.thread) n.k g

-- the row is the next sync of a thread with these results, of fewer than so many, and offers this under its number
pub record CanTake (ps : List Proc) (rows : ℕ) (results : List Chosen) (at : Row × ℕ) (b : Base) : Type 0 where
  pub few : length results < rows
  pub next : at.0.sync ≡ length results
  pub event : Tree
  pub offered : IsOffering ps at.0.thread results event
  pub base : BaseEvent
  pub is : slice_get (bases event) at.1 ≡ Some base
  pub same : base.base ≡ b

-- WHICH COMMIT MAY COME NEXT

-- the row's thread has started, and can take this
pub record MayTake (ps : List Proc) (rows : ℕ) (config : Config) (at : Row × ℕ) (b : Base) : Type 0 where
  pub started : Starts ps config at.0.thread
  pub can : CanTake ps rows (config at.0.thread) at b

abbrev pub IsCaused : List Proc → ℕ → Config → Row × ℕ → Cause → Type 0
IsCaused ps rows config at (cause.Always m) = MayTake ps rows config at (Always m)
IsCaused ps rows config at (cause.Nack n) = MayTake ps rows config at (OnNack n) × ((g : ℕ) × IsFiredAt ps config n g)
IsCaused ps rows config at (cause.End t) = MayTake ps rows config at (OnEnd t) × Starts ps config t × HasEnded ps t (config t)

abbrev pub IsLegal : List Proc → ℕ → Config → Commit → Type 0
IsLegal ps rows config (Pair sender receiver chan msg stamp) =
    (sender.0.thread ≢ receiver.0.thread) × MayTake ps rows config sender (Send chan msg) × MayTake ps rows config receiver (Recv chan)
IsLegal ps rows config (Alone at why stamp) = IsCaused ps rows config at why

-- WHAT A COMMIT DOES: each of its threads has one more result

abbrev pub with_result : ℕ → Chosen → Config → Config
with_result t result config u = if u == t then config u ++ result ∷ [] else config u

abbrev pub applied : Config → Commit → Config
applied config (Pair sender receiver chan msg stamp) =
    with_result receiver.0.thread (receiver.1, msg) (with_result sender.0.thread (sender.1, Empty) config)
applied config (Alone at why stamp) = with_result at.0.thread (at.1, message_by why) config

-- where a list of commits leads
abbrev pub config_from : Config → List Commit → Config
config_from config [] = config
config_from config (c ∷ cs) = config_from (applied config c) cs

abbrev pub config_of : List Commit → Config
config_of journal = config_from no_results journal

-- STAMPS

-- commit d fired the nack: with it a sync was committed that fired it
abbrev pub Fires : List Proc → Config → NackName → Commit → Type 0
Fires ps config n d = (g : ℕ) × IsFiredAt ps config n g × HasRow d n.thread g

abbrev pub CausedBy : List Proc → Config → Cause → Commit → Type 0
CausedBy ps config (cause.Always m) d = ⊥
CausedBy ps config (cause.Nack n) d = Fires ps config n d
CausedBy ps config (cause.End t) d = CountsOf ps config t d

-- An earlier commit counts for one where they share a thread, where it counts for the start of one of its threads, where it
-- fired the nack that the one stands for, and where it counts for the thread whose end it stands for.
abbrev pub CountsFor : List Proc → Config → Commit → Commit → Type 0
CountsFor ps config (Pair sender receiver chan msg stamp) d = CountsOf ps config sender.0.thread d ⊎ CountsOf ps config receiver.0.thread d
CountsFor ps config (Alone at why stamp) d = CountsOf ps config at.0.thread d ⊎ CausedBy ps config why d

-- the greatest stamp of the earlier commits of a kind, 0 where there is none
pub record IsGreatest (earlier : List Commit) (Kind : Commit → Type 0) (stamp : ℕ) : Type 0 where
  pub above : (d : Commit) → Contains earlier d → Kind d → stamp_of d ≤ stamp
  pub there : (stamp ≡ 0) ⊎ ((d : Commit) × Contains earlier d × Kind d × (stamp_of d ≡ stamp))

-- RUNS

-- The commit may come next, and its stamp is one more than the greatest of the commits that count for it.
pub record Follows (ps : List Proc) (rows : ℕ) (earlier : List Commit) (c : Commit) : Type 0 where
  pub legal : IsLegal ps rows (config_of earlier) c
  pub greatest : ℕ
  pub is : IsGreatest earlier (CountsFor ps (config_of earlier) c) greatest
  pub stamp : stamp_of c ≡ greatest + 1

-- each commit follows those before it
abbrev pub IsRun : List Proc → ℕ → List Commit → Type 0
IsRun ps rows journal = (i : ℕ) (c : Commit) → slice_get journal i ≡ Some c → Follows ps rows (take i journal) c

-- no commit may come next
abbrev pub IsMaximal : List Proc → ℕ → Config → Type 0
IsMaximal ps rows config = (c : Commit) → IsLegal ps rows config c → ⊥

-- the first so many commits are a run, and with the next they are none
pub record BreaksOffAt (ps : List Proc) (rows : ℕ) (commits : List Commit) (index : ℕ) : Type 0 where
  pub within : index < length commits
  pub run : IsRun ps rows (take index commits)
  pub broken : IsRun ps rows (take (index + 1) commits) → ⊥

-- ENDS

-- how a thread stands, and what it printed, where it made so many syncs of at most so many
abbrev pub end_of : ℕ → ℕ → Outcome State → Option (End × List Atom)
end_of rows count (Goes value) = None
end_of rows count (Offers event said) = Some (if nat_lt count rows then ends.Waiting else ends.Spent, said.printed)
end_of rows count (Finishes said []) = Some (ends.Ended, said.printed)
end_of rows count (Finishes printed (r ∷ left)) = None
end_of rows count (Fails fault said []) = Some (ends.Faulted fault, said.printed)
end_of rows count (Fails fault printed (r ∷ left)) = None
end_of rows count Strays = None

-- a thread that has not started printed nothing
pub record EndsAs (ps : List Proc) (rows t : ℕ) (config : Config) (end : End) (printed : List Atom) : Type 0 where
  pub process : Proc
  pub is_its : slice_get ps t ≡ Some process
  pub ends :
      (Starts ps config t × (end_of rows (length (config t)) (after process.body (length process.variables) t (config t)) ≡ Some (end, printed)))
      ⊎ ((Starts ps config t → ⊥) × (end ≡ ends.Unstarted) × (printed ≡ []))

-- how each process ended and what it printed, where its results are these
pub record TellsEnds (ps : List Proc) (rows : ℕ) (config : Config) (ends : List End) (outputs : List (List Atom)) : Type 0 where
  pub ends_count : length ends ≡ length ps
  pub outputs_count : length outputs ≡ length ps
  pub each : (t : ℕ) (end : End) (printed : List Atom) → slice_get ends t ≡ Some end → slice_get outputs t ≡ Some printed → EndsAs ps rows t config end printed
