-- Why a commit may not come next.
use Rattle.std.specs.Prelude.{◌≡◌, ◌≢◌, ◌⊎◌, ℕ, ◌+◌, ◌≤◌, List, length, take, Some, slice_get}
use Rattle.event.specs.Tree.{Tree, BaseEvent, bases}
use Rattle.script_tree.specs.Processes.{Proc}
use Rattle.thread.specs.declared.Fault.{Fault}
use Rattle.protocol_values.specs.declared.Atom.{Atom}
use Rattle.protocol_values.specs.declared.Base.{Base}
use Rattle.protocol_values.specs.declared.Base.TheVariants.{Send, Recv, Always, OnNack, OnEnd}
use Rattle.protocol_values.specs.declared.Cause.{Cause}
use Rattle.protocol_values.specs.declared.Cause.TheVariants as cause
use Rattle.protocol_values.specs.declared.Commit.{Commit}
use Rattle.protocol_values.specs.declared.Commit.TheVariants.{Pair, Alone}
use Rattle.protocol_values.specs.declared.Row.{Row}
use Rattle.protocol_values.specs.Commits.{stamp_of}
use Rattle.journal_replay.specs.Runs.{Config, CountsFor, EndsAs, Follows, IsFiredAt, IsGreatest, IsLegal, IsOffering, config_of}
use Rattle.journal_replay.specs.Starting.{HasRow, HasThread}
use Rattle.journal_replay.specs.Replays.{IsEnded}
use Rattle.thread.specs.declared.end.End.{End}
use Rattle.thread.specs.declared.end.End.TheVariants as end
use Rattle.pcml_answers.specs.declared.reason.Reason.{Reason}
use Rattle.pcml_answers.specs.declared.reason.Reason.TheVariants.{OneThread, Unstarted, Ended, Faulted, Spent, Sync, NoOffer, OtherOffer, NotFired, NotEnded, Stamp}

-- WHAT A COMMIT IS

-- both rows are of the thread
abbrev pub IsWithin : Commit → ℕ → Type 0
IsWithin (Pair sender receiver chan msg stamp) t = (sender.0.thread ≡ t) × (receiver.0.thread ≡ t)
IsWithin (Alone at why stamp) t = ⊥

-- it takes this, under a number of a row
abbrev pub Needs : Commit → Row × ℕ → Base → Type 0
Needs (Pair sender receiver chan msg stamp) at b = ((at ≡ sender) × (b ≡ Send chan msg)) ⊎ ((at ≡ receiver) × (b ≡ Recv chan))
Needs (Alone row (cause.Always m) stamp) at b = (at ≡ row) × (b ≡ Always m)
Needs (Alone row (cause.Nack n) stamp) at b = (at ≡ row) × (b ≡ OnNack n)
Needs (Alone row (cause.End t) stamp) at b = (at ≡ row) × (b ≡ OnEnd t)

-- it stands alone, for this cause
abbrev pub StandsFor : Commit → Cause → Type 0
StandsFor (Pair sender receiver chan msg stamp) why = ⊥
StandsFor (Alone at cause stamp) why = cause ≡ why

-- WHERE ITS THREADS STAND

abbrev pub StandsAs : List Proc → ℕ → Config → ℕ → End → Type 0
StandsAs ps rows config t end = (printed : List Atom) × EndsAs ps rows t config end printed

-- the row is the next sync of its thread, and offers this event
pub record IsOpen (ps : List Proc) (config : Config) (row : Row) (event : Tree) : Type 0 where
  pub next : row.sync ≡ length (config row.thread)
  pub offered : IsOffering ps row.thread (config row.thread) event

-- the event has this under the number
abbrev pub HasOffer : Tree → ℕ → Base → Type 0
HasOffer event number b = (base : BaseEvent) × (slice_get (bases event) number ≡ Some base) × (base.base ≡ b)

-- the commit may come next with this stamp
pub record IsDue (ps : List Proc) (rows : ℕ) (earlier : List Commit) (c : Commit) (stamp : ℕ) : Type 0 where
  pub legal : IsLegal ps rows (config_of earlier) c
  pub greatest : ℕ
  pub is : IsGreatest earlier (CountsFor ps (config_of earlier) c) greatest
  pub due : stamp ≡ greatest + 1

-- THE REASON: one part of `Follows` that does not hold of the commit behind the earlier ones

abbrev pub IsReason : List Proc → ℕ → List Commit → Commit → Reason → Type 0
IsReason ps rows earlier c (OneThread t) = IsWithin c t
IsReason ps rows earlier c (Unstarted t) = HasThread c t × StandsAs ps rows (config_of earlier) t end.Unstarted
IsReason ps rows earlier c (Ended t) = HasThread c t × StandsAs ps rows (config_of earlier) t end.Ended
IsReason ps rows earlier c (Faulted t) = HasThread c t × ((fault : Fault) × StandsAs ps rows (config_of earlier) t (end.Faulted fault))
IsReason ps rows earlier c (Spent t) = HasThread c t × StandsAs ps rows (config_of earlier) t end.Spent
IsReason ps rows earlier c (Sync row next) = HasRow c row.thread row.sync × (next ≡ length (config_of earlier row.thread)) × (row.sync ≢ next)
IsReason ps rows earlier c (NoOffer at count) =
    ((b : Base) × Needs c at b) × ((event : Tree) × IsOpen ps (config_of earlier) at.0 event × (count ≡ length (bases event))) × (count ≤ at.1)
IsReason ps rows earlier c (OtherOffer at offered needed) =
    Needs c at needed × ((event : Tree) × IsOpen ps (config_of earlier) at.0 event × HasOffer event at.1 offered) × (offered ≢ needed)
IsReason ps rows earlier c (NotFired n) = StandsFor c (cause.Nack n) × (((g : ℕ) × IsFiredAt ps (config_of earlier) n g) → ⊥)
IsReason ps rows earlier c (NotEnded t) = StandsFor c (cause.End t) × (IsEnded ps (config_of earlier) t → ⊥)
IsReason ps rows earlier c (Stamp stamp) = IsDue ps rows earlier c stamp × (stamp_of c ≢ stamp)

-- why the commit with this number may not come behind those before it
pub record IsReasonAt (ps : List Proc) (rows : ℕ) (commits : List Commit) (index : ℕ) (reason : Reason) : Type 0 where
  pub commit : Commit
  pub is_its : slice_get commits index ≡ Some commit
  pub holds : IsReason ps rows (take index commits) commit reason

-- THE LAW

-- where a reason holds, the commit may not come next
abbrev pub ReasonRefuses : Type 0
ReasonRefuses =
    (ps : List Proc) (rows : ℕ) (earlier : List Commit) (c : Commit) (reason : Reason) → IsReason ps rows earlier c reason → Follows ps rows earlier c → ⊥
