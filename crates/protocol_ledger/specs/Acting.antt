-- What threads do by their results: what they offer, whom they start, and when they end; and that the threads of a ledger, or the
-- steps of a schedule, do so.
use Rattle.std.specs.Prelude.{◌≡◌, ◌⊎◌, ℕ, zero, suc, ⊤, List, [], ◌∷◌, length, Option}
use Rattle.protocol_values.specs.declared.Commit.{Commit}
use Rattle.protocol_values.specs.declared.Course.{Course}
use Rattle.protocol_values.specs.declared.Course.TheVariants.{Unstarted, Running, Ended}
use Rattle.protocol_values.specs.declared.Offer.{Offer}
use Rattle.protocol_values.specs.declared.Row.{Row}
use Rattle.protocol_values.specs.declared.Seat.{Seat}
use Rattle.protocol_values.specs.declared.Step.{Step}
use Rattle.protocol_values.specs.declared.Step.TheVariants.{Start, Finish}
use Rattle.protocol_values.specs.Commits.{stamp_of}
use Rattle.protocol_ledger.specs.Ledgers.{HasCommit, Involves, Ledger, course_in, ledger_of}
use Rattle.protocol_ledger.specs.Openings.{HadEnded, HadStarted, Opening, greatest}
use Rattle.protocol_ledger.specs.Standing.{AreResults, EachOffersAs, OpenedAs, Result, SomeStands, Stands}
use Rattle.protocol_ledger.specs.Tables.{Table}
use Rattle.protocol_ledger.specs.Worlds.{World, after_step}

-- COURSES

-- the course has begun with this stamp
abbrev pub HasStart : Course → ℕ → Type 0
HasStart Unstarted stamp = ⊥
HasStart (Running start) stamp = start ≡ stamp
HasStart (Ended start sync) stamp = start ≡ stamp

-- and has ended at this sync
abbrev pub EndsAt : Course → ℕ → Type 0
EndsAt Unstarted g = ⊥
EndsAt (Running start) g = ⊥
EndsAt (Ended start sync) g = sync ≡ g

-- WHAT THREADS DO
pub record Acts : Type 1 where
  -- after these results the thread offers these, with these nacks of their scopes
  pub offers : ℕ → List Result → List Offer → List ℕ → Type 0
  -- behind the last of these results, and not before, it starts the other thread
  pub starts : ℕ → List Result → ℕ → Type 0
  -- after these results it has ended
  pub ends : ℕ → List Result → Type 0

-- what threads do for which values stand
abbrev pub acts_in : {M : Type 0} → Stands M → List (Option M) → Acts
acts_in {M} stands first = record {
  offers = SomeStands stands first;
  starts = λ t results other. (value : M) × stands.starts first value t results other;
  ends = λ t results. (value : M) × stands.ends first value t results;
}

-- the thread of the row does this behind the results of the rows before
pub record DoesAt (l : Ledger) (r : Row) (act : List Result → Type 0) : Type 0 where
  pub results : List Result
  pub count : length results ≡ r.sync
  pub are : AreResults l r.thread results
  pub does : act results

-- The last stamp of a thread behind so many of its syncs: that of the last one's commit, or of the thread's start.
abbrev pub IsStampBehind : Ledger → ℕ → ℕ → ℕ → ℕ → Type 0
IsStampBehind l t start zero stamp = stamp ≡ start
IsStampBehind l t start (suc g) stamp = (c : Commit) × HasCommit l c × Involves c (record { thread = t; sync = g }) × (stamp_of c ≡ stamp)

-- WHAT WENT BEFORE a ledger's table: which threads had started, with which last stamps, which of them had ended, and the greatest
-- stamp.
pub record Before : Type 1 where
  pub started : ℕ → ℕ → Type 0
  pub ended : ℕ → Type 0
  pub stamps : ℕ

-- as an opening tells it
abbrev pub before_of : Opening → Before
before_of o = record { started = HadStarted o; ended = HadEnded o; stamps = greatest o }

-- A thread has started with this stamp: before the table, or by another that has started, with the last stamp of that one where it
-- does so.
pub data IsStarted (before : ℕ → ℕ → Type 0) (starts : ℕ → List Result → ℕ → Type 0) (l : Ledger) : ℕ → ℕ → Type 0 where
  StartedBefore : {t stamp : ℕ} (first : before t stamp) → IsStarted before starts l t stamp
  StartedBy : {t stamp : ℕ} (s start : ℕ) (running : HasStart (course_in l s) start) (started : IsStarted before starts l s start)
      (results : List Result) (are : AreResults l s results) (does : starts s results t) (behind : IsStampBehind l s start (length results) stamp) → IsStarted before starts l t stamp

abbrev pub EachStarted : (ℕ → ℕ → Type 0) → (ℕ → List Result → ℕ → Type 0) → Ledger → Type 0
EachStarted before starts l = (t start : ℕ) → HasStart (course_in l t) start → IsStarted before starts l t start

-- it has ended where its results say so, or had before all rows of the table
abbrev pub EachEnded : (ℕ → Type 0) → (ℕ → List Result → Type 0) → Ledger → Type 0
EachEnded before ends l = (t g : ℕ) → EndsAt (course_in l t) g → (before t × (g ≡ 0)) ⊎ DoesAt l (record { thread = t; sync = g }) (ends t)

-- THE THREADS OF A LEDGER do so, after what went before
pub record ActsAs (before : Before) (acts : Acts) (l : Ledger) : Type 0 where
  pub stamps : l.opening ≡ before.stamps
  pub offers : EachOffersAs acts.offers l
  pub starts : EachStarted before.started acts.starts l
  pub ends : EachEnded before.ended acts.ends l

-- SCHEDULES

-- of a step that led to this table
abbrev pub StartedAs : (ℕ → List Result → ℕ → Type 0) → Table → Step → Type 0
StartedAs starts t (Start row thread) = DoesAt (ledger_of t) row (λ results. starts row.thread results thread)
StartedAs starts t step = ⊤

abbrev pub EndedAs : (ℕ → List Result → Type 0) → Table → Step → Type 0
EndedAs ends t (Finish row) = DoesAt (ledger_of t) row (ends row.thread)
EndedAs ends t step = ⊤

-- its row is opened, its thread started or ended so
pub record StepsAs (acts : Acts) (t : Table) (step : Step) : Type 0 where
  pub opens : OpenedAs acts.offers t step
  pub starts : StartedAs acts.starts t step
  pub ends : EndedAs acts.ends t step

abbrev pub EachStepsAs : Acts → World → List (Seat × Step) → Type 0
EachStepsAs acts w [] = ⊤
EachStepsAs acts w (s ∷ steps) = StepsAs acts (after_step w s.0 s.1).table s.1 × EachStepsAs acts (after_step w s.0 s.1) steps
