-- What a search leaves: whom it missed in the directory, and whom it passed by.
use Rattle.std.specs.Prelude.{⊤, Option, Some, None, ◌≡◌, ◌≢◌, ◌⊎◌, ℕ, ◌<◌, ◌≤◌, ◌+◌, ◌*◌, ◌^◌, true, false, List, MatchOption, get_or}
use Rattle.protocol_values.specs.declared.Direction.{Direction}
use Rattle.protocol_values.specs.declared.Direction.TheVariants.{Always, Never, OnEnd, OnNack, Recv, Send}
use Rattle.protocol_values.specs.declared.Row.{Row}
use Rattle.protocol_values.specs.Values.{directions_meet}
use Rattle.cell.specs.Attempts.{CanMeet}
use Rattle.cell.specs.Calls.{GridOf, IsRowOf}
use Rattle.cell_table.specs.declared.view.Seen.{Seen}
use Rattle.cell_table.specs.Sight.{Has, HaveDirection, LackOffer, SawCommitted}
use Rattle.meet_directory.specs.declared.view.View.{View}
use Rattle.meet_directory.specs.declared.view.Glimpse.{Glimpse}
use Rattle.meet_directory.specs.Directory.{Missed, Published, Has as HasMark}
use Rattle.meet_scan.specs.declared.found.Found.{Found}
use Rattle.meet_scan.specs.declared.found.Found.TheVariants.{Met, Alone, Already, Waits}
use Rattle.meet_scan.specs.Searches.{IsAlone, IsMetWith, Lists}

-- SIDES

-- the side of an offer in this direction, and the one in which those stand that it may meet: two sides for each channel
abbrev pub sides_of : Direction → Option (ℕ × ℕ)
sides_of (Send chan atoms) = Some (2 * chan, 2 * chan + 1)
sides_of (Recv chan) = Some (2 * chan + 1, 2 * chan)
sides_of (Always atoms) = None
sides_of (OnNack n) = None
sides_of (OnEnd p) = None
sides_of Never = None

-- the list tells the row's offers, by their heads that were read
abbrev pub AreRead : Seen → Row → List (Option Direction) → Type 0
AreRead s r directions = (n : ℕ) → n < 8 → MatchOption (get_or directions n None) (LackOffer s.words r n) (HaveDirection s.words r n)

-- the row stands on the side of each listed offer that has one
abbrev pub ArePublished : List (ℕ × ℕ) → Row → List (Option Direction) → Type 0
ArePublished marks r directions = (n : ℕ) (d : Direction) (l m : ℕ) → Lists directions n d → sides_of d ≡ Some (l, m) → Published marks r.thread r.sync l

-- the pass at the directory has written and read no less
abbrev pub KnowsMore : View → View → Type 0
KnowsMore v w = ((m : ℕ × ℕ) → HasMark v.marks m → HasMark w.marks m) × ((a : Glimpse) → HasMark v.looks a → HasMark w.looks a)

-- WHO IS PASSED BY

-- offer k of the row was read, and meets an offer in this direction
abbrev pub MeetsAt : Seen → Row → Direction → ℕ → Type 0
MeetsAt s r d k = (e : Direction) × HaveDirection s.words r k e × (directions_meet d e ≡ true)

-- it was read, and does not; or the row has no such offer
abbrev pub MeetsNoneAt : Seen → Row → Direction → ℕ → Type 0
MeetsNoneAt s r d k = LackOffer s.words r k ⊎ ((e : Direction) × HaveDirection s.words r k e × (directions_meet d e ≡ false))

abbrev pub MeetsNone : Seen → Row → Direction → Type 0
MeetsNone s r d = (k : ℕ) → k < 8 → MeetsNoneAt s r d k

-- a later row of its thread was seen opened: the row was taken
abbrev pub IsPast : Seen → Row → Type 0
IsPast s r = (q : Row) × (q.thread ≡ r.thread) × (r.sync < q.sync) × Has s.opened q

-- the row was seen committed, none of its offers meets the direction, or it was taken
abbrev pub PassedBy : Seen → Row → Direction → Type 0
PassedBy s r d = SawCommitted s r ⊎ (MeetsNone s r d ⊎ IsPast s r)

-- each row of thread u was missed in the directory, or passed by
abbrev pub IsDoneWith : View → Seen → Row → Direction → ℕ → ℕ → ℕ → Type 0
IsDoneWith v s r d own other u = (q : Row) → q.thread ≡ u → Missed v r.thread r.sync own q.thread q.sync other ⊎ PassedBy s q d

-- WHO IS LEFT

-- A row is left for its offer in this direction, which stands on side own, by one who looked at side other: each row of another
-- thread was missed in the directory, or passed by.
abbrev pub IsLeft : View → Seen → Row → Direction → ℕ → ℕ → Type 0
IsLeft v s r d own other = (q : Row) → q.thread < 64 → q.thread ≢ r.thread → Missed v r.thread r.sync own q.thread q.sync other ⊎ PassedBy s q d

-- where an offer in this direction has a side
abbrev pub IsLeftFor : View → Seen → Row → Direction → Type 0
IsLeftFor v s r d = (l m : ℕ) → sides_of d ≡ Some (l, m) → IsLeft v s r d l m

-- for its offer n, if the row has one
abbrev pub IsLeftAt : View → Seen → Row → ℕ → Type 0
IsLeftAt v s r n = LackOffer s.words r n ⊎ ((d : Direction) × HaveDirection s.words r n d × IsLeftFor v s r d)

-- A ROW IS LEFT for all its offers.
abbrev pub IsLeftRow : View → Seen → Row → Type 0
IsLeftRow v s r = (n : ℕ) → n < 8 → IsLeftAt v s r n

-- what was found where the row is committed, and else what holds of it
abbrev pub ComesTo : Seen → Row → Type 0 → Found → Type 0
ComesTo t r P (Met other) = IsMetWith t r other
ComesTo t r P Alone = IsAlone t r
ComesTo t r P Already = SawCommitted t r
ComesTo t r P Waits = P

-- What a scan of all offers came to, by what the pass had seen before it and has seen after it.
abbrev pub ScansTo : View → Seen → Seen → Row → Found → Type 0
ScansTo v s t r (Met other) = IsMetWith t r other
ScansTo v s t r Alone = IsAlone t r
ScansTo v s t r Already = SawCommitted t r
ScansTo v s t r Waits = IsLeftRow v t r × (¬ SawCommitted s r)

-- WHO IS IN THE WAY

-- Behind the publishing of the row, which offers on side own, the directory named the other as its thread's newest.
abbrev pub IsNamed : View → Row → ℕ → Row → Type 0
IsNamed v r own q = (a : Glimpse) × HasMark v.looks a × Published a.marks r.thread r.sync own × (a.word ≡ q.thread) × (a.found ≡ q.sync + 1)

-- It is no row of the table, it had not been seen opened, or the two can meet.
abbrev pub CannotPass : {M : Type 0} → GridOf M → Seen → Seen → Row → Row → Type 0
CannotPass g s t r q = (2 ^ 32 ≤ q.sync) ⊎ ((¬ IsRowOf g q) ⊎ ((¬ Has s.opened q) ⊎ ((n : ℕ) × (k : ℕ) × CanMeet t r n q k)))

-- A search is held up, by what the pass had seen before it and has seen after it: the directory named a row of another thread, which
-- can meet it and was claimed, or is not there yet.
pub record IsHeldUp {M : Type 0} (g : GridOf M) (v : View) (s t : Seen) (r : Row) : Type 0 where
  pub other : Row
  pub own : ℕ
  pub apart : r.thread ≢ other.thread
  pub named : IsNamed v r own other
  pub stops : CannotPass g s t r other

-- a row of this thread does
abbrev pub IsHeldUpBy : {M : Type 0} → GridOf M → View → Seen → Seen → Row → ℕ → Type 0
IsHeldUpBy g v s t r u = (held : IsHeldUp g v s t r) × (held.other.thread ≡ u)

-- WHO IS TRIED FIRST

-- for an offer in this direction, if it has a side: each row of thread u was missed or passed by, or one was in the way
abbrev pub IsTriedFor : {M : Type 0} → GridOf M → View → Seen → Seen → Row → Direction → ℕ → Type 0
IsTriedFor g v s t r d u = (l m : ℕ) → sides_of d ≡ Some (l, m) → IsDoneWith v t r d l m u ⊎ IsHeldUpBy g v s t r u

-- for offer n of the row, if it has one
abbrev pub IsTriedAt : {M : Type 0} → GridOf M → View → Seen → Seen → Row → ℕ → ℕ → Type 0
IsTriedAt g v s t r u n = LackOffer t.words r n ⊎ ((d : Direction) × HaveDirection t.words r n d × IsTriedFor g v s t r d u)

-- Thread u, if it is another, was tried for all offers of the row, by what the pass had seen before and has seen after.
abbrev pub IsTried : {M : Type 0} → GridOf M → View → Seen → Seen → Row → ℕ → Type 0
IsTried g v s t r u = u < 64 → r.thread ≢ u → (n : ℕ) → n < 8 → IsTriedAt g v s t r u n

-- who was met is of this thread, and no row was committed alone
abbrev pub MeetsOnly : ℕ → Found → Type 0
MeetsOnly u (Met other) = other.thread ≡ u
MeetsOnly u Alone = ⊥
MeetsOnly u Already = ⊤
MeetsOnly u Waits = ⊤

-- A search that begins with thread u meets a row of another one, or commits its row alone, only where u was tried.
abbrev pub TriesFirst : {M : Type 0} → GridOf M → View → Seen → Seen → Row → ℕ → Found → Type 0
TriesFirst g v s t r u (Met other) = other.thread ≢ u → IsTried g v s t r u
TriesFirst g v s t r u Alone = IsTried g v s t r u
TriesFirst g v s t r u Already = ⊤
TriesFirst g v s t r u Waits = ⊤

-- NOBODY IS LEFT: of two rows of two threads whose offers i and j meet, each of which was left for that offer, one was seen committed
-- or taken.
abbrev pub NobodyLeft : View → Seen → Type 0
NobodyLeft v s = (q r : Row) (d e : Direction) (i j l m : ℕ) → q.thread < 64 → r.thread < 64 → q.thread ≢ r.thread → i < 8 → j < 8
    → HaveDirection s.words q i d → HaveDirection s.words r j e → directions_meet d e ≡ true → directions_meet e d ≡ true
    → IsLeft v s q d l m → IsLeft v s r e m l
    → (SawCommitted s q ⊎ IsPast s q) ⊎ (SawCommitted s r ⊎ IsPast s r)

-- NO PAIR IS LEFT: of two left rows of two threads of which an offer of the one meets one of the other, one was seen committed or taken.
abbrev pub NoPairLeft : View → Seen → Type 0
NoPairLeft v s = (q r : Row) (d e : Direction) (i j : ℕ) → q.thread < 64 → r.thread < 64 → q.thread ≢ r.thread → i < 8 → j < 8
    → HaveDirection s.words q i d → HaveDirection s.words r j e → directions_meet d e ≡ true
    → IsLeftRow v s q → IsLeftRow v s r
    → (SawCommitted s q ⊎ IsPast s q) ⊎ (SawCommitted s r ⊎ IsPast s r)
