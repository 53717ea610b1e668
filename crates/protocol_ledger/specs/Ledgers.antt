-- Ledgers: the commits that a table's words name, and when they are lawful.
use Rattle.std.specs.Prelude.{zero, suc, ◌⊎◌, ◌≡◌, ⊤, ℕ, ◌+◌, ◌*◌, ◌<◌, ◌≤◌, ◌≢◌, Bool, true, false, ◌||◌, ◌&&◌, nat_lt, if◌then◌else◌, Option, Some, None, is_some, is_none, option_and_then, option_to_list, List, [], ◌++◌, map, length, count_by, slice_get, slice_index_or}
use Rattle.std.specs.List.{range_with_len, flat_map}
use Rattle.protocol_values.specs.declared.NackName.{NackName}
use Rattle.protocol_values.specs.declared.Base.{Base}
use Rattle.protocol_values.specs.declared.Base.TheVariants.{Send, Recv, Always, OnNack, OnEnd, Never}
use Rattle.protocol_values.specs.declared.Offer.{Offer}
use Rattle.protocol_values.specs.declared.Row.{Row}
use Rattle.protocol_values.specs.declared.Joined.{Joined}
use Rattle.protocol_values.specs.declared.Binding.{Binding}
use Rattle.protocol_values.specs.declared.NackWord.{NackWord}
use Rattle.protocol_values.specs.declared.NackWord.TheVariants as word
use Rattle.protocol_values.specs.declared.Course.{Course}
use Rattle.protocol_values.specs.declared.Course.TheVariants.{Unstarted, Running, Ended}
use Rattle.protocol_values.specs.declared.Cause.{Cause}
use Rattle.protocol_values.specs.declared.Cause.TheVariants as cause
use Rattle.protocol_values.specs.declared.Commit.{Commit}
use Rattle.protocol_values.specs.declared.Commit.TheVariants.{Pair, Alone}
use Rattle.protocol_values.specs.Commits.{stamp_of}
use Rattle.protocol_values.specs.Scopes.{has_scope}
use Rattle.protocol_ledger.specs.Tables.{Table, Marks, all_rows, number_of, joined_at, count_at, course_at, offer_at, nack_says, bound_by, carried_by, namer_of, start_of}

-- What a ledger has of a row: its offers, once it is opened, and how it is committed.
pub record Entry : Type 0 where
  pub offers : List (Option Offer)
  pub joined : Option Joined

-- A ledger: the entry of each row, one row after another, what each nack's word says, thread by thread, where each thread is
-- on its course, and the greatest stamp of what went before.
pub record Ledger : Type 0 where
  pub threads : ℕ
  pub rows : ℕ
  pub entries : List Entry
  pub nacks : List NackWord
  pub lives : List Course
  pub opening : ℕ

-- the ledger of a table's words
abbrev pub entry_at : Table → Row → Entry
entry_at t r = record { offers = map (offer_at t r) (range_with_len 0 (count_at t r)); joined = joined_at t r }

abbrev pub nacks_below : ℕ → ℕ → List NackName
nacks_below thread k = map (λ k. record { thread = thread; k = k }) (range_with_len 0 k)

abbrev pub all_nacks : ℕ → List NackName
all_nacks zero = []
all_nacks (suc thread) = all_nacks thread ++ nacks_below thread 64

unfoldable pub ledger_of : Table → Ledger
ledger_of t = record {
  threads = t.threads;
  rows = t.rows;
  entries = map (entry_at t) (all_rows t.threads t.rows);
  nacks = map (nack_says t) (all_nacks t.threads);
  lives = map (course_at t) (range_with_len 0 t.threads);
  opening = t.opening;
}

-- READING A LEDGER

abbrev pub has_row : Ledger → Row → Bool
has_row l r = nat_lt r.thread l.threads && nat_lt r.sync l.rows

abbrev pub no_entry : Entry
no_entry = record { offers = []; joined = None }

abbrev pub entry_in : Ledger → Row → Entry
entry_in l r = if has_row l r then slice_index_or l.entries (number_of l.rows r) no_entry else no_entry

-- how a row is committed, offer n of an opened row, and what a nack is bound to
unfoldable pub joined_in : Ledger → Row → Option Joined
joined_in l r = (entry_in l r).joined

unfoldable pub offer_in : Ledger → Row → ℕ → Option Offer
offer_in l r n = slice_index_or (entry_in l r).offers n None

unfoldable pub nack_in : Ledger → NackName → NackWord
nack_in l n =
    if nat_lt n.thread l.threads && nat_lt n.k 64 then slice_index_or l.nacks (n.thread * 64 + n.k) word.Unbound else word.Unbound

unfoldable pub binding_in : Ledger → NackName → Option Binding
binding_in l n = bound_by (nack_in l n)

-- the stamp of a nack that an earlier table settled
unfoldable pub carried_in : Ledger → NackName → Option ℕ
carried_in l n = carried_by (nack_in l n)

-- where a thread is on its course
unfoldable pub course_in : Ledger → ℕ → Course
course_in l p = slice_index_or l.lives p Unstarted

abbrev pub marks_in : Ledger → Marks
marks_in l = record { bound = binding_in l; carried = carried_in l; course = course_in l; opening = l.opening }

abbrev pub rows_in : Ledger → List Row
rows_in l = all_rows l.threads l.rows

-- THE COMMITS, of rows that are committed as `joined` says and offer what `offer` says

-- a commit that stands alone: its offer is an always, a nack or an end
abbrev pub alone_by : Row → Joined → Base → Option Commit
alone_by r j (Always m) = Some (Alone (r, j.own) (cause.Always m) j.stamp)
alone_by r j (OnNack n) = Some (Alone (r, j.own) (cause.Nack n) j.stamp)
alone_by r j (OnEnd p) = Some (Alone (r, j.own) (cause.End p) j.stamp)
alone_by r j (Send c m) = None
alone_by r j (Recv c) = None
alone_by r j Never = None

-- a pair, seen from the row that receives: the message is the one that the partner's offer sends
abbrev pub received_by : Row → Joined → Row × ℕ → Base → Option Commit
received_by r j p (Send c m) = Some (Pair p (r, j.own) c m j.stamp)
received_by r j p (Recv c) = None
received_by r j p (Always m) = None
received_by r j p (OnNack n) = None
received_by r j p (OnEnd x) = None
received_by r j p Never = None

-- a pair, seen from either row
abbrev pub pair_by : Row → Joined → Row × ℕ → Base → Option Offer → Option Commit
pair_by r j p (Send c m) other = Some (Pair (r, j.own) p c m j.stamp)
pair_by r j p (Recv c) None = None
pair_by r j p (Recv c) (Some other) = received_by r j p other.base
pair_by r j p (Always m) other = None
pair_by r j p (OnNack n) other = None
pair_by r j p (OnEnd x) other = None
pair_by r j p Never other = None

-- the commit of row r, joined as j, by what it offered
abbrev pub commit_by : (Row → ℕ → Option Offer) → Row → Joined → Option (Row × ℕ) → Option Offer → Option Commit
commit_by offer r j partner None = None
commit_by offer r j None (Some own) = alone_by r j own.base
commit_by offer r j (Some p) (Some own) = pair_by r j p own.base (offer p.0 p.1)

unfoldable pub commit_named : (Row → ℕ → Option Offer) → Row → Joined → Option Commit
commit_named offer r j = commit_by offer r j j.partner (offer r j.own)

-- a commit of the ledger: a committed row names it
pub record IsIn (joined : Row → Option Joined) (offer : Row → ℕ → Option Offer) (c : Commit) : Type 0 where
  pub row : Row
  pub way : Joined
  pub is_joined : joined row ≡ Some way
  pub is_named : commit_named offer row way ≡ Some c

abbrev pub sends : Base → Bool
sends (Send c m) = true
sends (Recv c) = false
sends (Always m) = false
sends (OnNack n) = false
sends (OnEnd p) = false
sends Never = false

-- each commit once: a pair is told by its sender, or by its receiver while the sender is not joined yet
abbrev pub is_send : Option Offer → Bool
is_send None = false
is_send (Some o) = sends o.base

abbrev pub tells : (Row → Option Joined) → Option Offer → Option (Row × ℕ) → Bool
tells joined own None = true
tells joined own (Some p) = is_send own || is_none (joined p.0)

abbrev pub told_by : (Row → Option Joined) → (Row → ℕ → Option Offer) → Row → Option Joined → Option Commit
told_by joined offer r None = None
told_by joined offer r (Some j) =
    if tells joined (offer r j.own) j.partner then commit_named offer r j else None

unfoldable pub told_at : (Row → Option Joined) → (Row → ℕ → Option Offer) → Row → Option Commit
told_at joined offer r = told_by joined offer r (joined r)

abbrev pub commits_of : List Row → (Row → Option Joined) → (Row → ℕ → Option Offer) → List Commit
commits_of rows joined offer = flat_map (λ r. option_to_list (told_at joined offer r)) rows

-- pairs of which one row is joined and the other is not sealed yet
abbrev pub awaits : (Row → Option Joined) → Option (Row × ℕ) → Bool
awaits joined None = false
awaits joined (Some p) = is_none (joined p.0)

abbrev pub is_pending : (Row → Option Joined) → Option Joined → Bool
is_pending joined None = false
is_pending joined (Some j) = awaits joined j.partner

unfoldable pub pending_of : List Row → (Row → Option Joined) → ℕ
pending_of rows joined = count_by (λ r. is_pending joined (joined r)) rows

-- the commit that a row names, and the commit that a row is in: the one it names, or else that of the row that names it
abbrev pub named_at : (Row → Option Joined) → (Row → ℕ → Option Offer) → Row → Option Commit
named_at joined offer r = option_and_then (commit_named offer r) (joined r)

abbrev pub commit_at : List Row → (Row → Option Joined) → (Row → ℕ → Option Offer) → Row → Option Commit
commit_at rows joined offer r =
    if is_some (joined r)
    then named_at joined offer r
    else option_and_then (named_at joined offer) (namer_of rows joined r)

-- WHEN A LEDGER IS LAWFUL

-- the commit takes offer n of row r
abbrev pub Takes : Commit → Row → ℕ → Type 0
Takes (Pair sender receiver c m s) r n = (sender ≡ (r, n)) ⊎ (receiver ≡ (r, n))
Takes (Alone at k s) r n = at ≡ (r, n)

abbrev pub Involves : Commit → Row → Type 0
Involves c r = (n : ℕ) × Takes c r n

abbrev pub Offers : (Row → ℕ → Option Offer) → Row × ℕ → Base → Type 0
Offers offer at b = (o : Offer) × (offer at.0 at.1 ≡ Some o) × (o.base ≡ b)

-- nack n is bound to a row that is itself in a commit, which took an offer outside the nack's scope
pub record IsEnabledHere (joined : Row → Option Joined) (offer : Row → ℕ → Option Offer) (marks : Marks) (n : NackName) : Type 0 where
  pub binding : Binding
  pub is_bound : marks.bound n ≡ Some binding
  pub commit : Commit
  pub inside : IsIn joined offer commit
  pub chosen : ℕ
  pub takes : Takes commit (record { thread = n.thread; sync = binding.sync }) chosen
  pub outside : (o : Offer) → offer (record { thread = n.thread; sync = binding.sync }) chosen ≡ Some o → has_scope o.scopes binding.scope ≡ false

-- or an earlier table settled it, and it was enabled at a stamp
abbrev pub IsEnabled : (Row → Option Joined) → (Row → ℕ → Option Offer) → Marks → NackName → Type 0
IsEnabled joined offer marks n = IsEnabledHere joined offer marks n ⊎ ((stamp : ℕ) × (1 ≤ stamp) × (marks.carried n ≡ Some stamp))

-- what was offered fits the commit
abbrev pub IsCaused : (Row → Option Joined) → (Row → ℕ → Option Offer) → Marks → Row × ℕ → Cause → Type 0
IsCaused joined offer marks at (cause.Always m) = Offers offer at (Always m)
IsCaused joined offer marks at (cause.Nack n) = Offers offer at (OnNack n) × IsEnabled joined offer marks n
IsCaused joined offer marks at (cause.End p) = Offers offer at (OnEnd p) × ((start sync : ℕ) × (marks.course p ≡ Ended start sync))

abbrev pub Fits : (Row → Option Joined) → (Row → ℕ → Option Offer) → Marks → Commit → Type 0
Fits joined offer marks (Pair sender receiver c m s) =
    (sender.0.thread ≢ receiver.0.thread) × Offers offer sender (Send c m) × Offers offer receiver (Recv c)
Fits joined offer marks (Alone at k s) = IsCaused joined offer marks at k

-- commit d has an earlier row of one of the threads of c
abbrev pub IsEarlier : Commit → Commit → Type 0
IsEarlier d c = (thread g h : ℕ) × (h < g) × Involves d (record { thread = thread; sync = h }) × Involves c (record { thread = thread; sync = g })

-- commit d enabled the nack for which c stands alone, or has a row of the thread for whose end c stands
abbrev pub CausedBy : Marks → Commit → Cause → Type 0
CausedBy marks d (cause.Always m) = ⊥
CausedBy marks d (cause.Nack n) = (b : Binding) × (marks.bound n ≡ Some b) × Involves d (record { thread = n.thread; sync = b.sync })
CausedBy marks d (cause.End p) = (g : ℕ) × Involves d (record { thread = p; sync = g })

abbrev pub Enables : Marks → Commit → Commit → Type 0
Enables marks d (Pair sender receiver c m s) = ⊥
Enables marks d (Alone at k s) = CausedBy marks d k

abbrev pub CountsFor : Marks → Commit → Commit → Type 0
CountsFor marks d c = IsEarlier d c ⊎ Enables marks d c

-- whose start counts for a commit: a thread of it, or the one for whose end it stands
abbrev pub IsEndOf : Cause → ℕ → Type 0
IsEndOf (cause.Always m) t = ⊥
IsEndOf (cause.Nack n) t = ⊥
IsEndOf (cause.End p) t = p ≡ t

abbrev pub CountsThread : Commit → ℕ → Type 0
CountsThread (Pair sender receiver c m s) t = (sender.0.thread ≡ t) ⊎ (receiver.0.thread ≡ t)
CountsThread (Alone at k s) t = (at.0.thread ≡ t) ⊎ IsEndOf k t

-- the commit stands alone for a nack that an earlier table settled at this stamp
abbrev pub IsOfCarried : Marks → Cause → ℕ → Type 0
IsOfCarried marks (cause.Always m) stamp = ⊥
IsOfCarried marks (cause.Nack n) stamp = marks.carried n ≡ Some stamp
IsOfCarried marks (cause.End p) stamp = ⊥

abbrev pub IsCarriedBy : Marks → Commit → ℕ → Type 0
IsCarriedBy marks (Pair sender receiver c m s) stamp = ⊥
IsCarriedBy marks (Alone at k s) stamp = IsOfCarried marks k stamp

-- The stamp is one more than the greatest stamp of the commits, starts and carried nacks that count for it, where a missing one
-- counts 0.
pub record IsStampDue (joined : Row → Option Joined) (offer : Row → ℕ → Option Offer) (marks : Marks) (c : Commit) : Type 0 where
  pub above : (d : Commit) → IsIn joined offer d → CountsFor marks d c → stamp_of d < stamp_of c
  pub after_start : (t : ℕ) → CountsThread c t → start_of (marks.course t) < stamp_of c
  pub after_carried : (stamp : ℕ) → IsCarriedBy marks c stamp → stamp < stamp_of c
  pub next :
      (stamp_of c ≡ 1)
      ⊎ ((d : Commit) × IsIn joined offer d × CountsFor marks d c × (stamp_of c ≡ stamp_of d + 1))
      ⊎ ((t : ℕ) × CountsThread c t × (stamp_of c ≡ start_of (marks.course t) + 1))
      ⊎ ((stamp : ℕ) × IsCarriedBy marks c stamp × (stamp_of c ≡ stamp + 1))

-- the thread has started, and has not ended at this sync or before it
abbrev pub LivesAt : Course → ℕ → Type 0
LivesAt Unstarted g = ⊥
LivesAt (Running start) g = ⊤
LivesAt (Ended start sync) g = g < sync

pub record Lawful (rows : List Row) (joined : Row → Option Joined) (offer : Row → ℕ → Option Offer) (marks : Marks) : Type 0 where
  -- a committed row names a commit
  pub named : (r : Row) (j : Joined) → joined r ≡ Some j → is_some (commit_named offer r j) ≡ true
  -- no row is in two commits
  pub once : (r : Row) (c d : Commit) → IsIn joined offer c → IsIn joined offer d → Involves c r → Involves d r → c ≡ d
  -- a pair is a send and a receive of two threads on one channel, and a commit alone is an always, an enabled nack, or the end
  -- of a thread that has ended
  pub fits : (c : Commit) → IsIn joined offer c → Fits joined offer marks c
  -- where a row is in a commit, so are the earlier rows of its thread
  pub in_turn : (c : Commit) (thread g h : ℕ) → IsIn joined offer c → Involves c (record { thread = thread; sync = g }) → h < g → (d : Commit) × IsIn joined offer d × Involves d (record { thread = thread; sync = h })
  pub stamps : (c : Commit) → IsIn joined offer c → IsStampDue joined offer marks c
  -- no stamp exceeds the greatest of what went before by more than the number of commits
  pub bounded : (c : Commit) → IsIn joined offer c → stamp_of c ≤ marks.opening + length (commits_of rows joined offer)
  pub starts : (t : ℕ) → start_of (marks.course t) ≤ marks.opening + length (commits_of rows joined offer)
  -- nor does that of a nack that an earlier table settled exceed it
  pub carried : (n : NackName) (stamp : ℕ) → marks.carried n ≡ Some stamp → stamp ≤ marks.opening
  -- no thread has a commit that has not started, nor one at the sync of its end or behind it
  pub lived : (c : Commit) (r : Row) → IsIn joined offer c → Involves c r → LivesAt (marks.course r.thread) r.sync

abbrev pub IsLawful : Ledger → Type 0
IsLawful l = Lawful (rows_in l) (joined_in l) (offer_in l) (marks_in l)

-- a commit of a ledger, and all of them
abbrev pub HasCommit : Ledger → Commit → Type 0
HasCommit l c = IsIn (joined_in l) (offer_in l) c

abbrev pub commits_in : Ledger → List Commit
commits_in l = commits_of (rows_in l) (joined_in l) (offer_in l)

abbrev pub pending_in : Ledger → ℕ
pending_in l = pending_of (rows_in l) (joined_in l)

-- A LIST OF COMMITS

-- each commit stands once, and behind each that counts for it: those of the earlier rows of its threads, the one that
-- enabled its nack, and those of the thread for whose end it stands
pub record IsCausal (marks : Marks) (cs : List Commit) : Type 0 where
  pub once : (i k : ℕ) (c : Commit) → slice_get cs i ≡ Some c → slice_get cs k ≡ Some c → i ≡ k
  pub behind : (i k : ℕ) (c d : Commit) → slice_get cs i ≡ Some d → slice_get cs k ≡ Some c → CountsFor marks d c → i < k
