-- The table of words: where each word lies, and what a row or a nack reads as.
use Rattle.std.specs.Prelude.{ℕ, zero, suc, ◌+◌, ◌-◌, ◌*◌, Bool, true, false, ◌==◌, ◌&&◌, nat_lt, if◌then◌else◌, Option, Some, None, unwrap_or, List, [], ◌∷◌, ◌++◌, find, slice_index}
use Rattle.protocol_values.specs.Scopes.{has_scope}
use Rattle.protocol_values.specs.Values.{bases_meet, joined_of}
use Rattle.protocol_values.specs.Words.{cell_of, count_of, course_of, offer_of, nack_of}
use Rattle.protocol_values.specs.declared.NackName.{NackName}
use Rattle.protocol_values.specs.declared.Offer.{Offer}
use Rattle.protocol_values.specs.declared.Base.{Base}
use Rattle.protocol_values.specs.declared.Base.TheVariants.{Send, Recv, Always, OnNack, OnEnd, Never}
use Rattle.protocol_values.specs.declared.Row.{Row}
use Rattle.protocol_values.specs.declared.Joined.{Joined}
use Rattle.protocol_values.specs.declared.Cell.{Cell}
use Rattle.protocol_values.specs.declared.Cell.TheVariants.{Fresh, Waiting, Claimed, Synched, Taken}
use Rattle.protocol_values.specs.declared.Binding.{Binding}
use Rattle.protocol_values.specs.declared.NackWord.{NackWord}
use Rattle.protocol_values.specs.declared.NackWord.TheVariants.{Unbound, Bound, Carried}
use Rattle.protocol_values.specs.declared.Course.{Course}
use Rattle.protocol_values.specs.declared.Course.TheVariants.{Unstarted, Running, Ended}

-- The words lie thread by thread: a thread's rows first, 34 words each, then its 64 nack words, and its life word. No word has
-- the greatest stamp of what went before the table, which is 0 where nothing did.
pub record Table : Type 0 where
  pub threads : ℕ
  pub rows : ℕ
  pub words : List ℕ
  pub opening : ℕ

-- how many words a thread has
abbrev pub thread_len : ℕ → ℕ
thread_len rows = rows * 34 + 65

-- where the word of a row at a place lies
abbrev pub place_of : ℕ → Row → ℕ → ℕ
place_of rows r place = r.thread * thread_len rows + r.sync * 34 + place

-- where the word of a nack lies
abbrev pub nack_place : ℕ → NackName → ℕ
nack_place rows n = n.thread * thread_len rows + rows * 34 + n.k

-- where the word of a thread's life lies
abbrev pub course_place : ℕ → ℕ → ℕ
course_place rows thread = thread * thread_len rows + rows * 34 + 64

-- rows, one after another: those of a thread below a sync, and those of all threads below a thread
abbrev pub rows_below : ℕ → ℕ → List Row
rows_below thread zero = []
rows_below thread (suc sync) = rows_below thread sync ++ record { thread = thread; sync = sync } ∷ []

abbrev pub all_rows : ℕ → ℕ → List Row
all_rows zero rows = []
all_rows (suc thread) rows = all_rows thread rows ++ rows_below thread rows

-- the row's place among all rows
abbrev pub number_of : ℕ → Row → ℕ
number_of rows r = r.thread * rows + r.sync

abbrev pub row_eq : Row → Row → Bool
row_eq r s = (r.thread == s.thread) && (r.sync == s.sync)

-- whether the table has the row, or the nack
unfoldable pub is_row : Table → Row → Bool
is_row t r = nat_lt r.thread t.threads && nat_lt r.sync t.rows

unfoldable pub is_nack : Table → NackName → Bool
is_nack t n = nat_lt n.thread t.threads && nat_lt n.k 64

-- the word of a row at a place, and of a nack
unfoldable pub word_at : Table → Row → ℕ → ℕ
word_at t r place = slice_index t.words (place_of t.rows r place)

unfoldable pub nack_at : Table → NackName → ℕ
nack_at t n = slice_index t.words (nack_place t.rows n)

-- the row's cell; a row that the table has not is Fresh for good
unfoldable pub cell_at : Table → Row → Cell
cell_at t r = if is_row t r then unwrap_or (cell_of (word_at t r 0)) Fresh else Fresh

abbrev pub is_fresh : Cell → Bool
is_fresh Fresh = true
is_fresh Waiting = false
is_fresh Claimed = false
is_fresh (Synched j) = false
is_fresh (Taken j) = false

-- how a committed row was committed that nobody has taken
abbrev pub synched_of : Cell → Option Joined
synched_of Fresh = None
synched_of Waiting = None
synched_of Claimed = None
synched_of (Synched j) = Some j
synched_of (Taken j) = None

abbrev pub is_taken : Cell → Bool
is_taken Fresh = false
is_taken Waiting = false
is_taken Claimed = false
is_taken (Synched j) = false
is_taken (Taken j) = true

-- how many offers an opened row has
unfoldable pub count_at : Table → Row → ℕ
count_at t r = if is_fresh (cell_at t r) then 0 else unwrap_or (count_of (word_at t r 1)) 0

-- offer n of an opened row
unfoldable pub offer_at : Table → Row → ℕ → Option Offer
offer_at t r n =
    if nat_lt n (count_at t r)
    then offer_of (word_at t r (2 + 4 * n)) (word_at t r (3 + 4 * n)) (word_at t r (4 + 4 * n)) (word_at t r (5 + 4 * n))
    else None

-- what the word of a nack says
unfoldable pub nack_says : Table → NackName → NackWord
nack_says t n = if is_nack t n then unwrap_or (nack_of (nack_at t n)) Unbound else Unbound

abbrev pub bound_by : NackWord → Option Binding
bound_by Unbound = None
bound_by (Bound b) = Some b
bound_by (Carried stamp) = None

abbrev pub carried_by : NackWord → Option ℕ
carried_by Unbound = None
carried_by (Bound b) = None
carried_by (Carried stamp) = Some stamp

-- the sync and the scope to which a nack is bound
unfoldable pub binding_at : Table → NackName → Option Binding
binding_at t n = bound_by (nack_says t n)

-- the stamp at which a nack was enabled that an earlier table settled, 0 where it never is
unfoldable pub carried_at : Table → NackName → Option ℕ
carried_at t n = carried_by (nack_says t n)

-- LIVES

-- where a thread is on its course; one that the table has not never starts
unfoldable pub course_at : Table → ℕ → Course
course_at t p =
    if nat_lt p t.threads then unwrap_or (course_of (slice_index t.words (course_place t.rows p))) Unstarted else Unstarted

-- the stamp that counts for what a thread does first, and 0 where it has not started
abbrev pub start_of : Course → ℕ
start_of Unstarted = 0
start_of (Running start) = start
start_of (Ended start sync) = start

-- What a table says beside its rows: to what each nack is bound, which an earlier table settled, where each thread is on its
-- course, and the greatest stamp of what went before.
pub record Marks : Type 0 where
  pub bound : NackName → Option Binding
  pub carried : NackName → Option ℕ
  pub course : ℕ → Course
  pub opening : ℕ

abbrev pub marks_at : Table → Marks
marks_at t = record { bound = binding_at t; carried = carried_at t; course = course_at t; opening = t.opening }

-- a send and a receive on one channel
abbrev pub offers_meet : Option Offer → Option Offer → Bool
offers_meet (Some a) (Some b) = bases_meet a.base b.base
offers_meet (Some a) None = false
offers_meet None b = false

-- an offer that commits its row alone: an always, a nack, or an end
abbrev pub needs_none : Base → Bool
needs_none (Send c m) = false
needs_none (Recv c) = false
needs_none (Always m) = true
needs_none (OnNack n) = true
needs_none (OnEnd p) = true
needs_none Never = false

abbrev pub stands_alone : Option Offer → Bool
stands_alone None = false
stands_alone (Some o) = needs_none o.base

-- whether a row's way of being committed names this row as its partner
abbrev pub is_partner : Option (Row × ℕ) → Row → Bool
is_partner None r = false
is_partner (Some p) r = row_eq p.0 r

abbrev pub names : Option Joined → Row → Bool
names None r = false
names (Some j) r = is_partner j.partner r

-- the row that is committed with this one as its partner
abbrev pub namer_of : List Row → (Row → Option Joined) → Row → Option Row
namer_of rows joined r = find (λ q. names (joined q) r) rows

-- the stamp of a committed row, and 0 where it is not
abbrev pub row_stamp : Option Joined → ℕ
row_stamp None = 0
row_stamp (Some j) = j.stamp

-- the stamp of the row before this one in its thread, and of a first row that of its thread's start
abbrev pub last_stamp : Marks → (Row → Option Joined) → Row → ℕ
last_stamp marks joined r =
    if r.sync == 0 then start_of (marks.course r.thread) else row_stamp (joined (record { thread = r.thread; sync = r.sync - 1 }))

-- how the rows of a table are committed
abbrev pub joined_at : Table → Row → Option Joined
joined_at t r = joined_of (cell_at t r)

-- WHEN A NACK IS ENABLED, where rows are joined, offer, and nacks are bound as these functions say

-- whether the scope encloses the offer; one that is not there is enclosed by none
abbrev pub encloses : ℕ → Option Offer → Bool
encloses scope None = false
encloses scope (Some o) = has_scope o.scopes scope

-- the row whose sync a nack is bound to
abbrev pub bound_row : NackName → Binding → Row
bound_row n b = record { thread = n.thread; sync = b.sync }

-- how that row is committed, where it chose an offer outside the scope
abbrev pub enabled_by : (Row → ℕ → Option Offer) → Row → ℕ → Option Joined → Option Joined
enabled_by offer r scope None = None
enabled_by offer r scope (Some j) = if encloses scope (offer r j.own) then None else Some j

abbrev pub nack_via : (Row → Option Joined) → (Row → ℕ → Option Offer) → NackName → Option Binding → Option Joined
nack_via joined offer n None = None
nack_via joined offer n (Some b) = enabled_by offer (bound_row n b) b.scope (joined (bound_row n b))

abbrev pub stamped : Option Joined → Option ℕ
stamped None = None
stamped (Some j) = Some j.stamp

-- the stamp at which a nack was enabled: an earlier table's where one settled it, and 0 says there that it never is
abbrev pub enabled_from : Option ℕ → Option ℕ → Option ℕ
enabled_from None here = here
enabled_from (Some stamp) here = if stamp == 0 then None else Some stamp

unfoldable pub nack_by : (Row → Option Joined) → (Row → ℕ → Option Offer) → Marks → NackName → Option ℕ
nack_by joined offer marks n = enabled_from (marks.carried n) (stamped (nack_via joined offer n (marks.bound n)))

-- WHEN A THREAD HAS ENDED: the stamp that counts at its end, its last one

abbrev pub end_via : Marks → (Row → Option Joined) → ℕ → Course → Option ℕ
end_via marks joined p Unstarted = None
end_via marks joined p (Running start) = None
end_via marks joined p (Ended start sync) = Some (last_stamp marks joined (record { thread = p; sync = sync }))

unfoldable pub end_by : Marks → (Row → Option Joined) → ℕ → Option ℕ
end_by marks joined p = end_via marks joined p (marks.course p)

-- The stamp of what lets an offer commit its row alone: 0 for an always, for a nack that is enabled the stamp at which it
-- was, and for a thread that has ended its last stamp. Another offer has no cause.
abbrev pub cause_by : (Row → Option Joined) → (Row → ℕ → Option Offer) → Marks → Base → Option ℕ
cause_by joined offer marks (Send c m) = None
cause_by joined offer marks (Recv c) = None
cause_by joined offer marks (Always m) = Some 0
cause_by joined offer marks (OnNack n) = nack_by joined offer marks n
cause_by joined offer marks (OnEnd p) = end_by marks joined p
cause_by joined offer marks Never = None

abbrev pub cause_of : (Row → Option Joined) → (Row → ℕ → Option Offer) → Marks → Option Offer → Option ℕ
cause_of joined offer marks None = None
cause_of joined offer marks (Some o) = cause_by joined offer marks o.base

-- the cause of offer n of a row
abbrev pub cause_at : Table → Row → ℕ → Option ℕ
cause_at t r n = cause_of (joined_at t) (offer_at t) (marks_at t) (offer_at t r n)
