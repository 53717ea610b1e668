-- Commits: their stamps, and the order in which a journal has them.
use Rattle.std.specs.Prelude.{◌≡◌, ◌⊎◌, ℕ, List, Option, Some, None}
use Rattle.std.specs.List.Sorted.{IsSortedByKey}
use Rattle.std.specs.Ordering.{nat_cmp, ordering_then}
use Rattle.std.specs.declared.cmp.Ordering.{Ordering}
use Rattle.protocol_values.specs.declared.Row.{Row}
use Rattle.protocol_values.specs.declared.Cause.{Cause}
use Rattle.protocol_values.specs.declared.Cause.TheVariants as cause
use Rattle.protocol_values.specs.declared.Message.{Message}
use Rattle.protocol_values.specs.declared.Message.TheVariants.{Empty}
use Rattle.protocol_values.specs.declared.RowResult.{RowResult}
use Rattle.protocol_values.specs.declared.Commit.{Commit}
use Rattle.protocol_values.specs.declared.Commit.TheVariants.{Pair, Alone}

abbrev pub stamp_of : Commit → ℕ
stamp_of (Pair sender receiver chan msg stamp) = stamp
stamp_of (Alone at why stamp) = stamp

-- an always gives its message; a nack and an end, like a send, the empty one
abbrev pub message_by : Cause → Message
message_by (cause.Always m) = m
message_by (cause.Nack n) = Empty
message_by (cause.End t) = Empty

-- WHAT A COMMIT GIVES ITS ROWS: a pair gives its sender the empty message, and its receiver the one that was sent
abbrev pub gives : Commit → RowResult × Option RowResult
gives (Pair sender receiver chan msg stamp) = (record { at = sender; message = Empty }, Some (record { at = receiver; message = msg }))
gives (Alone at why stamp) = (record { at = at; message = message_by why }, None)

-- what a thread gets for its row: the number of the offer that was taken, and a message
abbrev pub Gives : Commit → Row → ℕ × Message → Type 0
Gives (Pair sender receiver chan msg stamp) r result =
    ((sender.0 ≡ r) × (result ≡ (sender.1, Empty))) ⊎ ((receiver.0 ≡ r) × (result ≡ (receiver.1, msg)))
Gives (Alone at (cause.Always m) stamp) r result = (at.0 ≡ r) × (result ≡ (at.1, m))
Gives (Alone at (cause.Nack n) stamp) r result = (at.0 ≡ r) × (result ≡ (at.1, Empty))
Gives (Alone at (cause.End p) stamp) r result = (at.0 ≡ r) × (result ≡ (at.1, Empty))

-- the most syncs that a thread of a journal makes: 65,535 tables of 1,024 rows
abbrev pub most_rows : ℕ
most_rows = 67107840

-- the row that a commit names first, and its thread
abbrev pub first_row : Commit → Row
first_row (Pair sender receiver chan msg stamp) = sender.0
first_row (Alone at why stamp) = at.0

abbrev pub first_thread : Commit → ℕ
first_thread c = (first_row c).thread

-- THE JOURNAL'S ORDER: by stamp, and then by the thread named first

abbrev pub order_of : Commit → ℕ × ℕ
order_of c = (stamp_of c, first_thread c)

abbrev pub order_cmp : ℕ × ℕ → ℕ × ℕ → Ordering
order_cmp x y = ordering_then (nat_cmp x.0 y.0) (nat_cmp x.1 y.1)

abbrev pub IsInOrder : List Commit → Type 0
IsInOrder cs = IsSortedByKey order_of order_cmp cs
