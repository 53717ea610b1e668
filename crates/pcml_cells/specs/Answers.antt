-- What a call of C answers: the number of what its hand came to.
use Rattle.std.specs.Prelude.{IfSome, IsPermutation, ⊤, ◌≡◌, ◌⊎◌, ℕ, ◌<◌, Bool, true, false, Option, Some, None, Result, Ok, Err, List, length, slice_get}
use Rattle.protocol_values.specs.declared.Cell.{Cell}
use Rattle.protocol_values.specs.declared.Cell.TheVariants as cell
use Rattle.protocol_values.specs.declared.Course.{Course}
use Rattle.protocol_values.specs.declared.Course.TheVariants.{Unstarted, Running, Ended}
use Rattle.protocol_values.specs.declared.Commit.{Commit}
use Rattle.cell.specs.declared.attempt.Attempt.{Attempt}
use Rattle.cell.specs.declared.attempt.Attempt.TheVariants as attempt
use Rattle.cell.specs.declared.granting.Grant.{Grant}
use Rattle.cell.specs.declared.granting.Grant.TheVariants.{Given, NotEnabled, Late}
use Rattle.meet_scan.specs.declared.found.Found.{Found}
use Rattle.meet_scan.specs.declared.found.Found.TheVariants.{Met, Alone, Already, Waits}
use Rattle.plain_values.specs.Plain.{AreListed, IsCommit, IsJoined, IsMessage, IsOffer, NotAll, nack_number, plain_row}
use Rattle.plain_values.specs.declared.commits.PlainJoined.{PlainJoined}
use Rattle.plain_values.specs.declared.commits.PlainRow.{PlainRow}
use Rattle.plain_values.specs.declared.values.PlainMessage.{PlainMessage}
use Rattle.plain_values.specs.declared.values.PlainOffer.{PlainOffer}
use Rattle.protocol_values.specs.declared.Joined.{Joined}
use Rattle.protocol_values.specs.declared.Message.{Message}
use Rattle.protocol_values.specs.declared.NackName.{NackName}
use Rattle.protocol_values.specs.declared.Offer.{Offer}
use Rattle.protocol_values.specs.declared.Row.{Row}
use Rattle.protocol_ledger.specs.Ledgers.{IsLawful, joined_in}
use Rattle.protocol_ledger.specs.Ledgers as ledgers
use Rattle.protocol_values.specs.Commits.{IsInOrder}
use Rattle.cell.specs.Calls.{HoldsAt}
use Rattle.cell_table.specs.Sight.{Has}
use Rattle.cell_hand.specs.Calls.{Answers, Begins, Binds, Bounds, Drafts, IsDealt, Looks, Reads, Results, Searches}
use Rattle.pcml_cells.specs.declared.handle.Handle.{Handle}
use Rattle.plain_values.specs.declared.commits.PlainCommit.{PlainCommit}
use Rattle.cell_hand.specs.Hands.{HandOf}
use Rattle.cell_hand.specs.declared.refusal.Refusal.{Refusal}
use Rattle.cell_hand.specs.declared.refusal.Refusal.TheVariants as refusal
use Rattle.cell_hand.specs.declared.kept.Kept.{Kept}
use Rattle.cell_hand.specs.declared.kept.Kept.TheVariants.{Hand, Ledger, Nothing}
use Rattle.pcml_cells.specs.Owned.{InHandle}

-- 0 to 15 are answers, and from 16 on nothing was done
abbrev pub EMPTY : ℕ
EMPTY = 16

abbrev pub CLOSED : ℕ
CLOSED = 25

abbrev pub refusal_number : Refusal → ℕ
refusal_number refusal.Memory = 17
refusal_number refusal.Range = 18
refusal_number refusal.NoRow = 19
refusal_number refusal.NotHeld = 20
refusal_number refusal.Opened = 21
refusal_number refusal.Fresh = 22
refusal_number refusal.Ended = 23
refusal_number refusal.Shared = 24

abbrev pub number_of : {A : Type 0} → (A → ℕ) → Result A Refusal → ℕ
number_of number (Ok x) = number x
number_of number (Err e) = refusal_number e

abbrev pub done_number : ⊤ → ℕ
done_number x = 0

-- 0 bound or started by this call, 1 before
abbrev pub first_number : Bool → ℕ
first_number true = 0
first_number false = 1

abbrev pub some_number : {A : Type 0} → Option A → ℕ
some_number (Some x) = 0
some_number None = 1

abbrev pub cell_number : Cell → ℕ
cell_number cell.Fresh = 0
cell_number cell.Waiting = 1
cell_number cell.Claimed = 2
cell_number (cell.Synched j) = 3
cell_number (cell.Taken j) = 4

abbrev pub course_number : Course → ℕ
course_number Unstarted = 0
course_number (Running start) = 1
course_number (Ended start sync) = 2

abbrev pub attempt_number : Attempt → ℕ
attempt_number (attempt.Met stamp) = 0
attempt_number attempt.Gone = 1
attempt_number attempt.Mine = 2
attempt_number attempt.Busy = 3
attempt_number attempt.Unfit = 4

abbrev pub grant_number : Grant → ℕ
grant_number Given = 0
grant_number NotEnabled = 1
grant_number Late = 2

abbrev pub found_number : Option Found → ℕ
found_number (Some (Met row)) = 0
found_number (Some Alone) = 1
found_number (Some Already) = 2
found_number (Some Waits) = 3
found_number None = 4

-- WHAT A CALL DOES. What a pass keeps of a table that has ended stays as it is. Else its hand goes from h to k.
abbrev pub Does : Kept → Kept → ℕ → (HandOf → HandOf → Type 0) → Type 0
Does Nothing after answer By = (after ≡ Nothing) × (answer ≡ EMPTY)
Does (Ledger l) after answer By = (after ≡ Ledger l) × (answer ≡ CLOSED)
Does (Hand h) after answer By = (k : HandOf) × (after ≡ Hand k) × By h k

-- and an empty pass stays empty
abbrev pub Told : InHandle → InHandle → ℕ → (HandOf → HandOf → Type 0) → Type 0
Told None after answer By = (after ≡ None) × (answer ≡ EMPTY)
Told (Some before) after answer By = (kept : Kept) × (after ≡ Some kept) × Does before kept answer By

-- it came to something, and that is what the number says
abbrev pub Numbered : {A : Type 0} → (A → ℕ) → (Result A Refusal → Type 0) → ℕ → Type 0
Numbered {A} number Came answer = (e : Result A Refusal) × Came e × (answer ≡ number_of number e)

-- a range that was not kept: the hand stays as it is
abbrev pub OutOfRange : HandOf → HandOf → ℕ → Type 0
OutOfRange h k answer = (k ≡ h) × (answer ≡ 18)

abbrev pub HoldsIn : Kept → Row → Type 0
HoldsIn Nothing r = ⊥
HoldsIn (Ledger l) r = ⊥
HoldsIn (Hand h) r = HoldsAt h.pass r

abbrev pub Holds : InHandle → Row → Type 0
Holds None r = ⊥
Holds (Some kept) r = HoldsIn kept r

-- the offers are those that the structs stand for
abbrev pub Drafted : HandOf → HandOf → Row → List PlainOffer → ℕ → Type 0
Drafted h k r plain answer =
    ((offers : List Offer) × AreListed plain offers × (length offers ≡ length plain) × Numbered done_number (Drafts h k r offers) answer)
    ⊎ (OutOfRange h k answer × ((8 < length plain) ⊎ NotAll plain))

abbrev pub Bound : HandOf → HandOf → ℕ → Row → ℕ → ℕ → Type 0
Bound h k nack r scope answer = ((nack < 64) × (scope < 4) × Numbered first_number (Binds h k nack r scope) answer) ⊎ (OutOfRange h k answer × ((63 < nack) ⊎ (3 < scope)))

-- what is told where the row is committed
abbrev pub TellsJoined : PlainJoined → PlainJoined → Result Cell Refusal → Type 0
TellsJoined before after (Ok (cell.Synched j)) = IsJoined after j
TellsJoined before after (Ok (cell.Taken j)) = IsJoined after j
TellsJoined before after (Ok cell.Fresh) = after ≡ before
TellsJoined before after (Ok cell.Waiting) = after ≡ before
TellsJoined before after (Ok cell.Claimed) = after ≡ before
TellsJoined before after (Err e) = after ≡ before

abbrev pub Joins : HandOf → HandOf → Row → PlainJoined → PlainJoined → ℕ → Type 0
Joins h k r before after answer = (e : Result Cell Refusal) × Looks h k r e × (answer ≡ number_of cell_number e) × TellsJoined before after e

-- what is told where there is something
abbrev pub Tells : {A : Type 0} → (A → Type 0) → Result (Option A) Refusal → Type 0
Tells Is (Ok (Some x)) = Is x
Tells Is (Ok None) = ⊤
Tells Is (Err e) = ⊤

abbrev pub NackBound : HandOf → HandOf → ℕ → PlainRow → ℕ → ℕ → Type 0
NackBound h k nack row scope answer =
    ((n : NackName) × (nack_number n ≡ nack) × (place : Option (Row × ℕ)) × Bounds h k n place × (answer ≡ some_number place) × IfSome place (λ p. (row ≡ plain_row p.0) × (scope ≡ p.1)))
    ⊎ (OutOfRange h k answer × (4095 < nack))

abbrev pub Offered : HandOf → HandOf → Row → ℕ → PlainOffer → ℕ → Type 0
Offered h k r n after answer =
    (e : Result (Option Offer) Refusal) × Reads h k r n e × (answer ≡ number_of some_number e) × Tells (IsOffer after) e

abbrev pub Resulted : HandOf → HandOf → Row → PlainMessage → ℕ → Type 0
Resulted h k r after answer =
    (e : Result (Option Message) Refusal) × Results h k r e × (answer ≡ number_of some_number e) × Tells (IsMessage after) e

abbrev pub Answered : HandOf → HandOf → Row → PlainJoined → PlainMessage → ℕ → Type 0
Answered h k r joined message answer =
    (e : Result (Option (Joined × Message)) Refusal) × Answers h k r e × (answer ≡ number_of some_number e) × Tells (λ t. IsJoined joined t.0 × IsMessage message t.1) e

abbrev pub TellsMet : PlainRow → Result (Option Found) Refusal → Type 0
TellsMet after (Ok (Some (Met other))) = after ≡ plain_row other
TellsMet after (Ok (Some Alone)) = ⊤
TellsMet after (Ok (Some Already)) = ⊤
TellsMet after (Ok (Some Waits)) = ⊤
TellsMet after (Ok None) = ⊤
TellsMet after (Err e) = ⊤

-- a thread that no table has
abbrev pub NO_THREAD : ℕ
NO_THREAD = 255

abbrev pub Searched : HandOf → HandOf → Row → ℕ → Bool → PlainRow → ℕ → Type 0
Searched h k r first alone met answer = (e : Result (Option Found) Refusal) × Searches h k r first alone e × (answer ≡ number_of found_number e) × TellsMet met e

abbrev pub Began : HandOf → HandOf → Row → List PlainOffer → ℕ → Bool → PlainRow → ℕ → Type 0
Began h k r plain first alone met answer =
    ((offers : List Offer) × AreListed plain offers × (length offers ≡ length plain)
    × (e : Result (Option Found) Refusal) × Begins h k r offers first alone e × (answer ≡ number_of found_number e) × TellsMet met e)
    ⊎ (OutOfRange h k answer × ((8 < length plain) ⊎ NotAll plain))

-- What closing does: the pass keeps a lawful ledger, with all that it had seen, or others are left, and it stays as it is.
abbrev pub Ends : HandOf → InHandle → ℕ → Type 0
Ends h after answer =
    ((l : ledgers.Ledger) × (after ≡ Some (Ledger l)) × (answer ≡ 0) × IsLawful l × (l.threads ≡ h.table.threads) × (l.rows ≡ h.table.rows)
    × ((r : Row) (j : Joined) → Has h.pass.seen.joined (r, j) → joined_in l r ≡ Some j))
    ⊎ ((after ≡ Some (Hand h)) × (answer ≡ 24))

abbrev pub Closed : InHandle → InHandle → ℕ → Type 0
Closed None after answer = (after ≡ None) × (answer ≡ EMPTY)
Closed (Some Nothing) after answer = (after ≡ Some Nothing) × (answer ≡ EMPTY)
Closed (Some (Ledger l)) after answer = (after ≡ Some (Ledger l)) × (answer ≡ CLOSED)
Closed (Some (Hand h)) after answer = Ends h after answer

-- the handles keep the hands of one new table, in their order
abbrev pub AreDealt : ℕ → ℕ → ℕ → ℕ → List Handle → Type 0
AreDealt threads rows offers later handles =
    (n : ℕ) (place : Handle) → slice_get handles n ≡ Some place → (h : HandOf) × (place.kept ≡ Some (Hand h)) × IsDealt threads rows offers later (length handles) n h

-- as many of the commits as there is room for
abbrev pub AreWritten : List Commit → List PlainCommit → Type 0
AreWritten commits told = (n : ℕ) (p : PlainCommit) (c : Commit) → slice_get told n ≡ Some p → slice_get commits n ≡ Some c → IsCommit p c

-- the ledger's commits, each once and in their order, and how many there are
abbrev pub Listed : ledgers.Ledger → List PlainCommit → ℕ → Type 0
Listed l told count = (commits : List Commit) × IsPermutation (ledgers.commits_in l) commits × IsInOrder commits × (count ≡ length commits) × AreWritten commits told

-- listed, or memory was refused; and of a table that has not ended nothing is
abbrev pub ListsOf : Kept → List PlainCommit → ℕ → ℕ → Type 0
ListsOf Nothing told count answer = answer ≡ EMPTY
ListsOf (Hand h) told count answer = answer ≡ 24
ListsOf (Ledger l) told count answer = ((answer ≡ 0) × Listed l told count) ⊎ (answer ≡ 17)

abbrev pub Lists : InHandle → List PlainCommit → ℕ → ℕ → Type 0
Lists None told count answer = answer ≡ EMPTY
Lists (Some kept) told count answer = ListsOf kept told count answer
