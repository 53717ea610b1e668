-- The words of the table: what each bit means, when a word is well-formed for its place, and what it stands for.
use Rattle.std.specs.Prelude.{ℕ, ◌+◌, ◌*◌, ◌/◌, ◌%◌, ◌^◌, ◌<◌, ◌≤◌, Bool, true, ◌==◌, ◌&&◌, nat_le, if◌then◌else◌, Option, Some, None, List, [], ◌∷◌, IfSome, is_some, option_and_then, ◌-◌}
use Rattle.protocol_values.specs.declared.NackName.{NackName}
use Rattle.protocol_values.specs.declared.Atom.{Atom}
use Rattle.protocol_values.specs.declared.Atom.TheVariants.{Num, Chan, Nack}
use Rattle.protocol_values.specs.declared.Message.{Message}
use Rattle.protocol_values.specs.declared.Message.TheVariants.{Empty, One, Two, Three}
use Rattle.protocol_values.specs.declared.Base.{Base}
use Rattle.protocol_values.specs.declared.Base.TheVariants as base
use Rattle.protocol_values.specs.declared.Offer.{Offer}
use Rattle.protocol_values.specs.declared.Row.{Row}
use Rattle.protocol_values.specs.declared.Joined.{Joined}
use Rattle.protocol_values.specs.declared.Cell.{Cell}
use Rattle.protocol_values.specs.declared.Cell.TheVariants.{Fresh, Waiting, Claimed, Synched, Taken}
use Rattle.protocol_values.specs.declared.Direction.{Direction}
use Rattle.protocol_values.specs.declared.Direction.TheVariants.{Never, Send, Recv, Always, OnNack, OnEnd}
use Rattle.protocol_values.specs.declared.Head.{Head}
use Rattle.protocol_values.specs.declared.Binding.{Binding}
use Rattle.protocol_values.specs.declared.NackWord.{NackWord}
use Rattle.protocol_values.specs.declared.NackWord.TheVariants.{Unbound, Bound, Carried}
use Rattle.protocol_values.specs.declared.Course.{Course}
use Rattle.protocol_values.specs.declared.Course.TheVariants.{Unstarted, Running, Ended}

-- the number in `width` bits of a word, from bit `low` on
abbrev pub field : ℕ → ℕ → ℕ → ℕ
field word low width = word / 2 ^ low % 2 ^ width

-- THE CELL
-- Bits 0-2 are the state: 0 Fresh, 1 Waiting, 2 Claimed, 3 Synched, 4 Taken. In the last two, bits 3-5 are the own
-- offer, bit 6 is one where paired, 7-9 the partner's offer, 10-19 its sync, 20-25 its thread, and 26-57 the stamp.

abbrev pub partner_bits : Option (Row × ℕ) → ℕ
partner_bits None = 0
partner_bits (Some p) = 2 ^ 6 + p.1 * 2 ^ 7 + p.0.sync * 2 ^ 10 + p.0.thread * 2 ^ 20

abbrev pub joined_bits : Joined → ℕ
joined_bits j = j.own * 2 ^ 3 + partner_bits j.partner + j.stamp * 2 ^ 26

unfoldable pub cell_word : Cell → ℕ
cell_word Fresh = 0
cell_word Waiting = 1
cell_word Claimed = 2
cell_word (Synched j) = 3 + joined_bits j
cell_word (Taken j) = 4 + joined_bits j

pub record IsRowInRange (r : Row) : Type 0 where
  pub thread : r.thread < 64
  pub sync : r.sync < 1024

-- a stamp is at least 1, an offer number below 8
pub record IsJoinedInRange (j : Joined) : Type 0 where
  pub own : j.own < 8
  pub partner : IfSome j.partner (λ p. IsRowInRange p.0 × (p.1 < 8))
  pub stamp_low : 1 ≤ j.stamp
  pub stamp_high : j.stamp < 2 ^ 32

abbrev pub IsCellInRange : Cell → Type 0
IsCellInRange Fresh = Unit {0}
IsCellInRange Waiting = Unit {0}
IsCellInRange Claimed = Unit {0}
IsCellInRange (Synched j) = IsJoinedInRange j
IsCellInRange (Taken j) = IsJoinedInRange j

-- what the fields of a cell word say
abbrev pub partner_fields : ℕ → Option (Row × ℕ)
partner_fields w =
    if field w 6 1 == 1 then Some (record { thread = field w 20 6; sync = field w 10 10 }, field w 7 3) else None

abbrev pub joined_fields : ℕ → Joined
joined_fields w = record { own = field w 3 3; partner = partner_fields w; stamp = field w 26 32 }

abbrev pub cell_fields : ℕ → Cell
cell_fields w =
    if field w 0 3 == 1
    then Waiting
    else (if field w 0 3 == 2
    then Claimed
    else (if field w 0 3 == 3
    then Synched (joined_fields w)
    else (if field w 0 3 == 4 then Taken (joined_fields w) else Fresh)))

abbrev pub has_stamp : Cell → Bool
has_stamp Fresh = true
has_stamp Waiting = true
has_stamp Claimed = true
has_stamp (Synched j) = nat_le 1 j.stamp
has_stamp (Taken j) = nat_le 1 j.stamp

-- The cell that a word stands for. A word is well-formed where it is the very word of what its fields say, so all
-- other bits are 0; and the stamp, where there is one, is at least 1.
unfoldable pub cell_of : ℕ → Option Cell
cell_of w = if (cell_word (cell_fields w) == w) && has_stamp (cell_fields w) then Some (cell_fields w) else None

-- THE NUMBER OF OFFERS, 0 to 8, is the word itself.

unfoldable pub count_of : ℕ → Option ℕ
count_of w = if nat_le w 8 then Some w else None

-- THE HEAD OF AN OFFER
-- Bits 0-2 are the direction: 0 Never, 1 Send, 2 Recv, 3 Always, 4 OnNack, 5 OnEnd. Bits 3-10 are the channel of Send
-- and Recv, 11-16 the thread of the nack of OnNack or the thread of OnEnd, 17-22 the number of the nack, 23-24 the
-- number of atoms of Send and Always, 25-28 the scopes.

abbrev pub direction_bits : Direction → ℕ
direction_bits Never = 0
direction_bits (Send chan atoms) = 1 + chan * 2 ^ 3 + atoms * 2 ^ 23
direction_bits (Recv chan) = 2 + chan * 2 ^ 3
direction_bits (Always atoms) = 3 + atoms * 2 ^ 23
direction_bits (OnNack n) = 4 + n.thread * 2 ^ 11 + n.k * 2 ^ 17
direction_bits (OnEnd thread) = 5 + thread * 2 ^ 11

unfoldable pub head_word : Head → ℕ
head_word h = direction_bits h.direction + h.scopes * 2 ^ 25

pub record IsNackInRange (n : NackName) : Type 0 where
  pub thread : n.thread < 64
  pub k : n.k < 64

abbrev pub IsDirectionInRange : Direction → Type 0
IsDirectionInRange Never = Unit {0}
IsDirectionInRange (Send chan atoms) = (chan < 256) × (atoms < 4)
IsDirectionInRange (Recv chan) = chan < 256
IsDirectionInRange (Always atoms) = atoms < 4
IsDirectionInRange (OnNack n) = IsNackInRange n
IsDirectionInRange (OnEnd thread) = thread < 64

pub record IsHeadInRange (h : Head) : Type 0 where
  pub direction : IsDirectionInRange h.direction
  pub scopes : h.scopes < 16

abbrev pub direction_fields : ℕ → Direction
direction_fields w =
    if field w 0 3 == 1
    then Send (field w 3 8) (field w 23 2)
    else (if field w 0 3 == 2
    then Recv (field w 3 8)
    else (if field w 0 3 == 3
    then Always (field w 23 2)
    else (if field w 0 3 == 4
    then OnNack (record { thread = field w 11 6; k = field w 17 6 })
    else (if field w 0 3 == 5 then OnEnd (field w 11 6) else Never))))

abbrev pub head_fields : ℕ → Head
head_fields w = record { direction = direction_fields w; scopes = field w 25 4 }

unfoldable pub head_of : ℕ → Option Head
head_of w = if head_word (head_fields w) == w then Some (head_fields w) else None

-- AN ATOM
-- Bits 0-1 are the kind: 0 number, 1 channel, 2 nack. Bits 2-33 are the number, the channel, or 64 times the nack's
-- thread plus its number.

unfoldable pub atom_word : Atom → ℕ
atom_word (Num n) = n * 2 ^ 2
atom_word (Chan c) = 1 + c * 2 ^ 2
atom_word (Nack n) = 2 + (n.thread * 64 + n.k) * 2 ^ 2

abbrev pub IsAtomInRange : Atom → Type 0
IsAtomInRange (Num n) = n < 2 ^ 32
IsAtomInRange (Chan c) = c < 256
IsAtomInRange (Nack n) = IsNackInRange n

abbrev pub atom_fields : ℕ → Atom
atom_fields w =
    if field w 0 2 == 1
    then Chan (field w 2 8)
    else (if field w 0 2 == 2 then Nack (record { thread = field w 8 6; k = field w 2 6 }) else Num (field w 2 32))

unfoldable pub atom_of : ℕ → Option Atom
atom_of w = if atom_word (atom_fields w) == w then Some (atom_fields w) else None

-- A NACK
-- Bit 0 is one where the nack is bound or carried. Where it is bound, bits 1-10 are the sync, 11-12 the scope. Bit 13 is
-- one where an earlier table settled it, and then bits 14-45 are the stamp at which it was enabled, 0 where it never is.

unfoldable pub nack_word : NackWord → ℕ
nack_word Unbound = 0
nack_word (Bound b) = 1 + b.sync * 2 + b.scope * 2 ^ 11
nack_word (Carried stamp) = 1 + 2 ^ 13 + stamp * 2 ^ 14

pub record IsBindingInRange (b : Binding) : Type 0 where
  pub sync : b.sync < 1024
  pub scope : b.scope < 4

abbrev pub IsNackWordInRange : NackWord → Type 0
IsNackWordInRange Unbound = Unit {0}
IsNackWordInRange (Bound b) = IsBindingInRange b
IsNackWordInRange (Carried stamp) = stamp < 2 ^ 32

abbrev pub nack_fields : ℕ → NackWord
nack_fields w =
    if field w 0 1 == 1
    then (if field w 13 1 == 1 then Carried (field w 14 32) else Bound (record { sync = field w 1 10; scope = field w 11 2 }))
    else Unbound

unfoldable pub nack_of : ℕ → Option NackWord
nack_of w = if nack_word (nack_fields w) == w then Some (nack_fields w) else None

-- A LIFE: where a thread is on its course
-- Bit 0 is one where the thread has started, and bits 1-32 are its start stamp; bit 33 is one where it has ended, and
-- bits 34-44 are the sync at its end, 0 to 1024.

unfoldable pub course_word : Course → ℕ
course_word Unstarted = 0
course_word (Running start) = 1 + start * 2
course_word (Ended start sync) = 1 + start * 2 + 2 ^ 33 + sync * 2 ^ 34

abbrev pub IsCourseInRange : Course → Type 0
IsCourseInRange Unstarted = Unit {0}
IsCourseInRange (Running start) = start < 2 ^ 32
IsCourseInRange (Ended start sync) = (start < 2 ^ 32) × (sync ≤ 1024)

abbrev pub course_fields : ℕ → Course
course_fields w =
    if field w 0 1 == 1
    then (if field w 33 1 == 1 then Ended (field w 1 32) (field w 34 11) else Running (field w 1 32))
    else Unstarted

-- no thread ends past the last row that a table can have
abbrev pub ends_in_a_table : Course → Bool
ends_in_a_table Unstarted = true
ends_in_a_table (Running start) = true
ends_in_a_table (Ended start sync) = nat_le sync 1024

unfoldable pub course_of : ℕ → Option Course
course_of w = if (course_word (course_fields w) == w) && ends_in_a_table (course_fields w) then Some (course_fields w) else None

-- A WHOLE OFFER is the head and the three atoms; the atoms past the number in the head are not looked at.

abbrev pub message_of : ℕ → Atom → Atom → Atom → Message
message_of n a b c =
    if n == 0 then Empty else (if n == 1 then One a else (if n == 2 then Two a b else Three a b c))

abbrev pub base_of : Direction → Atom → Atom → Atom → Base
base_of Never a b c = base.Never
base_of (Send chan atoms) a b c = base.Send chan (message_of atoms a b c)
base_of (Recv chan) a b c = base.Recv chan
base_of (Always atoms) a b c = base.Always (message_of atoms a b c)
base_of (OnNack n) a b c = base.OnNack n
base_of (OnEnd thread) a b c = base.OnEnd thread

infixl 10 ◌>>=◌
abbrev pub ◌>>=◌ : {A B : Type 0} → Option A → (A → Option B) → Option B
o >>= f = option_and_then f o

unfoldable pub offer_of : ℕ → ℕ → ℕ → ℕ → Option Offer
offer_of head first second third = do
  h ← head_of head
  a ← atom_of first
  b ← atom_of second
  c ← atom_of third
  Some (record { base = base_of h.direction a b c; scopes = h.scopes })

-- messages, base events and offers that the words have room for
abbrev pub IsMessageInRange : Message → Type 0
IsMessageInRange Empty = Unit {0}
IsMessageInRange (One a) = IsAtomInRange a
IsMessageInRange (Two a b) = IsAtomInRange a × IsAtomInRange b
IsMessageInRange (Three a b c) = IsAtomInRange a × IsAtomInRange b × IsAtomInRange c

abbrev pub IsBaseInRange : Base → Type 0
IsBaseInRange (base.Send chan message) = (chan < 256) × IsMessageInRange message
IsBaseInRange (base.Recv chan) = chan < 256
IsBaseInRange (base.Always message) = IsMessageInRange message
IsBaseInRange (base.OnNack n) = IsNackInRange n
IsBaseInRange (base.OnEnd thread) = thread < 64
IsBaseInRange base.Never = Unit {0}

pub record IsOfferInRange (o : Offer) : Type 0 where
  pub base : IsBaseInRange o.base
  pub scopes : o.scopes < 16

abbrev pub atom_count : Message → ℕ
atom_count Empty = 0
atom_count (One a) = 1
atom_count (Two a b) = 2
atom_count (Three a b c) = 3

-- the message of a base event, empty where it has none
abbrev pub message_in : Base → Message
message_in (base.Send chan message) = message
message_in (base.Recv chan) = Empty
message_in (base.Always message) = message
message_in (base.OnNack n) = Empty
message_in (base.OnEnd thread) = Empty
message_in base.Never = Empty

abbrev pub direction_in : Base → Direction
direction_in (base.Send chan message) = Send chan (atom_count message)
direction_in (base.Recv chan) = Recv chan
direction_in (base.Always message) = Always (atom_count message)
direction_in (base.OnNack n) = OnNack n
direction_in (base.OnEnd thread) = OnEnd thread
direction_in base.Never = Never

abbrev pub head_in : Offer → Head
head_in o = record { direction = direction_in o.base; scopes = o.scopes }

-- the words of a message's atoms, 0 past the last
abbrev pub first_word : Message → ℕ
first_word Empty = 0
first_word (One a) = atom_word a
first_word (Two a b) = atom_word a
first_word (Three a b c) = atom_word a

abbrev pub second_word : Message → ℕ
second_word Empty = 0
second_word (One a) = 0
second_word (Two a b) = atom_word b
second_word (Three a b c) = atom_word b

abbrev pub third_word : Message → ℕ
third_word Empty = 0
third_word (One a) = 0
third_word (Two a b) = 0
third_word (Three a b c) = atom_word c

-- the four words of an offer: the head, and the three atoms
abbrev pub offer_words : Offer → List ℕ
offer_words o =
    head_word (head_in o) ∷ first_word (message_in o.base) ∷ second_word (message_in o.base) ∷ third_word (message_in o.base) ∷ []

-- THE PLACES of a row: 0 the cell, 1 the number of offers, 2 + 4n the head of offer n, 3 + 4n to 5 + 4n its atoms.

unfoldable pub is_word_for : ℕ → ℕ → Bool
is_word_for place w =
    if place == 0
    then is_some (cell_of w)
    else (if place == 1
    then is_some (count_of w)
    else (if (place - 2) % 4 == 0 then is_some (head_of w) else is_some (atom_of w)))
