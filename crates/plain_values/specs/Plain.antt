-- What structs of numbers stand for.
use Rattle.std.specs.Prelude.{◌≡◌, ℕ, ◌+◌, ◌*◌, Option, Some, None, min, List, slice_get}
use Rattle.protocol_values.specs.Words.{IsOfferInRange}
use Rattle.protocol_values.specs.declared.Atom.{Atom}
use Rattle.protocol_values.specs.declared.Atom.TheVariants.{Num, Chan, Nack}
use Rattle.protocol_values.specs.declared.Message.{Message}
use Rattle.protocol_values.specs.declared.Message.TheVariants.{Empty, One, Two, Three}
use Rattle.protocol_values.specs.declared.Base.{Base}
use Rattle.protocol_values.specs.declared.Base.TheVariants.{Send, Recv, Always, OnNack, OnEnd, Never}
use Rattle.protocol_values.specs.declared.Offer.{Offer}
use Rattle.protocol_values.specs.declared.NackName.{NackName}
use Rattle.protocol_values.specs.declared.Row.{Row}
use Rattle.protocol_values.specs.declared.Joined.{Joined}
use Rattle.protocol_values.specs.declared.Cause.{Cause}
use Rattle.protocol_values.specs.declared.Cause.TheVariants as cause
use Rattle.protocol_values.specs.declared.Commit.{Commit}
use Rattle.protocol_values.specs.declared.Commit.TheVariants.{Pair, Alone}
use Rattle.plain_values.specs.declared.values.PlainAtom.{PlainAtom}
use Rattle.plain_values.specs.declared.values.PlainMessage.{PlainMessage}
use Rattle.plain_values.specs.declared.values.PlainOffer.{PlainOffer}
use Rattle.plain_values.specs.declared.commits.PlainRow.{PlainRow}
use Rattle.plain_values.specs.declared.commits.PlainJoined.{PlainJoined}
use Rattle.plain_values.specs.declared.commits.PlainCommit.{PlainCommit}

-- the number of a nack: 64 times its thread, plus its number there
abbrev pub nack_number : NackName → ℕ
nack_number n = 64 * n.thread + n.k

abbrev pub IsAtom : PlainAtom → Atom → Type 0
IsAtom p (Num value) = (p.kind ≡ 0) × (p.value ≡ value)
IsAtom p (Chan chan) = (p.kind ≡ 1) × (p.value ≡ chan)
IsAtom p (Nack n) = (p.kind ≡ 2) × (p.value ≡ nack_number n)

-- the atoms past the count are not asked for
abbrev pub IsMessage : PlainMessage → Message → Type 0
IsMessage p Empty = p.count ≡ 0
IsMessage p (One a) = (p.count ≡ 1) × IsAtom p.first a
IsMessage p (Two a b) = (p.count ≡ 2) × IsAtom p.first a × IsAtom p.second b
IsMessage p (Three a b c) = (p.count ≡ 3) × IsAtom p.first a × IsAtom p.second b × IsAtom p.third c

-- a message is asked for where the base event has one, and what the event is of where it is of something
abbrev pub IsBase : PlainOffer → Base → Type 0
IsBase p Never = p.kind ≡ 0
IsBase p (Send chan message) = (p.kind ≡ 1) × (p.of ≡ chan) × IsMessage p.message message
IsBase p (Recv chan) = (p.kind ≡ 2) × (p.of ≡ chan)
IsBase p (Always message) = (p.kind ≡ 3) × IsMessage p.message message
IsBase p (OnNack n) = (p.kind ≡ 4) × (p.of ≡ nack_number n)
IsBase p (OnEnd thread) = (p.kind ≡ 5) × (p.of ≡ thread)

abbrev pub IsOffer : PlainOffer → Offer → Type 0
IsOffer p o = IsBase p o.base × (p.scopes ≡ o.scopes)

-- the structs stand for these offers, in this order
abbrev pub AreListed : List PlainOffer → List Offer → Type 0
AreListed plain offers = (n : ℕ) (p : PlainOffer) → slice_get plain n ≡ Some p → (o : Offer) × (slice_get offers n ≡ Some o) × IsOffer p o

-- one of the structs stands for no offer
abbrev pub NotAll : List PlainOffer → Type 0
NotAll plain = (n : ℕ) × (p : PlainOffer) × (slice_get plain n ≡ Some p) × ((o : Offer) → IsOfferInRange o → ¬ IsOffer p o)

-- A thread above 255 is as thread 255: no table has either.
abbrev pub row_in : PlainRow → Row
row_in p = record { thread = min p.thread 255; sync = p.sync }

abbrev pub plain_row : Row → PlainRow
plain_row r = record { thread = r.thread; sync = r.sync }

-- where the row was committed alone, the partner is row 0 of thread 0, and not asked for
abbrev pub IsPartner : PlainJoined → Option (Row × ℕ) → Type 0
IsPartner p None = p.paired ≡ 0
IsPartner p (Some q) = (p.paired ≡ 1) × (p.partner ≡ plain_row q.0) × (p.theirs ≡ q.1)

abbrev pub IsJoined : PlainJoined → Joined → Type 0
IsJoined p j = (p.own ≡ j.own) × (p.stamp ≡ j.stamp) × IsPartner p j.partner

abbrev pub IsCause : PlainCommit → Cause → Type 0
IsCause p (cause.Always message) = (p.kind ≡ 1) × IsMessage p.message message
IsCause p (cause.Nack n) = (p.kind ≡ 2) × (p.of ≡ nack_number n)
IsCause p (cause.End thread) = (p.kind ≡ 3) × (p.of ≡ thread)

abbrev pub IsCommit : PlainCommit → Commit → Type 0
IsCommit p (Pair sender receiver chan message stamp) =
    (p.kind ≡ 0) × (p.stamp ≡ stamp) × (p.sender ≡ plain_row sender.0) × (p.sent ≡ sender.1) × (p.receiver ≡ plain_row receiver.0) × (p.received ≡ receiver.1)
    × (p.of ≡ chan) × IsMessage p.message message
IsCommit p (Alone at cause stamp) = (p.stamp ≡ stamp) × (p.sender ≡ plain_row at.0) × (p.sent ≡ at.1) × IsCause p cause
