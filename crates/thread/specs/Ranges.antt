-- Nacks and threads in the range that the words have room for. Numbers and channels are in theirs by their types.
use Rattle.std.specs.Prelude.{◌<◌, List, All, ⊤}
use Rattle.protocol_values.specs.Words.{IsNackInRange}
use Rattle.protocol_values.specs.declared.Atom.{Atom}
use Rattle.protocol_values.specs.declared.Atom.TheVariants.{Num, Chan, Nack}
use Rattle.protocol_values.specs.declared.Message.{Message}
use Rattle.protocol_values.specs.declared.Message.TheVariants.{Empty, One, Two, Three}
use Rattle.protocol_values.specs.declared.Base.{Base}
use Rattle.protocol_values.specs.declared.Base.TheVariants.{Send, Recv, Always, OnNack, OnEnd, Never}
use Rattle.protocol_values.specs.declared.Offer.{Offer}
use Rattle.thread.specs.After.{Chosen}

abbrev pub AtomIsIn : Atom → Type 0
AtomIsIn (Num n) = ⊤
AtomIsIn (Chan c) = ⊤
AtomIsIn (Nack n) = IsNackInRange n

abbrev pub MessageIsIn : Message → Type 0
MessageIsIn Empty = ⊤
MessageIsIn (One a) = AtomIsIn a
MessageIsIn (Two a b) = AtomIsIn a × AtomIsIn b
MessageIsIn (Three a b c) = AtomIsIn a × (AtomIsIn b × AtomIsIn c)

abbrev pub BaseIsIn : Base → Type 0
BaseIsIn (Send channel message) = MessageIsIn message
BaseIsIn (Recv channel) = ⊤
BaseIsIn (Always message) = MessageIsIn message
BaseIsIn (OnNack n) = IsNackInRange n
BaseIsIn (OnEnd thread) = thread < 64
BaseIsIn Never = ⊤

abbrev pub OffersAreIn : List Offer → Type 0
OffersAreIn offers = All (λ o. BaseIsIn o.base) offers

abbrev pub ResultsAreIn : List Chosen → Type 0
ResultsAreIn results = All (λ r. MessageIsIn r.1) results
