-- `==` of what a message is made of, and of what an offer is, is being the same.
use Rattle.std.proofs.Common.{rules, ◌≡◌, IsTrue, Bool, ap, subst, eqb, eqb-true}
use Rattle.std.specs.Cmp.{IsEquivalence}
use Rattle.std.proofs.lemmas.Bool.{and_parts}
use Rattle.protocol_values.specs.Equality.{IsEquality}
use Rattle.protocol_values.specs.declared.Atom.{Atom}
use Rattle.protocol_values.specs.declared.Message.{Message}
use Rattle.protocol_values.specs.declared.Message.TheVariants.{Three}
use Rattle.protocol_values.specs.declared.Base.{Base}
use Rattle.protocol_values.specs.declared.Base.TheVariants.{Send, Always}
use Rattle.protocol_values.specs.contracts.AtomPartialEq.TheImpl as atom
use Rattle.protocol_values.specs.contracts.MessagePartialEq.TheImpl as message
use Rattle.protocol_values.specs.contracts.BasePartialEq.TheImpl as base
use Rattle.protocol_values.specs.contracts.MessageEq.TheImpl.Laws as message_laws
use Rattle.protocol_values.specs.contracts.BaseEq.TheImpl.Laws as base_laws

-- an equivalence under which none but the same are equal
equality : {A : Type 0} (eq : A → A → Bool) → IsEquivalence eq → ((left right : A) → IsTrue (eq left right) → left ≡ right) → IsEquality eq
equality eq laws same left right = (same left right, λ e. subst (λ x. IsTrue (eq left x)) e (laws.refl left))

pub atoms : IsEquality atom.ghosts.eq
atoms left right = search rules

same_atom : (left right : Atom) → IsTrue (atom.ghosts.eq left right) → left ≡ right
same_atom left right = (atoms left right).0

same_message : (left right : Message) → IsTrue (message.ghosts.eq left right) → left ≡ right
same_message (Three a b d) (Three x y z) h =
    let first = and_parts (atom.ghosts.eq a x) _ h in
    let second = and_parts (atom.ghosts.eq b y) _ first.1 in
    λ i. Three (same_atom a x first.0 i) (same_atom b y second.0 i) (same_atom d z second.1 i)
same_message left right h = search rules

pub messages : IsEquality message.ghosts.eq
messages = equality message.ghosts.eq message_laws.laws-law same_message

same_base : (left right : Base) → IsTrue (base.ghosts.eq left right) → left ≡ right
same_base (Send c m) (Send d n) h =
    let parts = and_parts (eqb c d) _ h in
    λ i. Send (eqb-true c d parts.0 i) (same_message m n parts.1 i)
same_base (Always m) (Always n) h = ap Always (same_message m n h)
same_base left right h = search rules

pub bases : IsEquality base.ghosts.eq
bases = equality base.ghosts.eq base_laws.laws-law same_base
