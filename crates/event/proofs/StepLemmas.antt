-- The offers of a part of an event by those of its parts.
use Rattle.std.proofs.Common.{◌≡◌, ℕ, ◌+◌, max, [], ◌∷◌, ◌++◌, bit_or, ◌^◌, sym, ap, ◌∙◌, arith}
use Rattle.std.specs.Int.{bit_at}
use Rattle.std.specs.Int.Bits.{or_zero_l, or_zero_r}
use Rattle.std.proofs.lemmas.List.{map-append}
use Rattle.std.proofs.lemmas.Nat.Bits.{bit_at_or, same_from_bits}
use Rattle.event.proofs.TreeLemmas.{map-same, map-map}
use Rattle.event.specs.Steps.{offer_within, offers_within}
use Rattle.event.specs.Tree.{Tree, Single, Or, Wrap, Scope, with_wrap, with_scope, bases_from, bases, scope_count, mask, offer_of, offers}
use Rattle.protocol_values.specs.declared.Base.{Base}

or_assoc : (a b c : ℕ) → bit_or (bit_or a b) c ≡ bit_or a (bit_or b c)
or_assoc a b c = same_from_bits _ _ (λ i.
    bit_at_or (bit_or a b) c i ∙ ap (λ x. max x (bit_at c i)) (bit_at_or a b i)
    ∙ max_assoc (bit_at a i) (bit_at b i) (bit_at c i)
    ∙ sym (bit_at_or a (bit_or b c) i ∙ ap (max (bit_at a i)) (bit_at_or b c i)))
  where
    max_assoc : (x y z : ℕ) → max (max x y) z ≡ max x (max y z)
    max_assoc x y z = omega arith

module _ (around next : ℕ) where
  pub offers_within-Single : (b : Base) → offers_within around next (Single b) ≡ record { base = b; scopes = around } ∷ []
  offers_within-Single b = ap (λ m. record { base = b; scopes = m } ∷ []) (or_zero_r around)

  pub offers_within-Or : (a b : Tree) →
      offers_within around next (Or a b) ≡ offers_within around next a ++ offers_within around (next + scope_count a) b
  offers_within-Or a b = map-append (offer_within around) (bases_from next a) _

  pub offers_within-Wrap : (wrap : ℕ) (t : Tree) → offers_within around next (Wrap wrap t) ≡ offers_within around next t
  offers_within-Wrap wrap t = map-map (offer_within around) (with_wrap wrap) (bases_from next t)

  pub offers_within-Scope : (nack : ℕ) (t : Tree) →
      offers_within around next (Scope nack t) ≡ offers_within (bit_or around (2 ^ next)) (next + 1) t
  offers_within-Scope nack t =
      map-map (offer_within around) (with_scope next) (bases_from (next + 1) t)
      ∙ map-same _ (offer_within (bit_or around (2 ^ next)))
      (λ b. ap (λ m. record { base = b.base; scopes = m }) (sym (or_assoc around (2 ^ next) (mask b.scopes)))) _

pub offers_within-offers : (t : Tree) → offers_within 0 0 t ≡ offers t
offers_within-offers t = map-same _ offer_of (λ b. ap (λ m. record { base = b.base; scopes = m }) (or_zero_l (mask b.scopes))) (bases t)
