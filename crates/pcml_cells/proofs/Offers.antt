-- The offers that were read, without those behind the last one.
use Rattle.std.proofs.Common.{List, length, subst, sym, take, ◌<◌, ◌∙◌, ◌≡◌, ◌≤◌, ℕ, ap}
use Rattle.std.specs.Prelude.{Some}
use Rattle.std.proofs.lemmas.List.{get_or-take, length-take-le}
use Rattle.std.proofs.lemmas.Option.{get_or_from_slice_get, slice_get-get_or, slice_get_within}
use Rattle.protocol_values.specs.declared.Offer.{Offer}
use Rattle.plain_values.specs.Plain.{AreListed}
use Rattle.plain_values.specs.declared.values.PlainOffer.{PlainOffer}

pub few_listed : (plain : List PlainOffer) (all : List Offer) → length plain ≤ length all → AreListed plain all
    → AreListed plain (take (length plain) all) × (length (take (length plain) all) ≡ length plain)
few_listed plain all few listed =
    let m = length plain in
    let size : length (take m all) ≡ m = length-take-le m all few in (
      λ n p e.
          let found = listed n p e in
          let low : n < m = slice_get_within plain n p e in
          let o = found.0 in (
            o,
            slice_get-get_or (take m all) n o (subst (λ (k : ℕ). n < k) (sym size) low)
                ∙ ap (λ (x : Offer). Some x) (get_or-take m all n o low ∙ get_or_from_slice_get all n o o found.1),
            found.2,
          ),
      size,
    )
