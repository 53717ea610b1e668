-- What a pass that has taken part sees of its own offer, also after it was told something.
use Rattle.std.proofs.Common.{◌≡◌, ℕ, ◌≤◌, List, [], ◌∷◌, ◌++◌, subst, sym, refl, inl, inr, unwrap_or}
use Rattle.protocol_values.specs.Words.{count_of}
use Rattle.protocol_values.specs.declared.Offer.{Offer}
use Rattle.protocol_values.specs.declared.Row.{Row}
use Rattle.cell_table.specs.declared.view.Seen.{Seen}
use Rattle.cell_table.specs.Rule.{heard}
use Rattle.cell_table.specs.Sight.{Has, IsDraft, SeesOffer, SeesNoOffer}

one_offer : unwrap_or (count_of 1) 0 ≡ 1
unfolding count_of
one_offer = refl

pub sees_own : (s : Seen) (r : Row) (o : Offer) → Has s.opened r → IsDraft s r (o ∷ []) → SeesOffer s r 0 o
sees_own s r o opened draft = inr (opened, draft.1 0 o refl)

pub sees_no_more : (s : Seen) (r : Row) (o : Offer) (n : ℕ) → Has s.opened r → IsDraft s r (o ∷ []) → 1 ≤ n → SeesNoOffer s r n
sees_no_more s r o n opened draft low = inr (opened, (1, draft.0, subst (λ (k : ℕ). k ≤ n) (sym one_offer) low))

has_left : {A : Type 0} (xs ys : List A) (x : A) → Has xs x → Has (xs ++ ys) x
has_left [] ys x h = absurd h
has_left (y ∷ xs) ys x (inl e) = inl e
has_left (y ∷ xs) ys x (inr h) = inr (has_left xs ys x h)

pub still_opened : (s told : Seen) (r : Row) → Has s.opened r → Has (heard s told).opened r
still_opened s told r h = has_left s.opened told.opened r h
