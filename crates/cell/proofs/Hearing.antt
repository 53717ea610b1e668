-- What a pass was told, it has seen.
use Rattle.std.proofs.Common.{◌≡◌, ℕ, List, [], ◌∷◌, ◌++◌, inl, inr, subst, sym}
use Rattle.protocol_values.specs.declared.Binding.{Binding}
use Rattle.protocol_values.specs.declared.NackName.{NackName}
use Rattle.protocol_values.specs.declared.Offer.{Offer}
use Rattle.protocol_values.specs.declared.Row.{Row}
use Rattle.protocol_ledger.specs.Standing.{Result}
use Rattle.cell_table.specs.declared.view.Seen.{Seen}
use Rattle.cell_table.specs.Rule.{heard, told_of}
use Rattle.cell_table.specs.Sight.{Has, SeesNoOffer, SeesOffer}
use Rattle.cell_table.proofs.Offers.{have_more}
use Rattle.cell.specs.Calls.{PassOf}
use Rattle.cell.specs.Hearing.{HasHeard}

pub has_right : {A : Type 0} (xs ys : List A) (x : A) → Has ys x → Has (xs ++ ys) x
has_right [] ys x h = h
has_right (y ∷ xs) ys x h = inr (has_right xs ys x h)

pub has_left : {A : Type 0} (xs ys : List A) (x : A) → Has xs x → Has (xs ++ ys) x
has_left [] ys x h = absurd h
has_left (y ∷ xs) ys x (inl e) = inl e
has_left (y ∷ xs) ys x (inr h) = inr (has_left xs ys x h)

-- the words that show an offer, or that there is none, are still there
still_offers : (s told : Seen) (r : Row) (n : ℕ) (o : Offer) → SeesOffer s r n o → SeesOffer (heard s told) r n o
still_offers s told r n o (inl h) = inl (have_more s.words _ r n o (λ x i. has_left s.words told.words x i) h)
still_offers s told r n o (inr h) = inr (has_left s.opened told.opened r h.0, h.1)

still_lacks : (s told : Seen) (r : Row) (n : ℕ) → SeesNoOffer s r n → SeesNoOffer (heard s told) r n
still_lacks s told r n (inl h) = inl (h.0, has_left s.words told.words _ h.1, h.2)
still_lacks s told r n (inr h) = inr (has_left s.opened told.opened r h.0, h.1)

module _ {M : Type 0} where
  pub heard_itself : (p : PassOf M) → HasHeard p p
  heard_itself p = record {
    offers = λ r n o h. h;
    lacks = λ r n h. h;
    joined = λ r j h. h;
    bound = λ n b h. h;
    carried = λ n s h. h;
    started = λ t s h. h;
    ended = λ t g h. h;
    results = λ t rs h. h;
  }

  pub heard_through : (p q r : PassOf M) → HasHeard p q → HasHeard q r → HasHeard p r
  heard_through p q r a b = record {
    offers = λ x n o h. b.offers x n o (a.offers x n o h);
    lacks = λ x n h. b.lacks x n (a.lacks x n h);
    joined = λ x j h. b.joined x j (a.joined x j h);
    bound = λ n x h. b.bound n x (a.bound n x h);
    carried = λ n x h. b.carried n x (a.carried n x h);
    started = λ t s h. b.started t s (a.started t s h);
    ended = λ t g h. b.ended t g (a.ended t g h);
    results = λ t rs h. b.results t rs (a.results t rs h);
  }

  -- what a pass had seen before it was told something, it has seen still
  pub kept : (to new : PassOf M) (told : Seen) (more : List (ℕ × List Result)) → new.seen ≡ heard to.seen told → new.results ≡ to.results ++ more → HasHeard to new
  kept to new told more seen results = record {
    offers = λ r n o h. subst (λ (s : Seen). SeesOffer s r n o) (sym seen) (still_offers to.seen told r n o h);
    lacks = λ r n h. subst (λ (s : Seen). SeesNoOffer s r n) (sym seen) (still_lacks to.seen told r n h);
    joined = λ r j h. subst (λ (s : Seen). Has s.joined (r, j)) (sym seen) (has_left to.seen.joined told.joined (r, j) h);
    bound = λ n b h. subst (λ (s : Seen). Has s.bound (n, b)) (sym seen) (has_left to.seen.bound told.bound (n, b) h);
    carried = λ n st h. subst (λ (s : Seen). Has s.carried (n, st)) (sym seen) (has_left to.seen.carried told.carried (n, st) h);
    started = λ t st h. subst (λ (s : Seen). Has s.started (t, st)) (sym seen) (has_left to.seen.started told.started (t, st) h);
    ended = λ t g h. subst (λ (s : Seen). Has s.ended (t, g)) (sym seen) (has_left to.seen.ended told.ended (t, g) h);
    results = λ t rs h. subst (λ (all : List (ℕ × List Result)). Has all (t, rs)) (sym results) (has_left to.results more (t, rs) h);
  }

  -- and what the other one had seen, it has seen now
  pub told : (from to new : PassOf M) → new.seen ≡ heard to.seen (told_of from.seen) → new.results ≡ to.results ++ from.results
      → ((r : Row) (n : ℕ) (o : Offer) → SeesOffer from.seen r n o → SeesOffer new.seen r n o)
      → ((r : Row) (n : ℕ) → SeesNoOffer from.seen r n → SeesNoOffer new.seen r n)
      → ((n : NackName) (b : Binding) → Has from.seen.bound (n, b) → Has new.seen.bound (n, b)) → HasHeard from new
  told from to new seen results offers lacks bound = record {
    offers = offers;
    lacks = lacks;
    joined = λ r j h. subst (λ (s : Seen). Has s.joined (r, j)) (sym seen) (has_right to.seen.joined from.seen.joined (r, j) h);
    bound = bound;
    carried = λ n st h. subst (λ (s : Seen). Has s.carried (n, st)) (sym seen) (has_right to.seen.carried from.seen.carried (n, st) h);
    started = λ t st h. subst (λ (s : Seen). Has s.started (t, st)) (sym seen) (has_right to.seen.started from.seen.started (t, st) h);
    ended = λ t g h. subst (λ (s : Seen). Has s.ended (t, g)) (sym seen) (has_right to.seen.ended from.seen.ended (t, g) h);
    results = λ t rs h. subst (λ (all : List (ℕ × List Result)). Has all (t, rs)) (sym results) (has_right to.results from.results (t, rs) h);
  }
