-- Drafting words of one row leaves what was drafted elsewhere.
use Rattle.std.proofs.Common.{◌≡◌, ℕ, ◌+◌, ◌*◌, ◌<◌, ◌≤◌, Bool, true, false, cond, eqb, ◌&&◌, List, [], ◌∷◌, ◌++◌, sym, refl, ap, ◌∙◌, subst, inl, inr, ⊎_elim, arith, length, slice_get, unwrap_or, Some, None, is_some, leb}
use Rattle.std.proofs.lemmas.Bool.{le-leb, true≢false}
use Rattle.std.proofs.lemmas.List.{append_assoc}
use Rattle.std.proofs.lemmas.Option.{slice_get_within}
use Rattle.std.proofs.Math.Nat.{eq-or-lt_of_le}
use Rattle.protocol_values.specs.Words.{count_of, head_of, offer_of, is_word_for}
use Rattle.protocol_values.specs.declared.Head.{Head}
use Rattle.protocol_values.specs.declared.Offer.{Offer}
use Rattle.protocol_ledger.proofs.Linking.{some_inj}
use Rattle.protocol_values.specs.declared.Row.{Row}
use Rattle.protocol_values.specs.declared.Step.{Step}
use Rattle.protocol_values.specs.declared.Step.TheVariants.{Draft}
use Rattle.protocol_ledger.specs.Tables.{row_eq}
use Rattle.cell_table.specs.declared.view.Seen.{Seen}
use Rattle.cell.specs.Attempts.{OnlyDrafts}
use Rattle.cell_table.proofs.Hearing.{has_either}
use Rattle.cell_table.proofs.Others.{left}
use Rattle.cell_table.specs.Sight.{Has, HasDrafted, HaveOffer, IsDraft, without, see_draft, Redrafts, IsPlaceOf, atoms_behind, atoms_in, atoms_told}

was_one : (r : Row) (p : ℕ) (d : Row × ℕ × ℕ) (ds : List (Row × ℕ × ℕ)) (y : Row × ℕ × ℕ) (b : Bool) → (Has (without r p ds) y → Has ds y) → Has (cond b (without r p ds) (d ∷ without r p ds)) y → Has (d ∷ ds) y
was_one r p d ds y true rest h = inr (rest h)
was_one r p d ds y false rest (inl f) = inl f
was_one r p d ds y false rest (inr h) = inr (rest h)

was : (r : Row) (p : ℕ) (ds : List (Row × ℕ × ℕ)) (y : Row × ℕ × ℕ) → Has (without r p ds) y → Has ds y
was r p [] y h = absurd h
was r p (d ∷ ds) y h = was_one r p d ds y (row_eq d.0 r && eqb d.1 p) (λ i. was r p ds y i) h

pub redrafts_word : (r : Row) (p x : ℕ) (s : Seen) → Redrafts (λ q o. (q ≡ r) × (o ≡ p)) s (see_draft r p x s)
redrafts_word r p x s = record {
  held = refl;
  lasts = refl;
  opened = refl;
  words = refl;
  joined = refl;
  taken = refl;
  bound = refl;
  carried = refl;
  begun = refl;
  started = refl;
  ended = refl;
  kept = λ q o y else_where h. inr (left r p s.drafts q o y else_where h);
  only = λ q o y else_where h. only q o y else_where h;
}
  where
    only : (q : Row) (o y : ℕ) → ¬ ((q ≡ r) × (o ≡ p)) → Has ((r, p, x) ∷ without r p s.drafts) (q, o, y) → Has s.drafts (q, o, y)
    only q o y else_where (inl f) = absurd (else_where (ap (λ (z : Row × ℕ × ℕ). z.0) (sym f), ap (λ (z : Row × ℕ × ℕ). z.1) (sym f)))
    only q o y else_where (inr h) = was r p s.drafts (q, o, y) h

pub redrafts_wider : (Where Wider : Row → ℕ → Type 0) (s t : Seen) → ((q : Row) (o : ℕ) → Where q o → Wider q o) → Redrafts Where s t → Redrafts Wider s t
redrafts_wider Where Wider s t wider f = record {
  held = f.held;
  lasts = f.lasts;
  opened = f.opened;
  words = f.words;
  joined = f.joined;
  taken = f.taken;
  bound = f.bound;
  carried = f.carried;
  begun = f.begun;
  started = f.started;
  ended = f.ended;
  kept = λ q o x out h. f.kept q o x (λ i. out (wider q o i)) h;
  only = λ q o x out h. f.only q o x (λ i. out (wider q o i)) h;
}

pub redrafts_then : (Where : Row → ℕ → Type 0) (s t u : Seen) → Redrafts Where s t → Redrafts Where t u → Redrafts Where s u
redrafts_then Where s t u f g = record {
  held = g.held ∙ f.held;
  lasts = g.lasts ∙ f.lasts;
  opened = g.opened ∙ f.opened;
  words = g.words ∙ f.words;
  joined = g.joined ∙ f.joined;
  taken = g.taken ∙ f.taken;
  bound = g.bound ∙ f.bound;
  carried = g.carried ∙ f.carried;
  begun = g.begun ∙ f.begun;
  started = g.started ∙ f.started;
  ended = g.ended ∙ f.ended;
  kept = λ q o x out h. g.kept q o x out (f.kept q o x out h);
  only = λ q o x out h. f.only q o x out (g.only q o x out h);
}

-- THE WORDS OF ONE OFFER: the head and then the atoms, each at a place of its own
abbrev pub DraftsAt : Row → ℕ → Seen → Seen → Type 0
DraftsAt r p s t = Redrafts (λ q o. (q ≡ r) × (o ≡ p)) s t

pub redrafts_offer : (r : Row) (n : ℕ) (s t u v w : Seen) → DraftsAt r (2 + 4 * n) s t → DraftsAt r (3 + 4 * n) t u → DraftsAt r (4 + 4 * n) u v → DraftsAt r (5 + 4 * n) v w → Redrafts (λ q p. (q ≡ r) × IsPlaceOf n p) s w
redrafts_offer r n s t u v w f g h i =
    let one : (p : ℕ) (x y : Seen) → IsPlaceOf n p → DraftsAt r p x y → Redrafts (λ q o. (q ≡ r) × IsPlaceOf n o) x y =
    λ p x y here d. redrafts_wider (λ q o. (q ≡ r) × (o ≡ p)) (λ q o. (q ≡ r) × IsPlaceOf n o) x y (λ q o is. (is.0, subst (IsPlaceOf n) (sym is.1) here)) d in
    redrafts_then (λ q o. (q ≡ r) × IsPlaceOf n o) s v w
    (redrafts_then (λ q o. (q ≡ r) × IsPlaceOf n o) s u v
    (redrafts_then (λ q o. (q ≡ r) × IsPlaceOf n o) s t u (one (2 + 4 * n) s t (omega arith, omega arith) f) (one (3 + 4 * n) t u (omega arith, omega arith) g))
    (one (4 + 4 * n) u v (omega arith, omega arith) h))
    (one (5 + 4 * n) v w (omega arith, omega arith) i)

pub drafted_offer : (r : Row) (n : ℕ) (o : Offer) (t u v w : Seen) (a b c d atoms : ℕ) (h : Head) → DraftsAt r (3 + 4 * n) t u → DraftsAt r (4 + 4 * n) u v → DraftsAt r (5 + 4 * n) v w
    → Has t.drafts (r, 2 + 4 * n, a) → (leb 1 atoms ≡ true → Has u.drafts (r, 3 + 4 * n, b)) → (leb 2 atoms ≡ true → Has v.drafts (r, 4 + 4 * n, c)) → (leb 3 atoms ≡ true → Has w.drafts (r, 5 + 4 * n, d))
    → head_of a ≡ Some h → atoms ≡ atoms_told h.direction → offer_of a b c d ≡ Some o → HasDrafted w r n o
drafted_offer r n o t u v w a b c d atoms h f g i head first second third is told reads = record {
  head = a;
  has_head = i.kept r (2 + 4 * n) a (λ e. let k = e.1 in omega arith) (g.kept r (2 + 4 * n) a (λ e. let k = e.1 in omega arith) (f.kept r (2 + 4 * n) a (λ e. let k = e.1 in omega arith) head));
  first = b;
  has_first = λ m. i.kept r (3 + 4 * n) b (λ e. let k = e.1 in omega arith) (g.kept r (3 + 4 * n) b (λ e. let k = e.1 in omega arith) (first (asked 1 m)));
  second = c;
  has_second = λ m. i.kept r (4 + 4 * n) c (λ e. let k = e.1 in omega arith) (second (asked 2 m));
  third = d;
  has_third = λ m. third (asked 3 m);
  is = reads;
}
  where
    asked : (j : ℕ) → j ≤ atoms_behind a → leb j atoms ≡ true
    asked j m = le-leb j atoms (subst (λ (x : ℕ). j ≤ x) (ap atoms_in is ∙ sym told) m)

-- WHAT A DRAFT DID
pub one_draft : (r : Row) (p x : ℕ) (before : List Step) → OnlyDrafts r before (Draft r p x ∷ before)
one_draft r p x before = (Draft r p x ∷ [], refl, λ step h. only step h)
  where
    only : (step : Step) → Has (Draft r p x ∷ []) step → (place : ℕ) × (word : ℕ) × (step ≡ Draft r place word)
    only step (inl e) = (p, x, sym e)
    only step (inr h) = absurd h

pub drafts_then : (r : Row) (before between after : List Step) → OnlyDrafts r before between → OnlyDrafts r between after → OnlyDrafts r before after
drafts_then r before between after (first, e, f) (second, g, h) = (
  second ++ first,
  g ∙ ap (λ (l : List Step). second ++ l) e ∙ sym (append_assoc second first before),
  λ step has. ⊎_elim (λ (a : Has second step). h step a) (λ (b : Has first step). f step b) (has_either second first step has),
)

-- A LIST OF OFFERS, drafted one after another
pub record IsDraftedTo (row : Row) (offers : List Offer) (n : ℕ) (s t : Seen) : Type 0 where
  pub others : Redrafts (λ q p. q ≡ row) s t
  pub count : Has t.drafts (row, 1, length offers)
  pub each : (k : ℕ) (o : Offer) → k < n → slice_get offers k ≡ Some o → HaveOffer t.drafts row k o

counted : (count n : ℕ) → count ≤ 8 → n < count → n < unwrap_or (count_of count) 0
unfolding count_of
counted count n few below = ap_cond (leb count 8) (le-leb count 8 few) below
  where
    ap_cond : (b : Bool) → b ≡ true → n < count → n < unwrap_or (cond b (Some count) None) 0
    ap_cond true e h = h
    ap_cond false e h = absurd (true≢false (sym e))

pub count_place : (count : ℕ) → count ≤ 8 → is_word_for 1 count ≡ true
unfolding is_word_for count_of
count_place count few = ap (λ (b : Bool). is_some {T = ℕ} (cond b (Some count) None)) (le-leb count 8 few)

-- the word of a number of offers says that number
pub told_count : (count most : ℕ) → count ≤ 8 → count ≤ most → unwrap_or (count_of count) 0 ≤ most
unfolding count_of
told_count count most few room = subst (λ (b : Bool). unwrap_or (cond b (Some count) None) 0 ≤ most) (sym (le-leb count 8 few)) room

pub drafted_none : (row : Row) (offers : List Offer) (s : Seen) → IsDraftedTo row offers 0 s (see_draft row 1 (length offers) s)
drafted_none row offers s = record {
  others = redrafts_wider (λ q o. (q ≡ row) × (o ≡ 1)) (λ q p. q ≡ row) s _ (λ q o h. h.0) (redrafts_word row 1 (length offers) s);
  count = inl refl;
  each = λ k o h e. absurd (omega arith);
}

pub drafted_more : (row : Row) (offers : List Offer) (n : ℕ) (s t u : Seen) (o : Offer) → length offers ≤ 8 → n < length offers → slice_get offers n ≡ Some o → IsDraftedTo row offers n s t → Redrafts (λ q p. (q ≡ row) × IsPlaceOf n p) t u
    → HasDrafted u row n o
    → IsDraftedTo row offers (n + 1) s u
drafted_more row offers n s t u o few below is so_far redraft drafted = record {
  others = redrafts_then (λ q p. q ≡ row) s t u so_far.others (redrafts_wider (λ q p. (q ≡ row) × IsPlaceOf n p) (λ q p. q ≡ row) t u (λ q p h. h.0) redraft);
  count = count_now;
  each = λ k q low e. ⊎_elim
      (λ (h : k ≡ n). subst (λ (z : ℕ × Offer). HaveOffer u.drafts row z.0 z.1) (λ i. (sym h i, some_inj o q (sym is ∙ ap (slice_get offers) (sym h) ∙ e) i)) here)
      (λ (h : k < n). earlier k q h (so_far.each k q h e))
      (eq-or-lt_of_le (let l : k ≤ n = omega arith in l));
}
  where
    count_now : Has u.drafts (row, 1, length offers)
    count_now = redraft.kept row 1 (length offers) (λ h. let l = h.1.0 in omega arith) so_far.count

    here : HaveOffer u.drafts row n o
    here = record {
      count = length offers;
      counted = count_now;
      below = counted (length offers) n few below;
      head = drafted.head;
      has_head = drafted.has_head;
      first = drafted.first;
      has_first = drafted.has_first;
      second = drafted.second;
      has_second = drafted.has_second;
      third = drafted.third;
      has_third = drafted.has_third;
      is = drafted.is;
    }

    earlier : (k : ℕ) (q : Offer) → k < n → HaveOffer t.drafts row k q → HaveOffer u.drafts row k q
    earlier k q low h = record {
      count = h.count;
      counted = redraft.kept row 1 h.count (λ i. let l = i.1.0 in omega arith) h.counted;
      below = h.below;
      head = h.head;
      has_head = redraft.kept row (2 + 4 * k) h.head (λ i. let l = i.1.0 in omega arith) h.has_head;
      first = h.first;
      has_first = λ m. redraft.kept row (3 + 4 * k) h.first (λ i. let l = i.1.0 in omega arith) (h.has_first m);
      second = h.second;
      has_second = λ m. redraft.kept row (4 + 4 * k) h.second (λ i. let l = i.1.0 in omega arith) (h.has_second m);
      third = h.third;
      has_third = λ m. redraft.kept row (5 + 4 * k) h.third (λ i. let l = i.1.0 in omega arith) (h.has_third m);
      is = h.is;
    }

pub drafted_all : (row : Row) (offers : List Offer) (n : ℕ) (s t : Seen) → length offers ≤ n → IsDraftedTo row offers n s t → IsDraft t row offers
drafted_all row offers n s t past so_far = (so_far.count, λ k o e. so_far.each k o (let l = slice_get_within offers k o e in omega arith) e)
