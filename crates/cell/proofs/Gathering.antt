-- All passes of a table leave it to one of them.
use Rattle.std.proofs.Common.{◌⊎◌, ◌≡◌, ◌+◌, ◌<◌, ◌≤◌, ℕ, zero, suc, List, [], ◌∷◌, ◌++◌, Contains, length, refl, ap, ◌∙◌, inl, inr, ⊎_elim, subst, sym, arith}
use Rattle.std.specs.Prelude.{slice_index_or}
use Rattle.std.proofs.lemmas.List.{length-append}
use Rattle.protocol_values.specs.declared.Step.{Step}
use Rattle.cell_table.specs.Sight.{Has}
use Rattle.cell.specs.Calls.{GathererOf, HasSteps, PassOf}
use Rattle.cell.specs.Hearing.{HasGathered}
use Rattle.cell.proofs.Hearing.{has_left, has_right}

has_from : {A : Type 0} (xs : List A) (k : ℕ) (x : A) → k < length xs → slice_index_or xs k x ≡ x → Has xs x
has_from [] k x low e = absurd (omega (arith, low))
has_from (y ∷ xs) zero x low e = inl e
has_from (y ∷ xs) (suc k) x low e = inr (has_from xs k x (omega (arith, low)) e)

pub contains_has : {A : Type 0} (xs : List A) (x : A) → Contains xs x → Has xs x
contains_has xs x c = has_from xs c.0 x c.1 c.2

pub has_contains : {A : Type 0} (xs : List A) (x : A) → Has xs x → Contains xs x
has_contains [] x h = absurd h
has_contains (y ∷ xs) x (inl e) = (0, omega arith, e)
has_contains (y ∷ xs) x (inr h) = let c = has_contains xs x h in (suc c.0, (let low = c.1 in omega (arith, low)), c.2)

in_either : {A : Type 0} (xs ys : List A) (x : A) → Has (xs ++ ys) x → Has xs x ⊎ Has ys x
in_either [] ys x h = inr h
in_either (y ∷ xs) ys x (inl e) = inl (inl e)
in_either (y ∷ xs) ys x (inr h) = ⊎_elim (λ (a : Has xs x). inl (inr a)) (λ (b : Has ys x). inr b) (in_either xs ys x h)

module _ {M : Type 0} where
  -- the first one is there, and the others are left
  pub gathers_first : (passes others : List (PassOf M)) (first : GathererOf M) → passes ≡ others ++ first.pass ∷ [] → HasGathered passes others first
  gathers_first passes others first is = record {
    before = first.gathered;
    count = let size : length passes ≡ length others + 1 = ap (λ (l : List (PassOf M)). length l) is ∙ length-append others (first.pass ∷ []) in omega (arith, size);
    own = (first.pass, subst (λ (l : List (PassOf M)). Has l first.pass) (sym is) (has_right others (first.pass ∷ []) first.pass (inl refl)), refl);
    from = λ seat steps h. inl h;
    each = λ q h. ⊎_elim
        (λ (other : Has others q). inr other)
        (λ (one : Has (first.pass ∷ []) q). inl (inl (⊎_elim (λ (e : first.pass ≡ q). ap (λ (p : PassOf M). p.made) (sym e)) (λ (no : ⊥). absurd no) one)))
        (in_either others (first.pass ∷ []) q (subst (λ (l : List (PassOf M)). Has l q) is h));
    within = λ q h. subst (λ (l : List (PassOf M)). Has l q) (sym is) (has_left others (first.pass ∷ []) q h);
  }

  -- one more leaves
  pub gathers_next : (passes left : List (PassOf M)) (from : PassOf M) (to new : GathererOf M) (seat : ℕ) → HasGathered passes (from ∷ left) to → new.pass.made ≡ to.pass.made → new.gathered ≡ to.gathered ++ (seat, from.made) ∷ [] → HasGathered passes left new
  gathers_next passes left from to new seat h made gathered = record {
    before = h.before;
    count = let size : length new.gathered ≡ length to.gathered + 1 = ap (λ (l : List (ℕ × List Step)). length l) gathered ∙ length-append to.gathered ((seat, from.made) ∷ []) in let was = h.count in omega (arith, size, was);
    own = (h.own.0, h.own.1, h.own.2 ∙ sym made);
    from = λ k steps g. ⊎_elim
        (λ (old : Has to.gathered (k, steps)). h.from k steps old)
        (λ (now : Has ((seat, from.made) ∷ []) (k, steps)). inr (from, h.within from (inl refl), ⊎_elim (λ e. ap (λ (z : ℕ × List Step). z.1) e) (λ (no : ⊥). absurd no) now))
        (in_either to.gathered ((seat, from.made) ∷ []) (k, steps) (subst (λ (l : List (ℕ × List Step)). Has l (k, steps)) gathered g));
    each = λ q i. each_of q (h.each q i);
    within = λ q i. h.within q (inr i);
  }
    where
      each_of : (q : PassOf M) → HasSteps to q.made ⊎ Has (from ∷ left) q → HasSteps new q.made ⊎ Has left q
      each_of q (inl (inl e)) = inl (inl (e ∙ sym made))
      each_of q (inl (inr g)) = inl (inr (g.0, subst (λ (l : List (ℕ × List Step)). Has l (g.0, q.made)) (sym gathered) (has_left to.gathered ((seat, from.made) ∷ []) (g.0, q.made) g.1)))
      each_of q (inr (inl same)) = inl (inr (seat, subst (λ (l : List (ℕ × List Step)). Has l (seat, q.made)) (sym gathered) (has_right to.gathered ((seat, from.made) ∷ []) (seat, q.made) (inl (ap (λ (p : PassOf M). (seat, p.made)) same)))))
      each_of q (inr (inr i)) = inr i

  -- WHERE ALL HAVE LEFT, and they are as many as the table has, these are the only steps
  module _ (passes : List (PassOf M)) (p : GathererOf M) (count : ℕ) (h : HasGathered passes [] p) (few : length p.gathered + 1 ≤ count) (all : count ≤ length passes) where
    pub all_gathered : count ≤ length p.gathered + 1
    all_gathered = let size = h.count in omega (arith, size, few, all)

    none_before : (l : List (ℕ × List Step)) (x : ℕ × List Step) → length l ≡ 0 → Has l x → ⊥
    none_before [] x e i = i
    none_before (y ∷ l) x e i = omega (arith, e)

    pub of_one : (steps : List Step) → HasSteps p steps → (q : PassOf M) × Has passes q × (q.made ≡ steps)
    of_one steps (inl e) = (h.own.0, h.own.1, h.own.2 ∙ sym e)
    of_one steps (inr g) = ⊎_elim
        (λ (old : Has h.before (g.0, steps)). absurd (none_before h.before (g.0, steps) (let size = h.count in omega (arith, size, few, all)) old))
        (λ (o : (q : PassOf M) × Has passes q × (q.made ≡ steps)). o)
        (h.from g.0 steps g.1)

    pub has_steps : (q : PassOf M) → Has passes q → HasSteps p q.made
    has_steps q i = ⊎_elim (λ (o : HasSteps p q.made). o) (λ (no : ⊥). absurd no) (h.each q i)
