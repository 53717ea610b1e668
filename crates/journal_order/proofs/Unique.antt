-- There is one list of a run's commits in the journal's order.
use Rattle.std.proofs.Common.{◌≡◌, ◌⊎◌, ℕ, zero, suc, ◌+◌, ◌<◌, ◌≤◌, Bool, true, false, ◌&&◌, eqb, List, [], ◌∷◌, length, get_or, Contains, refl, sym, ap, ◌∙◌, subst, arith, inl, inr, ⊎_elim}
use Rattle.std.specs.List.{IsDistinct}
use Rattle.std.specs.Cmp.{IsTotalOrder}
use Rattle.std.specs.Ordering.{is_lt}
use Rattle.std.proofs.lemmas.Bool.{and_parts, and_from, eqb-true, eq-eqb, false_from_ne_true, true≢false}
use Rattle.std.proofs.lemmas.Cmp.{nat_cmp_total, nat_eq_equiv, on_total, then_total}
use Rattle.std.proofs.lemmas.List.Elements.{All-contains, All-from_recursion}
use Rattle.std.proofs.lemmas.List.Sorted.{ranks_by, sorted_far}
use Rattle.std.proofs.lemmas.Map.Keys.{IsDistinct-from_apart, IsDistinct-head, IsDistinct-tail}
use Rattle.std.proofs.lemmas.Option.{slice_get-get_or}
use Rattle.script_tree.specs.Processes.{Proc}
use Rattle.protocol_values.specs.declared.Commit.{Commit}
use Rattle.protocol_values.specs.declared.Commit.TheVariants.{Pair, Alone}
use Rattle.protocol_values.specs.Commits.{IsInOrder, first_thread, order_cmp, order_of, stamp_of}
use Rattle.journal_replay.specs.Runs.{HasThread, IsRun}
use Rattle.journal_order.proofs.Keys.{Key, up-to-both, up-to-from-test, test-from-up-to}
use Rattle.journal_order.proofs.Sorting.{Ascends, Before}
use Rattle.journal_order.proofs.Stamps.{one-stamp}

-- IN ORDER, as a sort says it, and from the front

order-is-total : IsTotalOrder order_cmp
order-is-total = then_total (on_total (λ (k : Key). k.0) nat_cmp_total) (on_total (λ (k : Key). k.1) nat_cmp_total)

abbrev IsBelow : Commit → Commit → Bool
IsBelow c d = is_lt (order_cmp (order_of c) (order_of d))

ascends-far : (cs : List Commit) → ((i j : ℕ) (d : Commit) → i ≤ j → j < length cs → IsBelow (get_or cs j d) (get_or cs i d) ≡ false) → Ascends cs
ascends-far [] far = tt
ascends-far (c ∷ cs) far = (
  λ k d within. up-to-from-test (order_of (get_or cs k d)) (order_of c) (far zero (suc k) d (omega arith) (omega (arith, within))),
  ascends-far cs (λ i j d le within. far (suc i) (suc j) d (omega (arith, le)) (omega (arith, within))),
)

pub ascends-from-order : (cs : List Commit) → IsInOrder cs → Ascends cs
ascends-from-order cs sorted = ascends-far cs (sorted_far IsBelow (ranks_by order-is-total order_of) cs sorted)

far-from-ascends : (cs : List Commit) → Ascends cs → (i j : ℕ) (d : Commit) → i < j → j < length cs → Before (get_or cs i d) (get_or cs j d)
far-from-ascends [] up i j d lt within = absurd (omega (arith, within))
far-from-ascends (c ∷ cs) up zero zero d lt within = absurd (omega (arith, lt))
far-from-ascends (c ∷ cs) up zero (suc j) d lt within = up.0 j d (omega (arith, within))
far-from-ascends (c ∷ cs) up (suc i) zero d lt within = absurd (omega (arith, lt))
far-from-ascends (c ∷ cs) up (suc i) (suc j) d lt within = far-from-ascends cs up.1 i j d (omega (arith, lt)) (omega (arith, within))

pub order-from-ascends : (cs : List Commit) → Ascends cs → IsInOrder cs
order-from-ascends cs up = λ k d low within.
    test-from-up-to (order_of (get_or cs (k + 1) d)) (order_of (get_or cs k d)) (far-from-ascends cs up k (k + 1) d (omega arith) within)

-- EACH KEY ONCE

abbrev pub same_key : Commit → Commit → Bool
same_key c d = eqb (stamp_of c) (stamp_of d) && eqb (first_thread c) (first_thread d)

pub key-flips : (c d : Commit) → same_key c d ≡ same_key d c
key-flips c d =
    ap (λ (b : Bool). b && eqb (first_thread c) (first_thread d)) (nat_eq_equiv.symm (stamp_of c) (stamp_of d))
    ∙ ap (λ (b : Bool). eqb (stamp_of d) (stamp_of c) && b) (nat_eq_equiv.symm (first_thread c) (first_thread d))

key-itself : (c : Commit) → same_key c c ≡ true
key-itself c = and_from _ _ (eq-eqb (stamp_of c) (stamp_of c) refl) (eq-eqb (first_thread c) (first_thread c) refl)

has-first : (c : Commit) → HasThread c (first_thread c)
has-first (Pair sender receiver chan msg stamp) = inl refl
has-first (Alone at why stamp) = refl

-- two commits of a run differ by their keys
pub distinct : (ps : List Proc) (rows : ℕ) (journal : List Commit) → IsRun ps rows journal → IsDistinct same_key journal
distinct ps rows journal run = IsDistinct-from_apart same_key journal (λ i j x lt within. false_from_ne_true _ (λ same.
    let c = get_or journal i x in
    let d = get_or journal j x in
    let parts = and_parts (eqb (stamp_of c) (stamp_of d)) (eqb (first_thread c) (first_thread d)) same in
    let stamps : stamp_of c ≡ stamp_of d = eqb-true (stamp_of c) (stamp_of d) parts.0 in
    let threads : first_thread d ≡ first_thread c = sym (eqb-true (first_thread c) (first_thread d) parts.1) in
    let place : i ≡ j = one-stamp ps rows journal run i j c d (first_thread c)
    (slice_get-get_or journal i x (omega (arith, lt, within))) (slice_get-get_or journal j x within)
    (has-first c) (subst (HasThread d) threads (has-first d)) stamps in
    absurd (omega (arith, lt, place))))

-- ONE LIST

in-front : (x z : Commit) (xs : List Commit) → Contains (x ∷ xs) z → (x ≡ z) ⊎ Contains xs z
in-front x z xs (zero, within, is) = inl is
in-front x z xs (suc k, within, is) = inr (k, omega (arith, within), is)

first-in : (x : Commit) (xs : List Commit) → Contains (x ∷ xs) x
first-in x xs = (zero, omega arith, refl)

later-in : (x z : Commit) (xs : List Commit) → Contains xs z → Contains (x ∷ xs) z
later-in x z xs (k, within, is) = (suc k, omega (arith, within), is)

-- no later commit has the key of the first
other-keys : (x z : Commit) (xs : List Commit) → IsDistinct same_key (x ∷ xs) → Contains xs z → same_key x z ≡ true → ⊥
other-keys x z xs apart there same =
    true≢false (sym same ∙ All-contains (λ y. same_key x y ≡ false) xs z (All-from_recursion (λ y. same_key x y ≡ false) xs (IsDistinct-head same_key x xs apart)) there)

same-first : (x y : Commit) (xs ys : List Commit) → Ascends (x ∷ xs) → Ascends (y ∷ ys) → IsDistinct same_key (x ∷ xs) → Contains (y ∷ ys) x → Contains (x ∷ xs) y → x ≡ y
same-first x y xs ys up down apart h k = ⊎_elim
    (λ e. sym e)
    (λ behind. ⊎_elim
    (λ e. e)
    (λ there.
    let keys = up-to-both (order_of x) (order_of y) (All-contains (Before x) xs y up.0 there) (All-contains (Before y) ys x down.0 behind) in
    absurd (other-keys x y xs apart there (and_from _ _ (eq-eqb (stamp_of x) (stamp_of y) keys.0) (eq-eqb (first_thread x) (first_thread y) keys.1))))
    (in-front x y xs k))
    (in-front y x ys h)

-- what stands behind the first stands behind it in the other list too
behind-first : (x z : Commit) (xs ys : List Commit) → IsDistinct same_key (x ∷ xs) → Contains xs z → Contains (x ∷ ys) z → Contains ys z
behind-first x z xs ys apart there h = ⊎_elim
    (λ e. absurd (other-keys x z xs apart there (subst (λ (v : Commit). same_key x v ≡ true) e (key-itself x))))
    (λ later. later)
    (in-front x z ys h)

pub one-list : (xs ys : List Commit) → Ascends xs → Ascends ys → IsDistinct same_key xs → IsDistinct same_key ys →
    ((z : Commit) → Contains xs z → Contains ys z) → ((z : Commit) → Contains ys z → Contains xs z) → xs ≡ ys
one-list [] [] up down apart distinct to from = refl
one-list [] (y ∷ ys) up down apart distinct to from = absurd (omega (arith, (from y (first-in y ys)).1))
one-list (x ∷ xs) [] up down apart distinct to from = absurd (omega (arith, (to x (first-in x xs)).1))
one-list (x ∷ xs) (y ∷ ys) up down apart distinct to from =
    let first : x ≡ y = same-first x y xs ys up down apart (to x (first-in x xs)) (from y (first-in y ys)) in
    let rest : xs ≡ ys = one-list xs ys up.1 down.1 (IsDistinct-tail same_key x xs apart) (IsDistinct-tail same_key y ys distinct)
    (λ z h. behind-first x z xs ys apart h (subst (λ (v : Commit). Contains (v ∷ ys) z) (sym first) (to z (later-in x z xs h))))
    (λ z h. behind-first y z ys xs distinct h (subst (λ (v : Commit). Contains (v ∷ xs) z) first (from z (later-in y z ys h)))) in
    ap (λ (v : Commit). v ∷ xs) first ∙ ap (λ (vs : List Commit). y ∷ vs) rest
