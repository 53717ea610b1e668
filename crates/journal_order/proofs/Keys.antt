-- Keys by which commits are in order: a stamp, and a thread.
use Rattle.std.proofs.Common.{◌≡◌, ◌⊎◌, ℕ, ◌<◌, ◌≤◌, false, sym, ap, ◌∙◌, arith, inl, inr, ⊎_elim}
use Rattle.std.proofs.lemmas.Bool.{cases_lt, cases_order, true≢false}
use Rattle.std.specs.Cmp.{nat_cmp_is}
use Rattle.std.specs.Ordering.{nat_cmp, ordering_then, is_lt}
use Rattle.std.specs.declared.cmp.Ordering.{Ordering}
use Rattle.std.specs.declared.cmp.Ordering.TheVariants.{Less, Equal, Greater}
use Rattle.protocol_values.specs.Commits.{order_cmp}

abbrev pub Key : Type 0
Key = ℕ × ℕ

-- the one is not above the other
abbrev pub UpTo : Key → Key → Type 0
UpTo x y = (x.0 < y.0) ⊎ ((x.0 ≡ y.0) × (x.1 ≤ y.1))

pub up-to-either : (x y : Key) → UpTo x y ⊎ UpTo y x
up-to-either x y = ⊎_elim
    (λ same. ⊎_elim (λ lt. inl (inr (same, omega (arith, lt)))) (λ ge. inr (inr (sym same, ge))) (cases_lt x.1 y.1))
    (λ other. ⊎_elim (λ lt. inl (inl lt)) (λ gt. inr (inl gt)) other)
    (cases_order x.0 y.0)

pub up-to-chain : (x y z : Key) → UpTo x y → UpTo y z → UpTo x z
up-to-chain x y z h k = ⊎_elim
    (λ lt. ⊎_elim (λ lu. inl (omega (arith, lt, lu))) (λ e. inl (omega (arith, lt, e.0))) k)
    (λ e. ⊎_elim (λ lu. inl (omega (arith, e.0, lu))) (λ f. inr (e.0 ∙ f.0, omega (arith, e.1, f.1))) k)
    h

pub up-to-both : (x y : Key) → UpTo x y → UpTo y x → (x.0 ≡ y.0) × (x.1 ≡ y.1)
up-to-both x y h k = ⊎_elim
    (λ lt. ⊎_elim (λ lu. absurd (omega (arith, lt, lu))) (λ e. absurd (omega (arith, lt, e.0))) k)
    (λ e. ⊎_elim (λ lu. absurd (omega (arith, e.0, lu))) (λ f. (e.0, omega (arith, e.1, f.1))) k)
    h

pub up-to-stamps : (x y : Key) → UpTo x y → x.0 ≤ y.0
up-to-stamps x y h = ⊎_elim (λ lt. omega (arith, lt)) (λ e. omega (arith, e.0)) h

-- WHAT THE TEST SAYS

by-stamps : (x y : Key) (o : Ordering) → o ≡ nat_cmp x.0 y.0 → is_lt (ordering_then o (nat_cmp x.1 y.1)) ≡ is_lt (order_cmp x y)
by-stamps x y o e = ap (λ (v : Ordering). is_lt (ordering_then v (nat_cmp x.1 y.1))) e

by-threads : (x y : Key) (o : Ordering) → x.0 ≡ y.0 → o ≡ nat_cmp x.1 y.1 → is_lt o ≡ is_lt (order_cmp x y)
by-threads x y o same e = ap is_lt e ∙ by-stamps x y Equal (nat_cmp_is x.0 y.0 Equal same)

pub up-to-from-test : (x y : Key) → is_lt (order_cmp x y) ≡ false → UpTo y x
up-to-from-test x y h = ⊎_elim
    (λ same. ⊎_elim
    (λ lt. absurd (true≢false (by-threads x y Less same (nat_cmp_is x.1 y.1 Less lt) ∙ h)))
    (λ ge. inr (sym same, ge))
    (cases_lt x.1 y.1))
    (λ other. ⊎_elim (λ lt. absurd (true≢false (by-stamps x y Less (nat_cmp_is x.0 y.0 Less lt) ∙ h))) (λ gt. inl gt) other)
    (cases_order x.0 y.0)

test-at-or-above : (x y : Key) → x.0 ≡ y.0 → y.1 ≤ x.1 → is_lt (order_cmp x y) ≡ false
test-at-or-above x y same ge = ⊎_elim
    (λ e. sym (by-threads x y Equal same (nat_cmp_is x.1 y.1 Equal e)))
    (λ other. ⊎_elim (λ lt. absurd (omega (arith, lt, ge))) (λ gt. sym (by-threads x y Greater same (nat_cmp_is x.1 y.1 Greater gt))) other)
    (cases_order x.1 y.1)

pub test-from-up-to : (x y : Key) → UpTo y x → is_lt (order_cmp x y) ≡ false
test-from-up-to x y h = ⊎_elim
    (λ gt. sym (by-stamps x y Greater (nat_cmp_is x.0 y.0 Greater gt)))
    (λ e. test-at-or-above x y (sym e.0) e.1)
    h
