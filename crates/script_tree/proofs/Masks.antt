-- Masks of processes, bit by bit.
use Rattle.std.proofs.Common.{◌≡◌, ℕ, zero, suc, ◌*◌, ◌<◌, ◌%◌, ◌^◌, ◌==◌, ◌||◌, max, Bool, true, false, bit_or, refl, sym, ap, ◌∙◌, arith, ⊎_elim}
use Rattle.std.specs.Int.{bit_at}
use Rattle.std.proofs.lemmas.Bool.{cases_eq, eq-eqb, ne_eqb}
use Rattle.std.proofs.lemmas.Nat.{one_shl}
use Rattle.std.proofs.lemmas.Nat.Bits.{bit_at_or, bit_at-lt, bit_at-zero, bit_at-pow_same, bit_at-pow_other}
use Rattle.script_tree.specs.Spawning.{has_bit}

ones : (x y : ℕ) → x < 2 → y < 2 → (max x y == 1) ≡ ((x == 1) || (y == 1))
ones zero zero h k = refl
ones zero (suc zero) h k = refl
ones (suc zero) zero h k = refl
ones (suc zero) (suc zero) h k = refl
ones (suc (suc x)) y h k = absurd (omega (arith, h))
ones x (suc (suc y)) h k = absurd (omega (arith, k))

pub has_or : (a b t : ℕ) → has_bit (bit_or a b) t ≡ (has_bit a t || has_bit b t)
has_or a b t = ap (λ n. n == 1) (bit_at_or a b t) ∙ ones (bit_at a t) (bit_at b t) (bit_at-lt a t) (bit_at-lt b t)

pub has_none : (t : ℕ) → has_bit 0 t ≡ false
has_none t = ap (λ n. n == 1) (bit_at-zero t)

power : (p t : ℕ) → has_bit (2 ^ p) t ≡ (p == t)
power p t = ⊎_elim
    (λ same. ap (λ n. has_bit (2 ^ n) t) same ∙ ap (λ n. n == 1) (bit_at-pow_same t) ∙ sym (eq-eqb p t same))
    (λ ne. ap (λ n. n == 1) (bit_at-pow_other p t (λ e. ne (sym e))) ∙ sym (ne_eqb p t ne))
    (cases_eq p t)

pub has_one : (p t : ℕ) → p < 64 → has_bit (1 * 2 ^ p % 18446744073709551616) t ≡ (p == t)
has_one p t low = ap (λ n. has_bit n t) (one_shl p 64 low) ∙ power p t

or_assoc : (a b d : Bool) → ((a || b) || d) ≡ (a || (b || d))
or_assoc true b d = refl
or_assoc false b d = refl

-- a part more of what a loop goes through
pub has_more : (mask part t : ℕ) (first rest whole : Bool) → has_bit part t ≡ first → (has_bit mask t || (first || rest)) ≡ whole → (has_bit (bit_or mask part) t || rest) ≡ whole
has_more mask part t first rest whole is before =
    ap (λ b. b || rest) (has_or mask part t)
    ∙ or_assoc (has_bit mask t) (has_bit part t) rest
    ∙ ap (λ b. has_bit mask t || (b || rest)) is
    ∙ before

pub has_both : (one other t : ℕ) (a b : Bool) → has_bit one t ≡ a → has_bit other t ≡ b → has_bit (bit_or one other) t ≡ (a || b)
has_both one other t a b is too = has_or one other t ∙ (λ i. is i || too i)

pub or_false : (a b : Bool) → (a || false) ≡ b → a ≡ b
or_false true b e = e
or_false false b e = e
