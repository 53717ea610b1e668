-- The first bit from one on.
use Rattle.std.proofs.Common.{◌≡◌, ◌+◌, ◌-◌, ◌<◌, ◌≤◌, ◌^◌, ◌/◌, ℕ, ap, sym, ◌∙◌, arith}
use Rattle.std.proofs.Common.{◌%◌, w64}
use Rattle.std.proofs.Common.{lt_of_not-le}
use mathlib.Core.Logic.{dite}
use native.Mathlib.Decide.{dec_le}
use Rattle.std.specs.Int.{bit_at, trailing_zeros}
use Rattle.std.proofs.lemmas.Nat.{shr-shr}
use Rattle.std.proofs.Math.Nat.{div-le_self}
use Rattle.std.proofs.lemmas.Nat.Bits.{bit_at_above, bit_at-trailing_zeros, bit_at-zero}
use Rattle.meet_directory.specs.Directory.{IsNextBit, NoBitBetween}

shifted : (n f i : ℕ) → bit_at (n / 2 ^ f) i ≡ bit_at n (f + i)
shifted n f i = ap (λ x. x % 2) (shr-shr n f i)

shifted_to : (n f t : ℕ) → f ≤ t → bit_at (n / 2 ^ f) (t - f) ≡ bit_at n t
shifted_to n f t far = shifted n f (t - f) ∙ ap (bit_at n) (omega arith)

pub no_bit_from : (n f : ℕ) → n / 2 ^ f ≡ 0 → NoBitBetween n f 64
no_bit_from n f none t far low bit =
    let zero : bit_at n t ≡ 0 = sym (shifted_to n f t far) ∙ ap (λ x. bit_at x (t - f)) none ∙ bit_at-zero (t - f) in omega arith

pub next_bit_from : (n f : ℕ) → f < 64 → n < 2 ^ 64 → 0 < n / 2 ^ f → IsNextBit n f (f + trailing_zeros w64 (n / 2 ^ f))
next_bit_from n f low small some =
    let m : ℕ = n / 2 ^ f in
    let z : ℕ = trailing_zeros w64 m in
    let first = bit_at-trailing_zeros w64 m some (let less = div-le_self n (2 ^ f) in omega arith) in
    let bit : bit_at n (f + z) ≡ 1 = sym (shifted n f z) ∙ first.1 in
    let within : f + z < 64 = dite (dec_le 64 (f + z))
    (λ (far : 64 ≤ f + z). let no : bit_at n (f + z) ≡ 0 = bit_at_above n 64 (f + z) small far in absurd (omega arith))
    (λ (near : ¬ (64 ≤ f + z)). lt_of_not-le near) in (
      omega arith,
      within,
      bit,
      λ t from below has. let no : bit_at n t ≡ 0 = sym (shifted_to n f t from) ∙ first.2 (t - f) (omega arith) in omega arith,
    )
