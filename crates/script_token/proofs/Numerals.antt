-- The numeral that digits say, digit by digit.
use Rattle.std.proofs.Common.{◌≡◌, ℕ, ◌+◌, ◌-◌, ◌*◌, ◌<◌, ◌≤◌, Bool, true, false, cond, ◌&&◌, leb, List, [], ◌∷◌, Some, None, refl, arith, tests}
use Rattle.script_token.specs.Tokens.{is_digit, digit_of, value_from, numeral_from}

value_grows : (n : ℕ) (bytes : List ℕ) → n ≤ value_from n bytes
value_grows n [] = omega arith
value_grows n (b ∷ bytes) = omega (arith, value_grows (n * 10 + (b - 48)) bytes)

leb-above : (m k : ℕ) → k < m → leb m k ≡ false
leb-above m k h = search (arith, tests)

pub and_false : (a : Bool) → (a && false) ≡ false
and_false true = refl
and_false false = refl

pub numeral-large : (n : ℕ) (bytes : List ℕ) → 4294967295 < n → numeral_from n bytes ≡ None
numeral-large n bytes h =
    let large : leb (value_from n bytes) 4294967295 ≡ false = leb-above _ _ (omega (arith, value_grows n bytes)) in
    rw (large, and_false) refl

pub numeral-more : (n b d : ℕ) (bytes : List ℕ) → digit_of b ≡ Some d → numeral_from n (b ∷ bytes) ≡ numeral_from (n * 10 + d) bytes
numeral-more n b d bytes e = at_digit (is_digit b) refl
  where
    at_digit : (v : Bool) → is_digit b ≡ v → numeral_from n (b ∷ bytes) ≡ numeral_from (n * 10 + d) bytes
    at_digit true h =
        let same : b - 48 ≡ d = (let f : cond true (Some (b - 48)) None ≡ Some d = rw h at e in cc) in
        rw (h, same) refl
    at_digit false h = (let f : cond false (Some (b - 48)) None ≡ Some d = rw h at e in absurd cc)

pub numeral-bad : (n b : ℕ) (bytes : List ℕ) → digit_of b ≡ None → numeral_from n (b ∷ bytes) ≡ None
numeral-bad n b bytes e = at_digit (is_digit b) refl
  where
    at_digit : (v : Bool) → is_digit b ≡ v → numeral_from n (b ∷ bytes) ≡ None
    at_digit true h = (let f : cond true (Some (b - 48)) None ≡ None = rw h at e in absurd cc)
    at_digit false h = rw h refl

pub numeral-end : (n : ℕ) → n ≤ 4294967295 → numeral_from n [] ≡ Some n
numeral-end n h = (let small : leb n 4294967295 ≡ true = search (arith, tests) in rw small refl)
