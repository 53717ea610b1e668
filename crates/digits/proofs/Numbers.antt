-- A number that is read is written so, and a number that is written so is read.
use Rattle.std.proofs.Common.{◌≡◌, ℕ, ◌+◌, ◌*◌, ◌-◌, ◌/◌, ◌%◌, ◌^◌, ◌<◌, ◌≤◌, ◌⊎◌, ◌&&◌, Bool, true, false, cond, ltb, leb, List, [], ◌∷◌, ◌++◌, Option, Some, None, refl, sym, ap, ◌∙◌, append_assoc, arith, tests, inl, inr}
use Rattle.std.specs.Fmt.{decimal}
use Rattle.std.proofs.lemmas.Bool.{and_parts, leb-true, ltb-true, le-leb}
use Rattle.std.proofs.lemmas.Option.{some_pair_parts}
use Rattle.std.proofs.lemmas.Fmt.{decimal_step, decimal_digit, decimal_by_steps}
use Rattle.digits.specs.Reading.{◌>>=◌, digit_of, with_digit, digits_at, leading_at}

-- ---- cases

pub bind_some : {A B : Type 0} (o : Option A) (f : A → Option B) (y : B) → (o >>= f) ≡ Some y → (x : A) × (o ≡ Some x) × (f x ≡ Some y)
bind_some None f y e = absurd cc
bind_some (Some x) f y e = (x, refl, e)

pub chosen : {A : Type 0} (b : Bool) (x y z : A) → cond b x y ≡ z → ((b ≡ true) × (x ≡ z)) ⊎ ((b ≡ false) × (y ≡ z))
chosen true x y z e = inl (refl, e)
chosen false x y z e = inr (refl, e)

pub chosen_some : {A : Type 0} (b : Bool) (x y : A) → cond b (Some x) None ≡ Some y → (b ≡ true) × (x ≡ y)
chosen_some true x y e = (refl, cc)
chosen_some false x y e = absurd cc

-- ---- a digit

pub record IsDigit (b d : ℕ) : Type 0 where
  pub low : 48 ≤ b
  pub high : b ≤ 57
  pub value : b ≡ 48 + d

digit_takes : (b d : ℕ) → digit_of b ≡ Some d → IsDigit b d
digit_takes b d e =
    let t = chosen_some (leb 48 b && leb b 57) (b - 48) d e in
    let p = and_parts (leb 48 b) (leb b 57) t.0 in
    let low : 48 ≤ b = leb-true 48 b p.0 in
    let high : b ≤ 57 = leb-true b 57 p.1 in
    record { low = low; high = high; value = omega (arith, t.1) }

digit_text : (b d : ℕ) (bytes : List ℕ) → IsDigit b d → b ∷ bytes ≡ decimal d ++ bytes
digit_text b d bytes h =
    let one : decimal d ≡ (48 + d) ∷ [] = decimal_digit d (omega (arith, h.value, h.high)) in
    ap (λ (c : ℕ). c ∷ bytes) h.value ∙ sym (ap (λ (t : List ℕ). t ++ bytes) one)

digit_again : (d : ℕ) → d < 10 → digit_of (48 + d) ≡ Some d
digit_again d lt =
    let low : leb 48 (48 + d) ≡ true = le-leb 48 (48 + d) (omega arith) in
    let high : leb (48 + d) 57 ≡ true = le-leb (48 + d) 57 (omega arith) in
    let value : 48 + d - 48 ≡ d = omega arith in
    rw (low, high, value) refl

pub record IsMore (limit n b k : ℕ) : Type 0 where
  pub digit : ℕ
  pub is_digit : IsDigit b digit
  pub positive : 0 < n
  pub value : k ≡ n * 10 + digit
  pub within : k ≤ limit

more_takes : (limit n b k : ℕ) → with_digit limit n b ≡ Some k → IsMore limit n b k
more_takes limit n b k e =
    let d = bind_some (digit_of b) (λ d. cond (ltb 0 n && leb (n * 10 + d) limit) (Some (n * 10 + d)) None) k e in
    let t = chosen_some (ltb 0 n && leb (n * 10 + d.0) limit) (n * 10 + d.0) k d.2 in
    let p = and_parts (ltb 0 n) (leb (n * 10 + d.0) limit) t.0 in
    let within : n * 10 + d.0 ≤ limit = leb-true _ _ p.1 in
    record { digit = d.0; is_digit = digit_takes b d.0 d.1; positive = ltb-true 0 n p.0; value = sym t.1; within = omega (arith, t.1) }

more_again : (limit n d : ℕ) → 0 < n → d < 10 → n * 10 + d ≤ limit → with_digit limit n (48 + d) ≡ Some (n * 10 + d)
more_again limit n d positive lt within =
    let p : ltb 0 n ≡ true = search (arith, positive) in
    let q : leb (n * 10 + d) limit ≡ true = le-leb _ _ within in
    rw (digit_again d lt, p, q) refl

-- ---- the digits of a number

decimal_more : (limit n b k : ℕ) → limit < 2 ^ 64 → IsMore limit n b k → decimal k ≡ decimal n ++ b ∷ []
decimal_more limit n b k small m =
    let h : m.digit < 10 = omega (arith, m.is_digit.value, m.is_digit.high) in
    let front : k / 10 ≡ n = omega (arith, m.value) in
    let last : 48 + k % 10 ≡ b = omega (arith, m.value, m.is_digit.value) in
    let e : decimal k ≡ decimal (k / 10) ++ (48 + k % 10) ∷ [] = decimal_step k (omega (arith, m.value, m.positive)) (omega (arith, m.within)) in
    e ∙ ap (λ (n : ℕ). decimal n ++ (48 + k % 10) ∷ []) front ∙ ap (λ (c : ℕ). decimal n ++ c ∷ []) last

-- the number m, and a byte that stands before the digits
pub record IsNumber (limit end : ℕ) (bytes : List ℕ) (m : ℕ) (rest : List ℕ) : Type 0 where
  pub parts : bytes ≡ decimal m ++ end ∷ rest
  pub within : m ≤ limit
  pub ends : end < 48

digits_takes : (limit n : ℕ) (bytes : List ℕ) (m end : ℕ) (rest : List ℕ) → limit < 2 ^ 64 → n ≤ limit → digits_at limit n bytes ≡ Some ((m, end), rest) → IsNumber limit end (decimal n ++ bytes) m rest
unfolding digits_at
digits_takes limit n [] m end rest small le e = absurd cc
digits_takes limit n (b ∷ bytes) m end rest small le e =
    elim (chosen (ltb b 48) (Some ((n, b), bytes)) (with_digit limit n b >>= λ k. digits_at limit k bytes) (Some ((m, end), rest)) e) [
      | inl h ↦
          let low : b < 48 = ltb-true b 48 h.0 in
          let same = some_pair_parts (n, b) (m, end) bytes rest h.1 in
          let n-is : n ≡ m = ap (λ (p : ℕ × ℕ). p.0) same.0 in
          let is_end : b ≡ end = ap (λ (p : ℕ × ℕ). p.1) same.0 in
          let rest-is : bytes ≡ rest = same.1 in
          record { parts = rw (is_end, n-is, rest-is) refl; within = omega arith; ends = omega arith }
      | inr h ↦
          let k = bind_some (with_digit limit n b) (λ k. digits_at limit k bytes) ((m, end), rest) h.1 in
          let more = more_takes limit n b k.0 k.1 in
          let after = digits_takes limit k.0 bytes m end rest small more.within k.2 in
          let front : decimal n ++ b ∷ bytes ≡ decimal k.0 ++ bytes = rw (decimal_more limit n b k.0 small more, append_assoc) refl in
          record { parts = front ∙ after.parts; within = after.within; ends = after.ends }
    ]

pub number_takes : (limit : ℕ) (bytes : List ℕ) (m end : ℕ) (rest : List ℕ) → limit < 2 ^ 64 → leading_at limit bytes ≡ Some ((m, end), rest) → IsNumber limit end bytes m rest
unfolding leading_at
number_takes limit [] m end rest small e = absurd cc
number_takes limit (b ∷ bytes) m end rest small e =
    let d = bind_some (digit_of b) (λ d. cond (leb d limit) (digits_at limit d bytes) None) ((m, end), rest) e in
    let digit = digit_takes b d.0 d.1 in
    elim (chosen (leb d.0 limit) (digits_at limit d.0 bytes) None (Some ((m, end), rest)) d.2) [
      | inl h ↦
          let le : d.0 ≤ limit = leb-true _ _ h.0 in
          let front = digit_text b d.0 bytes digit in
          let after = digits_takes limit d.0 bytes m end rest small le h.1 in
          record { parts = front ∙ after.parts; within = after.within; ends = after.ends }
      | inr h ↦ absurd cc
    ]

abbrev ReadsOn : ℕ → ℕ → List ℕ → Type 0
ReadsOn limit n text = n ≤ limit → (bytes : List ℕ) → leading_at limit (text ++ bytes) ≡ digits_at limit n bytes

reads_on : (limit n : ℕ) → n < 2 ^ 64 → ReadsOn limit n (decimal n)
unfolding leading_at digits_at
reads_on limit =
    decimal_by_steps (ReadsOn limit)
    (λ n lt le bytes. let q : leb n limit ≡ true = le-leb n limit le in rw (digit_again n lt, q) refl)
    (λ n ds ge before le bytes.
    let other : ltb (48 + n % 10) 48 ≡ false = search (arith, tests) in
    let step : with_digit limit (n / 10) (48 + n % 10) ≡ Some n = more_again limit (n / 10) (n % 10) (omega arith) (omega arith) (omega arith) ∙ ap (λ (m : ℕ). Some m) (omega arith) in
    ap (λ (t : List ℕ). leading_at limit t) (append_assoc ds ((48 + n % 10) ∷ []) bytes) ∙ before (omega arith) ((48 + n % 10) ∷ bytes) ∙ rw (other, step) refl)

pub number_again : (limit n end : ℕ) (rest : List ℕ) → limit < 2 ^ 64 → end < 48 → n ≤ limit → leading_at limit (decimal n ++ end ∷ rest) ≡ Some ((n, end), rest)
unfolding digits_at
number_again limit n end rest small low le =
    let same : ltb end 48 ≡ true = search (arith, tests) in
    reads_on limit n (omega arith) le (end ∷ rest) ∙ rw same refl
