-- Reading from left to right: what stands at the front of the bytes, and the bytes after it.
use Rattle.std.specs.Prelude.{◌≡◌, ℕ, ◌+◌, ◌-◌, ◌*◌, List, [], ◌∷◌, take, drop, length, Bool, Option, Some, None, option_and_then, nat_lt, nat_le, nat_eq, ◌==◌, ◌&&◌, if◌then◌else◌}
use Rattle.std.specs.Cmp.Lexicographic.{pointwise}

infixl 10 ◌>>=◌
abbrev pub ◌>>=◌ : {A B : Type 0} → Option A → (A → Option B) → Option B
o >>= f = option_and_then f o

-- the first that is some
abbrev pub or_else : {A : Type 0} → Option A → Option A → Option A
or_else None other = other
or_else (Some x) other = Some x

-- What a function returned, seen by view, is what reading gives.
abbrev pub Gives : {X Y : Type 0} → (X → Y) → Option X → Option Y → Type 0
Gives view None read = read ≡ None
Gives view (Some x) read = read ≡ Some (view x)

-- NUMBERS

-- what a byte says as a digit
abbrev pub digit_of : ℕ → Option ℕ
digit_of b = if nat_le 48 b && nat_le b 57 then Some (b - 48) else None

-- The number n with one more digit behind it. Behind a 0 there is none.
abbrev pub with_digit : ℕ → ℕ → ℕ → Option ℕ
with_digit limit n b = do
  d ← digit_of b
  if nat_lt 0 n && nat_le (n * 10 + d) limit then Some (n * 10 + d) else None

-- The digits that go on from the number n, and the byte behind them, one of those before `0`.
unfoldable pub digits_at : ℕ → ℕ → List ℕ → Option ((ℕ × ℕ) × List ℕ)
digits_at limit n [] = None
digits_at limit n (b ∷ bytes) =
    if nat_lt b 48 then Some ((n, b), bytes) else (with_digit limit n b >>= λ m. digits_at limit m bytes)

-- a number of at most the limit, and the byte behind it
unfoldable pub leading_at : ℕ → List ℕ → Option ((ℕ × ℕ) × List ℕ)
leading_at limit [] = None
leading_at limit (b ∷ bytes) = do
  d ← digit_of b
  if nat_le d limit then digits_at limit d bytes else None

-- what is read with the byte behind it, where that is the one that ends it
abbrev pub ended_by : {A : Type 0} → ℕ → Option ((A × ℕ) × List ℕ) → Option (A × List ℕ)
ended_by end read = read >>= λ x. if x.0.1 == end then Some (x.0.0, x.1) else None

-- a number of at most the limit, and the byte that ends it
unfoldable pub number_at : ℕ → ℕ → List ℕ → Option (ℕ × List ℕ)
number_at limit end bytes = ended_by end (leading_at limit bytes)

-- a count from 1 on
unfoldable pub count_at : ℕ → ℕ → List ℕ → Option (ℕ × List ℕ)
count_at limit end bytes = do
  n ← number_at limit end bytes
  if n.0 == 0 then None else Some n

-- WORDS

-- the word stands at the front
abbrev pub begins : List ℕ → List ℕ → Bool
begins bytes word = pointwise nat_eq (take (length word) bytes) word

-- what stands behind the word, where it begins the bytes
abbrev pub after_word : List ℕ → List ℕ → Option (List ℕ)
after_word word bytes = if begins bytes word then Some (drop (length word) bytes) else None
