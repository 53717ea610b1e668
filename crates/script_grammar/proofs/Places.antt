-- A name stands at a place below the number of names.
use Rattle.std.proofs.Common.{◌≡◌, ℕ, ◌+◌, ◌<◌, Bool, true, false, cond, List, [], ◌∷◌, length, Option, Some, None, refl, arith}
use Rattle.std.specs.Option.{option_map}
use Rattle.std.specs.Str.{bytes_eq}
use Rattle.script_grammar.specs.Meaning.{place}

pub place_in : (name : List ℕ) (names : List (List ℕ)) (n : ℕ) → place name names ≡ Some n → n < length names
place_in name [] n e = absurd cc
place_in name (x ∷ names) n e = at_test (λ m is. place_in name names m is) (bytes_eq name x) e
  where
    at_rest : ((m : ℕ) → place name names ≡ Some m → m < length names) → (o : Option ℕ) → place name names ≡ o → option_map (λ n. n + 1) o ≡ Some n → n < length (x ∷ names)
    at_rest next None is f = absurd cc
    at_rest next (Some m) is f = (let same : m + 1 ≡ n = cc in omega (arith, next m is))

    at_test : ((m : ℕ) → place name names ≡ Some m → m < length names) → (b : Bool) → cond b (Some 0) (option_map (λ n. n + 1) (place name names)) ≡ Some n → n < length (x ∷ names)
    at_test next true f = (let same : 0 ≡ n = cc in omega arith)
    at_test next false f = at_rest next (place name names) refl f
