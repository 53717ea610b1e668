-- Whether a number is one of a list, as the library tells it.
use Rattle.std.proofs.Common.{◌≡◌, ℕ, Bool, true, false, ◌||◌, eqb, List, [], ◌∷◌, refl, sym, ap₂, ◌∙◌, arith, tests}
use Rattle.std.specs.List.{list_any}
use Rattle.std.proofs.lemmas.Bool.Decides.{nat_tests}
use Rattle.script_grammar.specs.Meaning.{is_among}

turned : (a b : ℕ) → eqb a b ≡ eqb b a
turned a b = at_test (eqb a b) refl (eqb b a) refl
  where
    at_test : (u : Bool) → eqb a b ≡ u → (v : Bool) → eqb b a ≡ v → u ≡ v
    at_test true e true f = refl
    at_test false e false f = refl
    at_test true e false f = (let same : a ≡ b = grind (arith, nat_tests) in let is : eqb b a ≡ true = search (arith, tests) in sym is ∙ f)
    at_test false e true f = (let same : b ≡ a = grind (arith, nat_tests) in let is : eqb a b ≡ true = search (arith, tests) in sym e ∙ is)

pub any_among : (xs : List ℕ) (v : ℕ) → list_any (λ y. eqb y v) xs ≡ is_among xs v
any_among [] v = refl
any_among (x ∷ xs) v = ap₂ (λ (a b : Bool). a || b) (turned x v) (any_among xs v)
