-- Names that are listed one by one.
use Rattle.std.proofs.Common.{◌≡◌, ℕ, zero, suc, ◌+◌, List, [], ◌∷◌, ◌++◌, map, take, Some, refl, sym, ap, ◌∙◌, arith}
use Rattle.std.specs.Prelude.{slice_get}
use Rattle.std.proofs.lemmas.List.{map-append}
use Rattle.script_reader.specs.Places.{texts}
use denote.Ref.{Bor}

take_more : (all : List (List ℕ)) (n : ℕ) (x : List ℕ) → Some x ≡ slice_get all n → take (suc n) all ≡ take n all ++ x ∷ []
take_more [] n x e = absurd cc
take_more (y ∷ ys) zero x e = (let same : x ≡ y = cc in ap (λ (z : List ℕ). z ∷ []) (sym same))
take_more (y ∷ ys) (suc n) x e = ap (λ (l : List (List ℕ)). y ∷ l) (take_more ys n x e)

-- names that are listed one by one
pub one_more : (names : List (Bor (List ℕ))) (name : Bor (List ℕ)) (all : List (List ℕ)) (n : ℕ) → texts names ≡ take n all → Some name.now ≡ slice_get all n → texts (names ++ name ∷ []) ≡ take (n + 1) all
one_more names name all n h e =
    let next : suc n ≡ n + 1 = omega arith in
    map-append (λ (x : Bor (List ℕ)). x.now) names (name ∷ []) ∙ ap (λ (l : List (List ℕ)). l ++ name.now ∷ []) h ∙ sym (take_more all n name.now e) ∙ ap (λ (m : ℕ). take m all) next

pub map_twice : {A B C : Type 0} (f : A → B) (g : B → C) (xs : List A) → map (λ x. g (f x)) xs ≡ map g (map f xs)
map_twice f g [] = refl
map_twice {C = C} f g (x ∷ xs) = ap (λ (ys : List C). g (f x) ∷ ys) (map_twice f g xs)
