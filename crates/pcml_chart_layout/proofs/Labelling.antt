-- The labels of commits, one more at a time.
use Rattle.std.proofs.Common.{◌≡◌, ℕ, ◌+◌, ◌<◌, List, [], ◌∷◌, ◌++◌, length, take, get_or, String, sym, ap, ap₂, ◌∙◌}
use Rattle.std.specs.Prelude.{map}
use Rattle.std.specs.String.{string_bytes}
use Rattle.std.proofs.lemmas.List.{map_push, take_more}

pub label_more : {X Z : Type 0} (f : X → List ℕ) (xs : List X) (i : ℕ) (d : X) (before after : List (String Z)) (text : String Z) → i < length xs → map string_bytes before ≡ map f (take i xs)
    → string_bytes text ≡ f (get_or xs i d) → after ≡ before ++ text ∷ [] → map string_bytes after ≡ map f (take (i + 1) xs)
label_more f xs i d before after text low is same grown =
    ap (map string_bytes) grown
    ∙ map_push string_bytes before text
    ∙ ap₂ (λ (l : List (List ℕ)) (t : List ℕ). l ++ t ∷ []) is same
    ∙ sym (ap (map f) (take_more xs i d low) ∙ map_push f (take i xs) (get_or xs i d))
