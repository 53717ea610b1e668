-- What an output has taken of a text.
use Rattle.std.proofs.Common.{◌≡◌, ℕ, ◌+◌, List, [], ◌∷◌, ◌++◌, length, take, drop, Option, Some, None, sym, refl, ap, ◌∙◌, subst}
use Rattle.std.proofs.Math.Seq.{take-add}
use Rattle.std.proofs.lemmas.List.{append_assoc, append-nil}
use Rattle.std.specs.Io.KnownBytes.{Appends, Keeps}

pub taken_more : (a b c : Option (List ℕ)) (text : List ℕ) (n m : ℕ) → Appends a b (take n text) → Appends b c (take m (drop n text)) → Appends a c (take (n + m) text)
taken_more None b c text n m f g = tt
taken_more (Some xs) None c text n m f g = absurd f
taken_more (Some xs) (Some ys) None text n m f g = absurd g
taken_more (Some xs) (Some ys) (Some zs) text n m f g =
    g ∙ ap (λ (l : List ℕ). l ++ take m (drop n text)) f ∙ append_assoc xs (take n text) (take m (drop n text)) ∙ ap (λ (l : List ℕ). xs ++ l) (sym (take-add n m text))

-- nothing of any text
pub nothing_taken : (known : Option (List ℕ)) → Appends known known []
nothing_taken None = tt
nothing_taken (Some xs) = sym (append-nil xs)

-- what grew by no byte of a text stays
pub nothing_more : (a b : Option (List ℕ)) (count : ℕ) (text : List ℕ) → count ≡ 0 → Appends a b (take count text) → Keeps a b
nothing_more None b count text none f = tt
nothing_more (Some xs) None count text none f = f
nothing_more (Some xs) (Some ys) count text none f = f ∙ ap (λ (n : ℕ). xs ++ take n text) none ∙ append-nil xs

pub keeps : (known : Option (List ℕ)) → Keeps known known
keeps None = tt
keeps (Some xs) = refl

pub appends_on : (a b c : Option (List ℕ)) (text : List ℕ) → Keeps a b → Appends b c text → Appends a c text
appends_on None b c text k f = tt
appends_on (Some xs) None c text k f = absurd k
appends_on (Some xs) (Some ys) None text k f = absurd f
appends_on (Some xs) (Some ys) (Some zs) text k f = f ∙ ap (λ (l : List ℕ). l ++ text) k

pub keeps_on : (a b c : Option (List ℕ)) → Keeps a b → Keeps b c → Keeps a c
keeps_on None b c k l = tt
keeps_on (Some xs) None c k l = absurd k
keeps_on (Some xs) (Some ys) None k l = absurd l
keeps_on (Some xs) (Some ys) (Some zs) k l = l ∙ k

-- the whole text is the first bytes of it, so many as it has
pub all_taken : (a b : Option (List ℕ)) (text : List ℕ) → Appends a b text → Appends a b (take (length text) text)
all_taken a b text = subst (λ (l : List ℕ). Appends a b l) (sym (whole text))
  where
    whole : (text : List ℕ) → take (length text) text ≡ text
    whole [] = refl
    whole (x ∷ xs) = ap (λ (l : List ℕ). x ∷ l) (whole xs)
