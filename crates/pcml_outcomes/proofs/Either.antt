-- Two marks for each process.
use Rattle.std.proofs.Common.{◌≡◌, ◌∙◌, ◌||◌, List, [], ◌∷◌, ℕ, zero, suc, Bool, Some, ap, arith, length, refl, sym, true, false}
use Rattle.std.specs.List.{zip}
use Rattle.std.specs.Prelude.{slice_get}
use Rattle.std.proofs.lemmas.Option.{none-some, same_Some}
use Rattle.std.proofs.lemmas.List.{length-map}
use Rattle.script.specs.Sources.{Script}
use Rattle.pcml_outcomes.specs.Searching.{either}

pub length-zip : {A B : Type 0} (xs : List A) (ys : List B) → length xs ≡ length ys → length (zip xs ys) ≡ length xs
length-zip [] [] same = refl
length-zip [] (y ∷ ys) same = refl
length-zip (x ∷ xs) [] same = absurd (omega (arith, same))
length-zip (x ∷ xs) (y ∷ ys) same = let rest = length-zip xs ys (omega (arith, same)) in omega (arith, rest)

pub each-either : (s : Script) (first second : List Bool) → length first ≡ length s.processes → length second ≡ length s.processes → length (either first second) ≡ length s.processes
each-either s first second one two = length-map (zip first second) (λ p. p.0 || p.1) ∙ length-zip first second (one ∙ sym two) ∙ one

-- what the second marks say of a process, both say
pub either-second : (first second : List Bool) (t : ℕ) → length first ≡ length second → slice_get second t ≡ Some true → slice_get (either first second) t ≡ Some true
either-second first [] t same mark = absurd (none-some true mark)
either-second [] (n ∷ second) t same mark = absurd (omega (arith, same))
either-second (m ∷ first) (n ∷ second) zero same mark = ap Some (or-second m n (same_Some n true mark))
  where
    or-second : (a b : Bool) → b ≡ true → (a || b) ≡ true
    or-second true b e = refl
    or-second false b e = e
either-second (m ∷ first) (n ∷ second) (suc t) same mark = either-second first second t (omega (arith, same)) mark
