-- The names of a text, part by part.
use Rattle.std.proofs.Common.{◌≡◌, ◌≢◌, ◌==◌, ℕ, suc, ◌+◌, ◌-◌, ◌<◌, ◌≤◌, List, [], ◌∷◌, ◌++◌, length, get_or, take, drop, if◌then◌else◌, ◌||◌, refl, sym, ap, ◌∙◌, arith, true, false, Bool}
use Rattle.std.specs.Prelude.{None, Some, not}
use Rattle.std.proofs.lemmas.Bool.Decides.{Decides-eqb}
use Rattle.std.proofs.lemmas.List.{drop_all, drop_more, get_or-drop, length-drop}
use Rattle.std.proofs.Math.Seq.{take-suc}
use Rattle.script.specs.Sources.{Script}
use Rattle.std.specs.List.{find, list_any}
use Rattle.script_token.specs.Tokens.{same}
use Rattle.pcml_answers.specs.Needs.{is_in, is_process, names_from, unnamed_in}

-- what stands behind a comma is another name
comma : (before rest : List ℕ) (x : ℕ) → x ≡ 44 → names_from before (x ∷ rest) ≡ before ∷ names_from [] rest
comma before rest x is = ap (λ (b : ℕ). names_from before (b ∷ rest)) is

is-false : (b : Bool) → (b ≡ true → ⊥) → b ≡ false
is-false true never = absurd (never refl)
is-false false never = refl

letter : (before rest : List ℕ) (x : ℕ) → x ≢ 44 → names_from before (x ∷ rest) ≡ names_from (before ++ x ∷ []) rest
letter before rest x is =
    ap (λ (t : Bool). if t then before ∷ names_from [] rest else names_from (before ++ x ∷ []) rest) (is-false (x == 44) (λ e. is ((Decides-eqb x 44).0 e)))

-- what was read of the name that is being read
abbrev pub read_so_far : List ℕ → ℕ → ℕ → List ℕ
read_so_far text first at = take (at - first) (drop first text)

-- the names that are left at a place, the first of which began at another
abbrev pub names_left : List ℕ → ℕ → ℕ → List (List ℕ)
names_left text first at = names_from (read_so_far text first at) (drop at text)

pub left-at-comma : (text : List ℕ) (first at : ℕ) → at < length text → get_or text at 0 ≡ 44 → names_left text first at ≡ read_so_far text first at ∷ names_from [] (drop (at + 1) text)
left-at-comma text first at lt is =
    ap (names_from (read_so_far text first at)) (drop_more text at 0 lt) ∙ comma (read_so_far text first at) (drop (at + 1) text) (get_or text at 0) is

read-more : (text : List ℕ) (first at : ℕ) → first ≤ at → at < length text → read_so_far text first at ++ get_or text at 0 ∷ [] ≡ read_so_far text first (at + 1)
read-more text first at low lt =
    let n = at - first in
    let place : first + n ≡ at = omega (arith, low) in
    let more : at + 1 - first ≡ suc n = omega (arith, low) in
    let inside : n < length (drop first text) = omega (arith, low, lt, length-drop first text) in
    ap (λ (x : ℕ). take n (drop first text) ++ x ∷ []) (ap (λ (k : ℕ). get_or text k 0) (sym place) ∙ sym (get_or-drop first text n 0))
    ∙ sym (take-suc (drop first text) n 0 inside)
    ∙ ap (λ (k : ℕ). take k (drop first text)) (sym more)

pub left-at-letter : (text : List ℕ) (first at : ℕ) → first ≤ at → at < length text → get_or text at 0 ≢ 44 → names_left text first at ≡ names_left text first (at + 1)
left-at-letter text first at low lt is =
    ap (names_from (read_so_far text first at)) (drop_more text at 0 lt)
    ∙ letter (read_so_far text first at) (drop (at + 1) text) (get_or text at 0) is
    ∙ ap (λ (read : List ℕ). names_from read (drop (at + 1) text)) (read-more text first at low lt)

-- behind a comma another name begins
begins : (text : List ℕ) (at : ℕ) → names_left text (at + 1) (at + 1) ≡ names_from [] (drop (at + 1) text)
begins text at =
    let zero_more : at + 1 - (at + 1) ≡ 0 = omega arith in
    let none : read_so_far text (at + 1) (at + 1) ≡ [] = ap (λ (k : ℕ). take k (drop (at + 1) text)) zero_more in
    ap (λ (read : List ℕ). names_from read (drop (at + 1) text)) none

-- at this place, where a name began at another, the first that no process has is the first of those that are left
pub record FindsLeft (s : Script) (text : List ℕ) (first at : ℕ) : Type 0 where
  pub low : first ≤ at
  pub left : find (λ name. not (is_process s name)) (names_left text first at) ≡ unnamed_in s text

found-at : (s : Script) (name : List ℕ) (names : List (List ℕ)) (b : Bool) → is_process s name ≡ b → find (λ n. not (is_process s n)) (name ∷ names) ≡ (if b then find (λ n. not (is_process s n)) names else Some name)
found-at s name names true is = ap (λ (t : Bool). if not t then Some name else find (λ n. not (is_process s n)) names) is
found-at s name names false is = ap (λ (t : Bool). if not t then Some name else find (λ n. not (is_process s n)) names) is

finds-here : (s : Script) (text : List ℕ) (first at : ℕ) (b : Bool) → at < length text → get_or text at 0 ≡ 44 → is_process s (read_so_far text first at) ≡ b → FindsLeft s text first at →
    (if b then find (λ n. not (is_process s n)) (names_left text (at + 1) (at + 1)) else Some (read_so_far text first at)) ≡ unnamed_in s text
finds-here s text first at b lt is process left =
    ap (λ (names : List (List ℕ)). if b then find (λ n. not (is_process s n)) names else Some (read_so_far text first at)) (begins text at)
    ∙ sym (found-at s (read_so_far text first at) (names_from [] (drop (at + 1) text)) b process) ∙ ap (find (λ n. not (is_process s n))) (sym (left-at-comma text first at lt is)) ∙ left.left

-- no process has the name that ends here
pub finds-unnamed : (s : Script) (text : List ℕ) (first at : ℕ) → at < length text → get_or text at 0 ≡ 44 → is_process s (read_so_far text first at) ≡ false → FindsLeft s text first at → Some (read_so_far text first at) ≡ unnamed_in s text
finds-unnamed s text first at lt is process left = finds-here s text first at false lt is process left

pub finds-behind-comma : (s : Script) (text : List ℕ) (first at : ℕ) → at < length text → get_or text at 0 ≡ 44 → is_process s (read_so_far text first at) ≡ true → FindsLeft s text first at → FindsLeft s text (at + 1) (at + 1)
finds-behind-comma s text first at lt is process left = record { low = omega arith; left = finds-here s text first at true lt is process left }

pub finds-behind-letter : (s : Script) (text : List ℕ) (first at : ℕ) → at < length text → get_or text at 0 ≢ 44 → FindsLeft s text first at → FindsLeft s text first (at + 1)
finds-behind-letter s text first at lt is left = record {
  low = omega (arith, left.low);
  left = ap (find (λ n. not (is_process s n))) (sym (left-at-letter text first at left.low lt is)) ∙ left.left;
}

-- the last name
pub finds-last : (s : Script) (text : List ℕ) (first at : ℕ) (b : Bool) → length text ≤ at → is_process s (read_so_far text first at) ≡ b → FindsLeft s text first at → (if b then None else Some (read_so_far text first at)) ≡ unnamed_in s text
finds-last s text first at b past process left =
    split b ∙ sym (found-at s (read_so_far text first at) [] b process) ∙ ap (λ (rest : List ℕ). find (λ n. not (is_process s n)) (names_from (read_so_far text first at) rest)) (sym (drop_all at text past)) ∙ left.left
  where
    split : (b : Bool) → (if b then None else Some (read_so_far text first at)) ≡ (if b then find (λ n. not (is_process s n)) [] else Some (read_so_far text first at))
    split true = refl
    split false = refl

-- at this place, where a name began at another, the name is one of all where it is one of those that are left
pub record HasLeft (name text : List ℕ) (first at : ℕ) : Type 0 where
  pub low : first ≤ at
  pub left : list_any (λ n. same n name) (names_left text first at) ≡ is_in name text

pub in-at-comma : (name text : List ℕ) (first at : ℕ) → at < length text → get_or text at 0 ≡ 44 → HasLeft name text first at →
    (same (read_so_far text first at) name || list_any (λ n. same n name) (names_from [] (drop (at + 1) text))) ≡ is_in name text
in-at-comma name text first at lt is left = ap (list_any (λ n. same n name)) (sym (left-at-comma text first at lt is)) ∙ left.left

pub in-behind-comma : (name text : List ℕ) (first at : ℕ) → at < length text → get_or text at 0 ≡ 44 → same (read_so_far text first at) name ≡ false → HasLeft name text first at → HasLeft name text (at + 1) (at + 1)
in-behind-comma name text first at lt is other left =
    let rest = names_from [] (drop (at + 1) text) in
    record {
      low = omega arith;
      left =
          ap (list_any (λ n. same n name)) (begins text at) ∙ ap (λ (b : Bool). b || list_any (λ n. same n name) rest) (sym other)
          ∙ in-at-comma name text first at lt is left;
    }

pub in-behind-letter : (name text : List ℕ) (first at : ℕ) → at < length text → get_or text at 0 ≢ 44 → HasLeft name text first at → HasLeft name text first (at + 1)
in-behind-letter name text first at lt is left = record {
  low = omega (arith, left.low);
  left = ap (list_any (λ n. same n name)) (sym (left-at-letter text first at left.low lt is)) ∙ left.left;
}
