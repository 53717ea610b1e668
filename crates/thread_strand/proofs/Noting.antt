-- Nacks that are noted as fired.
use Rattle.std.proofs.Common.{◌≡◌, ℕ, ◌+◌, ◌<◌, ◌≤◌, ◌==◌, Bool, true, false, List, [], ◌∷◌, ◌++◌, Option, None, Some, length, get_or, set, refl, sym, ap, ◌∙◌, subst, arith, get_or-set_same, get_or-set_other, length-set, eqb-true, drop, replicate}
use Rattle.std.specs.Prelude.{if◌then◌else◌}
use Rattle.std.proofs.lemmas.Bool.{eqb-false, eq-eqb, ne_eqb}
use Rattle.std.proofs.lemmas.List.{at_drop_all, at_drop_more, get_or-replicate}
use Rattle.thread_strand.specs.Fired.{noted_in, places_of}

-- one more comes last
pub noted-last : (places : List (Option ℕ)) (list : List (ℕ × ℕ)) (noted : ℕ × ℕ) → noted_in places (list ++ noted ∷ []) ≡ set (noted_in places list) noted.0 (Some noted.1)
noted-last places [] noted = refl
noted-last places (x ∷ list) noted = noted-last (set places x.0 (Some x.1)) list noted

pub noted-length : (places : List (Option ℕ)) (list : List (ℕ × ℕ)) → length (noted_in places list) ≡ length places
noted-length places [] = refl
noted-length places (x ∷ list) = noted-length (set places x.0 (Some x.1)) list ∙ length-set places x.0 (Some x.1)

-- what is found of a nack in a list, one after another
abbrev pub found_in : ℕ → Option ℕ → List (ℕ × ℕ) → Option ℕ
found_in k found [] = found
found_in k found (x ∷ list) = found_in k (if x.0 == k then Some x.1 else found) list

pub noted-found : (k : ℕ) (places : List (Option ℕ)) (list : List (ℕ × ℕ)) → k < length places → get_or (noted_in places list) k None ≡ found_in k (get_or places k None) list
noted-found k places [] within = refl
noted-found k places (x ∷ list) within =
    let now : List (Option ℕ) = set places x.0 (Some x.1) in
    let size = length-set places x.0 (Some x.1) in
    noted-found k now list (omega (arith, size, within)) ∙ ap (λ found. found_in k found list) (at (x.0 == k) refl)
  where
    at : (b : Bool) → (x.0 == k) ≡ b → get_or (set places x.0 (Some x.1)) k None ≡ (if b then Some x.1 else get_or places k None)
    at true e = ap (λ n. get_or (set places x.0 (Some x.1)) n None) (sym (eqb-true x.0 k e)) ∙ get_or-set_same places x.0 (Some x.1) None (subst (λ n. n < length places) (sym (eqb-true x.0 k e)) within)
    at false e = get_or-set_other places x.0 k (Some x.1) None (λ same. eqb-false x.0 k e (sym same))

pub places-length : (list : List (ℕ × ℕ)) → length (places_of list) ≡ 256
places-length list = noted-length _ list

-- the next is looked at
pub found-here : (k : ℕ) (found : Option ℕ) (list : List (ℕ × ℕ)) (i : ℕ) (d : ℕ × ℕ) → i < length list → (get_or list i d).0 ≡ k → found_in k found (drop i list) ≡ found_in k (Some (get_or list i d).1) (drop (i + 1) list)
found-here k found list i d within same =
    at_drop_more (found_in k found) list i d within
    ∙ ap (λ b. found_in k (if b then Some (get_or list i d).1 else found) (drop (i + 1) list)) (eq-eqb (get_or list i d).0 k same)

pub found-past : (k : ℕ) (found : Option ℕ) (list : List (ℕ × ℕ)) (i : ℕ) (d : ℕ × ℕ) → i < length list → ((get_or list i d).0 ≡ k → ⊥) → found_in k found (drop i list) ≡ found_in k found (drop (i + 1) list)
found-past k found list i d within other =
    at_drop_more (found_in k found) list i d within
    ∙ ap (λ b. found_in k (if b then Some (get_or list i d).1 else found) (drop (i + 1) list)) (ne_eqb (get_or list i d).0 k other)

-- all were looked at
pub found-all : (k : ℕ) (found : Option ℕ) (list : List (ℕ × ℕ)) (i : ℕ) → length list ≤ i → found_in k found (drop i list) ≡ found_in k None list → k < 256 → found ≡ get_or (places_of list) k None
found-all k found list i le is low =
    sym (at_drop_all (found_in k found) list i le) ∙ is ∙ ap (λ first. found_in k first list) (sym (get_or-replicate 256 k None None low)) ∙ sym (noted-found k (replicate 256 None) list low)
