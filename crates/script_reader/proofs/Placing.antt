-- The place of a name where one more stands behind.
use Rattle.std.proofs.Common.{◌≡◌, ℕ, ◌+◌, Bool, true, false, cond, List, [], ◌∷◌, ◌++◌, length, Option, Some, None, refl, sym, ap, ◌∙◌, subst, arith, Bor}
use Rattle.std.specs.BTreeMap.{BTreeMap, get_by, UpdatesBy}
use Rattle.std.specs.Cmp.Lexicographic.{slice_cmp}
use Rattle.std.specs.Option.{option_map}
use Rattle.std.specs.Ordering.{nat_cmp}
use Rattle.std.specs.Str.{bytes_eq}
use Rattle.std.proofs.lemmas.List.{map-append}
use Rattle.std.proofs.lemmas.Map.Text.{btree_map_updates_str}
use Rattle.std.proofs.lemmas.Slice.Eq.{bytes_eq-Decides}
use Rattle.script_reader.specs.Places.{texts}
use Rattle.script_grammar.specs.Meaning.{place}

swapped : (a b : List ℕ) → bytes_eq a b ≡ bytes_eq b a
swapped a b = at_test (bytes_eq a b) refl (bytes_eq b a) refl
  where
    at_test : (u : Bool) → bytes_eq a b ≡ u → (v : Bool) → bytes_eq b a ≡ v → u ≡ v
    at_test true e true f = refl
    at_test false e false f = refl
    at_test true e false f = sym (sym f ∙ (bytes_eq-Decides b a).1 (sym ((bytes_eq-Decides a b).0 e)))
    at_test false e true f = sym e ∙ (bytes_eq-Decides a b).1 (sym ((bytes_eq-Decides b a).0 f))

pub not_first : (b : Bool) (o : Option ℕ) → cond b (Some 0) (option_map (λ n. n + 1) o) ≡ None → (b ≡ false) × (o ≡ None)
not_first true o e = absurd cc
not_first false None e = (refl, refl)
not_first false (Some n) e = absurd cc

pub place-more : (x : List ℕ) (names : List (List ℕ)) (q : List ℕ) → place x names ≡ None → place q (names ++ x ∷ []) ≡ cond (bytes_eq x q) (Some (length names)) (place q names)
place-more x [] q new = ap (λ (b : Bool). cond b (Some 0) None) (swapped q x)
place-more x (y ∷ names) q new =
    let p = not_first (bytes_eq x y) (place x names) new in
    ap (λ (o : Option ℕ). cond (bytes_eq q y) (Some 0) (option_map (λ n. n + 1) o)) (place-more x names q p.1) ∙ at_test (bytes_eq x q) refl p.0
  where
    at_test : (v : Bool) → bytes_eq x q ≡ v → bytes_eq x y ≡ false
        → cond (bytes_eq q y) (Some 0) (option_map (λ n. n + 1) (cond (bytes_eq x q) (Some (length names)) (place q names))) ≡ cond (bytes_eq x q) (Some (length (y ∷ names))) (place q (y ∷ names))
    at_test true e other =
        let same : x ≡ q = (bytes_eq-Decides x q).0 e in
        let other2 : bytes_eq q y ≡ false = subst (λ (z : List ℕ). bytes_eq z y ≡ false) same other in
        rw (e, other2) (ap (λ (n : ℕ). Some n) (omega arith))
    at_test false e other = rw e refl

-- a table with one more name
pub linked-more : (name : Bor (List ℕ)) (names : List (Bor (List ℕ))) (old new : BTreeMap (Bor (List ℕ)) ℕ) (q : List ℕ)
    → ((q : List ℕ) → get_by (λ k. slice_cmp nat_cmp q k.now) old ≡ place q (texts names))
    → UpdatesBy (λ x y. slice_cmp nat_cmp x.now y.now) (λ k. slice_cmp nat_cmp name.now k.now) old new (Some (length (texts names)))
    → place name.now (texts names) ≡ None
    → get_by (λ k. slice_cmp nat_cmp q k.now) new ≡ place q (texts (names ++ name ∷ []))
linked-more name names old new q linked updates absent =
    btree_map_updates_str name.now old new (Some (length (texts names))) updates q
    ∙ ap (cond (bytes_eq name.now q) (Some (length (texts names)))) (linked q)
    ∙ sym (place-more name.now (texts names) q absent)
    ∙ ap (place q) (sym (map-append (λ (n : Bor (List ℕ)). n.now) names (name ∷ [])))
