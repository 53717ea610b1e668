-- A clean-up goes through the entries one after another.
use Rattle.std.proofs.Common.{◌≡◌, ◌<◌, ◌≤◌, ◌+◌, ℕ, List, [], ◌∷◌, ◌++◌, inl, inr, refl, ap, sym, subst, ◌∙◌, length, take, drop, set, get_or, arith, length-set}
use Rattle.std.proofs.lemmas.List.{drop-set-lt, take_more, take_more_set, drop_more}
use Rattle.std.proofs.lemmas.Grind.{drop_more_same}
use Rattle.protocol_values.specs.declared.Row.{Row}
use Rattle.cell_table.specs.declared.view.Seen.{Seen}
use Rattle.cell.specs.Calls.{GridOf, IsRowOf}
use Rattle.cell_table.specs.Sight.{SawCommitted}
use Rattle.meet.specs.Queues.{Tidies}
use Rattle.meet_scan.specs.Searches.{Grows}
use Rattle.meet_scan.proofs.Growing.{saw_more}

pub tidies_more : {M : Type 0} (g : GridOf M) (s t u : Seen) (es after : List (Row × ℕ)) → Grows t u → Tidies g s t es after → Tidies g s u es after
tidies_more g s t u [] after grows h = h
tidies_more g s t u (e ∷ es) after grows (inl h) = inl (saw_more t u e.0 grows h.0, tidies_more g s t u es after grows h.1)
tidies_more g s t u (e ∷ es) after grows (inr h) = inr (h.0, (h.1.0, h.1.1, tidies_more g s t u es h.1.0 grows h.1.2))

pub tidies_gone : {M : Type 0} (g : GridOf M) (s t : Seen) (es after : List (Row × ℕ)) (e : Row × ℕ) → SawCommitted t e.0 → Tidies g s t es after → Tidies g s t (es ++ e ∷ []) after
tidies_gone g s t [] after e gone h = inl (gone, h)
tidies_gone g s t (f ∷ es) after e gone (inl h) = inl (h.0, tidies_gone g s t es after e gone h.1)
tidies_gone g s t (f ∷ es) after e gone (inr h) = inr (h.0, (h.1.0, h.1.1, tidies_gone g s t es h.1.0 e gone h.1.2))

pub tidies_kept : {M : Type 0} (g : GridOf M) (s t : Seen) (es after : List (Row × ℕ)) (e : Row × ℕ) → (IsRowOf g e.0 → ¬ SawCommitted s e.0) → Tidies g s t es after → Tidies g s t (es ++ e ∷ []) (after ++ e ∷ [])
tidies_kept g s t [] after e kept h = inr (kept, ([], ap (λ (xs : List (Row × ℕ)). xs ++ e ∷ []) h, refl))
tidies_kept g s t (f ∷ es) after e kept (inl h) = inl (h.0, tidies_kept g s t es after e kept h.1)
tidies_kept g s t (f ∷ es) after e kept (inr h) = inr (h.0, (h.1.0 ++ e ∷ [], ap (λ (xs : List (Row × ℕ)). xs ++ e ∷ []) h.1.1, tidies_kept g s t es h.1.0 e kept h.1.2))

-- where a clean-up stands at an index, with so many entries kept
pub record Cleans {M : Type 0} (g : GridOf M) (s t : Seen) (es now : List (Row × ℕ)) (at kept : ℕ) : Type 0 where
  pub few : kept ≤ at
  pub sized : length now ≡ length es
  pub rest : drop at now ≡ drop at es
  pub tidies : Tidies g s t (take at es) (take kept now)

next_entry : (es now : List (Row × ℕ)) (at : ℕ) (e : Row × ℕ) → drop at now ≡ drop at es → at < length now → length now ≡ length es → e ≡ get_or now at e → take (at + 1) es ≡ take at es ++ e ∷ []
next_entry es now at e rest within sized is =
    let inside : at < length es = subst (λ (n : ℕ). at < n) sized within in
    let same : get_or es at e ≡ e = head_is (get_or es at e) e (drop (at + 1) es) (drop (at + 1) now) (sym (drop_more es at e inside) ∙ sym rest ∙ (drop_more now at e within ∙ ap (λ (x : Row × ℕ). x ∷ drop (at + 1) now) (sym is))) in
    take_more es at e inside ∙ ap (λ (x : Row × ℕ). take at es ++ x ∷ []) same
  where
    head_is : (x y : Row × ℕ) (xs ys : List (Row × ℕ)) → x ∷ xs ≡ y ∷ ys → x ≡ y
    head_is x y xs ys h = ap (λ (zs : List (Row × ℕ)). get_or zs 0 x) h

pub cleans_gone : {M : Type 0} (g : GridOf M) (s t u : Seen) (es now : List (Row × ℕ)) (at kept : ℕ) (e : Row × ℕ) → Cleans g s t es now at kept → Grows t u → at < length now → e ≡ get_or now at e → SawCommitted u e.0 → Cleans g s u es now (at + 1) kept
cleans_gone g s t u es now at kept e c grows within is gone = record {
  few = let f = c.few in omega arith;
  sized = c.sized;
  rest = drop_more_same now es at c.rest;
  tidies = subst (λ (front : List (Row × ℕ)). Tidies g s u front (take kept now)) (sym (next_entry es now at e c.rest within c.sized is))
      (tidies_gone g s u (take at es) (take kept now) e gone (tidies_more g s t u (take at es) (take kept now) grows c.tidies));
}

pub cleans_kept : {M : Type 0} (g : GridOf M) (s t u : Seen) (es now : List (Row × ℕ)) (at kept : ℕ) (e : Row × ℕ) → Cleans g s t es now at kept → Grows t u → at < length now → e ≡ get_or now at e → (IsRowOf g e.0 → ¬ SawCommitted s e.0) → Cleans g s u es (set now kept e) (at + 1) (kept + 1)
cleans_kept g s t u es now at kept e c grows within is left =
    let inside : kept < length now = let f = c.few in omega arith in record {
      few = let f = c.few in omega arith;
      sized = length-set now kept e ∙ c.sized;
      rest = drop-set-lt (at + 1) now kept e (let f = c.few in omega arith) ∙ drop_more_same now es at c.rest;
      tidies = subst (λ (front : List (Row × ℕ)). Tidies g s u front (take (kept + 1) (set now kept e))) (sym (next_entry es now at e c.rest within c.sized is))
          (subst (λ (back : List (Row × ℕ)). Tidies g s u (take at es ++ e ∷ []) back) (sym (take_more_set now kept e inside))
          (tidies_kept g s u (take at es) (take kept now) e left (tidies_more g s t u (take at es) (take kept now) grows c.tidies)));
    }

pub cleans_at : {M : Type 0} (g : GridOf M) (s t : Seen) (es now now' : List (Row × ℕ)) (at kept kept' : ℕ) → now' ≡ now → kept' ≡ kept → Cleans g s t es now at kept → Cleans g s t es now' at kept'
cleans_at g s t es now now' at kept kept' same same_kept c =
    subst (λ (xs : List (Row × ℕ)). Cleans g s t es xs at kept') (sym same) (subst (λ (k : ℕ). Cleans g s t es now at k) (sym same_kept) c)
