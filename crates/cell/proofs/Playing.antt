-- What the tests need of the passes that they are dealt.
use Rattle.std.proofs.Common.{◌≡◌, ℕ, zero, suc, ◌+◌, ◌<◌, Bool, true, false, cond, ◌||◌, List, [], ◌∷◌, ◌++◌, length, sym, refl, ap, ◌∙◌, subst, inl, inr, ⊎_elim, arith, Some, None, slice_get}
use Rattle.std.proofs.lemmas.Bool.{cases_Bool, true≢false, or_left, or_right}
use Rattle.std.proofs.lemmas.List.{length-append}
use Rattle.std.proofs.Math.Nat.{mod-eq_of_lt}
use Rattle.protocol_values.specs.declared.Row.{Row}
use Rattle.protocol_ledger.specs.Tables.{row_eq}
use Rattle.protocol_ledger.specs.declared.opening.Life.{Life}
use Rattle.protocol_ledger.specs.declared.opening.Life.TheVariants as life
use Rattle.protocol_ledger.specs.Openings.{Opening, is_running, start_opening, thread_in}
use Rattle.protocol_ledger.proofs.LedgerLemmas.{first_thread, nobody_waits}
use Rattle.protocol_ledger.proofs.RowLemmas.{row_eq-refl, row_eq-true}
use Rattle.cell_table.specs.Sight.{Has}
use Rattle.protocol_ledger.specs.Worlds.{first_row}
use Rattle.cell_table.specs.Rule.{is_among, dealt_rows}
use Rattle.cell_table.proofs.Dealing.{dealt_has, falls_from}

-- A ROW AMONG ROWS, as a test
pub among_has : (rows : List Row) (r : Row) → is_among rows r ≡ true → Has rows r
among_has [] r e = absurd (true≢false (sym e))
among_has (q ∷ rows) r e = ⊎_elim
    (λ (h : row_eq q r ≡ true). inl (row_eq-true q r h))
    (λ (h : row_eq q r ≡ false). inr (among_has rows r (sym (ap (λ (b : Bool). b || is_among rows r) h) ∙ e)))
    (cases_Bool (row_eq q r))

pub has_among : (rows : List Row) (r : Row) → Has rows r → is_among rows r ≡ true
has_among [] r h = absurd h
has_among (q ∷ rows) r (inl e) = or_left (row_eq q r) (is_among rows r) (ap (λ (x : Row). row_eq x r) e ∙ row_eq-refl r)
has_among (q ∷ rows) r (inr h) = or_right (row_eq q r) (is_among rows r) (has_among rows r h)

-- where each thread has a pass of its own, the pass holds the thread's row
pub own_row : (threads number : ℕ) → number < threads → Has (dealt_rows threads threads number) (first_row number)
own_row threads number h =
    let o : Opening = start_opening threads 0 in
    let runs : is_running (thread_in o number).0 ≡ true = ap (λ (x : Life × ℕ). is_running x.0) (first_thread threads 0 number h) ∙ ap (λ (b : Bool). is_running (cond b life.Unstarted life.Running)) (nobody_waits number) in
    dealt_has o threads threads number (first_row number) (refl, h, falls_from o threads number number runs (mod-eq_of_lt h))

-- THE LAST OF A LIST
at_last : {A : Type 0} (ys : List A) (x : A) → slice_get (ys ++ x ∷ []) (length ys) ≡ Some x
at_last [] x = refl
at_last (y ∷ ys) x = at_last ys x

before_last : {A : Type 0} (ys : List A) (x y : A) (k : ℕ) → slice_get ys k ≡ Some y → slice_get (ys ++ x ∷ []) k ≡ Some y
before_last [] x y k e = let bad : None ≡ Some y = e in cc
before_last (z ∷ ys) x y zero e = e
before_last (z ∷ ys) x y (suc k) e = before_last ys x y k e

-- what holds of each is true of the last, and still of the others
pub popped : {A : Type 0} (P : ℕ → A → Type 0) (xs ys : List A) (x : A) (n : ℕ) → xs ≡ ys ++ x ∷ [] → length xs ≡ n + 1
    → ((k : ℕ) (y : A) → slice_get xs k ≡ Some y → P k y) → P n x × ((k : ℕ) (y : A) → slice_get ys k ≡ Some y → P k y)
popped {A} P xs ys x n e len each =
    let long = ap (λ (l : List A). length l) e ∙ length-append ys (x ∷ []) in
    let count : length ys ≡ n = omega arith in (
      each n x (ap (λ (l : List A). slice_get l n) e ∙ subst (λ (k : ℕ). slice_get (ys ++ x ∷ []) k ≡ Some x) count (at_last ys x)),
      λ k y h. each k y (ap (λ (l : List A). slice_get l k) e ∙ before_last ys x y k h),
    )
