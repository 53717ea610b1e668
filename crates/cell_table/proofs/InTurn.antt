-- Rows that are taken in turn: those that were taken come first, and behind one that is not opened none is.
use Rattle.std.proofs.Common.{◌≡◌, ◌∙◌, ◌<◌, ◌≤◌, ℕ, zero, suc, List, None, Some, true, false, ap, arith, length, refl, subst, sym, ⊎_elim}
use Rattle.std.specs.Prelude.{◌+◌}
use Rattle.std.proofs.lemmas.Bool.{cases_Bool, false≢true}
use Rattle.std.proofs.lemmas.Option.{none-some}
use Rattle.protocol_values.specs.Values.{joined_of}
use Rattle.protocol_values.specs.declared.Cell.{Cell}
use Rattle.protocol_values.specs.declared.Cell.TheVariants.{Claimed, Fresh, Synched, Taken, Waiting}
use Rattle.protocol_values.specs.declared.Offer.{Offer}
use Rattle.protocol_values.specs.declared.Row.{Row}
use Rattle.protocol_ledger.specs.Kept.{Linked}
use Rattle.protocol_ledger.specs.Tables.{Table, cell_at, is_fresh, is_taken, marks_at, offer_at}
use Rattle.protocol_ledger.specs.Openings.{greatest}
use Rattle.protocol_ledger.specs.Short.{Fits, rows_of, words_below}
use Rattle.protocol_ledger.proofs.Sheets.{missing_fresh}
use Rattle.protocol_ledger.proofs.Readings.{count_fresh, offer_none}
use Rattle.cell_table.specs.declared.view.Shape.{Shape}
use Rattle.cell_table.specs.Closings.{AreInTurn, words_of}
use Rattle.cell_table.specs.Views.{opening_in}

pub taken_open : (c : Cell) → is_taken c ≡ true → is_fresh c ≡ false
taken_open Fresh e = absurd (false≢true e)
taken_open Waiting e = absurd (false≢true e)
taken_open Claimed e = absurd (false≢true e)
taken_open (Synched j) e = absurd (false≢true e)
taken_open (Taken j) e = refl

fresh_untaken : (c : Cell) → is_fresh c ≡ true → is_taken c ≡ true → ⊥
fresh_untaken c fresh taken = false≢true (sym (taken_open c taken) ∙ fresh)

-- the rows before an opened one were taken, in a table that is linked
pub taken_before : (t : Table) → Linked t.threads t.rows (cell_at t) (offer_at t) (marks_at t) → (thread g h : ℕ) → g < h → is_fresh (cell_at t (record { thread = thread; sync = h })) ≡ false → is_taken (cell_at t (record { thread = thread; sync = g })) ≡ true
taken_before t linked thread g zero below seen_open = absurd (omega (arith, below))
taken_before t linked thread g (suc h) below seen_open =
    let next : suc h ≡ h + 1 = omega arith in
    let last = linked.in_turn thread h (subst (λ (k : ℕ). is_fresh (cell_at t (record { thread = thread; sync = k })) ≡ false) next seen_open) in
    ⊎_elim
    (λ (same : g ≡ h). subst (λ (k : ℕ). is_taken (cell_at t (record { thread = thread; sync = k })) ≡ true) (sym same) last)
    (λ (lower : g < h). taken_before t linked thread g h lower (taken_open (cell_at t (record { thread = thread; sync = h })) last))
    (Rattle.std.proofs.Math.Nat.eq-or-lt_of_le (let low : g ≤ h = omega (arith, below) in low))

-- who offers something is opened
pub offers_open : (t : Table) (r : Row) (n : ℕ) (o : Offer) → offer_at t r n ≡ Some o → is_fresh (cell_at t r) ≡ false
offers_open t r n o e = ⊎_elim
    (λ (fresh : is_fresh (cell_at t r) ≡ true). absurd (none-some o (sym (offer_none t r n (let none = count_fresh t r fresh in omega (arith, none))) ∙ e)))
    (λ (seen_open : is_fresh (cell_at t r) ≡ false). seen_open)
    (cases_Bool (is_fresh (cell_at t r)))

-- and who is not committed was not taken
pub untaken : (c : Cell) → joined_of c ≡ None → is_taken c ≡ false
untaken Fresh e = refl
untaken Waiting e = refl
untaken Claimed e = refl
untaken (Synched j) e = refl
untaken (Taken j) e = absurd (none-some j (sym e))

module _ {M : Type 0} (shape : Shape M) (ws : List ℕ) (thread : ℕ) where
  abbrev cell : ℕ → Cell
  cell g = cell_at (words_of shape ws) (record { thread = thread; sync = g })

  -- a row that has no words is Fresh
  pub none_past : Fits shape.layout shape.rows → length ws ≡ words_below shape.layout shape.threads → (g : ℕ) → rows_of shape.layout thread ≤ g → is_fresh (cell g) ≡ true
  none_past fits sized g past = ap is_fresh (missing_fresh shape.layout shape.threads shape.rows ws (greatest (opening_in shape)) fits sized (record { thread = thread; sync = g }) (λ its. past))

  module _ (turns : AreInTurn shape ws) where
    -- a row was taken, so all up to it were
    pub all_taken : (g : ℕ) → is_taken (cell g) ≡ true → (k : ℕ) → k < g + 1 → is_taken (cell k) ≡ true
    all_taken g taken k below = ⊎_elim
        (λ (same : k ≡ g). subst (λ (h : ℕ). is_taken (cell h) ≡ true) (sym same) taken)
        (λ (lower : k < g). turns thread k g lower (taken_open (cell g) taken))
        (Rattle.std.proofs.Math.Nat.eq-or-lt_of_le (let low : k ≤ g = omega (arith, below) in low))

    -- a row is not opened, so none from it on is
    pub none_opened : (g : ℕ) → is_fresh (cell g) ≡ true → (k : ℕ) → g ≤ k → is_fresh (cell k) ≡ true
    none_opened g fresh k above = ⊎_elim
        (λ (same : g ≡ k). subst (λ (h : ℕ). is_fresh (cell h) ≡ true) same fresh)
        (λ (higher : g < k). ⊎_elim
        (λ (yes : is_fresh (cell k) ≡ true). yes)
        (λ (no : is_fresh (cell k) ≡ false). absurd (fresh_untaken (cell g) fresh (turns thread g k higher no)))
        (cases_Bool (is_fresh (cell k))))
        (Rattle.std.proofs.Math.Nat.eq-or-lt_of_le above)
