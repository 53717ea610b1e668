-- What lies at home stands for its thread, and to whom a thread's nacks are bound.
use Rattle.std.specs.Bool.{⊤}
use Rattle.std.proofs.Common.{◌⊎◌, ◌≡◌, ℕ, true, false, List, Option, Some, None, sym, refl, ap, ◌∙◌, subst, inl, inr, ⊎_elim}
use Rattle.std.proofs.lemmas.Bool.{cases_Bool}
use mathlib.Core.Option.{Option as Maybe, some}
use lib.ListN.{get_elem?}
use Rattle.protocol_values.specs.declared.Binding.{Binding}
use Rattle.protocol_values.specs.declared.NackName.{NackName}
use Rattle.protocol_values.specs.declared.Row.{Row}
use Rattle.protocol_ledger.specs.Kept.{Kept}
use Rattle.protocol_ledger.specs.Ledgers.{ledger_of}
use Rattle.protocol_ledger.specs.Standing.{OffersAs, Stands}
use Rattle.protocol_ledger.specs.Tables.{binding_at, bound_row, cell_at, is_fresh}
use Rattle.protocol_ledger.specs.Worlds.{World, first_row}
use Rattle.protocol_ledger.proofs.LedgerLemmas.{binding_in_ledger}
use Rattle.cell_table.specs.declared.view.View.{View}
use Rattle.cell_table.specs.Laws.{IsNackThere, StandsFor}
use Rattle.cell_table.specs.Rule.{HasOpenRow, Housed, StoodFirst}
use Rattle.cell_table.proofs.Housing.{none_open}

module _ {M : Type 0} (stands : Stands M) (first : List (Option M)) (w : World) (k : Kept w) (homes : List (Maybe (Option M))) (views : List (View M)) (h : Housed stands first w homes views) where
  pub home_stands : (t : ℕ) (value : M) → get_elem? homes t ≡ some (some (Some value)) → StandsFor stands first w.table t value
  home_stands t value home = ⊎_elim (λ (a : StoodFirst first w.table t value). inl (a.1, all_fresh a.0)) (λ (o : HasOpenRow w.table t). inr (o.0, o.1, o.2, o.3, stands_there o)) (h.lies t value home)
    where
      all_fresh : is_fresh (cell_at w.table (first_row t)) ≡ true → (r : Row) → r.thread ≡ t → is_fresh (cell_at w.table r) ≡ true
      all_fresh fresh r same = ⊎_elim
          (λ (e : is_fresh (cell_at w.table r) ≡ true). e)
          (λ (e : is_fresh (cell_at w.table r) ≡ false). absurd (none_open w k (first_row t) r refl (sym same) fresh e))
          (cases_Bool (is_fresh (cell_at w.table r)))

      offers_there : Row → Option M → Type 0
      offers_there r (Some x) = OffersAs (stands.offers first x) (ledger_of w.table) r
      offers_there r None = ⊤

      stands_there : (o : HasOpenRow w.table t) → OffersAs (stands.offers first value) (ledger_of w.table) o.0
      stands_there o =
          let there = h.at_home o.0 o.2 o.3 in
          let one : Some there.value ≡ Some value = mathlib.Core.Option.some-injective _ _ (mathlib.Core.Option.some-injective _ _ (sym there.home ∙ ap (get_elem? homes) o.1 ∙ home)) in
          subst (offers_there o.0) one there.offers

  pub nack_stands : (n : NackName) (b : Binding) → binding_at w.table n ≡ Some b → (is_fresh (cell_at w.table (bound_row n b)) ≡ true) ⊎ IsNackThere stands first w.table n b
  nack_stands n b bound = ⊎_elim
      (λ (e : is_fresh (cell_at w.table (bound_row n b)) ≡ true). inl e)
      (λ (e : is_fresh (cell_at w.table (bound_row n b)) ≡ false). let o = h.rows (bound_row n b) e in inr (o, o.no_others b.scope n.k (ap (λ (f : NackName → Option Binding). f n) (binding_in_ledger w.table) ∙ bound)))
      (cases_Bool (is_fresh (cell_at w.table (bound_row n b))))
