-- What a try to bind a nack tells where it was not free.
use Rattle.std.proofs.Common.{◌≡◌, ◌⊎◌, ◌<◌, ◌≤◌, ℕ, List, Option, length, inl, inr, refl, ap, sym, subst}
use Rattle.protocol_values.specs.declared.Binding.{Binding}
use Rattle.protocol_values.specs.declared.NackName.{NackName}
use Rattle.protocol_values.specs.declared.NackWord.{NackWord}
use Rattle.protocol_values.specs.declared.NackWord.TheVariants.{Bound, Carried, Unbound}
use Rattle.protocol_values.specs.declared.Row.{Row}
use Rattle.protocol_ledger.specs.Standing.{Stands}
use Rattle.protocol_ledger.specs.Tables.{bound_row}
use Rattle.protocol_ledger.specs.Worlds.{nack_of_row}
use Rattle.cell.specs.Attempts.{BoundBefore}
use Rattle.cell_table.specs.declared.view.View.{View}
use Rattle.cell_table.specs.Sight.{Has, see_bound, see_carried}
use Rattle.cell_table.specs.Told.{FoundNack, IsEarlier}
use Rattle.cell_table.specs.Views.{saw_nack}

module _ {M : Type 0} (stands : Stands M) where
  -- where it is bound, or as what it is carried
  pub bound_else : (v w : View M) (n : NackName) (b : Binding) (says : NackWord) → Has v.seen.held (bound_row n b) → w ≡ saw_nack n says v → FoundNack stands v n b says
      → ((x : Binding) × (w.seen ≡ see_bound n x v.seen) × (x.sync ≤ b.sync) × (x.sync ≡ b.sync → Has v.seen.bound (n, x)))
      ⊎ ((stamp : ℕ) × (w.seen ≡ see_carried n stamp v.seen) × ((x : Binding) → ¬ Has v.seen.bound (n, x)))
  bound_else v w n b Unbound held is found = absurd found
  bound_else v w n b (Bound x) held is found =
      inl (x, ap (λ (z : View M). z.seen) is, found.0, λ e. found.1 (subst (λ (s : ℕ). Has v.seen.held (record { thread = n.thread; sync = s })) (sym e) held))
  bound_else v w n b (Carried stamp) held is found = inr (stamp, ap (λ (z : View M). z.seen) is, found)

  -- and where it is bound to an earlier row, a scope of that row has it
  pub bound_before : (first : List (Option M)) (v w : View M) (r : Row) (k scope : ℕ) (says : NackWord) → v.first ≡ first → 0 < length first
      → w ≡ saw_nack (nack_of_row r k) says v → FoundNack stands v (nack_of_row r k) (record { sync = r.sync; scope = scope }) says → BoundBefore stands first v.results w.seen k r
  bound_before first v w r k scope Unbound same filled is found = absurd found
  bound_before first v w r k scope (Bound x) same filled is found =
      inl (
        x,
        subst (λ (z : View M). Has z.seen.bound (nack_of_row r k, x)) (sym is) (inl refl),
        λ below. subst (λ (l : List (Option M)). IsEarlier stands l v.results (nack_of_row r k) x) same (found.2 below (subst (λ (l : List (Option M)). 0 < length l) (sym same) filled)),
      )
  bound_before first v w r k scope (Carried stamp) same filled is found =
      inr (stamp, subst (λ (z : View M). Has z.seen.carried (nack_of_row r k, stamp)) (sym is) (inl refl))
