-- A nack that was bound to a row.
use Rattle.std.proofs.Common.{◌≡◌, ◌≢◌, ◌∙◌, ℕ, zero, suc, List, [], ◌∷◌, Some, slice_get, refl, sym, ap, subst, inl, ⊎_elim}
use Rattle.std.proofs.lemmas.Option.{none-some, same_Some}
use Rattle.protocol_values.specs.declared.Binding.{Binding}
use Rattle.protocol_values.specs.declared.NackName.{NackName}
use Rattle.protocol_values.specs.declared.Row.{Row}
use Rattle.protocol_ledger.specs.Standing.{binding_of}
use Rattle.protocol_ledger.specs.Tables.{bound_row}
use Rattle.protocol_ledger.specs.Worlds.{nack_of_row}
use Rattle.cell_table.specs.declared.view.Seen.{Seen}
use Rattle.cell_table.specs.Sight.{Has, see_bound}
use Rattle.test_journal.specs.Fetched.{HasNacks}

-- nack 0 was bound to the row, and nothing else was seen bound to it
pub has_one : (before after : Seen) (r : Row) → after ≡ see_bound (nack_of_row r 0) (binding_of r 0) before
    → ((n : NackName) (b : Binding) → Has before.bound (n, b) → bound_row n b ≢ r) → HasNacks after r
has_one before after r is free = (
  0 ∷ [],
  record {
    bound = λ scope k at. subst (λ (s : Seen). Has s.bound (nack_of_row r k, binding_of r scope)) (sym is) (there scope k at);
    no_others = λ scope k h. ⊎_elim
        (λ (e : (nack_of_row r 0, binding_of r 0) ≡ (nack_of_row r k, binding_of r scope)).
        ap (slice_get (0 ∷ [])) (sym (ap (λ (z : NackName × Binding). z.1.scope) e)) ∙ ap Some (ap (λ (z : NackName × Binding). z.0.k) e))
        (λ (old : Has before.bound (nack_of_row r k, binding_of r scope)). absurd (free (nack_of_row r k) (binding_of r scope) old refl))
        (subst (λ (s : Seen). Has s.bound (nack_of_row r k, binding_of r scope)) is h);
  },
)
  where
    there : (scope k : ℕ) → slice_get (0 ∷ []) scope ≡ Some k → Has (see_bound (nack_of_row r 0) (binding_of r 0) before).bound (nack_of_row r k, binding_of r scope)
    there zero k at = let one : 0 ≡ k = same_Some 0 k at in inl (λ i. (nack_of_row r (one i), binding_of r 0))
    there (suc scope) k at = absurd (none-some k at)
