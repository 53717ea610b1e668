-- What a search came to, by what its scan of the directory came to.
use Rattle.std.proofs.Common.{◌≡◌, ◌⊎◌, ℕ, inl, inr, subst}
use Rattle.protocol_values.specs.declared.Row.{Row}
use Rattle.cell_table.specs.Nacks.{CanStandAlone}
use Rattle.cell_table.specs.Sight.{SawCommitted}
use Rattle.cell_table.specs.declared.view.Seen.{Seen}
use Rattle.meet_directory.specs.declared.view.View.{View}
use Rattle.meet_scan.specs.Leaving.{IsLeftRow, ScansTo}
use Rattle.meet_scan.specs.Searches.{Finds, FoundAt, Grows}
use Rattle.meet_scan.specs.declared.found.Found.{Found}
use Rattle.meet_scan.specs.declared.found.Found.TheVariants.{Met, Alone, Already, Waits}
use Rattle.meet_scan.proofs.Growing.{saw_more}

pub scans_find : (v : View) (s t u : Seen) (r : Row) (found : Found) → Grows s t → ((n : ℕ) → ¬ CanStandAlone s r n) → ScansTo v t u r found → Finds s u r found
scans_find v s t u r (Met other) grows none h = h
scans_find v s t u r Alone grows none h = h
scans_find v s t u r Already grows none h = h
scans_find v s t u r Waits grows none h = ((λ c. h.1 (saw_more s t r grows c)), none)

pub scans_left : (v : View) (t u : Seen) (r : Row) (found : Found) → ScansTo v t u r found → found ≡ Waits → IsLeftRow v u r
scans_left v t u r found h is = (subst (λ (f : Found). ScansTo v t u r f) is h).0

-- in any case the row is committed, or left
pub scans_kept : (v : View) (t u : Seen) (r : Row) (found : Found) → ScansTo v t u r found → SawCommitted u r ⊎ IsLeftRow v u r
scans_kept v t u r (Met other) h = inl (record { own = h.0; partner = Rattle.std.specs.Prelude.Some (other, h.1); stamp = h.2 }, h.3.0)
scans_kept v t u r Alone h = inl (h.0, h.1)
scans_kept v t u r Already h = inl h
scans_kept v t u r Waits h = inr h.0

-- what is committed is not left
pub found_not_left : {P : Type 0} (t : Seen) (r : Row) (found : Found) → FoundAt t r found → found ≡ Waits → P
found_not_left t r found h is = absurd (subst (λ (f : Found). FoundAt t r f) is h)
