-- A row that could stand alone was committed, or claimed.
use Rattle.std.proofs.Common.{◌≡◌, ◌<◌, ◌+◌, ℕ, List, Bool, true, false, arith, inl, inr, subst, sym, ◌⊎◌, ⊎_elim}
use Rattle.std.specs.Prelude.{if◌then◌else◌, MatchBool, None, Option, Some}
use Rattle.std.proofs.lemmas.Bool.{cases_eq}
use Rattle.protocol_values.specs.declared.Row.{Row}
use Rattle.protocol_values.specs.declared.Step.{Step}
use Rattle.cell_table.specs.Nacks.{CanStandAlone}
use Rattle.cell_table.specs.Sight.{SawCommitted}
use Rattle.cell_table.specs.declared.view.Seen.{Seen}
use Rattle.meet_scan.specs.Searches.{Grows}
use Rattle.meet_scan.specs.Steps.{SearchMade, found_or_left}
use Rattle.meet_scan.specs.declared.found.Found.{Found}
use Rattle.meet_scan.specs.declared.found.Found.TheVariants.{Already}
use Rattle.meet_scan.proofs.Growing.{stands_more}
use Rattle.cell_hand.specs.Calls.{IsWoken}

abbrev pub by_answer : Bool → Option Found
by_answer committed = if committed then Some Already else None

made_by : (r : Row) (committed : Bool) (a b : List Step) → b ≡ a → SearchMade r (found_or_left (by_answer committed)) a b
made_by r true a b e = (0, e)
made_by r false a b e = (0, e)

pub already_made : (r : Row) (committed : Bool) (answer : Option Found) (a b : List Step) → answer ≡ by_answer committed → b ≡ a → SearchMade r (found_or_left answer) a b
already_made r committed answer a b is e = subst (λ (f : Option Found). SearchMade r (found_or_left f) a b) (sym is) (made_by r committed a b e)

woken_by : (s t u : Seen) (r : Row) (n : ℕ) (committed : Bool) (Q : Type 0) → Grows t u → CanStandAlone t r n → MatchBool committed (SawCommitted u r) Q
    → IsWoken s u r (by_answer committed)
woken_by s t u r n true Q g can saw = saw
woken_by s t u r n false Q g can saw = (n, stands_more t u r n g can)

pub already_woken : (s t u : Seen) (r : Row) (n : ℕ) (committed : Bool) (answer : Option Found) (Q : Type 0) → answer ≡ by_answer committed → Grows t u → CanStandAlone t r n
    → MatchBool committed (SawCommitted u r) Q → IsWoken s u r answer
already_woken s t u r n committed answer Q is g can saw = subst (λ (f : Option Found). IsWoken s u r f) (sym is) (woken_by s t u r n committed Q g can saw)

late : (k n : ℕ) → k < n + 1 → (k < n) ⊎ (k ≡ n)
late k n low = ⊎_elim (λ e. inr e) (λ ne. inl (omega (arith, low, ne))) (cases_eq k n)

pub below_next : (P : ℕ → Type 0) (n : ℕ) → ((k : ℕ) → k < n → P k) → P n → (k : ℕ) → k < n + 1 → P k
below_next P n below here k low = ⊎_elim (λ (h : k < n). below k h) (λ (e : k ≡ n). subst P (sym e) here) (late k n low)
