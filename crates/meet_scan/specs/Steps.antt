-- Which steps of the protocol a search makes, and what it leaves of a pass.
use Rattle.std.specs.Prelude.{◌≡◌, ℕ, zero, suc, List, ◌∷◌, Option, Some, None}
use Rattle.protocol_values.specs.declared.Row.{Row}
use Rattle.protocol_values.specs.declared.Step.{Step}
use Rattle.protocol_values.specs.declared.Step.TheVariants.{Claim, Grant, Join, Seal, Yield}
use Rattle.cell.specs.Calls.{KeepsResults, PassOf}
use Rattle.meet_scan.specs.declared.found.Found.{Found}
use Rattle.meet_scan.specs.declared.found.Found.TheVariants.{Met, Alone, Already, Waits}

-- the pass has made no step, and has the results and the slots that it had
abbrev pub OnlyLooks : {M : Type 0} → PassOf M → PassOf M → Type 0
OnlyLooks before after = (after.made ≡ before.made) × KeepsResults before after

-- SEARCHES. The steps that a pass has made stand the last one first.

-- so many times the row was claimed and given up
abbrev pub with_tries : ℕ → Row → List Step → List Step
with_tries zero r before = before
with_tries (suc n) r before = Yield r ∷ Claim r ∷ with_tries n r before

-- A search claims its row and gives it up, as often as it may, and then commits it with the other, or alone, or does not commit
-- it. It makes no other step.
abbrev pub SearchMade : Row → Found → List Step → List Step → Type 0
SearchMade r (Met other) before after = (n : ℕ) × (own : ℕ) × (partner : ℕ) × (after ≡ Seal r ∷ Join r own other partner ∷ Claim r ∷ with_tries n r before)
SearchMade r Alone before after = (n : ℕ) × (own : ℕ) × (after ≡ Grant r own ∷ with_tries n r before)
SearchMade r Already before after = (n : ℕ) × (after ≡ with_tries n r before)
SearchMade r Waits before after = (n : ℕ) × (after ≡ with_tries n r before)

-- after want of memory: as a search that came to something
abbrev pub SomeSearchMade : Row → List Step → List Step → Type 0
SomeSearchMade r before after = (found : Found) × SearchMade r found before after

-- what a part of a search came to: where it found nothing, the row is left to the next part
abbrev pub found_or_left : Option Found → Found
found_or_left None = Waits
found_or_left (Some found) = found
