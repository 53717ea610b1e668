-- The outcome that is asked for is one of those that were found.
use Rattle.std.proofs.Common.{◌≡◌, ℕ, ◌-◌, List, slice_get, Option, Some, None, sym, ◌∙◌}
use Rattle.std.specs.List.{position_or_len}
use Rattle.std.proofs.lemmas.List.Folds.{find_at}
use Rattle.outcomes.specs.declared.Outcome.{Outcome}
use Rattle.outcomes.specs.declared.asked.Asked.{Asked}
use Rattle.pcml_outcomes.specs.Told.{asked_for, is_shown}

pub asked-in : (of : Option ℕ) (asked : Asked) (outcomes : List Outcome) (o : Outcome) → asked_for of asked outcomes ≡ Some o → (k : ℕ) × (slice_get outcomes k ≡ Some o)
asked-in (Some number) asked outcomes o is = (number - 1, is)
asked-in None asked outcomes o is = (position_or_len (is_shown asked) outcomes, sym (find_at (is_shown asked) outcomes) ∙ is)
