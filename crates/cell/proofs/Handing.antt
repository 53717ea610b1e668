-- Places in which nothing lies.
use Rattle.std.proofs.Common.{◌++◌, ◌∷◌, [], zero, suc, List, None, Option, Some}
use Rattle.std.proofs.lemmas.Option.{none-some, same_Some}
use Rattle.cell.specs.Calls.{HoldNothing}

-- one more
pub nothing_more : {A : Type 0} (places : List (Option A)) → HoldNothing places → HoldNothing (places ++ None ∷ [])
nothing_more [] none zero value e = none-some value (same_Some None (Some value) e)
nothing_more [] none (suc n) value e = none-some (Some value) e
nothing_more (place ∷ places) none zero value e = none zero value e
nothing_more (place ∷ places) none (suc n) value e = nothing_more places (λ k. none (suc k)) n value e
