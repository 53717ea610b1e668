-- The commits of a range.
use Rattle.std.proofs.Common.{◌≡◌, ℕ, ◌≤◌, List, [], ◌∷◌, refl, arith}
use Rattle.std.proofs.lemmas.Bool.Decides.{nat_tests}
use Rattle.protocol_values.specs.declared.Commit.{Commit}
use Rattle.pcml_chart.specs.Range.{count_shown}

-- no stamp is from a number on and below it
pub none_shown : (from below : ℕ) (cs : List Commit) → below ≤ from → count_shown from below cs ≡ 0
none_shown from below [] h = refl
none_shown from below (c ∷ cs) h = let later = none_shown from below cs h in grind (arith, nat_tests, later)
