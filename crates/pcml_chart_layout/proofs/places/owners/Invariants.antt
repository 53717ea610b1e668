use Rattle.std.proofs.Common.{◌≡◌, ◌≤◌, take}
use Rattle.pcml_chart_layout.specs.Places.{owners}
use Rattle.pcml_chart_layout.proofs.places.owners.Given as goal

abbrev pub invariant-loop-owns : goal.invariant-loop-owns
invariant-loop-owns l = (l.count ≡ owners (take l.owns-index l.own)) × (l.count ≤ l.owns-index)
