use Rattle.std.proofs.Common.{◌≡◌, length}
use Rattle.runtime.specs.Between.{HasNone}
use Rattle.runtime.proofs.between.none_each.Given as goal

abbrev pub invariant-loop-number : goal.invariant-loop-number
invariant-loop-number l = (length l.places.items ≡ l.number) × HasNone l.places.items
