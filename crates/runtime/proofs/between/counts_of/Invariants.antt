use Rattle.std.proofs.Common.{◌≡◌, map, take}
use Rattle.runtime.specs.Between.{count_in}
use Rattle.runtime.proofs.between.counts_of.Given as goal

abbrev pub invariant-loop-stands : goal.invariant-loop-stands
invariant-loop-stands l = l.had.items ≡ map count_in (take l.stands-index l.first)
