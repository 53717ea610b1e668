use Rattle.std.proofs.Common.{◌≡◌, ◌++◌, map, take}
use Rattle.runtime.specs.Between.{renumbered}
use Rattle.runtime.proofs.between.add_renumbered.Given as goal

abbrev pub invariant-loop-commit : goal.invariant-loop-commit
invariant-loop-commit l = l.journal.items ≡ l.fn.journal.items ++ map (renumbered l.had) (take l.commit-index l.commits)
