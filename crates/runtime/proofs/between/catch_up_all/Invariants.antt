use Rattle.std.proofs.Common.{◌≡◌, ℕ, List, Some, slice_get}
use Rattle.script_tree.specs.declared.tree.Block.{Block as Tree}
use Rattle.journal.specs.Concluding.{RunTrees}
use Rattle.thread.specs.Machines.{HasStopped, Thread}
use Rattle.runtime.proofs.CatchingUp.{CatchesUpBelow}
use Rattle.runtime.proofs.between.catch_up_all.Given as goal

-- the machines have caught up with the commits before this one
abbrev pub invariant-loop-commit : goal.invariant-loop-commit
invariant-loop-commit l = record {
  stopped : (t : ℕ) (m : Thread) → slice_get l.machines.items t ≡ Some (Some m) → HasStopped m.phase;
  trees : (trees : List Tree) → RunTrees trees l.fn.machines.items → RunTrees trees l.machines.items;
  caught : CatchesUpBelow l.had l.commits l.commit-index l.fn.machines.items l.machines.items;
}
