use Rattle.std.proofs.Common.{◌≡◌, ◌≤◌, List}
use Rattle.thread.specs.declared.stack.Now.TheVariants.{Open}
use Rattle.thread.specs.After.{Chosen}
use Rattle.thread.specs.Fitting.{NowFits}
use Rattle.thread.specs.Reaches.{offered_reach}
use Rattle.thread.specs.Stacks.{frames_on, lists_of, now_on, offered_on, state_of, sync_at}
use Rattle.thread.proofs.resolving.resolve.Given as goal

-- the stages that are left come to what the thread comes to, whatever results come
abbrev pub invariant-loop-stage : goal.invariant-loop-stage
invariant-loop-stage l = record {
  does : (rs : List Chosen) → offered_on l.code l.offered (frames_on l.code l.stack.frames.items) (lists_of l.stack) (state_of l.memory rs) ≡ now_on l.code l.fn.stack (Open l.fn.offered) (state_of l.fn.memory rs);
  line : l.memory.line ≡ (sync_at l.code l.offered.plan).line;
  reach : offered_reach l.code l.offered ≤ offered_reach l.code l.fn.offered;
  fits : NowFits l.code l.stack (Open l.offered);
  spawned : l.memory.spawned ≡ l.fn.memory.spawned;
}

abbrev pub decreases-loop-stage : goal.decreases-loop-stage
decreases-loop-stage l = offered_reach l.code l.offered
