use Rattle.std.proofs.Common.{◌≡◌, ◌<◌, List}
use Rattle.script_tree.specs.declared.tree.Event.{size-Event}
use Rattle.script_tree.specs.declared.tree.Events.{size-Events}
use Rattle.script_tree.specs.Lined.{event_of, events_of}
use Rattle.thread.specs.After.{Chosen}
use Rattle.thread.specs.Passing.{pass, pass_all}
use Rattle.thread.specs.Stacks.{state_of}
use Rattle.thread.proofs.commit.+pass.Given as goal

-- the members that are left take the message from where it lies behind the others
abbrev pub invariant-loop-rest : goal.invariant-loop-rest
invariant-loop-rest l = record {
  size : size-Events l.rest < size-Event l.fn.event;
  memory : l.memory ≡ l.fn.memory;
  left : (rs : List Chosen) → pass (event_of l.fn.event) l.fn.n l.message (state_of l.fn.memory rs) ≡ pass_all (events_of l.rest) l.n l.message (state_of l.fn.memory rs);
}
