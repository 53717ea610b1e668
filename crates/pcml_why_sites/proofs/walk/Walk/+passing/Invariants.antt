use Rattle.std.proofs.Common.{◌≡◌, ◌<◌}
use Rattle.script_tree.specs.declared.tree.Event.{size-Event}
use Rattle.script_tree.specs.declared.tree.Events.{size-Events}
use Rattle.script_tree.specs.Trees.{event_of, events_of}
use Rattle.pcml_why_sites.specs.Walks.{pass, pass_all, view_in}
use Rattle.pcml_why_sites.proofs.walk.Walk.+passing.Given as goal

-- the members that are left take the message from where it lies behind the others
abbrev pub invariant-loop-rest : goal.invariant-loop-rest
invariant-loop-rest l = record {
  size : size-Events l.rest < size-Event l.fn.event;
  same : pass_all (events_of l.rest) l.n l.message (view_in l.self) ≡ pass (event_of l.fn.event) l.fn.n l.fn.message (view_in l.fn.self);
}
