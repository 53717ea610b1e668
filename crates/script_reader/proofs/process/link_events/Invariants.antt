use Rattle.std.proofs.Common.{◌≡◌, vec_len, map}
use Rattle.script_tree.specs.Trees.{event_of, events_of}
use Rattle.script_reader.specs.Blocks.{chain}
use Rattle.script_reader.proofs.Blocking.{chain_on}
use Rattle.script_reader.proofs.process.link_events.Given as goal

abbrev pub invariant-loop-event : goal.invariant-loop-event
invariant-loop-event l = chain_on (events_of l.linked) (map event_of l.events.items) ≡ chain (map event_of l.fn.events.items)

abbrev pub decreases-loop-event : goal.decreases-loop-event
decreases-loop-event l = vec_len l.events
