use Rattle.std.proofs.Common.{◌≡◌, ◌++◌, ◌≤◌}
use Rattle.std.specs.String.{string_bytes}
use Rattle.script_tree.specs.declared.tree.Block.{size-Block}
use Rattle.script_tree.specs.declared.tree.Events.{size-Events}
use Rattle.script_tree.specs.Trees.{block_of, events_of}
use Rattle.script_writer.specs.Texts.{events_text, more_events_text, stmts_text}
use Rattle.script_writer.specs.Sources.{source_names}
use Rattle.script_writer.proofs.process.+tree.Given as goal

abbrev pub invariant-put_events-loop-rest : goal.invariant-put_events-loop-rest
invariant-put_events-loop-rest l = record {
  size : size-Events l.rest ≤ size-Events l.fn.events;
  text : string_bytes l.out ++ more_events_text (source_names l.source) (events_of l.rest) ≡ string_bytes l.fn.out ++ events_text (source_names l.source) (events_of l.fn.events);
}

abbrev pub invariant-put_stmts-loop-rest : goal.invariant-put_stmts-loop-rest
invariant-put_stmts-loop-rest l = record {
  size : size-Block l.rest ≤ size-Block l.fn.block;
  text : string_bytes l.out ++ stmts_text (source_names l.source) (block_of l.rest) ≡ string_bytes l.fn.out ++ stmts_text (source_names l.source) (block_of l.fn.block);
}
