use Rattle.std.proofs.Common.{◌≡◌, ◌+◌, ◌*◌, ◌<◌, ◌≤◌, ◌++◌, All, List, vec_len}
use Rattle.script_tree.specs.declared.tree.Block.{Block as SeenBlock, size-Block}
use Rattle.script_tree.specs.declared.tree.Event.{size-Event}
use Rattle.script_tree.specs.declared.tree.Events.{size-Events}
use Rattle.script_tree.specs.Lined.{block_of, event_of, events_of, nack_count, nacks_of_all}
use Rattle.thread_code.specs.Codes.{AreStages, Grows, IsAt, IsLinked}
use Rattle.thread_code.specs.Fitting.{MembersFit}
use Rattle.thread_code.specs.Stages.{Stage, stages, stages_of_all}
use Rattle.thread_code.proofs.Chains.{Chain}
use Rattle.thread_code.proofs.compiling.+adding.Given as goal

abbrev pub decreases-add_block : goal.decreases-add_block
decreases-add_block l = 2 * size-Block l.block.now.value + 1

abbrev pub decreases-add_statement : goal.decreases-add_statement
decreases-add_statement l = 2 * size-Block l.block.value

abbrev pub decreases-add_sync : goal.decreases-add_sync
decreases-add_sync l = 2 * size-Event l.event.now.value + 1

abbrev pub decreases-add_stages : goal.decreases-add_stages
decreases-add_stages l = 2 * size-Event l.event.now.value

abbrev pub invariant-add_block-loop-behind : goal.invariant-add_block-loop-behind
invariant-add_block-loop-behind l = record {
  chain : Chain l.parts.items l.fn.block.value l.rest.value;
  sizes : All (λ p. size-Block p.value ≤ size-Block l.fn.block.value) l.parts.items;
  size : size-Block l.rest.value ≤ size-Block l.fn.block.value;
}

abbrev pub invariant-add_block-loop-part : goal.invariant-add_block-loop-part
invariant-add_block-loop-part l = record {
  rest : SeenBlock;
  chain : Chain l.parts.items l.fn.block.value rest;
  sizes : All (λ p. size-Block p.value ≤ size-Block l.fn.block.value) l.parts.items;
  there : IsAt l.code l.at (block_of rest);
  grows : Grows l.fn.code l.code;
  linked : IsLinked l.code;
}

abbrev pub decreases-add_block-loop-part : goal.decreases-add_block-loop-part
decreases-add_block-loop-part l = vec_len l.parts

abbrev pub invariant-add_stages-loop-rest : goal.invariant-add_stages-loop-rest
invariant-add_stages-loop-rest l = record {
  size : size-Events l.rest < size-Event l.fn.event.value;
  fits : MembersFit (events_of l.rest);
  next : l.next + nacks_of_all (events_of l.rest) ≡ l.fn.next + nack_count (event_of l.fn.event.value);
  stages :
      (before : List Stage) → AreStages l.fn.code l.fn.list.items before →
      (done : List Stage) × AreStages l.code l.list.items (before ++ done) × (done ++ stages_of_all l.fn.around l.next (events_of l.rest) ≡ stages l.fn.around l.fn.next (event_of l.fn.event.value));
  grows : Grows l.fn.code l.code;
  linked : IsLinked l.code;
}
