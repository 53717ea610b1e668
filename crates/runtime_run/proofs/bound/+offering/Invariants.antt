use Rattle.std.proofs.Common.{◌≤◌, ◌<◌, ◌↔◌, ℕ}
use Rattle.script_tree.specs.Trees.{block_of, event_of, events_of}
use Rattle.script_tree.specs.declared.tree.Block.{size-Block}
use Rattle.script_tree.specs.declared.tree.Event.{size-Event}
use Rattle.script_tree.specs.declared.tree.Events.{size-Events}
use Rattle.runtime_worker.specs.Widths.{MembersOfferAtMost, OffersAtMost, BodiesOfferAtMost}
use Rattle.runtime_run.proofs.bound.+offering.Given as goal

abbrev pub invariant-block_offers-loop-rest : goal.invariant-block_offers-loop-rest
invariant-block_offers-loop-rest l = record {
  size : size-Block l.rest ≤ size-Block l.fn.block;
  small : OffersAtMost 8 (block_of l.rest);
  most : (k : ℕ) → OffersAtMost k (block_of l.fn.block) ↔ ((l.most ≤ k) × OffersAtMost k (block_of l.rest));
}

abbrev pub invariant-body_offers-loop-rest : goal.invariant-body_offers-loop-rest
invariant-body_offers-loop-rest l = record {
  size : size-Events l.rest < size-Event l.fn.event;
  small : MembersOfferAtMost 8 (events_of l.rest);
  most : (k : ℕ) → BodiesOfferAtMost k (event_of l.fn.event) ↔ ((l.most ≤ k) × MembersOfferAtMost k (events_of l.rest));
}
