-- The lives of the threads so far.
use Rattle.std.proofs.Common.{◌≡◌, map}
use Rattle.std.specs.List.{range_with_len}
use Rattle.protocol_ledger.specs.Openings.{first_life}
use Rattle.protocol_ledger.proofs.opening.Opening.first.Given as goal

abbrev pub invariant-loop-thread : goal.invariant-loop-thread
invariant-loop-thread l = l.lives.items ≡ map (first_life l.later) (range_with_len 0 l.thread)
