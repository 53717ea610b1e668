use Rattle.std.proofs.Common.{List, subst, rules}
use Rattle.std.specs.Prelude.{IsPermutation}
use Rattle.std.proofs.lemmas.List.Sorted.{answers_always}
use Rattle.protocol_values.specs.declared.Commit.{Commit}
use Rattle.protocol_values.specs.Commits.{order_of}
use Rattle.journal.proofs.record.in_order.Goals as goal

pub returns : goal.returns
returns c = (
  subst (λ (cs : List Commit). IsPermutation cs c.sort_by_key.new.self.items) c.in_ok-append.ensures.items c.in_ok-sort_by_key.ensures.permutation,
  c.in_ok-sort_by_key.ensures.sorted order_of (answers_always _ _ _ (λ f a r g h. search rules)),
)
