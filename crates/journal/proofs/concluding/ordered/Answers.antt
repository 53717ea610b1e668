use Rattle.std.proofs.Common.{rules}
use Rattle.std.proofs.lemmas.List.Sorted.{answers_always}
use Rattle.protocol_values.specs.Commits.{order_of}
use Rattle.journal.proofs.concluding.ordered.Goals as goal

pub returns : goal.returns
returns c =
    let sorted = c.in_ok-sort_by_key.ensures in
    record { all = sorted.permutation; ordered = sorted.sorted order_of (answers_always _ _ _ (λ f a r g h. search rules)) }
