-- A run in the journal's order.
use Rattle.std.proofs.Common.{◌≡◌, ℕ, List, [], sym, ap, ◌∙◌, subst}
use Rattle.std.specs.Prelude.{IsPermutation}
use Rattle.std.proofs.lemmas.List.Sorted.{Contains-permutation, IsPermutation-sym}
use Rattle.std.proofs.lemmas.Map.Keys.{IsDistinct-IsPermutation}
use Rattle.script_tree.specs.Processes.{Proc}
use Rattle.protocol_values.specs.declared.Commit.{Commit}
use Rattle.journal_replay.specs.Runs.{IsRun, config_of}
use Rattle.journal_order.specs.Laws.{OrderedIsRun, HasOrder, OneOrder}
use Rattle.journal_order.proofs.Runs.{runs-on, run-whole}
use Rattle.journal_order.proofs.Sorting.{Ascends, Ordered, order}
use Rattle.journal_order.proofs.Unique.{ascends-from-order, order-from-ascends, distinct, key-flips, same_key, one-list}

-- two lists of a run's commits, both in order, are one
same-list : (ps : List Proc) (rows : ℕ) (commits xs ys : List Commit) → IsRun ps rows commits → IsPermutation commits xs → Ascends xs → IsPermutation commits ys → Ascends ys → xs ≡ ys
same-list ps rows commits xs ys run one up other down =
    let apart = distinct ps rows commits run in
    one-list xs ys up down
    (IsDistinct-IsPermutation same_key key-flips commits xs one apart)
    (IsDistinct-IsPermutation same_key key-flips commits ys other apart)
    (λ c h. Contains-permutation commits ys c other (Contains-permutation xs commits c (IsPermutation-sym commits xs one) h))
    (λ c h. Contains-permutation commits xs c one (Contains-permutation ys commits c (IsPermutation-sym commits ys other) h))

put-in-order : (ps : List Proc) (rows : ℕ) (commits : List Commit) → IsRun ps rows commits → Ordered ps rows [] commits
put-in-order ps rows commits run = order ps rows [] commits (runs-on ps rows [] commits run)

pub ordered-is-run : OrderedIsRun
ordered-is-run ps rows commits ordered run moved sorted =
    let o = put-in-order ps rows commits run in
    let same : o.list ≡ ordered = same-list ps rows commits o.list ordered run o.same o.ascends moved (ascends-from-order ordered sorted) in
    (subst (IsRun ps rows) same (run-whole ps rows o.list o.runs), ap (λ (cs : List Commit). config_of cs) (sym same) ∙ o.leads)

pub has-order : HasOrder
has-order ps rows commits run =
    let o = put-in-order ps rows commits run in
    (o.list, o.same, order-from-ascends o.list o.ascends)

pub one-order : OneOrder
one-order ps rows commits first second run one up other down =
    same-list ps rows commits first second run one (ascends-from-order first up) other (ascends-from-order second down)
