use Rattle.std.proofs.Common.{ℕ, List, ◌∷◌, [], ◌++◌, ap₂, sym, ◌∙◌, arith}
use Rattle.std.proofs.lemmas.List.FromFn.{map-range_with_len_more}
use Rattle.pcml_chart_layout.specs.Places.{column}
use Rattle.pcml_chart_layout.proofs.columns.Columns.new.Goals as goal

pub loop-thread-preserved : goal.loop-thread-preserved
loop-thread-preserved c =
    let k = c.loop-thread.thread in
    c.in_ok-push.ensures.items
    ∙ ap₂ (λ (xs : List ℕ) (n : ℕ). xs ++ n ∷ []) c.loop-thread.invariant c.column.ensures.value
    ∙ sym (map-range_with_len_more (column c.args.own.now) 0 k k (omega arith))
