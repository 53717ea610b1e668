use Rattle.std.proofs.Common.{◌≡◌, ℕ, ◌∙◌, get_or, ap, arith}
use Rattle.std.proofs.lemmas.List.{get_or_read}
use Rattle.pcml_chart_layout.specs.Places.{column}
use Rattle.pcml_chart_layout.proofs.Placing.{column-within, column_past, column_there}
use Rattle.pcml_chart_layout.proofs.columns.Columns.of.Goals as goal

pub returns-then-place-len : goal.returns-then-place-len
returns-then-place-len c =
    let self = c.args.self.now in
    let is : c.index.result.now ≡ column self.own.now c.args.thread =
    get_or_read self.places.items c.from-place.result _ (omega arith) c.index.ensures 0
    ∙ ap (λ (n : ℕ). get_or self.places.items n 0) c.from-place.ensures
    ∙ column_there self.own.now self.places.items c.args.thread self.placed (omega arith) in
    let within = column-within self.own.now c.args.thread in
    record { value = is; within = omega arith }

pub returns-else-place-len-clause-value : goal.returns-else-place-len-clause-value
returns-else-place-len-clause-value c =
    let self = c.args.self.now in
    c.others.ensures ∙ column_past self.own.now self.places.items c.args.thread self.placed (omega arith)
