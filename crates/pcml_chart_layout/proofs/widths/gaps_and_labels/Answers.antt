use Rattle.std.proofs.Common.{◌≡◌, ℕ, ◌+◌, List, ◌∷◌, [], ◌++◌, get_or, ap, ap₂, sym, ◌∙◌, arith}
use Rattle.std.proofs.lemmas.List.FromFn.{map-range_with_len_more}
use Rattle.script.specs.Scripts.{script_of}
use Rattle.journal_text.specs.Names.{named}
use Rattle.pcml_chart_layout.specs.Widths.{gap_width, longest_in, longest_round, room}
use Rattle.pcml_chart_layout.proofs.widths.gaps_and_labels.Goals as goal

pub loop-place-preserved : goal.loop-place-preserved
loop-place-preserved c =
    let names = named (script_of c.args.script.now) in
    let k = c.loop-place.place in
    let f : ℕ → ℕ = gap_width names c.args.columns.now.own.now c.args.feet.now c.args.commits.now in
    let within : c.at.result ≡ longest_in names c.args.columns.now.own.now c.args.commits.now k =
    c.at.ensures ∙ ap (λ (xs : List ℕ). get_or xs k 0) c.deref.ensures.value ∙ c.in_ok-within.ensures.lengths k in
    let left : c.at-in-loop-place.result ≡ longest_round names c.args.columns.now.own.now c.args.feet.now k =
    c.at-in-loop-place.ensures ∙ ap (λ (xs : List ℕ). get_or xs k 0) c.deref-in-loop-place.ensures.value ∙ c.in_ok-round.ensures k in
    let right : c.at-in-loop-place-2.result ≡ longest_round names c.args.columns.now.own.now c.args.feet.now (k + 1) =
    c.at-in-loop-place-2.ensures ∙ ap (λ (xs : List ℕ). get_or xs (k + 1) 0) c.deref-in-loop-place-2.ensures.value ∙ c.in_ok-round.ensures (k + 1) in
    let width : c.room.result ≡ f k =
    c.room.ensures ∙ ap (λ (z : ℕ × ℕ × ℕ). room z.0 z.1 z.2) (λ i. (within i, left i, right i)) in
    c.in_ok-push.ensures.items
    ∙ ap₂ (λ (xs : List ℕ) (n : ℕ). xs ++ n ∷ []) c.loop-place.invariant width
    ∙ sym (map-range_with_len_more f 0 k k (omega arith))
