use Rattle.std.proofs.Common.{◌+◌, ◌++◌, Bool, List, [], ℕ, take, ap, sym, ◌∙◌, arith}
use Rattle.std.specs.List.{flat_map}
use Rattle.std.specs.String.{string_bytes}
use Rattle.std.proofs.lemmas.List.{flat_map_more}
use Rattle.script.specs.Scripts.{script_of}
use Rattle.journal_text.specs.Names.{named}
use Rattle.pcml_outcomes.specs.Told.{outcome_text, shown}
use Rattle.pcml_outcomes.proofs.Showing.{shown-hidden, shown-told}
use Rattle.pcml_outcomes.proofs.shown.shown_lines.Goals.{then-is_shown+in_ok-push_outcome, else-is_shown}
use Rattle.pcml_outcomes.proofs.shown.shown_lines.Goals as goal

pub loop-index-preserved : goal.loop-index-preserved
loop-index-preserved c =
    let text = outcome_text (named (script_of c.args.script.now)) c.args.asked.now.named.items in
    let asked = c.args.asked.now in
    let outcomes = c.args.outcomes.now in
    let k = c.loop-index.index in
    let o = c.index-outcomes-index.result in
    let is = c.index-outcomes-index.is in
    let before = c.loop-index.invariant in
    elim c.if-is_shown.branch [
      | then-is_shown+in_ok-push_outcome w ↦
          ap string_bytes w.lines-is ∙ w.in_ok-push_outcome.ensures ∙ ap (λ (marks : List Bool). string_bytes c.loop-index.lines ++ outcome_text (named (script_of c.args.script.now)) marks (k + 1, o)) w.deref.ensures.value ∙ ap (λ (l : List ℕ). l ++ text (k + 1, o)) before
          ∙ flat_map_more text [] (shown asked (take k outcomes)) (k + 1, o)
          ∙ sym (ap (flat_map text) (shown-told asked outcomes k o (omega arith) is (sym c.is_shown.ensures ∙ w.if-is_shown.true)))
      | else-is_shown w ↦
          ap string_bytes w.lines-is ∙ before ∙ sym (ap (flat_map text) (shown-hidden asked outcomes k o (omega arith) is (sym c.is_shown.ensures ∙ w.if-is_shown.false)))
    ]
