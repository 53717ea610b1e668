use Rattle.std.proofs.Common.{ℕ, sym, ◌∙◌, subst}
use Rattle.journal_replay.specs.Replays.{TellsEnd, TellsOpen}
use Rattle.thread.specs.declared.end.End.{End}
use Rattle.pcml_answers.proofs.Rows.{goes-on, open-row, other-row, stopped-row}
use Rattle.pcml_answers.proofs.unlawful_row.row_reason.Goals as goal

pub returns-in-Some : goal.returns-in-Some
returns-in-Some c =
    stopped-row c.args.state.now c.args.earlier.now c.args.at c.args.needed c.end.result c.in-Some.reason
    (subst (λ (t : ℕ). TellsEnd c.args.state.now t c.end.result) c.from-thread.ensures c.end.ensures)
    (sym c.in-Some.ensures)

pub returns-then-row-next : goal.returns-then-row-next
returns-then-row-next c =
    other-row c.args.state.now c.args.earlier.now c.args.at c.args.needed c.count_of-next.result c.count_of-next.ensures c.if-row-next.true

pub returns : goal.returns
returns c =
    let s = c.args.state.now in
    let t = c.args.at.0.thread in
    let waiting = goes-on s c.args.earlier.now c.args.at c.args.needed c.end.result (sym c.in_default.ensures) in
    open-row s c.args.earlier.now c.args.at c.args.needed c.open.result.0.now c.offer_reason.result
    (record {
      nacks = c.open.result.1.now;
      end = subst (λ (end : End). TellsEnd s t end) waiting (subst (λ (u : ℕ). TellsEnd s u c.end.result) c.from-thread.ensures c.end.ensures);
      opens = subst (λ (u : ℕ). TellsOpen s u c.open.result.0.now c.open.result.1.now) c.from-thread.ensures c.open.ensures.told;
      next = c.if-row-next.false ∙ c.count_of-next.ensures;
    })
    c.offer_reason.ensures
