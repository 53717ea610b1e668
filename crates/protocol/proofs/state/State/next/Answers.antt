use Rattle.std.proofs.Common.{◌∙◌, ℕ, None, Option, List, arith, ap, sym, length, map, refl}
use Rattle.protocol_ledger.specs.Short.{even}
use Rattle.std.proofs.lemmas.List.{length-map, length-replicate}
use Rattle.protocol_values.specs.declared.Row.{Row}
use Rattle.protocol_ledger.specs.Openings.{held_first, opening_of}
use Rattle.protocol_ledger.specs.Tables.{all_rows}
use Rattle.protocol_ledger.proofs.Keeping.{length_all}
use Rattle.protocol_ledger.proofs.FirstWords.{next_begins}
use Rattle.protocol.proofs.Starting.{next_sound}
use Rattle.protocol.proofs.state.State.next.Goals as goal

pub invariant_of-result : goal.invariant_of-result
invariant_of-result c =
    let holders = map (held_first (opening_of c.args.opening.now) c.args.seats) (all_rows c.in_ok-sheet.sheet.threads c.in_ok-sheet.sheet.rows) in
    record {
      some_rows = omega (arith, c.in_ok-sheet.ensures.rows, c.requires.some_rows);
      whole = c.in_ok-sheet.ensures.layout ∙ ap (even 8) (sym c.in_ok-sheet.ensures.rows);
      held =
          ap (λ (xs : List (Option ℕ)). length xs) c.in_ok-holders.ensures
          ∙ length-map (all_rows c.in_ok-sheet.sheet.threads c.in_ok-sheet.sheet.rows) (held_first (opening_of c.args.opening.now) c.args.seats)
          ∙ length_all c.in_ok-sheet.sheet.threads c.in_ok-sheet.sheet.rows;
      behind = ap (λ (xs : List (Option ℕ)). length xs) c.in_ok-lasts.ensures ∙ length-replicate {A = Option ℕ} c.in_ok-sheet.sheet.threads None;
      named = ap (λ (xs : List (Option Row)). length xs) c.in_ok-namers.ensures ∙ length-replicate {A = Option Row} c.len.result None ∙ c.len.ensures;
    }

pub returns-clause-world : goal.returns-clause-world
returns-clause-world c =
    next_begins (opening_of c.args.opening.now) c.args.rows c.args.seats _ c.in_ok-sheet.ensures.threads c.in_ok-sheet.ensures.rows refl c.in_ok-sheet.ensures.opening c.in_ok-sheet.ensures.words
    c.in_ok-holders.ensures c.in_ok-lasts.ensures

pub returns-clause-sound : goal.returns-clause-sound
returns-clause-sound c =
    next_sound (opening_of c.args.opening.now) c.args.rows c.args.seats c.len.result _
    (next_begins (opening_of c.args.opening.now) c.args.rows c.args.seats _ c.in_ok-sheet.ensures.threads c.in_ok-sheet.ensures.rows refl c.in_ok-sheet.ensures.opening c.in_ok-sheet.ensures.words
    c.in_ok-holders.ensures c.in_ok-lasts.ensures)
    c.requires.opening c.requires.few_rows c.in_ok-namers.ensures
