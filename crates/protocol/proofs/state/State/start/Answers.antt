use Rattle.std.proofs.Common.{None, arith, ap, sym, ◌∙◌, List, length, map}
use Rattle.std.proofs.lemmas.List.{length-replicate}
use Rattle.protocol_ledger.specs.Short.{even}
use Rattle.std.specs.Prelude.{Option, ℕ}
use Rattle.protocol_values.specs.declared.Row.{Row}
use Rattle.protocol_ledger.specs.Tables.{all_rows}
use Rattle.protocol_ledger.specs.Worlds.{start_world, first_holder}
use Rattle.protocol.proofs.Starting.{start_sound}
use Rattle.protocol_ledger.proofs.LedgerLemmas.{length_holders}
use Rattle.protocol.proofs.state.State.start.Goals as goal

pub invariant_of-result : goal.invariant_of-result
invariant_of-result c = record {
  some_rows = omega (arith, c.in_ok-sheet.ensures.rows, c.requires.some_rows);
  whole = c.in_ok-sheet.ensures.layout ∙ ap (even 8) (sym c.in_ok-sheet.ensures.rows);
  held = ap (λ (xs : List (Option ℕ)). length xs) c.in_ok-holders.ensures ∙ length_holders c.in_ok-sheet.sheet.threads c.in_ok-sheet.sheet.rows c.args.seats c.args.later;
  behind = ap (λ (xs : List (Option ℕ)). length xs) c.in_ok-lasts.ensures ∙ length-replicate {A = Option ℕ} c.args.threads None ∙ sym c.in_ok-sheet.ensures.threads;
  named = ap (λ (xs : List (Option Row)). length xs) c.in_ok-namers.ensures ∙ length-replicate {A = Option Row} c.len.result None ∙ c.len.ensures;
}

pub returns-clause-world : goal.returns-clause-world
unfolding start_world
returns-clause-world c = λ i. record {
  table = record { threads = c.in_ok-sheet.ensures.threads i; rows = c.in_ok-sheet.ensures.rows i; words = c.in_ok-sheet.ensures.words i; opening = c.in_ok-sheet.ensures.opening i };
  seats = c.args.seats;
  holders = (c.in_ok-holders.ensures ∙ (λ j. map (first_holder c.args.seats c.args.later) (all_rows (c.in_ok-sheet.ensures.threads j) (c.in_ok-sheet.ensures.rows j)))) i;
  lasts = c.in_ok-lasts.ensures i;
}

pub returns-clause-sound : goal.returns-clause-sound
unfolding start_world
returns-clause-sound c =
    start_sound _ c.args.threads c.args.rows c.args.seats c.args.later c.len.result
    (λ i. record {
      table = record { threads = c.in_ok-sheet.ensures.threads i; rows = c.in_ok-sheet.ensures.rows i; words = c.in_ok-sheet.ensures.words i; opening = c.in_ok-sheet.ensures.opening i };
      seats = c.args.seats;
      holders = (c.in_ok-holders.ensures ∙ (λ j. map (first_holder c.args.seats c.args.later) (all_rows (c.in_ok-sheet.ensures.threads j) (c.in_ok-sheet.ensures.rows j)))) i;
      lasts = c.in_ok-lasts.ensures i;
    })
    c.in_ok-namers.ensures
    c.requires.few_threads
    c.requires.few_rows
