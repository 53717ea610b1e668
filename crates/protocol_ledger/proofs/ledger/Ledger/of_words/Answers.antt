-- Threads that have words for all rows, with room for 8 offers, are whole.
use Rattle.std.proofs.Common.{List, ℕ, ◌∙◌, ◌≡◌, ◌≤◌, ◌*◌, ap, arith, length, subst, sym}
use Rattle.protocol_ledger.specs.Ledgers.{IsLawful, ledger_of}
use Rattle.protocol_ledger.specs.Short.{Fits, even, wide_table, widen, words_below}
use Rattle.protocol_ledger.specs.declared.layout.Layout.{Layout}
use Rattle.protocol_ledger.specs.Tables.{Table, thread_len}
use Rattle.protocol_ledger.proofs.Short.{even_below, even_fits, whole}
use Rattle.protocol_ledger.proofs.ledger.Ledger.of_words.Goals as goal

plain : (threads rows : ℕ) (words : List ℕ) (opening : ℕ) (y : Layout) → y ≡ even 8 rows → threads ≤ 64 → length words ≡ threads * thread_len rows
    → wide_table y (record { threads = threads; rows = rows; words = words; opening = opening }) ≡ record { threads = threads; rows = rows; words = words; opening = opening }
plain threads rows words opening y is few sized =
    ap (λ (ws : List ℕ). record { threads = threads; rows = rows; words = ws; opening = opening })
    (ap (λ (z : Layout). widen z rows threads words) is ∙ whole rows threads words few (sized ∙ sym (even_below 8 rows threads few)))

pub of_short_words-requires-clause-fits : goal.of_short_words-requires-clause-fits
of_short_words-requires-clause-fits c = subst (λ (y : Layout). Fits y c.args.rows) (sym c.even-layout.ensures) (even_fits 8 c.args.rows (omega arith))

pub of_short_words-requires-clause-sized : goal.of_short_words-requires-clause-sized
of_short_words-requires-clause-sized c = c.requires.sized ∙ sym (even_below 8 c.args.rows c.args.threads c.requires.few_threads) ∙ ap (λ (y : Layout). words_below y c.args.threads) (sym c.even-layout.ensures)

pub of_short_words-requires-clause-lawful : goal.of_short_words-requires-clause-lawful
of_short_words-requires-clause-lawful c = subst (λ (t : Table). IsLawful (ledger_of t)) (sym (plain c.args.threads c.args.rows c.args.words.items c.args.opening c.even-layout.result c.even-layout.ensures c.requires.few_threads c.requires.sized)) c.requires.lawful

pub returns : goal.returns
returns c = c.of_short_words.ensures ∙ ap ledger_of (plain c.args.threads c.args.rows c.args.words.items c.args.opening c.even-layout.result c.even-layout.ensures c.requires.few_threads c.requires.sized)
