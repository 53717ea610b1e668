-- Threads that have words for all rows, with room for 8 offers, are whole.
use Rattle.std.proofs.Common.{ℕ, List, length, replicate, ap, subst, sym, ◌∙◌, ◌*◌, ◌+◌, arith}
use Rattle.std.proofs.lemmas.List.{length-replicate}
use Rattle.protocol_ledger.specs.Short.{Fits, even, widen, words_below}
use Rattle.protocol_ledger.specs.declared.layout.Layout.{Layout}
use Rattle.protocol_ledger.proofs.LedgerLemmas.{length_lives}
use Rattle.protocol_ledger.proofs.Short.{even_below, even_fits, fits_more, whole}
use Rattle.protocol_ledger.proofs.sheet.Sheet.new.Goals as goal

pub starts-requires : goal.starts-requires
starts-requires c = subst (λ (y : Layout). Fits y 1024) (sym c.even-layout.ensures) (fits_more (even 8 c.args.rows) c.args.rows 1024 c.requires.few_rows (even_fits 8 c.args.rows (omega arith)))

pub invariant_of-result : goal.invariant_of-result
invariant_of-result c = record {
  sized =
      ap (λ (xs : List ℕ). length xs) c.in_ok-words.ensures
      ∙ length_lives c.args.later c.args.rows (replicate (c.args.threads * (c.args.rows * 34 + 65)) 0) c.args.threads
      ∙ length-replicate (c.args.threads * (c.args.rows * 34 + 65)) 0
      ∙ sym (even_below 8 c.args.rows c.args.threads c.requires.few_threads)
      ∙ ap (λ (y : Layout). words_below y c.args.threads) (sym c.even-layout.ensures);
  few_threads = c.requires.few_threads;
  few_rows = c.requires.few_rows;
  fits = subst (λ (y : Layout). Fits y c.args.rows) (sym c.even-layout.ensures) (even_fits 8 c.args.rows (omega arith));
  located = c.starts.ensures;
}

pub returns-clause-words : goal.returns-clause-words
returns-clause-words c =
    ap (λ (y : Layout). widen y c.args.rows c.args.threads c.in_ok-words.words.items) c.even-layout.ensures
    ∙ whole c.args.rows c.args.threads c.in_ok-words.words.items c.requires.few_threads
    (ap (λ (xs : List ℕ). length xs) c.in_ok-words.ensures
    ∙ length_lives c.args.later c.args.rows (replicate (c.args.threads * (c.args.rows * 34 + 65)) 0) c.args.threads
    ∙ length-replicate (c.args.threads * (c.args.rows * 34 + 65)) 0
    ∙ sym (even_below 8 c.args.rows c.args.threads c.requires.few_threads))
    ∙ c.in_ok-words.ensures
