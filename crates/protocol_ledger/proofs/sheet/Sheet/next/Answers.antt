-- Its threads have words for all rows.
use Rattle.std.proofs.Common.{ℕ, length, ap, subst, sym, ◌≡◌, ◌∙◌, arith}
use Rattle.protocol_ledger.specs.Short.{Fits, even, words_below}
use Rattle.protocol_ledger.specs.declared.layout.Layout.{Layout}
use Rattle.protocol_ledger.proofs.Short.{even_fits, fits_more}
use Rattle.protocol_ledger.proofs.sheet.Sheet.next.Goals as goal

pub next_words-requires-clause-fits : goal.next_words-requires-clause-fits
next_words-requires-clause-fits c = subst (λ (y : Layout). Fits y c.args.rows) (sym c.even-layout.ensures) (even_fits 8 c.args.rows (omega arith))

pub starts-requires : goal.starts-requires
starts-requires c = subst (λ (y : Layout). Fits y 1024) (sym c.even-layout.ensures) (fits_more (even 8 c.args.rows) c.args.rows 1024 c.requires.few_rows (even_fits 8 c.args.rows (omega arith)))

pub invariant_of-result : goal.invariant_of-result
invariant_of-result c =
    let few = c.requires.opening.few in
    let count : c.len.result ≡ length c.args.opening.now.threads.items = omega (arith, c.len.ensures, c.args.opening.now.threads.ok) in
    record {
      sized = c.in_ok-words.ensures.sized ∙ ap (λ (n : ℕ). words_below c.even-layout.result n) (sym count);
      few_threads = omega (arith, count);
      few_rows = c.requires.few_rows;
      fits = subst (λ (y : Layout). Fits y c.args.rows) (sym c.even-layout.ensures) (even_fits 8 c.args.rows (omega arith));
      located = c.starts.ensures;
    }
