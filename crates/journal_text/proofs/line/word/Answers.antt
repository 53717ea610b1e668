use Rattle.std.proofs.Common.{◌≡◌, ◌∙◌, false, ltb, get_or, sym, arith, tests}
use Rattle.journal_text.specs.Reading.{word_at}
use Rattle.journal_text.proofs.Chains.{hash_begun, hash_on}
use Rattle.journal_text.proofs.Naming.{before_nothing, word_on}
use Rattle.journal_text.proofs.line.word.Goals as goal

pub loop-at-init : goal.loop-at-init
loop-at-init c = (sym (before_nothing (word_at c.args.bytes.now)), hash_begun)

pub loop-at-preserved : goal.loop-at-preserved
loop-at-preserved c =
    let bytes = c.args.bytes.now in
    let at = c.loop-at.at in
    let on : ltb (get_or bytes at 0) 48 ≡ false = search (arith, tests) in
    (c.loop-at.invariant.0 ∙ word_on bytes at c.loop-at-test.true on, hash_on bytes at c.loop-at.hash _ c.loop-at-test.true c.loop-at.invariant.1 c.next_hash-hash.ensures)
