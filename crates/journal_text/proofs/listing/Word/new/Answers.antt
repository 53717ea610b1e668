use Rattle.journal_text.proofs.Chains.{hash_begun, hash_on}
use Rattle.journal_text.proofs.listing.Word.new.Goals as goal

pub loop-byte-init : goal.loop-byte-init
loop-byte-init c = hash_begun

pub loop-byte-preserved : goal.loop-byte-preserved
loop-byte-preserved c = hash_on c.args.text.now c.loop-byte.byte-index c.loop-byte.hash _ c.loop-byte-test.true c.loop-byte.invariant c.next_hash-hash.ensures
