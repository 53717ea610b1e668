use Rattle.std.proofs.Common.{◌≡◌, ◌+◌, ◌*◌, ◌<◌, ℕ, List, [], length, replicate, ap, ◌∙◌, arith}
use Rattle.std.proofs.lemmas.List.{length-replicate}
use Rattle.protocol_ledger.specs.Worlds.{with_lives}
use Rattle.protocol_ledger.proofs.LedgerLemmas.{length_lives}
use Rattle.protocol_ledger.proofs.Places.{course_place_inside}
use Rattle.protocol_ledger.proofs.sheet.start_words.Goals as goal

-- the words stay as many
sized : (threads rows later n : ℕ) (words : List ℕ) → words ≡ with_lives later rows n (replicate (threads * (rows * 34 + 65)) 0) → length words ≡ threads * (rows * 34 + 65)
sized threads rows later n words e = ap (λ (xs : List ℕ). length xs) e ∙ length_lives later rows (replicate (threads * (rows * 34 + 65)) 0) n ∙ length-replicate (threads * (rows * 34 + 65)) 0

pub index_mut-requires : goal.index_mut-requires
index_mut-requires c =
    let len = sized c.args.threads c.args.rows c.args.later c.loop-thread.thread c.loop-thread.words.items c.loop-thread.invariant in
    let b : c.loop-thread.thread * (c.args.rows * 34 + 65) + c.args.rows * 34 + 64 < c.args.threads * (c.args.rows * 34 + 65) =
    course_place_inside (record { threads = c.args.threads; rows = c.args.rows; words = []; opening = 0 }) c.loop-thread.thread c.loop-thread-test.true in
    omega (arith, c.loop-thread.words.ok)
