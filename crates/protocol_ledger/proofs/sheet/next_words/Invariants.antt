-- The lives of the threads so far are written, and then the words of the nacks so far.
use Rattle.std.proofs.Common.{◌≡◌, length}
use Rattle.protocol_ledger.specs.Openings.{opening_of}
use Rattle.protocol_ledger.specs.Short.{widen, words_below}
use Rattle.protocol_ledger.proofs.FirstWords.{HaveWritten}
use Rattle.protocol_ledger.proofs.sheet.next_words.Given as goal

abbrev pub invariant-loop-thread : goal.invariant-loop-thread
invariant-loop-thread l =
    (length l.words.items ≡ words_below l.layout (length l.opening.threads.items)) × HaveWritten (opening_of l.opening) l.rows l.thread 0 (widen l.layout l.rows (length l.opening.threads.items) l.words.items)

abbrev pub invariant-loop-number : goal.invariant-loop-number
invariant-loop-number l =
    (length l.words.items ≡ words_below l.layout (length l.opening.threads.items))
    × HaveWritten (opening_of l.opening) l.rows (length l.opening.threads.items) l.number (widen l.layout l.rows (length l.opening.threads.items) l.words.items)
