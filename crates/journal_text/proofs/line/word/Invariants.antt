use Rattle.std.proofs.Common.{◌≡◌, take, drop}
use Rattle.journal_text.specs.Reading.{before_word, word_at}
use Rattle.journal_text.specs.Slots.{hash_of}
use Rattle.journal_text.proofs.line.word.Given as goal

abbrev pub invariant-loop-at : goal.invariant-loop-at
invariant-loop-at l = (word_at l.bytes ≡ before_word (take l.at l.bytes) (word_at (drop l.at l.bytes))) × (l.hash ≡ hash_of (take l.at l.bytes))
