use Rattle.std.proofs.Common.{◌≡◌, take}
use Rattle.journal_text.specs.Slots.{hash_of}
use Rattle.journal_text.proofs.listing.Word.new.Given as goal

abbrev pub invariant-loop-byte : goal.invariant-loop-byte
invariant-loop-byte l = l.hash ≡ hash_of (take l.byte-index l.text)
