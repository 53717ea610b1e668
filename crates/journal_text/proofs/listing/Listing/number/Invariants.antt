use Rattle.script_reader.specs.Places.{texts}
use Rattle.journal_text.proofs.Chains.{IsSought}
use Rattle.journal_text.proofs.listing.Listing.number.Given as goal

abbrev pub invariant-loop-next : goal.invariant-loop-next
invariant-loop-next l = IsSought (texts l.self.names.items) l.word.text.now l.next

abbrev pub decreases-loop-next : goal.decreases-loop-next
decreases-loop-next l = l.next
