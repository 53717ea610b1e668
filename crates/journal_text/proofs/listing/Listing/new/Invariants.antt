use Rattle.script_reader.specs.Places.{texts}
use Rattle.journal_text.specs.Slots.{AreHeads, AreLinks}
use Rattle.journal_text.proofs.listing.Listing.new.Given as goal

abbrev pub invariant-loop-number : goal.invariant-loop-number
invariant-loop-number l = AreHeads (texts l.fn.names.items) l.number l.heads.items × AreLinks (texts l.fn.names.items) l.number l.links.items
