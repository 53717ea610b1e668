use Rattle.std.proofs.Common.{◌≡◌, length, take}
use Rattle.script_reader.specs.Places.{texts}
use Rattle.journal_text.specs.Blocks.{AreEnds}
use Rattle.journal_text.proofs.labels.blocks.Given as goal

abbrev pub invariant-loop-name : goal.invariant-loop-name
invariant-loop-name l = (length l.blocks.items ≡ l.name-index) × AreEnds (texts (take l.name-index l.names)) l.blocks.items
