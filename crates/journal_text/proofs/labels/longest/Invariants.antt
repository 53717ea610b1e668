use Rattle.std.proofs.Common.{◌≤◌, take}
use Rattle.script_reader.specs.Places.{texts}
use Rattle.journal_text.specs.Names.{AreWithin}
use Rattle.journal_text.proofs.labels.longest.Given as goal

abbrev pub invariant-loop-name : goal.invariant-loop-name
invariant-loop-name l = AreWithin l.longest (texts (take l.name-index l.names)) × (32 ≤ l.longest)
