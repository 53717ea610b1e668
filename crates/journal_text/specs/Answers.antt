-- The names as the code holds them, and what a fault of reading says of the bytes.
use Rattle.std.specs.Prelude.{ℕ, List}
use Rattle.script_reader.specs.Places.{texts}
use Rattle.script.specs.Sources.{Script}
use Rattle.journal_text.specs.Names.{Declared}
use Rattle.journal_text.specs.Journals.{IsFirstBadLine}
use Rattle.journal_text.specs.declared.names.Names.{Names}
use Rattle.journal_text.specs.declared.JournalFault.{JournalFault}
use Rattle.journal_text.specs.declared.JournalFault.TheVariants.{Memory, BadLine}

abbrev pub listed : Names → Declared
listed n = record { threads = texts n.threads.names.items; channels = texts n.channels.names.items }

abbrev pub Explains : Script → List ℕ → JournalFault → Type 0
Explains s bytes Memory = Unit {0}
Explains s bytes (BadLine k) = IsFirstBadLine s bytes k
