-- The names as the code that writes them holds them.
use Rattle.std.specs.Prelude.{ℕ, Option, Some, None}
use denote.Ref.{Bor}
use Rattle.script_reader.specs.Places.{texts}
use Rattle.journal_text.specs.Names.{Declared, Naming, naming, numbers}
use Rattle.journal_text.specs.declared.labels.Labels.{Labels}

abbrev pub labelled : Labels → Declared
labelled l = record { threads = texts l.threads.items; channels = texts l.channels.items }

-- the labels, or numbers where there are none
abbrev pub naming_of : Option (Bor Labels) → Naming
naming_of None = numbers
naming_of (Some l) = naming (labelled l.now)

-- how long a name is at most
abbrev pub reach : Option (Bor Labels) → ℕ
reach None = 5
reach (Some l) = l.now.longest
