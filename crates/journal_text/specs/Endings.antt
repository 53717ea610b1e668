-- What a process did that goes no further.
use Rattle.std.specs.Prelude.{◌==◌, ℕ, if◌then◌else◌, List, ◌++◌, codes}
use Rattle.std.specs.Fmt.{decimal}
use Rattle.std.specs.List.{flat_map}
use Rattle.protocol_values.specs.declared.Atom.{Atom}
use Rattle.journal_text.specs.Names.{Naming}
use Rattle.journal_text.specs.Texts.{atom_text}

-- how many syncs it made
abbrev pub syncs_word : ℕ → List ℕ
syncs_word rows = if rows == 1 then codes " sync\n" else codes " syncs\n"

unfoldable pub syncs_text : ℕ → List ℕ
syncs_text rows = codes ": it made " ++ decimal rows ++ syncs_word rows

-- what it printed: each atom behind a space
abbrev pub printed_text : Naming → List Atom → List ℕ
printed_text names printed = flat_map (λ a. codes " " ++ atom_text names a) printed
