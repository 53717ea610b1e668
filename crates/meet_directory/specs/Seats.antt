-- A pass at its directory.
use Rattle.std.specs.Prelude.{◌≡◌, []}
use Rattle.atomic_table.specs.declared.shared.Seat.{Seat}
use Rattle.meet_directory.specs.declared.directory.Directory.{Directory}
use Rattle.meet_directory.specs.declared.view.View.{View}

-- a pass at its directory
abbrev pub Sits : Directory → Seat (Unit {0}) View → Type 0
Sits b p = (p.table_id ≡ b.words.shared.table_id) × (p.me.1 ≡ [])
