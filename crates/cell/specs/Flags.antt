-- A set of rows as flags, row by row.
use Rattle.std.specs.Prelude.{◌≡◌, ℕ, ◌<◌, ◌↔◌, Bool, true, false, List, [], ◌∷◌, ◌++◌, slice_index_or}
use Rattle.protocol_values.specs.declared.Row.{Row}
use Rattle.protocol_ledger.specs.Tables.{number_of}
use Rattle.cell_table.specs.declared.view.Seen.{Seen}
use Rattle.cell_table.specs.Sight.{Has}
use Rattle.cell_table.specs.Views.{behind_last}

-- the flags of these rows are set, and no others
pub record AreFlags (threads rows : ℕ) (flags : List Bool) (held : List Row) : Type 0 where
  pub inside : (r : Row) → Has held r → (r.thread < threads) × (r.sync < rows)
  pub marked : (r : Row) → r.thread < threads → r.sync < rows → (slice_index_or flags (number_of rows r) false ≡ true) ↔ Has held r

-- the places behind the last rows of these threads
abbrev pub places_behind : ℕ → List ℕ → List Row
places_behind rows [] = []
places_behind rows (t ∷ ts) = behind_last rows t ∷ places_behind rows ts

-- the rows that a pass holds, and the places behind last rows at which it stands
abbrev pub places_of : ℕ → Seen → List Row
places_of rows s = s.held ++ places_behind rows s.lasts
