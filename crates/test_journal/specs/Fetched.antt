-- What is known of a table of machines at a row that is to be opened.
use Rattle.std.specs.Prelude.{◌≡◌, ◌⊎◌, ℕ, List, [], Some, length, slice_get}
use Rattle.protocol_values.specs.declared.Row.{Row}
use Rattle.protocol_ledger.specs.Standing.{Result, binding_of}
use Rattle.protocol_ledger.specs.Worlds.{nack_of_row}
use Rattle.cell_table.specs.declared.view.Seen.{Seen}
use Rattle.cell_table.specs.Sight.{Has}

-- these nacks of the row's thread, and no others, were seen bound to the row, each to the scope of its place
pub record AreNacks (s : Seen) (r : Row) (nacks : List ℕ) : Type 0 where
  pub bound : (scope k : ℕ) → slice_get nacks scope ≡ Some k → Has s.bound (nack_of_row r k, binding_of r scope)
  pub no_others : (scope k : ℕ) → Has s.bound (nack_of_row r k, binding_of r scope) → slice_get nacks scope ≡ Some k

-- some nacks
abbrev pub HasNacks : Seen → Row → Type 0
HasNacks s r = (nacks : List ℕ) × AreNacks s r nacks

-- the pass has a result for each row of the thread before this one
abbrev pub HasResults : List (ℕ × List Result) → Row → Type 0
HasResults all r = (results : List Result) × (length results ≡ r.sync) × ((results ≡ []) ⊎ Has all (r.thread, results))
