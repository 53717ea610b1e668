-- What the code's own worlds stand for.
use Rattle.std.specs.Prelude.{◌≡◌, Bool, true, false, Option, None, List, slice_index_or}
use Rattle.protocol_values.specs.declared.Row.{Row}
use Rattle.protocol_values.specs.declared.Seat.{Seat}
use Rattle.protocol_values.specs.declared.Step.{Step}
use Rattle.protocol.specs.declared.state.State.{State}
use Rattle.protocol_ledger.specs.Sheets.{table_of}
use Rattle.protocol_ledger.specs.Tables.{is_row, number_of}
use Rattle.protocol_ledger.specs.Worlds.{World, Condition, Allowed, after_step, namer_at, IsRefused}
use Rattle.protocol_ledger.specs.Kept.{Kept}
use Rattle.protocol.specs.declared.ProtoFault.{ProtoFault}
use Rattle.protocol.specs.declared.ProtoFault.TheVariants.{Memory, NotAllowed}

abbrev pub world_of : State → World
world_of s = record { table = table_of s.sheet; seats = s.seats; holders = s.holders.items; lasts = s.lasts.items }

-- the list has, row by row, the row that names each
abbrev pub Tells : World → List (Option Row) → Type 0
Tells w namers = (r : Row) → is_row w.table r ≡ true → slice_index_or namers (number_of w.table.rows r) None ≡ namer_at w r

-- all steps keep the world, and the state knows who names whom
pub record IsSound (s : State) : Type 0 where
  pub kept : Kept (world_of s)
  pub told : Tells (world_of s) s.namers.items

-- a step is made where its condition holds, and else nothing changes
abbrev pub Tries : World → Seat → Step → Bool → World → Type 0
Tries old seat step true new = Condition old seat step × (new ≡ after_step old seat step)
Tries old seat step false new = (¬ Condition old seat step) × (new ≡ old)

abbrev pub Decides : World → Seat → Step → Bool → World → Type 0
Decides old seat step true new = Allowed old seat step × (new ≡ after_step old seat step)
Decides old seat step false new = (¬ Allowed old seat step) × (new ≡ old)

-- what a refusal of a schedule says. Playing takes no memory
abbrev pub Refuses : World → List (Seat × Step) → ProtoFault → Type 0
Refuses w steps Memory = ⊥
Refuses w steps (NotAllowed index) = IsRefused w steps index
