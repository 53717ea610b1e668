-- A pass at its table.
use Rattle.std.specs.Prelude.{◌≡◌, ◌<◌, Option}
use Rattle.atomic_table.specs.declared.shared.Seat.{Seat}
use Rattle.protocol_values.specs.declared.NackName.{NackName}
use Rattle.protocol_values.specs.declared.Row.{Row}
use Rattle.cell_table.specs.declared.board.Board.{Board}
use Rattle.cell_table.specs.declared.view.View.{View}
use Rattle.cell_table.specs.Sight.{AreSettled, Coherent, OpenHaveWords}
use Rattle.cell_table.specs.Views.{opening_in}
use Rattle.cell_table.specs.Told.{InsideNack}

module _ {M : Type 0} where
  -- the seat is one of this table's, its pass knows the table's size and beginning, and what it has seen agrees with itself
  abbrev pub Sits : Board M → Seat (Option M) (View M) → Type 0
  Sits b s = (s.table_id ≡ b.words.shared.table_id) × (s.me.0.threads ≡ b.shape.threads) × (s.me.0.rows ≡ b.shape.rows) × Coherent b.shape.threads b.shape.rows s.me.0.seen × (s.me.0.first ≡ b.shape.first.value.items) × (s.me.0.lives ≡ (opening_in b.shape).threads) × (s.me.0.nacks ≡ (opening_in b.shape).nacks) × AreSettled (opening_in b.shape) s.me.0.seen × (s.me.0.layout ≡ b.shape.layout) × OpenHaveWords b.shape.layout s.me.0.seen

  -- the pass is the same one after a call, and still sits at the table
  abbrev pub StaysAtTable : Board M → Seat (Option M) (View M) → Seat (Option M) (View M) → Type 0
  StaysAtTable b before after = (after.id ≡ before.id) × Sits b after

  -- and the same slots are out with it
  abbrev pub StaysSeated : Board M → Seat (Option M) (View M) → Seat (Option M) (View M) → Type 0
  StaysSeated b before after = (after.id ≡ before.id) × Sits b after × (after.me.1 ≡ before.me.1)

-- the table has the row
abbrev pub HasRow : {M : Type 0} → Board M → Row → Type 0
HasRow b r = (r.thread < b.shape.threads) × (r.sync < b.shape.rows)

-- the table has the nack
abbrev pub HasNack : {M : Type 0} → Board M → NackName → Type 0
HasNack b n = InsideNack b.shape.threads n
