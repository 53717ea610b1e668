-- A pass with its table: what a hand is, and what a call may leave of it.
use Rattle.std.specs.Prelude.{◌≡◌, ◌≤◌, List, ◌++◌}
use Rattle.atomic_table.specs.declared.shared.Seat.{Seat}
use Rattle.protocol_values.specs.declared.Row.{Row}
use Rattle.protocol_values.specs.declared.Step.{Step}
use Rattle.cell.specs.Calls.{Grid, IsPassOf, IsRowOf, PassView}
use Rattle.cell_table.specs.Sight.{Has, SawEnded}
use Rattle.meet_directory.specs.Seats.{Sits}
use Rattle.meet_directory.specs.declared.directory.Directory.{Directory}
use Rattle.meet_directory.specs.declared.view.View.{View}
use Rattle.meet_scan.specs.Searches.{Grows}
use Rattle.meet_scan.specs.Steps.{OnlyLooks}
use Rattle.cell_hand.specs.declared.refusal.Refusal.{Refusal}
use Rattle.cell_hand.specs.declared.refusal.Refusal.TheVariants.{Ended, Fresh, Memory, NoRow, NotHeld, Opened, Range, Shared}

-- the table, and the pass at it; the directory of who offers where, and the place at that
pub record HandOf : Type 0 where
  pub table : Grid
  pub pass : PassView
  pub board : Directory
  pub scan : Seat (Unit {0}) View

-- the pass is of this table, and the place of this directory, which has two sides for each channel
abbrev pub IsHand : HandOf → Type 0
IsHand h = IsPassOf h.table h.pass × Sits h.board h.scan × (512 ≤ h.board.sides)

-- WHAT STAYS. It is a hand of the same table, and at the directory nothing is new.
abbrev pub Stays : HandOf → HandOf → Type 0
Stays h k = (k.table ≡ h.table) × (k.board ≡ h.board) × (k.scan ≡ h.scan)

-- it has made no step: it may have seen more
abbrev pub Looked : HandOf → HandOf → Type 0
Looked h k = Stays h k × Grows h.pass.seen k.pass.seen × OnlyLooks h.pass k.pass

-- it has made these steps, the last one first
abbrev pub Made : HandOf → HandOf → List Step → Type 0
Made h k steps = Stays h k × Grows h.pass.seen k.pass.seen × (k.pass.made ≡ steps ++ h.pass.made)

-- WHAT IS ASKED. The row is the table's, the pass holds it, it is not opened, and its thread has not ended.
abbrev pub CanDraft : HandOf → Row → Type 0
CanDraft h r = IsRowOf h.table r × Has h.pass.seen.held r × (¬ Has h.pass.seen.opened r) × (¬ SawEnded h.pass.seen r.thread)

-- the row is the table's, the pass holds it, and it is opened
abbrev pub CanAttempt : HandOf → Row → Type 0
CanAttempt h r = IsRowOf h.table r × Has h.pass.seen.held r × Has h.pass.seen.opened r

-- WHY NOT. Before and after, and the only refusals that there may be.
abbrev pub NotThere : HandOf → Row → Refusal → Type 0
NotThere h r NoRow = ¬ IsRowOf h.table r
NotThere h r NotHeld = ⊥
NotThere h r Opened = ⊥
NotThere h r Fresh = ⊥
NotThere h r Ended = ⊥
NotThere h r Shared = ⊥
NotThere h r Range = ⊥
NotThere h r Memory = ⊥

-- the table has no such row, or the pass does not hold it
abbrev pub NotHere : HandOf → Row → Refusal → Type 0
NotHere h r NoRow = ¬ IsRowOf h.table r
NotHere h r NotHeld = ¬ Has h.pass.seen.held r
NotHere h r Opened = ⊥
NotHere h r Fresh = ⊥
NotHere h r Ended = ⊥
NotHere h r Shared = ⊥
NotHere h r Range = ⊥
NotHere h r Memory = ⊥

-- the row cannot be drafted, bound or opened
abbrev pub NotFresh : HandOf → HandOf → Row → Refusal → Type 0
NotFresh h k r NoRow = ¬ IsRowOf h.table r
NotFresh h k r NotHeld = ¬ Has h.pass.seen.held r
NotFresh h k r Opened = Has k.pass.seen.opened r
NotFresh h k r Fresh = ⊥
NotFresh h k r Ended = SawEnded k.pass.seen r.thread
NotFresh h k r Shared = ⊥
NotFresh h k r Range = ⊥
NotFresh h k r Memory = ⊥

-- the row cannot be met by its own pass
abbrev pub NotOpened : HandOf → Row → Refusal → Type 0
NotOpened h r NoRow = ¬ IsRowOf h.table r
NotOpened h r NotHeld = ¬ Has h.pass.seen.held r
NotOpened h r Opened = ⊥
NotOpened h r Fresh = ¬ Has h.pass.seen.opened r
NotOpened h r Ended = ⊥
NotOpened h r Shared = ⊥
NotOpened h r Range = ⊥
NotOpened h r Memory = ⊥
