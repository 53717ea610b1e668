-- What a handle keeps may go to another thread.
use denote.Param.Send.{IsSend, IsSync, sendable, view_send}
use denote.Param.SendFields.{declared_send, declared_sync, variants_send}
use Rattle.std.proofs.Crossing.{crosses, frees, send}
use Rattle.atomic_table.proofs.owned.Table.TheSendSync as table
use Rattle.atomic_table.proofs.shared.Seat.TheSendSync as seat
use Rattle.protocol_ledger.specs.contracts.resident.Bare as Bare
use Rattle.protocol_ledger.specs.contracts.resident.BareResident.TheImpl as resident
use Rattle.cell_table.specs.contracts.view.Shape as Shape
use Rattle.cell_table.specs.contracts.view.View as View
use Rattle.cell_table.specs.contracts.board.Board as Board
use Rattle.cell_table.specs.contracts.board.Law as Law
use Rattle.cell_table.specs.contracts.board.LawTableRuleOptionViewShape.TheImpl as rule
use Rattle.cell.specs.contracts.cells.Cells as Cells
use Rattle.cell.specs.contracts.cells.Cells.TheInside as CellsInside
use Rattle.cell.proofs.cells.Pass.TheSendSync.{the_send as pass_send}
use Rattle.cell.proofs.Crossing.{cells_sync}
use Rattle.std.specs.contracts.option.Option as Option
use Rattle.meet_directory.proofs.directory.Directory.TheSendSync.{the_send as directory_send, the_sync as directory_sync}
use Rattle.protocol_ledger.proofs.ledger.Ledger.TheSendSync.{the_send as ledger_send}
use Rattle.cell_hand.specs.contracts.hand.Hand as Hand
use Rattle.cell_hand.specs.contracts.hand.Hand.TheInside as Inside
use Rattle.cell_hand.specs.contracts.hand.Table as Table
use Rattle.cell_hand.specs.contracts.kept.Kept as Kept

bare_send : IsSend Bare.the_row
bare_send = search sendable depth 20

option_send : IsSend (Option.the_row Bare.the_row)
option_send = let s = bare_send in search (sendable, crosses) depth 20

shape_send : IsSend (Shape.the_row Bare.the_row)
shape_send = search (sendable, crosses) depth 40

board_send : IsSend (Board.the_row Bare.the_row resident.ghosts)
board_send =
    declared_send (Board.the_type Bare.the_row resident.ghosts) (table.the_send _ (View.the_row Bare.the_row) (Shape.the_row Bare.the_row) Law.the_row _ (rule.ghosts Bare.the_row resident.ghosts rule.no_dict) _ option_send send frees, (shape_send, (search (sendable, crosses) depth 20, (search (sendable, crosses) depth 20, (search (sendable, crosses) depth 20, tt)))))

cells_send : IsSend (Cells.the_row Bare.the_row resident.ghosts)
cells_send =
    let inside : IsSend (CellsInside.the_row Bare.the_row resident.ghosts) = declared_send (CellsInside.the_type Bare.the_row resident.ghosts) (board_send, (search (sendable, crosses) depth 20, tt)) in
    search sendable depth 20

table_row_sync : IsSync Table.the_row
table_row_sync = declared_sync Table.the_type (cells_sync Bare.the_row resident.ghosts bare_send, (directory_sync, tt))

table_row_send : IsSend Table.the_row
table_row_send = declared_send Table.the_type (cells_send, (directory_send, tt))

hand_inside_send : IsSend Inside.the_row
hand_inside_send =
    let t = table_row_send in let y = table_row_sync in
    declared_send Inside.the_type (search (sendable, crosses) depth 20, (pass_send Bare.the_row bare_send, (seat.the_send _ _ (search sendable depth 20), tt)))

hand_send : IsSend Hand.the_row
hand_send = view_send _ _ _ _ _ hand_inside_send

pub kept_send : IsSend Kept.the_row
kept_send = variants_send Kept.enum ((hand_send, tt), ((ledger_send, tt), (tt, tt)))
