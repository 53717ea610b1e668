-- A table may be shared among threads where its machines may be sent.
use denote.RattleType.{RattleType}
use denote.Param.Send.{IsSend, IsSync, sendable}
use denote.Param.SendFields.{declared_sync}
use Rattle.std.proofs.Crossing.{crosses, frees, send, sync}
use Rattle.atomic_table.proofs.owned.Table.TheSendSync.{the_sync as table_sync}
use Rattle.protocol_ledger.specs.declared.resident.Resident.{Ghosts}
use Rattle.cell_table.specs.contracts.view.Shape as Shape
use Rattle.cell_table.specs.contracts.board.Board as Board
use Rattle.cell_table.specs.contracts.board.Law as Law
use Rattle.cell_table.specs.contracts.board.LawTableRuleOptionViewShape.TheImpl as rule
use Rattle.cell_table.specs.contracts.view.View as View
use Rattle.cell.specs.contracts.cells.Cells as Cells
use Rattle.cell.specs.contracts.cells.Cells.TheInside as Inside
use Rattle.std.specs.contracts.option.Option as Option

shape_sync : (M : RattleType) → IsSync (Shape.the_row M)
shape_sync M = search (sendable, crosses) depth 40

option_send : (M : RattleType) → IsSend M → IsSend (Option.the_row M)
option_send M s = search (sendable, crosses) depth 20

board_sync : (M : RattleType) (g : Ghosts M.Denot) → IsSend M → IsSync (Board.the_row M g)
board_sync M g s = declared_sync (Board.the_type M g) (table_sync _ (View.the_row M) (Shape.the_row M) Law.the_row _ (rule.ghosts M g rule.no_dict) _ (option_send M s) send sync frees, (shape_sync M, (search (sendable, crosses) depth 20, (search (sendable, crosses) depth 20, (search (sendable, crosses) depth 20, tt)))))

pub cells_sync : (M : RattleType) (g : Ghosts M.Denot) → IsSend M → IsSync (Cells.the_row M g)
cells_sync M g s =
    let inside : IsSync (Inside.the_row M g) = declared_sync (Inside.the_type M g) (board_sync M g s, (search (sendable, crosses) depth 20, tt)) in search (sendable, crosses) depth 20
