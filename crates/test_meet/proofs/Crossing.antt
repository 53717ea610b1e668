-- What the threads share of a table, and hand over.
use denote.Param.Send.{IsSend, IsSync, sendable}
use Rattle.protocol_ledger.specs.contracts.resident.Bare as Bare
use Rattle.protocol_ledger.specs.contracts.resident.BareResident.TheImpl as resident
use Rattle.cell.specs.contracts.cells.Cells as Cells
use Rattle.cell.specs.contracts.cells.Pass as Pass
use Rattle.cell.proofs.cells.Pass.TheSendSync.{the_send as pass_send}
use Rattle.cell.proofs.Crossing.{cells_sync}

bare_send : IsSend Bare.the_row
bare_send = search sendable depth 20

pub bare_cells_sync : IsSync (Cells.the_row Bare.the_row resident.ghosts)
bare_cells_sync = cells_sync Bare.the_row resident.ghosts bare_send

pub bare_pass_send : IsSend (Pass.the_row Bare.the_row)
bare_pass_send = pass_send Bare.the_row bare_send
