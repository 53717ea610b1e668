use Rattle.protocol_ledger.proofs.Sheets.{sheet_set_nack}
use Rattle.protocol_ledger.proofs.sheet.Sheet.set_nack.Goals as goal

pub returns-clause-written : goal.returns-clause-written
returns-clause-written c = sheet_set_nack c.args.self.now c.args.nack c.nack_place-at.result c.pack_nack.result c.args.bound c.requires.nack c.nack_place-at.ensures.value c.pack_nack.ensures
