use Rattle.protocol_ledger.specs.Sheets.{table_of}
use Rattle.protocol_ledger.proofs.Places.{row_inside}
use Rattle.protocol_ledger.proofs.Sheets.{sheet_set_word}
use Rattle.protocol_ledger.proofs.sheet.Sheet.set_word.Goals as goal

pub place-at-requires-clause-thread : goal.place-at-requires-clause-thread
place-at-requires-clause-thread c = (row_inside (table_of c.args.self.now) c.args.row c.requires.row).0

pub returns-clause-written : goal.returns-clause-written
returns-clause-written c = sheet_set_word c.args.self.now c.args.row c.args.place c.place-at.result c.args.word c.requires.row c.requires.words c.requires.place c.place-at.ensures.value
