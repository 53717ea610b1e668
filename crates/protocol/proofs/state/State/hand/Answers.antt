use Rattle.std.proofs.Common.{arith}
use Rattle.protocol_ledger.specs.Sheets.{table_of}
use Rattle.protocol_ledger.proofs.Places.{row_inside}
use Rattle.protocol.proofs.state.State.hand.Goals as goal

pub next-next-requires : goal.next-next-requires
next-next-requires c =
    let inside = row_inside (table_of c.args.self.now.sheet) c.args.row c.requires in
    let few = c.args.self.now.sheet.few_rows in
    omega arith

pub index_mut-requires-then-next-self : goal.index_mut-requires-then-next-self
index_mut-requires-then-next-self c =
    let inside = row_inside (table_of c.args.self.now.sheet) c.args.row c.requires in
    omega (arith, c.from.ensures, c.args.self.now.behind, c.args.self.now.lasts.ok)
