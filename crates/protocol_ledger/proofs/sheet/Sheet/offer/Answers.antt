-- A row with offers is one of the table's, and has 8 at most.
use Rattle.std.proofs.Common.{◌<◌, ◌≤◌, arith}
use Rattle.protocol_ledger.specs.Tables.{count_at}
use Rattle.protocol_ledger.specs.Sheets.{table_of}
use Rattle.protocol_ledger.proofs.Readings.{row_of_count, few_offers}
use Rattle.protocol_ledger.proofs.sheet.Sheet.offer.Goals as goal

pub word-requires-clause-row : goal.word-requires-clause-row
word-requires-clause-row c =
    let t = table_of c.args.self.now in
    let b : c.args.n < count_at t c.args.row = omega (arith, c.count.ensures) in
    row_of_count t c.args.row c.args.n b

pub word-requires-clause-place : goal.word-requires-clause-place
word-requires-clause-place c =
    let t = table_of c.args.self.now in
    let few : count_at t c.args.row ≤ 8 = few_offers t c.args.row in
    omega (arith, c.count.ensures, c.from.ensures)

pub word-requires-2-clause-row : goal.word-requires-2-clause-row
word-requires-2-clause-row c =
    let t = table_of c.args.self.now in
    let b : c.args.n < count_at t c.args.row = omega (arith, c.count.ensures) in
    row_of_count t c.args.row c.args.n b

pub word-requires-2-clause-place : goal.word-requires-2-clause-place
word-requires-2-clause-place c =
    let t = table_of c.args.self.now in
    let few : count_at t c.args.row ≤ 8 = few_offers t c.args.row in
    omega (arith, c.count.ensures, c.from.ensures)

pub word-requires-3-clause-row : goal.word-requires-3-clause-row
word-requires-3-clause-row c =
    let t = table_of c.args.self.now in
    let b : c.args.n < count_at t c.args.row = omega (arith, c.count.ensures) in
    row_of_count t c.args.row c.args.n b

pub word-requires-3-clause-place : goal.word-requires-3-clause-place
word-requires-3-clause-place c =
    let t = table_of c.args.self.now in
    let few : count_at t c.args.row ≤ 8 = few_offers t c.args.row in
    omega (arith, c.count.ensures, c.from.ensures)

pub word-requires-4-clause-row : goal.word-requires-4-clause-row
word-requires-4-clause-row c =
    let t = table_of c.args.self.now in
    let b : c.args.n < count_at t c.args.row = omega (arith, c.count.ensures) in
    row_of_count t c.args.row c.args.n b

pub word-requires-4-clause-place : goal.word-requires-4-clause-place
word-requires-4-clause-place c =
    let t = table_of c.args.self.now in
    let few : count_at t c.args.row ≤ 8 = few_offers t c.args.row in
    omega (arith, c.count.ensures, c.from.ensures)
