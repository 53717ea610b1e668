use Rattle.std.proofs.Common.{◌≡◌, ◌+◌, ◌*◌, ◌<◌, ap, arith}
use Rattle.protocol_ledger.specs.Sheets.{table_of}
use Rattle.protocol_ledger.proofs.Places.{row_inside, block_inside}
use Rattle.protocol_ledger.proofs.sheet.Sheet.number.Goals as goal

pub returns-clause-inside : goal.returns-clause-inside
returns-clause-inside c =
    let s = c.args.self.now in
    let r = c.args.row in
    let in_t = row_inside (table_of s) r c.requires in
    let b : r.thread * s.rows + r.sync < s.threads * s.rows = block_inside r.thread s.threads r.sync s.rows in_t.0 in_t.1 in
    let t : c.from.result * s.rows ≡ r.thread * s.rows = ap (λ n. n * s.rows) c.from.ensures in
    omega arith
