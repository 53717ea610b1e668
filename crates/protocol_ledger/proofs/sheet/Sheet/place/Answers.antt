use Rattle.std.proofs.Common.{arith}
use Rattle.protocol_ledger.proofs.Short.{short_inside}
use Rattle.protocol_ledger.proofs.sheet.Sheet.place.Goals as goal

pub returns-clause-inside : goal.returns-clause-inside
returns-clause-inside c =
    let s = c.args.self.now in
    let b = short_inside s.layout s.threads c.args.row c.args.place c.requires.thread c.requires.words c.requires.place in
    omega (arith, s.sized, c.place.ensures)
