-- Behind the rows of a thread that the table has only the place behind the last one can be stood at.
use Rattle.std.proofs.Common.{◌≡◌, ◌<◌, ◌≤◌, Some, inr, rules, arith}
use Rattle.protocol.specs.States.{world_of}
use Rattle.protocol_ledger.specs.Worlds.{last_holder}
use Rattle.protocol_ledger.proofs.Keeping.{stands_last}
use Rattle.protocol.proofs.state.State.stands_at.Goals as goal

pub returns-then-from-self : goal.returns-then-from-self
returns-then-from-self c =
    let w = world_of c.args.self.now in
    let behind : w.table.rows ≤ c.args.row.sync = omega (arith, c.if-row-self.false) in
    (λ h. absurd (search rules), λ stands. let inside = (stands_last w c.args.seat c.args.row behind stands).0 in absurd (omega (arith, c.from.ensures, c.if-from-self.true)))

pub returns-then-row-self-2 : goal.returns-then-row-self-2
returns-then-row-self-2 c =
    let w = world_of c.args.self.now in
    let behind : w.table.rows ≤ c.args.row.sync = omega (arith, c.if-row-self.false) in
    (λ h. absurd (search rules), λ stands. let at = (stands_last w c.args.seat c.args.row behind stands).1 in absurd (omega (arith, c.if-row-self-2.true)))

pub returns : goal.returns
returns c =
    let w = world_of c.args.self.now in
    let behind : w.table.rows ≤ c.args.row.sync = omega (arith, c.if-row-self.false) in
    let at : c.args.row.sync ≡ w.table.rows = omega (arith, c.if-row-self.false, c.if-row-self-2.false) in
    let inside : c.args.row.thread < w.table.threads = omega (arith, c.from.ensures, c.if-from-self.false) in (
      λ h.
          let same : last_holder w c.args.row.thread ≡ Some c.args.seat.0 = (search rules) in
          inr (inside, at, same),
      λ stands.
          let same = (stands_last w c.args.seat c.args.row behind stands).2 in
          search rules,
    )
