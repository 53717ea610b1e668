use Rattle.std.proofs.Common.{rules, ◌≤◌, Some, arith, sym, subst}
use Rattle.protocol_values.specs.declared.Message.{Message}
use Rattle.protocol_ledger.specs.Standing.{IsLeft}
use Rattle.cell.specs.Calls.{IsRowOf}
use Rattle.runtime_worker.specs.Machines.{doings}
use Rattle.runtime_worker.proofs.Machines.{holds_from, is_housing}
use Rattle.runtime_worker.proofs.Ranging.{result_in_range}
use Rattle.runtime_worker.proofs.crew.Crew.advance.Goals as goal

-- the row behind a row of the table has a number
pub next-requires : goal.next-requires
next-requires g c =
    let row : IsRowOf c.args.self.now.cells.now c.args.row = (search rules) in
    let below = row.1 in
    let few : c.args.self.now.cells.now.rows ≤ 1024 = c.requires.3.rows.1 in
    omega (arith, below, few)

-- the machine that came out is to be given the message that the row got
pub turn-done-requires-clause-resumes : goal.turn-done-requires-clause-resumes
turn-done-requires-clause-resumes g c =
    let out = c.in-Some-take.ensures.out in
    let comes = out.3.1 (is_housing c.args.self.now.cells.now c.requires.3) in (
      out.0,
      out.1,
      comes.0,
      holds_from c.take.new.pass c.args.row (Some comes.0) c.result.new.pass.out comes.2,
      subst (λ (m : Message). IsLeft doings c.args.self.now.cells.now.first comes.0 c.args.row c.in-Some-take.joined.own out.0 m) (sym (comes.4 c.in-Some.message c.in-Some.ensures.some)) comes.3,
    )

pub turn-done-requires-clause-message : goal.turn-done-requires-clause-message
turn-done-requires-clause-message g c =
    result_in_range c.result.new.pass.seen c.args.row c.in-Some.message c.in-Some.ensures.some
