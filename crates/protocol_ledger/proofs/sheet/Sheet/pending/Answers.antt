use Rattle.std.proofs.Common.{arith}
use Rattle.protocol_ledger.specs.Tables.{joined_at}
use Rattle.protocol_ledger.specs.Sheets.{table_of}
use Rattle.protocol_ledger.proofs.Loops.{pending_thread}
use Rattle.protocol_ledger.proofs.sheet.Sheet.pending.Goals as goal

pub overflow_add-pending : goal.overflow_add-pending
overflow_add-pending c = omega (arith, c.loop-thread.invariant.1, c.pending_in-pending.ensures.few, c.loop-thread-test.true, c.args.self.now.few_threads, c.args.self.now.few_rows)

pub loop-thread-preserved : goal.loop-thread-preserved
loop-thread-preserved c =
    let t = table_of c.args.self.now in
    let more = pending_thread c.loop-thread.thread t.rows (joined_at t) in (
      omega (arith, c.loop-thread.invariant.0, c.pending_in-pending.ensures.value, more),
      omega (arith, c.loop-thread.invariant.1, c.pending_in-pending.ensures.few, c.args.self.now.few_rows),
    )
