use Rattle.std.proofs.Common.{sym, ap, ◌∙◌}
use Rattle.std.specs.Prelude.{option_and_then}
use Rattle.protocol_ledger.specs.Tables.{joined_at, offer_at}
use Rattle.protocol_ledger.specs.Ledgers.{commit_named, named_at}
use Rattle.protocol_ledger.specs.Sheets.{table_of}
use Rattle.protocol_ledger.proofs.Loops.{namer_found, namer_thread}
use Rattle.protocol_ledger.proofs.sheet.Sheet.commit_naming.Goals as goal

pub returns-in-Some : goal.returns-in-Some
returns-in-Some c =
    let t = table_of c.args.self.now in
    let found = c.in-Some.ensures.found in
    let namer = namer_found c.loop-thread.thread t.threads t.rows c.args.row c.in-Some.namer (joined_at t) c.loop-thread-test.true c.loop-thread.invariant found.1 in
    c.commit_named.ensures
    ∙ sym (ap (option_and_then (commit_named (offer_at t) c.in-Some.namer)) found.0)
    ∙ sym (ap (option_and_then (named_at (joined_at t) (offer_at t))) namer)

pub loop-thread-preserved : goal.loop-thread-preserved
loop-thread-preserved c =
    let t = table_of c.args.self.now in
    namer_thread c.loop-thread.thread t.rows c.args.row (joined_at t) c.loop-thread.invariant c.in_default.ensures.none
