use Rattle.std.proofs.Common.{◌≡◌, ◌≤◌, ◌*◌, arith, suc}
use Rattle.protocol_ledger.specs.Short.{row_len, rows_of}
use Rattle.protocol_ledger.proofs.Short.{words_few}
use Rattle.protocol_ledger.proofs.layout.Layout.starts.Goals as goal

pub overflow_add-starts : goal.overflow_add-starts
overflow_add-starts c =
    let y = c.args.self.now in
    let t = c.loop-thread.thread in
    let start = c.loop-thread.invariant.1 t (let same : t ≤ t = omega arith in same) in
    let all = words_few y (suc t) c.requires in
    let below = c.loop-thread-test.true in
    let len : c.from.result * c.row_len.result ≡ rows_of y t * row_len y.offers = (λ i. c.from.ensures i * c.row_len.ensures i) in
    omega arith
