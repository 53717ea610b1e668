use Rattle.std.proofs.Common.{◌≡◌, ◌≤◌, ℕ, cond, true, sym, ap, ◌∙◌, arith}
use Rattle.protocol_values.specs.declared.Row.{Row}
use Rattle.protocol_ledger.specs.Tables.{is_fresh, cell_at, joined_at}
use Rattle.protocol_values.specs.Values.{joined_of}
use Rattle.protocol_ledger.specs.Ledgers.{is_pending}
use Rattle.protocol_ledger.specs.Sheets.{table_of}
use Rattle.protocol_ledger.proofs.Loops.{pending_row}
use Rattle.protocol_ledger.proofs.Chosen.{pending_end}
use Rattle.protocol_ledger.proofs.sheet.Sheet.pending_in.Goals as goal
use Rattle.protocol_ledger.proofs.sheet.Sheet.pending_in.Goals.{then-is_pending, else-is_pending}

pub returns-then-is_fresh-clause-value : goal.returns-then-is_fresh-clause-value
returns-then-is_fresh-clause-value c =
    let t = table_of c.args.self.now in
    let fresh : is_fresh (cell_at t (record { thread = c.args.thread; sync = c.loop-sync.sync })) ≡ true = ap is_fresh (sym c.cell-cell.ensures) ∙ sym c.is_fresh.ensures ∙ c.if-is_fresh.true in
    let before : c.loop-sync.sync ≤ t.rows = omega (arith, c.loop-sync-test.true) in
    c.loop-sync.invariant.0 ∙ sym (pending_end t c.args.thread c.loop-sync.sync t.rows c.requires fresh before)

pub returns-then-is_fresh-clause-few : goal.returns-then-is_fresh-clause-few
returns-then-is_fresh-clause-few c = omega (arith, c.loop-sync.invariant.1, c.loop-sync-test.true)

pub overflow_add-pending : goal.overflow_add-pending
overflow_add-pending c = omega (arith, c.loop-sync.invariant.1, c.loop-sync-test.true, c.args.self.now.few_rows)

pub loop-sync-preserved : goal.loop-sync-preserved
loop-sync-preserved c =
    let t = table_of c.args.self.now in
    let r : Row = record { thread = c.args.thread; sync = c.loop-sync.sync } in
    let more = pending_row c.args.thread c.loop-sync.sync (joined_at t) in
    let test = c.is_pending.ensures ∙ ap (is_pending (joined_at t)) (c.joined.ensures ∙ ap joined_of c.cell-cell.ensures) in
    elim c.if-is_pending.branch [
      | then-is_pending w ↦
          let one : ◌≡◌ {A = ℕ} (cond (is_pending (joined_at t) (joined_at t r)) 1 0) 1 = ap (λ b. cond b 1 0) (sym test ∙ w.if-is_pending.true) in
          let was = c.loop-sync.invariant.0 in
          (omega (arith, w.pending-is), omega (arith, w.pending-is, c.loop-sync.invariant.1))
      | else-is_pending w ↦
          let none : ◌≡◌ {A = ℕ} (cond (is_pending (joined_at t) (joined_at t r)) 1 0) 0 = ap (λ b. cond b 1 0) (sym test ∙ w.if-is_pending.false) in
          let was = c.loop-sync.invariant.0 in
          (omega (arith, w.pending-is), omega (arith, w.pending-is, c.loop-sync.invariant.1))
    ]

pub returns-clause-few : goal.returns-clause-few
returns-clause-few c = omega (arith, c.loop-sync.invariant.1, c.loop-sync-test.false)
