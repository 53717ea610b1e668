use Rattle.std.proofs.Common.{◌≡◌, ◌≤◌, true, Some, sym, ap, ◌∙◌, arith}
use Rattle.std.specs.Prelude.{Option}
use Rattle.protocol_values.specs.declared.Joined.{Joined}
use Rattle.protocol_ledger.specs.Tables.{is_fresh, cell_at, joined_at, names}
use Rattle.protocol_values.specs.Values.{joined_of}
use Rattle.protocol_ledger.specs.Sheets.{table_of}
use Rattle.protocol_ledger.proofs.Loops.{namer_row, namer_first}
use Rattle.protocol_ledger.proofs.Chosen.{namer_end}
use Rattle.protocol_ledger.proofs.sheet.Sheet.namer_in.Goals as goal
use Rattle.protocol_ledger.proofs.sheet.Sheet.namer_in.Goals.{in-Some+else-is_partner, in_default}

pub returns-then-is_fresh-clause-none : goal.returns-then-is_fresh-clause-none
returns-then-is_fresh-clause-none c =
    let t = table_of c.args.self.now in
    let fresh : is_fresh (cell_at t (record { thread = c.args.thread; sync = c.loop-sync.sync })) ≡ true = ap is_fresh (sym c.cell-cell.ensures) ∙ sym c.is_fresh.ensures ∙ c.if-is_fresh.true in
    let before : c.loop-sync.sync ≤ t.rows = omega (arith, c.loop-sync-test.true) in
    namer_end t c.args.thread c.loop-sync.sync t.rows c.args.row c.requires fresh before c.loop-sync.invariant

pub returns-then-is_partner-clause-found : goal.returns-then-is_partner-clause-found
returns-then-is_partner-clause-found c =
    let t = table_of c.args.self.now in
    let joined : joined_at t (record { thread = c.args.thread; sync = c.loop-sync.sync }) ≡ Some c.in-Some.joined =
    ap joined_of (sym c.cell-cell.ensures) ∙ sym c.joined.ensures ∙ c.in-Some.is in (
      joined,
      namer_first c.args.thread c.loop-sync.sync t.rows c.args.row (joined_at t) c.loop-sync-test.true c.loop-sync.invariant
          (ap (λ (o : Option Joined). names o c.args.row) joined ∙ sym c.is_partner.ensures ∙ c.if-is_partner.true),
    )

pub loop-sync-preserved : goal.loop-sync-preserved
loop-sync-preserved c =
    let t = table_of c.args.self.now in
    let read : joined_at t (record { thread = c.args.thread; sync = c.loop-sync.sync }) ≡ c.joined.result = ap joined_of (sym c.cell-cell.ensures) ∙ sym c.joined.ensures in
    elim c.match-joined.branch [
      | in-Some+else-is_partner w ↦ namer_row c.args.thread c.loop-sync.sync c.args.row (joined_at t) c.loop-sync.invariant
          (ap (λ (o : Option Joined). names o c.args.row) (read ∙ w.in-Some.is) ∙ sym w.is_partner.ensures ∙ w.if-is_partner.false)
      | in_default w ↦ namer_row c.args.thread c.loop-sync.sync c.args.row (joined_at t) c.loop-sync.invariant
          (ap (λ (o : Option Joined). names o c.args.row) (read ∙ w.in_default.is))
    ]
