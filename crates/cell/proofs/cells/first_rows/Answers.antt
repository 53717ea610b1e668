use Rattle.std.proofs.Common.{◌≡◌, ◌+◌, ◌∙◌, true, false, sym, subst}
use Rattle.protocol_ledger.specs.Openings.{opening_of}
use Rattle.cell.specs.Flags.{AreFlags}
use Rattle.cell.specs.declared.rows.RowSet.{RowSet}
use Rattle.cell_table.specs.Rule.{dealt_from}
use Rattle.cell_table.proofs.Dealing.{dealt_more}
use Rattle.cell.proofs.cells.first_rows.Goals as goal
use Rattle.cell.proofs.cells.first_rows.Goals.{then-falls_to, else-falls_to}

pub loop-thread-preserved : goal.loop-thread-preserved
loop-thread-preserved c =
    let was = c.loop-thread.invariant in
    elim c.if-falls_to.branch [
      | then-falls_to w ↦
          let rows = dealt_more (opening_of c.args.opening.now) c.loop-thread.thread c.args.passes c.args.number true (sym c.falls_to.ensures ∙ w.if-falls_to.true) in
          subst (λ (f : RowSet). record { size : (f.threads ≡ c.len-threads.result) × (f.rows ≡ c.args.rows + 1); dealt : AreFlags f.threads f.rows f.flags.items (dealt_from (opening_of c.args.opening.now) (c.loop-thread.thread + 1) c.args.passes c.args.number) }) (sym w.first-is) (record {
            size = (w.insert.ensures.size.0 ∙ was.size.0, w.insert.ensures.size.1 ∙ was.size.1);
            dealt = subst (AreFlags w.insert.new.self.threads w.insert.new.self.rows w.insert.new.self.flags.items) (sym rows) (w.insert.ensures.more _ was.dealt);
          })
      | else-falls_to w ↦
          let rows = dealt_more (opening_of c.args.opening.now) c.loop-thread.thread c.args.passes c.args.number false (sym c.falls_to.ensures ∙ w.if-falls_to.false) in
          subst (λ (f : RowSet). record { size : (f.threads ≡ c.len-threads.result) × (f.rows ≡ c.args.rows + 1); dealt : AreFlags f.threads f.rows f.flags.items (dealt_from (opening_of c.args.opening.now) (c.loop-thread.thread + 1) c.args.passes c.args.number) }) (sym w.first-is) (record {
            size = was.size;
            dealt = subst (AreFlags c.loop-thread.first.threads c.loop-thread.first.rows c.loop-thread.first.flags.items) (sym rows) was.dealt;
          })
    ]
