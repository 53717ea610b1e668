use Rattle.std.proofs.Common.{rules, ◌≡◌, ◌+◌, ℕ, length, sym, subst, ap}
use Rattle.cell_table.specs.Sight.{AreSettled, Coherent, OpenHaveWords}
use Rattle.cell_table.specs.declared.view.Stage.TheVariants.{Resting}
use Rattle.cell.specs.Flags.{AreFlags, places_of}
use Rattle.cell.specs.Attempts.{Started}
use Rattle.cell.specs.Calls.{GridOf, HoldNothing, PassOf, opening_at}
use Rattle.cell_table.specs.declared.view.Seen.{Seen}
use Rattle.cell.proofs.Flagging.{started_flags}
use Rattle.cell.proofs.cells.Cells.start.Goals as goal
use Rattle.cell.proofs.cells.Cells.start.Goals.{then-started, else-started}

pub returns-clause-started : goal.returns-clause-started
returns-clause-started g c =
    let before = ap (λ (p : PassOf g.row.M.Denot). p.seen) c.pass.view_is in
    let after : c.if-started.pass-inside.seat.me.0.seen ≡ c.start_from-started.new.seat.me.0.seen = elim c.if-started.branch [ then-started w ↦ ap (λ z. z.seat.me.0.seen) w.pass-inside-is | else-started w ↦ ap (λ z. z.seat.me.0.seen) w.pass-inside-is ] in
    subst (λ (z : Seen × Seen). Started z.0 z.1 c.args.row c.args.thread c.start_from-started.result) (λ i. (before i, sym after i)) c.start_from-started.ensures.started

-- in both branches the pass is as its call left it, but for the first row
pub invariant_of-pass : goal.invariant_of-pass
invariant_of-pass g c = elim c.if-started.branch [
  | then-started w ↦
      let after = c.start_from-started.new.seat.me.0 in
      let rows : after.rows ≡ c.pass.inside.seat.me.0.rows = (search rules) in
      let started = subst (Started c.pass.inside.seat.me.0.seen after.seen c.args.row c.args.thread) w.if-started.true c.start_from-started.ensures.started in
      let flags = subst (λ (n : ℕ). AreFlags w.insert.new.self.threads w.insert.new.self.rows w.insert.new.self.flags.items (places_of n after.seen)) (sym rows)
      (started_flags w.insert.new.self.threads w.insert.new.self.rows c.pass.inside.seat.me.0.rows w.insert.new.self.flags.items c.pass.inside.seat.me.0.seen after.seen c.args.row c.args.thread started (w.insert.ensures.more _ c.pass.invariant.3)) in
      subst (λ z. (z.seat.me.0.stage ≡ Resting) × (z.seat.me.0.threads ≡ z.rows.threads) × (z.seat.me.0.rows + 1 ≡ z.rows.rows) × AreFlags z.rows.threads z.rows.rows z.rows.flags.items (places_of z.seat.me.0.rows z.seat.me.0.seen) × (length z.places.items ≡ length z.seat.me.0.first) × HoldNothing z.places.items) (sym w.pass-inside-is) (search rules, search rules, search rules, flags, search rules, search rules)
  | else-started w ↦ subst (λ z. (z.seat.me.0.stage ≡ Resting) × (z.seat.me.0.threads ≡ z.rows.threads) × (z.seat.me.0.rows + 1 ≡ z.rows.rows) × AreFlags z.rows.threads z.rows.rows z.rows.flags.items (places_of z.seat.me.0.rows z.seat.me.0.seen) × (length z.places.items ≡ length z.seat.me.0.first) × HoldNothing z.places.items) (sym w.pass-inside-is) (search rules, search rules, search rules, search rules, search rules, search rules)
]

pub returns-clause-here : goal.returns-clause-here
returns-clause-here g c = elim c.if-started.branch [
  | then-started w ↦ subst (λ z. (z.seat.table_id ≡ c.args.self.now.id) × (z.seat.me.0.threads ≡ c.args.self.now.threads) × (z.seat.me.0.rows ≡ c.args.self.now.rows) × (z.seat.me.0.passes ≡ c.args.self.now.passes) × Coherent c.args.self.now.threads c.args.self.now.rows z.seat.me.0.seen × (z.seat.me.0.first ≡ c.args.self.now.first) × (z.seat.me.0.lives ≡ c.args.self.now.lives) × (z.seat.me.0.nacks ≡ c.args.self.now.nacks) × AreSettled (opening_at c.args.self.now) z.seat.me.0.seen × (z.seat.me.0.layout ≡ c.args.self.now.layout) × OpenHaveWords c.args.self.now.layout z.seat.me.0.seen) (sym w.pass-inside-is) (search rules, search rules, search rules, search rules, search rules, search rules, search rules, search rules, subst (λ (grid : GridOf g.row.M.Denot). AreSettled (opening_at grid) c.start_from-started.new.seat.me.0.seen) c.self.view_is c.start_from-started.ensures.sits.1.7, search rules, search rules)
  | else-started w ↦ subst (λ z. (z.seat.table_id ≡ c.args.self.now.id) × (z.seat.me.0.threads ≡ c.args.self.now.threads) × (z.seat.me.0.rows ≡ c.args.self.now.rows) × (z.seat.me.0.passes ≡ c.args.self.now.passes) × Coherent c.args.self.now.threads c.args.self.now.rows z.seat.me.0.seen × (z.seat.me.0.first ≡ c.args.self.now.first) × (z.seat.me.0.lives ≡ c.args.self.now.lives) × (z.seat.me.0.nacks ≡ c.args.self.now.nacks) × AreSettled (opening_at c.args.self.now) z.seat.me.0.seen × (z.seat.me.0.layout ≡ c.args.self.now.layout) × OpenHaveWords c.args.self.now.layout z.seat.me.0.seen) (sym w.pass-inside-is) (search rules, search rules, search rules, search rules, search rules, search rules, search rules, search rules, subst (λ (grid : GridOf g.row.M.Denot). AreSettled (opening_at grid) c.start_from-started.new.seat.me.0.seen) c.self.view_is c.start_from-started.ensures.sits.1.7, search rules, search rules)
]
