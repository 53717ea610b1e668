use Rattle.std.proofs.Common.{◌∙◌, ◌∷◌, ◌++◌, [], Ok, refl, sym, ap, subst, arith}
use Rattle.script_tree.specs.Trees.{test_of}
use Rattle.script_tree.specs.Lined.{Runs, block_of, stmt_of}
use Rattle.thread.specs.declared.stack.Frame.TheVariants.{Rest, Times, Endless}
use Rattle.thread.specs.declared.stack.Now.TheVariants.{At}
use Rattle.thread.specs.Standing.{Goes, at_line}
use Rattle.thread.specs.Fitting.{FramesFit, StepFits}
use Rattle.thread.specs.Reaches.{Falls, event_reach, now_reach}
use Rattle.thread.specs.Stacks.{frames_on, lists_of, state_of, step_on}
use Rattle.thread.specs.Values.{test_value}
use Rattle.thread.proofs.Stacking.{at_there, frame_put, has_sync, leads_at, sync_is}
use Rattle.thread.proofs.Statements.{step_does, branch_does, branch_falls, branch_false, branch_fits, branch_true, endless_on, if_both, lists_same, loop_does, loop_steps, next_there, sync_does, sync_falls, sync_fits, times_on}
use Rattle.thread.proofs.statement.run_other.Goals as goal

pub returns-in-Ok-clause-fits : goal.returns-in-Ok-clause-fits
returns-in-Ok-clause-fits c =
    let p = c.place_at-place.result.now in
    let rest = block_of c.in-Then.field-2.value in
    let runs = ap block_of (sym c.deref.ensures ∙ c.in-Then.is) ∙ ap (λ st. Runs (stmt_of st) c.in-Then.line (block_of c.in-Then.field-2.value)) c.in-Let.is in
    (next_there c.args.code.now c.args.at p _ _ rest c.requires.linked c.place_at-place.ensures runs, c.requires.fits.1)

pub returns-in_ok-push-in-Ok-value_of-clause-fits : goal.returns-in_ok-push-in-Ok-value_of-clause-fits
returns-in_ok-push-in-Ok-value_of-clause-fits c =
    let p = c.place_at-place.result.now in
    let rest = block_of c.in-Then.field-2.value in
    let runs = ap block_of (sym c.deref.ensures ∙ c.in-Then.is) ∙ ap (λ st. Runs (stmt_of st) c.in-Then.line (block_of c.in-Then.field-2.value)) c.in-Print.is in
    (next_there c.args.code.now c.args.at p _ _ rest c.requires.linked c.place_at-place.ensures runs, c.requires.fits.1)

pub returns-in-Sync-clause-does : goal.returns-in-Sync-clause-does
returns-in-Sync-clause-does c = λ rs.
    let p = c.place_at-place.result.now in
    let rest = block_of c.in-Then.field-2.value in
    let runs = ap block_of (sym c.deref.ensures ∙ c.in-Then.is) ∙ ap (λ st. Runs (stmt_of st) c.in-Then.line (block_of c.in-Then.field-2.value)) c.in-Sync.is in
    sync_does c.args.code.now c.args.at p _ _ _ rest c.requires.linked c.place_at-place.ensures runs (lists_of c.args.stack.now) c.offered.result c.offered.ensures (frames_on c.args.code.now c.args.stack.now.frames.items) (state_of c.args.memory.now rs)

pub returns-in-Sync-clause-falls : goal.returns-in-Sync-clause-falls
returns-in-Sync-clause-falls c =
    let p = c.place_at-place.result.now in
    let rest = block_of c.in-Then.field-2.value in
    let runs = ap block_of (sym c.deref.ensures ∙ c.in-Then.is) ∙ ap (λ st. Runs (stmt_of st) c.in-Then.line (block_of c.in-Then.field-2.value)) c.in-Sync.is in
    sync_falls c.args.code.now c.args.at p _ _ _ rest c.requires.linked c.place_at-place.ensures runs (lists_of c.args.stack.now) c.offered.result c.offered.ensures _

pub returns-in-Sync-clause-fits : goal.returns-in-Sync-clause-fits
returns-in-Sync-clause-fits c =
    let p = c.place_at-place.result.now in
    let rest = block_of c.in-Then.field-2.value in
    let runs = ap block_of (sym c.deref.ensures ∙ c.in-Then.is) ∙ ap (λ st. Runs (stmt_of st) c.in-Then.line (block_of c.in-Then.field-2.value)) c.in-Sync.is in
    sync_fits c.args.code.now c.args.at p _ _ _ rest c.requires.linked c.place_at-place.ensures runs (lists_of c.args.stack.now) c.offered.result c.offered.ensures c.args.stack.now.frames.items c.requires.fits.1

pub returns-in_ok-push-in-Ok-true-clause-does : goal.returns-in_ok-push-in-Ok-true-clause-does
returns-in_ok-push-in-Ok-true-clause-does c = λ rs.
    let p = c.place_at-place.result.now in
    let rest = block_of c.in-Then.field-2.value in
    let runs = ap block_of (sym c.deref.ensures ∙ c.in-Then.is) ∙ ap (λ st. Runs (stmt_of st) c.in-Then.line (block_of c.in-Then.field-2.value)) c.in-If.is in
    let led = (leads_at c.args.code.now c.args.at p _ _ rest c.requires.linked c.place_at-place.ensures runs).1.0 in
    let is = c.in_ok-push-in-Ok-true.ensures.items in
    let s = state_of c.args.memory.now rs in
    let test = sym c.holds.ensures ∙ c.in-Ok-true.is ∙ ap (λ b. Ok b) c.in-Ok-true.field-0-test in
    branch_does c.args.code.now c.args.at p _ _ rest c.requires.linked c.place_at-place.ensures runs c.push-in-Ok-true.new.self.items c.args.stack.now.frames.items (lists_of c.args.stack.now) is p.first _ s led (branch_true c.in-Then.line (test_of c.in-If.test) (block_of c.in-If.field-1.value) (block_of c.in-If.field-2.value) (at_line c.in-Then.line s) (ap (λ v. test_value v (test_of c.in-If.test)) (sym c.deref-in-If.ensures.value) ∙ test))

pub returns-in_ok-push-in-Ok-true-clause-falls : goal.returns-in_ok-push-in-Ok-true-clause-falls
returns-in_ok-push-in-Ok-true-clause-falls c =
    let p = c.place_at-place.result.now in
    let rest = block_of c.in-Then.field-2.value in
    let runs = ap block_of (sym c.deref.ensures ∙ c.in-Then.is) ∙ ap (λ st. Runs (stmt_of st) c.in-Then.line (block_of c.in-Then.field-2.value)) c.in-If.is in
    let led = (leads_at c.args.code.now c.args.at p _ _ rest c.requires.linked c.place_at-place.ensures runs).1.0 in
    let is = c.in_ok-push-in-Ok-true.ensures.items in
    branch_falls c.args.code.now c.args.at p _ _ rest c.requires.linked c.place_at-place.ensures runs c.push-in-Ok-true.new.self.items c.args.stack.now.frames.items (lists_of c.args.stack.now) is p.first _ led (omega arith)

pub returns-in_ok-push-in-Ok-true-clause-fits : goal.returns-in_ok-push-in-Ok-true-clause-fits
returns-in_ok-push-in-Ok-true-clause-fits c =
    let p = c.place_at-place.result.now in
    let rest = block_of c.in-Then.field-2.value in
    let runs = ap block_of (sym c.deref.ensures ∙ c.in-Then.is) ∙ ap (λ st. Runs (stmt_of st) c.in-Then.line (block_of c.in-Then.field-2.value)) c.in-If.is in
    let led = (leads_at c.args.code.now c.args.at p _ _ rest c.requires.linked c.place_at-place.ensures runs).1.0 in
    let is = c.in_ok-push-in-Ok-true.ensures.items in
    (at_there c.args.code.now p.first _ led, branch_fits c.args.code.now c.args.at p _ _ rest c.requires.linked c.place_at-place.ensures runs c.push-in-Ok-true.new.self.items c.args.stack.now.frames.items (lists_of c.args.stack.now) is c.requires.fits.1)

pub returns-in_ok-push-in-Ok-false-clause-does : goal.returns-in_ok-push-in-Ok-false-clause-does
returns-in_ok-push-in-Ok-false-clause-does c = λ rs.
    let p = c.place_at-place.result.now in
    let rest = block_of c.in-Then.field-2.value in
    let runs = ap block_of (sym c.deref.ensures ∙ c.in-Then.is) ∙ ap (λ st. Runs (stmt_of st) c.in-Then.line (block_of c.in-Then.field-2.value)) c.in-If.is in
    let led = (leads_at c.args.code.now c.args.at p _ _ rest c.requires.linked c.place_at-place.ensures runs).1.1 in
    let is = c.in_ok-push-in-Ok-false.ensures.items in
    let s = state_of c.args.memory.now rs in
    let test = sym c.holds.ensures ∙ c.in-Ok-false.is ∙ ap (λ b. Ok b) c.in-Ok-false.field-0-test in
    branch_does c.args.code.now c.args.at p _ _ rest c.requires.linked c.place_at-place.ensures runs c.push-in-Ok-false.new.self.items c.args.stack.now.frames.items (lists_of c.args.stack.now) is p.second _ s led (branch_false c.in-Then.line (test_of c.in-If.test) (block_of c.in-If.field-1.value) (block_of c.in-If.field-2.value) (at_line c.in-Then.line s) (ap (λ v. test_value v (test_of c.in-If.test)) (sym c.deref-in-If.ensures.value) ∙ test))

pub returns-in_ok-push-in-Ok-false-clause-falls : goal.returns-in_ok-push-in-Ok-false-clause-falls
returns-in_ok-push-in-Ok-false-clause-falls c =
    let p = c.place_at-place.result.now in
    let rest = block_of c.in-Then.field-2.value in
    let runs = ap block_of (sym c.deref.ensures ∙ c.in-Then.is) ∙ ap (λ st. Runs (stmt_of st) c.in-Then.line (block_of c.in-Then.field-2.value)) c.in-If.is in
    let led = (leads_at c.args.code.now c.args.at p _ _ rest c.requires.linked c.place_at-place.ensures runs).1.1 in
    let is = c.in_ok-push-in-Ok-false.ensures.items in
    branch_falls c.args.code.now c.args.at p _ _ rest c.requires.linked c.place_at-place.ensures runs c.push-in-Ok-false.new.self.items c.args.stack.now.frames.items (lists_of c.args.stack.now) is p.second _ led (omega arith)

pub returns-in_ok-push-in-Ok-false-clause-fits : goal.returns-in_ok-push-in-Ok-false-clause-fits
returns-in_ok-push-in-Ok-false-clause-fits c =
    let p = c.place_at-place.result.now in
    let rest = block_of c.in-Then.field-2.value in
    let runs = ap block_of (sym c.deref.ensures ∙ c.in-Then.is) ∙ ap (λ st. Runs (stmt_of st) c.in-Then.line (block_of c.in-Then.field-2.value)) c.in-If.is in
    let led = (leads_at c.args.code.now c.args.at p _ _ rest c.requires.linked c.place_at-place.ensures runs).1.1 in
    let is = c.in_ok-push-in-Ok-false.ensures.items in
    (at_there c.args.code.now p.second _ led, branch_fits c.args.code.now c.args.at p _ _ rest c.requires.linked c.place_at-place.ensures runs c.push-in-Ok-false.new.self.items c.args.stack.now.frames.items (lists_of c.args.stack.now) is c.requires.fits.1)

pub returns-in-Loop-clause-does : goal.returns-in-Loop-clause-does
returns-in-Loop-clause-does c =
    let p = c.place_at-place.result.now in
    let rest = block_of c.in-Then.field-2.value in
    let runs = ap block_of (sym c.deref.ensures ∙ c.in-Then.is) ∙ ap (λ st. Runs (stmt_of st) c.in-Then.line (block_of c.in-Then.field-2.value)) c.in-Loop.is in
    let old = c.args.stack.now.frames.items in
    let put = old ++ Rest p.next ∷ [] in
    let has = (leads_at c.args.code.now c.args.at p _ _ rest c.requires.linked c.place_at-place.ensures runs).1 in
    let e = c.turns.ensures in
    let news = c.turns.new.stack in
    if_both c.turns.result _ _ _ (λ step begins frames. λ rs.
    let s = state_of c.args.memory.now rs in
    let t = at_line c.in-Then.line s in
    ap (λ z. step_on c.args.code.now news z t) begins
    ∙ ap (λ l. frames_on c.args.code.now news.frames.items l t) (lists_same news c.args.stack.now e.offers e.nacks)
    ∙ loop_does c.args.code.now c.args.at p _ _ rest c.requires.linked c.place_at-place.ensures runs put old (lists_of c.args.stack.now) refl news.frames.items (Times c.in-Loop.times p.first) frames s (λ below. times_on c.args.code.now p.first c.in-Then.line _ _ _ _ has below (lists_of c.args.stack.now) t c.in-Loop.times))
    e.begins e.frames

pub returns-in-Loop-clause-falls : goal.returns-in-Loop-clause-falls
returns-in-Loop-clause-falls c =
    let p = c.place_at-place.result.now in
    let rest = block_of c.in-Then.field-2.value in
    let runs = ap block_of (sym c.deref.ensures ∙ c.in-Then.is) ∙ ap (λ st. Runs (stmt_of st) c.in-Then.line (block_of c.in-Then.field-2.value)) c.in-Loop.is in
    let old = c.args.stack.now.frames.items in
    let put = old ++ Rest p.next ∷ [] in
    let has = (leads_at c.args.code.now c.args.at p _ _ rest c.requires.linked c.place_at-place.ensures runs).1 in
    let e = c.turns.ensures in
    let news = c.turns.new.stack in
    if_both c.turns.result _ _ _ (λ step begins frames.
    subst (λ z. Falls c.args.code.now (now_reach c.args.code.now c.args.stack.now (At c.args.at)) news z) (sym begins)
    (loop_steps c.args.code.now c.args.at p _ _ rest c.requires.linked c.place_at-place.ensures runs put old (lists_of c.args.stack.now) refl news.frames.items (Times c.in-Loop.times p.first) frames (λ r. omega (arith, ap (λ t. event_reach t.event) (sync_is c.args.code.now p.first _ _ _ _ has)))))
    e.begins e.frames

pub returns-in-Loop-clause-fits : goal.returns-in-Loop-clause-fits
returns-in-Loop-clause-fits c =
    let p = c.place_at-place.result.now in
    let rest = block_of c.in-Then.field-2.value in
    let runs = ap block_of (sym c.deref.ensures ∙ c.in-Then.is) ∙ ap (λ st. Runs (stmt_of st) c.in-Then.line (block_of c.in-Then.field-2.value)) c.in-Loop.is in
    let old = c.args.stack.now.frames.items in
    let put = old ++ Rest p.next ∷ [] in
    let has = (leads_at c.args.code.now c.args.at p _ _ rest c.requires.linked c.place_at-place.ensures runs).1 in
    let e = c.turns.ensures in
    let news = c.turns.new.stack in
    if_both c.turns.result _ _ _ (λ step begins frames.
    subst (λ z. StepFits c.args.code.now news z) (sym begins)
    (subst (λ l. FramesFit c.args.code.now news.frames.items l) (sym (lists_same news c.args.stack.now e.offers e.nacks))
    (frame_put c.args.code.now news.frames.items put (Times c.in-Loop.times p.first) (lists_of c.args.stack.now) frames (has_sync c.args.code.now p.first _ _ _ _ has, branch_fits c.args.code.now c.args.at p _ _ rest c.requires.linked c.place_at-place.ensures runs put old (lists_of c.args.stack.now) refl c.requires.fits.1))))
    e.begins e.frames

pub returns-in-Forever-clause-does : goal.returns-in-Forever-clause-does
returns-in-Forever-clause-does c =
    let p = c.place_at-place.result.now in
    let rest = block_of c.in-Then.field-2.value in
    let runs = ap block_of (sym c.deref.ensures ∙ c.in-Then.is) ∙ ap (λ st. Runs (stmt_of st) c.in-Then.line (block_of c.in-Then.field-2.value)) c.in-Forever.is in
    let old = c.args.stack.now.frames.items in
    let put = old ++ Rest p.next ∷ [] in
    let has = (leads_at c.args.code.now c.args.at p _ _ rest c.requires.linked c.place_at-place.ensures runs).1 in
    let e = c.turns-in-Forever.ensures in
    let news = c.turns-in-Forever.new.stack in
    if_both c.turns-in-Forever.result _ _ _ (λ step begins frames. λ rs.
    let s = state_of c.args.memory.now rs in
    let t = at_line c.in-Then.line s in
    ap (λ z. step_on c.args.code.now news z t) begins
    ∙ ap (λ l. frames_on c.args.code.now news.frames.items l t) (lists_same news c.args.stack.now e.offers e.nacks)
    ∙ loop_does c.args.code.now c.args.at p _ _ rest c.requires.linked c.place_at-place.ensures runs put old (lists_of c.args.stack.now) refl news.frames.items (Endless p.first) frames s (λ below. endless_on c.args.code.now p.first c.in-Then.line _ _ _ _ has below (lists_of c.args.stack.now) t))
    e.begins e.frames

pub returns-in-Forever-clause-falls : goal.returns-in-Forever-clause-falls
returns-in-Forever-clause-falls c =
    let p = c.place_at-place.result.now in
    let rest = block_of c.in-Then.field-2.value in
    let runs = ap block_of (sym c.deref.ensures ∙ c.in-Then.is) ∙ ap (λ st. Runs (stmt_of st) c.in-Then.line (block_of c.in-Then.field-2.value)) c.in-Forever.is in
    let old = c.args.stack.now.frames.items in
    let put = old ++ Rest p.next ∷ [] in
    let has = (leads_at c.args.code.now c.args.at p _ _ rest c.requires.linked c.place_at-place.ensures runs).1 in
    let e = c.turns-in-Forever.ensures in
    let news = c.turns-in-Forever.new.stack in
    if_both c.turns-in-Forever.result _ _ _ (λ step begins frames.
    subst (λ z. Falls c.args.code.now (now_reach c.args.code.now c.args.stack.now (At c.args.at)) news z) (sym begins)
    (loop_steps c.args.code.now c.args.at p _ _ rest c.requires.linked c.place_at-place.ensures runs put old (lists_of c.args.stack.now) refl news.frames.items (Endless p.first) frames (λ r. omega (arith, ap (λ t. event_reach t.event) (sync_is c.args.code.now p.first _ _ _ _ has)))))
    e.begins e.frames

pub returns-in-Forever-clause-fits : goal.returns-in-Forever-clause-fits
returns-in-Forever-clause-fits c =
    let p = c.place_at-place.result.now in
    let rest = block_of c.in-Then.field-2.value in
    let runs = ap block_of (sym c.deref.ensures ∙ c.in-Then.is) ∙ ap (λ st. Runs (stmt_of st) c.in-Then.line (block_of c.in-Then.field-2.value)) c.in-Forever.is in
    let old = c.args.stack.now.frames.items in
    let put = old ++ Rest p.next ∷ [] in
    let has = (leads_at c.args.code.now c.args.at p _ _ rest c.requires.linked c.place_at-place.ensures runs).1 in
    let e = c.turns-in-Forever.ensures in
    let news = c.turns-in-Forever.new.stack in
    if_both c.turns-in-Forever.result _ _ _ (λ step begins frames.
    subst (λ z. StepFits c.args.code.now news z) (sym begins)
    (subst (λ l. FramesFit c.args.code.now news.frames.items l) (sym (lists_same news c.args.stack.now e.offers e.nacks))
    (frame_put c.args.code.now news.frames.items put (Endless p.first) (lists_of c.args.stack.now) frames (has_sync c.args.code.now p.first _ _ _ _ has, branch_fits c.args.code.now c.args.at p _ _ rest c.requires.linked c.place_at-place.ensures runs put old (lists_of c.args.stack.now) refl c.requires.fits.1))))
    e.begins e.frames

pub returns-in_ok-spawn-in-Spawn-clause-does : goal.returns-in_ok-spawn-in-Spawn-clause-does
returns-in_ok-spawn-in-Spawn-clause-does c = λ rs.
    let p = c.place_at-place.result.now in
    let rest = block_of c.in-Then.field-2.value in
    let runs = ap block_of (sym c.deref.ensures ∙ c.in-Then.is) ∙ ap (λ st. Runs (stmt_of st) c.in-Then.line (block_of c.in-Then.field-2.value)) c.in-Spawn.is in
    step_does c.args.code.now c.args.at p _ _ rest c.requires.linked c.place_at-place.ensures runs (state_of c.args.memory.now rs) (state_of c.spawn.new.self rs)
    (frames_on c.args.code.now c.args.stack.now.frames.items (lists_of c.args.stack.now)) (ap Goes (sym (c.in_ok-spawn-in-Spawn.ensures.does rs)))

pub returns-in_ok-spawn-in-Spawn-clause-fits : goal.returns-in_ok-spawn-in-Spawn-clause-fits
returns-in_ok-spawn-in-Spawn-clause-fits c =
    let p = c.place_at-place.result.now in
    let rest = block_of c.in-Then.field-2.value in
    let runs = ap block_of (sym c.deref.ensures ∙ c.in-Then.is) ∙ ap (λ st. Runs (stmt_of st) c.in-Then.line (block_of c.in-Then.field-2.value)) c.in-Spawn.is in
    (next_there c.args.code.now c.args.at p _ _ rest c.requires.linked c.place_at-place.ensures runs, c.requires.fits.1)
