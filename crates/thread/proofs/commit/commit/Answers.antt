use Rattle.std.proofs.Common.{◌∙◌, [], Ok, sym, ap, ap₂, subst₂}
use Rattle.script_tree.specs.Lined.{event_of}
use Rattle.thread.specs.Standing.{◌>>=◌, run_block}
use Rattle.thread.specs.Passages.{Passes}
use Rattle.thread.specs.Passing.{pass}
use Rattle.thread.specs.Stacks.{frames_on, lists_of, others, place_block, state_of}
use Rattle.thread.proofs.Committing.{comes_through, commit_does}
use Rattle.thread.proofs.commit.commit.Goals as goal

pub unreachable-requires : goal.unreachable-requires
unreachable-requires c =
    let plan = c.plan_of-plan.result.now in
    let past = subst₂ (λ e p. Passes (event_of e) c.args.chosen c.args.message c.args.memory.now c.leave.new.memory (Ok p)) c.deref.ensures c.in-Ok-Past.field-0-is c.in-Ok-Past.ensures.does in
    comes_through c.args.code.now (lists_of c.args.stack.now) c.args.offered c.requires.fits.0 c.requires.fits.1.0 plan c.plan_of-plan.ensures c.args.chosen c.in-Ok-Past.field-0-0 c.args.message (state_of c.args.memory.now []) c.requires.there (past.1 [])

pub returns-in-Ok-clause-does : goal.returns-in-Ok-clause-does
returns-in-Ok-clause-does c = λ rs.
    let plan = c.plan_of-plan.result.now in
    let s = state_of c.args.memory.now rs in
    let through = subst₂ (λ e p. Passes (event_of e) c.args.chosen c.args.message c.args.memory.now c.leave.new.memory (Ok p)) c.deref.ensures (c.in-Ok-Through.field-0-is) c.in-Ok-Through.ensures.does in
    let lists = ap₂ (λ os ns. frames_on c.args.code.now c.args.stack.now.frames.items (record { offers = os; nacks = ns })) c.truncate.ensures.items c.truncate-2.ensures.items in
    ap (λ k. run_block (place_block c.args.code.now plan.then) (state_of c.set_names.new.self rs) >>= k) lists
    ∙ sym (ap (λ x. x >>= frames_on c.args.code.now c.args.stack.now.frames.items (others c.args.offered (lists_of c.args.stack.now)))
    (commit_does c.args.code.now (lists_of c.args.stack.now) c.args.offered c.requires.fits.0 c.requires.fits.1.0 plan c.plan_of-plan.ensures c.args.chosen c.args.message s _ (through rs)
    ∙ ap (λ x. x >>= run_block (place_block c.args.code.now plan.then)) (c.in-Ok.ensures.does rs)))

pub returns-in-Err-set_names-clause-does : goal.returns-in-Err-set_names-clause-does
returns-in-Err-set_names-clause-does c = λ rs.
    let plan = c.plan_of-plan.result.now in
    let s = state_of c.args.memory.now rs in
    let through = subst₂ (λ e p. Passes (event_of e) c.args.chosen c.args.message c.args.memory.now c.leave.new.memory (Ok p)) c.deref.ensures (c.in-Ok-Through.field-0-is) c.in-Ok-Through.ensures.does in
    sym (ap (λ x. x >>= frames_on c.args.code.now c.args.stack.now.frames.items (others c.args.offered (lists_of c.args.stack.now)))
    (commit_does c.args.code.now (lists_of c.args.stack.now) c.args.offered c.requires.fits.0 c.requires.fits.1.0 plan c.plan_of-plan.ensures c.args.chosen c.args.message s _ (through rs)
    ∙ ap (λ x. x >>= run_block (place_block c.args.code.now plan.then)) (c.in-Err-set_names.ensures.does rs)))

pub returns-in-Err-clause-does : goal.returns-in-Err-clause-does
returns-in-Err-clause-does c = λ rs.
    let plan = c.plan_of-plan.result.now in
    let s = state_of c.args.memory.now rs in
    let through = ap (λ e. pass (event_of e) c.args.chosen c.args.message s) (sym c.deref.ensures) ∙ c.in-Err.ensures.does rs in
    sym (ap (λ x. x >>= frames_on c.args.code.now c.args.stack.now.frames.items (others c.args.offered (lists_of c.args.stack.now)))
    (commit_does c.args.code.now (lists_of c.args.stack.now) c.args.offered c.requires.fits.0 c.requires.fits.1.0 plan c.plan_of-plan.ensures c.args.chosen c.args.message s _ through))
