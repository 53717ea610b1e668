use Rattle.std.proofs.Common.{◌∙◌, sym, ap}
use Rattle.script_tree.specs.Lined.{Runs, block_of, stmt_of}
use Rattle.thread.specs.Stacks.{frames_on, lists_of, state_of}
use Rattle.thread.proofs.Statements.{next_there, sync_does, sync_falls, sync_fits}
use Rattle.thread.proofs.statement.run.Goals as goal

pub returns-in-Ok-clause-fits : goal.returns-in-Ok-clause-fits
returns-in-Ok-clause-fits c =
    let p = c.place_at-place.result.now in
    let rest = block_of c.in-Then.field-2.value in
    let runs = ap block_of (sym c.deref.ensures ∙ c.in-Then.is) ∙ ap (λ st. Runs (stmt_of st) c.in-Then.line (block_of c.in-Then.field-2.value)) c.in-Let.is in
    (next_there c.args.code.now c.args.at p _ _ rest c.requires.linked c.place_at-place.ensures runs, c.requires.fits.1)

pub returns-in-Sync-clause-does : goal.returns-in-Sync-clause-does
returns-in-Sync-clause-does c = λ rs.
    let p = c.place_at-place.result.now in
    let rest = block_of c.in-Then.field-2.value in
    let runs = ap block_of (sym c.deref.ensures ∙ c.in-Then.is) ∙ ap (λ st. Runs (stmt_of st) c.in-Then.line (block_of c.in-Then.field-2.value)) c.in-Sync.is in
    sync_does c.args.code.now c.args.at p _ _ _ rest c.requires.linked c.place_at-place.ensures runs (lists_of c.args.stack.now) c.offered.result c.offered.ensures (frames_on c.args.code.now c.args.stack.now.frames.items) (state_of c.args.memory.now rs)

pub returns-in-Sync-clause-falls : goal.returns-in-Sync-clause-falls
returns-in-Sync-clause-falls c =
    let p = c.place_at-place.result.now in
    let rest = block_of c.in-Then.field-2.value in
    let runs = ap block_of (sym c.deref.ensures ∙ c.in-Then.is) ∙ ap (λ st. Runs (stmt_of st) c.in-Then.line (block_of c.in-Then.field-2.value)) c.in-Sync.is in
    sync_falls c.args.code.now c.args.at p _ _ _ rest c.requires.linked c.place_at-place.ensures runs (lists_of c.args.stack.now) c.offered.result c.offered.ensures _

pub returns-in-Sync-clause-fits : goal.returns-in-Sync-clause-fits
returns-in-Sync-clause-fits c =
    let p = c.place_at-place.result.now in
    let rest = block_of c.in-Then.field-2.value in
    let runs = ap block_of (sym c.deref.ensures ∙ c.in-Then.is) ∙ ap (λ st. Runs (stmt_of st) c.in-Then.line (block_of c.in-Then.field-2.value)) c.in-Sync.is in
    sync_fits c.args.code.now c.args.at p _ _ _ rest c.requires.linked c.place_at-place.ensures runs (lists_of c.args.stack.now) c.offered.result c.offered.ensures c.args.stack.now.frames.items c.requires.fits.1
