use Rattle.std.proofs.Common.{◌≡◌, ◌+◌, ◌-◌, List, [], ◌∷◌, ◌++◌, map, length, Ok, false, sym, ap, ◌∙◌, arith}
use Rattle.script_tree.specs.declared.tree.Event.{Event as SeenEvent}
use Rattle.script_reader.specs.Steps.{bare, here, repeated, next_is}
use Rattle.script_tree.specs.Trees.{Event, Stmt, event_of, stmt_of}
use Rattle.script_reader.specs.Blocks.{event_at, stmt_at, members_with, stmts_with, member_step, stmt_step}
use Rattle.script_token.specs.declared.kind.Symbol.TheVariants.{CloseBracket}
use Rattle.script_reader.specs.declared.fault.Stop.TheVariants.{At}
use Rattle.script_reader.proofs.Fronts.{length_bare}
use Rattle.script_reader.proofs.Giving.{gives_err, fails_same, fails_bind, repeated_step, repeated_none, repeated_all, goes_on, map_more}
use Rattle.script_reader.proofs.Blocking.{SoFar, member_step-some, member_step-none, member_next-ok, member_next-no_room, member_next-no_event, stmt_step-some, stmt_step-none, stmt_next-ok, stmt_next-fails}
use Rattle.script_reader.proofs.process.+reading.Goals as goal

pub members-loop-turn-init : goal.members-loop-turn-init
unfolding members_with
members-loop-turn-init t c =
    let h = here c.args.scope.now in
    let ts = bare c.args.tokens.now in
    let event = event_at c.args.nesting in
    let step = member_step event c.args.nesting in
    let opens : next_is CloseBracket ts ≡ false = sym c.if-is_next.ensures in
    let items : map event_of c.push.new.self.items ≡ event_of c.in_ok-event.event ∷ [] =
    map_more event_of c.new-events.result.items c.push.new.self.items c.in_ok-event.event c.in_ok-push.ensures.items ∙ ap (λ (es : List SeenEvent). map event_of es ++ event_of c.in_ok-event.event ∷ []) c.new-events.ensures.items in
    let first : event h ts ≡ Ok (event_of c.in_ok-event.event, here c.read_event.new.scope, bare c.in_ok-event.rest.now) = c.in_ok-event.ensures in
    let none : length ts - 0 ≡ length ts = omega arith in
    rw (opens, first, none) (ap (λ (es : List Event). repeated step (length ts) (es, here c.read_event.new.scope, bare c.in_ok-event.rest.now)) items)

pub members-loop-turn-preserved : goal.members-loop-turn-preserved
members-loop-turn-preserved t c =
    let nesting = c.args.nesting in
    let event = event_at nesting in
    let step = member_step event nesting in
    let s : SoFar Event = (map event_of c.loop-turn.events.items, here c.loop-turn.scope, bare c.loop-turn.rest.now) in
    let whole = repeated_step step (length (bare c.args.tokens.now)) c.loop-turn._turn s _ _ (omega (arith, length_bare c.args.tokens.now, c.loop-turn-test.true)) (member_step-some event nesting s c.if-not-is_next.ensures) c.loop-turn.invariant in
    let done = member_next-ok event nesting s (bare c.in_ok-after.after.now) (event_of c.in_ok-event-2.event, here c.read_event-in-loop-turn.new.scope, bare c.in_ok-event-2.after.now) c.in_ok-after.ensures.value c.in_ok-event-2.ensures in
    let items = map_more event_of c.loop-turn.events.items c.push-in-loop-turn.new.self.items c.in_ok-event-2.event c.in_ok-push-2.ensures.items in
    let left = length (bare c.args.tokens.now) - (c.loop-turn._turn + 1) in
    ap (λ (es : List Event). repeated step left (es, here c.read_event-in-loop-turn.new.scope, bare c.in_ok-event-2.after.now)) items ∙ goes_on step left _ _ _ done whole

pub members-returns-then-not-is_next : goal.members-returns-then-not-is_next
members-returns-then-not-is_next t c =
    let nesting = c.args.nesting in
    let event = event_at nesting in
    let s : SoFar Event = (map event_of c.loop-turn.events.items, here c.loop-turn.scope, bare c.loop-turn.rest.now) in
    repeated_none (member_step event nesting) (length (bare c.args.tokens.now) - c.loop-turn._turn) s _ (member_step-none event nesting s c.if-not-is_next.ensures) c.loop-turn.invariant

pub members-returns-in_err-after : goal.members-returns-in_err-after
members-returns-in_err-after t c =
    let nesting = c.args.nesting in
    let event = event_at nesting in
    let e = At c.in_err-after.field-0.0 in
    let s : SoFar Event = (map event_of c.loop-turn.events.items, here c.loop-turn.scope, bare c.loop-turn.rest.now) in
    let whole = repeated_step (member_step event nesting) (length (bare c.args.tokens.now)) c.loop-turn._turn s _ _ (omega (arith, length_bare c.args.tokens.now, c.loop-turn-test.true)) (member_step-some event nesting s c.if-not-is_next.ensures) c.loop-turn.invariant in
    gives_err _ c.from_residual-in_err-after.result e _ c.from_residual-in_err-after.ensures.1 (fails_same e _ _ whole (fails_bind e _ _ (member_next-no_room event nesting s e c.in_err-after.ensures.value)))

pub members-returns-in_err-event-2 : goal.members-returns-in_err-event-2
members-returns-in_err-event-2 t c =
    let nesting = c.args.nesting in
    let event = event_at nesting in
    let e = c.in_err-event-2.field-0.0 in
    let s : SoFar Event = (map event_of c.loop-turn.events.items, here c.loop-turn.scope, bare c.loop-turn.rest.now) in
    let whole = repeated_step (member_step event nesting) (length (bare c.args.tokens.now)) c.loop-turn._turn s _ _ (omega (arith, length_bare c.args.tokens.now, c.loop-turn-test.true)) (member_step-some event nesting s c.if-not-is_next.ensures) c.loop-turn.invariant in
    gives_err _ c.from_residual-in_err-event-2.result e _ c.from_residual-in_err-event-2.ensures.1 (fails_same e _ _ whole (fails_bind e _ _ (member_next-no_event event nesting s (bare c.in_ok-after.after.now) e c.in_ok-after.ensures.value c.in_err-event-2.ensures)))

pub members-returns : goal.members-returns
members-returns t c =
    let nesting = c.args.nesting in
    let event = event_at nesting in
    let s : SoFar Event = (map event_of c.loop-turn.events.items, here c.loop-turn.scope, bare c.loop-turn.rest.now) in
    repeated_all (member_step event nesting) (length (bare c.args.tokens.now)) c.loop-turn._turn s _ (omega (arith, length_bare c.args.tokens.now, c.loop-turn-test.false)) c.loop-turn.invariant

pub statements-loop-turn-init : goal.statements-loop-turn-init
unfolding stmts_with
statements-loop-turn-init t c =
    let h = here c.args.scope.now in
    let step = stmt_step (stmt_at c.args.nesting) c.args.loops in
    let ts = bare c.args.tokens.now in
    let rest : bare c.begin-count.result.0.now ≡ ts = ap bare c.begin-count.ensures.rest in
    let none : length ts - 0 ≡ length ts = omega arith in
    record {
      same = rw (rest, none) (ap (λ (ss : List Stmt). repeated step (length ts) (ss, h, ts)) (ap (map stmt_of) c.new-stmts.ensures.items));
      count = c.begin-count.ensures.count;
    }

pub statements-loop-turn-preserved : goal.statements-loop-turn-preserved
statements-loop-turn-preserved t c =
    let stmt = stmt_at c.args.nesting in
    let place = c.args.loops in
    let step = stmt_step stmt place in
    let s : SoFar Stmt = (map stmt_of c.loop-turn.stmts.items, here c.loop-turn.scope, bare c.loop-turn.rest.now) in
    let whole = repeated_step step (length (bare c.args.tokens.now)) c.loop-turn._turn s _ _ (omega (arith, c.loop-turn.invariant.count, c.loop-turn-test.true)) (stmt_step-some stmt place s c.if-is_next.ensures) c.loop-turn.invariant.same in
    let done = stmt_next-ok stmt place s (stmt_of c.in_ok-stmt.stmt, here c.read_stmt.new.scope, bare c.in_ok-stmt.after.now) c.in_ok-stmt.ensures in
    let items = map_more stmt_of c.loop-turn.stmts.items c.push.new.self.items c.in_ok-stmt.stmt c.in_ok-push.ensures.items in
    let left = length (bare c.args.tokens.now) - (c.loop-turn._turn + 1) in
    record {
      same = ap (λ (ss : List Stmt). repeated step left (ss, here c.read_stmt.new.scope, bare c.in_ok-stmt.after.now)) items ∙ goes_on step left _ _ _ done whole;
      count = c.loop-turn.invariant.count;
    }

pub statements-returns-then-is_next : goal.statements-returns-then-is_next
statements-returns-then-is_next t c =
    let stmt = stmt_at c.args.nesting in
    let place = c.args.loops in
    let s : SoFar Stmt = (map stmt_of c.loop-turn.stmts.items, here c.loop-turn.scope, bare c.loop-turn.rest.now) in
    repeated_none (stmt_step stmt place) (length (bare c.args.tokens.now) - c.loop-turn._turn) s _ (stmt_step-none stmt place s c.if-is_next.ensures) c.loop-turn.invariant.same

pub statements-returns-in_err-stmt : goal.statements-returns-in_err-stmt
statements-returns-in_err-stmt t c =
    let stmt = stmt_at c.args.nesting in
    let place = c.args.loops in
    let e = c.in_err-stmt.field-0.0 in
    let s : SoFar Stmt = (map stmt_of c.loop-turn.stmts.items, here c.loop-turn.scope, bare c.loop-turn.rest.now) in
    let whole = repeated_step (stmt_step stmt place) (length (bare c.args.tokens.now)) c.loop-turn._turn s _ _ (omega (arith, c.loop-turn.invariant.count, c.loop-turn-test.true)) (stmt_step-some stmt place s c.if-is_next.ensures) c.loop-turn.invariant.same in
    gives_err _ c.from_residual.result e _ c.from_residual.ensures.1 (fails_same e _ _ whole (fails_bind e _ _ (stmt_next-fails stmt place s e c.in_err-stmt.ensures)))

pub statements-returns : goal.statements-returns
statements-returns t c =
    let stmt = stmt_at c.args.nesting in
    let place = c.args.loops in
    let s : SoFar Stmt = (map stmt_of c.loop-turn.stmts.items, here c.loop-turn.scope, bare c.loop-turn.rest.now) in
    repeated_all (stmt_step stmt place) (length (bare c.args.tokens.now)) c.loop-turn._turn s _ (omega (arith, c.loop-turn.invariant.count, c.loop-turn-test.false)) c.loop-turn.invariant.same
