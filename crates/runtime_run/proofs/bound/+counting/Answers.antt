use Rattle.std.proofs.Common.{rules, ◌≡◌, ◌+◌, ◌*◌, ◌≤◌, ℕ, arith, subst, sym}
use Rattle.std.proofs.Math.Nat.{mul-le-mul_left}
use Rattle.script_tree.specs.Trees.{block_of, event_of, events_of, stmt_of, turn_of}
use Rattle.script_tree.specs.declared.tree.Block.{Block as SeenBlock, the_lemmas}
use Rattle.script_tree.specs.declared.tree.Event.{Event as SeenEvent}
use Rattle.script_tree.specs.declared.tree.Events.{Events as SeenEvents}
use Rattle.script_tree.specs.declared.tree.LoopBody.{LoopBody as SeenTurn}
use Rattle.script_tree.specs.declared.tree.Stmt.{Stmt as SeenStmt}
use Rattle.runtime_run.specs.Syncs.{BlockSyncsAtMost, EventSyncsAtMost, MembersSyncAtMost, StmtSyncsAtMost, TurnSyncsAtMost}
use Rattle.runtime_run.proofs.Syncs.{block_runs, block_stops, event_chooses, members_more, members_none, stmt_loops, stmt_syncs, turn_syncs}
use Rattle.runtime_run.proofs.bound.+counting.Goals as goal

pub block_syncs-loop-rest-preserved : goal.block_syncs-loop-rest-preserved
block_syncs-loop-rest-preserved t c = record {
  size = search (rules, the_lemmas);
  counted = λ k low left.
      let first = c.statement_syncs.result in
      let behind = c.in-Then.behind.value in
      let sum = c.saturating_add-count.ensures in
      let rest : BlockSyncsAtMost k (block_of behind) = subst (λ (b : SeenBlock). BlockSyncsAtMost k (block_of b)) c.deref-rest.ensures left in
      let both : BlockSyncsAtMost (first + k) (block_of c.loop-rest.rest.now) =
      subst (λ (b : SeenBlock). BlockSyncsAtMost (first + k) (block_of b)) (sym c.in-Then.is)
      (block_runs first k (stmt_of c.in-Then.statement) (block_of behind) (c.statement_syncs.ensures (omega (arith, low, sum))) rest) in
      let same : c.loop-rest.count + (first + k) ≡ c.saturating_add-count.result + k = omega (arith, low, sum) in
      subst (λ (n : ℕ). BlockSyncsAtMost n (block_of c.args.block.now)) same (c.loop-rest.invariant.counted (first + k) (omega (arith, low, sum)) both);
}

pub block_syncs-returns : goal.block_syncs-returns
block_syncs-returns t c low =
    let same : c.loop-rest.count + 0 ≡ c.loop-rest.count = omega arith in
    let none : BlockSyncsAtMost 0 (block_of c.loop-rest.rest.now) = subst (λ (b : SeenBlock). BlockSyncsAtMost 0 (block_of b)) (sym c.in_default.is) block_stops in
    subst (λ (n : ℕ). BlockSyncsAtMost n (block_of c.args.block.now)) same (c.loop-rest.invariant.counted 0 low none)

pub event_syncs-loop-rest-preserved : goal.event_syncs-loop-rest-preserved
event_syncs-loop-rest-preserved t c = record {
  size = search (rules, the_lemmas);
  counted = λ k low left.
      let first = c.event_syncs.result in
      let others = c.in-More.others.value in
      let sum = c.saturating_add-count.ensures in
      let member : EventSyncsAtMost first (event_of c.in-More.member.value) = subst (λ (e : SeenEvent). EventSyncsAtMost first (event_of e)) c.deref.ensures (c.event_syncs.ensures (omega (arith, low, sum))) in
      let rest : MembersSyncAtMost k (events_of others) = subst (λ (es : SeenEvents). MembersSyncAtMost k (events_of es)) c.deref-rest-in-More.ensures left in
      let both : MembersSyncAtMost (first + k) (events_of c.loop-rest.rest.now) =
      subst (λ (es : SeenEvents). MembersSyncAtMost (first + k) (events_of es)) (sym c.in-More.is)
      (members_more first k (event_of c.in-More.member.value) (events_of others) member rest) in
      let same : c.loop-rest.count + (first + k) ≡ c.saturating_add-count.result + k = omega (arith, low, sum) in
      subst (λ (n : ℕ). EventSyncsAtMost n (event_of c.args.event.now)) same (c.loop-rest.invariant.counted (first + k) (omega (arith, low, sum)) both);
}

pub event_syncs-returns-in_default : goal.event_syncs-returns-in_default
event_syncs-returns-in_default t c low =
    let same : c.loop-rest.count + 0 ≡ c.loop-rest.count = omega arith in
    let none : MembersSyncAtMost 0 (events_of c.loop-rest.rest.now) = subst (λ (es : SeenEvents). MembersSyncAtMost 0 (events_of es)) (sym c.in_default.is) members_none in
    subst (λ (n : ℕ). EventSyncsAtMost n (event_of c.args.event.now)) same (c.loop-rest.invariant.counted 0 low none)

pub event_syncs-loop-rest-init : goal.event_syncs-loop-rest-init
event_syncs-loop-rest-init t c = record {
  size = search (rules, the_lemmas);
  counted = λ k low left.
      let same : k ≡ 0 + k = omega arith in
      subst (λ (z : ℕ × SeenEvent). EventSyncsAtMost z.0 (event_of z.1)) (λ i. (same i, sym c.in-Choose.is i))
      (event_chooses k (events_of c.in-Choose.members.value) (subst (λ (es : SeenEvents). MembersSyncAtMost k (events_of es)) c.deref-rest.ensures left));
}

pub statement_syncs-returns-in-Sync : goal.statement_syncs-returns-in-Sync
statement_syncs-returns-in-Sync t c low =
    let bodies = c.event_syncs.result in
    let sum = c.saturating_add.ensures in
    let event : EventSyncsAtMost bodies (event_of c.in-Sync.event.value) = subst (λ (e : SeenEvent). EventSyncsAtMost bodies (event_of e)) c.deref.ensures (c.event_syncs.ensures (omega (arith, low, sum))) in
    let same : 1 + bodies ≡ c.saturating_add.result = omega (arith, low, sum) in
    subst (λ (z : ℕ × SeenStmt). StmtSyncsAtMost z.0 (stmt_of z.1)) (λ i. (same i, sym c.in-Sync.is i)) (stmt_syncs bodies _ (event_of c.in-Sync.event.value) event)

pub statement_syncs-returns-in-Loop : goal.statement_syncs-returns-in-Loop
statement_syncs-returns-in-Loop t c low =
    let one = c.turn_syncs.result in
    let times = c.in-Loop.times in
    let turn = c.in-Loop.turn.value in
    let product = c.saturating_mul.ensures in
    let same : one * times ≡ c.saturating_mul.result = omega (arith, low, product) in
    let each : 1 ≤ times → TurnSyncsAtMost one (turn_of turn) =
    λ some. subst (λ (l : SeenTurn). TurnSyncsAtMost one (turn_of l)) c.deref-in-Loop.ensures (c.turn_syncs.ensures (let more = mul-le-mul_left one some in omega (arith, low, same, more))) in
    subst (λ (z : ℕ × SeenStmt). StmtSyncsAtMost z.0 (stmt_of z.1)) (λ i. (same i, sym c.in-Loop.is i)) (stmt_loops one times (turn_of turn) each)

pub turn_syncs-returns : goal.turn_syncs-returns
turn_syncs-returns t c low =
    let bodies = c.event_syncs.result in
    let behind = c.block_syncs.result in
    let one = c.saturating_add.ensures in
    let sum = c.saturating_add-2.ensures in
    let event : EventSyncsAtMost bodies (turn_of c.args.turn.now).event = subst (λ (e : SeenEvent). EventSyncsAtMost bodies (event_of e)) c.deref.ensures (c.event_syncs.ensures (omega (arith, low, one, sum))) in
    let rest : BlockSyncsAtMost behind (turn_of c.args.turn.now).rest = subst (λ (b : SeenBlock). BlockSyncsAtMost behind (block_of b)) c.deref-2.ensures (c.block_syncs.ensures (omega (arith, low, one, sum))) in
    let same : 1 + bodies + behind ≡ c.saturating_add-2.result = omega (arith, low, one, sum) in
    subst (λ (n : ℕ). TurnSyncsAtMost n (turn_of c.args.turn.now)) same (turn_syncs bodies behind (turn_of c.args.turn.now) event rest)
