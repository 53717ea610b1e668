use Rattle.std.proofs.Common.{rules, ◌≡◌, ◌||◌, sym, subst, ap, ◌∙◌}
use Rattle.script_tree.specs.declared.tree.Block.{the_lemmas}
use Rattle.script_tree.specs.Spawning.{has_bit, spawns_block, spawns_event, spawns_members, spawns_stmt}
use Rattle.script_tree.specs.Trees.{Members, Runs, block_of, event_of, events_of, stmt_of}
use Rattle.script_tree.proofs.Masks.{has_both, has_more, has_one}
use Rattle.script_tree.proofs.spawning.+spawning.Goals as goal

pub spawned-loop-rest-preserved : goal.spawned-loop-rest-preserved
spawned-loop-rest-preserved t c =
    let stmt = stmt_of c.in-Then.stmt in
    let is = ap block_of c.in-Then.is ∙ ap (λ b. Runs stmt (block_of b)) (sym c.deref-rest.ensures) in
    record {
      size = search (rules, the_lemmas);
      bits = λ p low.
          has_more c.loop-rest.mask c.spawned_by-mask.result p (spawns_stmt p stmt) (spawns_block p (block_of c.deref-rest.result.now)) _ (c.spawned_by-mask.ensures p low)
          (subst (λ b. (has_bit c.loop-rest.mask p || spawns_block p b) ≡ spawns_block p (block_of c.args.block.now)) is (c.loop-rest.invariant.bits p low));
    }

pub spawned_by-returns-in-Spawn : goal.spawned_by-returns-in-Spawn
spawned_by-returns-in-Spawn t c = λ p low.
    has_one c.in-Spawn.process p c.if-process-lt64.true ∙ sym (ap (λ s. spawns_stmt p (stmt_of s)) c.in-Spawn.is)

pub spawned_by-returns-in-If : goal.spawned_by-returns-in-If
spawned_by-returns-in-If t c = λ p low.
    has_both c.spawned.result c.spawned-in-If.result p _ _
    (c.spawned.ensures p low ∙ ap (λ b. spawns_block p (block_of b)) c.deref-in-If.ensures)
    (c.spawned-in-If.ensures p low ∙ ap (λ b. spawns_block p (block_of b)) c.deref-in-If-2.ensures)
    ∙ sym (ap (λ s. spawns_stmt p (stmt_of s)) c.in-If.is)

pub spawned_in_turn-returns : goal.spawned_in_turn-returns
spawned_in_turn-returns t c = λ p low.
    has_both c.spawned_within.result c.spawned.result p _ _
    (c.spawned_within.ensures p low ∙ ap (λ e. spawns_event p (event_of e)) c.deref.ensures)
    (c.spawned.ensures p low ∙ ap (λ b. spawns_block p (block_of b)) c.deref-2.ensures)

pub spawned_within-loop-rest-preserved : goal.spawned_within-loop-rest-preserved
spawned_within-loop-rest-preserved t c =
    let member = event_of c.deref.result.now in
    let is = ap events_of c.in-More.is ∙ (λ i. Members (event_of (sym c.deref.ensures i)) (events_of (sym c.deref-rest-in-More.ensures i))) in
    record {
      size = search (rules, the_lemmas);
      bits = λ p low.
          has_more c.loop-rest.mask c.spawned_within-mask.result p (spawns_event p member) (spawns_members p (events_of c.deref-rest-in-More.result.now)) _ (c.spawned_within-mask.ensures p low)
          (subst (λ es. (has_bit c.loop-rest.mask p || spawns_members p es) ≡ spawns_event p (event_of c.args.event.now)) is (c.loop-rest.invariant.bits p low));
    }

pub spawned_within-returns-in-Guard : goal.spawned_within-returns-in-Guard
spawned_within-returns-in-Guard t c = λ p low.
    has_both c.spawned.result c.spawned_within-in-Guard.result p _ _
    (c.spawned.ensures p low ∙ ap (λ b. spawns_block p (block_of b)) c.deref-in-Guard.ensures)
    (c.spawned_within-in-Guard.ensures p low ∙ ap (λ e. spawns_event p (event_of e)) c.deref-in-Guard-2.ensures)
    ∙ sym (ap (λ e. spawns_event p (event_of e)) c.in-Guard.is)

pub spawned_within-returns-in-Nack : goal.spawned_within-returns-in-Nack
spawned_within-returns-in-Nack t c = λ p low.
    has_both c.spawned-in-Nack.result c.spawned_within-in-Nack.result p _ _
    (c.spawned-in-Nack.ensures p low ∙ ap (λ b. spawns_block p (block_of b)) c.deref-in-Nack.ensures)
    (c.spawned_within-in-Nack.ensures p low ∙ ap (λ e. spawns_event p (event_of e)) c.deref-in-Nack-2.ensures)
    ∙ sym (ap (λ e. spawns_event p (event_of e)) c.in-Nack.is)
