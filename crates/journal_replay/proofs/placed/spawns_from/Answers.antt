use Rattle.std.proofs.Common.{◌≡◌, ◌∙◌, ◌<◌, ap, arith, rules, sym, ⊎_elim}
use Rattle.std.proofs.lemmas.Bool.{cases_lt, eq-eqb, false≢true, ne_eqb}
use Rattle.script_tree.specs.Processes.{known_in, proc_of}
use Rattle.script_tree.specs.Spawning.{has_bit, spawns_block}
use Rattle.script_tree.specs.Trees.{block_of}
use Rattle.journal_replay.proofs.Placing.{block_inside}
use Rattle.journal_replay.proofs.placed.spawns_from.Goals as goal

pub loop-thread-init : goal.loop-thread-init
loop-thread-init c = λ t from below. absurd (omega (arith, from, below))

pub loop-thread-preserved : goal.loop-thread-preserved
loop-thread-preserved c = λ t from below. ⊎_elim (λ before. c.loop-thread.invariant t from before)
    (λ over. ap (has_bit c.spawned-mask.result) (omega (arith, over, below)) ∙ ne_eqb _ 1 c.if-mask-thread-eq1.false) (cases_lt t c.loop-thread.thread)

pub returns-then-mask-thread-eq1 : goal.returns-then-mask-thread-eq1
returns-then-mask-thread-eq1 c =
    let t = c.loop-thread.thread in
    let body : block_of c.deref.result.now ≡ (proc_of c.args.process.now).body = ap block_of c.deref.ensures ∙ c.body.ensures.value in
    (λ yes. (t, c.loop-thread.auto.thread, sym (c.spawned-mask.ensures t c.loop-thread-test.true ∙ ap (spawns_block t) body) ∙ eq-eqb _ 1 c.if-mask-thread-eq1.true), λ some. search rules)

pub returns : goal.returns
returns c =
    let process = proc_of c.args.process.now in
    let body : block_of c.deref.result.now ≡ process.body = ap block_of c.deref.ensures ∙ c.body.ensures.value in (
      λ yes. absurd (false≢true yes),
      λ some.
          let t = some.0 in
          let inside = block_inside (known_in process) t process.body c.body.ensures.limits.names some.2 in
          let low : t < 64 = (let place = c.body.ensures.place in omega (arith, inside, place)) in
          let none = c.loop-thread.invariant t some.1 (let over = c.loop-thread-test.false in omega (arith, low, over)) in
          absurd (false≢true (sym none ∙ c.spawned-mask.ensures t low ∙ ap (spawns_block t) body ∙ some.2)),
    )
