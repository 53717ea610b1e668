use Rattle.std.proofs.Common.{◌<◌, ◌≤◌, ◌+◌, ◌-◌, ◌∙◌, ℕ, Contains, Global, List, Vec, ap, refl, subst, sym}
use Rattle.runtime_worker.specs.Machines.{AreToBegin}
use Rattle.runtime_worker.proofs.Beginnings.{is_listed, listed_more, listed_yet}
use Rattle.runtime_worker.proofs.crew.Crew.begin_all.Goals as goal
use Rattle.runtime_worker.proofs.crew.Crew.begin_all.Goals.{then-holds+then-has+in_ok-push, else-holds}

pub loop-behind-preserved : goal.loop-behind-preserved
loop-behind-preserved g c =
    let cells = c.args.self.now.cells.now in
    let threads = c.args.self.now.threads in
    let behind = c.loop-behind.behind in
    let before = c.loop-behind.threads.items in
    let inv = c.loop-behind.invariant in
    let pass = c.args.worker.now.pass in
    let Listed = λ (l : List ℕ). AreToBegin cells.threads pass.seen l × ((t : ℕ) → Contains l t → (t < threads) × (threads ≤ t + (behind + 1))) in
    let listed : Listed c.if-holds.threads.items = elim c.if-holds.branch [
      | then-holds+then-has+in_ok-push w ↦
          let holds = c.holds.ensures.0 w.if-holds.true in
          let row = w.has.ensures.0 w.if-has.true in
          subst Listed (sym (ap (λ (v : Vec ℕ Global). v.items) w.threads-is ∙ w.in_ok-push.ensures.items))
          (listed_more cells.threads threads behind pass.seen before c.loop-behind-test.true inv.2 inv.3 (is_listed cells pass (threads - 1 - behind) c.requires.here.0 c.requires.here.3 row holds c.requires.untouched))
      | else-holds w ↦ subst Listed (sym (ap (λ (v : Vec ℕ Global). v.items) w.threads-is)) (inv.2, listed_yet threads behind before inv.3)
    ] in
    (inv.0, refl, listed.0, listed.1)
