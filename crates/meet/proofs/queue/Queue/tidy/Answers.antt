use Rattle.std.proofs.Common.{rules, ◌+◌, ap, set}
use Rattle.meet.specs.declared.queue.Queue.TheInside.{Inside}
use Rattle.meet_scan.proofs.Growing.{grows_then, saw_more}
use Rattle.meet_scan.proofs.Making.{looks_then}
use Rattle.meet.proofs.Tidying.{cleans_at, cleans_gone, cleans_kept}
use Rattle.meet.proofs.queue.Queue.tidy.Goals as goal
use Rattle.meet.proofs.queue.Queue.tidy.Goals.{then-not-saw_committed, else-not-saw_committed}

pub loop-at-preserved : goal.loop-at-preserved
loop-at-preserved g c =
    let g = c.args.cells.now in
    let s = c.args.pass.now.seen in
    let t = c.loop-at.pass.seen in
    let u = c.saw_committed.new.pass.seen in
    let es = c.args.self.now in
    let now = c.loop-at.self-inside.entries.items in
    let entry = c.index-entry.result.now in
    let here = c.saw_committed.ensures.here in
    let grows = grows_then s t u c.loop-at.invariant.1 c.saw_committed.ensures.grows in
    let looks = looks_then c.args.pass.now c.loop-at.pass c.saw_committed.new.pass c.loop-at.invariant.3 c.saw_committed.ensures.looks in
    elim c.if-not-saw_committed.branch [
      | then-not-saw_committed w ↦ (
        here,
        grows,
        cleans_at g s u es (set now c.loop-at.kept entry) c.if-not-saw_committed.self-inside.entries.items (c.loop-at.at + 1) (c.loop-at.kept + 1) c.if-not-saw_committed.kept
            (ap (λ (i : Inside). i.entries.items) w.self-inside-is) w.kept-is
            (cleans_kept g s t u es now c.loop-at.at c.loop-at.kept entry c.loop-at.invariant.2 c.saw_committed.ensures.grows (search rules) c.index-entry.ensures
            (λ r h. w.if-not-saw_committed.ensures.committed r (saw_more s t entry.0 c.loop-at.invariant.1 h))),
        looks,
      )
      | else-not-saw_committed w ↦ (
        here,
        grows,
        cleans_at g s u es now c.if-not-saw_committed.self-inside.entries.items (c.loop-at.at + 1) c.loop-at.kept c.if-not-saw_committed.kept
            (ap (λ (i : Inside). i.entries.items) w.self-inside-is) w.kept-is
            (cleans_gone g s t u es now c.loop-at.at c.loop-at.kept entry c.loop-at.invariant.2 c.saw_committed.ensures.grows (search rules) c.index-entry.ensures
            w.if-not-saw_committed.ensures.committed),
        looks,
      )
    ]
