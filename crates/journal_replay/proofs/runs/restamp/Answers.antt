use Rattle.std.proofs.Common.{◌+◌, List, map, take, sym, subst}
use Rattle.script_tree.specs.Processes.{proc_of}
use Rattle.protocol_values.specs.declared.Commit.{Commit}
use Rattle.journal_replay.specs.Reaching.{AreAfter}
use Rattle.journal_replay.specs.Stamping.{AreRestamped}
use Rattle.journal_replay.proofs.Replaying.{after-order, after-room, stands-next}
use Rattle.journal_replay.proofs.Stamping.{never-stops, restamped-more}
use Rattle.journal_replay.proofs.runs.restamp.Goals as goal

pub stamped-requires : goal.stamped-requires
stamped-requires c = (after-room _ _ _ c.loop-index.threads c.loop-index.invariant.stands).0

pub unreachable-requires : goal.unreachable-requires
unreachable-requires c =
    never-stops (map proc_of c.args.processes.now) c.args.rows c.args.commits.now c.loop-index.run.items c.loop-index.index _ c.loop-index.threads c.requires.legal
    c.loop-index.invariant.stands c.loop-index.invariant.same c.loop-index-test.true c.in_default.ensures

pub apply-requires-clause-order : goal.apply-requires-clause-order
apply-requires-clause-order c = after-order _ _ _ c.loop-index.threads c.loop-index.invariant.stands

pub loop-index-preserved : goal.loop-index-preserved
loop-index-preserved c = record {
  stands = subst (λ (cs : List Commit). AreAfter (map proc_of c.args.processes.now) c.args.rows cs c.apply.new.self) (sym c.in_ok-push.ensures.items)
      (stands-next (map proc_of c.args.processes.now) c.args.rows c.loop-index.run.items c.in-Some.next c.loop-index.threads c.apply.new.self c.loop-index.invariant.stands
      c.in-Some.ensures.0 c.in_ok-apply.ensures.strands c.apply.ensures.rows);
  same = subst (AreRestamped (take (c.loop-index.index + 1) c.args.commits.now)) (sym c.in_ok-push.ensures.items)
      (restamped-more c.args.commits.now c.loop-index.run.items c.loop-index.index _ c.in-Some.next c.loop-index.invariant.same c.loop-index-test.true c.in-Some.ensures.1);
}
