use Rattle.std.proofs.Common.{ℕ, ◌++◌, List, Option, MatchOption, append-nil, refl, sym, ◌∙◌, subst}
use Rattle.protocol_values.specs.declared.Commit.{Commit}
use Rattle.journal_replay.specs.Reaching.{AreAfter}
use Rattle.journal_replay.specs.Searching.{Covers, NoneMay}
use Rattle.journal_replay.specs.Standing.{MayBe}
use Rattle.journal_replay.proofs.Lines.{commits-kept}
use Rattle.journal_replay.proofs.Replaying.{left-falls, maximal, reached-next, reached-order, reached-room, settles-next}
use Rattle.journal_replay.proofs.runs.settle.Goals as goal

pub loop-commit-init : goal.loop-commit-init
loop-commit-init c = record {
  reached = c.args.state.reached;
  covers = c.in_ok-open_offers.ensures;
  trees = refl;
  run = λ ps rows journal stands.
      subst (λ (cs : List Commit). AreAfter ps rows (journal ++ cs) c.args.state.threads) (sym c.new-added.ensures.items)
      (subst (λ (cs : List Commit). AreAfter ps rows cs c.args.state.threads) (sym (append-nil journal)) stands);
}

pub find-requires-clause-room : goal.find-requires-clause-room
find-requires-clause-room c = (reached-room c.loop-commit.threads c.loop-commit.invariant.reached).0

pub apply-requires-clause-order : goal.apply-requires-clause-order
apply-requires-clause-order c = reached-order c.loop-commit.threads c.loop-commit.invariant.reached

pub follow-requires-clause-few : goal.follow-requires-clause-few
follow-requires-clause-few c =
    let s = c.loop-commit.threads in
    let may : MayBe s.strands.items s.rows c.in-Some.commit = subst (λ (o : Option Commit). MatchOption o (NoneMay s.strands.items s.rows) (MayBe s.strands.items s.rows)) c.in-Some.is c.find.ensures.found in
    (reached-room c.apply.new.self (reached-next c.in-Some.commit s c.apply.new.self c.loop-commit.invariant.reached may c.in_ok-woke.ensures.strands c.apply.ensures.rows)).1

pub loop-commit-smaller : goal.loop-commit-smaller
loop-commit-smaller c =
    let s = c.loop-commit.threads in
    let may : MayBe s.strands.items s.rows c.in-Some.commit = subst (λ (o : Option Commit). MatchOption o (NoneMay s.strands.items s.rows) (MayBe s.strands.items s.rows)) c.in-Some.is c.find.ensures.found in
    left-falls c.in-Some.commit s c.apply.new.self c.loop-commit.invariant.reached may c.in_ok-woke.ensures.strands c.apply.ensures.rows

pub loop-commit-preserved : goal.loop-commit-preserved
loop-commit-preserved c =
    let s = c.loop-commit.threads in
    let t = c.apply.new.self in
    let may : MayBe s.strands.items s.rows c.in-Some.commit = subst (λ (o : Option Commit). MatchOption o (NoneMay s.strands.items s.rows) (MayBe s.strands.items s.rows)) c.in-Some.is c.find.ensures.found in
    record {
      covers = c.in_ok-follow.ensures s.strands.items c.in_ok-woke.ensures.quiet
          (subst (λ (n : ℕ). Covers s.strands.items n c.find.new.self) (sym c.apply.ensures.rows.0) c.find.ensures.covers);
      reached = reached-next c.in-Some.commit s t c.loop-commit.invariant.reached may c.in_ok-woke.ensures.strands c.apply.ensures.rows;
      trees = commits-kept _ _ _ c.in_ok-woke.ensures.strands ∙ c.loop-commit.invariant.trees;
      run = λ ps rows journal stands.
          subst (λ (cs : List Commit). AreAfter ps rows (journal ++ cs) t) (sym c.in_ok-push.ensures.items)
          (settles-next ps rows journal c.loop-commit.added.items c.in-Some.commit s t (c.loop-commit.invariant.run ps rows journal stands) may
          c.in_ok-woke.ensures.strands c.apply.ensures.rows);
    }

pub returns-clause-settles : goal.returns-clause-settles
returns-clause-settles c = λ ps rows journal stands.
    let s = c.loop-commit.threads in
    let now = c.loop-commit.invariant.run ps rows journal stands in
    let none : NoneMay s.strands.items s.rows = subst (λ (o : Option Commit). MatchOption o (NoneMay s.strands.items s.rows) (MayBe s.strands.items s.rows)) c.in_default.is c.find.ensures.found in
    (now, maximal ps rows (journal ++ c.loop-commit.added.items) s now none)
