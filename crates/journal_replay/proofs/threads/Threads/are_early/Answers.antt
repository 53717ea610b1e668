use Rattle.std.proofs.Common.{subst, arith, ⊎_elim}
use Rattle.std.proofs.lemmas.Bool.{both_ways, cases_eq, false≢true}
use Rattle.std.proofs.lemmas.Option.{slice_get_within}
use Rattle.journal_replay.specs.Gathering.{IsEarly}
use Rattle.journal_replay.proofs.threads.Threads.are_early.Goals as goal

pub loop-thread-init : goal.loop-thread-init
loop-thread-init c = λ t lt early. absurd (omega (arith, lt))

pub loop-thread-preserved : goal.loop-thread-preserved
loop-thread-preserved c = λ t lt early. ⊎_elim
    (λ e. both_ways _ c.if-is_early.false (c.is_early.ensures.1 (subst (IsEarly c.args.self.now.strands.items) e early)))
    (λ ne. c.loop-thread.invariant t (omega (arith, lt, ne)) early)
    (cases_eq t c.loop-thread.thread)

pub returns : goal.returns
returns c = (
  λ e. absurd (false≢true e),
  λ w.
      let within = slice_get_within c.args.self.now.strands.items w.0 w.1.strand w.1.is_its in
      absurd (c.loop-thread.invariant w.0 (omega (arith, within, c.loop-thread-test.false, c.len-thread-end.ensures, c.args.self.now.strands.ok)) w.1),
)
