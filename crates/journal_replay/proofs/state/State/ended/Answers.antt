use Rattle.std.proofs.Common.{Option, ℕ, subst, sym}
use Rattle.journal_replay.specs.Replays.{TellsEnded}
use Rattle.journal_replay.proofs.Nacks.{tells-ended}
use Rattle.journal_replay.proofs.state.State.ended.Goals as goal

pub returns : goal.returns
returns c = record {
  value = c.ended.ensures;
  told = subst (λ (known : Option ℕ). TellsEnded c.args.self.now c.args.thread known) (sym c.ended.ensures) (tells-ended c.args.self.now c.args.thread);
}
