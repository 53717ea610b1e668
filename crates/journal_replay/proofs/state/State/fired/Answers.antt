use Rattle.std.proofs.Common.{Option, ℕ, subst, sym}
use Rattle.journal_replay.specs.Replays.{TellsFired}
use Rattle.journal_replay.proofs.Nacks.{tells-fired}
use Rattle.journal_replay.proofs.state.State.fired.Goals as goal

pub returns : goal.returns
returns c = record {
  value = c.fired.ensures;
  told = subst (λ (known : Option ℕ). TellsFired c.args.self.now c.args.nack known) (sym c.fired.ensures) (tells-fired c.args.self.now c.args.nack);
}
