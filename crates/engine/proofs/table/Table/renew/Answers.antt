use Rattle.std.proofs.Common.{false}
use Rattle.engine.specs.Tables.{line_at, state_of}
use Rattle.engine.proofs.Sounding.{sound-latch}
use Rattle.engine.proofs.table.Table.renew.Goals as goal

pub returns-clause-sound : goal.returns-clause-sound
returns-clause-sound c =
    sound-latch (state_of c.args.self.now) (state_of c.set_fired.new.self) (line_at c.args.self.now) (line_at c.set_fired.new.self) c.args.latch c.requires.known.0 false c.requires.known.1 (λ e. absurd cc) c.set_fired.ensures.state
    c.set_fired.ensures.lines c.requires.sound
