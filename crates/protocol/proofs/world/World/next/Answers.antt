-- Where no row is joined there are no commits.
use Rattle.protocol_ledger.specs.Openings.{Begins, opening_of}
use Rattle.protocol.specs.States.{world_of}
use Rattle.std.proofs.Common.{rules}
use Rattle.protocol_ledger.proofs.LedgerLemmas.{begins_empty}
use Rattle.protocol.proofs.world.World.next.Goals as goal

pub returns-clause-empty : goal.returns-clause-empty
returns-clause-empty c =
    let begins : Begins (opening_of c.args.opening.now) c.args.rows c.args.seats (world_of c.in_ok-state.state) = (search rules) in
    begins_empty (opening_of c.args.opening.now) c.args.rows c.args.seats (world_of c.in_ok-state.state) c.requires.opening begins
