-- A world that all steps keep has a lawful ledger.
use Rattle.protocol.specs.States.{world_of}
use Rattle.protocol_ledger.proofs.LedgerLemmas.{lawful_ledger}
use Rattle.protocol.proofs.world.World.ledger.Goals as goal

pub of_sheet-requires : goal.of_sheet-requires
of_sheet-requires c = lawful_ledger (world_of c.self.inside.state).table c.self.invariant.kept.linked
