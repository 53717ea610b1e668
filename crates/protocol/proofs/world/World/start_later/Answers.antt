-- Where no row is joined there are no commits.
use Rattle.std.proofs.Common.{rules, ◌≡◌, ap, ◌∙◌}
use Rattle.protocol_ledger.specs.Ledgers.{commits_in, ledger_of}
use Rattle.protocol.specs.States.{world_of}
use Rattle.protocol_ledger.specs.Worlds.{World, start_world}
use Rattle.protocol_ledger.proofs.LedgerLemmas.{start_empty}
use Rattle.protocol.proofs.world.World.start_later.Goals as goal

pub returns-clause-empty : goal.returns-clause-empty
returns-clause-empty c =
    let is : world_of c.in_ok-state.state ≡ start_world c.args.threads c.args.rows c.args.seats c.args.later = (search rules) in
    ap (λ (w : World). commits_in (ledger_of w.table)) is ∙ start_empty c.args.threads c.args.rows c.args.seats c.args.later
