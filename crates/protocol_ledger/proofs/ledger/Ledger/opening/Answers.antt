use Rattle.std.proofs.Common.{◌↔◌, Contains, List, subst, sym}
use Rattle.protocol_values.specs.declared.Commit.{Commit}
use Rattle.protocol_ledger.specs.Ledgers.{HasCommit}
use Rattle.protocol_ledger.proofs.ledger.Ledger.opening.Goals as goal

pub opening_by-requires : goal.opening_by-requires
opening_by-requires c d = subst (λ (commits : List Commit). Contains commits d ↔ HasCommit c.args.self.now d) (sym c.deref.ensures.value) (c.in_ok-commits.ensures.members d)
