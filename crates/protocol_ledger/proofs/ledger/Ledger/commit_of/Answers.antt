use Rattle.protocol_ledger.specs.Sheets.{table_of}
use Rattle.protocol_ledger.proofs.LedgerReadings.{commit_of_found, commit_of_none}
use Rattle.protocol_ledger.proofs.ledger.Ledger.commit_of.Goals as goal

pub returns-clause-found : goal.returns-clause-found
returns-clause-found c = commit_of_found (table_of c.self.inside.sheet) c.args.self.now c.args.row _ c.self.view_is c.commit_of.ensures

pub returns-clause-none : goal.returns-clause-none
returns-clause-none c = commit_of_none (table_of c.self.inside.sheet) c.args.self.now c.args.row _ c.self.view_is c.self.invariant c.commit_of.ensures
