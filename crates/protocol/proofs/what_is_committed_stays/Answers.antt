use Rattle.protocol_ledger.proofs.Onward.{commits-stay, tables-grow}
use Rattle.protocol.proofs.what_is_committed_stays.Goals as goal

pub returns : goal.returns
returns c = record { tables = tables-grow; commits = commits-stay }
