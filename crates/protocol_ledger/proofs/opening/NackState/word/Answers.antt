use Rattle.std.proofs.Common.{rules}
use Rattle.protocol_ledger.proofs.opening.NackState.word.Goals as goal

pub returns-in-Enabled : goal.returns-in-Enabled
returns-in-Enabled c = search rules
