use Rattle.protocol_ledger.proofs.Results.{have-results, one-results}
use Rattle.protocol.proofs.results_of_rows.Goals as goal

pub returns : goal.returns
returns c = record { there = have-results; one = one-results }
