use Rattle.protocol_ledger.proofs.Playing.{plays_one, played_not_refused, one_refused}
use Rattle.protocol.proofs.one_answer.Goals as goal

pub returns : goal.returns
returns c = record {
  one_world = plays_one;
  not_both = played_not_refused;
  one_step = one_refused;
}
