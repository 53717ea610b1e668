use Rattle.std.proofs.Common.{refl}
use Rattle.protocol_ledger.proofs.CellWords.{pair_way}
use Rattle.protocol_ledger.proofs.commits.read_pair.Goals as goal

pub returns : goal.returns
returns c = pair_way c.args.word _ _ _ _ _ c.requires refl refl refl refl refl
