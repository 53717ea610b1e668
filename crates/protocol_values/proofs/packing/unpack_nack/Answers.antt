use Rattle.std.proofs.Common.{Some, None, arith}
use Rattle.std.proofs.lemmas.Grind.{common_steps}
use Rattle.protocol_values.specs.Words.{nack_of}
use Rattle.protocol_values.proofs.WordLemmas.{nack_of_only}
use Rattle.protocol_values.proofs.packing.unpack_nack.Goals as goal

pub returns-then-pack_nack-word-clause-complete : goal.returns-then-pack_nack-word-clause-complete
unfolding nack_of
returns-then-pack_nack-word-clause-complete c = nack_of_only (Some c.nack_fields-nack.result) c.args.word (grind (arith, common_steps))

pub returns-else-pack_nack-word-clause-complete : goal.returns-else-pack_nack-word-clause-complete
unfolding nack_of
returns-else-pack_nack-word-clause-complete c = nack_of_only None c.args.word (grind (arith, common_steps))
