use Rattle.std.proofs.Common.{Some, None, arith}
use Rattle.std.proofs.lemmas.Grind.{common_steps}
use Rattle.protocol_values.specs.Words.{head_of}
use Rattle.protocol_values.proofs.WordLemmas.{head_of_only}
use Rattle.protocol_values.proofs.packing.unpack_head.Goals as goal

pub returns-then-pack_head-word-clause-complete : goal.returns-then-pack_head-word-clause-complete
unfolding head_of
returns-then-pack_head-word-clause-complete c = head_of_only (Some c.head_fields-head.result) c.args.word (grind (arith, common_steps))

pub returns-else-pack_head-word-clause-complete : goal.returns-else-pack_head-word-clause-complete
unfolding head_of
returns-else-pack_head-word-clause-complete c = head_of_only None c.args.word (grind (arith, common_steps))
