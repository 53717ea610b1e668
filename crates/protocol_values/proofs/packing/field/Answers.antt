use Rattle.std.proofs.Common.{◌/◌, ◌^◌}
use Rattle.std.proofs.lemmas.Nat.{and_mask, one_shl}
use Rattle.protocol_values.proofs.packing.field.Goals as goal

pub returns-clause-value : goal.returns-clause-value
returns-clause-value c = rw (one_shl c.args.width 64 c.requires.width) (and_mask (c.args.word / 2 ^ c.args.low) c.args.width)
