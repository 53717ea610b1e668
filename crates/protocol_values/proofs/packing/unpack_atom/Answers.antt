use Rattle.std.proofs.Common.{Some, None, arith}
use Rattle.std.proofs.lemmas.Grind.{common_steps}
use Rattle.protocol_values.specs.Words.{atom_of}
use Rattle.protocol_values.proofs.WordLemmas.{atom_of_only}
use Rattle.protocol_values.proofs.packing.unpack_atom.Goals as goal

pub returns-then-pack_atom-word-clause-complete : goal.returns-then-pack_atom-word-clause-complete
unfolding atom_of
returns-then-pack_atom-word-clause-complete c = atom_of_only (Some c.atom_fields-atom.result) c.args.word (grind (arith, common_steps))

pub returns-else-pack_atom-word-clause-complete : goal.returns-else-pack_atom-word-clause-complete
unfolding atom_of
returns-else-pack_atom-word-clause-complete c = atom_of_only None c.args.word (grind (arith, common_steps))
