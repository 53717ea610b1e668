use Rattle.std.proofs.Common.{◌≡◌, ℕ, Some, None, sym, ap, ◌∙◌, arith}
use Rattle.std.proofs.lemmas.Grind.{common_steps}
use Rattle.protocol_values.specs.declared.Cell.TheVariants.{Fresh}
use Rattle.protocol_values.specs.Words.{cell_of}
use Rattle.protocol_values.proofs.WordLemmas.{cell_of-zero, cell_of_only, cell_word-cell_of}
use Rattle.protocol_values.proofs.packing.unpack_cell.Goals as goal

is_fresh : (w : ℕ) → w ≡ 0 → Some Fresh ≡ cell_of w
is_fresh w e = sym (ap cell_of e ∙ cell_of-zero)

pub returns-then-word-eq0-clause-value : goal.returns-then-word-eq0-clause-value
returns-then-word-eq0-clause-value c = is_fresh c.args.word (grind (arith, c.if-word-eq0.true))

pub returns-then-word-eq0-clause-sound : goal.returns-then-word-eq0-clause-sound
returns-then-word-eq0-clause-sound c = cell_word-cell_of c.args.word Fresh (sym (is_fresh c.args.word (grind (arith, c.if-word-eq0.true))))

pub returns-then-word-eq0-clause-complete : goal.returns-then-word-eq0-clause-complete
returns-then-word-eq0-clause-complete c = cell_of_only (Some Fresh) c.args.word (is_fresh c.args.word (grind (arith, c.if-word-eq0.true)))

pub returns-then-pack_cell-word-clause-complete : goal.returns-then-pack_cell-word-clause-complete
unfolding cell_of
returns-then-pack_cell-word-clause-complete c = cell_of_only (Some c.cell_fields-cell.result) c.args.word (grind (arith, common_steps))

pub returns-else-has_stamp-clause-complete : goal.returns-else-has_stamp-clause-complete
unfolding cell_of
returns-else-has_stamp-clause-complete c = cell_of_only None c.args.word (grind (arith, common_steps))
