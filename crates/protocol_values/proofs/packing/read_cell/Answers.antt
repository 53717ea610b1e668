use Rattle.std.proofs.Common.{◌∙◌, sym, ap, Some}
use Rattle.protocol_values.specs.declared.Cell.{Cell}
use Rattle.protocol_values.proofs.WordLemmas.{cell_of-fields}
use Rattle.protocol_values.proofs.packing.read_cell.Goals as goal

pub returns : goal.returns
returns c = cell_of-fields c.args.word c.requires ∙ ap (λ (x : Cell). Some x) (sym c.cell_fields.ensures.value)
