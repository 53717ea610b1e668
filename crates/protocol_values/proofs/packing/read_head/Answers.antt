use Rattle.std.proofs.Common.{◌∙◌, sym, ap, Some}
use Rattle.protocol_values.specs.declared.Head.{Head}
use Rattle.protocol_values.proofs.WordLemmas.{head_of-fields}
use Rattle.protocol_values.proofs.packing.read_head.Goals as goal

pub returns : goal.returns
returns c = head_of-fields c.args.word c.requires ∙ ap (λ (x : Head). Some x) (sym c.head_fields.ensures.value)
