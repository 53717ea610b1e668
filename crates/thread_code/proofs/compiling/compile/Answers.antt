use Rattle.std.proofs.Common.{ap, slice_get, ◌∙◌}
use Rattle.std.specs.Option.{option_map}
use Rattle.script_tree.specs.Lined.{block_of}
use Rattle.thread_code.specs.declared.Place.{Place}
use Rattle.thread_code.proofs.Growing.{linked_alike}
use Rattle.thread_code.proofs.compiling.compile.Goals as goal

pub returns : goal.returns
returns c = record {
  start =
      ap (λ l. option_map (λ (p : Place). block_of p.block.value) (slice_get l c.in_ok-code.field-0)) c.shrink_to_fit.ensures.items
      ∙ c.in_ok-code.ensures.there;
  linked = linked_alike c.add_block.new.code _ c.in_ok-code.ensures.linked c.shrink_to_fit.ensures.items c.shrink_to_fit-2.ensures.items;
}
