use Rattle.std.proofs.Common.{rules}
use Rattle.std.specs.Slots.{slots_items, slots_len}
use Rattle.cell_table.proofs.Endings.{copied_more, copied_all}
use Rattle.cell_table.proofs.closing.copy_words.Goals as goal

pub loop-at-preserved : goal.loop-at-preserved
loop-at-preserved g c = (search rules, copied_more c.loop-at.words.items (slots_items c.args.closed.now.words) (slots_len c.args.closed.now.words) c.loop-at.at c.word.result c.loop-at.invariant.0 (search rules) c.word.ensures c.loop-at.invariant.1)

pub returns : goal.returns
returns g c = copied_all c.loop-at.words.items (slots_items c.args.closed.now.words) (slots_len c.args.closed.now.words) c.loop-at.at c.loop-at.invariant.0 (search rules) (search rules) c.loop-at.invariant.1
