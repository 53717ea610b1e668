use Rattle.std.proofs.Common.{rules, ◌∙◌, ap, sym, arith, List, Option, length}
use Rattle.cell_table.proofs.Dealing.{keeps_start, machines_full}
use Rattle.cell_table.specs.Views.{opening_in}
use Rattle.cell_table.proofs.board.Board.start.Goals as goal

pub new-requires : goal.new-requires
new-requires g c =
    keeps_start g.M.Resident.stands c.args.shape c.args.words.now c.args.slots.items c.requires.slots c.requires.full c.requires.shape.0 c.requires.opening.0 c.requires.shape.1 c.requires.shape.2 c.requires.shape.3 c.requires.layout.0 c.requires.sized c.requires.words

pub invariant_of-result : goal.invariant_of-result
invariant_of-result g c =
    let opens = c.requires.opening.0 in
    let some = opens.some in
    let few = opens.few in
    let size = c.requires.shape.0 in
    record {
      keyed = (search rules);
      sized = c.in-Ok.ensures.ok.0 ∙ c.requires.sized;
      row_length = (search rules);
      located = c.starts.ensures;
      fits = c.requires.layout.0;
      first_rows = c.requires.layout.1;
      slots = c.in-Ok.ensures.ok.1 ∙ ap (λ (xs : List (Option g.row.M.Denot)). length xs) c.requires.slots;
      full = λ some_first. machines_full (opening_in c.args.shape) c.args.shape.first.value.items c.requires.full some_first ∙ sym size;
      opens = (opens, sym size, c.requires.opening.1);
      small = (omega (arith, some, size), omega (arith, few, size), c.requires.shape.1, c.requires.shape.2);
    }
