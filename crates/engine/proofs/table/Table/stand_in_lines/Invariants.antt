use Rattle.std.proofs.Common.{◌≡◌}
use Rattle.engine.specs.Lines.{Lined}
use Rattle.engine.specs.Tables.{line_at, state_of}
use Rattle.engine.proofs.table.Table.stand_in_lines.Given as goal

abbrev pub invariant-loop-own : goal.invariant-loop-own
invariant-loop-own l = record {
  lined : Lined (state_of l.initial.self).places (state_of l.initial.self).next (line_at l.self) l.sync.index l.own;
  state : state_of l.self ≡ state_of l.initial.self;
}
