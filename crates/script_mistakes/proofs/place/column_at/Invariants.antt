use Rattle.std.proofs.Common.{◌≡◌, ◌+◌, ◌<◌, ◌≤◌, drop}
use Rattle.script_mistakes.specs.Places.{column_at, column_from}
use Rattle.script_mistakes.proofs.place.column_at.Given as goal

abbrev pub invariant-loop-byte : goal.invariant-loop-byte
invariant-loop-byte l = record {
  column : column_from l.column (drop l.byte-index l.before) ≡ column_at l.bytes l.at;
  some : 0 < l.column;
  few : l.column ≤ l.byte-index + 1;
}
