use Rattle.std.proofs.Common.{◌≡◌, ◌++◌, map, take}
use Rattle.script_mistakes.specs.Places.{shown}
use Rattle.script_mistakes.proofs.place.push_shown.Given as goal

abbrev pub invariant-loop-byte : goal.invariant-loop-byte
invariant-loop-byte l = l.out.items ≡ l.fn.out.items ++ map shown (take l.byte-index l.bytes)
