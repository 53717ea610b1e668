use Rattle.std.proofs.Common.{◌≡◌, ◌++◌, codes, take}
use Rattle.std.specs.List.{flat_map}
use Rattle.std.specs.String.{string_bytes}
use Rattle.script_mistakes.specs.Telling.{kind_text}
use Rattle.script_mistakes.proofs.telling.push_kinds.Given as goal

abbrev pub invariant-loop-other : goal.invariant-loop-other
invariant-loop-other l = string_bytes l.out ≡ string_bytes l.initial.out ++ flat_map (λ other. codes ", " ++ kind_text other) (take l.other-index l.others)
