use Rattle.std.proofs.Common.{◌≡◌, ◌++◌, take}
use Rattle.std.specs.List.{flat_map}
use Rattle.std.specs.String.{string_bytes}
use Rattle.script.specs.Scripts.{script_of}
use Rattle.journal_text.specs.Names.{named}
use Rattle.pcml_outcomes.specs.Stranding.{line_told}
use Rattle.pcml_outcomes.proofs.stranding.push_each.Given as goal

abbrev pub invariant-loop-index : goal.invariant-loop-index
invariant-loop-index l = string_bytes l.out ≡ string_bytes l.fn.out ++ flat_map (line_told (named (script_of l.script)) l.is_alone) (take l.index l.stranded)
