use Rattle.std.proofs.Common.{◌≡◌, take}
use Rattle.std.specs.List.{flat_map}
use Rattle.std.specs.String.{string_bytes}
use Rattle.script.specs.Scripts.{script_of}
use Rattle.journal_text.specs.Names.{named}
use Rattle.pcml_outcomes.specs.Told.{outcome_text, shown}
use Rattle.pcml_outcomes.proofs.shown.shown_lines.Given as goal

abbrev pub invariant-loop-index : goal.invariant-loop-index
invariant-loop-index l = string_bytes l.lines ≡ flat_map (outcome_text (named (script_of l.script)) l.asked.named.items) (shown l.asked (take l.index l.outcomes))
