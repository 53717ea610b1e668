use Rattle.std.proofs.Common.{◌≡◌, ◌++◌, take}
use Rattle.std.specs.List.{flat_map}
use Rattle.std.specs.String.{string_bytes}
use Rattle.script.specs.Scripts.{script_of}
use Rattle.pcml_chart.specs.Feet.{offer_line}
use Rattle.journal_text.specs.Names.{named}
use Rattle.pcml_chart.proofs.foot.push_offer_lines.Given as goal

abbrev pub invariant-loop-offer : goal.invariant-loop-offer
invariant-loop-offer l = string_bytes l.out ≡ string_bytes l.fn.out ++ flat_map (offer_line (named (script_of l.script)) l.x) (take l.offer-index l.offers)
