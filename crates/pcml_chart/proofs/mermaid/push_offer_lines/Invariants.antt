use Rattle.std.proofs.Common.{◌≡◌, ◌++◌, take}
use Rattle.std.specs.List.{flat_map}
use Rattle.script.specs.Scripts.{script_of}
use Rattle.journal_text.specs.Names.{named}
use Rattle.pcml_chart.specs.Mermaid.{offer_line}
use Rattle.pcml_chart.proofs.mermaid.push_offer_lines.Given as goal

abbrev pub invariant-loop-offer : goal.invariant-loop-offer
invariant-loop-offer l = l.out.items ≡ l.fn.out.items ++ flat_map (offer_line (named (script_of l.script))) (take l.offer-index l.offers)
