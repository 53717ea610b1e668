use Rattle.std.proofs.Common.{◌≡◌, ◌++◌, take}
use Rattle.pcml_chart.specs.Mermaid.{escaped}
use Rattle.pcml_chart.proofs.mermaid.push_escaped.Given as goal

abbrev pub invariant-loop-byte : goal.invariant-loop-byte
invariant-loop-byte l = l.out.items ≡ l.fn.out.items ++ escaped (take l.byte-index l.text)
