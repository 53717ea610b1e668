use Rattle.std.proofs.Common.{◌≡◌, ◌++◌, take}
use Rattle.std.specs.List.{flat_map}
use Rattle.std.specs.String.{string_bytes}
use Rattle.script.specs.Scripts.{script_of}
use Rattle.pcml_why_sites.specs.Writing.{seen_texts}
use Rattle.journal_text.specs.Names.{named}
use Rattle.pcml_why_sites.specs.Edges.{edges_of}
use Rattle.pcml_why_sites.proofs.knot.WaitGraph.push_edges.Given as goal

abbrev pub invariant-loop-a : goal.invariant-loop-a
invariant-loop-a l =
    string_bytes l.out
    ≡ string_bytes l.fn.out ++ flat_map (edges_of (named (script_of l.self.script.now)) (seen_texts l.self.texts.now) l.self.sites.now l.knot) (take l.a-index l.knot)
