use Rattle.std.proofs.Common.{◌≡◌, ◌++◌, take}
use Rattle.std.specs.String.{string_bytes}
use Rattle.script.specs.Scripts.{script_of}
use Rattle.pcml_why_sites.specs.Writing.{seen_texts}
use Rattle.journal_text.specs.Names.{named}
use Rattle.pcml_why_sites.specs.Edges.{edges_of}
use Rattle.pcml_why_sites.proofs.knot.WaitGraph.push_edges_of.Given as goal

abbrev pub invariant-loop-b : goal.invariant-loop-b
invariant-loop-b l =
    string_bytes l.out ≡ string_bytes l.fn.out ++ edges_of (named (script_of l.self.script.now)) (seen_texts l.self.texts.now) l.self.sites.now (take l.b-index l.knot) l.a
