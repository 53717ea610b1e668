use Rattle.std.proofs.Common.{◌≡◌, ◌++◌}
use Rattle.script.specs.Scripts.{script_of}
use Rattle.pcml_why_sites.specs.Writing.{seen_texts}
use Rattle.pcml_why_sites.specs.Knots.{pairs_of, waits_for}
use Rattle.journal_text.specs.Names.{named}
use Rattle.pcml_why_sites.proofs.knot.WaitGraph.push_waits.Given as goal

abbrev pub invariant-loop-b : goal.invariant-loop-b
invariant-loop-b l =
    l.pairs.items ≡ l.fn.pairs.items ++ pairs_of (waits_for (named (script_of l.self.script.now)) (seen_texts l.self.texts.now) l.self.sites.now) l.a l.b
