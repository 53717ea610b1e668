use Rattle.std.proofs.Common.{◌≡◌, length}
use Rattle.script.specs.Scripts.{script_of}
use Rattle.pcml_why_sites.specs.Writing.{seen_texts}
use Rattle.pcml_why_sites.specs.Knots.{pairs_below, waits_for}
use Rattle.journal_text.specs.Names.{named}
use Rattle.pcml_why_sites.proofs.knot.WaitGraph.pairs.Given as goal

abbrev pub invariant-loop-a : goal.invariant-loop-a
invariant-loop-a l =
    l.pairs.items ≡ pairs_below (waits_for (named (script_of l.self.script.now)) (seen_texts l.self.texts.now) l.self.sites.now) (length l.self.sites.now) l.a
