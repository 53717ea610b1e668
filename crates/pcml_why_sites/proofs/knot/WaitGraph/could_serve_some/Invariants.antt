use Rattle.std.proofs.Common.{◌≡◌, take, false}
use Rattle.std.specs.List.{list_any}
use Rattle.script.specs.Scripts.{script_of}
use Rattle.pcml_why_sites.specs.Writing.{seen_texts}
use Rattle.pcml_why_sites.specs.Knots.{could_serve}
use Rattle.journal_text.specs.Names.{named}
use Rattle.pcml_why_sites.proofs.knot.WaitGraph.could_serve_some.Given as goal

abbrev pub invariant-loop-offer : goal.invariant-loop-offer
invariant-loop-offer l =
    list_any (λ o. could_serve (named (script_of l.self.script.now)) (seen_texts l.self.texts.now) l.self.sites.now l.b o.base) (take l.offer-index l.offers) ≡ false
