use Rattle.std.proofs.Common.{◌≡◌, length}
use Rattle.script.specs.Scripts.{script_of}
use Rattle.pcml_why_sites.specs.Writing.{seen_texts}
use Rattle.journal_text.specs.Names.{named}
use Rattle.pcml_why_sites.specs.Edges.{first_service}
use Rattle.pcml_why_sites.proofs.knot.WaitGraph.push_first_service.Given as goal

abbrev pub invariant-loop-rest : goal.invariant-loop-rest
invariant-loop-rest l = record {
  out : l.out ≡ l.fn.out;
  rest :
      first_service (named (script_of l.self.script.now)) (seen_texts l.self.texts.now) l.self.sites.now l.process l.rest
      ≡ first_service (named (script_of l.self.script.now)) (seen_texts l.self.texts.now) l.self.sites.now l.process l.fn.offers;
}

abbrev pub decreases-loop-rest : goal.decreases-loop-rest
decreases-loop-rest l = length l.rest
