use Rattle.std.proofs.Common.{List, ℕ, ap, length, ◌∙◌}
use Rattle.std.proofs.lemmas.Result.{IfOk-weaker}
use Rattle.script.specs.Scripts.{script_of}
use Rattle.pcml_why_sites.specs.Writing.{seen_texts}
use Rattle.pcml_why_sites.specs.Knots.{is_pair, waits_for}
use Rattle.pcml_why_sites.proofs.Knotting.{same-knot}
use Rattle.journal_text.specs.Names.{named}
use Rattle.pcml_why_sites.proofs.knot.WaitGraph.knot.Goals as goal

pub returns : goal.returns
returns c =
    IfOk-weaker c.greatest_knot.result _ _
    (λ knot is.
    same-knot (length c.args.self.now.sites.now) (is_pair c.deref.result.now)
    (waits_for (named (script_of c.args.self.now.script.now)) (seen_texts c.args.self.now.texts.now) c.args.self.now.sites.now) knot.items
    (λ a b. ap (λ (l : List (ℕ × ℕ)). is_pair l a b) c.deref.ensures.value ∙ c.in_ok-pairs.ensures a b) is)
    c.greatest_knot.ensures
