use Rattle.std.proofs.Common.{List, ℕ, ap, ◌∙◌}
use Rattle.std.proofs.lemmas.Result.{IfOk-weaker}
use Rattle.script.specs.Scripts.{script_of}
use Rattle.pcml_why_sites.specs.Writing.{seen_texts}
use Rattle.pcml_why_sites.specs.Knots.{is_pair}
use Rattle.pcml_why_sites.proofs.Knotting.{are-pairs}
use Rattle.journal_text.specs.Names.{named}
use Rattle.pcml_why_sites.proofs.knot.WaitGraph.waits.Goals as goal

pub returns : goal.returns
returns c =
    IfOk-weaker c.pairs.result _ _
    (λ pairs is. λ a b.
    ap (λ (l : List (ℕ × ℕ)). is_pair l a b) is
    ∙ are-pairs (named (script_of c.args.self.now.script.now)) (seen_texts c.args.self.now.texts.now) c.args.self.now.sites.now a b)
    c.pairs.ensures
