use Rattle.std.proofs.lemmas.Result.{IfOk-weaker}
use Rattle.pcml_outcomes.proofs.listing.outcomes_text.Goals as goal

pub returns : goal.returns
returns g c = IfOk-weaker c.found_text.result _ _
    (λ t is. record { found = c.in_ok-outcomes.outcomes; are = c.in_ok-outcomes.ensures.found; stranded = c.in_ok-stranded.stranded; lost = c.in_ok-stranded.ensures.lost; is = is })
    c.found_text.ensures
