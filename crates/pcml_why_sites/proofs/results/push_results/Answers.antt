use Rattle.std.proofs.Common.{None, Some, ap, sym, ◌∙◌}
use Rattle.std.proofs.lemmas.Result.{on_ok_weaker}
use Rattle.pcml_why_sites.proofs.Standing.{gives-alone, gives-pair}
use Rattle.pcml_why_sites.proofs.results.push_results.Goals as goal

pub returns-in_ok-push_result-in_default-Some : goal.returns-in_ok-push_result-in_default-Some
returns-in_ok-push_result-in_default-Some c =
    on_ok_weaker c.push_result-in_default-Some.result
    (λ second.
    gives-pair c.args.thread c.args.commit.now c.gives.result.0 c.in_default-Some.receiver c.args.results.now.items c.push_result.new.results.items c.push_result-in_default-Some.new.results.items
    (sym c.gives.ensures ∙ ap (λ o. (c.gives.result.0, o)) c.in_default-Some.is-1) c.in_ok-push_result-in_default-Some.ensures second)
    c.push_result-in_default-Some.ensures

pub returns-in_default-None : goal.returns-in_default-None
returns-in_default-None c =
    on_ok_weaker c.push_result-in_default-None.result
    (λ only. gives-alone c.args.thread c.args.commit.now c.gives.result.0 c.args.results.now.items c.push_result-in_default-None.new.results.items (sym c.gives.ensures ∙ ap (λ o. (c.gives.result.0, o)) c.in_default-None.is-1) only)
    c.push_result-in_default-None.ensures
