use Rattle.pcml_why_sites.proofs.Standing.{results-more}
use Rattle.pcml_why_sites.proofs.results.results_of.Goals as goal

pub loop-commit-preserved : goal.loop-commit-preserved
loop-commit-preserved c =
    results-more c.args.commits.now c.args.thread c.loop-commit.commit-index _ c.loop-commit.results.items c.push_results.new.results.items c.loop-commit-test.true c.loop-commit.invariant c.in_ok-push_results.ensures
