use Rattle.std.proofs.Common.{◌≡◌, take}
use Rattle.journal_replay.specs.Runs.{config_of}
use Rattle.pcml_why_sites.proofs.results.results_of.Given as goal

abbrev pub invariant-loop-commit : goal.invariant-loop-commit
invariant-loop-commit l = l.results.items ≡ config_of (take l.commit-index l.commits) l.thread
