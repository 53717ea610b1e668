use Rattle.std.proofs.Common.{Some, length, slice_get, ◌<◌, ◌≡◌, ℕ}
use Rattle.protocol_values.specs.declared.Commit.{Commit}
use Rattle.plain_values.specs.Plain.{IsCommit}
use Rattle.plain_values.specs.declared.commits.PlainCommit.{PlainCommit}
use Rattle.pcml_cells.proofs.tables.write_commits.Given as goal

abbrev pub invariant-loop-n : goal.invariant-loop-n
invariant-loop-n l =
    (length l.commits ≡ length l.fn.commits)
    × ((k : ℕ) (p : PlainCommit) (c : Commit) → k < l.n → slice_get l.commits k ≡ Some p → slice_get l.all k ≡ Some c → IsCommit p c)
