use Rattle.std.proofs.Common.{◌≡◌, ◌≤◌, ◌+◌, ◌*◌, take, length}
use Rattle.journal_text.specs.Labels.{naming_of, reach}
use Rattle.journal_text.specs.Texts.{commits_text}
use Rattle.journal_text.proofs.write_lines.Given as goal

abbrev pub invariant-loop-commit : goal.invariant-loop-commit
invariant-loop-commit l = (l.out.items ≡ commits_text (naming_of l.labels) (take l.commit-index l.commits)) × (6 * reach l.labels + 88 ≤ length l.line.items)
