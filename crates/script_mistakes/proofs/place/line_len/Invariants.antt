use Rattle.std.proofs.Common.{◌≡◌, ◌<◌, ℕ, ◌==◌, false, get_or}
use Rattle.script_mistakes.proofs.place.line_len.Given as goal

abbrev pub invariant-loop-place : goal.invariant-loop-place
invariant-loop-place l = (k : ℕ) → k < l.place → (get_or l.bytes k 0 == 10) ≡ false
