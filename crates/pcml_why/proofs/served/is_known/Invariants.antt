use Rattle.std.proofs.Common.{◌≡◌, take, false}
use Rattle.std.specs.List.{list_any}
use Rattle.pcml_why.specs.Served.{is_for}
use Rattle.pcml_why.proofs.served.is_known.Given as goal

abbrev pub invariant-loop-answer : goal.invariant-loop-answer
invariant-loop-answer l = list_any (is_for l.side l.chan) (take l.answer-index l.answers) ≡ false
