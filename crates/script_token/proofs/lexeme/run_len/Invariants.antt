use Rattle.std.proofs.Common.{◌≡◌, take, true}
use Rattle.std.specs.List.{list_all}
use Rattle.script_token.specs.Tokens.{is_word}
use Rattle.script_token.proofs.lexeme.run_len.Given as goal

abbrev pub invariant-loop-i : goal.invariant-loop-i
invariant-loop-i l = list_all is_word (take l.i l.bytes) ≡ true
