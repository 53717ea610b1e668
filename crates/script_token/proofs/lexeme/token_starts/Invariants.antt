use Rattle.std.proofs.Common.{◌≡◌, ◌+◌, ◌++◌, length}
use Rattle.script_token.specs.Lexemes.{lexemes, starts_from, token_starts}
use Rattle.script_token.proofs.lexeme.token_starts.Given as goal

abbrev pub invariant-loop-rest : goal.invariant-loop-rest
invariant-loop-rest l = record {
  starts : l.starts.items ++ starts_from l.at (lexemes l.rest) ≡ token_starts l.bytes;
  at : l.at + length l.rest ≡ length l.bytes;
}

abbrev pub decreases-loop-rest : goal.decreases-loop-rest
decreases-loop-rest l = length l.rest
