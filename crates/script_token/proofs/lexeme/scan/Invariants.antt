use Rattle.std.proofs.Common.{◌≡◌, ◌+◌, ◌≤◌, ◌++◌, length}
use Rattle.script_token.specs.Lexemes.{lexemes, tokens_from, line_behind, placed_tokens, last_line, seen}
use Rattle.script_token.proofs.lexeme.scan.Given as goal

abbrev pub invariant-loop-rest : goal.invariant-loop-rest
invariant-loop-rest l = record {
  tokens : seen l.placed.items ++ tokens_from l.last_line (lexemes l.rest) ≡ placed_tokens l.bytes;
  last : line_behind l.last_line (lexemes l.rest) ≡ last_line l.bytes;
  small : l.last_line + length l.rest ≤ length l.bytes + 1;
}

abbrev pub decreases-loop-rest : goal.decreases-loop-rest
decreases-loop-rest l = length l.rest
