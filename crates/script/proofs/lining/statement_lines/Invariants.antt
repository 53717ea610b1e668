use Rattle.std.proofs.Common.{◌≡◌, map, take}
use Rattle.script_token.specs.Lexemes.{seen}
use Rattle.script.specs.Lines.{line_of, text_words}
use Rattle.script.proofs.lining.statement_lines.Given as goal

abbrev pub invariant-loop-placed : goal.invariant-loop-placed
invariant-loop-placed l = l.lines.items ≡ map line_of (text_words (seen (take l.placed-index l.tokens)))
