use Rattle.std.proofs.Common.{List, ap, arith, map, ◌∙◌}
use Rattle.std.proofs.lemmas.List.{take_all}
use Rattle.script_token.specs.Lexemes.{seen}
use Rattle.script_token.specs.declared.lexeme.Placed.{Placed}
use Rattle.script.specs.Lines.{line_of, text_words}
use Rattle.script.proofs.Given.{lines_step}
use Rattle.script.proofs.lining.statement_lines.Goals as goal

pub loop-placed-preserved : goal.loop-placed-preserved
loop-placed-preserved c = lines_step c.args.tokens.now c.loop-placed.placed-index _ c.loop-placed.lines.items c.push_line.new.lines.items c.loop-placed-test.true c.loop-placed.invariant c.in_ok-push_line.ensures

pub returns : goal.returns
returns c = c.loop-placed.invariant ∙ ap (λ (ps : List Placed). map line_of (text_words (seen ps))) (take_all c.loop-placed.placed-index c.args.tokens.now (omega (arith, c.loop-placed-test.false)))
