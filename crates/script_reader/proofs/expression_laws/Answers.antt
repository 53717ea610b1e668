use Rattle.script_reader.proofs.ReadExprs.{expr_found, expr_again}
use Rattle.script_reader.proofs.expression_laws.Goals as goal

pub returns : goal.returns
returns c = record { found = expr_found; again = expr_again }
