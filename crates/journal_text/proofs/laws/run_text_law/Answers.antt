use Rattle.journal_text.proofs.Lining.{run_has_lines, run_is_read_again, printed_has_names}
use Rattle.journal_text.proofs.laws.run_text_law.Goals as goal

pub returns-clause-lines : goal.returns-clause-lines
returns-clause-lines c = run_has_lines

pub returns-clause-printed : goal.returns-clause-printed
returns-clause-printed c = printed_has_names

pub returns-clause-again : goal.returns-clause-again
returns-clause-again c = run_is_read_again
