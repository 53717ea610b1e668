use Rattle.script_faults.proofs.Exprs.{expr_lang, expr_facts}
use Rattle.script_faults.proofs.Lists.{test_lang, test_facts, list_lang, list_facts}
use Rattle.script_faults.proofs.NameLists.{names_lang, names_facts}
use Rattle.script_faults.proofs.Demanding.{answered}
use Rattle.script_reader.specs.Steps.{bind_names_at, next_is}
use Rattle.script_reader.specs.Exprs.{expr_at, test_at, list_at}
use Rattle.std.proofs.Common.{[], refl}
use Rattle.script_faults.specs.Laws.{NoSign, NoComma}
use Rattle.script_faults.proofs.Agreeing.{expr_agrees, test_agrees, list_agrees, names_agrees, event_agrees, stmt_agrees, block_agrees}
use Rattle.script_faults.proofs.Events.{event_lang, block_lang}
use Rattle.script_faults.proofs.Stmts.{stmt_lang}
use Rattle.script_faults.proofs.Knots.{events_together, stmts_facts, blocks_together}
use Rattle.script_reader.specs.Blocks.{are_allowed, event_at, stmt_at, block_at}
use Rattle.script_faults.proofs.fault_laws.Goals as goal

no_sign : NoSign []
unfolding next_is
no_sign = refl

no_comma : NoComma []
unfolding next_is
no_comma = refl

pub returns : goal.returns
returns c = record {
  exprs = λ nesting h. answered (expr_lang nesting h) (λ ts. expr_at nesting h ts) (expr_facts nesting h) (λ e. expr_agrees e nesting h) [] no_sign;
  tests = λ nesting h. answered (test_lang nesting h) (λ ts. test_at nesting h ts) (test_facts nesting h) (λ t. test_agrees t nesting h) [] no_sign;
  lists = λ nesting h. answered (list_lang nesting h) (λ ts. list_at nesting h ts) (list_facts nesting h) (λ es. list_agrees es nesting h) [] tt;
  names = λ nesting h. answered (names_lang nesting h) (λ ts. bind_names_at nesting h ts) (names_facts nesting h) (λ ns. names_agrees ns.0 ns.1 nesting h) [] no_comma;
  events = λ nesting h. answered (event_lang nesting h) (λ ts. event_at nesting h ts) (events_together nesting h) (λ e. event_agrees e nesting h) [] tt;
  stmts = λ nesting place h. answered (stmt_lang (are_allowed place) nesting h) (λ ts. stmt_at nesting place h ts) (stmts_facts nesting place h) (λ s. stmt_agrees s (are_allowed place) nesting h) [] tt;
  blocks = λ nesting place h. answered (block_lang (are_allowed place) nesting h) (λ ts. block_at nesting place h ts) (blocks_together nesting place h) (λ b. block_agrees b (are_allowed place) nesting h) [] tt;
}
