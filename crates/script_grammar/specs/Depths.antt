-- The depth of what is written: the greatest number of marks that are open at one of its tokens, and of
-- words `wrap`, `guard` and `nack` whose event has not ended there.
use Rattle.std.specs.Prelude.{ℕ, ◌+◌, max, List, [], ◌∷◌}
use Rattle.script_grammar.specs.Written.{Term, OfNumber, OfName, Grouped, Terms, NoMore, Further, Expr, Test, Event, Events, NoEvents, Another, Stmt, Block, Done, Then, Process, Script}
use Rattle.script_grammar.specs.Written as written

abbrev mutual
  pub term_depth : Term → ℕ
  term_depth (OfNumber n) = 0
  term_depth (OfName text) = 0
  term_depth (Grouped first more) = 1 + max (term_depth first) (terms_depth more)

  pub terms_depth : Terms → ℕ
  terms_depth NoMore = 0
  terms_depth (Further sign term more) = max (term_depth term) (terms_depth more)

abbrev pub expr_depth : Expr → ℕ
expr_depth e = max (term_depth e.first) (terms_depth e.more)

abbrev pub exprs_depth : List Expr → ℕ
exprs_depth [] = 0
exprs_depth (e ∷ es) = max (expr_depth e) (exprs_depth es)

abbrev pub list_depth : List Expr → ℕ
list_depth list = 1 + exprs_depth list

abbrev pub test_depth : Test → ℕ
test_depth t = max (expr_depth t.left) (expr_depth t.right)

abbrev mutual
  pub event_depth : Event → ℕ
  event_depth (written.Send channel list) = list_depth list
  event_depth (written.Recv channel) = 0
  event_depth (written.Always list) = list_depth list
  event_depth written.Never = 0
  event_depth (written.Cancelled nack) = 0
  event_depth (written.Joined process) = 0
  event_depth (written.Choose members) = 1 + events_depth members
  event_depth (written.Wrap event names list) = 1 + max (event_depth event) (list_depth list)
  event_depth (written.Guard body event) = 1 + max (1 + stmts_depth body) (event_depth event)
  event_depth (written.Nack name body event) = 1 + max (1 + stmts_depth body) (event_depth event)

  pub events_depth : Events → ℕ
  events_depth NoEvents = 0
  events_depth (Another event others) = max (event_depth event) (events_depth others)

  pub stmt_depth : Stmt → ℕ
  stmt_depth (written.Let name value) = expr_depth value
  stmt_depth (written.Print value) = expr_depth value
  stmt_depth (written.Sync names event) = event_depth event
  stmt_depth (written.If test first second) = max (test_depth test) (max (1 + stmts_depth first) (1 + stmts_depth second))
  stmt_depth (written.Loop times body) = 1 + stmts_depth body
  stmt_depth (written.Forever body) = 1 + stmts_depth body
  stmt_depth written.End = 0
  stmt_depth (written.Spawn process) = 0

  -- without the marks round it
  pub stmts_depth : Block → ℕ
  stmts_depth Done = 0
  stmts_depth (Then stmt rest) = max (stmt_depth stmt) (stmts_depth rest)

abbrev pub block_depth : Block → ℕ
block_depth body = 1 + stmts_depth body

abbrev pub processes_depth : List Process → ℕ
processes_depth [] = 0
processes_depth (p ∷ ps) = max (block_depth p.body) (processes_depth ps)

abbrev pub script_depth : Script → ℕ
script_depth s = processes_depth s.processes
