-- Reading from left to right: events, statements and blocks.
use Rattle.std.specs.Prelude.{ℕ, zero, suc, ◌+◌, ◌-◌, List, [], ◌∷◌, ◌++◌, length, Bool, true, false, ◌||◌, Option, Some, None, Result, Ok, Err, is_some, nat_le, if◌then◌else◌}
use Rattle.script_token.specs.Tokens.{Token}
use Rattle.script_reader.specs.Steps.{Told, ◌>>=◌, stop_at, repeated, name_at, number_at, next_is, accept_at, expect_at, read_name_at, read_process_at, spawn_process_at, bind_name_at, bind_names_at, Here}
use Rattle.script_grammar.specs.Meaning.{if_some}
use Rattle.script_reader.specs.Exprs.{expr_at, list_at, test_at}
use Rattle.script_tree.specs.Trees.{Event, Sends, Receives, IsReady, IsNever, IsCancelled, IsJoined, Chooses, Wraps, Guards, Nacks, Events, NoMembers, Members, Stmt, Lets, Prints, Syncs, Branches, Loops, LoopsForever, Ends, Spawns, Block, Stops, Runs, LoopBody}
use Rattle.script_reader.specs.declared.process.Loops.{Loops as Place}
use Rattle.script_reader.specs.declared.process.Loops.TheVariants.{Allowed, Forbidden}
use Rattle.script_reader.specs.declared.fault.Problem.TheVariants.{Syntax, TooMany, LoopWithoutSync}
use Rattle.script_token.specs.declared.kind.Symbol.TheVariants.{Let, Print, Sync, If, Else, Loop, Forever, End, Send, Recv, Always, Never, Cancelled, Choose, Wrap, As, To, Guard, Nack, Spawn, Joined, Semicolon, Comma, OpenBrace, CloseBrace, OpenBracket, CloseBracket, Equal, Arrow}

-- what is read, the names from there on, and the tokens behind it
abbrev pub Reads : Type 0 → Type 0
Reads A = Result (A × Here × List Token) Told

-- the word of a base event, which is counted
unfoldable pub base_at : ℕ → Here → List Token → Result (Here × List Token) Told
base_at nesting h ts =
    if nat_le 8 h.counts.bases
    then stop_at TooMany ts
    else (accept_at nesting ts >>= λ rest. Ok (record h { counts = record { bases = h.counts.bases + 1; nacks = h.counts.nacks } }, rest))

-- the word `nack`, which is counted
unfoldable pub nack_word_at : ℕ → Here → List Token → Result (Here × List Token) Told
nack_word_at nesting h ts =
    if nat_le 4 h.counts.nacks
    then stop_at TooMany ts
    else (accept_at nesting ts >>= λ rest. Ok (record h { counts = record { bases = h.counts.bases; nacks = h.counts.nacks + 1 } }, rest))

unfoldable pub send_at : ℕ → Here → List Token → Reads Event
send_at nesting h ts = do
  b ← base_at nesting h ts
  c ← read_name_at nesting b.0 b.1
  l ← list_at nesting b.0 c.1
  Ok (Sends c.0 l.0, b.0, l.1)

unfoldable pub recv_at : ℕ → Here → List Token → Reads Event
recv_at nesting h ts = do
  b ← base_at nesting h ts
  c ← read_name_at nesting b.0 b.1
  Ok (Receives c.0, b.0, c.1)

unfoldable pub always_at : ℕ → Here → List Token → Reads Event
always_at nesting h ts = do
  b ← base_at nesting h ts
  l ← list_at nesting b.0 b.1
  Ok (IsReady l.0, b.0, l.1)

unfoldable pub never_at : ℕ → Here → List Token → Reads Event
never_at nesting h ts = base_at nesting h ts >>= λ b. Ok (IsNever, b.0, b.1)

unfoldable pub cancelled_at : ℕ → Here → List Token → Reads Event
cancelled_at nesting h ts = do
  b ← base_at nesting h ts
  n ← read_name_at nesting b.0 b.1
  Ok (IsCancelled n.0, b.0, n.1)

unfoldable pub joined_at : ℕ → Here → List Token → Reads Event
joined_at nesting h ts = do
  b ← base_at nesting h ts
  p ← read_process_at nesting b.0 b.1
  Ok (IsJoined p.0, b.0, p.1)

-- the names behind `as`, if there are any
unfoldable pub as_names_at : ℕ → Here → List Token → Reads (Option (List ℕ))
as_names_at nesting h ts =
    if next_is As ts
    then (do
      rest ← accept_at nesting ts
      n ← bind_names_at nesting h rest
      Ok (Some n.0, n.1, n.2))
    else Ok (None, h, ts)

abbrev pub chain : List Event → Events
chain [] = NoMembers
chain (e ∷ es) = Members e (chain es)

abbrev pub body : List Stmt → Block
body [] = Stops
body (s ∷ ss) = Runs s (body ss)

-- WITH WHAT READS AN EVENT AND A BLOCK INSIDE

abbrev pub ReadsEvent : Type 0
ReadsEvent = Here → List Token → Reads Event

abbrev pub ReadsBlock : Type 0
ReadsBlock = Place → Here → List Token → Reads Block

-- one more member
abbrev pub member_next : ReadsEvent → ℕ → List Event × Here × List Token → Reads (List Event)
member_next event nesting s = do
  rest ← accept_at nesting s.2
  e ← event s.1 rest
  Ok (s.0 ++ e.0 ∷ [], e.1, e.2)

abbrev pub member_step : ReadsEvent → ℕ → List Event × Here × List Token → Option (Reads (List Event))
member_step event nesting s = if next_is Comma s.2 then Some (member_next event nesting s) else None

unfoldable pub members_with : ReadsEvent → ℕ → Here → List Token → Reads (List Event)
members_with event nesting h ts =
    if next_is CloseBracket ts
    then Ok ([], h, ts)
    else (event h ts >>= λ e. repeated (member_step event nesting) (length ts) (e.0 ∷ [], e.1, e.2))

-- behind the words of the event, `event` and `block` read what lies a level deeper
unfoldable pub choose_with : ReadsEvent → ℕ → Here → List Token → Reads Event
choose_with event nesting h ts = do
  rest ← accept_at nesting ts
  rest ← expect_at nesting OpenBracket rest
  m ← members_with event (nesting - 1) h rest
  rest ← expect_at (nesting - 1) CloseBracket m.2
  Ok (Chooses (chain m.0), m.1, rest)

unfoldable pub wrap_with : ReadsEvent → ℕ → Here → List Token → Reads Event
wrap_with event nesting h ts = do
  rest ← accept_at nesting ts
  e ← event h rest
  n ← as_names_at (nesting - 1) e.1 e.2
  rest ← expect_at (nesting - 1) To n.2
  l ← list_at (nesting - 1) n.1 rest
  Ok (Wraps e.0 n.0 l.0, n.1, l.1)

unfoldable pub guard_with : ReadsEvent → ReadsBlock → ℕ → Here → List Token → Reads Event
guard_with event block nesting h ts = do
  rest ← accept_at nesting ts
  b ← block Forbidden h rest
  e ← event b.1 b.2
  Ok (Guards b.0 e.0, e.1, e.2)

unfoldable pub nack_with : ReadsEvent → ReadsBlock → ℕ → Here → List Token → Reads Event
nack_with event block nesting h ts = do
  w ← nack_word_at nesting h ts
  n ← bind_name_at (nesting - 1) [] w.0 w.1
  b ← block Forbidden n.1 n.2
  e ← event b.1 b.2
  Ok (Nacks n.0 b.0 e.0, e.1, e.2)

unfoldable pub event_with : ReadsEvent → ReadsBlock → ℕ → Here → List Token → Reads Event
event_with event block nesting h ts =
    if next_is Send ts then send_at nesting h ts
    else (if next_is Recv ts then recv_at nesting h ts
    else (if next_is Always ts then always_at nesting h ts
    else (if next_is Never ts then never_at nesting h ts
    else (if next_is Cancelled ts then cancelled_at nesting h ts
    else (if next_is Joined ts then joined_at nesting h ts
    else (if next_is Choose ts then choose_with event nesting h ts
    else (if next_is Wrap ts then wrap_with event nesting h ts
    else (if next_is Guard ts then guard_with event block nesting h ts
    else (if next_is Nack ts then nack_with event block nesting h ts
    else stop_at Syntax ts)))))))))

-- STATEMENTS, WHERE `event` READS AN EVENT

abbrev pub fresh : Here → Here
fresh h = record h { counts = record { bases = 0; nacks = 0 } }

-- a sync's event, whose base events and nacks are its own
unfoldable pub synced_with : ReadsEvent → ℕ → Here → List Token → Reads Event
synced_with event nesting h ts = do
  rest ← expect_at nesting Sync ts
  e ← event (fresh h) rest
  rest ← expect_at nesting Semicolon e.2
  Ok (e.0, record e.1 { counts = h.counts }, rest)

-- a sync, and the names that its result is bound to
unfoldable pub sync_with : ReadsEvent → ℕ → Here → List Token → Reads (Option (List ℕ) × Event)
sync_with event nesting h ts =
    if next_is Sync ts
    then (synced_with event nesting h ts >>= λ e. Ok ((None, e.0), e.1, e.2))
    else (do
      n ← bind_names_at nesting h ts
      rest ← expect_at nesting Arrow n.2
      e ← synced_with event nesting n.1 rest
      Ok ((Some n.0, e.0), e.1, e.2))

unfoldable pub let_at : ℕ → Here → List Token → Reads Stmt
let_at nesting h ts = do
  rest ← accept_at nesting ts
  n ← bind_name_at nesting [] h rest
  rest ← expect_at nesting Equal n.2
  v ← expr_at nesting n.1 rest
  rest ← expect_at nesting Semicolon v.1
  Ok (Lets n.0 v.0, n.1, rest)

unfoldable pub print_at : ℕ → Here → List Token → Result (Stmt × List Token) Told
print_at nesting h ts = do
  rest ← accept_at nesting ts
  v ← expr_at nesting h rest
  rest ← expect_at nesting Semicolon v.1
  Ok (Prints v.0, rest)

unfoldable pub end_at : ℕ → List Token → Result (Stmt × List Token) Told
end_at nesting ts = do
  rest ← accept_at nesting ts
  rest ← expect_at nesting Semicolon rest
  Ok (Ends, rest)

unfoldable pub spawn_at : ℕ → Here → List Token → Reads Stmt
spawn_at nesting h ts = do
  rest ← accept_at nesting ts
  p ← spawn_process_at nesting h rest
  rest ← expect_at nesting Semicolon p.2
  Ok (Spawns p.0, p.1, rest)

unfoldable pub branch_with : ReadsBlock → ℕ → Place → Here → List Token → Reads Stmt
branch_with block nesting place h ts = do
  rest ← accept_at nesting ts
  t ← test_at nesting h rest
  y ← block place h t.1
  rest ← expect_at nesting Else y.2
  n ← block place y.1 rest
  Ok (Branches t.0 y.0 n.0, n.1, n.2)

unfoldable pub times_at : ℕ → List Token → Result (ℕ × List Token) Told
times_at nesting ts = if_some (number_at ts) (λ n. accept_at nesting ts >>= λ rest. Ok (n, rest)) (stop_at Syntax ts)

abbrev pub ReadsTurn : Type 0
ReadsTurn = ℕ → Here → List Token → Reads LoopBody

unfoldable pub counted_with : ReadsTurn → ℕ → Here → List Token → Reads Stmt
counted_with turn nesting h ts = do
  rest ← accept_at nesting ts
  n ← times_at nesting rest
  t ← turn (length ts) h n.1
  Ok (Loops n.0 t.0.names t.0.event t.0.rest, t.1, t.2)

unfoldable pub forever_with : ReadsTurn → ℕ → Here → List Token → Reads Stmt
forever_with turn nesting h ts = do
  rest ← accept_at nesting ts
  t ← turn (length ts) h rest
  Ok (LoopsForever t.0.names t.0.event t.0.rest, t.1, t.2)

abbrev pub are_allowed : Place → Bool
are_allowed Allowed = true
are_allowed Forbidden = false

unfoldable pub stmt_with : ReadsEvent → ReadsBlock → ReadsTurn → ℕ → Place → Here → List Token → Reads Stmt
stmt_with event block turn nesting place h ts =
    if is_some (name_at ts) || next_is Sync ts then (sync_with event nesting h ts >>= λ s. Ok (Syncs s.0.0 s.0.1, s.1, s.2))
    else (if next_is Let ts then let_at nesting h ts
    else (if next_is Print ts then (print_at nesting h ts >>= λ s. Ok (s.0, h, s.1))
    else (if next_is If ts then branch_with block nesting place h ts
    else (if next_is End ts then (end_at nesting ts >>= λ s. Ok (s.0, h, s.1))
    else (if next_is Spawn ts then spawn_at nesting h ts
    else (if are_allowed place
    then (if next_is Loop ts then counted_with turn nesting h ts
    else (if next_is Forever ts then forever_with turn nesting h ts else stop_at Syntax ts))
    else stop_at Syntax ts))))))

-- BLOCKS, WHERE `stmt` READS A STATEMENT

abbrev pub ReadsStmt : Type 0
ReadsStmt = Place → Here → List Token → Reads Stmt

-- one more statement
abbrev pub stmt_next : ReadsStmt → Place → List Stmt × Here × List Token → Reads (List Stmt)
stmt_next stmt place s = stmt place s.1 s.2 >>= λ x. Ok (s.0 ++ x.0 ∷ [], x.1, x.2)

abbrev pub stmt_step : ReadsStmt → Place → List Stmt × Here × List Token → Option (Reads (List Stmt))
stmt_step stmt place s = if next_is CloseBrace s.2 then None else Some (stmt_next stmt place s)

unfoldable pub stmts_with : ReadsStmt → Place → Here → List Token → Reads (List Stmt)
stmts_with stmt place h ts = repeated (stmt_step stmt place) (length ts) ([], h, ts)

unfoldable pub block_with : ReadsStmt → ℕ → ReadsBlock
block_with stmt nesting place h ts = do
  rest ← expect_at nesting OpenBrace ts
  s ← stmts_with stmt place h rest
  rest ← expect_at (nesting - 1) CloseBrace s.2
  Ok (body s.0, s.1, rest)

-- a block ends here, or a statement begins that is no sync
unfoldable pub is_no_sync : List Token → Bool
is_no_sync ts = next_is CloseBrace ts || (next_is Let ts || (next_is Print ts || (next_is If ts || (next_is Loop ts || (next_is Forever ts || (next_is End ts || next_is Spawn ts))))))

abbrev pub no_sync : {A : Type 0} → ℕ → Result A Told
no_sync word = Err (LoopWithoutSync, word)

-- the body of a loop, from whose word on so many tokens are left
unfoldable pub turn_with : ReadsEvent → ReadsStmt → ℕ → ReadsTurn
turn_with event stmt nesting word h ts = do
  rest ← expect_at nesting OpenBrace ts
  if is_no_sync rest
      then (accept_at (nesting - 1) rest >>= λ _. no_sync word)
      else (do
        first ← sync_with event (nesting - 1) h rest
        s ← stmts_with stmt Allowed first.1 first.2
        rest ← expect_at (nesting - 1) CloseBrace s.2
        Ok (record { names = first.0.0; event = first.0.1; rest = body s.0 }, s.1, rest))

-- WITH SO MUCH ROOM

abbrev pub none_there : {A : Type 0} → List Token → Reads A
none_there ts = stop_at Syntax ts

unfoldable mutual
  pub event_at : ℕ → Here → List Token → Reads Event
  event_at zero h ts = event_with (λ _ ts. none_there ts) (λ _ _ ts. none_there ts) zero h ts
  event_at (suc r) h ts = event_with (event_at r) (block_at r) (suc r) h ts

  pub block_at : ℕ → Place → Here → List Token → Reads Block
  block_at zero place h ts = block_with (λ _ _ ts. none_there ts) zero place h ts
  block_at (suc r) place h ts = block_with (λ place h ts. stmt_with (event_at r) (block_at r) (turn_at r) r place h ts) (suc r) place h ts

  pub turn_at : ℕ → ℕ → Here → List Token → Reads LoopBody
  turn_at zero word h ts = turn_with (λ _ ts. none_there ts) (λ _ _ ts. none_there ts) zero word h ts
  turn_at (suc r) word h ts = turn_with (event_at r) (λ place h ts. stmt_with (event_at r) (block_at r) (turn_at r) r place h ts) (suc r) word h ts

unfoldable pub stmt_at : ℕ → Place → Here → List Token → Reads Stmt
stmt_at nesting place h ts = stmt_with (event_at nesting) (block_at nesting) (turn_at nesting) nesting place h ts
