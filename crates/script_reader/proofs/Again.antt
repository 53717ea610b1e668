-- Events, statements and blocks: what is written is read.
use Rattle.std.proofs.Common.{◌≡◌, ℕ, zero, suc, ◌+◌, ◌-◌, ◌<◌, ◌≤◌, Bool, true, false, leb, List, [], ◌∷◌, ◌++◌, length, Option, Some, None, Result, Ok, refl, sym, ap, ap₂, ◌∙◌, subst, arith, tests, append_assoc}
use Rattle.std.proofs.lemmas.Bool.{and_parts}
use Rattle.std.proofs.lemmas.Bool.Decides.{nat_tests}
use Rattle.std.proofs.lemmas.List.{append-nil}
use Rattle.script_token.specs.Tokens.{Token, Fixed, Name, Number}
use Rattle.script_token.specs.declared.kind.Symbol.{Symbol}
use Rattle.script_token.specs.declared.kind.Symbol.TheVariants.{CloseParen, Let, Print, Sync, If, Else, Loop, Forever, End, Send, Recv, Always, Never, Cancelled, Choose, Wrap, As, To, Guard, Nack, Spawn, Joined, Semicolon, Comma, OpenBrace, CloseBrace, OpenBracket, CloseBracket, Equal, Arrow}
use Rattle.script_tree.specs.Trees as trees
use Rattle.script_tree.specs.Trees.{LoopBody}
use Rattle.script_tree.specs.declared.tree.Name.{Name as Meaning}
use Rattle.script_tree.specs.Limits.{base_count, bases_of_all, nack_count, nacks_of_all}
use Rattle.script_reader.specs.Steps.{Told, Here, next_is, repeated}
use Rattle.script_reader.specs.declared.scope.Counts.{Counts}
use Rattle.script_grammar.specs.Written as written
use Rattle.script_grammar.specs.Written.{Expr, relation_symbol, terms_tokens, expr_tokens, test_tokens, others_tokens, list_tokens, more_names_tokens, as_tokens, received_tokens, event_tokens, more_events_tokens, stmt_tokens, body_tokens, block_tokens}
use Rattle.script_grammar.specs.Depths.{expr_depth, list_depth, test_depth, event_depth, events_depth, stmt_depth, stmts_depth, block_depth}
use Rattle.script_grammar.specs.Meaning.{place, is_among, Names, name_meaning, expr_meaning, test_meaning, list_meaning, bind, bind_all, bind_names, is_small, as_turn, event_meaning, events_meaning, stmt_meaning, block_meaning}
use Rattle.script_reader.specs.Laws.{at}
use Rattle.script_reader.proofs.ReadFronts.{accept_ok, expect_ok, is_next, no_step, one_step}
use Rattle.script_grammar.proofs.Parts.{part, some_is, if_else_some, unless_some}
use Rattle.script_reader.proofs.ReadNames.{name_again, process_again, spawn_again, bind_again, names_again}
use Rattle.script_reader.proofs.ReadExprs.{term_longer, terms_longer}
use Rattle.script_reader.proofs.ReadLists.{expr_reads, test_reads, list_reads}
use Rattle.script_reader.specs.Blocks.{base_at, nack_word_at, send_at, recv_at, always_at, never_at, cancelled_at, joined_at, as_names_at, chain, body, ReadsEvent, ReadsBlock, ReadsTurn, member_step, members_with, choose_with, wrap_with, guard_with, nack_with, event_with, synced_with, sync_with, let_at, print_at, end_at, spawn_at, branch_with, times_at, counted_with, forever_with, are_allowed, stmt_with, stmt_step, stmts_with, block_with, is_no_sync, turn_with, event_at, block_at, turn_at, stmt_at}
use Rattle.script_reader.specs.declared.process.Loops.{Loops as Place}
use Rattle.script_reader.specs.declared.process.Loops.TheVariants.{Allowed, Forbidden}
use Rattle.script_reader.proofs.Blocking.{event_at_is, block_at_is, turn_at_is}

-- WHAT IS WRITTEN IS NOT SHORTER THAN WHAT FOLLOWS

expr_longer : (e : Expr) (rest : List Token) → length rest ≤ length (expr_tokens e rest)
expr_longer e rest =
    let a = terms_longer e.more rest in
    let b = term_longer e.first (terms_tokens e.more rest) in
    omega (arith, a, b)

others_longer : (es : List Expr) (rest : List Token) → length rest ≤ length (others_tokens es rest)
others_longer [] rest = omega arith
others_longer (e ∷ es) rest =
    let a = others_longer es rest in
    let b = expr_longer e (others_tokens es rest) in
    omega (arith, a, b)

list_longer : (es : List Expr) (rest : List Token) → length rest ≤ length (list_tokens es rest)
list_longer [] rest = omega arith
list_longer (e ∷ es) rest =
    let a = others_longer es (Fixed CloseParen ∷ rest) in
    let b = expr_longer e (others_tokens es (Fixed CloseParen ∷ rest)) in
    omega (arith, a, b)

names_longer : (names : List (List ℕ)) (rest : List Token) → length rest ≤ length (more_names_tokens names rest)
names_longer [] rest = omega arith
names_longer (name ∷ names) rest = (let a = names_longer names rest in omega (arith, a))

as_longer : (names : List (List ℕ)) (rest : List Token) → length rest ≤ length (as_tokens names rest)
as_longer [] rest = omega arith
as_longer (name ∷ names) rest = (let a = names_longer names rest in omega (arith, a))

received_longer : (names : List (List ℕ)) (rest : List Token) → length rest ≤ length (received_tokens names rest)
received_longer [] rest = omega arith
received_longer (name ∷ names) rest = (let a = names_longer names (Fixed Arrow ∷ rest) in omega (arith, a))

test_longer : (t : written.Test) (rest : List Token) → length rest ≤ length (test_tokens t rest)
test_longer t rest =
    let a = expr_longer t.right rest in
    let b = expr_longer t.left (Fixed (relation_symbol t.relation) ∷ expr_tokens t.right rest) in
    omega (arith, a, b)

mutual
  event_longer : (e : written.Event) (rest : List Token) → length rest ≤ length (event_tokens e rest)
  event_longer (written.Send channel list) rest = (let a = list_longer list rest in omega (arith, a))
  event_longer (written.Recv channel) rest = omega arith
  event_longer (written.Always list) rest = (let a = list_longer list rest in omega (arith, a))
  event_longer written.Never rest = omega arith
  event_longer (written.Cancelled nack) rest = omega arith
  event_longer (written.Joined process) rest = omega arith
  event_longer (written.Choose written.NoEvents) rest = omega arith
  event_longer (written.Choose (written.Another event others)) rest =
      let a = more_longer others (Fixed CloseBracket ∷ rest) in
      let b = event_longer event (more_events_tokens others (Fixed CloseBracket ∷ rest)) in
      omega (arith, a, b)
  event_longer (written.Wrap event names list) rest =
      let a = list_longer list rest in
      let b = as_longer names (Fixed To ∷ list_tokens list rest) in
      let c = event_longer event (as_tokens names (Fixed To ∷ list_tokens list rest)) in
      omega (arith, a, b, c)
  event_longer (written.Guard body event) rest =
      let a = event_longer event rest in
      let b = body_longer body (event_tokens event rest) in
      omega (arith, a, b)
  event_longer (written.Nack name body event) rest =
      let a = event_longer event rest in
      let b = body_longer body (event_tokens event rest) in
      omega (arith, a, b)

  more_longer : (es : written.Events) (rest : List Token) → length rest ≤ length (more_events_tokens es rest)
  more_longer written.NoEvents rest = omega arith
  more_longer (written.Another event others) rest =
      let a = more_longer others rest in
      let b = event_longer event (more_events_tokens others rest) in
      omega (arith, a, b)

  stmt_longer : (s : written.Stmt) (rest : List Token) → length rest < length (stmt_tokens s rest)
  stmt_longer (written.Let name value) rest = (let a = expr_longer value (Fixed Semicolon ∷ rest) in omega (arith, a))
  stmt_longer (written.Print value) rest = (let a = expr_longer value (Fixed Semicolon ∷ rest) in omega (arith, a))
  stmt_longer (written.Sync names event) rest =
      let a = event_longer event (Fixed Semicolon ∷ rest) in
      let b = received_longer names (Fixed Sync ∷ event_tokens event (Fixed Semicolon ∷ rest)) in
      omega (arith, a, b)
  stmt_longer (written.If test first second) rest =
      let a = body_longer second rest in
      let b = body_longer first (Fixed Else ∷ block_tokens second rest) in
      let c = test_longer test (block_tokens first (Fixed Else ∷ block_tokens second rest)) in
      omega (arith, a, b, c)
  stmt_longer (written.Loop times body) rest = (let a = body_longer body rest in omega (arith, a))
  stmt_longer (written.Forever body) rest = (let a = body_longer body rest in omega (arith, a))
  stmt_longer written.End rest = omega arith
  stmt_longer (written.Spawn process) rest = omega arith

  pub body_longer : (b : written.Block) (rest : List Token) → length rest < length (body_tokens b rest)
  body_longer written.Done rest = omega arith
  body_longer (written.Then stmt others) rest =
      let a = body_longer others rest in
      let b = stmt_longer stmt (body_tokens others rest) in
      omega (arith, a, b)

-- EVENTS

-- an event that is read, and the counts behind it
record EventAgain (nesting : ℕ) (ns ns' : Names) (counts : Counts) (ts : List Token) (e : trees.Event) (rest : List Token) : Type 0 where
  after : Counts
  reads : event_at nesting (at ns counts) ts ≡ Ok (e, at ns' after, rest)
  bases : after.bases ≡ counts.bases + base_count e
  nacks : after.nacks ≡ counts.nacks + nack_count e

-- the counts leave so much
record Leaves (counts : Counts) (bases nacks : ℕ) : Type 0 where
  bases_left : counts.bases + bases ≤ 8
  nacks_left : counts.nacks + nacks ≤ 4

at_event : (nesting : ℕ) (ns : Names) (counts : Counts) (ts rest : List Token) (x y : trees.Event × Names) → y ≡ x → (Leaves counts (base_count y.0) (nack_count y.0) → EventAgain nesting ns y.1 counts ts y.0 rest)
    → Leaves counts (base_count x.0) (nack_count x.0) → EventAgain nesting ns x.1 counts ts x.0 rest
at_event nesting ns counts ts rest x y same f leaves =
    subst (λ (z : trees.Event × Names). EventAgain nesting ns z.1 counts ts z.0 rest) same (f (subst (λ (z : trees.Event × Names). Leaves counts (base_count z.0) (nack_count z.0)) (sym same) leaves))

abbrev pub one_base : Counts → Counts
one_base counts = record { bases = counts.bases + 1; nacks = counts.nacks }

abbrev one_nack : Counts → Counts
one_nack counts = record { bases = counts.bases; nacks = counts.nacks + 1 }

not_full : (limit n : ℕ) → n < limit → leb limit n ≡ false
not_full limit n h = search (arith, tests)

base_again : (nesting : ℕ) (word : Symbol) (ns : Names) (counts : Counts) (rest : List Token) → 0 < nesting → counts.bases < 8 → base_at nesting (at ns counts) (Fixed word ∷ rest) ≡ Ok (at ns (one_base counts), rest)
unfolding base_at
base_again nesting word ns counts rest some few = rw (not_full 8 counts.bases few, accept_ok nesting (Fixed word) rest some) refl

nack_word_again : (nesting : ℕ) (ns : Names) (counts : Counts) (rest : List Token) → 0 < nesting → counts.nacks < 4 → nack_word_at nesting (at ns counts) (Fixed Nack ∷ rest) ≡ Ok (at ns (one_nack counts), rest)
unfolding nack_word_at
nack_word_again nesting ns counts rest some few = rw (not_full 4 counts.nacks few, accept_ok nesting (Fixed Nack) rest some) refl

send_reads : (event : ReadsEvent) (block : ReadsBlock) (nesting : ℕ) (ns : Names) (counts : Counts) (channel : List ℕ) (list : List Expr) (c : Meaning) (l : List trees.Expr) (rest : List Token)
    → list_depth list < nesting → counts.bases < 8 → name_meaning ns channel ≡ Some c → list_meaning ns list ≡ Some l
    → event_with event block nesting (at ns counts) (event_tokens (written.Send channel list) rest) ≡ Ok (trees.Sends c l, at ns (one_base counts), rest)
unfolding event_with next_is send_at
send_reads event block nesting ns counts channel list c l rest deep few e f =
    rw (base_again nesting Send ns counts (Name channel ∷ list_tokens list rest) (omega arith) few, name_again nesting ns (one_base counts) channel c (list_tokens list rest) (omega arith) e, list_reads list nesting ns (one_base counts) l rest deep f) refl

recv_reads : (event : ReadsEvent) (block : ReadsBlock) (nesting : ℕ) (ns : Names) (counts : Counts) (channel : List ℕ) (c : Meaning) (rest : List Token)
    → 0 < nesting → counts.bases < 8 → name_meaning ns channel ≡ Some c
    → event_with event block nesting (at ns counts) (event_tokens (written.Recv channel) rest) ≡ Ok (trees.Receives c, at ns (one_base counts), rest)
unfolding event_with next_is recv_at
recv_reads event block nesting ns counts channel c rest some few e =
    rw (base_again nesting Recv ns counts (Name channel ∷ rest) some few, name_again nesting ns (one_base counts) channel c rest some e) refl

always_reads : (event : ReadsEvent) (block : ReadsBlock) (nesting : ℕ) (ns : Names) (counts : Counts) (list : List Expr) (l : List trees.Expr) (rest : List Token)
    → list_depth list < nesting → counts.bases < 8 → list_meaning ns list ≡ Some l
    → event_with event block nesting (at ns counts) (event_tokens (written.Always list) rest) ≡ Ok (trees.IsReady l, at ns (one_base counts), rest)
unfolding event_with next_is always_at
always_reads event block nesting ns counts list l rest deep few f =
    rw (base_again nesting Always ns counts (list_tokens list rest) (omega arith) few, list_reads list nesting ns (one_base counts) l rest deep f) refl

never_reads : (event : ReadsEvent) (block : ReadsBlock) (nesting : ℕ) (ns : Names) (counts : Counts) (rest : List Token) → 0 < nesting → counts.bases < 8
    → event_with event block nesting (at ns counts) (event_tokens written.Never rest) ≡ Ok (trees.IsNever, at ns (one_base counts), rest)
unfolding event_with next_is never_at
never_reads event block nesting ns counts rest some few = rw (base_again nesting Never ns counts rest some few) refl

cancelled_reads : (event : ReadsEvent) (block : ReadsBlock) (nesting : ℕ) (ns : Names) (counts : Counts) (nack : List ℕ) (n : Meaning) (rest : List Token)
    → 0 < nesting → counts.bases < 8 → name_meaning ns nack ≡ Some n
    → event_with event block nesting (at ns counts) (event_tokens (written.Cancelled nack) rest) ≡ Ok (trees.IsCancelled n, at ns (one_base counts), rest)
unfolding event_with next_is cancelled_at
cancelled_reads event block nesting ns counts nack n rest some few e =
    rw (base_again nesting Cancelled ns counts (Name nack ∷ rest) some few, name_again nesting ns (one_base counts) nack n rest some e) refl

joined_reads : (event : ReadsEvent) (block : ReadsBlock) (nesting : ℕ) (ns : Names) (counts : Counts) (process : List ℕ) (p : ℕ) (rest : List Token)
    → 0 < nesting → counts.bases < 8 → place process ns.processes ≡ Some p
    → event_with event block nesting (at ns counts) (event_tokens (written.Joined process) rest) ≡ Ok (trees.IsJoined p, at ns (one_base counts), rest)
unfolding event_with next_is joined_at
joined_reads event block nesting ns counts process p rest some few e =
    rw (base_again nesting Joined ns counts (Name process ∷ rest) some few, process_again nesting ns (one_base counts) process p rest some e) refl

choose_reads : (event : ReadsEvent) (block : ReadsBlock) (nesting : ℕ) (h h' : Here) (ts : List Token) (list : List trees.Event) (rest : List Token)
    → 0 < nesting - 1 → members_with event (nesting - 1) h ts ≡ Ok (list, h', Fixed CloseBracket ∷ rest)
    → event_with event block nesting h (Fixed Choose ∷ Fixed OpenBracket ∷ ts) ≡ Ok (trees.Chooses (chain list), h', rest)
unfolding event_with next_is choose_with
choose_reads event block nesting h h' ts list rest some e =
    rw (accept_ok nesting (Fixed Choose) (Fixed OpenBracket ∷ ts) (omega arith), expect_ok nesting OpenBracket ts (omega arith), e, expect_ok (nesting - 1) CloseBracket rest some) refl

as_again : (names : List (List ℕ)) (nesting : ℕ) (ns : Names) (counts : Counts) (b : Option (List ℕ) × Names) (rest : List Token) → 0 < nesting → bind_names ns names ≡ Some b
    → as_names_at nesting (at ns counts) (as_tokens names (Fixed To ∷ rest)) ≡ Ok (b.0, at b.1 counts, Fixed To ∷ rest)
unfolding as_names_at bind_names next_is
as_again [] nesting ns counts b rest some e = ap (λ (y : Option (List ℕ) × Names). Ok (y.0, at y.1 counts, Fixed To ∷ rest)) (some_is _ _ e)
as_again (text ∷ texts) nesting ns counts b rest some e =
    if_else_some (leb (length texts) 2) _ b e
    (λ few f.
    let n = part (bind_all [] ns (text ∷ texts)) _ b f in
    rw (accept_ok nesting (Fixed As) (Name text ∷ more_names_tokens texts (Fixed To ∷ rest)) some, names_again nesting ns counts text texts n.first (Fixed To ∷ rest) some few n.is refl)
    (ap (λ (y : Option (List ℕ) × Names). Ok (y.0, at y.1 counts, Fixed To ∷ rest)) (some_is _ _ n.then)))

wrap_reads : (event : ReadsEvent) (block : ReadsBlock) (nesting : ℕ) (h : Here) (ns : Names) (counts : Counts) (ts : List Token) (e : trees.Event) (names : List (List ℕ)) (b : Option (List ℕ) × Names) (list : List Expr) (l : List trees.Expr) (rest : List Token)
    → list_depth list < nesting - 1 → event h ts ≡ Ok (e, at ns counts, as_tokens names (Fixed To ∷ list_tokens list rest)) → bind_names ns names ≡ Some b → list_meaning b.1 list ≡ Some l
    → event_with event block nesting h (Fixed Wrap ∷ ts) ≡ Ok (trees.Wraps e b.0 l, at b.1 counts, rest)
unfolding event_with next_is wrap_with
wrap_reads event block nesting h ns counts ts e names b list l rest deep inner bound meant =
    rw (accept_ok nesting (Fixed Wrap) ts (omega arith), inner, as_again names (nesting - 1) ns counts b (list_tokens list rest) (omega arith) bound, expect_ok (nesting - 1) To (list_tokens list rest) (omega arith), list_reads list (nesting - 1) b.1 counts l rest deep meant) refl

guard_reads : (event : ReadsEvent) (block : ReadsBlock) (nesting : ℕ) (h h' h'' : Here) (ts ts' rest : List Token) (b : trees.Block) (e : trees.Event)
    → 0 < nesting → block Forbidden h ts ≡ Ok (b, h', ts') → event h' ts' ≡ Ok (e, h'', rest)
    → event_with event block nesting h (Fixed Guard ∷ ts) ≡ Ok (trees.Guards b e, h'', rest)
unfolding event_with next_is guard_with
guard_reads event block nesting h h' h'' ts ts' rest b e some first second = rw (accept_ok nesting (Fixed Guard) ts some, first, second) refl

nack_reads : (event : ReadsEvent) (block : ReadsBlock) (nesting : ℕ) (ns : Names) (counts : Counts) (h' h'' : Here) (name : List ℕ) (n : ℕ × Names) (ts ts' rest : List Token) (b : trees.Block) (e : trees.Event)
    → 0 < nesting - 1 → counts.nacks < 4 → bind [] ns name ≡ Some n → block Forbidden (at n.1 (one_nack counts)) ts ≡ Ok (b, h', ts') → event h' ts' ≡ Ok (e, h'', rest)
    → event_with event block nesting (at ns counts) (Fixed Nack ∷ Name name ∷ ts) ≡ Ok (trees.Nacks n.0 b e, h'', rest)
unfolding event_with next_is nack_with
nack_reads event block nesting ns counts h' h'' name n ts ts' rest b e some few bound first second =
    rw (nack_word_again nesting ns counts (Name name ∷ ts) (omega arith) few, bind_again (nesting - 1) [] ns (one_nack counts) name n ts some bound, first, second) refl

-- members that are read behind those so far
record MoreAgain (nesting : ℕ) (ns ns' : Names) (counts : Counts) (ts : List Token) (n : ℕ) (s : List trees.Event) (events : trees.Events) (rest : List Token) : Type 0 where
  after : Counts
  list : List trees.Event
  reads : repeated (member_step (event_at nesting) nesting) n (s, at ns counts, ts) ≡ Ok (s ++ list, at ns' after, rest)
  chained : chain list ≡ events
  bases : after.bases ≡ counts.bases + bases_of_all events
  nacks : after.nacks ≡ counts.nacks + nacks_of_all events

abbrev AgainSoFar : Type 0
AgainSoFar = List trees.Event × Here × List Token

at_more : (nesting : ℕ) (ns : Names) (counts : Counts) (ts : List Token) (n : ℕ) (s : List trees.Event) (rest : List Token) (x y : trees.Events × Names) → y ≡ x
    → (Leaves counts (bases_of_all y.0) (nacks_of_all y.0) → MoreAgain nesting ns y.1 counts ts n s y.0 rest)
    → Leaves counts (bases_of_all x.0) (nacks_of_all x.0) → MoreAgain nesting ns x.1 counts ts n s x.0 rest
at_more nesting ns counts ts n s rest x y same f leaves =
    subst (λ (z : trees.Events × Names). MoreAgain nesting ns z.1 counts ts n s z.0 rest) same (f (subst (λ (z : trees.Events × Names). Leaves counts (bases_of_all z.0) (nacks_of_all z.0)) (sym same) leaves))

no_more_step : (nesting : ℕ) (event : ReadsEvent) (s : List trees.Event) (h : Here) (rest : List Token) → member_step event nesting (s, h, Fixed CloseBracket ∷ rest) ≡ None
unfolding next_is
no_more_step nesting event s h rest = refl

more_step : (nesting : ℕ) (event : ReadsEvent) (s : List trees.Event) (h h' : Here) (ts rest : List Token) (e : trees.Event) → 0 < nesting → event h ts ≡ Ok (e, h', rest)
    → member_step event nesting (s, h, Fixed Comma ∷ ts) ≡ Some (Ok (s ++ e ∷ [], h', rest))
more_step nesting event s h h' ts rest e some read = rw (is_next Comma ts, accept_ok nesting (Fixed Comma) ts some, read) refl

no_bracket : (e : written.Event) (rest : List Token) → next_is CloseBracket (event_tokens e rest) ≡ false
unfolding next_is
no_bracket (written.Send channel list) rest = refl
no_bracket (written.Recv channel) rest = refl
no_bracket (written.Always list) rest = refl
no_bracket written.Never rest = refl
no_bracket (written.Cancelled nack) rest = refl
no_bracket (written.Joined process) rest = refl
no_bracket (written.Choose members) rest = refl
no_bracket (written.Wrap event names list) rest = refl
no_bracket (written.Guard body event) rest = refl
no_bracket (written.Nack name body event) rest = refl

no_members_read : (event : ReadsEvent) (nesting : ℕ) (h : Here) (rest : List Token) → members_with event nesting h (Fixed CloseBracket ∷ rest) ≡ Ok ([], h, Fixed CloseBracket ∷ rest)
unfolding members_with next_is
no_members_read event nesting h rest = refl

members_read_from : (nesting : ℕ) (h h' : Here) (w : written.Event) (behind : List Token) (e : trees.Event) (y : AgainSoFar)
    → event_at nesting h (event_tokens w behind) ≡ Ok (e, h', behind) → repeated (member_step (event_at nesting) nesting) (length (event_tokens w behind)) (e ∷ [], h', behind) ≡ Ok y
    → members_with (event_at nesting) nesting h (event_tokens w behind) ≡ Ok y
unfolding members_with
members_read_from nesting h h' w behind e y first others = rw (no_bracket w behind, first) others

-- STATEMENTS

abbrev pub no_counts : Counts
no_counts = record { bases = 0; nacks = 0 }

synced_reads : (event : ReadsEvent) (nesting : ℕ) (ns ns' : Names) (counts after : Counts) (ts : List Token) (e : trees.Event) (rest : List Token)
    → 0 < nesting → event (at ns no_counts) ts ≡ Ok (e, at ns' after, Fixed Semicolon ∷ rest) → synced_with event nesting (at ns counts) (Fixed Sync ∷ ts) ≡ Ok (e, at ns' counts, rest)
unfolding synced_with
synced_reads event nesting ns ns' counts after ts e rest some read = rw (expect_ok nesting Sync ts some, read, expect_ok nesting Semicolon rest some) refl

let_reads : (event : ReadsEvent) (block : ReadsBlock) (turn : ReadsTurn) (nesting : ℕ) (place : Place) (ns : Names) (counts : Counts) (name : List ℕ) (value : Expr) (n : ℕ × Names) (v : trees.Expr) (rest : List Token)
    → expr_depth value < nesting → bind [] ns name ≡ Some n → expr_meaning n.1 value ≡ Some v
    → stmt_with event block turn nesting place (at ns counts) (stmt_tokens (written.Let name value) rest) ≡ Ok (trees.Lets n.0 v, at n.1 counts, rest)
unfolding stmt_with next_is let_at
let_reads event block turn nesting place ns counts name value n v rest deep bound meant =
    let behind = expr_tokens value (Fixed Semicolon ∷ rest) in
    rw (
      accept_ok nesting (Fixed Let) (Name name ∷ Fixed Equal ∷ behind) (omega arith),
      bind_again nesting [] ns counts name n (Fixed Equal ∷ behind) (omega arith) bound,
      expect_ok nesting Equal behind (omega arith),
      expr_reads value nesting n.1 counts v (Fixed Semicolon ∷ rest) deep meant refl,
      expect_ok nesting Semicolon rest (omega arith),
    ) refl

print_reads : (event : ReadsEvent) (block : ReadsBlock) (turn : ReadsTurn) (nesting : ℕ) (place : Place) (ns : Names) (counts : Counts) (value : Expr) (v : trees.Expr) (rest : List Token)
    → expr_depth value < nesting → expr_meaning ns value ≡ Some v
    → stmt_with event block turn nesting place (at ns counts) (stmt_tokens (written.Print value) rest) ≡ Ok (trees.Prints v, at ns counts, rest)
unfolding stmt_with next_is print_at
print_reads event block turn nesting place ns counts value v rest deep meant =
    rw (accept_ok nesting (Fixed Print) (expr_tokens value (Fixed Semicolon ∷ rest)) (omega arith), expr_reads value nesting ns counts v (Fixed Semicolon ∷ rest) deep meant refl, expect_ok nesting Semicolon rest (omega arith)) refl

end_reads : (event : ReadsEvent) (block : ReadsBlock) (turn : ReadsTurn) (nesting : ℕ) (place : Place) (h : Here) (rest : List Token) → 0 < nesting
    → stmt_with event block turn nesting place h (stmt_tokens written.End rest) ≡ Ok (trees.Ends, h, rest)
unfolding stmt_with next_is end_at
end_reads event block turn nesting place h rest some = rw (accept_ok nesting (Fixed End) (Fixed Semicolon ∷ rest) some, expect_ok nesting Semicolon rest some) refl

spawn_reads : (event : ReadsEvent) (block : ReadsBlock) (turn : ReadsTurn) (nesting : ℕ) (place' : Place) (ns : Names) (counts : Counts) (process : List ℕ) (p : ℕ) (rest : List Token)
    → 0 < nesting → place process ns.processes ≡ Some p → is_among ns.spawned p ≡ false
    → stmt_with event block turn nesting place' (at ns counts) (stmt_tokens (written.Spawn process) rest) ≡ Ok (trees.Spawns p, at (record ns { spawned = ns.spawned ++ p ∷ [] }) counts, rest)
unfolding stmt_with next_is spawn_at
spawn_reads event block turn nesting place' ns counts process p rest some e new =
    rw (accept_ok nesting (Fixed Spawn) (Name process ∷ Fixed Semicolon ∷ rest) some, spawn_again nesting ns counts process p (Fixed Semicolon ∷ rest) some e new, expect_ok nesting Semicolon rest some) refl

sync_reads : (names : List (List ℕ)) (event : ReadsEvent) (nesting : ℕ) (ns ns' : Names) (counts after : Counts) (b : Option (List ℕ) × Names) (ts : List Token) (e : trees.Event) (rest : List Token)
    → 0 < nesting → bind_names ns names ≡ Some b → event (at b.1 no_counts) ts ≡ Ok (e, at ns' after, Fixed Semicolon ∷ rest)
    → sync_with event nesting (at ns counts) (received_tokens names (Fixed Sync ∷ ts)) ≡ Ok ((b.0, e), at ns' counts, rest)
unfolding next_is bind_names sync_with
sync_reads [] event nesting ns ns' counts after b ts e rest some bound read =
    let same : (None, ns) ≡ b = some_is _ _ bound in
    let read' : event (at ns no_counts) ts ≡ Ok (e, at ns' after, Fixed Semicolon ∷ rest) = ap (λ (y : Option (List ℕ) × Names). event (at y.1 no_counts) ts) same ∙ read in
    rw (synced_reads event nesting ns ns' counts after ts e rest some read') (ap (λ (y : Option (List ℕ) × Names). Ok ((y.0, e), at ns' counts, rest)) same)
sync_reads (text ∷ texts) event nesting ns ns' counts after b ts e rest some bound read =
    if_else_some (leb (length texts) 2) _ b bound
    (λ few f.
    let n = part (bind_all [] ns (text ∷ texts)) _ b f in
    let same : (Some n.first.0, n.first.1) ≡ b = some_is _ _ n.then in
    let read' : event (at n.first.1 no_counts) ts ≡ Ok (e, at ns' after, Fixed Semicolon ∷ rest) = ap (λ (y : Option (List ℕ) × Names). event (at y.1 no_counts) ts) same ∙ read in
    rw (names_again nesting ns counts text texts n.first (Fixed Arrow ∷ Fixed Sync ∷ ts) some few n.is refl, expect_ok nesting Arrow (Fixed Sync ∷ ts) some, synced_reads event nesting n.first.1 ns' counts after ts e rest some read')
    (ap (λ (y : Option (List ℕ) × Names). Ok ((y.0, e), at ns' counts, rest)) same))

-- what begins as a sync is read as a statement
begins_as_sync : (names : List (List ℕ)) (event : ReadsEvent) (block : ReadsBlock) (turn : ReadsTurn) (nesting : ℕ) (place : Place) (h h' : Here) (ts : List Token) (sync : Option (List ℕ) × trees.Event) (rest : List Token)
    → sync_with event nesting h (received_tokens names (Fixed Sync ∷ ts)) ≡ Ok (sync, h', rest) → stmt_with event block turn nesting place h (received_tokens names (Fixed Sync ∷ ts)) ≡ Ok (trees.Syncs sync.0 sync.1, h', rest)
unfolding stmt_with next_is
begins_as_sync [] event block turn nesting place h h' ts sync rest e = rw e refl
begins_as_sync (text ∷ texts) event block turn nesting place h h' ts sync rest e = rw e refl

branch_reads : (event : ReadsEvent) (block : ReadsBlock) (turn : ReadsTurn) (nesting : ℕ) (place : Place) (ns : Names) (counts : Counts) (h' h'' : Here) (test : written.Test) (t : trees.Test) (first second : written.Block) (f s : trees.Block) (rest : List Token)
    → test_depth test < nesting → test_meaning ns test ≡ Some t
    → block place (at ns counts) (block_tokens first (Fixed Else ∷ block_tokens second rest)) ≡ Ok (f, h', Fixed Else ∷ block_tokens second rest) → block place h' (block_tokens second rest) ≡ Ok (s, h'', rest)
    → stmt_with event block turn nesting place (at ns counts) (stmt_tokens (written.If test first second) rest) ≡ Ok (trees.Branches t f s, h'', rest)
unfolding stmt_with next_is branch_with
branch_reads event block turn nesting place ns counts h' h'' test t first second f s rest deep meant one two =
    let behind = block_tokens first (Fixed Else ∷ block_tokens second rest) in
    rw (accept_ok nesting (Fixed If) (test_tokens test behind) (omega arith), test_reads test nesting ns counts t behind deep meant refl, one, expect_ok nesting Else (block_tokens second rest) (omega arith), two) refl

counted_reads : (event : ReadsEvent) (block : ReadsBlock) (turn : ReadsTurn) (nesting times : ℕ) (h h' : Here) (ts : List Token) (t : LoopBody) (rest : List Token)
    → 0 < nesting → turn (length (Fixed Loop ∷ Number times ∷ ts)) h ts ≡ Ok (t, h', rest)
    → stmt_with event block turn nesting Allowed h (Fixed Loop ∷ Number times ∷ ts) ≡ Ok (trees.Loops times t.names t.event t.rest, h', rest)
unfolding stmt_with next_is counted_with times_at
counted_reads event block turn nesting times h h' ts t rest some read =
    rw (accept_ok nesting (Fixed Loop) (Number times ∷ ts) some, accept_ok nesting (Number times) ts some, read) refl

forever_reads : (event : ReadsEvent) (block : ReadsBlock) (turn : ReadsTurn) (nesting : ℕ) (h h' : Here) (ts : List Token) (t : LoopBody) (rest : List Token)
    → 0 < nesting → turn (length (Fixed Forever ∷ ts)) h ts ≡ Ok (t, h', rest)
    → stmt_with event block turn nesting Allowed h (Fixed Forever ∷ ts) ≡ Ok (trees.LoopsForever t.names t.event t.rest, h', rest)
unfolding stmt_with next_is forever_with
forever_reads event block turn nesting h h' ts t rest some read = rw (accept_ok nesting (Fixed Forever) ts some, read) refl

-- BLOCKS

no_brace : (s : written.Stmt) (rest : List Token) → next_is CloseBrace (stmt_tokens s rest) ≡ false
unfolding next_is
no_brace (written.Let name value) rest = refl
no_brace (written.Print value) rest = refl
no_brace (written.Sync [] event) rest = refl
no_brace (written.Sync (name ∷ names) event) rest = refl
no_brace (written.If test first second) rest = refl
no_brace (written.Loop times body) rest = refl
no_brace (written.Forever body) rest = refl
no_brace written.End rest = refl
no_brace (written.Spawn process) rest = refl

stmt_steps : (nesting : ℕ) (place : Place) (s : List trees.Stmt) (h h' : Here) (w : written.Stmt) (behind : List Token) (x : trees.Stmt) → stmt_at nesting place h (stmt_tokens w behind) ≡ Ok (x, h', behind)
    → stmt_step (stmt_at nesting) place (s, h, stmt_tokens w behind) ≡ Some (Ok (s ++ x ∷ [], h', behind))
stmt_steps nesting place s h h' w behind x read = rw (no_brace w behind, read) refl

last_step : (nesting : ℕ) (place : Place) (s : List trees.Stmt) (h : Here) (rest : List Token) → stmt_step (stmt_at nesting) place (s, h, Fixed CloseBrace ∷ rest) ≡ None
last_step nesting place s h rest = rw (is_next CloseBrace rest) refl

-- statements that are read behind those so far
record BodyAgain (nesting : ℕ) (place : Place) (ns ns' : Names) (counts : Counts) (ts : List Token) (n : ℕ) (s : List trees.Stmt) (b : trees.Block) (rest : List Token) : Type 0 where
  list : List trees.Stmt
  reads : repeated (stmt_step (stmt_at nesting) place) n (s, at ns counts, ts) ≡ Ok (s ++ list, at ns' counts, Fixed CloseBrace ∷ rest)
  bodied : body list ≡ b

block_reads : (nesting : ℕ) (place : Place) (ns ns' : Names) (counts : Counts) (w : written.Block) (b : trees.Block) (rest : List Token) → 0 < nesting - 1
    → BodyAgain (nesting - 1) place ns ns' counts (body_tokens w rest) (length (body_tokens w rest)) [] b rest
    → block_at nesting place (at ns counts) (block_tokens w rest) ≡ Ok (b, at ns' counts, rest)
unfolding block_with stmts_with
block_reads nesting place ns ns' counts w b rest some inner =
    block_at_is nesting place (at ns counts) (block_tokens w rest) ∙
    rw (expect_ok nesting OpenBrace (body_tokens w rest) (omega arith), inner.reads, expect_ok (nesting - 1) CloseBrace rest some) (ap (λ (y : trees.Block). Ok (y, at ns' counts, rest)) inner.bodied)

abbrev is_sync : written.Stmt → Bool
is_sync (written.Sync names event) = true
is_sync (written.Let name value) = false
is_sync (written.Print value) = false
is_sync (written.If test first second) = false
is_sync (written.Loop times body) = false
is_sync (written.Forever body) = false
is_sync written.End = false
is_sync (written.Spawn process) = false

-- a turn's first statement and the others
record TurnParts (ns : Names) (w : written.Stmt) (others : written.Block) (b : trees.Block × Names) (t : LoopBody) : Type 0 where
  first : trees.Stmt × Names
  first_is : stmt_meaning true ns w ≡ Some first
  others' : trees.Block × Names
  others_is : block_meaning true first.1 others ≡ Some others'
  turn : as_turn (trees.Runs first.0 others'.0) ≡ Some t
  after : others'.1 ≡ b.1

turn_parts : (ns : Names) (w : written.Stmt) (others : written.Block) (b : trees.Block × Names) (t : LoopBody) → block_meaning true ns (written.Then w others) ≡ Some b → as_turn b.0 ≡ Some t → TurnParts ns w others b t
unfolding block_meaning
turn_parts ns w others b t e f =
    let s = part (stmt_meaning true ns w) _ b e in
    let o = part (block_meaning true s.first.1 others) _ b s.then in
    let same : (trees.Runs s.first.0 o.first.0, o.first.1) ≡ b = some_is _ _ o.then in
    record {
      first = s.first;
      first_is = s.is;
      others' = o.first;
      others_is = o.is;
      turn = ap (λ (y : trees.Block × Names). as_turn y.0) same ∙ f;
      after = ap (λ (y : trees.Block × Names). y.1) same;
    }

-- what means a turn begins with a sync
no_turn : (w : written.Stmt) (ns : Names) (x : trees.Stmt × Names) (o : trees.Block) (t : LoopBody) → is_sync w ≡ false → stmt_meaning true ns w ≡ Some x → as_turn (trees.Runs x.0 o) ≡ Some t → ⊥
unfolding stmt_meaning
no_turn (written.Sync names event) ns x o t other e f = absurd cc
no_turn (written.Let name value) ns x o t other e f =
    let n = part (bind [] ns name) _ x e in
    let v = part (expr_meaning n.first.1 value) _ x n.then in
    let same : None ≡ Some t = ap (λ (y : trees.Stmt × Names). as_turn (trees.Runs y.0 o)) (some_is _ _ v.then) ∙ f in absurd cc
no_turn (written.Print value) ns x o t other e f =
    let v = part (expr_meaning ns value) _ x e in
    let same : None ≡ Some t = ap (λ (y : trees.Stmt × Names). as_turn (trees.Runs y.0 o)) (some_is _ _ v.then) ∙ f in absurd cc
no_turn (written.If test first second) ns x o t other e f =
    let v = part (test_meaning ns test) _ x e in
    let a = part (block_meaning true ns first) _ x v.then in
    let b = part (block_meaning true a.first.1 second) _ x a.then in
    let same : None ≡ Some t = ap (λ (y : trees.Stmt × Names). as_turn (trees.Runs y.0 o)) (some_is _ _ b.then) ∙ f in absurd cc
no_turn (written.Loop times body) ns x o t other e f =
    let b = part (block_meaning true ns body) _ x e in
    let v = part (as_turn b.first.0) _ x b.then in
    let same : None ≡ Some t = ap (λ (y : trees.Stmt × Names). as_turn (trees.Runs y.0 o)) (some_is _ _ v.then) ∙ f in absurd cc
no_turn (written.Forever body) ns x o t other e f =
    let b = part (block_meaning true ns body) _ x e in
    let v = part (as_turn b.first.0) _ x b.then in
    let same : None ≡ Some t = ap (λ (y : trees.Stmt × Names). as_turn (trees.Runs y.0 o)) (some_is _ _ v.then) ∙ f in absurd cc
no_turn written.End ns x o t other e f =
    let same : None ≡ Some t = ap (λ (y : trees.Stmt × Names). as_turn (trees.Runs y.0 o)) (some_is _ _ e) ∙ f in absurd cc
no_turn (written.Spawn process) ns x o t other e f =
    let p = part (place process ns.processes) _ x e in
    unless_some (is_among ns.spawned p.first) _ x p.then
    (λ _ g. (let same : None ≡ Some t = ap (λ (y : trees.Stmt × Names). as_turn (trees.Runs y.0 o)) (some_is _ _ g) ∙ f in absurd cc))

no_turn_at : (w : written.Stmt) (others : written.Block) (ns : Names) (b : trees.Block × Names) (t : LoopBody) → is_sync w ≡ false → block_meaning true ns (written.Then w others) ≡ Some b → as_turn b.0 ≡ Some t → ⊥
no_turn_at w others ns b t other e f = (let p = turn_parts ns w others b t e f in no_turn w ns p.first p.others'.0 t other p.first_is p.turn)

begins_with_sync : (names : List (List ℕ)) (event : written.Event) (rest : List Token) → is_no_sync (stmt_tokens (written.Sync names event) rest) ≡ false
unfolding is_no_sync next_is
begins_with_sync [] event rest = refl
begins_with_sync (name ∷ names) event rest = refl

turn_reads : (nesting word : ℕ) (ns ns' ns'' : Names) (counts : Counts) (names : List (List ℕ)) (event : written.Event) (others : written.Block) (sync : Option (List ℕ) × trees.Event) (b : trees.Block) (rest : List Token) → 0 < nesting - 1
    → sync_with (event_at (nesting - 1)) (nesting - 1) (at ns counts) (stmt_tokens (written.Sync names event) (body_tokens others rest)) ≡ Ok (sync, at ns' counts, body_tokens others rest)
    → BodyAgain (nesting - 1) Allowed ns' ns'' counts (body_tokens others rest) (length (body_tokens others rest)) [] b rest
    → turn_at nesting word (at ns counts) (block_tokens (written.Then (written.Sync names event) others) rest) ≡ Ok (record { names = sync.0; event = sync.1; rest = b }, at ns'' counts, rest)
unfolding turn_with stmts_with
turn_reads nesting word ns ns' ns'' counts names event others sync b rest some first inner =
    let behind = body_tokens others rest in
    turn_at_is nesting word (at ns counts) (block_tokens (written.Then (written.Sync names event) others) rest) ∙
    rw (expect_ok nesting OpenBrace (stmt_tokens (written.Sync names event) behind) (omega arith), begins_with_sync names event behind, first, inner.reads, expect_ok (nesting - 1) CloseBrace rest some)
    (ap (λ (y : trees.Block). Ok (record { names = sync.0; event = sync.1; rest = y }, at ns'' counts, rest)) inner.bodied)

-- a small event fits where nothing is counted yet
small_leaves : (e : trees.Event) → is_small e ≡ true → Leaves no_counts (base_count e) (nack_count e)
small_leaves e h =
    let n = base_count e in
    let m = nack_count e in
    let both = and_parts (leb n 8) (leb m 4) h in
    let few_bases : n ≤ 8 = at_most n 8 both.0 in
    let few_nacks : m ≤ 4 = at_most m 4 both.1 in
    record { bases_left = omega arith; nacks_left = omega arith }
  where
    at_most : (a b : ℕ) → leb a b ≡ true → a ≤ b
    at_most a b e = grind (arith, nat_tests)

le_self : (n : ℕ) → n ≤ n
le_self n = omega arith

stmt_at_is : (nesting : ℕ) (place : Place) (h : Here) (ts : List Token) → stmt_at nesting place h ts ≡ stmt_with (event_at nesting) (block_at nesting) (turn_at nesting) nesting place h ts
unfolding stmt_at
stmt_at_is nesting place h ts = refl

with_counts : (counts : Counts) (rest : List Token) (y x : trees.Stmt × Names) → y ≡ x → ◌≡◌ {A = Result (trees.Stmt × Here × List Token) Told} (Ok (y.0, at y.1 counts, rest)) (Ok (x.0, at x.1 counts, rest))
with_counts counts rest y x e = ap (λ (z : trees.Stmt × Names). Ok (z.0, at z.1 counts, rest)) e

mutual
  unfolding event_meaning events_meaning stmt_meaning block_meaning

  event_again : (w : written.Event) (nesting : ℕ) (ns : Names) (counts : Counts) (x : trees.Event × Names) (rest : List Token) → event_depth w < nesting → event_meaning ns w ≡ Some x → Leaves counts (base_count x.0) (nack_count x.0)
      → EventAgain nesting ns x.1 counts (event_tokens w rest) x.0 rest
  event_again (written.Send channel list) nesting ns counts x rest deep e leaves =
      let c = part (name_meaning ns channel) _ x e in
      let l = part (list_meaning ns list) _ x c.then in
      at_event nesting ns counts _ rest x _ (some_is _ _ l.then) (λ fits. record {
        after = one_base counts;
        reads = event_at_is nesting (at ns counts) (event_tokens (written.Send channel list) rest) ∙ send_reads _ _ nesting ns counts channel list c.first l.first rest deep (omega (arith, fits.bases_left)) c.is l.is;
        bases = refl;
        nacks = omega arith;
      }) leaves
  event_again (written.Recv channel) nesting ns counts x rest deep e leaves =
      let c = part (name_meaning ns channel) _ x e in
      at_event nesting ns counts _ rest x _ (some_is _ _ c.then) (λ fits. record {
        after = one_base counts;
        reads = event_at_is nesting (at ns counts) (event_tokens (written.Recv channel) rest) ∙ recv_reads _ _ nesting ns counts channel c.first rest deep (omega (arith, fits.bases_left)) c.is;
        bases = refl;
        nacks = omega arith;
      }) leaves
  event_again (written.Always list) nesting ns counts x rest deep e leaves =
      let l = part (list_meaning ns list) _ x e in
      at_event nesting ns counts _ rest x _ (some_is _ _ l.then) (λ fits. record {
        after = one_base counts;
        reads = event_at_is nesting (at ns counts) (event_tokens (written.Always list) rest) ∙ always_reads _ _ nesting ns counts list l.first rest deep (omega (arith, fits.bases_left)) l.is;
        bases = refl;
        nacks = omega arith;
      }) leaves
  event_again written.Never nesting ns counts x rest deep e leaves =
      at_event nesting ns counts _ rest x _ (some_is _ _ e) (λ fits. record {
        after = one_base counts;
        reads = event_at_is nesting (at ns counts) (event_tokens written.Never rest) ∙ never_reads _ _ nesting ns counts rest deep (omega (arith, fits.bases_left));
        bases = refl;
        nacks = omega arith;
      }) leaves
  event_again (written.Cancelled nack) nesting ns counts x rest deep e leaves =
      let n = part (name_meaning ns nack) _ x e in
      at_event nesting ns counts _ rest x _ (some_is _ _ n.then) (λ fits. record {
        after = one_base counts;
        reads = event_at_is nesting (at ns counts) (event_tokens (written.Cancelled nack) rest) ∙ cancelled_reads _ _ nesting ns counts nack n.first rest deep (omega (arith, fits.bases_left)) n.is;
        bases = refl;
        nacks = omega arith;
      }) leaves
  event_again (written.Joined process) nesting ns counts x rest deep e leaves =
      let p = part (place process ns.processes) _ x e in
      at_event nesting ns counts _ rest x _ (some_is _ _ p.then) (λ fits. record {
        after = one_base counts;
        reads = event_at_is nesting (at ns counts) (event_tokens (written.Joined process) rest) ∙ joined_reads _ _ nesting ns counts process p.first rest deep (omega (arith, fits.bases_left)) p.is;
        bases = refl;
        nacks = omega arith;
      }) leaves
  event_again (written.Choose written.NoEvents) nesting ns counts x rest deep e leaves =
      at_event nesting ns counts _ rest x _ (some_is _ _ e) (λ fits. record {
        after = counts;
        reads = event_at_is nesting (at ns counts) (event_tokens (written.Choose written.NoEvents) rest) ∙ choose_reads _ _ nesting (at ns counts) (at ns counts) (Fixed CloseBracket ∷ rest) [] rest (omega (arith, deep)) (no_members_read _ (nesting - 1) (at ns counts) rest);
        bases = omega arith;
        nacks = omega arith;
      }) leaves
  event_again (written.Choose (written.Another first others)) nesting ns counts x rest deep e leaves =
      let m = part (events_meaning ns (written.Another first others)) _ x e in
      let a = part (event_meaning ns first) _ m.first m.is in
      let b = part (events_meaning a.first.1 others) _ m.first a.then in
      let whole : (trees.Chooses (trees.Members a.first.0 b.first.0), b.first.1) ≡ x = ap (λ (y : trees.Events × Names). (trees.Chooses y.0, y.1)) (some_is _ _ b.then) ∙ some_is _ _ m.then in
      at_event nesting ns counts _ rest x _ whole (λ fits.
      let close = Fixed CloseBracket ∷ rest in
      let behind = more_events_tokens others close in
      let one = event_again first (nesting - 1) ns counts a.first behind (omega (arith, deep)) a.is (record { bases_left = omega (arith, fits.bases_left); nacks_left = omega (arith, fits.nacks_left) }) in
      let more = more_again others (nesting - 1) a.first.1 one.after b.first (length (event_tokens first behind)) (a.first.0 ∷ []) rest (omega (arith, deep)) b.is
      (record { bases_left = omega (arith, fits.bases_left, one.bases); nacks_left = omega (arith, fits.nacks_left, one.nacks) }) (event_longer first behind) in
      let members = members_read_from (nesting - 1) (at ns counts) (at a.first.1 one.after) first behind a.first.0 (a.first.0 ∷ more.list, at b.first.1 more.after, close) one.reads more.reads in
      record {
        after = more.after;
        reads = event_at_is nesting (at ns counts) (event_tokens (written.Choose (written.Another first others)) rest) ∙
            choose_reads _ _ nesting (at ns counts) (at b.first.1 more.after) (event_tokens first behind) (a.first.0 ∷ more.list) rest (omega (arith, deep)) members ∙
            ap (λ (y : trees.Events). Ok (trees.Chooses (trees.Members a.first.0 y), at b.first.1 more.after, rest)) more.chained;
        bases = omega (arith, one.bases, more.bases);
        nacks = omega (arith, one.nacks, more.nacks);
      }) leaves
  event_again (written.Wrap event names list) nesting ns counts x rest deep e leaves =
      let a = part (event_meaning ns event) _ x e in
      let b = part (bind_names a.first.1 names) _ x a.then in
      let l = part (list_meaning b.first.1 list) _ x b.then in
      at_event nesting ns counts _ rest x _ (some_is _ _ l.then) (λ fits.
      let behind = as_tokens names (Fixed To ∷ list_tokens list rest) in
      let one = event_again event (nesting - 1) ns counts a.first behind (omega (arith, deep)) a.is (record { bases_left = fits.bases_left; nacks_left = fits.nacks_left }) in
      record {
        after = one.after;
        reads = event_at_is nesting (at ns counts) (event_tokens (written.Wrap event names list) rest) ∙
            wrap_reads _ _ nesting (at ns counts) a.first.1 one.after (event_tokens event behind) a.first.0 names b.first list l.first rest (omega (arith, deep)) one.reads b.is l.is;
        bases = one.bases;
        nacks = one.nacks;
      }) leaves
  event_again (written.Guard body event) nesting ns counts x rest deep e leaves =
      let b = part (block_meaning false ns body) _ x e in
      let a = part (event_meaning b.first.1 event) _ x b.then in
      at_event nesting ns counts _ rest x _ (some_is _ _ a.then) (λ fits.
      let behind = event_tokens event rest in
      let block = block_reads (nesting - 1) Forbidden ns b.first.1 counts body b.first.0 behind (omega (arith, deep)) (body_again body (nesting - 1 - 1) Forbidden ns counts b.first (length (body_tokens body behind)) [] behind (omega (arith, deep)) b.is (le_self (length (body_tokens body behind)))) in
      let one = event_again event (nesting - 1) b.first.1 counts a.first rest (omega (arith, deep)) a.is (record { bases_left = fits.bases_left; nacks_left = fits.nacks_left }) in
      record {
        after = one.after;
        reads = event_at_is nesting (at ns counts) (event_tokens (written.Guard body event) rest) ∙ guard_reads _ _ nesting (at ns counts) (at b.first.1 counts) (at a.first.1 one.after) (block_tokens body behind) behind rest b.first.0 a.first.0 (omega (arith, deep)) block one.reads;
        bases = one.bases;
        nacks = one.nacks;
      }) leaves
  event_again (written.Nack name body event) nesting ns counts x rest deep e leaves =
      let n = part (bind [] ns name) _ x e in
      let b = part (block_meaning false n.first.1 body) _ x n.then in
      let a = part (event_meaning b.first.1 event) _ x b.then in
      at_event nesting ns counts _ rest x _ (some_is _ _ a.then) (λ fits.
      let behind = event_tokens event rest in
      let block = block_reads (nesting - 1) Forbidden n.first.1 b.first.1 (one_nack counts) body b.first.0 behind (omega (arith, deep)) (body_again body (nesting - 1 - 1) Forbidden n.first.1 (one_nack counts) b.first (length (body_tokens body behind)) [] behind (omega (arith, deep)) b.is (le_self (length (body_tokens body behind)))) in
      let one = event_again event (nesting - 1) b.first.1 (one_nack counts) a.first rest (omega (arith, deep)) a.is (record { bases_left = omega (arith, fits.bases_left); nacks_left = omega (arith, fits.nacks_left) }) in
      record {
        after = one.after;
        reads = event_at_is nesting (at ns counts) (event_tokens (written.Nack name body event) rest) ∙
            nack_reads _ _ nesting ns counts (at b.first.1 (one_nack counts)) (at a.first.1 one.after) name n.first (block_tokens body behind) behind rest b.first.0 a.first.0 (omega (arith, deep)) (omega (arith, fits.nacks_left)) n.is block one.reads;
        bases = omega (arith, one.bases);
        nacks = omega (arith, one.nacks);
      }) leaves

  more_again : (w : written.Events) (nesting : ℕ) (ns : Names) (counts : Counts) (x : trees.Events × Names) (n : ℕ) (s : List trees.Event) (rest : List Token) → events_depth w < nesting → events_meaning ns w ≡ Some x → Leaves counts (bases_of_all x.0) (nacks_of_all x.0)
      → length (more_events_tokens w (Fixed CloseBracket ∷ rest)) ≤ n → MoreAgain nesting ns x.1 counts (more_events_tokens w (Fixed CloseBracket ∷ rest)) n s x.0 (Fixed CloseBracket ∷ rest)
  more_again written.NoEvents nesting ns counts x n s rest deep e leaves fuel =
      at_more nesting ns counts _ n s _ x _ (some_is _ _ e) (λ fits. record {
        after = counts;
        list = [];
        reads = no_step (member_step (event_at nesting) nesting) n _ (no_more_step nesting (event_at nesting) s (at ns counts) rest) ∙ ap (λ (y : List trees.Event). Ok (y, at ns counts, Fixed CloseBracket ∷ rest)) (sym (append-nil s));
        chained = refl;
        bases = omega arith;
        nacks = omega arith;
      }) leaves
  more_again (written.Another first others) nesting ns counts x zero s rest deep e leaves fuel = absurd (omega (arith, fuel))
  more_again (written.Another first others) nesting ns counts x (suc n) s rest deep e leaves fuel =
      let a = part (event_meaning ns first) _ x e in
      let b = part (events_meaning a.first.1 others) _ x a.then in
      at_more nesting ns counts _ (suc n) s _ x _ (some_is _ _ b.then) (λ fits.
      let close = Fixed CloseBracket ∷ rest in
      let behind = more_events_tokens others close in
      let one = event_again first nesting ns counts a.first behind (omega (arith, deep)) a.is (record { bases_left = omega (arith, fits.bases_left); nacks_left = omega (arith, fits.nacks_left) }) in
      let more = more_again others nesting a.first.1 one.after b.first n (s ++ a.first.0 ∷ []) rest (omega (arith, deep)) b.is
      (record { bases_left = omega (arith, fits.bases_left, one.bases); nacks_left = omega (arith, fits.nacks_left, one.nacks) }) (omega (arith, fuel, event_longer first behind)) in
      let step = more_step nesting (event_at nesting) s (at ns counts) (at a.first.1 one.after) (event_tokens first behind) behind a.first.0 (omega (arith, deep)) one.reads in
      record {
        after = more.after;
        list = a.first.0 ∷ more.list;
        reads = one_step (member_step (event_at nesting) nesting) n _ _ _ step (more.reads ∙ ap (λ (y : List trees.Event). Ok (y, at b.first.1 more.after, close)) (append_assoc s (a.first.0 ∷ []) more.list));
        chained = ap (trees.Members a.first.0) more.chained;
        bases = omega (arith, one.bases, more.bases);
        nacks = omega (arith, one.nacks, more.nacks);
      }) leaves

  stmt_again : (w : written.Stmt) (nesting : ℕ) (place : Place) (ns : Names) (counts : Counts) (x : trees.Stmt × Names) (rest : List Token) → stmt_depth w < nesting → stmt_meaning (are_allowed place) ns w ≡ Some x
      → stmt_at nesting place (at ns counts) (stmt_tokens w rest) ≡ Ok (x.0, at x.1 counts, rest)
  stmt_again (written.Let name value) nesting place ns counts x rest deep e =
      let n = part (bind [] ns name) _ x e in
      let v = part (expr_meaning n.first.1 value) _ x n.then in
      stmt_at_is nesting place (at ns counts) (stmt_tokens (written.Let name value) rest) ∙ let_reads _ _ _ nesting place ns counts name value n.first v.first rest deep n.is v.is ∙ with_counts counts rest _ x (some_is _ _ v.then)
  stmt_again (written.Print value) nesting place ns counts x rest deep e =
      let v = part (expr_meaning ns value) _ x e in
      stmt_at_is nesting place (at ns counts) (stmt_tokens (written.Print value) rest) ∙ print_reads _ _ _ nesting place ns counts value v.first rest deep v.is ∙ with_counts counts rest _ x (some_is _ _ v.then)
  stmt_again (written.Sync names event) nesting place ns counts x rest deep e =
      let b = part (bind_names ns names) _ x e in
      let a = part (event_meaning b.first.1 event) _ x b.then in
      if_else_some (is_small a.first.0) _ x a.then (λ small f.
      let close = Fixed Semicolon ∷ rest in
      let one = event_again event nesting b.first.1 no_counts a.first close deep a.is (small_leaves a.first.0 small) in
      stmt_at_is nesting place (at ns counts) (stmt_tokens (written.Sync names event) rest) ∙
      begins_as_sync names _ _ _ nesting place (at ns counts) _ (event_tokens event close) _ rest (sync_reads names _ nesting ns a.first.1 counts one.after b.first (event_tokens event close) a.first.0 rest (omega (arith, deep)) b.is one.reads) ∙ with_counts counts rest _ x (some_is _ _ f))
  stmt_again (written.If test first second) nesting place ns counts x rest deep e =
      let t = part (test_meaning ns test) _ x e in
      let a = part (block_meaning (are_allowed place) ns first) _ x t.then in
      let b = part (block_meaning (are_allowed place) a.first.1 second) _ x a.then in
      let behind = Fixed Else ∷ block_tokens second rest in
      let one = block_reads nesting place ns a.first.1 counts first a.first.0 behind (omega (arith, deep)) (body_again first (nesting - 1) place ns counts a.first (length (body_tokens first behind)) [] behind (omega (arith, deep)) a.is (le_self (length (body_tokens first behind)))) in
      let two = block_reads nesting place a.first.1 b.first.1 counts second b.first.0 rest (omega (arith, deep)) (body_again second (nesting - 1) place a.first.1 counts b.first (length (body_tokens second rest)) [] rest (omega (arith, deep)) b.is (le_self (length (body_tokens second rest)))) in
      stmt_at_is nesting place (at ns counts) (stmt_tokens (written.If test first second) rest) ∙
      branch_reads _ _ _ nesting place ns counts (at a.first.1 counts) (at b.first.1 counts) test t.first first second a.first.0 b.first.0 rest (omega (arith, deep)) t.is one two ∙ with_counts counts rest _ x (some_is _ _ b.then)
  stmt_again (written.Loop times body) nesting Forbidden ns counts x rest deep e = absurd cc
  stmt_again (written.Loop times body) nesting Allowed ns counts x rest deep e =
      let b = part (block_meaning true ns body) _ x e in
      let t = part (as_turn b.first.0) _ x b.then in
      let turn = turn_again body nesting (length (Fixed Loop ∷ Number times ∷ block_tokens body rest)) ns counts b.first t.first rest deep b.is t.is in
      stmt_at_is nesting Allowed (at ns counts) (stmt_tokens (written.Loop times body) rest) ∙ counted_reads _ _ _ nesting times (at ns counts) (at b.first.1 counts) (block_tokens body rest) t.first rest (omega (arith, deep)) turn ∙ with_counts counts rest _ x (some_is _ _ t.then)
  stmt_again (written.Forever body) nesting Forbidden ns counts x rest deep e = absurd cc
  stmt_again (written.Forever body) nesting Allowed ns counts x rest deep e =
      let b = part (block_meaning true ns body) _ x e in
      let t = part (as_turn b.first.0) _ x b.then in
      let turn = turn_again body nesting (length (Fixed Forever ∷ block_tokens body rest)) ns counts b.first t.first rest deep b.is t.is in
      stmt_at_is nesting Allowed (at ns counts) (stmt_tokens (written.Forever body) rest) ∙ forever_reads _ _ _ nesting (at ns counts) (at b.first.1 counts) (block_tokens body rest) t.first rest (omega (arith, deep)) turn ∙ with_counts counts rest _ x (some_is _ _ t.then)
  stmt_again written.End nesting place ns counts x rest deep e =
      stmt_at_is nesting place (at ns counts) (stmt_tokens written.End rest) ∙ end_reads _ _ _ nesting place (at ns counts) rest deep ∙ with_counts counts rest _ x (some_is _ _ e)
  stmt_again (written.Spawn process) nesting place' ns counts x rest deep e =
      let p = part (place process ns.processes) _ x e in
      unless_some (is_among ns.spawned p.first) _ x p.then
      (λ new f. stmt_at_is nesting place' (at ns counts) (stmt_tokens (written.Spawn process) rest) ∙ spawn_reads _ _ _ nesting place' ns counts process p.first rest deep p.is new ∙ with_counts counts rest _ x (some_is _ _ f))

  turn_again : (w : written.Block) (nesting word : ℕ) (ns : Names) (counts : Counts) (b : trees.Block × Names) (t : LoopBody) (rest : List Token) → block_depth w < nesting → block_meaning true ns w ≡ Some b → as_turn b.0 ≡ Some t
      → turn_at nesting word (at ns counts) (block_tokens w rest) ≡ Ok (t, at b.1 counts, rest)
  turn_again written.Done nesting word ns counts b t rest deep e f =
      let none : None ≡ Some t = ap (λ (y : trees.Block × Names). as_turn y.0) (some_is _ _ e) ∙ f in absurd cc
  turn_again (written.Then (written.Sync names event) others) nesting word ns counts b t rest deep e f =
      let p = turn_parts ns (written.Sync names event) others b t e f in
      let m = part (bind_names ns names) _ p.first p.first_is in
      let a = part (event_meaning m.first.1 event) _ p.first m.then in
      if_else_some (is_small a.first.0) _ p.first a.then (λ small g.
      let same : (trees.Syncs m.first.0 a.first.0, a.first.1) ≡ p.first = some_is _ _ g in
      let behind = body_tokens others rest in
      let close = Fixed Semicolon ∷ behind in
      let one = event_again event (nesting - 1) m.first.1 no_counts a.first close (omega (arith, deep)) a.is (small_leaves a.first.0 small) in
      let sync = sync_reads names _ (nesting - 1) ns a.first.1 counts one.after m.first (event_tokens event close) a.first.0 behind (omega (arith, deep)) m.is one.reads in
      let after = ap (λ (y : trees.Stmt × Names). y.1) same in
      let inner = body_again others (nesting - 1) Allowed a.first.1 counts p.others' (length behind) [] rest (omega (arith, deep)) (ap (λ (y : Names). block_meaning true y others) after ∙ p.others_is) (le_self (length behind)) in
      let turn : ◌≡◌ {A = LoopBody} (record { names = m.first.0; event = a.first.0; rest = p.others'.0 }) t = some_is _ _ (ap (λ (y : trees.Stmt × Names). as_turn (trees.Runs y.0 p.others'.0)) same ∙ p.turn) in
      turn_reads nesting word ns a.first.1 p.others'.1 counts names event others (m.first.0, a.first.0) p.others'.0 rest (omega (arith, deep)) sync inner ∙ ap₂ (λ (x : LoopBody) (y : Names). Ok (x, at y counts, rest)) turn p.after)
  turn_again (written.Then (written.Let name value) others) nesting word ns counts b t rest deep e f = absurd (no_turn_at (written.Let name value) others ns b t refl e f)
  turn_again (written.Then (written.Print value) others) nesting word ns counts b t rest deep e f = absurd (no_turn_at (written.Print value) others ns b t refl e f)
  turn_again (written.Then (written.If test first second) others) nesting word ns counts b t rest deep e f = absurd (no_turn_at (written.If test first second) others ns b t refl e f)
  turn_again (written.Then (written.Loop times body) others) nesting word ns counts b t rest deep e f = absurd (no_turn_at (written.Loop times body) others ns b t refl e f)
  turn_again (written.Then (written.Forever body) others) nesting word ns counts b t rest deep e f = absurd (no_turn_at (written.Forever body) others ns b t refl e f)
  turn_again (written.Then written.End others) nesting word ns counts b t rest deep e f = absurd (no_turn_at written.End others ns b t refl e f)
  turn_again (written.Then (written.Spawn process) others) nesting word ns counts b t rest deep e f = absurd (no_turn_at (written.Spawn process) others ns b t refl e f)

  body_again : (w : written.Block) (nesting : ℕ) (place : Place) (ns : Names) (counts : Counts) (x : trees.Block × Names) (n : ℕ) (s : List trees.Stmt) (rest : List Token) → stmts_depth w < nesting → block_meaning (are_allowed place) ns w ≡ Some x
      → length (body_tokens w rest) ≤ n → BodyAgain nesting place ns x.1 counts (body_tokens w rest) n s x.0 rest
  body_again written.Done nesting place ns counts x n s rest deep e fuel =
      subst (λ (y : trees.Block × Names). BodyAgain nesting place ns y.1 counts (Fixed CloseBrace ∷ rest) n s y.0 rest) (some_is _ _ e) (record {
        list = [];
        reads = no_step (stmt_step (stmt_at nesting) place) n _ (last_step nesting place s (at ns counts) rest) ∙ ap (λ (y : List trees.Stmt). Ok (y, at ns counts, Fixed CloseBrace ∷ rest)) (sym (append-nil s));
        bodied = refl;
      })
  body_again (written.Then w others) nesting place ns counts x zero s rest deep e fuel = absurd (omega (arith, fuel, stmt_longer w (body_tokens others rest)))
  body_again (written.Then w others) nesting place ns counts x (suc n) s rest deep e fuel =
      let a = part (stmt_meaning (are_allowed place) ns w) _ x e in
      let b = part (block_meaning (are_allowed place) a.first.1 others) _ x a.then in
      let behind = body_tokens others rest in
      let first = stmt_again w nesting place ns counts a.first behind (omega (arith, deep)) a.is in
      let more = body_again others nesting place a.first.1 counts b.first n (s ++ a.first.0 ∷ []) rest (omega (arith, deep)) b.is (omega (arith, fuel, stmt_longer w behind)) in
      let step = stmt_steps nesting place s (at ns counts) (at a.first.1 counts) w behind a.first.0 first in
      subst (λ (y : trees.Block × Names). BodyAgain nesting place ns y.1 counts (body_tokens (written.Then w others) rest) (suc n) s y.0 rest) (some_is _ _ b.then) (record {
        list = a.first.0 ∷ more.list;
        reads = one_step (stmt_step (stmt_at nesting) place) n _ _ _ step (more.reads ∙ ap (λ (y : List trees.Stmt). Ok (y, at b.first.1 counts, Fixed CloseBrace ∷ rest)) (append_assoc s (a.first.0 ∷ []) more.list));
        bodied = ap (trees.Runs a.first.0) more.bodied;
      })

-- the block of a process
pub block_again : (w : written.Block) (ns : Names) (counts : Counts) (x : trees.Block × Names) (rest : List Token) → block_depth w < 49 → block_meaning true ns w ≡ Some x → block_at 49 Allowed (at ns counts) (block_tokens w rest) ≡ Ok (x.0, at x.1 counts, rest)
block_again w ns counts x rest deep e =
    block_reads 49 Allowed ns x.1 counts w x.0 rest (omega arith) (body_again w 48 Allowed ns counts x (length (body_tokens w rest)) [] rest (omega (arith, deep)) e (le_self (length (body_tokens w rest))))
