-- Events, statements, blocks and scripts: what is meant is meant when it is written plainly.
use Rattle.std.proofs.Common.{◌≡◌, ℕ, suc, ◌≤◌, Bool, true, false, ◌||◌, ltb, leb, List, [], ◌∷◌, ◌++◌, length, map, Option, Some, Result, Ok, Err, is_some, refl, sym, ap, ◌∙◌, subst, arith, append_assoc}
use Rattle.std.proofs.lemmas.List.{append-nil}
use Rattle.script_grammar.specs.Meaning.{place, is_among, Names, first_names, name_meaning, expr_meaning, test_meaning, exprs_meaning, list_meaning, bind, bind_names, is_small, as_turn, event_meaning, events_meaning, stmt_meaning, block_meaning, declare, channels_meaning, processes_meaning}
use Rattle.script_token.specs.Tokens.{Token, Fixed, Name}
use Rattle.script_token.specs.declared.kind.Symbol.TheVariants as symbols
use Rattle.script_tree.specs.Trees as trees
use Rattle.script_tree.specs.Trees.{LoopBody}
use Rattle.script_tree.specs.Processes.{Proc}
use Rattle.script_tree.specs.declared.tree.Name.{Name as Meaning}
use Rattle.script_grammar.specs.Written as written
use Rattle.script_grammar.specs.Written.{Expr, relation_symbol, expr_tokens, test_tokens, others_tokens, members_tokens, list_tokens, more_names_tokens, as_tokens, received_tokens, event_tokens, events_tokens, more_events_tokens, stmt_tokens, body_tokens, block_tokens, channels_tokens, processes_tokens, script_tokens}
use Rattle.script_grammar.specs.Depths.{exprs_depth, list_depth, test_depth, event_depth, events_depth, stmt_depth, stmts_depth, processes_depth, script_depth}
use Rattle.script_grammar.proofs.Parts.{part, some_is, if_else_some, unless_some}
use Rattle.script_grammar.proofs.Growing.{Grows, grows_on, event_grows, events_grow, block_grows, bind_names_grows}
use Rattle.script.specs.Scripts.{Script, text_at}
use Rattle.script.specs.declared.fault.ScriptFault.{ScriptFault}
use Rattle.script.specs.Spelling.{script_meaning, Spells}
use Rattle.script_writer.specs.Plain.{variable, name_of, process_name, names_of, plain_expr, plain_list, plain_test, plain_event, plain_events, plain_stmt, plain_block, process_names, plain_process, plain}
use Rattle.script_writer.specs.Canon.{Canon}
use Rattle.script.proofs.Spelled.{spells_again, spells_only_one}
use Rattle.script_writer.specs.Laws.{IsSpelledByCanon, IsReadAgain, HasItsOwnCanon}
use Rattle.script_writer.proofs.Codes.{script_set}
use Rattle.script.proofs.Good.{Good, AllGood, texts_are_good}
use Rattle.script_writer.proofs.Lexing.{text_again}
use Rattle.script_grammar.proofs.Spawning.{block_spawns}
use Rattle.script_writer.proofs.Plainly.{named, process_named, bound_named, names_named, expr_plain}

-- good tokens stay good when these are written in place of those
abbrev KeepsGood : (List Token → List Token) → (List Token → List Token) → Type 0
KeepsGood from to = (rest rest' : List Token) → AllGood (from rest) → (AllGood rest → AllGood rest') → AllGood (to rest')

-- LISTS AND TESTS

record PlainList (ns V : Names) (es : List Expr) (xs : List trees.Expr) : Type 0 where
  meaning : exprs_meaning ns (plain_list V xs) ≡ Some xs
  count : length (plain_list V xs) ≡ length es
  shallow : exprs_depth (plain_list V xs) ≤ exprs_depth es
  others : KeepsGood (others_tokens es) (others_tokens (plain_list V xs))
  members : KeepsGood (members_tokens es) (members_tokens (plain_list V xs))

exprs_plain : (es : List Expr) (ns V : Names) (xs : List trees.Expr) → exprs_meaning ns es ≡ Some xs → Grows ns V → PlainList ns V es xs
unfolding exprs_meaning AllGood Good
exprs_plain [] ns V xs e g = subst (PlainList ns V []) (some_is _ _ e) (record { meaning = refl; count = refl; shallow = omega arith; others = λ rest rest' h k. k h; members = λ rest rest' h k. k h })
exprs_plain (e ∷ es) ns V xs is g =
    let a = part (expr_meaning ns e) _ xs is in
    let b = part (exprs_meaning ns es) _ xs a.then in
    let x = expr_plain e ns V a.first a.is g in
    let y = exprs_plain es ns V b.first b.is g in
    subst (PlainList ns V (e ∷ es)) (some_is _ _ b.then) (record {
      meaning = rw (x.meaning, y.meaning) refl;
      count = ap suc y.count;
      shallow = omega (arith, x.shallow, y.shallow);
      others = λ rest rest' h k. (tt, x.good (others_tokens es rest) (others_tokens (plain_list V b.first) rest') h.1 (λ i. y.others rest rest' i k));
      members = λ rest rest' h k. x.good (others_tokens es rest) (others_tokens (plain_list V b.first) rest') h (λ i. y.others rest rest' i k);
    })

record PlainArgs (ns V : Names) (es : List Expr) (xs : List trees.Expr) : Type 0 where
  meaning : list_meaning ns (plain_list V xs) ≡ Some xs
  shallow : list_depth (plain_list V xs) ≤ list_depth es
  good : KeepsGood (list_tokens es) (list_tokens (plain_list V xs))

list_plain : (es : List Expr) (ns V : Names) (xs : List trees.Expr) → list_meaning ns es ≡ Some xs → Grows ns V → PlainArgs ns V es xs
unfolding list_meaning AllGood Good
list_plain es ns V xs e g =
    if_else_some (leb (length es) 3) _ xs e
    (λ few f.
    let p = exprs_plain es ns V xs f g in
    let few' : leb (length (plain_list V xs)) 3 ≡ true = ap (λ (n : ℕ). leb n 3) p.count ∙ few in
    record {
      meaning = rw few' p.meaning;
      shallow = omega (arith, p.shallow);
      good = λ rest rest' h k. (tt, p.members (Fixed symbols.CloseParen ∷ rest) (Fixed symbols.CloseParen ∷ rest') h.1 (λ i. (tt, k i.1)));
    })

record PlainTest (ns V : Names) (t : written.Test) (x : trees.Test) : Type 0 where
  meaning : test_meaning ns (plain_test V x) ≡ Some x
  shallow : test_depth (plain_test V x) ≤ test_depth t
  good : KeepsGood (test_tokens t) (test_tokens (plain_test V x))

test_plain : (t : written.Test) (ns V : Names) (x : trees.Test) → test_meaning ns t ≡ Some x → Grows ns V → PlainTest ns V t x
unfolding test_meaning AllGood Good
test_plain t ns V x e g =
    let a = part (expr_meaning ns t.left) _ x e in
    let b = part (expr_meaning ns t.right) _ x a.then in
    let l = expr_plain t.left ns V a.first a.is g in
    let r = expr_plain t.right ns V b.first b.is g in
    subst (PlainTest ns V t) (some_is _ _ b.then) (record {
      meaning = rw (l.meaning, r.meaning) refl;
      shallow = omega (arith, l.shallow, r.shallow);
      good = λ rest rest' h k. l.good (Fixed (relation_symbol t.relation) ∷ expr_tokens t.right rest) (Fixed (relation_symbol t.relation) ∷ expr_tokens (plain_expr V b.first) rest') h (λ i. (tt, r.good rest rest' i.1 k));
    })

-- names are written as they were
names_good : (names : List (List ℕ)) (rest rest' : List Token) → AllGood (more_names_tokens names rest) → (AllGood rest → AllGood rest') → AllGood (more_names_tokens names rest')
unfolding AllGood Good
names_good [] rest rest' h k = k h
names_good (name ∷ names) rest rest' h k = (tt, (h.1.0, names_good names rest rest' h.1.1 k))

as_good : (names : List (List ℕ)) → KeepsGood (as_tokens names) (as_tokens names)
unfolding AllGood Good
as_good [] rest rest' h k = k h
as_good (name ∷ names) rest rest' h k = (tt, (h.1.0, names_good names rest rest' h.1.1 k))

received_good : (names : List (List ℕ)) → KeepsGood (received_tokens names) (received_tokens names)
unfolding AllGood Good
received_good [] rest rest' h k = k h
received_good (name ∷ names) rest rest' h k = (h.0, names_good names (Fixed symbols.Arrow ∷ rest) (Fixed symbols.Arrow ∷ rest') h.1 (λ i. (tt, k i.1)))

-- EVENTS, STATEMENTS AND BLOCKS

record PlainEvent (ns ns' V : Names) (w : written.Event) (e : trees.Event) : Type 0 where
  meaning : event_meaning ns (plain_event V e) ≡ Some (e, ns')
  shallow : event_depth (plain_event V e) ≤ event_depth w
  good : KeepsGood (event_tokens w) (event_tokens (plain_event V e))

record PlainEvents (ns ns' V : Names) (w : written.Events) (es : trees.Events) : Type 0 where
  meaning : events_meaning ns (plain_events V es) ≡ Some (es, ns')
  shallow : events_depth (plain_events V es) ≤ events_depth w
  more : KeepsGood (more_events_tokens w) (more_events_tokens (plain_events V es))
  good : KeepsGood (events_tokens w) (events_tokens (plain_events V es))

record PlainStmt (loops : Bool) (ns ns' V : Names) (w : written.Stmt) (s : trees.Stmt) : Type 0 where
  meaning : stmt_meaning loops ns (plain_stmt V s) ≡ Some (s, ns')
  shallow : stmt_depth (plain_stmt V s) ≤ stmt_depth w
  good : KeepsGood (stmt_tokens w) (stmt_tokens (plain_stmt V s))

record PlainBlock (loops : Bool) (ns ns' V : Names) (w : written.Block) (b : trees.Block) : Type 0 where
  meaning : block_meaning loops ns (plain_block V b) ≡ Some (b, ns')
  shallow : stmts_depth (plain_block V b) ≤ stmts_depth w
  good : KeepsGood (body_tokens w) (body_tokens (plain_block V b))

-- what is meant with names that are written so
send_means : (ns : Names) (text text' : List ℕ) (c : Meaning) (list : List Expr) (l : List trees.Expr) → text' ≡ text → name_meaning ns text ≡ Some c → list_meaning ns list ≡ Some l → event_meaning ns (written.Send text' list) ≡ Some (trees.Sends c l, ns)
unfolding event_meaning
send_means ns text text' c list l same e f = rw same (rw (e, f) refl)

recv_means : (ns : Names) (text text' : List ℕ) (c : Meaning) → text' ≡ text → name_meaning ns text ≡ Some c → event_meaning ns (written.Recv text') ≡ Some (trees.Receives c, ns)
unfolding event_meaning
recv_means ns text text' c same e = rw same (rw e refl)

cancelled_means : (ns : Names) (text text' : List ℕ) (n : Meaning) → text' ≡ text → name_meaning ns text ≡ Some n → event_meaning ns (written.Cancelled text') ≡ Some (trees.IsCancelled n, ns)
unfolding event_meaning
cancelled_means ns text text' n same e = rw same (rw e refl)

joined_means : (ns : Names) (text text' : List ℕ) (p : ℕ) → text' ≡ text → place text ns.processes ≡ Some p → event_meaning ns (written.Joined text') ≡ Some (trees.IsJoined p, ns)
unfolding event_meaning
joined_means ns text text' p same e = rw same (rw e refl)

wrap_means : (ns ns' : Names) (event : written.Event) (e : trees.Event) (texts texts' : List (List ℕ)) (b : Option (List ℕ) × Names) (list : List Expr) (l : List trees.Expr)
    → texts' ≡ texts → event_meaning ns event ≡ Some (e, ns') → bind_names ns' texts ≡ Some b → list_meaning b.1 list ≡ Some l → event_meaning ns (written.Wrap event texts' list) ≡ Some (trees.Wraps e b.0 l, b.1)
unfolding event_meaning
wrap_means ns ns' event e texts texts' b list l same p q r = rw same (rw (p, q, r) refl)

nack_means : (ns ns' : Names) (text text' : List ℕ) (n : ℕ × Names) (body : written.Block) (b : trees.Block) (event : written.Event) (a : trees.Event × Names)
    → text' ≡ text → bind [] ns text ≡ Some n → block_meaning false n.1 body ≡ Some (b, ns') → event_meaning ns' event ≡ Some a → event_meaning ns (written.Nack text' body event) ≡ Some (trees.Nacks n.0 b a.0, a.1)
unfolding event_meaning
nack_means ns ns' text text' n body b event a same p q r = rw same (rw (p, q, r) refl)

let_means : (loops : Bool) (ns : Names) (text text' : List ℕ) (n : ℕ × Names) (value : Expr) (v : trees.Expr) → text' ≡ text → bind [] ns text ≡ Some n → expr_meaning n.1 value ≡ Some v → stmt_meaning loops ns (written.Let text' value) ≡ Some (trees.Lets n.0 v, n.1)
unfolding stmt_meaning
let_means loops ns text text' n value v same p q = rw same (rw (p, q) refl)

sync_means : (loops : Bool) (ns : Names) (texts texts' : List (List ℕ)) (b : Option (List ℕ) × Names) (event : written.Event) (a : trees.Event × Names)
    → texts' ≡ texts → bind_names ns texts ≡ Some b → event_meaning b.1 event ≡ Some a → is_small a.0 ≡ true → stmt_meaning loops ns (written.Sync texts' event) ≡ Some (trees.Syncs b.0 a.0, a.1)
unfolding stmt_meaning
sync_means loops ns texts texts' b event a same p q r = rw same (rw (p, q, r) refl)

spawn_means : (loops : Bool) (ns : Names) (text text' : List ℕ) (p : ℕ) → text' ≡ text → place text ns.processes ≡ Some p → is_among ns.spawned p ≡ false
    → stmt_meaning loops ns (written.Spawn text') ≡ Some (trees.Spawns p, record ns { spawned = ns.spawned ++ p ∷ [] })
unfolding stmt_meaning
spawn_means loops ns text text' p same e f = rw same (rw (e, f) refl)

loop_means : (loops : Bool) (ns ns' : Names) (times : ℕ) (body : written.Block) (t : LoopBody) → loops ≡ true → block_meaning true ns body ≡ Some (trees.Runs (trees.Syncs t.names t.event) t.rest, ns') → stmt_meaning loops ns (written.Loop times body) ≡ Some (trees.Loops times t.names t.event t.rest, ns')
unfolding stmt_meaning
loop_means loops ns ns' times body t allowed p = rw allowed (rw p refl)

forever_means : (loops : Bool) (ns ns' : Names) (body : written.Block) (t : LoopBody) → loops ≡ true → block_meaning true ns body ≡ Some (trees.Runs (trees.Syncs t.names t.event) t.rest, ns') → stmt_meaning loops ns (written.Forever body) ≡ Some (trees.LoopsForever t.names t.event t.rest, ns')
unfolding stmt_meaning
forever_means loops ns ns' body t allowed p = rw allowed (rw p refl)

abbrev EventAt : Names → Names → written.Event → trees.Event × Names → Type 0
EventAt ns V w x = Grows x.1 V → PlainEvent ns x.1 V w x.0

abbrev EventsAt : Names → Names → written.Events → trees.Events × Names → Type 0
EventsAt ns V w x = Grows x.1 V → PlainEvents ns x.1 V w x.0

abbrev StmtAt : Bool → Names → Names → written.Stmt → trees.Stmt × Names → Type 0
StmtAt loops ns V w x = Grows x.1 V → PlainStmt loops ns x.1 V w x.0

abbrev BlockAt : Bool → Names → Names → written.Block → trees.Block × Names → Type 0
BlockAt loops ns V w x = Grows x.1 V → PlainBlock loops ns x.1 V w x.0

-- a body of a loop is a sync and what stands behind it
record TurnBlock (b : trees.Block) (t : LoopBody) : Type 0 where
  is : b ≡ trees.Runs (trees.Syncs t.names t.event) t.rest

turn_block : (b : trees.Block) (t : LoopBody) → as_turn b ≡ Some t → TurnBlock b t
turn_block trees.Stops t e = absurd cc
turn_block (trees.Runs (trees.Syncs names event) rest) t e = (let same = some_is _ _ e in record { is = ap (λ (y : LoopBody). trees.Runs (trees.Syncs y.names y.event) y.rest) same })
turn_block (trees.Runs (trees.Lets name value) rest) t e = absurd cc
turn_block (trees.Runs (trees.Prints value) rest) t e = absurd cc
turn_block (trees.Runs (trees.Branches test first second) rest) t e = absurd cc
turn_block (trees.Runs (trees.Loops times names event body) rest) t e = absurd cc
turn_block (trees.Runs (trees.LoopsForever names event body) rest) t e = absurd cc
turn_block (trees.Runs trees.Ends rest) t e = absurd cc
turn_block (trees.Runs (trees.Spawns process) rest) t e = absurd cc

-- the body of a loop
record PlainTurn (ns ns' V : Names) (w : written.Block) (t : LoopBody) : Type 0 where
  meaning : block_meaning true ns (plain_block V (trees.Runs (trees.Syncs t.names t.event) t.rest)) ≡ Some (trees.Runs (trees.Syncs t.names t.event) t.rest, ns')
  shallow : stmts_depth (plain_block V (trees.Runs (trees.Syncs t.names t.event) t.rest)) ≤ stmts_depth w
  good : KeepsGood (body_tokens w) (body_tokens (plain_block V (trees.Runs (trees.Syncs t.names t.event) t.rest)))

turn_plain : (ns ns' V : Names) (w : written.Block) (b : trees.Block) (t : LoopBody) → TurnBlock b t → PlainBlock true ns ns' V w b → PlainTurn ns ns' V w t
turn_plain ns ns' V w b t turn p =
    let q = subst (PlainBlock true ns ns' V w) turn.is p in
    record { meaning = q.meaning; shallow = q.shallow; good = q.good }

mutual
  unfolding event_meaning events_meaning stmt_meaning block_meaning AllGood Good

  event_plain : (w : written.Event) (ns V : Names) (x : trees.Event × Names) → event_meaning ns w ≡ Some x → EventAt ns V w x
  event_plain (written.Send channel list) ns V x e =
      let c = part (name_meaning ns channel) _ x e in
      let l = part (list_meaning ns list) _ x c.then in
      subst (EventAt ns V (written.Send channel list)) (some_is _ _ l.then) (λ g.
      let is = named ns V channel c.first g c.is in
      let p = list_plain list ns V l.first l.is g in
      record {
        meaning = send_means ns channel (name_of V c.first) c.first (plain_list V l.first) l.first is c.is p.meaning;
        shallow = p.shallow;
        good = λ rest rest' h k. (tt, (subst (λ (y : List ℕ). Good (Name y)) (sym is) h.1.0, p.good rest rest' h.1.1 k));
      })
  event_plain (written.Recv channel) ns V x e =
      let c = part (name_meaning ns channel) _ x e in
      subst (EventAt ns V (written.Recv channel)) (some_is _ _ c.then) (λ g.
      let is = named ns V channel c.first g c.is in
      record {
        meaning = recv_means ns channel (name_of V c.first) c.first is c.is;
        shallow = omega arith;
        good = λ rest rest' h k. (tt, (subst (λ (y : List ℕ). Good (Name y)) (sym is) h.1.0, k h.1.1));
      })
  event_plain (written.Always list) ns V x e =
      let l = part (list_meaning ns list) _ x e in
      subst (EventAt ns V (written.Always list)) (some_is _ _ l.then) (λ g.
      let p = list_plain list ns V l.first l.is g in
      record { meaning = rw p.meaning refl; shallow = p.shallow; good = λ rest rest' h k. (tt, p.good rest rest' h.1 k) })
  event_plain written.Never ns V x e =
      subst (EventAt ns V written.Never) (some_is _ _ e) (λ g. record { meaning = refl; shallow = omega arith; good = λ rest rest' h k. (tt, k h.1) })
  event_plain (written.Cancelled nack) ns V x e =
      let n = part (name_meaning ns nack) _ x e in
      subst (EventAt ns V (written.Cancelled nack)) (some_is _ _ n.then) (λ g.
      let is = named ns V nack n.first g n.is in
      record {
        meaning = cancelled_means ns nack (name_of V n.first) n.first is n.is;
        shallow = omega arith;
        good = λ rest rest' h k. (tt, (subst (λ (y : List ℕ). Good (Name y)) (sym is) h.1.0, k h.1.1));
      })
  event_plain (written.Joined process) ns V x e =
      let p = part (place process ns.processes) _ x e in
      subst (EventAt ns V (written.Joined process)) (some_is _ _ p.then) (λ g.
      let is = process_named ns V process p.first g p.is in
      record {
        meaning = joined_means ns process (process_name V p.first) p.first is p.is;
        shallow = omega arith;
        good = λ rest rest' h k. (tt, (subst (λ (y : List ℕ). Good (Name y)) (sym is) h.1.0, k h.1.1));
      })
  event_plain (written.Choose members) ns V x e =
      let m = part (events_meaning ns members) _ x e in
      subst (EventAt ns V (written.Choose members)) (some_is _ _ m.then) (λ g.
      let p = events_plain members ns V m.first m.is g in
      record {
        meaning = rw p.meaning refl;
        shallow = omega (arith, p.shallow);
        good = λ rest rest' h k. (tt, (tt, p.good (Fixed symbols.CloseBracket ∷ rest) (Fixed symbols.CloseBracket ∷ rest') h.1.1 (λ i. (tt, k i.1))));
      })
  event_plain (written.Wrap event names list) ns V x e =
      let a = part (event_meaning ns event) _ x e in
      let b = part (bind_names a.first.1 names) _ x a.then in
      let l = part (list_meaning b.first.1 list) _ x b.then in
      subst (EventAt ns V (written.Wrap event names list)) (some_is _ _ l.then) (λ g.
      let p = event_plain event ns V a.first a.is (grows_on a.first.1 b.first.1 V (bind_names_grows names a.first.1 b.first b.is) g) in
      let is = names_named names a.first.1 V b.first b.is g in
      let q = list_plain list b.first.1 V l.first l.is g in
      record {
        meaning = wrap_means ns a.first.1 (plain_event V a.first.0) a.first.0 names (names_of V b.first.0) b.first (plain_list V l.first) l.first is p.meaning b.is q.meaning;
        shallow = omega (arith, p.shallow, q.shallow);
        good = λ rest rest' h k. (
          tt,
          p.good (as_tokens names (Fixed symbols.To ∷ list_tokens list rest)) (as_tokens (names_of V b.first.0) (Fixed symbols.To ∷ list_tokens (plain_list V l.first) rest')) h.1
              (λ i. subst (λ (y : List (List ℕ)). AllGood (as_tokens y (Fixed symbols.To ∷ list_tokens (plain_list V l.first) rest'))) (sym is)
              (as_good names (Fixed symbols.To ∷ list_tokens list rest) (Fixed symbols.To ∷ list_tokens (plain_list V l.first) rest') i (λ j. (tt, q.good rest rest' j.1 k)))),
        );
      })
  event_plain (written.Guard body event) ns V x e =
      let b = part (block_meaning false ns body) _ x e in
      let a = part (event_meaning b.first.1 event) _ x b.then in
      subst (EventAt ns V (written.Guard body event)) (some_is _ _ a.then) (λ g.
      let p = block_plain body false ns V b.first b.is (grows_on b.first.1 a.first.1 V (event_grows event b.first.1 a.first a.is) g) in
      let q = event_plain event b.first.1 V a.first a.is g in
      record {
        meaning = rw (p.meaning, q.meaning) refl;
        shallow = omega (arith, p.shallow, q.shallow);
        good = λ rest rest' h k. (tt, (tt, p.good (event_tokens event rest) (event_tokens (plain_event V a.first.0) rest') h.1.1 (λ i. q.good rest rest' i k)));
      })
  event_plain (written.Nack name body event) ns V x e =
      let n = part (bind [] ns name) _ x e in
      let b = part (block_meaning false n.first.1 body) _ x n.then in
      let a = part (event_meaning b.first.1 event) _ x b.then in
      subst (EventAt ns V (written.Nack name body event)) (some_is _ _ a.then) (λ g.
      let grows = grows_on b.first.1 a.first.1 V (event_grows event b.first.1 a.first a.is) g in
      let is = bound_named [] ns V name n.first n.is (grows_on n.first.1 b.first.1 V (block_grows body false n.first.1 b.first b.is) grows) in
      let p = block_plain body false n.first.1 V b.first b.is grows in
      let q = event_plain event b.first.1 V a.first a.is g in
      record {
        meaning = nack_means ns b.first.1 name (variable V n.first.0) n.first (plain_block V b.first.0) b.first.0 (plain_event V a.first.0) a.first is n.is p.meaning q.meaning;
        shallow = omega (arith, p.shallow, q.shallow);
        good = λ rest rest' h k. (tt, (subst (λ (y : List ℕ). Good (Name y)) (sym is) h.1.0, (tt, p.good (event_tokens event rest) (event_tokens (plain_event V a.first.0) rest') h.1.1.1 (λ i. q.good rest rest' i k))));
      })

  events_plain : (w : written.Events) (ns V : Names) (x : trees.Events × Names) → events_meaning ns w ≡ Some x → EventsAt ns V w x
  events_plain written.NoEvents ns V x e =
      subst (EventsAt ns V written.NoEvents) (some_is _ _ e) (λ g. record { meaning = refl; shallow = omega arith; more = λ rest rest' h k. k h; good = λ rest rest' h k. k h })
  events_plain (written.Another event others) ns V x e =
      let a = part (event_meaning ns event) _ x e in
      let m = part (events_meaning a.first.1 others) _ x a.then in
      subst (EventsAt ns V (written.Another event others)) (some_is _ _ m.then) (λ g.
      let p = event_plain event ns V a.first a.is (grows_on a.first.1 m.first.1 V (events_grow others a.first.1 m.first m.is) g) in
      let q = events_plain others a.first.1 V m.first m.is g in
      record {
        meaning = rw (p.meaning, q.meaning) refl;
        shallow = omega (arith, p.shallow, q.shallow);
        more = λ rest rest' h k. (tt, p.good (more_events_tokens others rest) (more_events_tokens (plain_events V m.first.0) rest') h.1 (λ i. q.more rest rest' i k));
        good = λ rest rest' h k. p.good (more_events_tokens others rest) (more_events_tokens (plain_events V m.first.0) rest') h (λ i. q.more rest rest' i k);
      })

  stmt_plain : (w : written.Stmt) (loops : Bool) (ns V : Names) (x : trees.Stmt × Names) → stmt_meaning loops ns w ≡ Some x → StmtAt loops ns V w x
  stmt_plain (written.Let name value) loops ns V x e =
      let n = part (bind [] ns name) _ x e in
      let v = part (expr_meaning n.first.1 value) _ x n.then in
      subst (StmtAt loops ns V (written.Let name value)) (some_is _ _ v.then) (λ g.
      let is = bound_named [] ns V name n.first n.is g in
      let p = expr_plain value n.first.1 V v.first v.is g in
      record {
        meaning = let_means loops ns name (variable V n.first.0) n.first (plain_expr V v.first) v.first is n.is p.meaning;
        shallow = p.shallow;
        good = λ rest rest' h k. (tt, (subst (λ (y : List ℕ). Good (Name y)) (sym is) h.1.0, (tt, p.good (Fixed symbols.Semicolon ∷ rest) (Fixed symbols.Semicolon ∷ rest') h.1.1.1 (λ i. (tt, k i.1)))));
      })
  stmt_plain (written.Print value) loops ns V x e =
      let v = part (expr_meaning ns value) _ x e in
      subst (StmtAt loops ns V (written.Print value)) (some_is _ _ v.then) (λ g.
      let p = expr_plain value ns V v.first v.is g in
      record { meaning = rw p.meaning refl; shallow = p.shallow; good = λ rest rest' h k. (tt, p.good (Fixed symbols.Semicolon ∷ rest) (Fixed symbols.Semicolon ∷ rest') h.1 (λ i. (tt, k i.1))) })
  stmt_plain (written.Sync names event) loops ns V x e =
      let b = part (bind_names ns names) _ x e in
      let a = part (event_meaning b.first.1 event) _ x b.then in
      if_else_some (is_small a.first.0) _ x a.then (λ small f.
      subst (StmtAt loops ns V (written.Sync names event)) (some_is _ _ f) (λ g.
      let is = names_named names ns V b.first b.is (grows_on b.first.1 a.first.1 V (event_grows event b.first.1 a.first a.is) g) in
      let p = event_plain event b.first.1 V a.first a.is g in
      record {
        meaning = sync_means loops ns names (names_of V b.first.0) b.first (plain_event V a.first.0) a.first is b.is p.meaning small;
        shallow = p.shallow;
        good = λ rest rest' h k.
            subst (λ (y : List (List ℕ)). AllGood (received_tokens y (Fixed symbols.Sync ∷ event_tokens (plain_event V a.first.0) (Fixed symbols.Semicolon ∷ rest')))) (sym is)
            (received_good names (Fixed symbols.Sync ∷ event_tokens event (Fixed symbols.Semicolon ∷ rest)) (Fixed symbols.Sync ∷ event_tokens (plain_event V a.first.0) (Fixed symbols.Semicolon ∷ rest')) h
            (λ i. (tt, p.good (Fixed symbols.Semicolon ∷ rest) (Fixed symbols.Semicolon ∷ rest') i.1 (λ j. (tt, k j.1)))));
      }))
  stmt_plain (written.If test first second) loops ns V x e =
      let t = part (test_meaning ns test) _ x e in
      let a = part (block_meaning loops ns first) _ x t.then in
      let b = part (block_meaning loops a.first.1 second) _ x a.then in
      subst (StmtAt loops ns V (written.If test first second)) (some_is _ _ b.then) (λ g.
      let later = grows_on a.first.1 b.first.1 V (block_grows second loops a.first.1 b.first b.is) g in
      let p = test_plain test ns V t.first t.is (grows_on ns a.first.1 V (block_grows first loops ns a.first a.is) later) in
      let q = block_plain first loops ns V a.first a.is later in
      let r = block_plain second loops a.first.1 V b.first b.is g in
      record {
        meaning = rw (p.meaning, q.meaning, r.meaning) refl;
        shallow = omega (arith, p.shallow, q.shallow, r.shallow);
        good = λ rest rest' h k. (
          tt,
          p.good (block_tokens first (Fixed symbols.Else ∷ block_tokens second rest)) (block_tokens (plain_block V a.first.0) (Fixed symbols.Else ∷ block_tokens (plain_block V b.first.0) rest')) h.1
              (λ i. (
                tt,
                q.good (Fixed symbols.Else ∷ block_tokens second rest) (Fixed symbols.Else ∷ block_tokens (plain_block V b.first.0) rest') i.1
                    (λ j. (tt, (tt, r.good rest rest' j.1.1 k))),
              )),
        );
      })
  stmt_plain (written.Loop times body) loops ns V x e =
      if_else_some loops _ x e (λ allowed f.
      let b = part (block_meaning true ns body) _ x f in
      let t = part (as_turn b.first.0) _ x b.then in
      let turn = turn_block b.first.0 t.first t.is in
      subst (StmtAt loops ns V (written.Loop times body)) (some_is _ _ t.then) (λ g.
      let p = turn_plain ns b.first.1 V body b.first.0 t.first turn (block_plain body true ns V b.first b.is g) in
      record {
        meaning = loop_means loops ns b.first.1 times (plain_block V (trees.Runs (trees.Syncs t.first.names t.first.event) t.first.rest)) t.first allowed p.meaning;
        shallow = omega (arith, p.shallow);
        good = λ rest rest' h k. (tt, (h.1.0, (tt, p.good rest rest' h.1.1.1 k)));
      }))
  stmt_plain (written.Forever body) loops ns V x e =
      if_else_some loops _ x e (λ allowed f.
      let b = part (block_meaning true ns body) _ x f in
      let t = part (as_turn b.first.0) _ x b.then in
      let turn = turn_block b.first.0 t.first t.is in
      subst (StmtAt loops ns V (written.Forever body)) (some_is _ _ t.then) (λ g.
      let p = turn_plain ns b.first.1 V body b.first.0 t.first turn (block_plain body true ns V b.first b.is g) in
      record {
        meaning = forever_means loops ns b.first.1 (plain_block V (trees.Runs (trees.Syncs t.first.names t.first.event) t.first.rest)) t.first allowed p.meaning;
        shallow = omega (arith, p.shallow);
        good = λ rest rest' h k. (tt, (tt, p.good rest rest' h.1.1 k));
      }))
  stmt_plain written.End loops ns V x e =
      subst (StmtAt loops ns V written.End) (some_is _ _ e) (λ g. record { meaning = refl; shallow = omega arith; good = λ rest rest' h k. (tt, (tt, k h.1.1)) })
  stmt_plain (written.Spawn process) loops ns V x e =
      let p = part (place process ns.processes) _ x e in
      unless_some (is_among ns.spawned p.first) _ x p.then (λ new f.
      subst (StmtAt loops ns V (written.Spawn process)) (some_is _ _ f) (λ g.
      let before : Grows ns V = record { channels = g.channels; later = g.later; processes = g.processes; more = g.more; variables = g.variables } in
      let is = process_named ns V process p.first before p.is in
      record {
        meaning = spawn_means loops ns process (process_name V p.first) p.first is p.is new;
        shallow = omega arith;
        good = λ rest rest' h k. (tt, (subst (λ (y : List ℕ). Good (Name y)) (sym is) h.1.0, (tt, k h.1.1.1)));
      }))

  block_plain : (w : written.Block) (loops : Bool) (ns V : Names) (x : trees.Block × Names) → block_meaning loops ns w ≡ Some x → BlockAt loops ns V w x
  block_plain written.Done loops ns V x e =
      subst (BlockAt loops ns V written.Done) (some_is _ _ e) (λ g. record { meaning = refl; shallow = omega arith; good = λ rest rest' h k. (tt, k h.1) })
  block_plain (written.Then stmt others) loops ns V x e =
      let a = part (stmt_meaning loops ns stmt) _ x e in
      let b = part (block_meaning loops a.first.1 others) _ x a.then in
      subst (BlockAt loops ns V (written.Then stmt others)) (some_is _ _ b.then) (λ g.
      let p = stmt_plain stmt loops ns V a.first a.is (grows_on a.first.1 b.first.1 V (block_grows others loops a.first.1 b.first b.is) g) in
      let q = block_plain others loops a.first.1 V b.first b.is g in
      record {
        meaning = rw (p.meaning, q.meaning) refl;
        shallow = omega (arith, p.shallow, q.shallow);
        good = λ rest rest' h k. p.good (body_tokens others rest) (body_tokens (plain_block V b.first.0) rest') h (λ i. q.good rest rest' i k);
      })

-- SCRIPTS

-- where the script's processes have these names
record PlainProcesses (channels names : List (List ℕ)) (spawned : List ℕ) (all : List (List ℕ)) (ws : List written.Process) (ps : List Proc) : Type 0 where
  meaning : processes_meaning channels names spawned (map (plain_process channels all) ps) ≡ Some ps
  shallow : processes_depth (map (plain_process channels all) ps) ≤ processes_depth ws
  good : AllGood (processes_tokens ws) → AllGood (processes_tokens (map (plain_process channels all) ps))

abbrev ProcessesAt : List (List ℕ) → List (List ℕ) → List ℕ → List (List ℕ) → List written.Process → List Proc → Type 0
ProcessesAt channels names spawned all ws ps = all ≡ names ++ process_names ps → PlainProcesses channels names spawned all ws ps

processes_mean : (channels names new : List (List ℕ)) (spawned : List ℕ) (p : written.Process) (ps : List written.Process) (b : trees.Block × Names) (qs : List Proc)
    → declare 64 names p.name ≡ Some new → block_meaning true (first_names channels names spawned) p.body ≡ Some b → processes_meaning channels new b.1.spawned ps ≡ Some qs
    → processes_meaning channels names spawned (p ∷ ps) ≡ Some (record { name = p.name; body = b.0; variables = b.1.variables; channels = length channels; earlier = length names } ∷ qs)
unfolding processes_meaning
processes_mean channels names new spawned p ps b qs declared meant more = rw (declared, meant, more) refl

-- a name that is declared is the last
declared_last : (limit : ℕ) (names new : List (List ℕ)) (text : List ℕ) → declare limit names text ≡ Some new → names ++ text ∷ [] ≡ new
unfolding declare
declared_last limit names new text e = unless_some (is_some (place text names) || (leb limit (length names) || ltb 32 (length text))) _ new e (λ _ f. some_is _ _ f)

processes_plain : (ws : List written.Process) (channels names : List (List ℕ)) (spawned : List ℕ) (all : List (List ℕ)) (ps : List Proc) → processes_meaning channels names spawned ws ≡ Some ps → ProcessesAt channels names spawned all ws ps
unfolding processes_meaning AllGood Good
processes_plain [] channels names spawned all ps e =
    subst (ProcessesAt channels names spawned all []) (some_is _ _ e) (λ known. record { meaning = refl; shallow = omega arith; good = λ h. h })
processes_plain (w ∷ ws) channels names spawned all ps e =
    let first = first_names channels names spawned in
    let d = part (declare 64 names w.name) _ ps e in
    let b = part (block_meaning true first w.body) _ ps d.then in
    let o = part (processes_meaning channels d.first b.first.1.spawned ws) _ ps b.then in
    subst (ProcessesAt channels names spawned all (w ∷ ws)) (some_is _ _ o.then) (λ known.
    let V : Names = record { channels = channels; processes = all; variables = b.first.1.variables; spawned = [] } in
    let later = w.name ∷ process_names o.first in
    let stay = block_spawns w.body true first b.first b.is in
    let grown : Grows b.first.1 V = record {
      channels = sym (block_grows w.body true first b.first b.is).channels;
      later = later;
      processes = known ∙ ap (λ (y : List (List ℕ)). y ++ later) (sym stay.processes);
      more = [];
      variables = sym (append-nil b.first.1.variables);
    } in
    let p = block_plain w.body true first V b.first b.is grown in
    let known' : all ≡ d.first ++ process_names o.first =
    known ∙ sym (append_assoc names (w.name ∷ []) (process_names o.first)) ∙ ap (λ (y : List (List ℕ)). y ++ process_names o.first) (declared_last 64 names d.first w.name d.is) in
    let q = processes_plain ws channels d.first b.first.1.spawned all o.first o.is known' in
    record {
      meaning = processes_mean channels names d.first spawned (record { name = w.name; body = plain_block V b.first.0 }) (map (plain_process channels all) o.first) b.first o.first d.is p.meaning q.meaning;
      shallow = omega (arith, p.shallow, q.shallow);
      good = λ h. (tt, (h.1.0, (tt, p.good (processes_tokens ws) (processes_tokens (map (plain_process channels all) o.first)) h.1.1.1 (λ i. q.good i))));
    })

-- the channels are written as they were
channels_as_written : (texts names new : List (List ℕ)) → channels_meaning names texts ≡ Some new → names ++ texts ≡ new
unfolding channels_meaning
channels_as_written [] names new e = append-nil names ∙ some_is _ _ e
channels_as_written (text ∷ texts) names new e =
    let d = part (declare 256 names text) _ new e in
    sym (append_assoc names (text ∷ []) texts) ∙ ap (λ (y : List (List ℕ)). y ++ texts) (declared_last 256 names d.first text d.is) ∙ channels_as_written texts d.first new d.then

channels_good : (texts : List (List ℕ)) (rest rest' : List Token) → AllGood (channels_tokens texts rest) → (AllGood rest → AllGood rest') → AllGood (channels_tokens texts rest')
unfolding AllGood Good
channels_good [] rest rest' h k = k h
channels_good (text ∷ texts) rest rest' h k = (tt, (h.1.0, (tt, channels_good texts rest rest' h.1.1.1 k)))

record PlainScript (w : written.Script) (s : Script) : Type 0 where
  meaning : script_meaning (plain s) ≡ Some s
  shallow : script_depth (plain s) ≤ script_depth w
  good : AllGood (script_tokens w) → AllGood (script_tokens (plain s))

script_means : (texts channels : List (List ℕ)) (processes : List Proc) (ws : List written.Process) → channels_meaning [] texts ≡ Some channels → processes_meaning channels [] [] ws ≡ Some processes
    → script_meaning (record { channels = texts; processes = ws }) ≡ Some (record { channels = channels; processes = processes })
unfolding script_meaning
script_means texts channels processes ws p q = rw (p, q) refl

script_plain : (w : written.Script) (s : Script) → script_meaning w ≡ Some s → PlainScript w s
unfolding script_meaning plain
script_plain w s e =
    let c = part (channels_meaning [] w.channels) _ s e in
    let p = part (processes_meaning c.first [] [] w.processes) _ s c.then in
    let same : w.channels ≡ c.first = channels_as_written w.channels [] c.first c.is in
    let again : channels_meaning [] c.first ≡ Some c.first = subst (λ (y : List (List ℕ)). channels_meaning [] y ≡ Some c.first) same c.is in
    let names = process_names p.first in
    let q = processes_plain w.processes c.first [] [] names p.first p.is refl in
    subst (PlainScript w) (some_is _ _ p.then) (record {
      meaning = script_means c.first c.first p.first (map (plain_process c.first names) p.first) again q.meaning;
      shallow = q.shallow;
      good = λ h. subst (λ (y : List (List ℕ)). AllGood (channels_tokens y (processes_tokens (map (plain_process c.first names) p.first)))) same (channels_good w.channels (processes_tokens w.processes) (processes_tokens (map (plain_process c.first names) p.first)) h q.good);
    })

canon_spells : (bytes : List ℕ) (s : Script) → Spells bytes s → Spells (Canon s) s
unfolding Canon
canon_spells bytes s h =
    let p = script_plain h.written s h.meaning in
    let good = p.good (subst AllGood h.tokens (texts_are_good bytes)) in
    record { written = plain s; tokens = text_again (script_tokens (plain s)) good; depth = omega (arith, p.shallow, h.depth); meaning = p.meaning }

pub spelled_by_canon : IsSpelledByCanon
spelled_by_canon s h = ∥∥₁_rec squash₁ (λ t. ∣ canon_spells t.0 s t.1 ∣₁) h

pub read_again : IsReadAgain
read_again s h short = at_read (text_at (Canon s)) refl
  where
    nothing_is_prop : IsProp ⊥
    nothing_is_prop x y = absurd x

    at_read : (read : Result Script ScriptFault) → text_at (Canon s) ≡ read → text_at (Canon s) ≡ Ok s
    at_read (Ok t) is =
        is ∙
        ap (λ (x : Script). Ok x)
        (∥∥₁_rec (script_set t s) (λ k. (let both : ◌≡◌ {A = Result Script ScriptFault} (Ok t) (Ok s) = sym is ∙ spells_again (Canon s) s short k in let same : t ≡ s = cc in same)) (spelled_by_canon s h))
    at_read (Err fault) is =
        absurd (∥∥₁_rec nothing_is_prop (λ k. (let both : ◌≡◌ {A = Result Script ScriptFault} (Err fault) (Ok s) = sym is ∙ spells_again (Canon s) s short k in absurd cc)) (spelled_by_canon s h))

pub own_canon : HasItsOwnCanon
own_canon s t h k same =
    ∥∥₁_rec (script_set s t) (λ p. ∥∥₁_rec (script_set s t) (λ q. spells_only_one (Canon t) s t (subst (λ (y : List ℕ). Spells y s) same p) q) (spelled_by_canon t k)) (spelled_by_canon s h)
