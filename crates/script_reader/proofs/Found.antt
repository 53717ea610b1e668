-- Events, statements and blocks: what is read was written.
use Rattle.std.proofs.Common.{◌≡◌, ℕ, zero, suc, ◌-◌, ◌<◌, ◌≤◌, Bool, true, false, cond, ◌&&◌, leb, List, [], ◌∷◌, ◌++◌, ◌||◌, length, Option, Some, None, Ok, is_some, refl, sym, ap, ◌∙◌, subst, arith, tests, append_assoc}
use Rattle.std.proofs.lemmas.List.{append-nil}
use Rattle.script_token.specs.Tokens.{Token, Fixed, Name, Number}
use Rattle.script_token.specs.declared.kind.Symbol.{Symbol}
use Rattle.script_token.specs.declared.kind.Symbol.TheVariants.{Let, Print, Sync, If, Else, Loop, Forever, End, Send, Recv, Always, Never, Cancelled, Choose, Wrap, As, To, Guard, Nack, Spawn, Joined, Semicolon, Comma, OpenBrace, CloseBrace, OpenBracket, CloseBracket, Equal, Arrow}
use Rattle.script_tree.specs.Trees as trees
use Rattle.script_tree.specs.Trees.{LoopBody}
use Rattle.script_tree.specs.Limits.{IsSmall, base_count, nack_count}
use Rattle.script_reader.specs.Steps.{Here, name_at, number_at, next_is, accept_at, expect_at, read_name_at, read_process_at, spawn_process_at, bind_name_at, bind_names_at, repeated, ◌>>=◌}
use Rattle.script_grammar.specs.Meaning.{if_some, Names, bind_names, is_small, as_turn, event_meaning, events_meaning, stmt_meaning, block_meaning}
use Rattle.script_reader.specs.Exprs.{expr_at, test_at, list_at}
use Rattle.script_reader.proofs.Keeping.{bound_ok, ok_is, no_ok, if_ok, some_ok}
use Rattle.script_grammar.specs.Written as written
use Rattle.script_grammar.specs.Written.{expr_tokens, test_tokens, more_names_tokens, as_tokens, event_tokens, events_tokens, more_events_tokens, stmt_tokens, body_tokens, block_tokens}
use Rattle.script_grammar.specs.Depths.{event_depth, events_depth, stmt_depth, stmts_depth, block_depth}
use Rattle.script_reader.specs.Laws.{names_at}
use Rattle.script_reader.proofs.ReadFronts.{next_found, number_found, accept_found, expect_found}
use Rattle.script_reader.proofs.ReadNames.{name_is_found, process_is_found, spawn_is_found, bind_is_found, names_found}
use Rattle.script_reader.proofs.ReadExprs.{expr_found}
use Rattle.script_reader.proofs.ReadLists.{test_found, list_found}
use Rattle.script_reader.specs.Blocks.{base_at, nack_word_at, send_at, recv_at, always_at, never_at, cancelled_at, joined_at, as_names_at, chain, body, ReadsEvent, ReadsBlock, ReadsStmt, ReadsTurn, member_next, member_step, members_with, choose_with, wrap_with, guard_with, nack_with, event_with, fresh, synced_with, sync_with, let_at, print_at, end_at, spawn_at, branch_with, times_at, counted_with, forever_with, are_allowed, stmt_with, stmt_next, stmt_step, stmts_with, block_with, is_no_sync, turn_with, none_there, event_at, block_at, turn_at}
use Rattle.script_reader.specs.declared.process.Loops.{Loops as Place}
use Rattle.script_reader.specs.declared.process.Loops.TheVariants.{Allowed, Forbidden}
use Rattle.script_reader.proofs.KeepingBlocks.{EventsRead, deeper, events_read}

-- EVENTS

pub record SpellsEvent (nesting : ℕ) (h h' : Here) (ts : List Token) (e : trees.Event) (rest : List Token) : Type 0 where
  pub event : written.Event
  pub tokens : ts ≡ event_tokens event rest
  pub depth : event_depth event < nesting
  pub meaning : event_meaning (names_at h) event ≡ Some (e, names_at h')

pub record SpellsBlock (nesting : ℕ) (loops : Bool) (h h' : Here) (ts : List Token) (b : trees.Block) (rest : List Token) : Type 0 where
  pub body : written.Block
  pub tokens : ts ≡ block_tokens body rest
  pub depth : block_depth body < nesting
  pub meaning : block_meaning loops (names_at h) body ≡ Some (b, names_at h')

abbrev pub EventsFound : ℕ → ReadsEvent → Type 0
EventsFound nesting f = (h : Here) (ts : List Token) (x : trees.Event × Here × List Token) → f h ts ≡ Ok x → SpellsEvent nesting h x.1 ts x.0 x.2

abbrev pub BlocksFound : ℕ → ReadsBlock → Type 0
BlocksFound nesting f = (place : Place) (h : Here) (ts : List Token) (x : trees.Block × Here × List Token) → f place h ts ≡ Ok x → SpellsBlock nesting (are_allowed place) h x.1 ts x.0 x.2

abbrev EventResult : Type 0
EventResult = trees.Event × Here × List Token

-- a word that is counted
record SpellsWord (nesting : ℕ) (word : Symbol) (h h' : Here) (ts rest : List Token) : Type 0 where
  tokens : ts ≡ Fixed word ∷ rest
  some : 0 < nesting
  names : names_at h' ≡ names_at h

base_found : (nesting : ℕ) (word : Symbol) (h : Here) (ts : List Token) (x : Here × List Token) → next_is word ts ≡ true → base_at nesting h ts ≡ Ok x → SpellsWord nesting word h x.0 ts x.1
unfolding base_at
base_found nesting word h ts x is e =
    if_ok (leb 8 h.counts.bases) _ _ x e
    (λ _ f. no_ok _ _ f)
    (λ _ f.
    let b = bound_ok (accept_at nesting ts) _ x f in
    let t = accept_found nesting (Fixed word) ts b.first (next_found word ts is) b.is in
    subst (λ (y : Here × List Token). SpellsWord nesting word h y.0 ts y.1) (ok_is _ _ b.then) (record { tokens = t.is; some = t.some; names = refl }))

nack_word_found : (nesting : ℕ) (h : Here) (ts : List Token) (x : Here × List Token) → next_is Nack ts ≡ true → nack_word_at nesting h ts ≡ Ok x → SpellsWord nesting Nack h x.0 ts x.1
unfolding nack_word_at
nack_word_found nesting h ts x is e =
    if_ok (leb 4 h.counts.nacks) _ _ x e
    (λ _ f. no_ok _ _ f)
    (λ _ f.
    let b = bound_ok (accept_at nesting ts) _ x f in
    let t = accept_found nesting (Fixed Nack) ts b.first (next_found Nack ts is) b.is in
    subst (λ (y : Here × List Token). SpellsWord nesting Nack h y.0 ts y.1) (ok_is _ _ b.then) (record { tokens = t.is; some = t.some; names = refl }))

-- what is meant with the names behind a word is meant with those before it
same_names : (h h' : Here) (w : written.Event) (y : Option (trees.Event × Names)) → names_at h' ≡ names_at h → event_meaning (names_at h') w ≡ y → event_meaning (names_at h) w ≡ y
same_names h h' w y e m = subst (λ (ns : Names). event_meaning ns w ≡ y) e m

send_found : (nesting : ℕ) (h : Here) (ts : List Token) (x : EventResult) → next_is Send ts ≡ true → send_at nesting h ts ≡ Ok x → SpellsEvent nesting h x.1 ts x.0 x.2
unfolding send_at event_meaning
send_found nesting h ts x is e =
    let b = bound_ok (base_at nesting h ts) _ x e in
    let w = base_found nesting Send h ts b.first is b.is in
    let c = bound_ok (read_name_at nesting b.first.0 b.first.1) _ x b.then in
    let n = name_is_found nesting b.first.0 b.first.1 c.first c.is in
    let l = bound_ok (list_at nesting b.first.0 c.first.1) _ x c.then in
    let m = list_found nesting b.first.0 c.first.1 l.first l.is in
    subst (λ (y : EventResult). SpellsEvent nesting h y.1 ts y.0 y.2) (ok_is _ _ l.then) (record {
      event = written.Send n.text m.members;
      tokens = w.tokens ∙ ap (λ (y : List Token). Fixed Send ∷ y) (n.tokens ∙ ap (λ (y : List Token). Name n.text ∷ y) m.tokens);
      depth = m.depth;
      meaning = same_names h b.first.0 (written.Send n.text m.members) _ w.names (rw (n.meaning, m.meaning) refl);
    })

recv_found : (nesting : ℕ) (h : Here) (ts : List Token) (x : EventResult) → next_is Recv ts ≡ true → recv_at nesting h ts ≡ Ok x → SpellsEvent nesting h x.1 ts x.0 x.2
unfolding recv_at event_meaning
recv_found nesting h ts x is e =
    let b = bound_ok (base_at nesting h ts) _ x e in
    let w = base_found nesting Recv h ts b.first is b.is in
    let c = bound_ok (read_name_at nesting b.first.0 b.first.1) _ x b.then in
    let n = name_is_found nesting b.first.0 b.first.1 c.first c.is in
    subst (λ (y : EventResult). SpellsEvent nesting h y.1 ts y.0 y.2) (ok_is _ _ c.then) (record {
      event = written.Recv n.text;
      tokens = w.tokens ∙ ap (λ (y : List Token). Fixed Recv ∷ y) n.tokens;
      depth = w.some;
      meaning = same_names h b.first.0 (written.Recv n.text) _ w.names (rw n.meaning refl);
    })

always_found : (nesting : ℕ) (h : Here) (ts : List Token) (x : EventResult) → next_is Always ts ≡ true → always_at nesting h ts ≡ Ok x → SpellsEvent nesting h x.1 ts x.0 x.2
unfolding always_at event_meaning
always_found nesting h ts x is e =
    let b = bound_ok (base_at nesting h ts) _ x e in
    let w = base_found nesting Always h ts b.first is b.is in
    let l = bound_ok (list_at nesting b.first.0 b.first.1) _ x b.then in
    let m = list_found nesting b.first.0 b.first.1 l.first l.is in
    subst (λ (y : EventResult). SpellsEvent nesting h y.1 ts y.0 y.2) (ok_is _ _ l.then) (record {
      event = written.Always m.members;
      tokens = w.tokens ∙ ap (λ (y : List Token). Fixed Always ∷ y) m.tokens;
      depth = m.depth;
      meaning = same_names h b.first.0 (written.Always m.members) _ w.names (rw m.meaning refl);
    })

never_found : (nesting : ℕ) (h : Here) (ts : List Token) (x : EventResult) → next_is Never ts ≡ true → never_at nesting h ts ≡ Ok x → SpellsEvent nesting h x.1 ts x.0 x.2
unfolding never_at event_meaning
never_found nesting h ts x is e =
    let b = bound_ok (base_at nesting h ts) _ x e in
    let w = base_found nesting Never h ts b.first is b.is in
    subst (λ (y : EventResult). SpellsEvent nesting h y.1 ts y.0 y.2) (ok_is _ _ b.then) (record {
      event = written.Never;
      tokens = w.tokens;
      depth = w.some;
      meaning = same_names h b.first.0 written.Never _ w.names refl;
    })

cancelled_found : (nesting : ℕ) (h : Here) (ts : List Token) (x : EventResult) → next_is Cancelled ts ≡ true → cancelled_at nesting h ts ≡ Ok x → SpellsEvent nesting h x.1 ts x.0 x.2
unfolding cancelled_at event_meaning
cancelled_found nesting h ts x is e =
    let b = bound_ok (base_at nesting h ts) _ x e in
    let w = base_found nesting Cancelled h ts b.first is b.is in
    let c = bound_ok (read_name_at nesting b.first.0 b.first.1) _ x b.then in
    let n = name_is_found nesting b.first.0 b.first.1 c.first c.is in
    subst (λ (y : EventResult). SpellsEvent nesting h y.1 ts y.0 y.2) (ok_is _ _ c.then) (record {
      event = written.Cancelled n.text;
      tokens = w.tokens ∙ ap (λ (y : List Token). Fixed Cancelled ∷ y) n.tokens;
      depth = w.some;
      meaning = same_names h b.first.0 (written.Cancelled n.text) _ w.names (rw n.meaning refl);
    })

joined_found : (nesting : ℕ) (h : Here) (ts : List Token) (x : EventResult) → next_is Joined ts ≡ true → joined_at nesting h ts ≡ Ok x → SpellsEvent nesting h x.1 ts x.0 x.2
unfolding joined_at event_meaning
joined_found nesting h ts x is e =
    let b = bound_ok (base_at nesting h ts) _ x e in
    let w = base_found nesting Joined h ts b.first is b.is in
    let p = bound_ok (read_process_at nesting b.first.0 b.first.1) _ x b.then in
    let n = process_is_found nesting b.first.0 b.first.1 p.first p.is in
    subst (λ (y : EventResult). SpellsEvent nesting h y.1 ts y.0 y.2) (ok_is _ _ p.then) (record {
      event = written.Joined n.text;
      tokens = w.tokens ∙ ap (λ (y : List Token). Fixed Joined ∷ y) n.tokens;
      depth = w.some;
      meaning = same_names h b.first.0 (written.Joined n.text) _ w.names (rw n.place refl);
    })

-- MEMBERS

abbrev MembersSoFar : Type 0
MembersSoFar = List trees.Event × Here × List Token

-- the members behind those so far
record SpellsMore (nesting : ℕ) (s x : MembersSoFar) : Type 0 where
  others : written.Events
  list : List trees.Event
  tokens : s.2 ≡ more_events_tokens others x.2
  depth : 0 < nesting → events_depth others < nesting
  meaning : events_meaning (names_at s.1) others ≡ Some (chain list, names_at x.1)
  value : s.0 ++ list ≡ x.0

no_more : (nesting : ℕ) (s : MembersSoFar) → SpellsMore nesting s s
unfolding events_meaning
no_more nesting s = record { others = written.NoEvents; list = []; tokens = refl; depth = λ some. some; meaning = refl; value = append-nil s.0 }

one_more : (nesting : ℕ) (s x : MembersSoFar) (e : EventResult) (rest : List Token) → s.2 ≡ Fixed Comma ∷ rest → SpellsEvent nesting s.1 e.1 rest e.0 e.2 → SpellsMore nesting (s.0 ++ e.0 ∷ [], e.1, e.2) x → SpellsMore nesting s x
unfolding events_meaning
one_more nesting s x e rest comma first more = record {
  others = written.Another first.event more.others;
  list = e.0 ∷ more.list;
  tokens = comma ∙ ap (λ (y : List Token). Fixed Comma ∷ y) (first.tokens ∙ ap (event_tokens first.event) more.tokens);
  depth = λ some. (let d = more.depth some in omega (arith, d, first.depth));
  meaning = rw (first.meaning, more.meaning) refl;
  value = sym (append_assoc s.0 (e.0 ∷ []) more.list) ∙ more.value;
}

more_found : (event : ReadsEvent) (nesting : ℕ) → EventsFound nesting event → (n : ℕ) (s x : MembersSoFar) → repeated (member_step event nesting) n s ≡ Ok x → SpellsMore nesting s x
unfolding repeated
more_found event nesting found zero s x e = subst (SpellsMore nesting s) (ok_is _ _ e) (no_more nesting s)
more_found event nesting found (suc n) s x e = at_comma (λ y f. more_found event nesting found n y x f) (next_is Comma s.2) refl e
  where
    at_comma : ((y : MembersSoFar) → repeated (member_step event nesting) n y ≡ Ok x → SpellsMore nesting y x)
        → (v : Bool) → next_is Comma s.2 ≡ v → if_some (cond v (Some (member_next event nesting s)) None) (λ r. r >>= repeated (member_step event nesting) n) (Ok s) ≡ Ok x → SpellsMore nesting s x
    at_comma next true is f =
        let m = bound_ok (member_next event nesting s) _ x f in
        let a = bound_ok (accept_at nesting s.2) _ m.first m.is in
        let comma = accept_found nesting (Fixed Comma) s.2 a.first (next_found Comma s.2 is) a.is in
        let b = bound_ok (event s.1 a.first) _ m.first a.then in
        let same : (s.0 ++ b.first.0 ∷ [], b.first.1, b.first.2) ≡ m.first = ok_is _ _ b.then in
        one_more nesting s x b.first a.first comma.is (found s.1 a.first b.first b.is) (next (s.0 ++ b.first.0 ∷ [], b.first.1, b.first.2) (ap (repeated (member_step event nesting) n) same ∙ m.then))
    at_comma next false is f = subst (SpellsMore nesting s) (ok_is _ _ f) (no_more nesting s)

record SpellsMembers (nesting : ℕ) (h h' : Here) (ts : List Token) (list : List trees.Event) (rest : List Token) : Type 0 where
  members : written.Events
  tokens : ts ≡ events_tokens members rest
  depth : 0 < nesting → events_depth members < nesting
  meaning : events_meaning (names_at h) members ≡ Some (chain list, names_at h')

members_found : (event : ReadsEvent) (nesting : ℕ) (h : Here) (ts : List Token) (x : MembersSoFar) → EventsFound nesting event → members_with event nesting h ts ≡ Ok x → SpellsMembers nesting h x.1 ts x.0 x.2
unfolding members_with events_meaning
members_found event nesting h ts x found e =
    if_ok (next_is CloseBracket ts) _ _ x e
    (λ _ f. subst (λ (y : MembersSoFar). SpellsMembers nesting h y.1 ts y.0 y.2) (ok_is _ _ f) (record { members = written.NoEvents; tokens = refl; depth = λ some. some; meaning = refl }))
    (λ _ f.
    let a = bound_ok (event h ts) _ x f in
    let first = found h ts a.first a.is in
    let m = more_found event nesting found (length ts) (a.first.0 ∷ [], a.first.1, a.first.2) x a.then in
    record {
      members = written.Another first.event m.others;
      tokens = first.tokens ∙ ap (event_tokens first.event) m.tokens;
      depth = λ some. (let d = m.depth some in omega (arith, d, first.depth));
      meaning = rw (first.meaning, m.meaning) (ap (λ (y : List trees.Event). Some (chain y, names_at x.1)) m.value);
    })

choose_found : (event : ReadsEvent) (nesting : ℕ) (h : Here) (ts : List Token) (x : EventResult) → EventsFound (nesting - 1) event → next_is Choose ts ≡ true → choose_with event nesting h ts ≡ Ok x → SpellsEvent nesting h x.1 ts x.0 x.2
unfolding choose_with event_meaning
choose_found event nesting h ts x found is e =
    let a = bound_ok (accept_at nesting ts) _ x e in
    let word = accept_found nesting (Fixed Choose) ts a.first (next_found Choose ts is) a.is in
    let b = bound_ok (expect_at nesting OpenBracket a.first) _ x a.then in
    let open' = expect_found nesting OpenBracket a.first b.first b.is in
    let m = bound_ok (members_with event (nesting - 1) h b.first) _ x b.then in
    let members = members_found event (nesting - 1) h b.first m.first found m.is in
    let c = bound_ok (expect_at (nesting - 1) CloseBracket m.first.2) _ x m.then in
    let close = expect_found (nesting - 1) CloseBracket m.first.2 c.first c.is in
    let d = members.depth close.some in
    subst (λ (y : EventResult). SpellsEvent nesting h y.1 ts y.0 y.2) (ok_is _ _ c.then) (record {
      event = written.Choose members.members;
      tokens = word.is ∙ ap (λ (y : List Token). Fixed Choose ∷ y) (open'.is ∙ ap (λ (y : List Token). Fixed OpenBracket ∷ y) (members.tokens ∙ ap (events_tokens members.members) close.is));
      depth = omega (arith, d, close.some);
      meaning = rw members.meaning refl;
    })

-- NAMES BEHIND `as`

record SpellsAs (h h' : Here) (ts : List Token) (names : Option (List ℕ)) (rest : List Token) : Type 0 where
  texts : List (List ℕ)
  tokens : ts ≡ as_tokens texts rest
  meaning : bind_names (names_at h) texts ≡ Some (names, names_at h')

as_names_found : (nesting : ℕ) (h : Here) (ts : List Token) (x : Option (List ℕ) × Here × List Token) → as_names_at nesting h ts ≡ Ok x → SpellsAs h x.1 ts x.0 x.2
unfolding as_names_at bind_names
as_names_found nesting h ts x e =
    if_ok (next_is As ts) _ _ x e
    (λ is f.
    let a = bound_ok (accept_at nesting ts) _ x f in
    let word = accept_found nesting (Fixed As) ts a.first (next_found As ts is) a.is in
    let n = bound_ok (bind_names_at nesting h a.first) _ x a.then in
    let names = names_found nesting h a.first n.first n.is in
    subst (λ (y : Option (List ℕ) × Here × List Token). SpellsAs h y.1 ts y.0 y.2) (ok_is _ _ n.then)
    (record { texts = names.text ∷ names.texts; tokens = word.is ∙ ap (λ (y : List Token). Fixed As ∷ y) names.tokens; meaning = rw (names.few, names.binds) refl }))
    (λ _ f. subst (λ (y : Option (List ℕ) × Here × List Token). SpellsAs h y.1 ts y.0 y.2) (ok_is _ _ f) (record { texts = []; tokens = refl; meaning = refl }))

wrap_found : (event : ReadsEvent) (nesting : ℕ) (h : Here) (ts : List Token) (x : EventResult) → EventsFound (nesting - 1) event → next_is Wrap ts ≡ true → wrap_with event nesting h ts ≡ Ok x → SpellsEvent nesting h x.1 ts x.0 x.2
unfolding wrap_with event_meaning
wrap_found event nesting h ts x found is e =
    let a = bound_ok (accept_at nesting ts) _ x e in
    let word = accept_found nesting (Fixed Wrap) ts a.first (next_found Wrap ts is) a.is in
    let v = bound_ok (event h a.first) _ x a.then in
    let inner = found h a.first v.first v.is in
    let n = bound_ok (as_names_at (nesting - 1) v.first.1 v.first.2) _ x v.then in
    let names = as_names_found (nesting - 1) v.first.1 v.first.2 n.first n.is in
    let t = bound_ok (expect_at (nesting - 1) To n.first.2) _ x n.then in
    let to = expect_found (nesting - 1) To n.first.2 t.first t.is in
    let l = bound_ok (list_at (nesting - 1) n.first.1 t.first) _ x t.then in
    let list = list_found (nesting - 1) n.first.1 t.first l.first l.is in
    subst (λ (y : EventResult). SpellsEvent nesting h y.1 ts y.0 y.2) (ok_is _ _ l.then) (record {
      event = written.Wrap inner.event names.texts list.members;
      tokens = word.is ∙ ap (λ (y : List Token). Fixed Wrap ∷ y) (inner.tokens ∙ ap (event_tokens inner.event) (names.tokens ∙ ap (as_tokens names.texts) (to.is ∙ ap (λ (y : List Token). Fixed To ∷ y) list.tokens)));
      depth = omega (arith, inner.depth, list.depth);
      meaning = rw (inner.meaning, names.meaning, list.meaning) refl;
    })

guard_found : (event : ReadsEvent) (block : ReadsBlock) (nesting : ℕ) (h : Here) (ts : List Token) (x : EventResult) → EventsFound (nesting - 1) event → BlocksFound (nesting - 1) block → next_is Guard ts ≡ true → guard_with event block nesting h ts ≡ Ok x
    → SpellsEvent nesting h x.1 ts x.0 x.2
unfolding guard_with event_meaning
guard_found event block nesting h ts x found blocks is e =
    let a = bound_ok (accept_at nesting ts) _ x e in
    let word = accept_found nesting (Fixed Guard) ts a.first (next_found Guard ts is) a.is in
    let b = bound_ok (block Forbidden h a.first) _ x a.then in
    let body' = blocks Forbidden h a.first b.first b.is in
    let v = bound_ok (event b.first.1 b.first.2) _ x b.then in
    let inner = found b.first.1 b.first.2 v.first v.is in
    subst (λ (y : EventResult). SpellsEvent nesting h y.1 ts y.0 y.2) (ok_is _ _ v.then) (record {
      event = written.Guard body'.body inner.event;
      tokens = word.is ∙ ap (λ (y : List Token). Fixed Guard ∷ y) (body'.tokens ∙ ap (block_tokens body'.body) inner.tokens);
      depth = omega (arith, inner.depth, body'.depth);
      meaning = rw (body'.meaning, inner.meaning) refl;
    })

nack_found : (event : ReadsEvent) (block : ReadsBlock) (nesting : ℕ) (h : Here) (ts : List Token) (x : EventResult) → EventsFound (nesting - 1) event → BlocksFound (nesting - 1) block → next_is Nack ts ≡ true → nack_with event block nesting h ts ≡ Ok x
    → SpellsEvent nesting h x.1 ts x.0 x.2
unfolding nack_with event_meaning
nack_found event block nesting h ts x found blocks is e =
    let w = bound_ok (nack_word_at nesting h ts) _ x e in
    let word = nack_word_found nesting h ts w.first is w.is in
    let n = bound_ok (bind_name_at (nesting - 1) [] w.first.0 w.first.1) _ x w.then in
    let name = bind_is_found (nesting - 1) [] w.first.0 w.first.1 n.first n.is in
    let b = bound_ok (block Forbidden n.first.1 n.first.2) _ x n.then in
    let body' = blocks Forbidden n.first.1 n.first.2 b.first b.is in
    let v = bound_ok (event b.first.1 b.first.2) _ x b.then in
    let inner = found b.first.1 b.first.2 v.first v.is in
    subst (λ (y : EventResult). SpellsEvent nesting h y.1 ts y.0 y.2) (ok_is _ _ v.then) (record {
      event = written.Nack name.text body'.body inner.event;
      tokens = word.tokens ∙ ap (λ (y : List Token). Fixed Nack ∷ y) (name.tokens ∙ ap (λ (y : List Token). Name name.text ∷ y) (body'.tokens ∙ ap (block_tokens body'.body) inner.tokens));
      depth = omega (arith, inner.depth, body'.depth);
      meaning = same_names h w.first.0 (written.Nack name.text body'.body inner.event) _ word.names (rw (name.binds, body'.meaning, inner.meaning) refl);
    })

event_found : (event : ReadsEvent) (block : ReadsBlock) (nesting : ℕ) → EventsFound (nesting - 1) event → BlocksFound (nesting - 1) block → EventsFound nesting (event_with event block nesting)
unfolding event_with
event_found event block nesting found blocks h ts x e =
    if_ok (next_is Send ts) _ _ x e (λ is f. send_found nesting h ts x is f)
    (λ _ e. if_ok (next_is Recv ts) _ _ x e (λ is f. recv_found nesting h ts x is f)
    (λ _ e. if_ok (next_is Always ts) _ _ x e (λ is f. always_found nesting h ts x is f)
    (λ _ e. if_ok (next_is Never ts) _ _ x e (λ is f. never_found nesting h ts x is f)
    (λ _ e. if_ok (next_is Cancelled ts) _ _ x e (λ is f. cancelled_found nesting h ts x is f)
    (λ _ e. if_ok (next_is Joined ts) _ _ x e (λ is f. joined_found nesting h ts x is f)
    (λ _ e. if_ok (next_is Choose ts) _ _ x e (λ is f. choose_found event nesting h ts x found is f)
    (λ _ e. if_ok (next_is Wrap ts) _ _ x e (λ is f. wrap_found event nesting h ts x found is f)
    (λ _ e. if_ok (next_is Guard ts) _ _ x e (λ is f. guard_found event block nesting h ts x found blocks is f)
    (λ _ e. if_ok (next_is Nack ts) _ _ x e (λ is f. nack_found event block nesting h ts x found blocks is f)
    (λ _ f. no_ok _ _ f))))))))))

-- STATEMENTS

pub record SpellsStmt (nesting : ℕ) (loops : Bool) (h h' : Here) (ts : List Token) (s : trees.Stmt) (rest : List Token) : Type 0 where
  pub stmt : written.Stmt
  pub tokens : ts ≡ stmt_tokens stmt rest
  pub depth : stmt_depth stmt < nesting
  pub meaning : stmt_meaning loops (names_at h) stmt ≡ Some (s, names_at h')

abbrev pub StmtsFound : ℕ → ReadsStmt → Type 0
StmtsFound nesting f = (place : Place) (h : Here) (ts : List Token) (x : trees.Stmt × Here × List Token) → f place h ts ≡ Ok x → SpellsStmt nesting (are_allowed place) h x.1 ts x.0 x.2

abbrev StmtResult : Type 0
StmtResult = trees.Stmt × Here × List Token

-- the event of a sync
record SpellsSync (nesting : ℕ) (h h' : Here) (ts : List Token) (e : trees.Event) (rest : List Token) : Type 0 where
  event : written.Event
  tokens : ts ≡ Fixed Sync ∷ event_tokens event (Fixed Semicolon ∷ rest)
  depth : event_depth event < nesting
  meaning : event_meaning (names_at h) event ≡ Some (e, names_at h')
  small : is_small e ≡ true

both : (a b : Bool) → a ≡ true → b ≡ true → (a && b) ≡ true
both a b e f = rw (e, f) refl

small_is : (e : trees.Event) → IsSmall e → is_small e ≡ true
small_is e h =
    let n = base_count e in
    let m = nack_count e in
    let few_bases : n ≤ 8 = h.0 in
    let few_nacks : m ≤ 4 = h.1 in
    let first : leb n 8 ≡ true = search (arith, tests) in
    let second : leb m 4 ≡ true = search (arith, tests) in
    both (leb n 8) (leb m 4) first second

small_event : (event : ReadsEvent) (nesting : ℕ) (h : Here) (ts : List Token) (x : EventResult) → EventsRead nesting event → event (fresh h) ts ≡ Ok x → IsSmall x.0
small_event event nesting h ts x reads e =
    let r = reads (fresh h) ts x e in
    (omega (arith, r.bases, r.few_bases (omega arith)), omega (arith, r.nacks, r.few_nacks (omega arith)))

synced_found : (event : ReadsEvent) (nesting : ℕ) (h : Here) (ts : List Token) (x : EventResult) → EventsRead nesting event → EventsFound nesting event → synced_with event nesting h ts ≡ Ok x → SpellsSync nesting h x.1 ts x.0 x.2
unfolding synced_with
synced_found event nesting h ts x reads found e =
    let a = bound_ok (expect_at nesting Sync ts) _ x e in
    let word = expect_found nesting Sync ts a.first a.is in
    let v = bound_ok (event (fresh h) a.first) _ x a.then in
    let inner = found (fresh h) a.first v.first v.is in
    let c = bound_ok (expect_at nesting Semicolon v.first.2) _ x v.then in
    let close = expect_found nesting Semicolon v.first.2 c.first c.is in
    subst (λ (y : EventResult). SpellsSync nesting h y.1 ts y.0 y.2) (ok_is _ _ c.then) (record {
      event = inner.event;
      tokens = word.is ∙ ap (λ (y : List Token). Fixed Sync ∷ y) (inner.tokens ∙ ap (event_tokens inner.event) close.is);
      depth = inner.depth;
      meaning = inner.meaning;
      small = small_is v.first.0 (small_event event nesting h a.first v.first reads v.is);
    })

let_found : (nesting : ℕ) (loops : Bool) (h : Here) (ts : List Token) (x : StmtResult) → next_is Let ts ≡ true → let_at nesting h ts ≡ Ok x → SpellsStmt nesting loops h x.1 ts x.0 x.2
unfolding let_at stmt_meaning
let_found nesting loops h ts x is e =
    let a = bound_ok (accept_at nesting ts) _ x e in
    let word = accept_found nesting (Fixed Let) ts a.first (next_found Let ts is) a.is in
    let n = bound_ok (bind_name_at nesting [] h a.first) _ x a.then in
    let name = bind_is_found nesting [] h a.first n.first n.is in
    let q = bound_ok (expect_at nesting Equal n.first.2) _ x n.then in
    let equal = expect_found nesting Equal n.first.2 q.first q.is in
    let v = bound_ok (expr_at nesting n.first.1 q.first) _ x q.then in
    let value = expr_found nesting n.first.1 q.first v.first v.is in
    let c = bound_ok (expect_at nesting Semicolon v.first.1) _ x v.then in
    let close = expect_found nesting Semicolon v.first.1 c.first c.is in
    subst (λ (y : StmtResult). SpellsStmt nesting loops h y.1 ts y.0 y.2) (ok_is _ _ c.then) (record {
      stmt = written.Let name.text value.expr;
      tokens = word.is ∙ ap (λ (y : List Token). Fixed Let ∷ y) (name.tokens ∙ ap (λ (y : List Token). Name name.text ∷ y) (equal.is ∙ ap (λ (y : List Token). Fixed Equal ∷ y) (value.tokens ∙ ap (expr_tokens value.expr) close.is)));
      depth = value.depth;
      meaning = rw (name.binds, value.meaning) refl;
    })

print_found : (nesting : ℕ) (loops : Bool) (h : Here) (ts : List Token) (x : trees.Stmt × List Token) → next_is Print ts ≡ true → print_at nesting h ts ≡ Ok x → SpellsStmt nesting loops h h ts x.0 x.1
unfolding print_at stmt_meaning
print_found nesting loops h ts x is e =
    let a = bound_ok (accept_at nesting ts) _ x e in
    let word = accept_found nesting (Fixed Print) ts a.first (next_found Print ts is) a.is in
    let v = bound_ok (expr_at nesting h a.first) _ x a.then in
    let value = expr_found nesting h a.first v.first v.is in
    let c = bound_ok (expect_at nesting Semicolon v.first.1) _ x v.then in
    let close = expect_found nesting Semicolon v.first.1 c.first c.is in
    subst (λ (y : trees.Stmt × List Token). SpellsStmt nesting loops h h ts y.0 y.1) (ok_is _ _ c.then) (record {
      stmt = written.Print value.expr;
      tokens = word.is ∙ ap (λ (y : List Token). Fixed Print ∷ y) (value.tokens ∙ ap (expr_tokens value.expr) close.is);
      depth = value.depth;
      meaning = rw value.meaning refl;
    })

end_found : (nesting : ℕ) (loops : Bool) (h : Here) (ts : List Token) (x : trees.Stmt × List Token) → next_is End ts ≡ true → end_at nesting ts ≡ Ok x → SpellsStmt nesting loops h h ts x.0 x.1
unfolding end_at stmt_meaning
end_found nesting loops h ts x is e =
    let a = bound_ok (accept_at nesting ts) _ x e in
    let word = accept_found nesting (Fixed End) ts a.first (next_found End ts is) a.is in
    let c = bound_ok (expect_at nesting Semicolon a.first) _ x a.then in
    let close = expect_found nesting Semicolon a.first c.first c.is in
    subst (λ (y : trees.Stmt × List Token). SpellsStmt nesting loops h h ts y.0 y.1) (ok_is _ _ c.then) (record {
      stmt = written.End;
      tokens = word.is ∙ ap (λ (y : List Token). Fixed End ∷ y) close.is;
      depth = word.some;
      meaning = refl;
    })

spawn_found : (nesting : ℕ) (loops : Bool) (h : Here) (ts : List Token) (x : StmtResult) → next_is Spawn ts ≡ true → spawn_at nesting h ts ≡ Ok x → SpellsStmt nesting loops h x.1 ts x.0 x.2
unfolding spawn_at stmt_meaning
spawn_found nesting loops h ts x is e =
    let a = bound_ok (accept_at nesting ts) _ x e in
    let word = accept_found nesting (Fixed Spawn) ts a.first (next_found Spawn ts is) a.is in
    let p = bound_ok (spawn_process_at nesting h a.first) _ x a.then in
    let n = spawn_is_found nesting h a.first p.first p.is in
    let c = bound_ok (expect_at nesting Semicolon p.first.2) _ x p.then in
    let close = expect_found nesting Semicolon p.first.2 c.first c.is in
    subst (λ (y : StmtResult). SpellsStmt nesting loops h y.1 ts y.0 y.2) (ok_is _ _ c.then) (record {
      stmt = written.Spawn n.text;
      tokens = word.is ∙ ap (λ (y : List Token). Fixed Spawn ∷ y) (n.tokens ∙ ap (λ (y : List Token). Name n.text ∷ y) close.is);
      depth = word.some;
      meaning = rw (n.place, n.new) (ap (λ (y : Names). Some (trees.Spawns p.first.0, y)) (sym n.names));
    })

abbrev SyncResult : Type 0
SyncResult = (Option (List ℕ) × trees.Event) × Here × List Token

sync_found : (event : ReadsEvent) (nesting : ℕ) (loops : Bool) (h : Here) (ts : List Token) (x : SyncResult) → EventsRead nesting event → EventsFound nesting event → sync_with event nesting h ts ≡ Ok x → SpellsStmt nesting loops h x.1 ts (trees.Syncs x.0.0 x.0.1) x.2
unfolding sync_with stmt_meaning bind_names
sync_found event nesting loops h ts x reads found e =
    if_ok (next_is Sync ts) _ _ x e
    (λ _ f.
    let s = bound_ok (synced_with event nesting h ts) _ x f in
    let sync = synced_found event nesting h ts s.first reads found s.is in
    subst (λ (y : SyncResult). SpellsStmt nesting loops h y.1 ts (trees.Syncs y.0.0 y.0.1) y.2) (ok_is _ _ s.then)
    (record { stmt = written.Sync [] sync.event; tokens = sync.tokens; depth = sync.depth; meaning = rw (sync.meaning, sync.small) refl }))
    (λ _ f.
    let n = bound_ok (bind_names_at nesting h ts) _ x f in
    let names = names_found nesting h ts n.first n.is in
    let a = bound_ok (expect_at nesting Arrow n.first.2) _ x n.then in
    let arrow = expect_found nesting Arrow n.first.2 a.first a.is in
    let v = bound_ok (synced_with event nesting n.first.1 a.first) _ x a.then in
    let sync = synced_found event nesting n.first.1 a.first v.first reads found v.is in
    subst (λ (y : SyncResult). SpellsStmt nesting loops h y.1 ts (trees.Syncs y.0.0 y.0.1) y.2) (ok_is _ _ v.then) (record {
      stmt = written.Sync (names.text ∷ names.texts) sync.event;
      tokens = names.tokens ∙ ap (λ (y : List Token). Name names.text ∷ more_names_tokens names.texts y) (arrow.is ∙ ap (λ (y : List Token). Fixed Arrow ∷ y) sync.tokens);
      depth = sync.depth;
      meaning = rw (names.few, names.binds, sync.meaning, sync.small) refl;
    }))

branch_found : (block : ReadsBlock) (nesting : ℕ) (place : Place) (h : Here) (ts : List Token) (x : StmtResult) → BlocksFound nesting block → next_is If ts ≡ true → branch_with block nesting place h ts ≡ Ok x → SpellsStmt nesting (are_allowed place) h x.1 ts x.0 x.2
unfolding branch_with stmt_meaning
branch_found block nesting place h ts x blocks is e =
    let a = bound_ok (accept_at nesting ts) _ x e in
    let word = accept_found nesting (Fixed If) ts a.first (next_found If ts is) a.is in
    let t = bound_ok (test_at nesting h a.first) _ x a.then in
    let test = test_found nesting h a.first t.first t.is in
    let y = bound_ok (block place h t.first.1) _ x t.then in
    let first = blocks place h t.first.1 y.first y.is in
    let l = bound_ok (expect_at nesting Else y.first.2) _ x y.then in
    let else' = expect_found nesting Else y.first.2 l.first l.is in
    let n = bound_ok (block place y.first.1 l.first) _ x l.then in
    let second = blocks place y.first.1 l.first n.first n.is in
    subst (λ (z : StmtResult). SpellsStmt nesting (are_allowed place) h z.1 ts z.0 z.2) (ok_is _ _ n.then) (record {
      stmt = written.If test.test first.body second.body;
      tokens = word.is ∙ ap (λ (y : List Token). Fixed If ∷ y) (test.tokens ∙ ap (test_tokens test.test) (first.tokens ∙ ap (block_tokens first.body) (else'.is ∙ ap (λ (y : List Token). Fixed Else ∷ y) second.tokens)));
      depth = omega (arith, test.depth, first.depth, second.depth);
      meaning = rw (test.meaning, first.meaning, second.meaning) refl;
    })

pub record SpellsTurn (nesting : ℕ) (h h' : Here) (ts : List Token) (t : LoopBody) (rest : List Token) : Type 0 where
  pub body : written.Block
  pub block : trees.Block
  pub tokens : ts ≡ block_tokens body rest
  pub depth : block_depth body < nesting
  pub meaning : block_meaning true (names_at h) body ≡ Some (block, names_at h')
  pub turn : as_turn block ≡ Some t

abbrev pub TurnsFound : ℕ → ReadsTurn → Type 0
TurnsFound nesting f = (word : ℕ) (h : Here) (ts : List Token) (x : LoopBody × Here × List Token) → f word h ts ≡ Ok x → SpellsTurn nesting h x.1 ts x.0 x.2

times_found : (nesting : ℕ) (ts : List Token) (x : ℕ × List Token) → times_at nesting ts ≡ Ok x → ts ≡ Number x.0 ∷ x.1
unfolding times_at
times_found nesting ts x e =
    some_ok (number_at ts) _ _ x e
    (λ n is f.
    let a = bound_ok (accept_at nesting ts) _ x f in
    let t = accept_found nesting (Number n) ts a.first (number_found ts n is) a.is in
    subst (λ (y : ℕ × List Token). ts ≡ Number y.0 ∷ y.1) (ok_is _ _ a.then) t.is)
    (λ f. no_ok _ _ f)

counted_found : (turn : ReadsTurn) (nesting : ℕ) (h : Here) (ts : List Token) (x : StmtResult) → TurnsFound nesting turn → next_is Loop ts ≡ true → counted_with turn nesting h ts ≡ Ok x → SpellsStmt nesting true h x.1 ts x.0 x.2
unfolding counted_with stmt_meaning
counted_found turn nesting h ts x turns is e =
    let a = bound_ok (accept_at nesting ts) _ x e in
    let word = accept_found nesting (Fixed Loop) ts a.first (next_found Loop ts is) a.is in
    let n = bound_ok (times_at nesting a.first) _ x a.then in
    let times = times_found nesting a.first n.first n.is in
    let t = bound_ok (turn (length ts) h n.first.1) _ x n.then in
    let b = turns (length ts) h n.first.1 t.first t.is in
    subst (λ (y : StmtResult). SpellsStmt nesting true h y.1 ts y.0 y.2) (ok_is _ _ t.then) (record {
      stmt = written.Loop n.first.0 b.body;
      tokens = word.is ∙ ap (λ (y : List Token). Fixed Loop ∷ y) (times ∙ ap (λ (y : List Token). Number n.first.0 ∷ y) b.tokens);
      depth = b.depth;
      meaning = rw (b.meaning, b.turn) refl;
    })

forever_found : (turn : ReadsTurn) (nesting : ℕ) (h : Here) (ts : List Token) (x : StmtResult) → TurnsFound nesting turn → next_is Forever ts ≡ true → forever_with turn nesting h ts ≡ Ok x → SpellsStmt nesting true h x.1 ts x.0 x.2
unfolding forever_with stmt_meaning
forever_found turn nesting h ts x turns is e =
    let a = bound_ok (accept_at nesting ts) _ x e in
    let word = accept_found nesting (Fixed Forever) ts a.first (next_found Forever ts is) a.is in
    let t = bound_ok (turn (length ts) h a.first) _ x a.then in
    let b = turns (length ts) h a.first t.first t.is in
    subst (λ (y : StmtResult). SpellsStmt nesting true h y.1 ts y.0 y.2) (ok_is _ _ t.then) (record {
      stmt = written.Forever b.body;
      tokens = word.is ∙ ap (λ (y : List Token). Fixed Forever ∷ y) b.tokens;
      depth = b.depth;
      meaning = rw (b.meaning, b.turn) refl;
    })

stmt_found : (event : ReadsEvent) (block : ReadsBlock) (turn : ReadsTurn) (nesting : ℕ) → EventsRead nesting event → EventsFound nesting event → BlocksFound nesting block → TurnsFound nesting turn → StmtsFound nesting (stmt_with event block turn nesting)
unfolding stmt_with
stmt_found event block turn nesting reads found blocks turns place h ts x e =
    if_ok (is_some (name_at ts) || next_is Sync ts) _ _ x e
    (λ _ f.
    let s = bound_ok (sync_with event nesting h ts) _ x f in
    subst (λ (y : StmtResult). SpellsStmt nesting (are_allowed place) h y.1 ts y.0 y.2) (ok_is _ _ s.then) (sync_found event nesting (are_allowed place) h ts s.first reads found s.is))
    (λ _ e. if_ok (next_is Let ts) _ _ x e (λ is f. let_found nesting (are_allowed place) h ts x is f)
    (λ _ e. if_ok (next_is Print ts) _ _ x e
    (λ is f.
    let s = bound_ok (print_at nesting h ts) _ x f in
    subst (λ (y : StmtResult). SpellsStmt nesting (are_allowed place) h y.1 ts y.0 y.2) (ok_is _ _ s.then) (print_found nesting (are_allowed place) h ts s.first is s.is))
    (λ _ e. if_ok (next_is If ts) _ _ x e (λ is f. branch_found block nesting place h ts x blocks is f)
    (λ _ e. if_ok (next_is End ts) _ _ x e
    (λ is f.
    let s = bound_ok (end_at nesting ts) _ x f in
    subst (λ (y : StmtResult). SpellsStmt nesting (are_allowed place) h y.1 ts y.0 y.2) (ok_is _ _ s.then) (end_found nesting (are_allowed place) h ts s.first is s.is))
    (λ _ e. if_ok (next_is Spawn ts) _ _ x e (λ is f. spawn_found nesting (are_allowed place) h ts x is f)
    (λ _ e. if_ok (are_allowed place) _ _ x e
    (λ loops f.
    subst (λ (v : Bool). SpellsStmt nesting v h x.1 ts x.0 x.2) (sym loops)
    (if_ok (next_is Loop ts) _ _ x f (λ is g. counted_found turn nesting h ts x turns is g)
    (λ _ g. if_ok (next_is Forever ts) _ _ x g (λ is k. forever_found turn nesting h ts x turns is k) (λ _ k. no_ok _ _ k))))
    (λ _ f. no_ok _ _ f)))))))

-- BLOCKS

abbrev StmtsSoFar : Type 0
StmtsSoFar = List trees.Stmt × Here × List Token

-- the statements behind those so far, up to the closing brace
record SpellsBody (nesting : ℕ) (loops : Bool) (s x : StmtsSoFar) : Type 0 where
  stmts : written.Block
  list : List trees.Stmt
  tokens : (rest : List Token) → x.2 ≡ Fixed CloseBrace ∷ rest → s.2 ≡ body_tokens stmts rest
  depth : 0 < nesting → stmts_depth stmts < nesting
  meaning : block_meaning loops (names_at s.1) stmts ≡ Some (body list, names_at x.1)
  value : s.0 ++ list ≡ x.0

nothing_more : (nesting : ℕ) (loops : Bool) (s : StmtsSoFar) → SpellsBody nesting loops s s
unfolding block_meaning
nothing_more nesting loops s = record { stmts = written.Done; list = []; tokens = λ rest close. close; depth = λ some. some; meaning = refl; value = append-nil s.0 }

one_stmt_more : (nesting : ℕ) (loops : Bool) (s x : StmtsSoFar) (y : StmtResult) → SpellsStmt nesting loops s.1 y.1 s.2 y.0 y.2 → SpellsBody nesting loops (s.0 ++ y.0 ∷ [], y.1, y.2) x → SpellsBody nesting loops s x
unfolding block_meaning
one_stmt_more nesting loops s x y first more = record {
  stmts = written.Then first.stmt more.stmts;
  list = y.0 ∷ more.list;
  tokens = λ rest close. first.tokens ∙ ap (stmt_tokens first.stmt) (more.tokens rest close);
  depth = λ some. (let d = more.depth some in omega (arith, d, first.depth));
  meaning = rw (first.meaning, more.meaning) refl;
  value = sym (append_assoc s.0 (y.0 ∷ []) more.list) ∙ more.value;
}

body_found : (stmt : ReadsStmt) (place : Place) (nesting : ℕ) → StmtsFound nesting stmt → (n : ℕ) (s x : StmtsSoFar) → repeated (stmt_step stmt place) n s ≡ Ok x → SpellsBody nesting (are_allowed place) s x
unfolding repeated
body_found stmt place nesting found zero s x e = subst (SpellsBody nesting (are_allowed place) s) (ok_is _ _ e) (nothing_more nesting (are_allowed place) s)
body_found stmt place nesting found (suc n) s x e = at_brace (λ y f. body_found stmt place nesting found n y x f) (next_is CloseBrace s.2) e
  where
    at_brace : ((y : StmtsSoFar) → repeated (stmt_step stmt place) n y ≡ Ok x → SpellsBody nesting (are_allowed place) y x)
        → (v : Bool) → if_some (cond v None (Some (stmt_next stmt place s))) (λ r. r >>= repeated (stmt_step stmt place) n) (Ok s) ≡ Ok x → SpellsBody nesting (are_allowed place) s x
    at_brace next true f = subst (SpellsBody nesting (are_allowed place) s) (ok_is _ _ f) (nothing_more nesting (are_allowed place) s)
    at_brace next false f =
        let m = bound_ok (stmt_next stmt place s) _ x f in
        let b = bound_ok (stmt place s.1 s.2) _ m.first m.is in
        let same : (s.0 ++ b.first.0 ∷ [], b.first.1, b.first.2) ≡ m.first = ok_is _ _ b.then in
        one_stmt_more nesting (are_allowed place) s x b.first (found place s.1 s.2 b.first b.is) (next (s.0 ++ b.first.0 ∷ [], b.first.1, b.first.2) (ap (repeated (stmt_step stmt place) n) same ∙ m.then))

stmts_found : (stmt : ReadsStmt) (place : Place) (nesting : ℕ) (h : Here) (ts : List Token) (x : StmtsSoFar) → StmtsFound nesting stmt → stmts_with stmt place h ts ≡ Ok x → SpellsBody nesting (are_allowed place) ([], h, ts) x
unfolding stmts_with
stmts_found stmt place nesting h ts x found e = body_found stmt place nesting found (length ts) ([], h, ts) x e

block_found : (stmt : ReadsStmt) (nesting : ℕ) → StmtsFound (nesting - 1) stmt → BlocksFound nesting (block_with stmt nesting)
unfolding block_with
block_found stmt nesting found place h ts x e =
    let a = bound_ok (expect_at nesting OpenBrace ts) _ x e in
    let open' = expect_found nesting OpenBrace ts a.first a.is in
    let s = bound_ok (stmts_with stmt place h a.first) _ x a.then in
    let stmts = stmts_found stmt place (nesting - 1) h a.first s.first found s.is in
    let c = bound_ok (expect_at (nesting - 1) CloseBrace s.first.2) _ x s.then in
    let close = expect_found (nesting - 1) CloseBrace s.first.2 c.first c.is in
    let d = stmts.depth close.some in
    subst (λ (y : trees.Block × Here × List Token). SpellsBlock nesting (are_allowed place) h y.1 ts y.0 y.2) (ok_is _ _ c.then) (record {
      body = stmts.stmts;
      tokens = open'.is ∙ ap (λ (y : List Token). Fixed OpenBrace ∷ y) (stmts.tokens c.first close.is);
      depth = omega (arith, d, close.some);
      meaning = stmts.meaning ∙ ap (λ (y : List trees.Stmt). Some (body y, names_at s.first.1)) stmts.value;
    })

turn_found : (event : ReadsEvent) (stmt : ReadsStmt) (nesting : ℕ) → EventsRead (nesting - 1) event → EventsFound (nesting - 1) event → StmtsFound (nesting - 1) stmt → TurnsFound nesting (turn_with event stmt nesting)
unfolding turn_with block_meaning
turn_found event stmt nesting reads events found word h ts x e =
    let a = bound_ok (expect_at nesting OpenBrace ts) _ x e in
    let open' = expect_found nesting OpenBrace ts a.first a.is in
    if_ok (is_no_sync a.first) _ _ x a.then
    (λ _ f. (let b = bound_ok (accept_at (nesting - 1) a.first) _ x f in no_ok _ _ b.then))
    (λ _ f.
    let y = bound_ok (sync_with event (nesting - 1) h a.first) _ x f in
    let first = sync_found event (nesting - 1) true h a.first y.first reads events y.is in
    let b = bound_ok (stmts_with stmt Allowed y.first.1 y.first.2) _ x y.then in
    let others = stmts_found stmt Allowed (nesting - 1) y.first.1 y.first.2 b.first found b.is in
    let c = bound_ok (expect_at (nesting - 1) CloseBrace b.first.2) _ x b.then in
    let close = expect_found (nesting - 1) CloseBrace b.first.2 c.first c.is in
    let d = others.depth close.some in
    let whole : block_meaning true (names_at y.first.1) others.stmts ≡ Some (body b.first.0, names_at b.first.1) = others.meaning ∙ ap (λ (y : List trees.Stmt). Some (body y, names_at b.first.1)) others.value in
    subst (λ (y : LoopBody × Here × List Token). SpellsTurn nesting h y.1 ts y.0 y.2) (ok_is _ _ c.then) (record {
      body = written.Then first.stmt others.stmts;
      block = trees.Runs (trees.Syncs y.first.0.0 y.first.0.1) (body b.first.0);
      tokens = open'.is ∙ ap (λ (y : List Token). Fixed OpenBrace ∷ y) (first.tokens ∙ ap (stmt_tokens first.stmt) (others.tokens c.first close.is));
      depth = omega (arith, d, first.depth, close.some);
      meaning = rw (first.meaning, whole) refl;
      turn = refl;
    }))

-- WITH SO MUCH ROOM

no_event : (nesting : ℕ) → EventsFound nesting (λ _ ts. none_there ts)
no_event nesting h ts x e = no_ok _ _ e

no_event_read : (nesting : ℕ) → EventsRead nesting (λ _ ts. none_there ts)
no_event_read nesting h ts x e = no_ok _ _ e

no_block : (nesting : ℕ) → BlocksFound nesting (λ _ _ ts. none_there ts)
no_block nesting place h ts x e = no_ok _ _ e

no_stmt : (nesting : ℕ) → StmtsFound nesting (λ _ _ ts. none_there ts)
no_stmt nesting place h ts x e = no_ok _ _ e

mutual
  unfolding event_at block_at turn_at

  pub events_found : (nesting : ℕ) → EventsFound nesting (event_at nesting)
  events_found zero h ts x e = event_found _ _ zero (no_event zero) (no_block zero) h ts x e
  events_found (suc r) h ts x e = event_found (event_at r) (block_at r) (suc r) (deeper (λ n. EventsFound n (event_at r)) r (events_found r)) (deeper (λ n. BlocksFound n (block_at r)) r (blocks_found r)) h ts x e

  pub blocks_found : (nesting : ℕ) → BlocksFound nesting (block_at nesting)
  blocks_found zero place h ts x e = block_found _ zero (no_stmt zero) place h ts x e
  blocks_found (suc r) place h ts x e = block_found _ (suc r) (deeper (λ n. StmtsFound n (stmt_with (event_at r) (block_at r) (turn_at r) r)) r (stmt_found (event_at r) (block_at r) (turn_at r) r (events_read r) (events_found r) (blocks_found r) (turns_found r))) place h ts x e

  pub turns_found : (nesting : ℕ) → TurnsFound nesting (turn_at nesting)
  turns_found zero word h ts x e = turn_found _ _ zero (no_event_read zero) (no_event zero) (no_stmt zero) word h ts x e
  turns_found (suc r) word h ts x e = turn_found (event_at r) _ (suc r) (deeper (λ n. EventsRead n (event_at r)) r (events_read r)) (deeper (λ n. EventsFound n (event_at r)) r (events_found r)) (deeper (λ n. StmtsFound n (stmt_with (event_at r) (block_at r) (turn_at r) r)) r (stmt_found (event_at r) (block_at r) (turn_at r) r (events_read r) (events_found r) (blocks_found r) (turns_found r))) word h ts x e
