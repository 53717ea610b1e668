-- What is read keeps the limits: events, statements and blocks.
use Rattle.std.proofs.Common.{◌≡◌, ℕ, zero, suc, ◌+◌, ◌-◌, ◌<◌, ◌≤◌, max, Bool, true, false, cond, leb, List, [], ◌∷◌, ◌++◌, ◌||◌, length, Option, Some, None, Ok, is_some, refl, ◌∙◌, subst, arith}
use Rattle.std.proofs.lemmas.Bool.Decides.{nat_tests}
use Rattle.script_token.specs.Tokens.{Token}
use Rattle.script_token.specs.declared.kind.Symbol.TheVariants.{Let, Print, Sync, If, Else, Loop, Forever, End, Send, Recv, Always, Never, Cancelled, Choose, Wrap, As, To, Guard, Nack, Spawn, Joined, Semicolon, Comma, OpenBrace, CloseBrace, OpenBracket, CloseBracket, Equal, Arrow}
use Rattle.script_tree.specs.Trees.{Event, Sends, Receives, IsReady, IsNever, IsCancelled, IsJoined, Stmt, Syncs, Block, LoopBody}
use Rattle.script_tree.specs.Limits.{Known, KeepsLimits, EventIsIn, MembersAreIn, StmtIsIn, BlockIsIn, NamesAreIn, IsSmall, base_count, bases_of_all, nack_count, nacks_of_all, event_depth, members_depth, stmt_depth, stmts_depth, block_depth}
use Rattle.script_reader.specs.Steps.{Here, name_at, next_is, accept_at, expect_at, read_name_at, read_process_at, spawn_process_at, bind_name_at, bind_names_at}
use Rattle.script_reader.specs.Exprs.{expr_at, test_at, list_at}
use Rattle.script_reader.proofs.Keeping.{bound_ok, ok_is, no_ok, if_ok, repeated_keeps, accept_room, expect_room, Later, name_read, process_named, process_spawned, bind_name_reads, bind_names_read}
use Rattle.script_reader.proofs.KeepingExprs.{expr_read, test_read, list_read}
use Rattle.script_reader.specs.Blocks.{base_at, nack_word_at, send_at, recv_at, always_at, never_at, cancelled_at, joined_at, as_names_at, chain, body, ReadsEvent, ReadsBlock, ReadsStmt, ReadsTurn, member_next, member_step, members_with, choose_with, wrap_with, guard_with, nack_with, event_with, fresh, synced_with, sync_with, let_at, print_at, end_at, spawn_at, branch_with, times_at, counted_with, forever_with, are_allowed, stmt_with, stmt_next, stmt_step, stmts_with, block_with, is_no_sync, turn_with, none_there, event_at, block_at, turn_at}
use Rattle.script_reader.specs.declared.process.Loops.{Loops as Place}
use Rattle.script_reader.specs.declared.process.Loops.TheVariants.{Allowed, Forbidden}

-- EVENTS

pub record EventRead (nesting : ℕ) (h h' : Here) (e : Event) : Type 0 where
  pub later : (k : Known) → Later h' k → Later h k
  pub is_in : (k : Known) → Later h' k → EventIsIn k e
  pub bases : h'.counts.bases ≡ h.counts.bases + base_count e
  pub nacks : h'.counts.nacks ≡ h.counts.nacks + nack_count e
  pub few_bases : h.counts.bases ≤ 8 → h'.counts.bases ≤ 8
  pub few_nacks : h.counts.nacks ≤ 4 → h'.counts.nacks ≤ 4
  pub depth : event_depth e < nesting

pub record BlockRead (nesting : ℕ) (h h' : Here) (b : Block) : Type 0 where
  pub later : (k : Known) → Later h' k → Later h k
  pub is_in : (k : Known) → Later h' k → BlockIsIn k b
  pub counts : h'.counts ≡ h.counts
  pub depth : block_depth b < nesting

abbrev pub EventsRead : ℕ → ReadsEvent → Type 0
EventsRead nesting f = (h : Here) (ts : List Token) (x : Event × Here × List Token) → f h ts ≡ Ok x → EventRead nesting h x.1 x.0

abbrev pub BlocksRead : ℕ → ReadsBlock → Type 0
BlocksRead nesting f = (place : Place) (h : Here) (ts : List Token) (x : Block × Here × List Token) → f place h ts ≡ Ok x → BlockRead nesting h x.1 x.0

above : (a b : ℕ) → leb a b ≡ false → b < a
above a b e = grind (arith, nat_tests)

-- the word of a base event
record BaseRead (nesting : ℕ) (h h' : Here) : Type 0 where
  some : 0 < nesting
  later : (k : Known) → Later h' k → Later h k
  bases : h'.counts.bases ≡ h.counts.bases + 1
  nacks : h'.counts.nacks ≡ h.counts.nacks
  few : h.counts.bases < 8

base_read : (nesting : ℕ) (h : Here) (ts : List Token) (x : Here × List Token) → base_at nesting h ts ≡ Ok x → BaseRead nesting h x.0
unfolding base_at
base_read nesting h ts x e =
    if_ok (leb 8 h.counts.bases) _ _ x e
    (λ _ f. no_ok _ _ f)
    (λ few f.
    let b = bound_ok (accept_at nesting ts) _ x f in
    subst (λ (y : Here × List Token). BaseRead nesting h y.0) (ok_is _ _ b.then) (record {
      some = accept_room nesting ts b.first b.is;
      later = λ k later. record { channels = later.channels; processes = later.processes; variables = later.variables };
      bases = refl;
      nacks = refl;
      few = above 8 h.counts.bases few;
    }))

-- a base event
event_of_base : (nesting : ℕ) (h h' : Here) (e : Event) → BaseRead nesting h h' → ((k : Known) → Later h' k → EventIsIn k e) → base_count e ≡ 1 → nack_count e ≡ 0 → event_depth e < nesting → EventRead nesting h h' e
event_of_base nesting h h' e b is_in one none depth = record {
  later = b.later;
  is_in = is_in;
  bases = omega (arith, b.bases, one);
  nacks = omega (arith, b.nacks, none);
  few_bases = λ small. omega (arith, b.bases, b.few);
  few_nacks = λ small. omega (arith, b.nacks, small);
  depth = depth;
}

send_read : (nesting : ℕ) → EventsRead nesting (send_at nesting)
unfolding send_at
send_read nesting h ts x e =
    let b = bound_ok (base_at nesting h ts) _ x e in
    let b-read = base_read nesting h ts b.first b.is in
    let c = bound_ok (read_name_at nesting b.first.0 b.first.1) _ x b.then in
    let c-read = name_read nesting b.first.0 b.first.1 c.first c.is in
    let l = bound_ok (list_at nesting b.first.0 c.first.1) _ x c.then in
    let l-read = list_read nesting b.first.0 c.first.1 l.first l.is in
    subst (λ (y : Event × Here × List Token). EventRead nesting h y.1 y.0) (ok_is _ _ l.then)
    (event_of_base nesting h b.first.0 (Sends c.first.0 l.first.0) b-read (λ k later. (c-read.is_in k later, l-read.is_in k later)) refl refl l-read.depth)

recv_read : (nesting : ℕ) → EventsRead nesting (recv_at nesting)
unfolding recv_at
recv_read nesting h ts x e =
    let b = bound_ok (base_at nesting h ts) _ x e in
    let b-read = base_read nesting h ts b.first b.is in
    let c = bound_ok (read_name_at nesting b.first.0 b.first.1) _ x b.then in
    let c-read = name_read nesting b.first.0 b.first.1 c.first c.is in
    subst (λ (y : Event × Here × List Token). EventRead nesting h y.1 y.0) (ok_is _ _ c.then)
    (event_of_base nesting h b.first.0 (Receives c.first.0) b-read c-read.is_in refl refl b-read.some)

always_read : (nesting : ℕ) → EventsRead nesting (always_at nesting)
unfolding always_at
always_read nesting h ts x e =
    let b = bound_ok (base_at nesting h ts) _ x e in
    let b-read = base_read nesting h ts b.first b.is in
    let l = bound_ok (list_at nesting b.first.0 b.first.1) _ x b.then in
    let l-read = list_read nesting b.first.0 b.first.1 l.first l.is in
    subst (λ (y : Event × Here × List Token). EventRead nesting h y.1 y.0) (ok_is _ _ l.then)
    (event_of_base nesting h b.first.0 (IsReady l.first.0) b-read l-read.is_in refl refl l-read.depth)

never_read : (nesting : ℕ) → EventsRead nesting (never_at nesting)
unfolding never_at
never_read nesting h ts x e =
    let b = bound_ok (base_at nesting h ts) _ x e in
    let b-read = base_read nesting h ts b.first b.is in
    subst (λ (y : Event × Here × List Token). EventRead nesting h y.1 y.0) (ok_is _ _ b.then)
    (event_of_base nesting h b.first.0 IsNever b-read (λ k later. tt) refl refl b-read.some)

cancelled_read : (nesting : ℕ) → EventsRead nesting (cancelled_at nesting)
unfolding cancelled_at
cancelled_read nesting h ts x e =
    let b = bound_ok (base_at nesting h ts) _ x e in
    let b-read = base_read nesting h ts b.first b.is in
    let c = bound_ok (read_name_at nesting b.first.0 b.first.1) _ x b.then in
    let c-read = name_read nesting b.first.0 b.first.1 c.first c.is in
    subst (λ (y : Event × Here × List Token). EventRead nesting h y.1 y.0) (ok_is _ _ c.then)
    (event_of_base nesting h b.first.0 (IsCancelled c.first.0) b-read c-read.is_in refl refl b-read.some)

joined_read : (nesting : ℕ) → EventsRead nesting (joined_at nesting)
unfolding joined_at
joined_read nesting h ts x e =
    let b = bound_ok (base_at nesting h ts) _ x e in
    let b-read = base_read nesting h ts b.first b.is in
    let p = bound_ok (read_process_at nesting b.first.0 b.first.1) _ x b.then in
    let p-read = process_named nesting b.first.0 b.first.1 p.first p.is in
    subst (λ (y : Event × Here × List Token). EventRead nesting h y.1 y.0) (ok_is _ _ p.then)
    (event_of_base nesting h b.first.0 (IsJoined p.first.0) b-read p-read.is_in refl refl b-read.some)

-- the members of a choice, behind the event of which some are read
record MembersRead (nesting : ℕ) (h h' : Here) (es : List Event) : Type 0 where
  later : (k : Known) → Later h' k → Later h k
  is_in : (k : Known) → Later h' k → MembersAreIn k (chain es)
  bases : h'.counts.bases ≡ h.counts.bases + bases_of_all (chain es)
  nacks : h'.counts.nacks ≡ h.counts.nacks + nacks_of_all (chain es)
  few_bases : h.counts.bases ≤ 8 → h'.counts.bases ≤ 8
  few_nacks : h.counts.nacks ≤ 4 → h'.counts.nacks ≤ 4
  depth : 0 < nesting → members_depth (chain es) < nesting

no_members : (nesting : ℕ) (h : Here) → MembersRead nesting h h []
no_members nesting h = record { later = λ k later. later; is_in = λ k later. tt; bases = omega arith; nacks = omega arith; few_bases = λ small. small; few_nacks = λ small. small; depth = λ some. some }

chain_in : (k : Known) (es : List Event) (e : Event) → MembersAreIn k (chain es) → EventIsIn k e → MembersAreIn k (chain (es ++ e ∷ []))
chain_in k [] e h g = (g, tt)
chain_in k (x ∷ es) e h g = (h.0, chain_in k es e h.1 g)

chain_bases : (es : List Event) (e : Event) → bases_of_all (chain (es ++ e ∷ [])) ≡ bases_of_all (chain es) + base_count e
chain_bases [] e = omega arith
chain_bases (x ∷ es) e = omega (arith, chain_bases es e)

chain_nacks : (es : List Event) (e : Event) → nacks_of_all (chain (es ++ e ∷ [])) ≡ nacks_of_all (chain es) + nack_count e
chain_nacks [] e = omega arith
chain_nacks (x ∷ es) e = omega (arith, chain_nacks es e)

chain_deep : (es : List Event) (e : Event) (n : ℕ) → members_depth (chain es) < n → event_depth e < n → members_depth (chain (es ++ e ∷ [])) < n
chain_deep [] e n h g = omega (arith, h, g)
chain_deep (x ∷ es) e n h g = (let below : members_depth (chain (es ++ e ∷ [])) < n = chain_deep es e n (omega (arith, h)) g in omega (arith, h, below))

one_more : (nesting : ℕ) (h h' h'' : Here) (es : List Event) (e : Event) → MembersRead nesting h h' es → EventRead nesting h' h'' e → MembersRead nesting h h'' (es ++ e ∷ [])
one_more nesting h h' h'' es e m r = record {
  later = λ k later. m.later k (r.later k later);
  is_in = λ k later. chain_in k es e (m.is_in k (r.later k later)) (r.is_in k later);
  bases = omega (arith, r.bases, m.bases, chain_bases es e);
  nacks = omega (arith, r.nacks, m.nacks, chain_nacks es e);
  few_bases = λ small. r.few_bases (m.few_bases small);
  few_nacks = λ small. r.few_nacks (m.few_nacks small);
  depth = λ some. chain_deep es e nesting (m.depth some) r.depth;
}

member_step_keeps : (event : ReadsEvent) (nesting : ℕ) (h : Here) → EventsRead nesting event
    → (s t : List Event × Here × List Token) → MembersRead nesting h s.1 s.0 → member_step event nesting s ≡ Some (Ok t) → MembersRead nesting h t.1 t.0
member_step_keeps event nesting h reads s t m e = at_comma (next_is Comma s.2) e
  where
    at_comma : (v : Bool) → cond v (Some (member_next event nesting s)) None ≡ Some (Ok t) → MembersRead nesting h t.1 t.0
    at_comma false f = absurd cc
    at_comma true f =
        let g : member_next event nesting s ≡ Ok t = cc in
        let a = bound_ok (accept_at nesting s.2) _ t g in
        let b = bound_ok (event s.1 a.first) _ t a.then in
        subst (λ (y : List Event × Here × List Token). MembersRead nesting h y.1 y.0) (ok_is _ _ b.then)
        (one_more nesting h s.1 b.first.1 s.0 b.first.0 m (reads s.1 a.first b.first b.is))

members_read : (event : ReadsEvent) (nesting : ℕ) (h : Here) (ts : List Token) (x : List Event × Here × List Token) → EventsRead nesting event → members_with event nesting h ts ≡ Ok x → MembersRead nesting h x.1 x.0
unfolding members_with
members_read event nesting h ts x reads e =
    if_ok (next_is CloseBracket ts) _ _ x e
    (λ _ f. subst (λ (y : List Event × Here × List Token). MembersRead nesting h y.1 y.0) (ok_is _ _ f) (no_members nesting h))
    (λ _ f.
    let a = bound_ok (event h ts) _ x f in
    repeated_keeps (λ (s : List Event × Here × List Token). MembersRead nesting h s.1 s.0) (member_step event nesting) (member_step_keeps event nesting h reads) (length ts) (a.first.0 ∷ [], a.first.1, a.first.2) x
    (one_more nesting h h a.first.1 [] a.first.0 (no_members nesting h) (reads h ts a.first a.is)) a.then)

choose_read : (event : ReadsEvent) (nesting : ℕ) → EventsRead (nesting - 1) event → EventsRead nesting (choose_with event nesting)
unfolding choose_with
choose_read event nesting reads h ts x e =
    let a = bound_ok (accept_at nesting ts) _ x e in
    let b = bound_ok (expect_at nesting OpenBracket a.first) _ x a.then in
    let m = bound_ok (members_with event (nesting - 1) h b.first) _ x b.then in
    let m-read = members_read event (nesting - 1) h b.first m.first reads m.is in
    let c = bound_ok (expect_at (nesting - 1) CloseBracket m.first.2) _ x m.then in
    let some = expect_room (nesting - 1) CloseBracket m.first.2 c.first c.is in
    let d = m-read.depth some in
    subst (λ (y : Event × Here × List Token). EventRead nesting h y.1 y.0) (ok_is _ _ c.then) (record {
      later = m-read.later;
      is_in = m-read.is_in;
      bases = m-read.bases;
      nacks = m-read.nacks;
      few_bases = m-read.few_bases;
      few_nacks = m-read.few_nacks;
      depth = omega (arith, d, some);
    })

-- the names behind `as`
record MaybeBound (h h' : Here) (names : Option (List ℕ)) : Type 0 where
  later : (k : Known) → Later h' k → Later h k
  is_in : (k : Known) → Later h' k → NamesAreIn k names
  counts : h'.counts ≡ h.counts

as_names_read : (nesting : ℕ) (h : Here) (ts : List Token) (x : Option (List ℕ) × Here × List Token) → as_names_at nesting h ts ≡ Ok x → MaybeBound h x.1 x.0
unfolding as_names_at
as_names_read nesting h ts x e =
    if_ok (next_is As ts) _ _ x e
    (λ _ f.
    let a = bound_ok (accept_at nesting ts) _ x f in
    let n = bound_ok (bind_names_at nesting h a.first) _ x a.then in
    let n-read = bind_names_read nesting h a.first n.first n.is in
    subst (λ (y : Option (List ℕ) × Here × List Token). MaybeBound h y.1 y.0) (ok_is _ _ n.then) (record { later = n-read.later; is_in = n-read.is_in; counts = n-read.counts }))
    (λ _ f. subst (λ (y : Option (List ℕ) × Here × List Token). MaybeBound h y.1 y.0) (ok_is _ _ f) (record { later = λ k later. later; is_in = λ k later. tt; counts = refl }))

wrap_read : (event : ReadsEvent) (nesting : ℕ) → EventsRead (nesting - 1) event → EventsRead nesting (wrap_with event nesting)
unfolding wrap_with
wrap_read event nesting reads h ts x e =
    let a = bound_ok (accept_at nesting ts) _ x e in
    let v = bound_ok (event h a.first) _ x a.then in
    let v-read = reads h a.first v.first v.is in
    let n = bound_ok (as_names_at (nesting - 1) v.first.1 v.first.2) _ x v.then in
    let n-read = as_names_read (nesting - 1) v.first.1 v.first.2 n.first n.is in
    let t = bound_ok (expect_at (nesting - 1) To n.first.2) _ x n.then in
    let l = bound_ok (list_at (nesting - 1) n.first.1 t.first) _ x t.then in
    let l-read = list_read (nesting - 1) n.first.1 t.first l.first l.is in
    let bases : n.first.1.counts.bases ≡ v.first.1.counts.bases = rw n-read.counts refl in
    let nacks : n.first.1.counts.nacks ≡ v.first.1.counts.nacks = rw n-read.counts refl in
    subst (λ (y : Event × Here × List Token). EventRead nesting h y.1 y.0) (ok_is _ _ l.then) (record {
      later = λ k later. v-read.later k (n-read.later k later);
      is_in = λ k later. (v-read.is_in k (n-read.later k later), (n-read.is_in k later, l-read.is_in k later));
      bases = bases ∙ v-read.bases;
      nacks = nacks ∙ v-read.nacks;
      few_bases = λ small. omega (arith, bases, v-read.few_bases small);
      few_nacks = λ small. omega (arith, nacks, v-read.few_nacks small);
      depth = omega (arith, v-read.depth, l-read.depth);
    })

guard_read : (event : ReadsEvent) (block : ReadsBlock) (nesting : ℕ) → EventsRead (nesting - 1) event → BlocksRead (nesting - 1) block → EventsRead nesting (guard_with event block nesting)
unfolding guard_with
guard_read event block nesting reads blocks h ts x e =
    let a = bound_ok (accept_at nesting ts) _ x e in
    let b = bound_ok (block Forbidden h a.first) _ x a.then in
    let b-read = blocks Forbidden h a.first b.first b.is in
    let v = bound_ok (event b.first.1 b.first.2) _ x b.then in
    let v-read = reads b.first.1 b.first.2 v.first v.is in
    let bases : b.first.1.counts.bases ≡ h.counts.bases = rw b-read.counts refl in
    let nacks : b.first.1.counts.nacks ≡ h.counts.nacks = rw b-read.counts refl in
    subst (λ (y : Event × Here × List Token). EventRead nesting h y.1 y.0) (ok_is _ _ v.then) (record {
      later = λ k later. b-read.later k (v-read.later k later);
      is_in = λ k later. (b-read.is_in k (v-read.later k later), v-read.is_in k later);
      bases = omega (arith, bases, v-read.bases);
      nacks = omega (arith, nacks, v-read.nacks);
      few_bases = λ small. v-read.few_bases (omega (arith, bases, small));
      few_nacks = λ small. v-read.few_nacks (omega (arith, nacks, small));
      depth = omega (arith, v-read.depth, b-read.depth);
    })

-- the word `nack`
record NackRead (nesting : ℕ) (h h' : Here) : Type 0 where
  some : 0 < nesting
  later : (k : Known) → Later h' k → Later h k
  bases : h'.counts.bases ≡ h.counts.bases
  nacks : h'.counts.nacks ≡ h.counts.nacks + 1
  few : h.counts.nacks < 4

nack_word_read : (nesting : ℕ) (h : Here) (ts : List Token) (x : Here × List Token) → nack_word_at nesting h ts ≡ Ok x → NackRead nesting h x.0
unfolding nack_word_at
nack_word_read nesting h ts x e =
    if_ok (leb 4 h.counts.nacks) _ _ x e
    (λ _ f. no_ok _ _ f)
    (λ few f.
    let b = bound_ok (accept_at nesting ts) _ x f in
    subst (λ (y : Here × List Token). NackRead nesting h y.0) (ok_is _ _ b.then) (record {
      some = accept_room nesting ts b.first b.is;
      later = λ k later. record { channels = later.channels; processes = later.processes; variables = later.variables };
      bases = refl;
      nacks = refl;
      few = above 4 h.counts.nacks few;
    }))

nack_read : (event : ReadsEvent) (block : ReadsBlock) (nesting : ℕ) → EventsRead (nesting - 1) event → BlocksRead (nesting - 1) block → EventsRead nesting (nack_with event block nesting)
unfolding nack_with
nack_read event block nesting reads blocks h ts x e =
    let w = bound_ok (nack_word_at nesting h ts) _ x e in
    let w-read = nack_word_read nesting h ts w.first w.is in
    let n = bound_ok (bind_name_at (nesting - 1) [] w.first.0 w.first.1) _ x w.then in
    let n-read = bind_name_reads (nesting - 1) [] w.first.0 w.first.1 n.first n.is in
    let b = bound_ok (block Forbidden n.first.1 n.first.2) _ x n.then in
    let b-read = blocks Forbidden n.first.1 n.first.2 b.first b.is in
    let v = bound_ok (event b.first.1 b.first.2) _ x b.then in
    let v-read = reads b.first.1 b.first.2 v.first v.is in
    let bases : b.first.1.counts.bases ≡ w.first.0.counts.bases = rw (b-read.counts, n-read.counts) refl in
    let nacks : b.first.1.counts.nacks ≡ w.first.0.counts.nacks = rw (b-read.counts, n-read.counts) refl in
    subst (λ (y : Event × Here × List Token). EventRead nesting h y.1 y.0) (ok_is _ _ v.then) (record {
      later = λ k later. w-read.later k (n-read.later k (b-read.later k (v-read.later k later)));
      is_in = λ k later. (n-read.is_in k (b-read.later k (v-read.later k later)), (b-read.is_in k (v-read.later k later), v-read.is_in k later));
      bases = omega (arith, bases, w-read.bases, v-read.bases);
      nacks = omega (arith, nacks, w-read.nacks, v-read.nacks);
      few_bases = λ small. v-read.few_bases (omega (arith, bases, w-read.bases, small));
      few_nacks = λ small. v-read.few_nacks (omega (arith, nacks, w-read.nacks, w-read.few));
      depth = omega (arith, v-read.depth, b-read.depth);
    })

event_read : (event : ReadsEvent) (block : ReadsBlock) (nesting : ℕ) → EventsRead (nesting - 1) event → BlocksRead (nesting - 1) block → EventsRead nesting (event_with event block nesting)
unfolding event_with
event_read event block nesting reads blocks h ts x e =
    if_ok (next_is Send ts) _ _ x e (λ _ f. send_read nesting h ts x f)
    (λ _ e. if_ok (next_is Recv ts) _ _ x e (λ _ f. recv_read nesting h ts x f)
    (λ _ e. if_ok (next_is Always ts) _ _ x e (λ _ f. always_read nesting h ts x f)
    (λ _ e. if_ok (next_is Never ts) _ _ x e (λ _ f. never_read nesting h ts x f)
    (λ _ e. if_ok (next_is Cancelled ts) _ _ x e (λ _ f. cancelled_read nesting h ts x f)
    (λ _ e. if_ok (next_is Joined ts) _ _ x e (λ _ f. joined_read nesting h ts x f)
    (λ _ e. if_ok (next_is Choose ts) _ _ x e (λ _ f. choose_read event nesting reads h ts x f)
    (λ _ e. if_ok (next_is Wrap ts) _ _ x e (λ _ f. wrap_read event nesting reads h ts x f)
    (λ _ e. if_ok (next_is Guard ts) _ _ x e (λ _ f. guard_read event block nesting reads blocks h ts x f)
    (λ _ e. if_ok (next_is Nack ts) _ _ x e (λ _ f. nack_read event block nesting reads blocks h ts x f)
    (λ _ f. no_ok _ _ f))))))))))

-- STATEMENTS

pub record StmtRead (nesting : ℕ) (h h' : Here) (s : Stmt) : Type 0 where
  pub later : (k : Known) → Later h' k → Later h k
  pub is_in : (k : Known) → Later h' k → StmtIsIn k s
  pub counts : h'.counts ≡ h.counts
  pub depth : stmt_depth s < nesting

abbrev pub StmtsRead : ℕ → ReadsStmt → Type 0
StmtsRead nesting f = (place : Place) (h : Here) (ts : List Token) (x : Stmt × Here × List Token) → f place h ts ≡ Ok x → StmtRead nesting h x.1 x.0

record SyncRead (nesting : ℕ) (h h' : Here) (e : Event) : Type 0 where
  later : (k : Known) → Later h' k → Later h k
  is_in : (k : Known) → Later h' k → EventIsIn k e
  small : IsSmall e
  counts : h'.counts ≡ h.counts
  depth : event_depth e < nesting

synced_read : (event : ReadsEvent) (nesting : ℕ) (h : Here) (ts : List Token) (x : Event × Here × List Token) → EventsRead nesting event → synced_with event nesting h ts ≡ Ok x → SyncRead nesting h x.1 x.0
unfolding synced_with
synced_read event nesting h ts x reads e =
    let a = bound_ok (expect_at nesting Sync ts) _ x e in
    let v = bound_ok (event (fresh h) a.first) _ x a.then in
    let v-read = reads (fresh h) a.first v.first v.is in
    let c = bound_ok (expect_at nesting Semicolon v.first.2) _ x v.then in
    let inner = λ (k : Known) (later : Later (record v.first.1 { counts = h.counts }) k). (let l : Later v.first.1 k = record { channels = later.channels; processes = later.processes; variables = later.variables } in l) in
    subst (λ (y : Event × Here × List Token). SyncRead nesting h y.1 y.0) (ok_is _ _ c.then) (record {
      later = λ k later. (let l = v-read.later k (inner k later) in record { channels = l.channels; processes = l.processes; variables = l.variables });
      is_in = λ k later. v-read.is_in k (inner k later);
      small = (omega (arith, v-read.bases, v-read.few_bases (omega arith)), omega (arith, v-read.nacks, v-read.few_nacks (omega arith)));
      counts = refl;
      depth = v-read.depth;
    })

let_read : (nesting : ℕ) (h : Here) (ts : List Token) (x : Stmt × Here × List Token) → let_at nesting h ts ≡ Ok x → StmtRead nesting h x.1 x.0
unfolding let_at
let_read nesting h ts x e =
    let a = bound_ok (accept_at nesting ts) _ x e in
    let n = bound_ok (bind_name_at nesting [] h a.first) _ x a.then in
    let n-read = bind_name_reads nesting [] h a.first n.first n.is in
    let q = bound_ok (expect_at nesting Equal n.first.2) _ x n.then in
    let v = bound_ok (expr_at nesting n.first.1 q.first) _ x q.then in
    let v-read = expr_read nesting n.first.1 q.first v.first v.is in
    let c = bound_ok (expect_at nesting Semicolon v.first.1) _ x v.then in
    subst (λ (y : Stmt × Here × List Token). StmtRead nesting h y.1 y.0) (ok_is _ _ c.then) (record {
      later = n-read.later;
      is_in = λ k later. (n-read.is_in k later, v-read.is_in k later);
      counts = n-read.counts;
      depth = v-read.depth;
    })

print_read : (nesting : ℕ) (h : Here) (ts : List Token) (x : Stmt × List Token) → print_at nesting h ts ≡ Ok x → StmtRead nesting h h x.0
unfolding print_at
print_read nesting h ts x e =
    let a = bound_ok (accept_at nesting ts) _ x e in
    let v = bound_ok (expr_at nesting h a.first) _ x a.then in
    let v-read = expr_read nesting h a.first v.first v.is in
    let c = bound_ok (expect_at nesting Semicolon v.first.1) _ x v.then in
    subst (λ (y : Stmt × List Token). StmtRead nesting h h y.0) (ok_is _ _ c.then) (record {
      later = λ k later. later;
      is_in = v-read.is_in;
      counts = refl;
      depth = v-read.depth;
    })

end_read : (nesting : ℕ) (h : Here) (ts : List Token) (x : Stmt × List Token) → end_at nesting ts ≡ Ok x → StmtRead nesting h h x.0
unfolding end_at
end_read nesting h ts x e =
    let a = bound_ok (accept_at nesting ts) _ x e in
    let c = bound_ok (expect_at nesting Semicolon a.first) _ x a.then in
    subst (λ (y : Stmt × List Token). StmtRead nesting h h y.0) (ok_is _ _ c.then) (record {
      later = λ k later. later;
      is_in = λ k later. tt;
      counts = refl;
      depth = accept_room nesting ts a.first a.is;
    })

spawn_read : (nesting : ℕ) (h : Here) (ts : List Token) (x : Stmt × Here × List Token) → spawn_at nesting h ts ≡ Ok x → StmtRead nesting h x.1 x.0
unfolding spawn_at
spawn_read nesting h ts x e =
    let a = bound_ok (accept_at nesting ts) _ x e in
    let p = bound_ok (spawn_process_at nesting h a.first) _ x a.then in
    let p-read = process_spawned nesting h a.first p.first p.is in
    let c = bound_ok (expect_at nesting Semicolon p.first.2) _ x p.then in
    subst (λ (y : Stmt × Here × List Token). StmtRead nesting h y.1 y.0) (ok_is _ _ c.then) (record {
      later = p-read.later;
      is_in = p-read.is_in;
      counts = p-read.counts;
      depth = p-read.some;
    })

sync_read : (event : ReadsEvent) (nesting : ℕ) (h : Here) (ts : List Token) (x : (Option (List ℕ) × Event) × Here × List Token) → EventsRead nesting event → sync_with event nesting h ts ≡ Ok x → StmtRead nesting h x.1 (Syncs x.0.0 x.0.1)
unfolding sync_with
sync_read event nesting h ts x reads e =
    if_ok (next_is Sync ts) _ _ x e
    (λ _ f.
    let s = bound_ok (synced_with event nesting h ts) _ x f in
    let s-read = synced_read event nesting h ts s.first reads s.is in
    subst (λ (y : (Option (List ℕ) × Event) × Here × List Token). StmtRead nesting h y.1 (Syncs y.0.0 y.0.1)) (ok_is _ _ s.then)
    (record { later = s-read.later; is_in = λ k later. (tt, (s-read.is_in k later, s-read.small)); counts = s-read.counts; depth = s-read.depth }))
    (λ _ e.
    let n = bound_ok (bind_names_at nesting h ts) _ x e in
    let n-read = bind_names_read nesting h ts n.first n.is in
    let a = bound_ok (expect_at nesting Arrow n.first.2) _ x n.then in
    let v = bound_ok (synced_with event nesting n.first.1 a.first) _ x a.then in
    let v-read = synced_read event nesting n.first.1 a.first v.first reads v.is in
    subst (λ (y : (Option (List ℕ) × Event) × Here × List Token). StmtRead nesting h y.1 (Syncs y.0.0 y.0.1)) (ok_is _ _ v.then) (record {
      later = λ k later. n-read.later k (v-read.later k later);
      is_in = λ k later. (n-read.is_in k (v-read.later k later), (v-read.is_in k later, v-read.small));
      counts = v-read.counts ∙ n-read.counts;
      depth = v-read.depth;
    }))

branch_read : (block : ReadsBlock) (nesting : ℕ) (place : Place) (h : Here) (ts : List Token) (x : Stmt × Here × List Token) → BlocksRead nesting block → branch_with block nesting place h ts ≡ Ok x → StmtRead nesting h x.1 x.0
unfolding branch_with
branch_read block nesting place h ts x blocks e =
    let a = bound_ok (accept_at nesting ts) _ x e in
    let t = bound_ok (test_at nesting h a.first) _ x a.then in
    let t-read = test_read nesting h a.first t.first t.is in
    let y = bound_ok (block place h t.first.1) _ x t.then in
    let y-read = blocks place h t.first.1 y.first y.is in
    let l = bound_ok (expect_at nesting Else y.first.2) _ x y.then in
    let n = bound_ok (block place y.first.1 l.first) _ x l.then in
    let n-read = blocks place y.first.1 l.first n.first n.is in
    subst (λ (z : Stmt × Here × List Token). StmtRead nesting h z.1 z.0) (ok_is _ _ n.then) (record {
      later = λ k later. y-read.later k (n-read.later k later);
      is_in = λ k later. (t-read.is_in k (y-read.later k (n-read.later k later)), (y-read.is_in k (n-read.later k later), n-read.is_in k later));
      counts = n-read.counts ∙ y-read.counts;
      depth = omega (arith, t-read.depth, y-read.depth, n-read.depth);
    })

pub record TurnRead (nesting : ℕ) (h h' : Here) (t : LoopBody) : Type 0 where
  pub later : (k : Known) → Later h' k → Later h k
  pub is_in : (k : Known) → Later h' k → NamesAreIn k t.names × (EventIsIn k t.event × (IsSmall t.event × BlockIsIn k t.rest))
  pub counts : h'.counts ≡ h.counts
  pub depth : 1 + max (event_depth t.event) (stmts_depth t.rest) < nesting

abbrev pub TurnsRead : ℕ → ReadsTurn → Type 0
TurnsRead nesting f = (word : ℕ) (h : Here) (ts : List Token) (x : LoopBody × Here × List Token) → f word h ts ≡ Ok x → TurnRead nesting h x.1 x.0

counted_read : (turn : ReadsTurn) (nesting : ℕ) (h : Here) (ts : List Token) (x : Stmt × Here × List Token) → TurnsRead nesting turn → counted_with turn nesting h ts ≡ Ok x → StmtRead nesting h x.1 x.0
unfolding counted_with
counted_read turn nesting h ts x turns e =
    let a = bound_ok (accept_at nesting ts) _ x e in
    let n = bound_ok (times_at nesting a.first) _ x a.then in
    let t = bound_ok (turn (length ts) h n.first.1) _ x n.then in
    let t-read = turns (length ts) h n.first.1 t.first t.is in
    subst (λ (y : Stmt × Here × List Token). StmtRead nesting h y.1 y.0) (ok_is _ _ t.then) (record { later = t-read.later; is_in = t-read.is_in; counts = t-read.counts; depth = t-read.depth })

forever_read : (turn : ReadsTurn) (nesting : ℕ) (h : Here) (ts : List Token) (x : Stmt × Here × List Token) → TurnsRead nesting turn → forever_with turn nesting h ts ≡ Ok x → StmtRead nesting h x.1 x.0
unfolding forever_with
forever_read turn nesting h ts x turns e =
    let a = bound_ok (accept_at nesting ts) _ x e in
    let t = bound_ok (turn (length ts) h a.first) _ x a.then in
    let t-read = turns (length ts) h a.first t.first t.is in
    subst (λ (y : Stmt × Here × List Token). StmtRead nesting h y.1 y.0) (ok_is _ _ t.then) (record { later = t-read.later; is_in = t-read.is_in; counts = t-read.counts; depth = t-read.depth })

stmt_read : (event : ReadsEvent) (block : ReadsBlock) (turn : ReadsTurn) (nesting : ℕ) → EventsRead nesting event → BlocksRead nesting block → TurnsRead nesting turn → StmtsRead nesting (stmt_with event block turn nesting)
unfolding stmt_with
stmt_read event block turn nesting reads blocks turns place h ts x e =
    if_ok (is_some (name_at ts) || next_is Sync ts) _ _ x e
    (λ _ f.
    let s = bound_ok (sync_with event nesting h ts) _ x f in
    subst (λ (y : Stmt × Here × List Token). StmtRead nesting h y.1 y.0) (ok_is _ _ s.then) (sync_read event nesting h ts s.first reads s.is))
    (λ _ e. if_ok (next_is Let ts) _ _ x e (λ _ f. let_read nesting h ts x f)
    (λ _ e. if_ok (next_is Print ts) _ _ x e
    (λ _ f.
    let s = bound_ok (print_at nesting h ts) _ x f in
    subst (λ (y : Stmt × Here × List Token). StmtRead nesting h y.1 y.0) (ok_is _ _ s.then) (print_read nesting h ts s.first s.is))
    (λ _ e. if_ok (next_is If ts) _ _ x e (λ _ f. branch_read block nesting place h ts x blocks f)
    (λ _ e. if_ok (next_is End ts) _ _ x e
    (λ _ f.
    let s = bound_ok (end_at nesting ts) _ x f in
    subst (λ (y : Stmt × Here × List Token). StmtRead nesting h y.1 y.0) (ok_is _ _ s.then) (end_read nesting h ts s.first s.is))
    (λ _ e. if_ok (next_is Spawn ts) _ _ x e (λ _ f. spawn_read nesting h ts x f)
    (λ _ e. if_ok (are_allowed place) _ _ x e
    (λ _ f. if_ok (next_is Loop ts) _ _ x f (λ _ g. counted_read turn nesting h ts x turns g)
    (λ _ g. if_ok (next_is Forever ts) _ _ x g (λ _ k. forever_read turn nesting h ts x turns k) (λ _ k. no_ok _ _ k)))
    (λ _ f. no_ok _ _ f)))))))

-- BLOCKS

record ListRead' (nesting : ℕ) (h h' : Here) (ss : List Stmt) : Type 0 where
  later : (k : Known) → Later h' k → Later h k
  is_in : (k : Known) → Later h' k → BlockIsIn k (body ss)
  counts : h'.counts ≡ h.counts
  depth : 0 < nesting → stmts_depth (body ss) < nesting

no_stmts : (nesting : ℕ) (h : Here) → ListRead' nesting h h []
no_stmts nesting h = record { later = λ k later. later; is_in = λ k later. tt; counts = refl; depth = λ some. some }

body_in : (k : Known) (ss : List Stmt) (s : Stmt) → BlockIsIn k (body ss) → StmtIsIn k s → BlockIsIn k (body (ss ++ s ∷ []))
body_in k [] s h g = (g, tt)
body_in k (x ∷ ss) s h g = (h.0, body_in k ss s h.1 g)

body_deep : (ss : List Stmt) (s : Stmt) (n : ℕ) → stmts_depth (body ss) < n → stmt_depth s < n → stmts_depth (body (ss ++ s ∷ [])) < n
body_deep [] s n h g = omega (arith, h, g)
body_deep (x ∷ ss) s n h g = (let below : stmts_depth (body (ss ++ s ∷ [])) < n = body_deep ss s n (omega (arith, h)) g in omega (arith, h, below))

stmt_step_keeps : (stmt : ReadsStmt) (place : Place) (nesting : ℕ) (h : Here) → StmtsRead nesting stmt
    → (s t : List Stmt × Here × List Token) → ListRead' nesting h s.1 s.0 → stmt_step stmt place s ≡ Some (Ok t) → ListRead' nesting h t.1 t.0
stmt_step_keeps stmt place nesting h reads s t m e = at_brace (next_is CloseBrace s.2) e
  where
    at_brace : (v : Bool) → cond v None (Some (stmt_next stmt place s)) ≡ Some (Ok t) → ListRead' nesting h t.1 t.0
    at_brace true f = absurd cc
    at_brace false f =
        let g : stmt_next stmt place s ≡ Ok t = cc in
        let b = bound_ok (stmt place s.1 s.2) _ t g in
        let r = reads place s.1 s.2 b.first b.is in
        subst (λ (y : List Stmt × Here × List Token). ListRead' nesting h y.1 y.0) (ok_is _ _ b.then) (record {
          later = λ k later. m.later k (r.later k later);
          is_in = λ k later. body_in k s.0 b.first.0 (m.is_in k (r.later k later)) (r.is_in k later);
          counts = r.counts ∙ m.counts;
          depth = λ some. body_deep s.0 b.first.0 nesting (m.depth some) r.depth;
        })

stmts_read : (stmt : ReadsStmt) (place : Place) (nesting : ℕ) (h : Here) (ts : List Token) (x : List Stmt × Here × List Token) → StmtsRead nesting stmt → stmts_with stmt place h ts ≡ Ok x → ListRead' nesting h x.1 x.0
unfolding stmts_with
stmts_read stmt place nesting h ts x reads e =
    repeated_keeps (λ (s : List Stmt × Here × List Token). ListRead' nesting h s.1 s.0) (stmt_step stmt place) (stmt_step_keeps stmt place nesting h reads) (length ts) ([], h, ts) x (no_stmts nesting h) e

block_read : (stmt : ReadsStmt) (nesting : ℕ) → StmtsRead (nesting - 1) stmt → BlocksRead nesting (block_with stmt nesting)
unfolding block_with
block_read stmt nesting reads place h ts x e =
    let a = bound_ok (expect_at nesting OpenBrace ts) _ x e in
    let s = bound_ok (stmts_with stmt place h a.first) _ x a.then in
    let s-read = stmts_read stmt place (nesting - 1) h a.first s.first reads s.is in
    let c = bound_ok (expect_at (nesting - 1) CloseBrace s.first.2) _ x s.then in
    let some = expect_room (nesting - 1) CloseBrace s.first.2 c.first c.is in
    let d = s-read.depth some in
    subst (λ (y : Block × Here × List Token). BlockRead nesting h y.1 y.0) (ok_is _ _ c.then) (record {
      later = s-read.later;
      is_in = s-read.is_in;
      counts = s-read.counts;
      depth = omega (arith, d, some);
    })

turn_read : (event : ReadsEvent) (stmt : ReadsStmt) (nesting : ℕ) → EventsRead (nesting - 1) event → StmtsRead (nesting - 1) stmt → TurnsRead nesting (turn_with event stmt nesting)
unfolding turn_with
turn_read event stmt nesting events reads word h ts x e =
    let a = bound_ok (expect_at nesting OpenBrace ts) _ x e in
    if_ok (is_no_sync a.first) _ _ x a.then
    (λ _ f. (let b = bound_ok (accept_at (nesting - 1) a.first) _ x f in no_ok _ _ b.then))
    (λ _ f.
    let y = bound_ok (sync_with event (nesting - 1) h a.first) _ x f in
    let first = sync_read event (nesting - 1) h a.first y.first events y.is in
    let s = bound_ok (stmts_with stmt Allowed y.first.1 y.first.2) _ x y.then in
    let s-read = stmts_read stmt Allowed (nesting - 1) y.first.1 y.first.2 s.first reads s.is in
    let c = bound_ok (expect_at (nesting - 1) CloseBrace s.first.2) _ x s.then in
    let some = expect_room (nesting - 1) CloseBrace s.first.2 c.first c.is in
    let d = s-read.depth some in
    subst (λ (y : LoopBody × Here × List Token). TurnRead nesting h y.1 y.0) (ok_is _ _ c.then) (record {
      later = λ k later. first.later k (s-read.later k later);
      is_in = λ k later. (let i = first.is_in k (s-read.later k later) in (i.0, (i.1.0, (i.1.1, s-read.is_in k later))));
      counts = s-read.counts ∙ first.counts;
      depth = omega (arith, d, first.depth, some);
    }))

-- WITH SO MUCH ROOM

no_event : (nesting : ℕ) → EventsRead nesting (λ _ ts. none_there ts)
no_event nesting h ts x e = no_ok _ _ e

no_block : (nesting : ℕ) → BlocksRead nesting (λ _ _ ts. none_there ts)
no_block nesting place h ts x e = no_ok _ _ e

no_stmt : (nesting : ℕ) → StmtsRead nesting (λ _ _ ts. none_there ts)
no_stmt nesting place h ts x e = no_ok _ _ e

pub deeper : (P : ℕ → Type 0) (r : ℕ) → P r → P (suc r - 1)
deeper P r h = (let one : r ≡ suc r - 1 = omega arith in subst P one h)

mutual
  unfolding event_at block_at turn_at

  pub events_read : (nesting : ℕ) → EventsRead nesting (event_at nesting)
  events_read zero h ts x e = event_read _ _ zero (no_event zero) (no_block zero) h ts x e
  events_read (suc r) h ts x e = event_read (event_at r) (block_at r) (suc r) (deeper (λ n. EventsRead n (event_at r)) r (events_read r)) (deeper (λ n. BlocksRead n (block_at r)) r (blocks_read r)) h ts x e

  pub blocks_read : (nesting : ℕ) → BlocksRead nesting (block_at nesting)
  blocks_read zero place h ts x e = block_read _ zero (no_stmt zero) place h ts x e
  blocks_read (suc r) place h ts x e = block_read _ (suc r) (deeper (λ n. StmtsRead n (stmt_with (event_at r) (block_at r) (turn_at r) r)) r (stmt_read (event_at r) (block_at r) (turn_at r) r (events_read r) (blocks_read r) (turns_read r))) place h ts x e

  pub turns_read : (nesting : ℕ) → TurnsRead nesting (turn_at nesting)
  turns_read zero word h ts x e = turn_read _ _ zero (no_event zero) (no_stmt zero) word h ts x e
  turns_read (suc r) word h ts x e = turn_read (event_at r) _ (suc r) (deeper (λ n. EventsRead n (event_at r)) r (events_read r)) (deeper (λ n. StmtsRead n (stmt_with (event_at r) (block_at r) (turn_at r) r)) r (stmt_read (event_at r) (block_at r) (turn_at r) r (events_read r) (blocks_read r) (turns_read r))) word h ts x e

-- the block of a process
pub process_read : (h : Here) (ts : List Token) (x : Block × Here × List Token) → block_at 49 Allowed h ts ≡ Ok x
    → KeepsLimits (record { channels = length x.1.channels; variables = length x.1.variables; processes = length x.1.processes }) x.0
process_read h ts x e =
    let b = blocks_read 49 Allowed h ts x e in
    record { names = b.is_in _ (record { channels = refl; processes = refl; variables = omega arith }); depth = omega (arith, b.depth) }
