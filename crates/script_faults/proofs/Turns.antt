-- The block of a loop: it begins with a sync, or the loop's fault stands at its first token.
use Rattle.std.proofs.Common.{◌≡◌, ◌⊎◌, inl, inr, ⊎_elim, ℕ, zero, suc, ◌+◌, ◌-◌, ◌<◌, Bool, true, false, cond, ◌||◌, List, [], ◌∷◌, length, Some, Result, Ok, Err, refl, sym, ap, ◌∙◌, arith}
use Rattle.script_token.specs.Tokens.{Token, Fixed}
use Rattle.script_token.specs.declared.kind.Symbol.{Symbol}
use Rattle.script_token.specs.declared.kind.Symbol.TheVariants.{Let, Print, If, Loop, Forever, End, Spawn, OpenBrace, CloseBrace}
use Rattle.script_tree.specs.Trees as trees
use Rattle.script_tree.specs.declared.tree.Relation.TheVariants as relations
use Rattle.script_tree.specs.Trees.{LoopBody}
use Rattle.script_reader.specs.Steps.{Told, ◌>>=◌, next_is, accept_at, expect_at, Here}
use Rattle.script_reader.specs.declared.fault.Problem.{Problem}
use Rattle.script_reader.specs.declared.fault.Problem.TheVariants.{Syntax, TooMany, LoopWithoutSync}
use Rattle.script_grammar.specs.Written as written
use Rattle.script_grammar.specs.Written.{stmt_tokens, body_tokens}
use Rattle.script_reader.proofs.ReadFronts.{accept_ok, expect_found}
use Rattle.script_reader.specs.Blocks.{body, ReadsEvent, ReadsStmt, sync_with, stmts_with, is_no_sync, no_sync, turn_with}
use Rattle.script_reader.specs.declared.process.Loops.TheVariants.{Allowed}
use Rattle.script_faults.specs.Laws.{Any}
use Rattle.script_faults.specs.Notes.{Note, SameFront, also, plain}
use Rattle.script_faults.specs.BlockNotes.{loop_note, stmt_after, block_after, begins_with_sync, if_no_sync, stmt_notes, body_notes}
use Rattle.script_faults.proofs.Facts.{Lang, Facts, Noted, Both, LooksInFront, seq, then, turned, either, choose, next_same, one_clean, bad_back, stops_back}
use Rattle.script_faults.proofs.Words.{some_room, plain_left, no_next, first_is, word, expect_facts}
use Rattle.script_faults.proofs.Lists.{also_shape}
use Rattle.script_faults.proofs.Shapes.{turn_shape, body_shape}
use Rattle.script_faults.proofs.Events.{event_lang}
use Rattle.script_faults.proofs.Stmts.{TurnRead, SyncRead, named_lang, named_facts, stmt_lang, turn_lang, body_lang, body_facts}

-- BODIES THAT BEGIN WITH NO SYNC

no_sync_looks : LooksInFront is_no_sync
unfolding is_no_sync
no_sync_looks a b h =
    rw (next_same CloseBrace a b h, next_same Let a b h, next_same Print a b h, next_same If a b h, next_same Loop a b h, next_same Forever a b h, next_same End a b h, next_same Spawn a b h) refl

no_sync_starts : (b : written.Block) (rest : List Token) → begins_with_sync b ≡ false → is_no_sync (body_tokens b rest) ≡ true
unfolding is_no_sync next_is
no_sync_starts written.Done rest e = refl
no_sync_starts (written.Then (written.Let name value) others) rest e = refl
no_sync_starts (written.Then (written.Print value) others) rest e = refl
no_sync_starts (written.Then (written.Sync names event) others) rest e = absurd cc
no_sync_starts (written.Then (written.If test first second) others) rest e = refl
no_sync_starts (written.Then (written.Loop times body) others) rest e = refl
no_sync_starts (written.Then (written.Forever body) others) rest e = refl
no_sync_starts (written.Then written.End others) rest e = refl
no_sync_starts (written.Then (written.Spawn process) others) rest e = refl

sync_starts : (names : List (List ℕ)) (event : written.Event) (rest : List Token) → is_no_sync (stmt_tokens (written.Sync names event) rest) ≡ false
unfolding is_no_sync next_is
sync_starts [] event rest = refl
sync_starts (name ∷ names) event rest = refl

-- the first note of such a body is that of a plain token
record PlainFirst (r : ℕ) (notes : List Note) : Type 0 where
  others : List Note
  is : notes ≡ plain r ∷ others

no_sync_notes : (b : written.Block) (r : ℕ) (h : Here) → begins_with_sync b ≡ false → PlainFirst r (body_notes true r h b)
unfolding body_notes stmt_notes loop_note
no_sync_notes written.Done r h e = record { others = _; is = refl }
no_sync_notes (written.Then (written.Let name value) others) r h e = record { others = _; is = refl }
no_sync_notes (written.Then (written.Print value) others) r h e = record { others = _; is = refl }
no_sync_notes (written.Then (written.Sync names event) others) r h e = absurd cc
no_sync_notes (written.Then (written.If test first second) others) r h e = record { others = _; is = refl }
no_sync_notes (written.Then (written.Loop times body) others) r h e = record { others = _; is = refl }
no_sync_notes (written.Then (written.Forever body) others) r h e = record { others = _; is = refl }
no_sync_notes (written.Then written.End others) r h e = record { others = _; is = refl }
no_sync_notes (written.Then (written.Spawn process) others) r h e = record { others = _; is = refl }

-- of tokens in front of which none of these stands, such a body
record NoSyncFront (ts : List Token) : Type 0 where
  body : written.Block
  none : begins_with_sync body ≡ false
  front : (rest : List Token) → SameFront ts (body_tokens body rest)

in_front_of : (symbol : Symbol) (ts us : List Token) → next_is symbol ts ≡ true → SameFront ts (Fixed symbol ∷ us)
in_front_of symbol [] us e = absurd (no_next symbol e)
in_front_of symbol (t ∷ ts) us e = first_is symbol t ts e

either_true : (a b : Bool) → (a || b) ≡ true → (a ≡ true) ⊎ (b ≡ true)
either_true true b e = inl refl
either_true false b e = inr e

zero_value : written.Expr
zero_value = record { first = written.OfNumber 0; more = written.NoMore }

zero_test : written.Test
zero_test = record { left = zero_value; relation = relations.Equal; right = zero_value }

no_sync_front : (ts : List Token) → is_no_sync ts ≡ true → NoSyncFront ts
unfolding is_no_sync
no_sync_front ts e =
    ⊎_elim (λ a. record { body = written.Done; none = refl; front = λ rest. in_front_of CloseBrace ts _ a })
    (λ e. ⊎_elim (λ a. record { body = written.Then (written.Let [] zero_value) written.Done; none = refl; front = λ rest. in_front_of Let ts _ a })
    (λ e. ⊎_elim (λ a. record { body = written.Then (written.Print zero_value) written.Done; none = refl; front = λ rest. in_front_of Print ts _ a })
    (λ e. ⊎_elim (λ a. record { body = written.Then (written.If zero_test written.Done written.Done) written.Done; none = refl; front = λ rest. in_front_of If ts _ a })
    (λ e. ⊎_elim (λ a. record { body = written.Then (written.Loop 0 written.Done) written.Done; none = refl; front = λ rest. in_front_of Loop ts _ a })
    (λ e. ⊎_elim (λ a. record { body = written.Then (written.Forever written.Done) written.Done; none = refl; front = λ rest. in_front_of Forever ts _ a })
    (λ e. ⊎_elim (λ a. record { body = written.Then written.End written.Done; none = refl; front = λ rest. in_front_of End ts _ a })
    (λ a. record { body = written.Then (written.Spawn []) written.Done; none = refl; front = λ rest. in_front_of Spawn ts _ a })
    (either_true _ _ e)) (either_true _ _ e)) (either_true _ _ e)) (either_true _ _ e)) (either_true _ _ e)) (either_true _ _ e)) (either_true _ _ e)

-- THE FAULT AT THE FIRST TOKEN

-- too deep, or the loop's
fault_behind : ℕ → ℕ → Problem × ℕ
fault_behind zero back = (TooMany, 0)
fault_behind (suc r) back = (LoopWithoutSync, back)

also_behind : (r back : ℕ) (notes : List Note) → also (LoopWithoutSync, back) (plain r ∷ notes) ≡ Some (fault_behind r back) ∷ notes
unfolding plain fault_behind
also_behind zero back notes = refl
also_behind (suc r) back notes = ap (λ (n : Note). also (LoopWithoutSync, back) (n ∷ notes)) (plain_left r)

abbrev no_sync_reader : ℕ → ℕ → List Token → Result TurnRead Told
no_sync_reader r back ts = accept_at r ts >>= λ rest. no_sync (back + length ts)

told_behind : (r back : ℕ) (t : Token) (ts : List Token) → no_sync_reader r back (t ∷ ts) ≡ Err ((fault_behind r back).0, (fault_behind r back).1 + length (t ∷ ts))
unfolding accept_at fault_behind
told_behind zero back t ts = (let n = length ts in let same : suc n ≡ 0 + suc n = omega arith in ap (λ (m : ℕ). Err (TooMany, m)) same)
told_behind (suc r) back t ts = ap (λ (x : Result (List Token) Told). ◌>>=◌ {B = TurnRead} x (λ rest. no_sync (back + length (t ∷ ts)))) (accept_ok (suc r) t ts (omega arith))

told_no_sync : (r back : ℕ) (ts : List Token) → is_no_sync ts ≡ true → no_sync_reader r back ts ≡ Err ((fault_behind r back).0, (fault_behind r back).1 + length ts)
unfolding is_no_sync next_is
told_no_sync r back [] e = absurd cc
told_no_sync r back (t ∷ ts) e = told_behind r back t ts

abbrev no_sync_lang : ℕ → ℕ → Here → Lang LoopBody TurnRead Any
no_sync_lang r back h = record {
  W = (b : written.Block) × (begins_with_sync b ≡ false);
  default = (written.Done, refl);
  spell = λ w. body_tokens w.0;
  notes = λ w. also (LoopWithoutSync, back) (body_notes true r h w.0);
  join = λ w x rest. (x, block_after h w.0, rest);
  shape = λ w. also_shape (LoopWithoutSync, back) (body_tokens w.0) _ (body_shape w.0 true r h);
}

no_sync_noted : (r back : ℕ) (h : Here) (b : written.Block) → begins_with_sync b ≡ false → Noted (also (LoopWithoutSync, back) (body_notes true r h b)) (fault_behind r back)
no_sync_noted r back h b e = (let p = no_sync_notes b r h e in record { others = p.others; is = ap (also (LoopWithoutSync, back)) p.is ∙ also_behind r back p.others })

no_sync_facts : (r back : ℕ) (h : Here) → Facts (Both Any is_no_sync true) (no_sync_lang r back h) (no_sync_reader r back)
no_sync_facts r back h = record {
  reads = λ w. inr (bad_back (no_sync_lang r back h) (no_sync_reader r back) w (fault_behind r back) (no_sync_noted r back h w.0 w.1) (λ rest. told_no_sync r back (body_tokens w.0 rest) (no_sync_starts w.0 rest w.1)));
  takes = λ ts p.
      let f = no_sync_front ts p.1 in
      inr (stops_back (no_sync_lang r back h) (no_sync_reader r back) ts (fault_behind r back) (f.body, f.none) (λ others k. told_no_sync r back others (sym (no_sync_looks ts others k) ∙ p.1)) (inr (no_sync_noted r back h f.body f.none, f.front)));
}

-- the body of a loop, so many tokens behind whose word a fault stands at its first token
abbrev loop_lang : ℕ → ℕ → Here → Lang LoopBody TurnRead Any
loop_lang r back h = record {
  W = written.Block;
  default = written.Done;
  spell = body_tokens;
  notes = λ w. if_no_sync (begins_with_sync w) back (body_notes true r h w);
  join = λ w x rest. (x, block_after h w, rest);
  shape = λ w. turn_shape (begins_with_sync w) back (body_tokens w) _ (body_shape w true r h);
}

-- BODIES THAT BEGIN WITH A SYNC

-- what is read behind the brace of a loop, from whose word on so many tokens are left
abbrev behind_brace : ReadsEvent → ReadsStmt → ℕ → ℕ → Here → List Token → Result TurnRead Told
behind_brace event stmt nesting word h ts =
    cond (is_no_sync ts) (accept_at (nesting - 1) ts >>= λ rest. no_sync word)
    (sync_with event (nesting - 1) h ts >>= λ first. stmts_with stmt Allowed first.1 first.2 >>= λ s. expect_at (nesting - 1) CloseBrace s.2 >>= λ rest. Ok (record { names = first.0.0; event = first.0.1; rest = body s.0 }, s.1, rest))

module _ (event : ReadsEvent) (stmt : ReadsStmt) (nesting back : ℕ) (events : (h : Here) → Facts Any (event_lang (nesting - 1) h) (event h)) (stmts : (h : Here) → Facts Any (stmt_lang true (nesting - 1) h) (stmt Allowed h)) (ends : (h : Here) → stmt Allowed h [] ≡ Err (Syntax, 0)) where
  abbrev r : ℕ
  r = nesting - 1

  abbrev rest_reader : SyncRead → Result TurnRead Told
  rest_reader first = stmts_with stmt Allowed first.1 first.2 >>= λ s. expect_at r CloseBrace s.2 >>= λ rest. Ok (record { names = first.0.0; event = first.0.1; rest = body s.0 }, s.1, rest)

  abbrev begun_lang : Here → Lang LoopBody TurnRead Any
  begun_lang h = seq (named_lang true r h) (λ w. body_lang true r (stmt_after h (written.Sync w.0 w.1)))

  begun_facts : (h : Here) → Facts (Both Any is_no_sync false) (begun_lang h) (λ ts. sync_with event r h ts >>= rest_reader)
  begun_facts h =
      then (named_lang true r h) (λ w. body_lang true r (stmt_after h (written.Sync w.0 w.1))) (λ ts. sync_with event r h ts) rest_reader (named_facts event r events true h)
      (λ w x c. body_facts stmt r Allowed stmts ends (λ (b : trees.Block). record { names = x.0; event = x.1; rest = b }) (stmt_after h (written.Sync w.0 w.1)))

  -- EITHER

  abbrev parts : Here → Lang LoopBody TurnRead Any
  parts h = either (no_sync_lang r back h) (begun_lang h)

  abbrev parts_reader : Here → List Token → Result TurnRead Told
  parts_reader h ts = behind_brace event stmt nesting (back + length ts) h ts

  parts_facts : (h : Here) → Facts Any (parts h) (parts_reader h)
  parts_facts h =
      choose is_no_sync no_sync_looks (no_sync_lang r back h) (begun_lang h) (no_sync_reader r back) (λ ts. sync_with event r h ts >>= rest_reader) (λ w rest e. no_sync_starts w.0 rest w.1) (λ w rest e. sync_starts w.0.0 w.0.1 _)
      (no_sync_facts r back h) (begun_facts h)

  abbrev BodyParts : Type 0
  BodyParts = ((b : written.Block) × (begins_with_sync b ≡ false)) ⊎ ((List (List ℕ) × written.Event) × written.Block)

  abbrev to_body : BodyParts → written.Block
  to_body (inl w) = w.0
  to_body (inr w) = written.Then (written.Sync w.0.0 w.0.1) w.1

  abbrev from_body : written.Block → BodyParts
  from_body written.Done = inl (written.Done, refl)
  from_body (written.Then (written.Let name value) others) = inl (written.Then (written.Let name value) others, refl)
  from_body (written.Then (written.Print value) others) = inl (written.Then (written.Print value) others, refl)
  from_body (written.Then (written.Sync names event) others) = inr ((names, event), others)
  from_body (written.Then (written.If test first second) others) = inl (written.Then (written.If test first second) others, refl)
  from_body (written.Then (written.Loop times body) others) = inl (written.Then (written.Loop times body) others, refl)
  from_body (written.Then (written.Forever body) others) = inl (written.Then (written.Forever body) others, refl)
  from_body (written.Then written.End others) = inl (written.Then written.End others, refl)
  from_body (written.Then (written.Spawn process) others) = inl (written.Then (written.Spawn process) others, refl)

  parts_spell_to : (h : Here) (w : BodyParts) (rest : List Token) → body_tokens (to_body w) rest ≡ (parts h).spell w rest
  parts_spell_to h (inl w) rest = refl
  parts_spell_to h (inr w) rest = refl

  parts_notes_to : (h : Here) (w : BodyParts) → (loop_lang r back h).notes (to_body w) ≡ (parts h).notes w
  unfolding body_notes
  parts_notes_to h (inl w) = ap (λ (x : Bool). if_no_sync x back (body_notes true r h w.0)) w.1
  parts_notes_to h (inr w) = refl

  parts_spell_from : (h : Here) (w : written.Block) (rest : List Token) → body_tokens w rest ≡ (parts h).spell (from_body w) rest
  parts_spell_from h written.Done rest = refl
  parts_spell_from h (written.Then (written.Let name value) others) rest = refl
  parts_spell_from h (written.Then (written.Print value) others) rest = refl
  parts_spell_from h (written.Then (written.Sync names event) others) rest = refl
  parts_spell_from h (written.Then (written.If test first second) others) rest = refl
  parts_spell_from h (written.Then (written.Loop times body) others) rest = refl
  parts_spell_from h (written.Then (written.Forever body) others) rest = refl
  parts_spell_from h (written.Then written.End others) rest = refl
  parts_spell_from h (written.Then (written.Spawn process) others) rest = refl

  parts_notes_from : (h : Here) (w : written.Block) → (loop_lang r back h).notes w ≡ (parts h).notes (from_body w)
  unfolding body_notes
  parts_notes_from h written.Done = refl
  parts_notes_from h (written.Then (written.Let name value) others) = refl
  parts_notes_from h (written.Then (written.Print value) others) = refl
  parts_notes_from h (written.Then (written.Sync names event) others) = refl
  parts_notes_from h (written.Then (written.If test first second) others) = refl
  parts_notes_from h (written.Then (written.Loop times body) others) = refl
  parts_notes_from h (written.Then (written.Forever body) others) = refl
  parts_notes_from h (written.Then written.End others) = refl
  parts_notes_from h (written.Then (written.Spawn process) others) = refl

  parts_joined : (h : Here) (w : written.Block) (x : LoopBody) (rest : List Token) → (parts h).join (from_body w) x rest ≡ (x, block_after h w, rest)
  unfolding block_after
  parts_joined h written.Done x rest = refl
  parts_joined h (written.Then (written.Let name value) others) x rest = refl
  parts_joined h (written.Then (written.Print value) others) x rest = refl
  parts_joined h (written.Then (written.Sync names event) others) x rest = refl
  parts_joined h (written.Then (written.If test first second) others) x rest = refl
  parts_joined h (written.Then (written.Loop times body) others) x rest = refl
  parts_joined h (written.Then (written.Forever body) others) x rest = refl
  parts_joined h (written.Then written.End others) x rest = refl
  parts_joined h (written.Then (written.Spawn process) others) x rest = refl

  pub loop_body_facts : (h : Here) → Facts Any (loop_lang r back h) (parts_reader h)
  loop_body_facts h = turned (parts h) (loop_lang r back h) (parts_reader h) (parts_reader h) (record {
    to = to_body;
    spell_to = parts_spell_to h;
    notes_to = parts_notes_to h;
    from = from_body;
    spell_from = parts_spell_from h;
    notes_from = parts_notes_from h;
    value = λ w x. x;
    oks = λ ts w x rest e. e ∙ ap (λ (y : TurnRead). Ok y) (parts_joined h w x rest);
    errs = λ ts t e. e;
  }) (parts_facts h)

-- THE BLOCK OF A LOOP

turn_is : (event : ReadsEvent) (stmt : ReadsStmt) (nesting k : ℕ) (h : Here) (us : List Token) → (expect_at nesting OpenBrace us >>= λ rest. behind_brace event stmt nesting (suc k + length rest) h rest) ≡ turn_with event stmt nesting (k + length us) h us
unfolding turn_with
turn_is event stmt nesting k h us = at_brace (expect_at nesting OpenBrace us) (λ rest e. (let taken = expect_found nesting OpenBrace us rest e in let size = ap length taken.is in omega (arith, size)))
  where
    at_brace : (x : Result (List Token) Told) → ((rest : List Token) → x ≡ Ok rest → suc k + length rest ≡ k + length us) → (x >>= λ rest. behind_brace event stmt nesting (suc k + length rest) h rest) ≡ (x >>= λ rest. behind_brace event stmt nesting (k + length us) h rest)
    at_brace (Ok rest) e = ap (λ (n : ℕ). behind_brace event stmt nesting n h rest) (e rest refl)
    at_brace (Err t) e = refl

module _ (event : ReadsEvent) (stmt : ReadsStmt) (nesting : ℕ) (events : 0 < nesting → (h : Here) → Facts Any (event_lang (nesting - 1) h) (event h)) (stmts : 0 < nesting → (h : Here) → Facts Any (stmt_lang true (nesting - 1) h) (stmt Allowed h)) (ends : (h : Here) → stmt Allowed h [] ≡ Err (Syntax, 0)) where
  abbrev turn_parts : ℕ → Here → Lang LoopBody TurnRead Any
  turn_parts k h = seq (word OpenBrace nesting) (λ w. loop_lang (nesting - 1) (suc k) h)

  turn_reads : (k : ℕ) (h : Here) → Facts Any (turn_parts k h) (λ us. expect_at nesting OpenBrace us >>= λ rest. behind_brace event stmt nesting (suc k + length rest) h rest)
  turn_reads k h =
      then (word OpenBrace nesting) (λ w. loop_lang (nesting - 1) (suc k) h) (λ us. expect_at nesting OpenBrace us) (λ rest. behind_brace event stmt nesting (suc k + length rest) h rest) (expect_facts nesting OpenBrace)
      (λ w x clean.
      let some = some_room nesting (one_clean (plain nesting) clean) in
      loop_body_facts event stmt nesting (suc k) (events some) (stmts some) ends h)

  pub turn_facts : (k : ℕ) (h : Here) → Facts Any (turn_lang (suc k) nesting h) (λ us. turn_with event stmt nesting (k + length us) h us)
  turn_facts k h = turned (turn_parts k h) (turn_lang (suc k) nesting h) (λ us. expect_at nesting OpenBrace us >>= λ rest. behind_brace event stmt nesting (suc k + length rest) h rest) (λ us. turn_with event stmt nesting (k + length us) h us) (record {
    to = λ w. w.1;
    spell_to = λ w rest. refl;
    notes_to = λ w. refl;
    from = λ w. (tt, w);
    spell_from = λ w rest. refl;
    notes_from = λ w. refl;
    value = λ w x. x;
    oks = λ ts w x rest e. sym (turn_is event stmt nesting k h ts) ∙ e;
    errs = λ ts t e. sym (turn_is event stmt nesting k h ts) ∙ e;
  }) (turn_reads k h)
