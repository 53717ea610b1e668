-- Statements and blocks: what is written, and where reading it stops.
use Rattle.std.proofs.Common.{◌≡◌, inl, inr, ⊎_elim, ℕ, suc, ◌+◌, ◌-◌, ◌<◌, ◌≤◌, Bool, true, false, cond, ◌||◌, List, [], ◌∷◌, ◌++◌, length, Option, Some, None, Result, Ok, Err, is_some, refl, sym, ap, ap₂, ◌∙◌, arith, append_assoc, length-append}
use Rattle.script_token.specs.Tokens.{Token, Fixed, Name, Number}
use Rattle.script_token.specs.Tokens as tokens
use Rattle.script_token.specs.declared.kind.Symbol.TheVariants.{Let, Print, Sync, If, Else, Loop, Forever, End, Spawn, Semicolon, OpenBrace, CloseBrace, Equal, Arrow}
use Rattle.script_tree.specs.Trees as trees
use Rattle.script_tree.specs.Trees.{LoopBody}
use Rattle.script_reader.specs.Steps.{Told, ◌>>=◌, stop_at, repeated, name_at, next_is, accept_at, expect_at, Here, bound, spawn_process_at, bind_name_at, bind_names_at}
use Rattle.script_reader.specs.Exprs.{expr_at, test_at}
use Rattle.script_reader.specs.declared.fault.Problem.TheVariants.{Syntax}
use Rattle.script_grammar.specs.Written as written
use Rattle.script_grammar.specs.Written.{stmt_tokens, body_tokens, block_tokens}
use Rattle.script_reader.proofs.ReadFronts.{is_next}
use Rattle.script_reader.specs.Blocks.{body, ReadsEvent, ReadsBlock, ReadsStmt, ReadsTurn, synced_with, sync_with, let_at, print_at, end_at, spawn_at, branch_with, times_at, counted_with, forever_with, are_allowed, stmt_with, stmt_step, stmts_with}
use Rattle.script_reader.specs.declared.process.Loops.{Loops as Place}
use Rattle.script_reader.specs.declared.process.Loops.TheVariants.{Allowed, Forbidden}
use Rattle.script_faults.specs.Laws.{Any, NoComma, NoSign}
use Rattle.script_faults.specs.Notes.{Note, SameFront, plain, spawned_after, names_after, expr_notes, names_notes, test_notes, bind_note, more_names_notes}
use Rattle.script_faults.specs.BlockNotes.{loop_note, uncounted, event_after, stmt_after, block_after, begins_with_sync, if_no_sync, received_notes, event_notes, stmt_notes, body_notes}
use Rattle.script_faults.proofs.Facts.{Shape, Lang, Facts, Bad, seq, bind, then, under, turned, instead, giving, give, either, neither, choose, or_stop, LooksInFront, next_same, stops_at_once, bad_at_once}
use Rattle.script_faults.proofs.Words.{accept_both, word, accept_facts, expect_facts, number, number_at_room, number_facts, spawned_name, spawned_name_facts, bound_name, bound_name_facts}
use Rattle.script_faults.proofs.Loops.{spell_all, notes_all, after_all, all_lang, all_facts, same_steps}
use Rattle.script_faults.proofs.Exprs.{sign_ends, name_looks, expr_lang, expr_facts}
use Rattle.script_faults.proofs.Lists.{test_lang, test_facts}
use Rattle.script_faults.proofs.NameLists.{names_lang, names_facts, comma_looks}
use Rattle.script_faults.proofs.Shapes.{in_front, turn_shape, stmt_shape, body_shape}
use Rattle.script_faults.proofs.Events.{EventRead, event_lang, block_lang}

-- LANGUAGES

abbrev pub StmtRead : Type 0
StmtRead = trees.Stmt × Here × List Token

abbrev pub TurnRead : Type 0
TurnRead = LoopBody × Here × List Token

abbrev pub stmt_lang : Bool → ℕ → Here → Lang trees.Stmt StmtRead Any
stmt_lang loops nesting h = record { W = written.Stmt; default = written.End; spell = stmt_tokens; notes = stmt_notes loops nesting h; join = λ w x rest. (x, stmt_after h w, rest); shape = λ w. stmt_shape w loops nesting h }

-- the block of a loop, so many tokens behind whose word a fault stands
abbrev pub turn_lang : ℕ → ℕ → Here → Lang LoopBody TurnRead Any
turn_lang back nesting h = record {
  W = written.Block;
  default = written.Done;
  spell = block_tokens;
  notes = λ w. plain nesting ∷ if_no_sync (begins_with_sync w) back (body_notes true (nesting - 1) h w);
  join = λ w x rest. (x, block_after h w, rest);
  shape = λ w. in_front (Fixed OpenBrace) (plain nesting) (body_tokens w) _ (turn_shape (begins_with_sync w) back (body_tokens w) _ (body_shape w true (nesting - 1) h));
}

abbrev with_counts : Here → Here → Here
with_counts h g = record g { counts = h.counts }

semicolon_ends : (rest : List Token) → NoSign (Fixed Semicolon ∷ rest)
unfolding next_is
semicolon_ends rest = refl

brace_ends : (rest : List Token) → NoSign (Fixed OpenBrace ∷ rest)
unfolding next_is
brace_ends rest = refl

arrow_ends : (rest : List Token) → NoComma (Fixed Arrow ∷ rest)
unfolding next_is
arrow_ends rest = refl

-- A SYNC'S EVENT

module _ (event : ReadsEvent) (nesting : ℕ) (events : (h : Here) → Facts Any (event_lang nesting h) (event h)) where
  abbrev pub after_sync : Here → written.Event → Here
  after_sync h w = with_counts h (event_after (uncounted h) w)

  abbrev sync_end : Here → written.Event → Lang trees.Event EventRead Any
  sync_end h e = giving (word Semicolon nesting) (λ w x rest. (x, after_sync h e, rest))

  abbrev pub sync_lang : Here → Lang trees.Event EventRead Any
  sync_lang h = seq (word Sync nesting) (λ w. seq (event_lang nesting (uncounted h)) (λ e. sync_end h e))

  pub sync_facts : {P : List Token → Type 0} (h : Here) → Facts P (sync_lang h) (λ ts. synced_with event nesting h ts)
  unfolding synced_with
  sync_facts h =
      then (word Sync nesting) (λ w. seq (event_lang nesting (uncounted h)) (λ e. sync_end h e)) (λ ts. expect_at nesting Sync ts) (λ rest. event (uncounted h) rest >>= λ e. expect_at nesting Semicolon e.2 >>= λ rest. Ok (e.0, with_counts h e.1, rest)) (expect_facts nesting Sync)
      (λ w x c. then (event_lang nesting (uncounted h)) (λ e. sync_end h e) (event (uncounted h)) (λ e. expect_at nesting Semicolon e.2 >>= λ rest. Ok (e.0, with_counts h e.1, rest)) (events (uncounted h))
      (λ e y c'. give (word Semicolon nesting) (λ w x rest. (x, after_sync h e, rest)) (λ ts. expect_at nesting Semicolon ts) (λ rest. (y, after_sync h e, rest)) (λ w u. y) (λ w u rest. refl) (expect_facts nesting Semicolon)))

-- SIMPLE STATEMENTS

module _ (nesting : ℕ) (h : Here) where
  abbrev closed : Here → Lang trees.Stmt StmtRead Any
  closed g = giving (word Semicolon nesting) (λ w x rest. (x, g, rest))

  abbrev let_lang : Lang trees.Stmt StmtRead Any
  let_lang = seq (word Let nesting) (λ w. seq (bound_name nesting [] h) (λ n. seq (word Equal nesting) (λ v. seq (expr_lang nesting (bound h n).1) (λ e. closed (bound h n).1))))

  let_facts : {P : List Token → Type 0} → ((ts : List Token) → P ts → next_is Let ts ≡ true) → Facts P let_lang (λ ts. let_at nesting h ts)
  unfolding let_at
  let_facts is =
      then (word Let nesting) (λ w. seq (bound_name nesting [] h) (λ n. seq (word Equal nesting) (λ v. seq (expr_lang nesting (bound h n).1) (λ e. closed (bound h n).1)))) (λ ts. accept_at nesting ts)
      (λ rest. bind_name_at nesting [] h rest >>= λ n. expect_at nesting Equal n.2 >>= λ rest. expr_at nesting n.1 rest >>= λ v. expect_at nesting Semicolon v.1 >>= λ rest. Ok (trees.Lets n.0 v.0, n.1, rest)) (accept_facts nesting Let is)
      (λ w x c. then (bound_name nesting [] h) (λ n. seq (word Equal nesting) (λ v. seq (expr_lang nesting (bound h n).1) (λ e. closed (bound h n).1))) (λ ts. bind_name_at nesting [] h ts)
      (λ n. expect_at nesting Equal n.2 >>= λ rest. expr_at nesting n.1 rest >>= λ v. expect_at nesting Semicolon v.1 >>= λ rest. Ok (trees.Lets n.0 v.0, n.1, rest)) (bound_name_facts nesting [] h refl)
      (λ n y c'.
      let i = (bound h n).0 in
      let g = (bound h n).1 in
      then (word Equal nesting) (λ v. seq (expr_lang nesting g) (λ e. closed g)) (λ ts. expect_at nesting Equal ts) (λ rest. expr_at nesting g rest >>= λ v. expect_at nesting Semicolon v.1 >>= λ rest. Ok (trees.Lets i v.0, g, rest)) (expect_facts nesting Equal)
      (λ v z c''. bind (expr_lang nesting g) (λ e. closed g) (λ ts. expr_at nesting g ts) (λ v. expect_at nesting Semicolon v.1 >>= λ rest. Ok (trees.Lets i v.0, g, rest)) sign_ends (λ a b rest e. semicolon_ends rest) (expr_facts nesting g)
      (λ e u c'''. give (word Semicolon nesting) (λ w x rest. (x, g, rest)) (λ ts. expect_at nesting Semicolon ts) (λ rest. (trees.Lets i u, g, rest)) (λ w t. trees.Lets i u) (λ w t rest. refl) (expect_facts nesting Semicolon)))))

  abbrev print_lang : Lang trees.Stmt StmtRead Any
  print_lang = seq (word Print nesting) (λ w. seq (expr_lang nesting h) (λ e. closed h))

  print_facts : {P : List Token → Type 0} → ((ts : List Token) → P ts → next_is Print ts ≡ true) → Facts P print_lang (λ ts. print_at nesting h ts >>= λ s. Ok (s.0, h, s.1))
  unfolding print_at
  print_facts is = instead print_lang (λ ts. accept_at nesting ts >>= λ rest. expr_at nesting h rest >>= λ v. expect_at nesting Semicolon v.1 >>= λ rest. Ok (trees.Prints v.0, h, rest)) (λ ts. print_at nesting h ts >>= λ s. Ok (s.0, h, s.1)) print_is
      (then (word Print nesting) (λ w. seq (expr_lang nesting h) (λ e. closed h)) (λ ts. accept_at nesting ts) (λ rest. expr_at nesting h rest >>= λ v. expect_at nesting Semicolon v.1 >>= λ rest. Ok (trees.Prints v.0, h, rest)) (accept_facts nesting Print is)
      (λ w x c. bind (expr_lang nesting h) (λ e. closed h) (λ ts. expr_at nesting h ts) (λ v. expect_at nesting Semicolon v.1 >>= λ rest. Ok (trees.Prints v.0, h, rest)) sign_ends (λ a b rest e. semicolon_ends rest) (expr_facts nesting h)
      (λ e u c'. give (word Semicolon nesting) (λ w x rest. (x, h, rest)) (λ ts. expect_at nesting Semicolon ts) (λ rest. (trees.Prints u, h, rest)) (λ w t. trees.Prints u) (λ w t rest. refl) (expect_facts nesting Semicolon))))
    where
      at_end : (u : trees.Expr) (x : Result (List Token) Told) → (◌>>=◌ {B = StmtRead} x (λ rest. Ok (trees.Prints u, h, rest))) ≡ ◌>>=◌ {B = StmtRead} (◌>>=◌ {B = trees.Stmt × List Token} x (λ rest. Ok (trees.Prints u, rest))) (λ s. Ok (s.0, h, s.1))
      at_end u (Ok rest) = refl
      at_end u (Err t) = refl

      printed : trees.Expr × List Token → Result StmtRead Told
      printed v = expect_at nesting Semicolon v.1 >>= λ rest. Ok (trees.Prints v.0, h, rest)

      print_rest : trees.Expr × List Token → Result (trees.Stmt × List Token) Told
      print_rest v = expect_at nesting Semicolon v.1 >>= λ rest. Ok (trees.Prints v.0, rest)

      placed : trees.Stmt × List Token → Result StmtRead Told
      placed s = Ok (s.0, h, s.1)

      at_expr : (x : Result (trees.Expr × List Token) Told) → (x >>= printed) ≡ ((x >>= print_rest) >>= placed)
      at_expr (Ok v) = at_end v.0 (expect_at nesting Semicolon v.1)
      at_expr (Err t) = refl

      at_word : (x : Result (List Token) Told) → (x >>= λ rest. expr_at nesting h rest >>= printed) ≡ ((x >>= λ rest. expr_at nesting h rest >>= print_rest) >>= placed)
      at_word (Ok rest) = at_expr (expr_at nesting h rest)
      at_word (Err t) = refl

      print_is : (ts : List Token) → (accept_at nesting ts >>= λ rest. expr_at nesting h rest >>= printed) ≡ (print_at nesting h ts >>= placed)
      print_is ts = at_word (accept_at nesting ts)

  abbrev end_lang : Lang trees.Stmt StmtRead Any
  end_lang = seq (word End nesting) (λ w. closed h)

  end_facts : {P : List Token → Type 0} → ((ts : List Token) → P ts → next_is End ts ≡ true) → Facts P end_lang (λ ts. end_at nesting ts >>= λ s. Ok (s.0, h, s.1))
  unfolding end_at
  end_facts is = instead end_lang (λ ts. accept_at nesting ts >>= λ rest. expect_at nesting Semicolon rest >>= λ rest. Ok (trees.Ends, h, rest)) (λ ts. end_at nesting ts >>= λ s. Ok (s.0, h, s.1)) end_is
      (then (word End nesting) (λ w. closed h) (λ ts. accept_at nesting ts) (λ rest. expect_at nesting Semicolon rest >>= λ rest. Ok (trees.Ends, h, rest)) (accept_facts nesting End is)
      (λ w x c. give (word Semicolon nesting) (λ w x rest. (x, h, rest)) (λ ts. expect_at nesting Semicolon ts) (λ rest. (trees.Ends, h, rest)) (λ w t. trees.Ends) (λ w t rest. refl) (expect_facts nesting Semicolon)))
    where
      at_end : (x : Result (List Token) Told) → (◌>>=◌ {B = StmtRead} x (λ rest. Ok (trees.Ends, h, rest))) ≡ ◌>>=◌ {B = StmtRead} (◌>>=◌ {B = trees.Stmt × List Token} x (λ rest. Ok (trees.Ends, rest))) (λ s. Ok (s.0, h, s.1))
      at_end (Ok rest) = refl
      at_end (Err t) = refl

      ended : List Token → Result StmtRead Told
      ended rest = expect_at nesting Semicolon rest >>= λ rest. Ok (trees.Ends, h, rest)

      end_rest : List Token → Result (trees.Stmt × List Token) Told
      end_rest rest = expect_at nesting Semicolon rest >>= λ rest. Ok (trees.Ends, rest)

      placed : trees.Stmt × List Token → Result StmtRead Told
      placed s = Ok (s.0, h, s.1)

      at_word : (x : Result (List Token) Told) → (x >>= ended) ≡ ((x >>= end_rest) >>= placed)
      at_word (Ok rest) = at_end (expect_at nesting Semicolon rest)
      at_word (Err t) = refl

      end_is : (ts : List Token) → (accept_at nesting ts >>= ended) ≡ (end_at nesting ts >>= placed)
      end_is ts = at_word (accept_at nesting ts)

  abbrev spawn_lang : Lang trees.Stmt StmtRead Any
  spawn_lang = seq (word Spawn nesting) (λ w. seq (spawned_name nesting h) (λ n. closed (spawned_after h n)))

  spawn_facts : {P : List Token → Type 0} → ((ts : List Token) → P ts → next_is Spawn ts ≡ true) → Facts P spawn_lang (λ ts. spawn_at nesting h ts)
  unfolding spawn_at
  spawn_facts is =
      then (word Spawn nesting) (λ w. seq (spawned_name nesting h) (λ n. closed (spawned_after h n))) (λ ts. accept_at nesting ts) (λ rest. spawn_process_at nesting h rest >>= λ p. expect_at nesting Semicolon p.2 >>= λ rest. Ok (trees.Spawns p.0, p.1, rest)) (accept_facts nesting Spawn is)
      (λ w x c. then (spawned_name nesting h) (λ n. closed (spawned_after h n)) (λ ts. spawn_process_at nesting h ts) (λ p. expect_at nesting Semicolon p.2 >>= λ rest. Ok (trees.Spawns p.0, p.1, rest)) (spawned_name_facts nesting h)
      (λ n p c'. let g = spawned_after h n in give (word Semicolon nesting) (λ w x rest. (x, g, rest)) (λ ts. expect_at nesting Semicolon ts) (λ rest. (trees.Spawns p, g, rest)) (λ w t. trees.Spawns p) (λ w t rest. refl) (expect_facts nesting Semicolon)))

-- LOOPS

module _ (loops : Bool) (nesting : ℕ) (h : Here) where
  abbrev counted_lang : Lang trees.Stmt StmtRead Any
  counted_lang = record {
    W = ℕ × written.Block;
    default = (0, written.Done);
    spell = λ w rest. Fixed Loop ∷ Number w.0 ∷ block_tokens w.1 rest;
    notes = λ w. loop_note loops nesting ∷ plain nesting ∷ plain nesting ∷ if_no_sync (begins_with_sync w.1) 3 (body_notes true (nesting - 1) h w.1);
    join = λ w x rest. (x, block_after h w.1, rest);
    shape = λ w. in_front (Fixed Loop) _ _ _ (in_front (Number w.0) _ _ _ ((turn_lang 3 nesting h).shape w.1));
  }

  abbrev forever_lang : Lang trees.Stmt StmtRead Any
  forever_lang = record {
    W = written.Block;
    default = written.Done;
    spell = λ w rest. Fixed Forever ∷ block_tokens w rest;
    notes = λ w. loop_note loops nesting ∷ plain nesting ∷ if_no_sync (begins_with_sync w) 2 (body_notes true (nesting - 1) h w);
    join = λ w x rest. (x, block_after h w, rest);
    shape = λ w. in_front (Fixed Forever) _ _ _ ((turn_lang 2 nesting h).shape w);
  }

  abbrev loops_lang : Lang trees.Stmt StmtRead Any
  loops_lang = either counted_lang forever_lang

-- where none may stand
forbidden_facts : {P : List Token → Type 0} (nesting : ℕ) (h : Here) → Facts P (loops_lang false nesting h) (λ ts. stop_at Syntax ts)
unfolding loop_note
forbidden_facts nesting h = record { reads = λ w. inr (reads w); takes = λ ts p. inr (stops_at_once (loops_lang false nesting h) (λ ts. stop_at Syntax ts) ts (λ others k. refl)) }
  where
    reads : (w : (loops_lang false nesting h).W) → Bad (loops_lang false nesting h) (λ ts. stop_at Syntax ts) w
    reads (inl w) = bad_at_once (loops_lang false nesting h) (λ ts. stop_at Syntax ts) (inl w) Syntax (record { others = _; is = refl }) (λ rest. refl)
    reads (inr w) = bad_at_once (loops_lang false nesting h) (λ ts. stop_at Syntax ts) (inr w) Syntax (record { others = _; is = refl }) (λ rest. refl)

module _ (turn : ReadsTurn) (nesting : ℕ) (h : Here) (turns : (k : ℕ) → Facts Any (turn_lang (suc k) nesting h) (λ us. turn (k + length us) h us)) where
  abbrev turn_end : ℕ → Lang trees.Stmt StmtRead Any
  turn_end back = giving (turn_lang back nesting h) (λ w x rest. (x, block_after h w, rest))

  abbrev looped : ℕ → TurnRead → StmtRead
  looped n t = (trees.Loops n t.0.names t.0.event t.0.rest, t.1, t.2)

  abbrev endless : TurnRead → StmtRead
  endless t = (trees.LoopsForever t.0.names t.0.event t.0.rest, t.1, t.2)

  abbrev counted_reader : List Token → Result StmtRead Told
  counted_reader ts = accept_at nesting ts >>= λ rest. number_at_room nesting rest >>= λ n. turn (2 + length n.1) h n.1 >>= λ t. Ok (looped n.0 t)

  abbrev forever_reader : List Token → Result StmtRead Told
  forever_reader ts = accept_at nesting ts >>= λ rest. turn (1 + length rest) h rest >>= λ t. Ok (endless t)

  counted_reads : {P : List Token → Type 0} → ((ts : List Token) → P ts → next_is Loop ts ≡ true) → Facts P (seq (word Loop nesting) (λ w. seq (number nesting) (λ n. turn_end 3))) counted_reader
  counted_reads is =
      then (word Loop nesting) (λ w. seq (number nesting) (λ n. turn_end 3)) (λ ts. accept_at nesting ts) (λ rest. number_at_room nesting rest >>= λ n. turn (2 + length n.1) h n.1 >>= λ t. Ok (looped n.0 t)) (accept_facts nesting Loop is)
      (λ w x c. then (number nesting) (λ n. turn_end 3) (λ ts. number_at_room nesting ts) (λ n. turn (2 + length n.1) h n.1 >>= λ t. Ok (looped n.0 t)) (number_facts nesting)
      (λ n y c'. give (turn_lang 3 nesting h) (λ w x rest. (x, block_after h w, rest)) (λ us. turn (2 + length us) h us) (looped n) (λ w t. trees.Loops n t.names t.event t.rest) (λ w t rest. refl) (turns 2)))

  forever_reads : {P : List Token → Type 0} → ((ts : List Token) → P ts → next_is Forever ts ≡ true) → Facts P (seq (word Forever nesting) (λ w. turn_end 2)) forever_reader
  forever_reads is =
      then (word Forever nesting) (λ w. turn_end 2) (λ ts. accept_at nesting ts) (λ rest. turn (1 + length rest) h rest >>= λ t. Ok (endless t)) (accept_facts nesting Forever is)
      (λ w x c. give (turn_lang 2 nesting h) (λ w x rest. (x, block_after h w, rest)) (λ us. turn (1 + length us) h us) endless (λ w t. trees.LoopsForever t.names t.event t.rest) (λ w t rest. refl) (turns 1))

  forever_is : (ts : List Token) → forever_reader ts ≡ forever_with turn nesting h ts
  unfolding forever_with accept_at
  forever_is [] = refl
  forever_is (t ∷ us) = ⊎_elim
      (λ a. ap (λ (x : Result (List Token) Told). x >>= λ rest. turn (1 + length rest) h rest >>= λ t. Ok (endless t)) (a.1 us) ∙
      ap (λ (n : ℕ). turn n h us >>= λ t. Ok (endless t)) (let n = length us in let e : 1 + n ≡ suc n = omega arith in e) ∙
      sym (ap (λ (x : Result (List Token) Told). x >>= λ rest. turn (suc (length us)) h rest >>= λ t. Ok (endless t)) (a.1 us)))
      (λ b. ap (λ (x : Result (List Token) Told). x >>= λ rest. turn (1 + length rest) h rest >>= λ t. Ok (endless t)) (b.1 us) ∙
      sym (ap (λ (x : Result (List Token) Told). x >>= λ rest. turn (suc (length us)) h rest >>= λ t. Ok (endless t)) (b.1 us)))
      (accept_both nesting t)

  abbrev after_number : ℕ → ℕ × List Token → Result StmtRead Told
  after_number left n = turn left h n.1 >>= λ t. Ok (looped n.0 t)

  number_is : (us : List Token) → (number_at_room nesting us >>= λ n. after_number (2 + length n.1) n) ≡ (number_at_room nesting us >>= λ n. after_number (suc (length us)) n)
  unfolding number_at_room
  number_is [] = refl
  number_is (Fixed s ∷ us) = refl
  number_is (Name text ∷ us) = refl
  number_is (tokens.Bad ∷ us) = refl
  number_is (Number m ∷ us) = ⊎_elim
      (λ a. ap (λ (x : Result (List Token) Told). (x >>= λ rest. Ok (m, rest)) >>= λ n. after_number (2 + length n.1) n) (a.1 us) ∙
      ap (λ (n : ℕ). after_number n (m, us)) (let n = length us in let e : 2 + n ≡ suc (suc n) = omega arith in e) ∙
      sym (ap (λ (x : Result (List Token) Told). (x >>= λ rest. Ok (m, rest)) >>= λ n. after_number (suc (suc (length us))) n) (a.1 us)))
      (λ b. ap (λ (x : Result (List Token) Told). (x >>= λ rest. Ok (m, rest)) >>= λ n. after_number (2 + length n.1) n) (b.1 us) ∙
      sym (ap (λ (x : Result (List Token) Told). (x >>= λ rest. Ok (m, rest)) >>= λ n. after_number (suc (suc (length us))) n) (b.1 us)))
      (accept_both nesting (Number m))

  counted_is : (ts : List Token) → counted_reader ts ≡ counted_with turn nesting h ts
  unfolding counted_with times_at number_at_room accept_at
  counted_is [] = refl
  counted_is (t ∷ us) = ⊎_elim
      (λ a. ap (λ (x : Result (List Token) Told). x >>= λ rest. number_at_room nesting rest >>= λ n. after_number (2 + length n.1) n) (a.1 us) ∙ number_is us ∙
      sym (ap (λ (x : Result (List Token) Told). x >>= λ rest. number_at_room nesting rest >>= λ n. after_number (suc (length us)) n) (a.1 us)))
      (λ b. ap (λ (x : Result (List Token) Told). x >>= λ rest. number_at_room nesting rest >>= λ n. after_number (2 + length n.1) n) (b.1 us) ∙
      sym (ap (λ (x : Result (List Token) Told). x >>= λ rest. number_at_room nesting rest >>= λ n. after_number (suc (length us)) n) (b.1 us)))
      (accept_both nesting t)

  counted_facts : {P : List Token → Type 0} → ((ts : List Token) → P ts → next_is Loop ts ≡ true) → Facts P (counted_lang true nesting h) (λ ts. counted_with turn nesting h ts)
  unfolding loop_note
  counted_facts is = turned (seq (word Loop nesting) (λ w. seq (number nesting) (λ n. turn_end 3))) (counted_lang true nesting h) counted_reader (λ ts. counted_with turn nesting h ts) (record {
    to = λ w. (w.1.0, w.1.1);
    spell_to = λ w rest. refl;
    notes_to = λ w. refl;
    from = λ w. (tt, (w.0, w.1));
    spell_from = λ w rest. refl;
    notes_from = λ w. refl;
    value = λ w x. x;
    oks = λ ts w x rest e. sym (counted_is ts) ∙ e;
    errs = λ ts t e. sym (counted_is ts) ∙ e;
  }) (counted_reads is)

  forever_facts : {P : List Token → Type 0} → ((ts : List Token) → P ts → next_is Forever ts ≡ true) → Facts P (forever_lang true nesting h) (λ ts. forever_with turn nesting h ts)
  unfolding loop_note
  forever_facts is = turned (seq (word Forever nesting) (λ w. turn_end 2)) (forever_lang true nesting h) forever_reader (λ ts. forever_with turn nesting h ts) (record {
    to = λ w. w.1;
    spell_to = λ w rest. refl;
    notes_to = λ w. refl;
    from = λ w. (tt, w);
    spell_from = λ w rest. refl;
    notes_from = λ w. refl;
    value = λ w x. x;
    oks = λ ts w x rest e. sym (forever_is ts) ∙ e;
    errs = λ ts t e. sym (forever_is ts) ∙ e;
  }) (forever_reads is)

  forever_other : (w : written.Block) (rest : List Token) → next_is Loop (Fixed Forever ∷ block_tokens w rest) ≡ false
  unfolding next_is
  forever_other w rest = refl

  loops_reads : {P : List Token → Type 0} → Facts P (loops_lang true nesting h) (λ ts. cond (next_is Loop ts) (counted_with turn nesting h ts) (cond (next_is Forever ts) (forever_with turn nesting h ts) (stop_at Syntax ts)))
  loops_reads =
      choose (next_is Loop) (next_same Loop) (counted_lang true nesting h) (forever_lang true nesting h) (λ ts. counted_with turn nesting h ts) (λ ts. cond (next_is Forever ts) (forever_with turn nesting h ts) (stop_at Syntax ts)) (λ w rest e. is_next Loop _) (λ w rest e. forever_other w rest)
      (counted_facts (λ ts p. p.1))
      (or_stop (next_is Forever) (next_same Forever) (forever_lang true nesting h) (λ ts. forever_with turn nesting h ts) (λ w rest. is_next Forever _) (forever_facts (λ ts p. p.1)))

  loops_facts : {P : List Token → Type 0} (place : Place) → Facts P (loops_lang (are_allowed place) nesting h) (λ ts. cond (are_allowed place) (cond (next_is Loop ts) (counted_with turn nesting h ts) (cond (next_is Forever ts) (forever_with turn nesting h ts) (stop_at Syntax ts))) (stop_at Syntax ts))
  loops_facts Allowed = loops_reads
  loops_facts Forbidden = forbidden_facts nesting h

-- A SYNC, AND THE NAMES THAT ITS RESULT IS BOUND TO

abbrev pub SyncRead : Type 0
SyncRead = (Option (List ℕ) × trees.Event) × Here × List Token

abbrev pub named_lang : Bool → ℕ → Here → Lang (Option (List ℕ) × trees.Event) SyncRead Any
named_lang loops nesting h = record {
  W = List (List ℕ) × written.Event;
  default = ([], written.Never);
  spell = λ w. stmt_tokens (written.Sync w.0 w.1);
  notes = λ w. stmt_notes loops nesting h (written.Sync w.0 w.1);
  join = λ w x rest. (x, stmt_after h (written.Sync w.0 w.1), rest);
  shape = λ w. stmt_shape (written.Sync w.0 w.1) loops nesting h;
}

module _ (event : ReadsEvent) (nesting : ℕ) (events : (h : Here) → Facts Any (event_lang nesting h) (event h)) (loops : Bool) (h : Here) where
  abbrev synced : Here → Lang (Option (List ℕ) × trees.Event) SyncRead Any
  synced g = giving (sync_lang event nesting events g) (λ w x rest. (x, after_sync event nesting events g w.1.0, rest))

  synced_facts : {P : List Token → Type 0} → Facts P (synced h) (λ ts. synced_with event nesting h ts >>= λ e. Ok ((None, e.0), e.1, e.2))
  synced_facts = give (sync_lang event nesting events h) (λ w x rest. (x, after_sync event nesting events h w.1.0, rest)) (λ ts. synced_with event nesting h ts) (λ e. ((None, e.0), e.1, e.2)) (λ w e. (None, e)) (λ w e rest. refl) (sync_facts event nesting events h)

  abbrev received_lang : Lang (Option (List ℕ) × trees.Event) SyncRead Any
  received_lang = seq (names_lang nesting h) (λ ns. seq (word Arrow nesting) (λ v. synced (names_after h (ns.0 ∷ ns.1))))

  abbrev received_reader : List Token → Result SyncRead Told
  received_reader ts = bind_names_at nesting h ts >>= λ n. expect_at nesting Arrow n.2 >>= λ rest. synced_with event nesting n.1 rest >>= λ e. Ok ((Some n.0, e.0), e.1, e.2)

  received_facts : {P : List Token → Type 0} → Facts P received_lang received_reader
  received_facts =
      bind (names_lang nesting h) (λ ns. seq (word Arrow nesting) (λ v. synced (names_after h (ns.0 ∷ ns.1)))) (λ ts. bind_names_at nesting h ts)
      (λ n. expect_at nesting Arrow n.2 >>= λ rest. synced_with event nesting n.1 rest >>= λ e. Ok ((Some n.0, e.0), e.1, e.2)) comma_looks (λ w v rest e. arrow_ends _) (names_facts nesting h)
      (λ ns x c.
      let g = names_after h (ns.0 ∷ ns.1) in
      then (word Arrow nesting) (λ v. synced g) (λ ts. expect_at nesting Arrow ts) (λ rest. synced_with event nesting g rest >>= λ e. Ok ((Some x, e.0), e.1, e.2)) (expect_facts nesting Arrow)
      (λ v y c'. give (sync_lang event nesting events g) (λ w x rest. (x, after_sync event nesting events g w.1.0, rest)) (λ ts. synced_with event nesting g ts) (λ e. ((Some x, e.0), e.1, e.2)) (λ w e. (Some x, e)) (λ w e rest. refl) (sync_facts event nesting events g)))

  abbrev sync_parts : Lang (Option (List ℕ) × trees.Event) SyncRead Any
  sync_parts = either (synced h) received_lang

  name_first : (w : received_lang.W) (rest : List Token) → next_is Sync (received_lang.spell w rest) ≡ false
  unfolding next_is
  name_first w rest = refl

  parts_facts : {P : List Token → Type 0} → Facts P sync_parts (λ ts. sync_with event nesting h ts)
  unfolding sync_with
  parts_facts = choose (next_is Sync) (next_same Sync) (synced h) received_lang (λ ts. synced_with event nesting h ts >>= λ e. Ok ((None, e.0), e.1, e.2)) received_reader (λ w rest e. is_next Sync _) (λ w rest e. name_first w rest) synced_facts received_facts

  abbrev names_in : sync_parts.W → List (List ℕ)
  names_in (inl w) = []
  names_in (inr w) = w.0.0 ∷ w.0.1

  abbrev event_in : sync_parts.W → written.Event
  event_in (inl w) = w.1.0
  event_in (inr w) = w.1.1.1.0

  abbrev from_sync : List (List ℕ) → written.Event → sync_parts.W
  from_sync [] inner = inl (tt, (inner, tt))
  from_sync (text ∷ texts) inner = inr ((text, texts), (tt, (tt, (inner, tt))))

  sync_spell_to : (w : sync_parts.W) (rest : List Token) → stmt_tokens (written.Sync (names_in w) (event_in w)) rest ≡ sync_parts.spell w rest
  sync_spell_to (inl w) rest = refl
  sync_spell_to (inr w) rest = refl

  sync_notes_to : (w : sync_parts.W) → stmt_notes loops nesting h (written.Sync (names_in w) (event_in w)) ≡ sync_parts.notes w
  unfolding stmt_notes received_notes
  sync_notes_to (inl w) = refl
  sync_notes_to (inr w) = append_assoc _ (plain nesting ∷ []) _

  sync_spell_from : (names : List (List ℕ)) (inner : written.Event) (rest : List Token) → stmt_tokens (written.Sync names inner) rest ≡ sync_parts.spell (from_sync names inner) rest
  sync_spell_from [] inner rest = refl
  sync_spell_from (text ∷ texts) inner rest = refl

  sync_notes_from : (names : List (List ℕ)) (inner : written.Event) → stmt_notes loops nesting h (written.Sync names inner) ≡ sync_parts.notes (from_sync names inner)
  unfolding stmt_notes received_notes
  sync_notes_from [] inner = refl
  sync_notes_from (text ∷ texts) inner = append_assoc _ (plain nesting ∷ []) _

  sync_joined : (names : List (List ℕ)) (inner : written.Event) (x : Option (List ℕ) × trees.Event) (rest : List Token) → sync_parts.join (from_sync names inner) x rest ≡ (x, stmt_after h (written.Sync names inner), rest)
  unfolding stmt_after
  sync_joined [] inner x rest = refl
  sync_joined (text ∷ texts) inner x rest = refl

  pub named_facts : {P : List Token → Type 0} → Facts P (named_lang loops nesting h) (λ ts. sync_with event nesting h ts)
  named_facts = turned sync_parts (named_lang loops nesting h) (λ ts. sync_with event nesting h ts) (λ ts. sync_with event nesting h ts) (record {
    to = λ w. (names_in w, event_in w);
    spell_to = sync_spell_to;
    notes_to = sync_notes_to;
    from = λ w. from_sync w.0 w.1;
    spell_from = λ w rest. sync_spell_from w.0 w.1 rest;
    notes_from = λ w. sync_notes_from w.0 w.1;
    value = λ w x. x;
    oks = λ ts w x rest e. e ∙ ap (λ (y : SyncRead). Ok y) (sync_joined w.0 w.1 x rest);
    errs = λ ts t e. e;
  }) parts_facts

-- STATEMENTS WITH OTHERS INSIDE

begins_sync : List Token → Bool
begins_sync ts = is_some (name_at ts) || next_is Sync ts

begins_looks : LooksInFront begins_sync
unfolding begins_sync
begins_looks a b h = ap₂ (λ (x y : Bool). x || y) (name_looks a b h) (next_same Sync a b h)

begins_named : (names : List (List ℕ)) (event : written.Event) (rest : List Token) → begins_sync (stmt_tokens (written.Sync names event) rest) ≡ true
unfolding begins_sync next_is
begins_named [] event rest = refl
begins_named (text ∷ texts) event rest = refl

module _ (event : ReadsEvent) (block : ReadsBlock) (turn : ReadsTurn) (nesting : ℕ) (place : Place) (events : (h : Here) → Facts Any (event_lang nesting h) (event h))
    (blocks : (h : Here) → Facts Any (block_lang (are_allowed place) nesting h) (block place h)) (h : Here) (turns : (k : ℕ) → Facts Any (turn_lang (suc k) nesting h) (λ us. turn (k + length us) h us)) where
  abbrev loops : Bool
  loops = are_allowed place

  abbrev second_lang : Here → Lang trees.Stmt StmtRead Any
  second_lang g = giving (block_lang loops nesting g) (λ w x rest. (x, block_after g w, rest))

  abbrev branch_lang : Lang trees.Stmt StmtRead Any
  branch_lang = seq (word If nesting) (λ w. seq (test_lang nesting h) (λ t. seq (block_lang loops nesting h) (λ b. seq (word Else nesting) (λ v. second_lang (block_after h b)))))

  branch_facts : {P : List Token → Type 0} → ((ts : List Token) → P ts → next_is If ts ≡ true) → Facts P branch_lang (λ ts. branch_with block nesting place h ts)
  unfolding branch_with
  branch_facts is =
      then (word If nesting) (λ w. seq (test_lang nesting h) (λ t. seq (block_lang loops nesting h) (λ b. seq (word Else nesting) (λ v. second_lang (block_after h b))))) (λ ts. accept_at nesting ts)
      (λ rest. test_at nesting h rest >>= λ t. block place h t.1 >>= λ y. expect_at nesting Else y.2 >>= λ rest. block place y.1 rest >>= λ n. Ok (trees.Branches t.0 y.0 n.0, n.1, n.2)) (accept_facts nesting If is)
      (λ w x c. bind (test_lang nesting h) (λ t. seq (block_lang loops nesting h) (λ b. seq (word Else nesting) (λ v. second_lang (block_after h b)))) (λ ts. test_at nesting h ts)
      (λ t. block place h t.1 >>= λ y. expect_at nesting Else y.2 >>= λ rest. block place y.1 rest >>= λ n. Ok (trees.Branches t.0 y.0 n.0, n.1, n.2)) sign_ends (λ a b rest e. brace_ends _) (test_facts nesting h)
      (λ t y c'.
      under (seq (block_lang loops nesting h) (λ b. seq (word Else nesting) (λ v. second_lang (block_after h b)))) _ (λ ts p. tt)
      (then (block_lang loops nesting h) (λ b. seq (word Else nesting) (λ v. second_lang (block_after h b))) (block place h) (λ b. expect_at nesting Else b.2 >>= λ rest. block place b.1 rest >>= λ n. Ok (trees.Branches y b.0 n.0, n.1, n.2)) (blocks h)
      (λ b z i.
      let g = block_after h b in
      then (word Else nesting) (λ v. second_lang g) (λ ts. expect_at nesting Else ts) (λ rest. block place g rest >>= λ n. Ok (trees.Branches y z n.0, n.1, n.2)) (expect_facts nesting Else)
      (λ v u k. give (block_lang loops nesting g) (λ w x rest. (x, block_after g w, rest)) (block place g) (λ n. (trees.Branches y z n.0, n.1, n.2)) (λ w n. trees.Branches y z n) (λ w n rest. refl) (blocks g))))))

  abbrev sync_stmt : Lang trees.Stmt StmtRead Any
  sync_stmt = giving (named_lang loops nesting h) (λ w x rest. (x, stmt_after h (written.Sync w.0 w.1), rest))

  sync_stmt_facts : {P : List Token → Type 0} → Facts P sync_stmt (λ ts. sync_with event nesting h ts >>= λ s. Ok (trees.Syncs s.0.0 s.0.1, s.1, s.2))
  sync_stmt_facts =
      give (named_lang loops nesting h) (λ w x rest. (x, stmt_after h (written.Sync w.0 w.1), rest)) (λ ts. sync_with event nesting h ts) (λ s. (trees.Syncs s.0.0 s.0.1, s.1, s.2)) (λ w s. trees.Syncs s.0 s.1) (λ w s rest. refl)
      (named_facts event nesting events loops h)

  -- ONE OF ALL

  abbrev langs5 : Lang trees.Stmt StmtRead Any
  langs5 = either (spawn_lang nesting h) (loops_lang loops nesting h)

  abbrev langs4 : Lang trees.Stmt StmtRead Any
  langs4 = either (end_lang nesting h) langs5

  abbrev langs3 : Lang trees.Stmt StmtRead Any
  langs3 = either branch_lang langs4

  abbrev langs2 : Lang trees.Stmt StmtRead Any
  langs2 = either (print_lang nesting h) langs3

  abbrev langs1 : Lang trees.Stmt StmtRead Any
  langs1 = either (let_lang nesting h) langs2

  abbrev langs0 : Lang trees.Stmt StmtRead Any
  langs0 = either sync_stmt langs1

  abbrev reader6 : List Token → Result StmtRead Told
  reader6 ts = cond (are_allowed place) (cond (next_is Loop ts) (counted_with turn nesting h ts) (cond (next_is Forever ts) (forever_with turn nesting h ts) (stop_at Syntax ts))) (stop_at Syntax ts)

  abbrev reader5 : List Token → Result StmtRead Told
  reader5 ts = cond (next_is Spawn ts) (spawn_at nesting h ts) (reader6 ts)

  abbrev reader4 : List Token → Result StmtRead Told
  reader4 ts = cond (next_is End ts) (end_at nesting ts >>= λ s. Ok (s.0, h, s.1)) (reader5 ts)

  abbrev reader3 : List Token → Result StmtRead Told
  reader3 ts = cond (next_is If ts) (branch_with block nesting place h ts) (reader4 ts)

  abbrev reader2 : List Token → Result StmtRead Told
  reader2 ts = cond (next_is Print ts) (print_at nesting h ts >>= λ s. Ok (s.0, h, s.1)) (reader3 ts)

  abbrev reader1 : List Token → Result StmtRead Told
  reader1 ts = cond (next_is Let ts) (let_at nesting h ts) (reader2 ts)

  abbrev reader0 : List Token → Result StmtRead Told
  reader0 ts = cond (is_some (name_at ts) || next_is Sync ts) (sync_with event nesting h ts >>= λ s. Ok (trees.Syncs s.0.0 s.0.1, s.1, s.2)) (reader1 ts)

  others0 : (w : (langs1).W) (rest : List Token) → begins_sync ((langs1).spell w rest) ≡ false
  unfolding begins_sync next_is
  others0 = neither begins_sync (let_lang nesting h) langs2 (λ w rest. refl) (neither begins_sync (print_lang nesting h) langs3 (λ w rest. refl) (neither begins_sync branch_lang langs4 (λ w rest. refl) (neither begins_sync (end_lang nesting h) langs5 (λ w rest. refl) (neither begins_sync (spawn_lang nesting h) (loops_lang loops nesting h) (λ w rest. refl) (neither begins_sync (counted_lang loops nesting h) (forever_lang loops nesting h) (λ w rest. refl) (λ w rest. refl))))))

  others1 : (w : (langs2).W) (rest : List Token) → next_is Let ((langs2).spell w rest) ≡ false
  unfolding next_is
  others1 = neither (next_is Let) (print_lang nesting h) langs3 (λ w rest. refl) (neither (next_is Let) branch_lang langs4 (λ w rest. refl) (neither (next_is Let) (end_lang nesting h) langs5 (λ w rest. refl) (neither (next_is Let) (spawn_lang nesting h) (loops_lang loops nesting h) (λ w rest. refl) (neither (next_is Let) (counted_lang loops nesting h) (forever_lang loops nesting h) (λ w rest. refl) (λ w rest. refl)))))

  others2 : (w : (langs3).W) (rest : List Token) → next_is Print ((langs3).spell w rest) ≡ false
  unfolding next_is
  others2 = neither (next_is Print) branch_lang langs4 (λ w rest. refl) (neither (next_is Print) (end_lang nesting h) langs5 (λ w rest. refl) (neither (next_is Print) (spawn_lang nesting h) (loops_lang loops nesting h) (λ w rest. refl) (neither (next_is Print) (counted_lang loops nesting h) (forever_lang loops nesting h) (λ w rest. refl) (λ w rest. refl))))

  others3 : (w : (langs4).W) (rest : List Token) → next_is If ((langs4).spell w rest) ≡ false
  unfolding next_is
  others3 = neither (next_is If) (end_lang nesting h) langs5 (λ w rest. refl) (neither (next_is If) (spawn_lang nesting h) (loops_lang loops nesting h) (λ w rest. refl) (neither (next_is If) (counted_lang loops nesting h) (forever_lang loops nesting h) (λ w rest. refl) (λ w rest. refl)))

  others4 : (w : (langs5).W) (rest : List Token) → next_is End ((langs5).spell w rest) ≡ false
  unfolding next_is
  others4 = neither (next_is End) (spawn_lang nesting h) (loops_lang loops nesting h) (λ w rest. refl) (neither (next_is End) (counted_lang loops nesting h) (forever_lang loops nesting h) (λ w rest. refl) (λ w rest. refl))

  others5 : (w : ((loops_lang loops nesting h)).W) (rest : List Token) → next_is Spawn (((loops_lang loops nesting h)).spell w rest) ≡ false
  unfolding next_is
  others5 = neither (next_is Spawn) (counted_lang loops nesting h) (forever_lang loops nesting h) (λ w rest. refl) (λ w rest. refl)

  reads6 : {P : List Token → Type 0} → Facts P (loops_lang loops nesting h) reader6
  reads6 = loops_facts turn nesting h turns place

  reads5 : {P : List Token → Type 0} → Facts P langs5 reader5
  reads5 = choose (next_is Spawn) (next_same Spawn) (spawn_lang nesting h) (loops_lang loops nesting h) (λ ts. spawn_at nesting h ts) reader6 (λ w rest e. is_next Spawn _) (λ w rest e. others5 w rest) (spawn_facts nesting h (λ ts p. p.1)) reads6

  reads4 : {P : List Token → Type 0} → Facts P langs4 reader4
  reads4 = choose (next_is End) (next_same End) (end_lang nesting h) langs5 (λ ts. end_at nesting ts >>= λ s. Ok (s.0, h, s.1)) reader5 (λ w rest e. is_next End _) (λ w rest e. others4 w rest) (end_facts nesting h (λ ts p. p.1)) reads5

  reads3 : {P : List Token → Type 0} → Facts P langs3 reader3
  reads3 = choose (next_is If) (next_same If) branch_lang langs4 (λ ts. branch_with block nesting place h ts) reader4 (λ w rest e. is_next If _) (λ w rest e. others3 w rest) (branch_facts (λ ts p. p.1)) reads4

  reads2 : {P : List Token → Type 0} → Facts P langs2 reader2
  reads2 = choose (next_is Print) (next_same Print) (print_lang nesting h) langs3 (λ ts. print_at nesting h ts >>= λ s. Ok (s.0, h, s.1)) reader3 (λ w rest e. is_next Print _) (λ w rest e. others2 w rest) (print_facts nesting h (λ ts p. p.1)) reads3

  reads1 : {P : List Token → Type 0} → Facts P langs1 reader1
  reads1 = choose (next_is Let) (next_same Let) (let_lang nesting h) langs2 (λ ts. let_at nesting h ts) reader2 (λ w rest e. is_next Let _) (λ w rest e. others1 w rest) (let_facts nesting h (λ ts p. p.1)) reads2

  reads0 : {P : List Token → Type 0} → Facts P langs0 reader0
  unfolding begins_sync
  reads0 = choose begins_sync begins_looks sync_stmt langs1 (λ ts. sync_with event nesting h ts >>= λ s. Ok (trees.Syncs s.0.0 s.0.1, s.1, s.2)) reader1 (λ w rest e. begins_named w.0 w.1 rest) (λ w rest e. others0 w rest) sync_stmt_facts reads1

  abbrev to_stmt : langs0.W → written.Stmt
  to_stmt (inl w) = written.Sync w.0 w.1
  to_stmt (inr (inl w)) = written.Let w.1.0 w.1.1.1.0
  to_stmt (inr (inr (inl w))) = written.Print w.1.0
  to_stmt (inr (inr (inr (inl w)))) = written.If w.1.0 w.1.1.0 w.1.1.1.1
  to_stmt (inr (inr (inr (inr (inl w))))) = written.End
  to_stmt (inr (inr (inr (inr (inr (inl w)))))) = written.Spawn w.1.0
  to_stmt (inr (inr (inr (inr (inr (inr (inl w))))))) = written.Loop w.0 w.1
  to_stmt (inr (inr (inr (inr (inr (inr (inr w))))))) = written.Forever w

  abbrev from_stmt : written.Stmt → langs0.W
  from_stmt (written.Let name value) = inr (inl (tt, (name, (tt, (value, tt)))))
  from_stmt (written.Print value) = inr (inr (inl (tt, (value, tt))))
  from_stmt (written.Sync names inner) = inl (names, inner)
  from_stmt (written.If test first second) = inr (inr (inr (inl (tt, (test, (first, (tt, second)))))))
  from_stmt (written.Loop times body') = inr (inr (inr (inr (inr (inr (inl (times, body')))))))
  from_stmt (written.Forever body') = inr (inr (inr (inr (inr (inr (inr body'))))))
  from_stmt written.End = inr (inr (inr (inr (inl (tt, tt)))))
  from_stmt (written.Spawn process) = inr (inr (inr (inr (inr (inl (tt, (process, tt)))))))

  stmt_spell_to : (w : langs0.W) (rest : List Token) → stmt_tokens (to_stmt w) rest ≡ langs0.spell w rest
  stmt_spell_to (inl w) rest = refl
  stmt_spell_to (inr (inl w)) rest = refl
  stmt_spell_to (inr (inr (inl w))) rest = refl
  stmt_spell_to (inr (inr (inr (inl w)))) rest = refl
  stmt_spell_to (inr (inr (inr (inr (inl w))))) rest = refl
  stmt_spell_to (inr (inr (inr (inr (inr (inl w)))))) rest = refl
  stmt_spell_to (inr (inr (inr (inr (inr (inr (inl w))))))) rest = refl
  stmt_spell_to (inr (inr (inr (inr (inr (inr (inr w))))))) rest = refl

  stmt_notes_to : (w : langs0.W) → stmt_notes loops nesting h (to_stmt w) ≡ langs0.notes w
  unfolding stmt_notes
  stmt_notes_to (inl w) = refl
  stmt_notes_to (inr (inl w)) = refl
  stmt_notes_to (inr (inr (inl w))) = refl
  stmt_notes_to (inr (inr (inr (inl w)))) = refl
  stmt_notes_to (inr (inr (inr (inr (inl w))))) = refl
  stmt_notes_to (inr (inr (inr (inr (inr (inl w)))))) = refl
  stmt_notes_to (inr (inr (inr (inr (inr (inr (inl w))))))) = refl
  stmt_notes_to (inr (inr (inr (inr (inr (inr (inr w))))))) = refl

  stmt_spell_from : (w : written.Stmt) (rest : List Token) → stmt_tokens w rest ≡ langs0.spell (from_stmt w) rest
  stmt_spell_from (written.Let name value) rest = refl
  stmt_spell_from (written.Print value) rest = refl
  stmt_spell_from (written.Sync names inner) rest = refl
  stmt_spell_from (written.If test first second) rest = refl
  stmt_spell_from (written.Loop times body') rest = refl
  stmt_spell_from (written.Forever body') rest = refl
  stmt_spell_from written.End rest = refl
  stmt_spell_from (written.Spawn process) rest = refl

  stmt_notes_from : (w : written.Stmt) → stmt_notes loops nesting h w ≡ langs0.notes (from_stmt w)
  unfolding stmt_notes
  stmt_notes_from (written.Let name value) = refl
  stmt_notes_from (written.Print value) = refl
  stmt_notes_from (written.Sync names inner) = refl
  stmt_notes_from (written.If test first second) = refl
  stmt_notes_from (written.Loop times body') = refl
  stmt_notes_from (written.Forever body') = refl
  stmt_notes_from written.End = refl
  stmt_notes_from (written.Spawn process) = refl

  stmt_joined : (w : written.Stmt) (x : trees.Stmt) (rest : List Token) → langs0.join (from_stmt w) x rest ≡ (x, stmt_after h w, rest)
  unfolding stmt_after
  stmt_joined (written.Let name value) x rest = refl
  stmt_joined (written.Print value) x rest = refl
  stmt_joined (written.Sync names inner) x rest = refl
  stmt_joined (written.If test first second) x rest = refl
  stmt_joined (written.Loop times body') x rest = refl
  stmt_joined (written.Forever body') x rest = refl
  stmt_joined written.End x rest = refl
  stmt_joined (written.Spawn process) x rest = refl

  pub stmt_facts : Facts Any (stmt_lang loops nesting h) (λ ts. stmt_with event block turn nesting place h ts)
  unfolding stmt_with
  stmt_facts = turned langs0 (stmt_lang loops nesting h) reader0 (λ ts. stmt_with event block turn nesting place h ts) (record {
    to = to_stmt;
    spell_to = stmt_spell_to;
    notes_to = stmt_notes_to;
    from = from_stmt;
    spell_from = stmt_spell_from;
    notes_from = stmt_notes_from;
    value = λ w x. x;
    oks = λ ts w x rest e. e ∙ ap (λ (y : StmtRead). Ok y) (stmt_joined w x rest);
    errs = λ ts t e. e;
  }) reads0

-- STATEMENTS UP TO THE CLOSING BRACE

abbrev pub body_lang : {Z : Type 0} → Bool → ℕ → Here → Lang Z (Z × Here × List Token) Any
body_lang loops r h = record { W = written.Block; default = written.Done; spell = body_tokens; notes = body_notes loops r h; join = λ w x rest. (x, block_after h w, rest); shape = λ w. body_shape w loops r h }

stmt_more : List Token → Bool
stmt_more ts = cond (next_is CloseBrace ts) false true

module _ (stmt : ReadsStmt) (r : ℕ) (place : Place) (stmts : (h : Here) → Facts Any (stmt_lang (are_allowed place) r h) (stmt place h)) (ends : (h : Here) → stmt place h [] ≡ Err (Syntax, 0)) where
  abbrev allowed : Bool
  allowed = are_allowed place

  abbrev StmtsRead : Type 0
  StmtsRead = List trees.Stmt × Here × List Token

  more_looks : (a b : List Token) → SameFront a b → stmt_more a ≡ stmt_more b
  unfolding stmt_more
  more_looks a b h = ap (λ (x : Bool). cond x false true) (next_same CloseBrace a b h)

  abbrev stmts_at : List trees.Stmt → Here → List Token → StmtsRead
  stmts_at x h ts = (x, h, ts)

  abbrev next_stmt : List trees.Stmt → Here → List Token → Result StmtsRead Told
  next_stmt x h ts = stmt place h ts >>= λ y. Ok (x ++ y.0 ∷ [], y.1, y.2)

  stmts_stepped : (x : List trees.Stmt) (h : Here) (ts : List Token) → stmt_step stmt place (stmts_at x h ts) ≡ cond (stmt_more ts) (Some (next_stmt x h ts)) None
  unfolding stmt_more
  stmts_stepped x h ts = at_close (next_is CloseBrace ts) (next_stmt x h ts)
    where
      at_close : (b : Bool) (y : Result StmtsRead Told) → ◌≡◌ {A = Option (Result StmtsRead Told)} (cond b None (Some y)) (cond (cond b false true) (Some y) None)
      at_close true y = refl
      at_close false y = refl

  stmt_starts : (w : written.Stmt) (rest : List Token) → stmt_more (stmt_tokens w rest) ≡ true
  unfolding stmt_more next_is
  stmt_starts (written.Let name value) rest = refl
  stmt_starts (written.Print value) rest = refl
  stmt_starts (written.Sync [] inner) rest = refl
  stmt_starts (written.Sync (text ∷ texts) inner) rest = refl
  stmt_starts (written.If test first second) rest = refl
  stmt_starts (written.Loop times inner) rest = refl
  stmt_starts (written.Forever inner) rest = refl
  stmt_starts written.End rest = refl
  stmt_starts (written.Spawn process) rest = refl

  one_behind : (a b : List Note) (n : Note) → 1 ≤ length (a ++ n ∷ b)
  one_behind a b n = (let e = length-append a (n ∷ b) in omega (arith, e))

  two_behind : (n : Note) (a b : List Note) → 1 ≤ length a → 2 ≤ length ((n ∷ a) ++ b)
  two_behind n a b h = (let e = length-append a b in omega (arith, e, h))

  stmt_long : (h : Here) (w : written.Stmt) → 2 ≤ length (stmt_notes allowed r h w)
  unfolding stmt_notes received_notes names_notes
  stmt_long h (written.Let name value) = omega arith
  stmt_long h (written.Print value) = (let e = one_behind (expr_notes r h value) [] (plain r) in omega (arith, e))
  stmt_long h (written.Sync [] inner) = (let e = one_behind (event_notes r (uncounted h) inner) [] (plain r) in omega (arith, e))
  stmt_long h (written.Sync (text ∷ texts) inner) = two_behind (bind_note r [] h text) (more_names_notes r ((bound h text).0 ∷ []) (bound h text).1 texts ++ plain r ∷ []) (plain r ∷ (event_notes r (uncounted (names_after h (text ∷ texts))) inner ++ plain r ∷ []))
      (one_behind (more_names_notes r ((bound h text).0 ∷ []) (bound h text).1 texts) [] (plain r))
  stmt_long h (written.If test first second) = (let e = one_behind (test_notes r h test) (body_notes allowed (r - 1) h first ++ (plain r ∷ (plain r ∷ body_notes allowed (r - 1) (block_after h first) second))) (plain r) in omega (arith, e))
  stmt_long h (written.Loop times inner) = omega arith
  stmt_long h (written.Forever inner) = omega arith
  stmt_long h written.End = omega arith
  stmt_long h (written.Spawn process) = omega arith

  abbrev one_stmt : Here → Lang (List trees.Stmt) StmtsRead Any
  one_stmt h = giving (stmt_lang allowed r h) (λ w x ts. (x, stmt_after h w, ts))

  one_facts : (x : List trees.Stmt) (h : Here) → Facts (λ ts. stmt_more ts ≡ true) (one_stmt h) (next_stmt x h)
  one_facts x h = under (one_stmt h) (next_stmt x h) (λ ts p. tt) (give (stmt_lang allowed r h) (λ w x ts. (x, stmt_after h w, ts)) (stmt place h) (λ y. (x ++ y.0 ∷ [], y.1, y.2)) (λ w e. x ++ e ∷ []) (λ w e rest. refl) (stmts h))

  abbrev stmts_shape : (h : Here) (w : written.Stmt) → Shape (stmt_tokens w) (stmt_notes allowed r h w)
  stmts_shape h w = stmt_shape w allowed r h

  abbrev stmts_lang : Here → Lang (List trees.Stmt) StmtsRead (λ rest. stmt_more rest ≡ false)
  stmts_lang h = all_lang stmts_at stmt_tokens (stmt_notes allowed r) stmt_after written.End stmts_shape stmt_more more_looks (stmt_step stmt place) next_stmt stmts_stepped stmt_starts stmt_long h

  abbrev stmts_reader : Here → List Token → Result StmtsRead Told
  stmts_reader h ts = repeated (stmt_step stmt place) (suc (length ts)) ([], h, ts)

  stmts_read : {P : List Token → Type 0} (h : Here) → Facts P (stmts_lang h) (stmts_reader h)
  stmts_read h = all_facts stmts_at stmt_tokens (stmt_notes allowed r) stmt_after written.End stmts_shape stmt_more more_looks (stmt_step stmt place) next_stmt stmts_stepped stmt_starts stmt_long one_facts [] h

  stmts_same : (n m : ℕ) (ts : List Token) (h : Here) → length ts < n + n → length ts < m + m → repeated (stmt_step stmt place) n ([], h, ts) ≡ repeated (stmt_step stmt place) m ([], h, ts)
  stmts_same n m ts h = same_steps stmts_at stmt_tokens (stmt_notes allowed r) stmt_after written.End stmts_shape stmt_more more_looks (stmt_step stmt place) next_stmt stmts_stepped stmt_starts stmt_long one_facts n m ts [] h

  module _ {Z : Type 0} (done : trees.Block → Z) where
    abbrev close_with : StmtsRead → Result (Z × Here × List Token) Told
    close_with s = expect_at r CloseBrace s.2 >>= λ rest. Ok (done (body s.0), s.1, rest)

    abbrev closing : Here → Lang Z (Z × Here × List Token) Any
    closing g = giving (word CloseBrace r) (λ w x rest. (x, g, rest))

    close_over : (rest : List Token) → stmt_more (Fixed CloseBrace ∷ rest) ≡ false
    unfolding stmt_more next_is
    close_over rest = refl

    over_looks : (a b : List Token) → SameFront a b → stmt_more a ≡ false → stmt_more b ≡ false
    over_looks a b h e = sym (more_looks a b h) ∙ e

    body_reads : (h : Here) → Facts Any (seq (stmts_lang h) (λ w. closing (after_all stmt_after h w))) (λ ts. stmts_reader h ts >>= close_with)
    body_reads h =
        bind (stmts_lang h) (λ w. closing (after_all stmt_after h w)) (stmts_reader h) close_with over_looks (λ w v rest e. close_over rest) (stmts_read h)
        (λ w x c. let g = after_all stmt_after h w in give (word CloseBrace r) (λ w x rest. (x, g, rest)) (λ ts. expect_at r CloseBrace ts) (λ rest. (done (body x), g, rest)) (λ w u. done (body x)) (λ w u rest. refl) (expect_facts r CloseBrace))

    body_is : (h : Here) (ts : List Token) → (stmts_reader h ts >>= close_with) ≡ (stmts_with stmt place h ts >>= close_with)
    unfolding stmts_with repeated expect_at next_is
    body_is h [] = ap (λ (y : Result (trees.Stmt × Here × List Token) Told). ((◌>>=◌ {B = StmtsRead} y (λ x. Ok (x.0 ∷ [], x.1, x.2))) >>= λ s. Ok s) >>= close_with) (ends h)
    body_is h (t ∷ us) = (let n = length us in ap (λ (x : Result StmtsRead Told). x >>= close_with) (stmts_same (suc (suc n)) (suc n) (t ∷ us) h (omega arith) (omega arith)))

    abbrev to_body : List written.Stmt → written.Block
    to_body [] = written.Done
    to_body (w ∷ ws) = written.Then w (to_body ws)

    abbrev from_body : written.Block → List written.Stmt
    from_body written.Done = []
    from_body (written.Then w ws) = w ∷ from_body ws

    body_spell_to : (ws : List written.Stmt) (rest : List Token) → body_tokens (to_body ws) rest ≡ spell_all stmt_tokens ws (Fixed CloseBrace ∷ rest)
    body_spell_to [] rest = refl
    body_spell_to (w ∷ ws) rest = ap (stmt_tokens w) (body_spell_to ws rest)

    body_notes_to : (ws : List written.Stmt) (h : Here) → body_notes allowed r h (to_body ws) ≡ notes_all (stmt_notes allowed r) stmt_after h ws ++ plain r ∷ []
    unfolding body_notes
    body_notes_to [] h = refl
    body_notes_to (w ∷ ws) h = ap (λ (x : List Note). stmt_notes allowed r h w ++ x) (body_notes_to ws (stmt_after h w)) ∙ sym (append_assoc (stmt_notes allowed r h w) _ (plain r ∷ []))

    body_spell_from : (b : written.Block) (rest : List Token) → body_tokens b rest ≡ spell_all stmt_tokens (from_body b) (Fixed CloseBrace ∷ rest)
    body_spell_from written.Done rest = refl
    body_spell_from (written.Then w ws) rest = ap (stmt_tokens w) (body_spell_from ws rest)

    body_notes_from : (b : written.Block) (h : Here) → body_notes allowed r h b ≡ notes_all (stmt_notes allowed r) stmt_after h (from_body b) ++ plain r ∷ []
    unfolding body_notes
    body_notes_from written.Done h = refl
    body_notes_from (written.Then w ws) h = ap (λ (x : List Note). stmt_notes allowed r h w ++ x) (body_notes_from ws (stmt_after h w)) ∙ sym (append_assoc (stmt_notes allowed r h w) _ (plain r ∷ []))

    body_joined : (b : written.Block) (h : Here) → after_all stmt_after h (from_body b) ≡ block_after h b
    unfolding block_after
    body_joined written.Done h = refl
    body_joined (written.Then w ws) h = body_joined ws (stmt_after h w)

    pub body_facts : (h : Here) → Facts Any (body_lang allowed r h) (λ ts. stmts_with stmt place h ts >>= close_with)
    body_facts h = turned (seq (stmts_lang h) (λ w. closing (after_all stmt_after h w))) (body_lang allowed r h) (λ ts. stmts_reader h ts >>= close_with) (λ ts. stmts_with stmt place h ts >>= close_with) (record {
      to = λ w. to_body w.0;
      spell_to = λ w rest. body_spell_to w.0 rest;
      notes_to = λ w. body_notes_to w.0 h;
      from = λ w. (from_body w, tt);
      spell_from = λ w rest. body_spell_from w rest;
      notes_from = λ w. body_notes_from w h;
      value = λ w x. x;
      oks = λ ts w x rest e. sym (body_is h ts) ∙ e ∙ ap (λ (g : Here). Ok (x, g, rest)) (body_joined w h);
      errs = λ ts t e. sym (body_is h ts) ∙ e;
    }) (body_reads h)
