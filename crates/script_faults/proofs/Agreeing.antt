-- The notes of what is written are told where they say: at their own token, or at the word of a loop.
use Rattle.std.proofs.Common.{inl, inr, ℕ, ◌-◌, Bool, true, false, List, [], ◌∷◌, ◌++◌, Some, None, refl, leb}
use Rattle.script_token.specs.Tokens.{Token, Fixed, Name, Number}
use Rattle.script_token.specs.declared.kind.Symbol.TheVariants.{Let, Print, Sync, If, Else, Loop, Forever, End, Send, Recv, Always, Never, Cancelled, Choose, Wrap, As, To, Guard, Nack, Spawn, Joined, Semicolon, Comma, OpenBrace, CloseBrace, OpenBracket, CloseBracket, Equal, Arrow}
use Rattle.script_reader.specs.Steps.{Here, bound}
use Rattle.script_reader.specs.declared.fault.Problem.{Problem}
use Rattle.script_reader.specs.declared.fault.Problem.TheVariants.{Syntax, TooMany, LoopWithoutSync}
use Rattle.script_grammar.specs.Written as written
use Rattle.script_grammar.specs.Written.{Expr, Test, expr_tokens, test_tokens, list_tokens, more_names_tokens, as_tokens, received_tokens, event_tokens, events_tokens, more_events_tokens, stmt_tokens, body_tokens, block_tokens}
use Rattle.script_faults.specs.Notes.{Note, also, plain, expr_notes, test_notes, list_notes, names_after, names_notes}
use Rattle.script_faults.specs.BlockNotes.{base_note, nack_note, loop_note, as_notes, received_notes, one_base, one_nack, uncounted, event_after, stmt_after, block_after, begins_with_sync, if_no_sync, event_notes, events_notes, more_events_notes, stmt_notes, body_notes, block_notes}
use Rattle.script_faults.proofs.Places.{NoteIs, Agree, Agrees, IsHere, agrees_none, agrees_seq, here_agrees, either_here, plain_here, read_here, process_here, spawn_here, bind_here, expr_here, test_here, list_here, names_here}
use Rattle.script_faults.proofs.Exprs.{expr_shape}
use Rattle.script_faults.proofs.Lists.{test_shape, list_shape}
use Rattle.script_faults.proofs.NameLists.{names_shape}

-- PHRASES

pub expr_agrees : (e : Expr) (nesting : ℕ) (h : Here) → Agrees (expr_tokens e) (expr_notes nesting h e)
expr_agrees e nesting h = here_agrees (expr_tokens e) _ (expr_shape e nesting h) (expr_here e nesting h)

pub test_agrees : (t : Test) (nesting : ℕ) (h : Here) → Agrees (test_tokens t) (test_notes nesting h t)
test_agrees t nesting h = here_agrees (test_tokens t) _ (test_shape t nesting h) (test_here t nesting h)

pub list_agrees : (es : List Expr) (nesting : ℕ) (h : Here) → Agrees (list_tokens es) (list_notes nesting h es)
list_agrees es nesting h = here_agrees (list_tokens es) _ (list_shape es nesting h) (list_here es nesting h)

pub names_agrees : (text : List ℕ) (texts : List (List ℕ)) (nesting : ℕ) (h : Here) → Agrees (λ rest. Name text ∷ more_names_tokens texts rest) (names_notes nesting h text texts)
names_agrees text texts nesting h = here_agrees (λ rest. Name text ∷ more_names_tokens texts rest) _ (names_shape text texts nesting h) (names_here text texts nesting h)

-- SINGLE TOKENS

one : (t : Token) (note : Note) → IsHere note → Agrees (λ r. t ∷ r) (note ∷ [])
one t note h = record { agree = λ prior rest others k. (h prior, k (t ∷ prior)) }

-- a token in front
pub front : (t : Token) (note : Note) (spell : List Token → List Token) (notes : List Note) → IsHere note → Agrees spell notes → Agrees (λ r. t ∷ spell r) (note ∷ notes)
front t note spell notes h a = record { agree = λ prior rest others k. (h prior, a.agree (t ∷ prior) rest others k) }

-- a token behind
last : (t : Token) (note : Note) (spell : List Token → List Token) (notes : List Note) → IsHere note → Agrees spell notes → Agrees (λ r. spell (t ∷ r)) (notes ++ note ∷ [])
last t note spell notes h a = agrees_seq spell (λ r. t ∷ r) notes (note ∷ []) a (one t note h)

base_here : (nesting : ℕ) (h : Here) → IsHere (base_note nesting h)
unfolding base_note
base_here nesting h = either_here (leb 8 h.counts.bases) (Some (TooMany, 0)) (plain nesting) (λ prior. refl) (plain_here nesting)

nack_here : (nesting : ℕ) (h : Here) → IsHere (nack_note nesting h)
unfolding nack_note
nack_here nesting h = either_here (leb 4 h.counts.nacks) (Some (TooMany, 0)) (plain nesting) (λ prior. refl) (plain_here nesting)

loop_here : (loops : Bool) (nesting : ℕ) → IsHere (loop_note loops nesting)
unfolding loop_note
loop_here loops nesting = either_here loops (plain nesting) (Some (Syntax, 0)) (plain_here nesting) (λ prior. refl)

as_agrees : (names : List (List ℕ)) (nesting : ℕ) (h : Here) → Agrees (λ r. as_tokens names (Fixed To ∷ r)) (as_notes nesting h names)
unfolding as_notes
as_agrees [] nesting h = one (Fixed To) _ (plain_here nesting)
as_agrees (text ∷ texts) nesting h = front (Fixed As) _ _ _ (plain_here nesting) (last (Fixed To) _ (λ r. Name text ∷ more_names_tokens texts r) _ (plain_here nesting) (names_agrees text texts nesting h))

received_agrees : (names : List (List ℕ)) (nesting : ℕ) (h : Here) → Agrees (received_tokens names) (received_notes nesting h names)
unfolding received_notes
received_agrees [] nesting h = agrees_none
received_agrees (text ∷ texts) nesting h = last (Fixed Arrow) _ (λ r. Name text ∷ more_names_tokens texts r) _ (plain_here nesting) (names_agrees text texts nesting h)

-- LOOPS

also_agree : (p : Problem × ℕ) (prior ts : List Token) (notes others : List Note) → NoteIs prior (Some p) → Agree prior ts (notes ++ others) → Agree prior ts (also p notes ++ others)
also_agree p prior ts [] others h a = a
also_agree p prior [] (n ∷ notes) others h a = absurd a
also_agree p prior (t ∷ ts) (None ∷ notes) others h a = (h, a.1)
also_agree p prior (t ∷ ts) (Some q ∷ notes) others h a = a

turn_agree : (b : Bool) (back : ℕ) (prior ts : List Token) (notes others : List Note) → NoteIs prior (Some (LoopWithoutSync, back)) → Agree prior ts (notes ++ others) → Agree prior ts (if_no_sync b back notes ++ others)
turn_agree true back prior ts notes others h a = a
turn_agree false back prior ts notes others h a = also_agree (LoopWithoutSync, back) prior ts notes others h a

-- EVENTS, STATEMENTS AND BLOCKS

mutual
  unfolding event_notes event_after

  pub event_agrees : (e : written.Event) (nesting : ℕ) (h : Here) → Agrees (event_tokens e) (event_notes nesting h e)
  event_agrees (written.Send channel list) nesting h = front (Fixed Send) _ _ _ (base_here nesting h) (front (Name channel) _ (list_tokens list) _ (read_here nesting (one_base h) channel) (list_agrees list nesting (one_base h)))
  event_agrees (written.Recv channel) nesting h = front (Fixed Recv) _ _ _ (base_here nesting h) (one (Name channel) _ (read_here nesting (one_base h) channel))
  event_agrees (written.Always list) nesting h = front (Fixed Always) _ (list_tokens list) _ (base_here nesting h) (list_agrees list nesting (one_base h))
  event_agrees written.Never nesting h = one (Fixed Never) _ (base_here nesting h)
  event_agrees (written.Cancelled nack) nesting h = front (Fixed Cancelled) _ _ _ (base_here nesting h) (one (Name nack) _ (read_here nesting (one_base h) nack))
  event_agrees (written.Joined process) nesting h = front (Fixed Joined) _ _ _ (base_here nesting h) (one (Name process) _ (process_here nesting (one_base h) process))
  event_agrees (written.Choose members) nesting h =
      front (Fixed Choose) _ _ _ (plain_here nesting) (front (Fixed OpenBracket) _ _ _ (plain_here nesting)
      (last (Fixed CloseBracket) _ (events_tokens members) _ (plain_here (nesting - 1)) (events_agrees members (nesting - 1) h)))
  event_agrees (written.Wrap event names list) nesting h =
      front (Fixed Wrap) _ _ _ (plain_here nesting)
      (agrees_seq (event_tokens event) (λ r. as_tokens names (Fixed To ∷ list_tokens list r)) _ _ (event_agrees event (nesting - 1) h)
      (agrees_seq (λ r. as_tokens names (Fixed To ∷ r)) (list_tokens list) _ _ (as_agrees names (nesting - 1) (event_after h event)) (list_agrees list (nesting - 1) (names_after (event_after h event) names))))
  event_agrees (written.Guard body event) nesting h =
      front (Fixed Guard) _ _ _ (plain_here nesting)
      (agrees_seq (block_tokens body) (event_tokens event) _ _ (front (Fixed OpenBrace) _ (body_tokens body) _ (plain_here (nesting - 1)) (body_agrees body false (nesting - 1 - 1) h)) (event_agrees event (nesting - 1) (block_after h body)))
  event_agrees (written.Nack name body event) nesting h =
      front (Fixed Nack) _ _ _ (nack_here nesting h) (front (Name name) _ _ _ (bind_here (nesting - 1) [] (one_nack h) name)
      (agrees_seq (block_tokens body) (event_tokens event) _ _ (front (Fixed OpenBrace) _ (body_tokens body) _ (plain_here (nesting - 1)) (body_agrees body false (nesting - 1 - 1) (bound (one_nack h) name).1)) (event_agrees event (nesting - 1) (block_after (bound (one_nack h) name).1 body))))

  pub events_agrees : (es : written.Events) (nesting : ℕ) (h : Here) → Agrees (events_tokens es) (events_notes nesting h es)
  events_agrees written.NoEvents nesting h = agrees_none
  events_agrees (written.Another event others) nesting h = agrees_seq (event_tokens event) (more_events_tokens others) _ _ (event_agrees event nesting h) (more_events_agrees others nesting (event_after h event))

  pub more_events_agrees : (es : written.Events) (nesting : ℕ) (h : Here) → Agrees (more_events_tokens es) (more_events_notes nesting h es)
  more_events_agrees written.NoEvents nesting h = agrees_none
  more_events_agrees (written.Another event others) nesting h =
      agrees_seq (λ r. Fixed Comma ∷ event_tokens event r) (more_events_tokens others) _ _ (front (Fixed Comma) _ (event_tokens event) _ (plain_here nesting) (event_agrees event nesting h)) (more_events_agrees others nesting (event_after h event))

  pub stmt_agrees : (s : written.Stmt) (loops : Bool) (nesting : ℕ) (h : Here) → Agrees (stmt_tokens s) (stmt_notes loops nesting h s)
  stmt_agrees (written.Let name value) loops nesting h =
      front (Fixed Let) _ _ _ (plain_here nesting) (front (Name name) _ _ _ (bind_here nesting [] h name)
      (front (Fixed Equal) _ _ _ (plain_here nesting) (last (Fixed Semicolon) _ (expr_tokens value) _ (plain_here nesting) (expr_agrees value nesting (bound h name).1))))
  stmt_agrees (written.Print value) loops nesting h = front (Fixed Print) _ _ _ (plain_here nesting) (last (Fixed Semicolon) _ (expr_tokens value) _ (plain_here nesting) (expr_agrees value nesting h))
  stmt_agrees (written.Sync names event) loops nesting h =
      agrees_seq (received_tokens names) (λ r. Fixed Sync ∷ event_tokens event (Fixed Semicolon ∷ r)) _ _ (received_agrees names nesting h)
      (front (Fixed Sync) _ _ _ (plain_here nesting) (last (Fixed Semicolon) _ (event_tokens event) _ (plain_here nesting) (event_agrees event nesting (uncounted (names_after h names)))))
  stmt_agrees (written.If test first second) loops nesting h =
      front (Fixed If) _ _ _ (plain_here nesting)
      (agrees_seq (test_tokens test) (λ r. block_tokens first (Fixed Else ∷ block_tokens second r)) _ _ (test_agrees test nesting h)
      (agrees_seq (block_tokens first) (λ r. Fixed Else ∷ block_tokens second r) _ _ (front (Fixed OpenBrace) _ (body_tokens first) _ (plain_here nesting) (body_agrees first loops (nesting - 1) h))
      (front (Fixed Else) _ (block_tokens second) _ (plain_here nesting) (front (Fixed OpenBrace) _ (body_tokens second) _ (plain_here nesting) (body_agrees second loops (nesting - 1) (block_after h first))))))
  stmt_agrees (written.Loop times body) loops nesting h = record {
    agree = λ prior rest others k.
        let inside = body_agrees body true (nesting - 1) h in
        (loop_here loops nesting prior, (plain_here nesting (Fixed Loop ∷ prior), (plain_here nesting (Number times ∷ Fixed Loop ∷ prior), turn_agree (begins_with_sync body) 3 (Fixed OpenBrace ∷ Number times ∷ Fixed Loop ∷ prior) (body_tokens body rest) (body_notes true (nesting - 1) h body) others (inl (refl, refl)) (inside.agree _ rest others k))));
  }
  stmt_agrees (written.Forever body) loops nesting h = record {
    agree = λ prior rest others k.
        let inside = body_agrees body true (nesting - 1) h in
        (loop_here loops nesting prior, (plain_here nesting (Fixed Forever ∷ prior), turn_agree (begins_with_sync body) 2 (Fixed OpenBrace ∷ Fixed Forever ∷ prior) (body_tokens body rest) (body_notes true (nesting - 1) h body) others (inr (refl, refl)) (inside.agree _ rest others k)));
  }
  stmt_agrees written.End loops nesting h = front (Fixed End) _ _ _ (plain_here nesting) (one (Fixed Semicolon) _ (plain_here nesting))
  stmt_agrees (written.Spawn process) loops nesting h = front (Fixed Spawn) _ _ _ (plain_here nesting) (front (Name process) _ _ _ (spawn_here nesting h process) (one (Fixed Semicolon) _ (plain_here nesting)))

  pub body_agrees : (b : written.Block) (loops : Bool) (nesting : ℕ) (h : Here) → Agrees (body_tokens b) (body_notes loops nesting h b)
  body_agrees written.Done loops nesting h = one (Fixed CloseBrace) _ (plain_here nesting)
  body_agrees (written.Then stmt others) loops nesting h = agrees_seq (stmt_tokens stmt) (body_tokens others) _ _ (stmt_agrees stmt loops nesting h) (body_agrees others loops nesting (stmt_after h stmt))

pub block_agrees : (b : written.Block) (loops : Bool) (nesting : ℕ) (h : Here) → Agrees (block_tokens b) (block_notes loops nesting h b)
block_agrees b loops nesting h = front (Fixed OpenBrace) _ (body_tokens b) _ (plain_here nesting) (body_agrees b loops (nesting - 1) h)
