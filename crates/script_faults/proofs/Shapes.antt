-- Events, statements and blocks have a note for each token.
use Rattle.std.proofs.Common.{ℕ, ◌-◌, Bool, true, false, List, [], ◌∷◌, ◌++◌}
use Rattle.script_token.specs.Tokens.{Token, Fixed, Name, Number}
use Rattle.script_token.specs.declared.kind.Symbol.TheVariants.{Let, Print, Sync, If, Else, Loop, Forever, End, Send, Recv, Always, Never, Cancelled, Choose, Wrap, As, To, Guard, Nack, Spawn, Joined, Semicolon, Comma, OpenBrace, CloseBrace, OpenBracket, CloseBracket, Equal, Arrow}
use Rattle.script_reader.specs.Steps.{Here, bound}
use Rattle.script_reader.specs.declared.fault.Problem.TheVariants.{LoopWithoutSync}
use Rattle.script_grammar.specs.Written as written
use Rattle.script_grammar.specs.Written.{expr_tokens, test_tokens, list_tokens, more_names_tokens, as_tokens, received_tokens, event_tokens, events_tokens, more_events_tokens, stmt_tokens, body_tokens, block_tokens}
use Rattle.script_faults.specs.Notes.{Note, names_after}
use Rattle.script_faults.specs.BlockNotes.{as_notes, received_notes, one_base, one_nack, uncounted, event_after, stmt_after, block_after, begins_with_sync, if_no_sync, event_notes, events_notes, more_events_notes, stmt_notes, body_notes, block_notes}
use Rattle.script_faults.proofs.Facts.{Shape, shape_one, shape_seq, shape_none}
use Rattle.script_faults.proofs.Exprs.{expr_shape}
use Rattle.script_faults.proofs.Lists.{test_shape, list_shape, also_shape}
use Rattle.script_faults.proofs.NameLists.{names_shape}

-- a token in front
pub in_front : (t : Token) (note : Note) (spell : List Token → List Token) (notes : List Note) → Shape spell notes → Shape (λ r. t ∷ spell r) (note ∷ notes)
in_front t note spell notes s = shape_seq (λ r. t ∷ r) spell (note ∷ []) notes (shape_one t note) s

-- a token behind
pub behind : (t : Token) (note : Note) (spell : List Token → List Token) (notes : List Note) → Shape spell notes → Shape (λ r. spell (t ∷ r)) (notes ++ note ∷ [])
behind t note spell notes s = shape_seq spell (λ r. t ∷ r) notes (note ∷ []) s (shape_one t note)

pub as_shape : (names : List (List ℕ)) (nesting : ℕ) (h : Here) → Shape (λ r. as_tokens names (Fixed To ∷ r)) (as_notes nesting h names)
unfolding as_notes
as_shape [] nesting h = shape_one (Fixed To) _
as_shape (text ∷ texts) nesting h = in_front (Fixed As) _ _ _ (behind (Fixed To) _ (λ r. Name text ∷ more_names_tokens texts r) _ (names_shape text texts nesting h))

pub received_shape : (names : List (List ℕ)) (nesting : ℕ) (h : Here) → Shape (received_tokens names) (received_notes nesting h names)
unfolding received_notes
received_shape [] nesting h = shape_none
received_shape (text ∷ texts) nesting h = behind (Fixed Arrow) _ (λ r. Name text ∷ more_names_tokens texts r) _ (names_shape text texts nesting h)

pub turn_shape : (b : Bool) (back : ℕ) (spell : List Token → List Token) (notes : List Note) → Shape spell notes → Shape spell (if_no_sync b back notes)
turn_shape true back spell notes s = s
turn_shape false back spell notes s = also_shape (LoopWithoutSync, back) spell notes s

mutual
  unfolding event_notes event_after

  pub event_shape : (e : written.Event) (nesting : ℕ) (h : Here) → Shape (event_tokens e) (event_notes nesting h e)
  event_shape (written.Send channel list) nesting h = in_front (Fixed Send) _ _ _ (in_front (Name channel) _ _ _ (list_shape list nesting (one_base h)))
  event_shape (written.Recv channel) nesting h = in_front (Fixed Recv) _ _ _ (shape_one (Name channel) _)
  event_shape (written.Always list) nesting h = in_front (Fixed Always) _ _ _ (list_shape list nesting (one_base h))
  event_shape written.Never nesting h = shape_one (Fixed Never) _
  event_shape (written.Cancelled nack) nesting h = in_front (Fixed Cancelled) _ _ _ (shape_one (Name nack) _)
  event_shape (written.Joined process) nesting h = in_front (Fixed Joined) _ _ _ (shape_one (Name process) _)
  event_shape (written.Choose members) nesting h = in_front (Fixed Choose) _ _ _ (in_front (Fixed OpenBracket) _ _ _ (behind (Fixed CloseBracket) _ (events_tokens members) _ (events_shape members (nesting - 1) h)))
  event_shape (written.Wrap event names list) nesting h =
      in_front (Fixed Wrap) _ _ _
      (shape_seq (event_tokens event) (λ r. as_tokens names (Fixed To ∷ list_tokens list r)) _ _ (event_shape event (nesting - 1) h)
      (shape_seq (λ r. as_tokens names (Fixed To ∷ r)) (list_tokens list) _ _ (as_shape names (nesting - 1) (event_after h event)) (list_shape list (nesting - 1) (names_after (event_after h event) names))))
  event_shape (written.Guard body event) nesting h =
      in_front (Fixed Guard) _ _ _
      (shape_seq (block_tokens body) (event_tokens event) _ _ (in_front (Fixed OpenBrace) _ _ _ (body_shape body false (nesting - 1 - 1) h)) (event_shape event (nesting - 1) (block_after h body)))
  event_shape (written.Nack name body event) nesting h =
      in_front (Fixed Nack) _ _ _ (in_front (Name name) _ _ _
      (shape_seq (block_tokens body) (event_tokens event) _ _ (in_front (Fixed OpenBrace) _ _ _ (body_shape body false (nesting - 1 - 1) (bound (one_nack h) name).1)) (event_shape event (nesting - 1) (block_after (bound (one_nack h) name).1 body))))

  pub events_shape : (es : written.Events) (nesting : ℕ) (h : Here) → Shape (events_tokens es) (events_notes nesting h es)
  events_shape written.NoEvents nesting h = shape_none
  events_shape (written.Another event others) nesting h = shape_seq (event_tokens event) (more_events_tokens others) _ _ (event_shape event nesting h) (more_events_shape others nesting (event_after h event))

  pub more_events_shape : (es : written.Events) (nesting : ℕ) (h : Here) → Shape (more_events_tokens es) (more_events_notes nesting h es)
  more_events_shape written.NoEvents nesting h = shape_none
  more_events_shape (written.Another event others) nesting h =
      shape_seq (λ r. Fixed Comma ∷ event_tokens event r) (more_events_tokens others) _ _ (in_front (Fixed Comma) _ _ _ (event_shape event nesting h)) (more_events_shape others nesting (event_after h event))

  pub stmt_shape : (s : written.Stmt) (loops : Bool) (nesting : ℕ) (h : Here) → Shape (stmt_tokens s) (stmt_notes loops nesting h s)
  stmt_shape (written.Let name value) loops nesting h = in_front (Fixed Let) _ _ _ (in_front (Name name) _ _ _ (in_front (Fixed Equal) _ _ _ (behind (Fixed Semicolon) _ (expr_tokens value) _ (expr_shape value nesting (bound h name).1))))
  stmt_shape (written.Print value) loops nesting h = in_front (Fixed Print) _ _ _ (behind (Fixed Semicolon) _ (expr_tokens value) _ (expr_shape value nesting h))
  stmt_shape (written.Sync names event) loops nesting h =
      shape_seq (received_tokens names) (λ r. Fixed Sync ∷ event_tokens event (Fixed Semicolon ∷ r)) _ _ (received_shape names nesting h)
      (in_front (Fixed Sync) _ _ _ (behind (Fixed Semicolon) _ (event_tokens event) _ (event_shape event nesting (uncounted (names_after h names)))))
  stmt_shape (written.If test first second) loops nesting h =
      in_front (Fixed If) _ _ _
      (shape_seq (test_tokens test) (λ r. block_tokens first (Fixed Else ∷ block_tokens second r)) _ _ (test_shape test nesting h)
      (shape_seq (block_tokens first) (λ r. Fixed Else ∷ block_tokens second r) _ _ (in_front (Fixed OpenBrace) _ _ _ (body_shape first loops (nesting - 1) h))
      (in_front (Fixed Else) _ _ _ (in_front (Fixed OpenBrace) _ _ _ (body_shape second loops (nesting - 1) (block_after h first))))))
  stmt_shape (written.Loop times body) loops nesting h =
      in_front (Fixed Loop) _ _ _ (in_front (Number times) _ _ _ (in_front (Fixed OpenBrace) _ _ _ (turn_shape (begins_with_sync body) 3 (body_tokens body) _ (body_shape body true (nesting - 1) h))))
  stmt_shape (written.Forever body) loops nesting h = in_front (Fixed Forever) _ _ _ (in_front (Fixed OpenBrace) _ _ _ (turn_shape (begins_with_sync body) 2 (body_tokens body) _ (body_shape body true (nesting - 1) h)))
  stmt_shape written.End loops nesting h = in_front (Fixed End) _ _ _ (shape_one (Fixed Semicolon) _)
  stmt_shape (written.Spawn process) loops nesting h = in_front (Fixed Spawn) _ _ _ (in_front (Name process) _ _ _ (shape_one (Fixed Semicolon) _))

  pub body_shape : (b : written.Block) (loops : Bool) (nesting : ℕ) (h : Here) → Shape (body_tokens b) (body_notes loops nesting h b)
  body_shape written.Done loops nesting h = shape_one (Fixed CloseBrace) _
  body_shape (written.Then stmt others) loops nesting h = shape_seq (stmt_tokens stmt) (body_tokens others) _ _ (stmt_shape stmt loops nesting h) (body_shape others loops nesting (stmt_after h stmt))

pub block_shape : (b : written.Block) (loops : Bool) (nesting : ℕ) (h : Here) → Shape (block_tokens b) (block_notes loops nesting h b)
block_shape b loops nesting h = in_front (Fixed OpenBrace) _ _ _ (body_shape b loops (nesting - 1) h)
