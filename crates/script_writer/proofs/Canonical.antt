-- The parts of a canonical text, one behind the other, are the text of its tokens.
use Rattle.std.proofs.Common.{◌≡◌, ℕ, List, [], ◌∷◌, ◌++◌, map, codes, Option, Some, None, refl, sym, ap, ◌∙◌, append_assoc}
use Rattle.script_token.specs.Tokens.{Token, Fixed}
use Rattle.script_token.specs.declared.kind.Symbol.TheVariants as symbols
use Rattle.script_tree.specs.declared.tree.Operand.{Operand}
use Rattle.script_tree.specs.declared.tree.Operand.TheVariants as operands
use Rattle.script_tree.specs.declared.tree.Sign.{Sign}
use Rattle.script_tree.specs.declared.tree.Sign.TheVariants as signs
use Rattle.script_tree.specs.declared.tree.Relation.{Relation}
use Rattle.script_tree.specs.declared.tree.Relation.TheVariants as relations
use Rattle.script_tree.specs.Trees.{Term, Single, Sum, Terms, Nothing, More, Expr, Test, Event, Sends, Receives, IsReady, IsNever, IsCancelled, IsJoined, Chooses, Wraps, Guards, Nacks, Events, NoMembers, Members, Stmt, Lets, Prints, Syncs, Branches, Loops, LoopsForever, Ends, Spawns, Block, Stops, Runs}
use Rattle.script_tree.specs.Processes.{Proc}
use Rattle.script_grammar.specs.Written.{sign_symbol, relation_symbol, term_tokens, terms_tokens, expr_tokens, test_tokens, others_tokens, list_tokens, more_names_tokens, as_tokens, received_tokens, event_tokens, events_tokens, more_events_tokens, stmt_tokens, body_tokens, channels_tokens, processes_tokens}
use Rattle.script_grammar.specs.Meaning.{Names}
use Rattle.script.specs.Scripts.{Script}
use Rattle.script_writer.specs.Plain.{variable, names_of, process_names, names_in, plain_operand, plain_term, plain_terms, plain_expr, plain_list, plain_test, plain_event, plain_events, plain_stmt, plain_block, plain_process, plain}
use Rattle.script_writer.specs.Canon.{text_of, Canon}
use Rattle.script_writer.specs.Texts.{operand_text, sign_text, term_text, terms_text, expr_text, others_text, list_text, relation_text, test_text, other_names_text, as_text, received_text, event_text, events_text, more_events_text, stmt_text, stmts_text, channels_text, processes_text, script_text}

five : (p a b c d e : List ℕ) → p ++ (a ++ (b ++ (c ++ (d ++ e)))) ≡ p ++ a ++ b ++ c ++ d ++ e
five p a b c d e = simp append_assoc

in_braces : (p n s e : List ℕ) → p ++ (n ++ 32 ∷ 123 ∷ 10 ∷ (s ++ 125 ∷ 10 ∷ e)) ≡ p ++ n ++ (32 ∷ []) ++ ((123 ∷ 10 ∷ []) ++ s ++ (125 ∷ 10 ∷ [])) ++ e
in_braces p n s e = simp append_assoc

operand_is : (ns : Names) (o : Operand) (rest : List Token) → text_of (term_tokens (plain_operand ns o) rest) ≡ operand_text ns o ++ text_of rest
unfolding text_of
operand_is ns (operands.Number n) rest = simp append_assoc
operand_is ns (operands.Named name) rest = simp append_assoc

sign_is : (s : Sign) (rest : List Token) → text_of (Fixed (sign_symbol s) ∷ rest) ≡ sign_text s ++ text_of rest
unfolding text_of
sign_is signs.Plus rest = refl
sign_is signs.Minus rest = refl

mutual
  unfolding text_of

  term_is : (ns : Names) (t : Term) (rest : List Token) → text_of (term_tokens (plain_term ns t) rest) ≡ term_text ns t ++ text_of rest
  term_is ns (Single o) rest = operand_is ns o rest
  term_is ns (Sum first more) rest =
      rw (operand_is ns first (terms_tokens (plain_terms ns more) (Fixed symbols.CloseParen ∷ rest)), terms_is ns more (Fixed symbols.CloseParen ∷ rest)) (simp append_assoc)

  terms_is : (ns : Names) (ts : Terms) (rest : List Token) → text_of (terms_tokens (plain_terms ns ts) rest) ≡ terms_text ns ts ++ text_of rest
  terms_is ns Nothing rest = refl
  terms_is ns (More sign term more) rest =
      sign_is sign (term_tokens (plain_term ns term) (terms_tokens (plain_terms ns more) rest)) ∙ rw (term_is ns term (terms_tokens (plain_terms ns more) rest), terms_is ns more rest) (simp append_assoc)

expr_is : (ns : Names) (e : Expr) (rest : List Token) → text_of (expr_tokens (plain_expr ns e) rest) ≡ expr_text ns e ++ text_of rest
expr_is ns e rest = rw (operand_is ns e.first (terms_tokens (plain_terms ns e.more) rest), terms_is ns e.more rest) (simp append_assoc)

others_are : (ns : Names) (es : List Expr) (rest : List Token) → text_of (others_tokens (plain_list ns es) rest) ≡ others_text ns es ++ text_of rest
unfolding text_of
others_are ns [] rest = refl
others_are ns (e ∷ es) rest = rw (expr_is ns e (others_tokens (plain_list ns es) rest), others_are ns es rest) (simp append_assoc)

list_is : (ns : Names) (es : List Expr) (rest : List Token) → text_of (list_tokens (plain_list ns es) rest) ≡ list_text ns es ++ text_of rest
unfolding text_of
list_is ns [] rest = refl
list_is ns (e ∷ es) rest = rw (expr_is ns e (others_tokens (plain_list ns es) (Fixed symbols.CloseParen ∷ rest)), others_are ns es (Fixed symbols.CloseParen ∷ rest)) (simp append_assoc)

relation_is : (r : Relation) (rest : List Token) → text_of (Fixed (relation_symbol r) ∷ rest) ≡ relation_text r ++ text_of rest
unfolding text_of
relation_is relations.Equal rest = refl
relation_is relations.Less rest = refl

test_is : (ns : Names) (t : Test) (rest : List Token) → text_of (test_tokens (plain_test ns t) rest) ≡ test_text ns t ++ text_of rest
test_is ns t rest =
    expr_is ns t.left (Fixed (relation_symbol t.relation) ∷ expr_tokens (plain_expr ns t.right) rest) ∙
    rw (relation_is t.relation (expr_tokens (plain_expr ns t.right) rest), expr_is ns t.right rest) (simp append_assoc)

more_names_are : (ns : Names) (vs : List ℕ) (rest : List Token) → text_of (more_names_tokens (map (variable ns) vs) rest) ≡ other_names_text ns vs ++ text_of rest
unfolding text_of
more_names_are ns [] rest = refl
more_names_are ns (v ∷ vs) rest = rw (more_names_are ns vs rest) (simp append_assoc)

as_is : (ns : Names) (names : Option (List ℕ)) (rest : List Token) → text_of (as_tokens (names_of ns names) rest) ≡ as_text ns names ++ text_of rest
unfolding text_of
as_is ns None rest = refl
as_is ns (Some []) rest = refl
as_is ns (Some (v ∷ vs)) rest = rw (more_names_are ns vs rest) (simp append_assoc)

received_is : (ns : Names) (names : Option (List ℕ)) (rest : List Token) → text_of (received_tokens (names_of ns names) rest) ≡ received_text ns names ++ text_of rest
unfolding text_of
received_is ns None rest = refl
received_is ns (Some []) rest = refl
received_is ns (Some (v ∷ vs)) rest = rw (more_names_are ns vs (Fixed symbols.Arrow ∷ rest)) (simp append_assoc)

mutual
  unfolding text_of

  event_is : (ns : Names) (e : Event) (rest : List Token) → text_of (event_tokens (plain_event ns e) rest) ≡ event_text ns e ++ text_of rest
  event_is ns (Sends channel list) rest = rw (list_is ns list rest) (simp append_assoc)
  event_is ns (Receives channel) rest = simp append_assoc
  event_is ns (IsReady list) rest = rw (list_is ns list rest) (simp append_assoc)
  event_is ns IsNever rest = refl
  event_is ns (IsCancelled nack) rest = simp append_assoc
  event_is ns (IsJoined process) rest = simp append_assoc
  event_is ns (Chooses members) rest = rw (events_are ns members (Fixed symbols.CloseBracket ∷ rest)) (simp append_assoc)
  event_is ns (Wraps event names list) rest =
      let behind = Fixed symbols.To ∷ list_tokens (plain_list ns list) rest in
      rw (event_is ns event (as_tokens (names_of ns names) behind), as_is ns names behind, list_is ns list rest) (five (codes "wrap ") (event_text ns event) (as_text ns names) (codes "to ") (list_text ns list) (text_of rest))
  event_is ns (Guards body event) rest =
      rw (stmts_are ns body (event_tokens (plain_event ns event) rest), event_is ns event rest) (simp append_assoc)
  event_is ns (Nacks name body event) rest =
      rw (stmts_are ns body (event_tokens (plain_event ns event) rest), event_is ns event rest) (simp append_assoc)

  events_are : (ns : Names) (es : Events) (rest : List Token) → text_of (events_tokens (plain_events ns es) rest) ≡ events_text ns es ++ text_of rest
  events_are ns NoMembers rest = refl
  events_are ns (Members event others) rest = rw (event_is ns event (more_events_tokens (plain_events ns others) rest), more_events_are ns others rest) (simp append_assoc)

  more_events_are : (ns : Names) (es : Events) (rest : List Token) → text_of (more_events_tokens (plain_events ns es) rest) ≡ more_events_text ns es ++ text_of rest
  more_events_are ns NoMembers rest = refl
  more_events_are ns (Members event others) rest = rw (event_is ns event (more_events_tokens (plain_events ns others) rest), more_events_are ns others rest) (simp append_assoc)

  stmt_is : (ns : Names) (s : Stmt) (rest : List Token) → text_of (stmt_tokens (plain_stmt ns s) rest) ≡ stmt_text ns s ++ text_of rest
  stmt_is ns (Lets name value) rest = rw (expr_is ns value (Fixed symbols.Semicolon ∷ rest)) (simp append_assoc)
  stmt_is ns (Prints value) rest = rw (expr_is ns value (Fixed symbols.Semicolon ∷ rest)) (simp append_assoc)
  stmt_is ns (Syncs names event) rest =
      let behind = Fixed symbols.Sync ∷ event_tokens (plain_event ns event) (Fixed symbols.Semicolon ∷ rest) in
      rw (received_is ns names behind, event_is ns event (Fixed symbols.Semicolon ∷ rest)) (simp append_assoc)
  stmt_is ns (Branches test first second) rest =
      let behind = Fixed symbols.Else ∷ Fixed symbols.OpenBrace ∷ body_tokens (plain_block ns second) rest in
      rw (test_is ns test (Fixed symbols.OpenBrace ∷ body_tokens (plain_block ns first) behind), stmts_are ns first behind, stmts_are ns second rest) (simp append_assoc)
  stmt_is ns (Loops times names event others) rest =
      let behind = Fixed symbols.Sync ∷ event_tokens (plain_event ns event) (Fixed symbols.Semicolon ∷ body_tokens (plain_block ns others) rest) in
      rw (received_is ns names behind, event_is ns event (Fixed symbols.Semicolon ∷ body_tokens (plain_block ns others) rest), stmts_are ns others rest) (simp append_assoc)
  stmt_is ns (LoopsForever names event others) rest =
      let behind = Fixed symbols.Sync ∷ event_tokens (plain_event ns event) (Fixed symbols.Semicolon ∷ body_tokens (plain_block ns others) rest) in
      rw (received_is ns names behind, event_is ns event (Fixed symbols.Semicolon ∷ body_tokens (plain_block ns others) rest), stmts_are ns others rest) (simp append_assoc)
  stmt_is ns Ends rest = refl
  stmt_is ns (Spawns process) rest = simp append_assoc

  -- statements, and the brace that ends them
  stmts_are : (ns : Names) (b : Block) (rest : List Token) → text_of (body_tokens (plain_block ns b) rest) ≡ stmts_text ns b ++ 125 ∷ 10 ∷ text_of rest
  stmts_are ns Stops rest = refl
  stmts_are ns (Runs stmt others) rest = rw (stmt_is ns stmt (body_tokens (plain_block ns others) rest), stmts_are ns others rest) (simp append_assoc)

channels_are : (names : List (List ℕ)) (rest : List Token) → text_of (channels_tokens names rest) ≡ channels_text names ++ text_of rest
unfolding text_of
channels_are [] rest = refl
channels_are (name ∷ names) rest = rw (channels_are names rest) (simp append_assoc)

processes_are : (channels names : List (List ℕ)) (ps : List Proc) → text_of (processes_tokens (map (plain_process channels names) ps)) ≡ processes_text channels names ps
unfolding text_of
processes_are channels names [] = refl
processes_are channels names (p ∷ ps) =
    rw (stmts_are (names_in channels names p) p.body (processes_tokens (map (plain_process channels names) ps)), processes_are channels names ps)
    (in_braces (codes "process ") p.name (stmts_text (names_in channels names p) p.body) (processes_text channels names ps))

pub canon_is : (s : Script) → script_text s ≡ Canon s
unfolding Canon plain
canon_is s = sym (channels_are s.channels (processes_tokens (map (plain_process s.channels (process_names s.processes)) s.processes)) ∙ ap (λ (y : List ℕ). channels_text s.channels ++ y) (processes_are s.channels (process_names s.processes) s.processes))
