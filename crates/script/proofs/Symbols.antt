-- The words with which the statements of a script are written: those of its text and those of its processes are the same.
use Rattle.std.proofs.Common.{◌≡◌, ℕ, Bool, true, false, cond, List, [], ◌∷◌, ◌++◌, map, Some, refl, sym, ap, ◌∙◌, subst, append_assoc}
use Rattle.std.proofs.lemmas.List.{map-append}
use Rattle.std.specs.List.{flat_map}
use Rattle.script_token.specs.Tokens.{Token, Fixed, Name, Number, Bad}
use Rattle.script_token.specs.declared.kind.Symbol.{Symbol}
use Rattle.script_token.specs.declared.kind.Symbol.TheVariants as symbols
use Rattle.script_tree.specs.declared.tree.Sign.TheVariants as signs
use Rattle.script_tree.specs.declared.tree.Relation.{Relation}
use Rattle.script_tree.specs.declared.tree.Relation.TheVariants as relations
use Rattle.script_tree.specs.Trees as trees
use Rattle.script_tree.specs.Trees.{LoopBody}
use Rattle.script_tree.specs.Processes.{Proc}
use Rattle.script_grammar.specs.Meaning.{place, is_among, Names, name_meaning, expr_meaning, test_meaning, list_meaning, bind, bind_names, is_small, as_turn, event_meaning, events_meaning, stmt_meaning, block_meaning, first_names, declare, channels_meaning, processes_meaning}
use Rattle.script_grammar.specs.Written as written
use Rattle.script_grammar.specs.Written.{Term, OfNumber, OfName, Grouped, Terms, NoMore, Further, Expr, Test, term_tokens, terms_tokens, expr_tokens, test_tokens, others_tokens, members_tokens, list_tokens, more_names_tokens, as_tokens, received_tokens, event_tokens, events_tokens, more_events_tokens, stmt_tokens, body_tokens, channels_tokens, processes_tokens, relation_symbol}
use Rattle.script_grammar.proofs.Parts.{part, some_is, if_else_some, unless_some}
use Rattle.script.specs.Sources.{Script, tokens_of}
use Rattle.script.specs.Spelling.{script_meaning, Spells}
use Rattle.script.specs.Lines.{Word, is_statement, word_in, word_at}

-- THE SYMBOLS OF TOKENS

abbrev pub symbol_in : Token → List Symbol
symbol_in (Fixed symbol) = cond (is_statement symbol) (symbol ∷ []) []
symbol_in (Name text) = []
symbol_in (Number n) = []
symbol_in Bad = []

abbrev pub token_symbols : List Token → List Symbol
token_symbols ts = flat_map symbol_in ts

abbrev symbol_of : Word → Symbol
symbol_of w = w.0

word_symbols : (t : Token) (line : ℕ) → map symbol_of (word_in t line) ≡ symbol_in t
word_symbols (Fixed symbol) line = at_test (is_statement symbol)
  where
    at_test : (b : Bool) → map symbol_of (cond b ((symbol, line) ∷ []) []) ≡ cond b (symbol ∷ []) []
    at_test true = refl
    at_test false = refl
word_symbols (Name text) line = refl
word_symbols (Number n) line = refl
word_symbols Bad line = refl

-- the words of a text without their lines
pub words_symbols : (ps : List (Token × ℕ)) → map symbol_of (flat_map word_at ps) ≡ token_symbols (map (λ p. p.0) ps)
words_symbols [] = refl
words_symbols (p ∷ ps) =
    map-append symbol_of (word_at p) (flat_map word_at ps)
    ∙ ap (λ xs. xs ++ map symbol_of (flat_map word_at ps)) (word_symbols p.0 p.1)
    ∙ ap (λ xs. symbol_in p.0 ++ xs) (words_symbols ps)

-- THE SYMBOLS OF TREES

abbrev mutual
  pub event_symbols : trees.Event → List Symbol
  event_symbols (trees.Sends channel list) = []
  event_symbols (trees.Receives channel) = []
  event_symbols (trees.IsReady list) = []
  event_symbols trees.IsNever = []
  event_symbols (trees.IsCancelled nack) = []
  event_symbols (trees.IsJoined process) = []
  event_symbols (trees.Chooses members) = members_symbols members
  event_symbols (trees.Wraps event names list) = event_symbols event
  event_symbols (trees.Guards body event) = block_symbols body ++ event_symbols event
  event_symbols (trees.Nacks name body event) = block_symbols body ++ event_symbols event

  pub members_symbols : trees.Events → List Symbol
  members_symbols trees.NoMembers = []
  members_symbols (trees.Members event others) = event_symbols event ++ members_symbols others

  pub stmt_symbols : trees.Stmt → List Symbol
  stmt_symbols (trees.Lets name value) = symbols.Let ∷ []
  stmt_symbols (trees.Prints value) = symbols.Print ∷ []
  stmt_symbols (trees.Syncs names event) = symbols.Sync ∷ event_symbols event
  stmt_symbols (trees.Branches test first second) = symbols.If ∷ block_symbols first ++ block_symbols second
  stmt_symbols (trees.Loops times names event rest) = symbols.Loop ∷ symbols.Sync ∷ event_symbols event ++ block_symbols rest
  stmt_symbols (trees.LoopsForever names event rest) = symbols.Forever ∷ symbols.Sync ∷ event_symbols event ++ block_symbols rest
  stmt_symbols trees.Ends = symbols.End ∷ []
  stmt_symbols (trees.Spawns process) = symbols.Spawn ∷ []

  pub block_symbols : trees.Block → List Symbol
  block_symbols trees.Stops = []
  block_symbols (trees.Runs stmt rest) = stmt_symbols stmt ++ block_symbols rest

abbrev pub all_symbols : List Proc → List Symbol
all_symbols ps = flat_map (λ p. block_symbols p.body) ps

-- WHAT IS WRITTEN BETWEEN

-- what is spelled so has these words
abbrev Says : (List Token → List Token) → List Symbol → Type 0
Says spell said = (rest : List Token) → token_symbols (spell rest) ≡ said ++ token_symbols rest

-- one behind the other
says_both : (f g : List Token → List Token) (xs ys : List Symbol) → Says f xs → Says g ys → Says (λ rest. f (g rest)) (xs ++ ys)
says_both f g xs ys one two rest = one (g rest) ∙ ap (λ zs. xs ++ zs) (two rest) ∙ sym (append_assoc xs ys (token_symbols rest))

mutual
  term_plain : (t : Term) → Says (term_tokens t) []
  term_plain (OfNumber n) rest = refl
  term_plain (OfName text) rest = refl
  term_plain (Grouped first more) rest =
      term_plain first (terms_tokens more (Fixed symbols.CloseParen ∷ rest)) ∙ terms_plain more (Fixed symbols.CloseParen ∷ rest)

  terms_plain : (ts : Terms) → Says (terms_tokens ts) []
  terms_plain NoMore rest = refl
  terms_plain (Further signs.Plus term more) rest = term_plain term (terms_tokens more rest) ∙ terms_plain more rest
  terms_plain (Further signs.Minus term more) rest = term_plain term (terms_tokens more rest) ∙ terms_plain more rest

expr_plain : (e : Expr) → Says (expr_tokens e) []
expr_plain e rest = term_plain e.first (terms_tokens e.more rest) ∙ terms_plain e.more rest

relation_plain : (r : Relation) → Says (λ rest. Fixed (relation_symbol r) ∷ rest) []
relation_plain relations.Equal rest = refl
relation_plain relations.Less rest = refl

test_plain : (t : Test) → Says (test_tokens t) []
test_plain t rest =
    expr_plain t.left (Fixed (relation_symbol t.relation) ∷ expr_tokens t.right rest)
    ∙ relation_plain t.relation (expr_tokens t.right rest)
    ∙ expr_plain t.right rest

others_plain : (es : List Expr) → Says (others_tokens es) []
others_plain [] rest = refl
others_plain (e ∷ es) rest = expr_plain e (others_tokens es rest) ∙ others_plain es rest

members_plain : (es : List Expr) → Says (members_tokens es) []
members_plain [] rest = refl
members_plain (e ∷ es) rest = expr_plain e (others_tokens es rest) ∙ others_plain es rest

list_plain : (es : List Expr) → Says (list_tokens es) []
list_plain es rest = members_plain es (Fixed symbols.CloseParen ∷ rest)

more_names_plain : (names : List (List ℕ)) → Says (more_names_tokens names) []
more_names_plain [] rest = refl
more_names_plain (name ∷ names) rest = more_names_plain names rest

as_plain : (names : List (List ℕ)) → Says (as_tokens names) []
as_plain [] rest = refl
as_plain (name ∷ names) rest = more_names_plain names rest

received_plain : (names : List (List ℕ)) → Says (received_tokens names) []
received_plain [] rest = refl
received_plain (name ∷ names) rest = more_names_plain names (Fixed symbols.Arrow ∷ rest)

-- EVENTS, STATEMENTS AND BLOCKS

-- members are written alike in front and behind a comma
members_same : (m : written.Events) (rest : List Token) → token_symbols (events_tokens m rest) ≡ token_symbols (more_events_tokens m rest)
members_same written.NoEvents rest = refl
members_same (written.Another event others) rest = refl

-- a loop's body begins with its sync
turn_symbols : (b : trees.Block) (t : LoopBody) → as_turn b ≡ Some t → block_symbols b ≡ symbols.Sync ∷ event_symbols t.event ++ block_symbols t.rest
turn_symbols trees.Stops t e = absurd cc
turn_symbols (trees.Runs (trees.Syncs names event) rest) t e = (let same = some_is _ _ e in ap (λ (y : LoopBody). symbols.Sync ∷ event_symbols y.event ++ block_symbols y.rest) same)
turn_symbols (trees.Runs (trees.Lets name value) rest) t e = absurd cc
turn_symbols (trees.Runs (trees.Prints value) rest) t e = absurd cc
turn_symbols (trees.Runs (trees.Branches test first second) rest) t e = absurd cc
turn_symbols (trees.Runs (trees.Loops times names event body) rest) t e = absurd cc
turn_symbols (trees.Runs (trees.LoopsForever names event body) rest) t e = absurd cc
turn_symbols (trees.Runs trees.Ends rest) t e = absurd cc
turn_symbols (trees.Runs (trees.Spawns process) rest) t e = absurd cc

mutual
  unfolding event_meaning events_meaning stmt_meaning block_meaning

  event_says : (w : written.Event) (ns : Names) (x : trees.Event × Names) → event_meaning ns w ≡ Some x → Says (event_tokens w) (event_symbols x.0)
  event_says (written.Send channel list) ns x e =
      let c = part (name_meaning ns channel) _ x e in
      let l = part (list_meaning ns list) _ x c.then in
      subst (λ (y : trees.Event × Names). Says (event_tokens (written.Send channel list)) (event_symbols y.0)) (some_is _ _ l.then) (list_plain list)
  event_says (written.Recv channel) ns x e =
      let c = part (name_meaning ns channel) _ x e in
      subst (λ (y : trees.Event × Names). Says (event_tokens (written.Recv channel)) (event_symbols y.0)) (some_is _ _ c.then) (λ rest. refl)
  event_says (written.Always list) ns x e =
      let l = part (list_meaning ns list) _ x e in
      subst (λ (y : trees.Event × Names). Says (event_tokens (written.Always list)) (event_symbols y.0)) (some_is _ _ l.then) (list_plain list)
  event_says written.Never ns x e = subst (λ (y : trees.Event × Names). Says (event_tokens written.Never) (event_symbols y.0)) (some_is _ _ e) (λ rest. refl)
  event_says (written.Cancelled nack) ns x e =
      let n = part (name_meaning ns nack) _ x e in
      subst (λ (y : trees.Event × Names). Says (event_tokens (written.Cancelled nack)) (event_symbols y.0)) (some_is _ _ n.then) (λ rest. refl)
  event_says (written.Joined process) ns x e =
      let p = part (place process ns.processes) _ x e in
      subst (λ (y : trees.Event × Names). Says (event_tokens (written.Joined process)) (event_symbols y.0)) (some_is _ _ p.then) (λ rest. refl)
  event_says (written.Choose members) ns x e =
      let m = part (events_meaning ns members) _ x e in
      subst (λ (y : trees.Event × Names). Says (event_tokens (written.Choose members)) (event_symbols y.0)) (some_is _ _ m.then)
      (λ rest. members_same members (Fixed symbols.CloseBracket ∷ rest) ∙ members_say members ns m.first m.is (Fixed symbols.CloseBracket ∷ rest))
  event_says (written.Wrap event names list) ns x e =
      let a = part (event_meaning ns event) _ x e in
      let b = part (bind_names a.first.1 names) _ x a.then in
      let l = part (list_meaning b.first.1 list) _ x b.then in
      subst (λ (y : trees.Event × Names). Says (event_tokens (written.Wrap event names list)) (event_symbols y.0)) (some_is _ _ l.then)
      (λ rest.
      event_says event ns a.first a.is (as_tokens names (Fixed symbols.To ∷ list_tokens list rest))
      ∙ ap (λ zs. event_symbols a.first.0 ++ zs) (as_plain names (Fixed symbols.To ∷ list_tokens list rest) ∙ list_plain list rest))
  event_says (written.Guard body event) ns x e =
      let b = part (block_meaning false ns body) _ x e in
      let a = part (event_meaning b.first.1 event) _ x b.then in
      subst (λ (y : trees.Event × Names). Says (event_tokens (written.Guard body event)) (event_symbols y.0)) (some_is _ _ a.then)
      (says_both (body_tokens body) (event_tokens event) (block_symbols b.first.0) (event_symbols a.first.0) (block_says body false ns b.first b.is) (event_says event b.first.1 a.first a.is))
  event_says (written.Nack name body event) ns x e =
      let n = part (bind [] ns name) _ x e in
      let b = part (block_meaning false n.first.1 body) _ x n.then in
      let a = part (event_meaning b.first.1 event) _ x b.then in
      subst (λ (y : trees.Event × Names). Says (event_tokens (written.Nack name body event)) (event_symbols y.0)) (some_is _ _ a.then)
      (says_both (body_tokens body) (event_tokens event) (block_symbols b.first.0) (event_symbols a.first.0) (block_says body false n.first.1 b.first b.is) (event_says event b.first.1 a.first a.is))

  members_say : (w : written.Events) (ns : Names) (x : trees.Events × Names) → events_meaning ns w ≡ Some x → Says (more_events_tokens w) (members_symbols x.0)
  members_say written.NoEvents ns x e = subst (λ (y : trees.Events × Names). Says (more_events_tokens written.NoEvents) (members_symbols y.0)) (some_is _ _ e) (λ rest. refl)
  members_say (written.Another event others) ns x e =
      let a = part (event_meaning ns event) _ x e in
      let m = part (events_meaning a.first.1 others) _ x a.then in
      subst (λ (y : trees.Events × Names). Says (more_events_tokens (written.Another event others)) (members_symbols y.0)) (some_is _ _ m.then)
      (says_both (event_tokens event) (more_events_tokens others) (event_symbols a.first.0) (members_symbols m.first.0) (event_says event ns a.first a.is) (members_say others a.first.1 m.first m.is))

  stmt_says : (w : written.Stmt) (loops : Bool) (ns : Names) (x : trees.Stmt × Names) → stmt_meaning loops ns w ≡ Some x → Says (stmt_tokens w) (stmt_symbols x.0)
  stmt_says (written.Let name value) loops ns x e =
      let n = part (bind [] ns name) _ x e in
      let v = part (expr_meaning n.first.1 value) _ x n.then in
      subst (λ (y : trees.Stmt × Names). Says (stmt_tokens (written.Let name value)) (stmt_symbols y.0)) (some_is _ _ v.then)
      (λ rest. ap (λ zs. symbols.Let ∷ zs) (expr_plain value (Fixed symbols.Semicolon ∷ rest)))
  stmt_says (written.Print value) loops ns x e =
      let v = part (expr_meaning ns value) _ x e in
      subst (λ (y : trees.Stmt × Names). Says (stmt_tokens (written.Print value)) (stmt_symbols y.0)) (some_is _ _ v.then)
      (λ rest. ap (λ zs. symbols.Print ∷ zs) (expr_plain value (Fixed symbols.Semicolon ∷ rest)))
  stmt_says (written.Sync names event) loops ns x e =
      let b = part (bind_names ns names) _ x e in
      let a = part (event_meaning b.first.1 event) _ x b.then in
      if_else_some (is_small a.first.0) _ x a.then
      (λ _ f. subst (λ (y : trees.Stmt × Names). Says (stmt_tokens (written.Sync names event)) (stmt_symbols y.0)) (some_is _ _ f)
      (λ rest. received_plain names (Fixed symbols.Sync ∷ event_tokens event (Fixed symbols.Semicolon ∷ rest)) ∙ ap (λ zs. symbols.Sync ∷ zs) (event_says event b.first.1 a.first a.is (Fixed symbols.Semicolon ∷ rest))))
  stmt_says (written.If test first second) loops ns x e =
      let t = part (test_meaning ns test) _ x e in
      let a = part (block_meaning loops ns first) _ x t.then in
      let b = part (block_meaning loops a.first.1 second) _ x a.then in
      subst (λ (y : trees.Stmt × Names). Says (stmt_tokens (written.If test first second)) (stmt_symbols y.0)) (some_is _ _ b.then)
      (λ rest. ap (λ zs. symbols.If ∷ zs)
      (test_plain test (Fixed symbols.OpenBrace ∷ body_tokens first (Fixed symbols.Else ∷ Fixed symbols.OpenBrace ∷ body_tokens second rest))
      ∙ says_both (body_tokens first) (λ ts. Fixed symbols.Else ∷ Fixed symbols.OpenBrace ∷ body_tokens second ts) (block_symbols a.first.0) (block_symbols b.first.0) (block_says first loops ns a.first a.is) (block_says second loops a.first.1 b.first b.is) rest))
  stmt_says (written.Loop times body) loops ns x e =
      if_else_some loops _ x e
      (λ _ f.
      let b = part (block_meaning true ns body) _ x f in
      let t = part (as_turn b.first.0) _ x b.then in
      subst (λ (y : trees.Stmt × Names). Says (stmt_tokens (written.Loop times body)) (stmt_symbols y.0)) (some_is _ _ t.then)
      (λ rest. ap (λ zs. symbols.Loop ∷ zs) (block_says body true ns b.first b.is rest ∙ ap (λ zs. zs ++ token_symbols rest) (turn_symbols b.first.0 t.first t.is))))
  stmt_says (written.Forever body) loops ns x e =
      if_else_some loops _ x e
      (λ _ f.
      let b = part (block_meaning true ns body) _ x f in
      let t = part (as_turn b.first.0) _ x b.then in
      subst (λ (y : trees.Stmt × Names). Says (stmt_tokens (written.Forever body)) (stmt_symbols y.0)) (some_is _ _ t.then)
      (λ rest. ap (λ zs. symbols.Forever ∷ zs) (block_says body true ns b.first b.is rest ∙ ap (λ zs. zs ++ token_symbols rest) (turn_symbols b.first.0 t.first t.is))))
  stmt_says written.End loops ns x e = subst (λ (y : trees.Stmt × Names). Says (stmt_tokens written.End) (stmt_symbols y.0)) (some_is _ _ e) (λ rest. refl)
  stmt_says (written.Spawn process) loops ns x e =
      let p = part (place process ns.processes) _ x e in
      unless_some (is_among ns.spawned p.first) _ x p.then
      (λ new f. subst (λ (y : trees.Stmt × Names). Says (stmt_tokens (written.Spawn process)) (stmt_symbols y.0)) (some_is _ _ f) (λ rest. refl))

  block_says : (w : written.Block) (loops : Bool) (ns : Names) (x : trees.Block × Names) → block_meaning loops ns w ≡ Some x → Says (body_tokens w) (block_symbols x.0)
  block_says written.Done loops ns x e = subst (λ (y : trees.Block × Names). Says (body_tokens written.Done) (block_symbols y.0)) (some_is _ _ e) (λ rest. refl)
  block_says (written.Then stmt others) loops ns x e =
      let a = part (stmt_meaning loops ns stmt) _ x e in
      let b = part (block_meaning loops a.first.1 others) _ x a.then in
      subst (λ (y : trees.Block × Names). Says (body_tokens (written.Then stmt others)) (block_symbols y.0)) (some_is _ _ b.then)
      (says_both (stmt_tokens stmt) (body_tokens others) (stmt_symbols a.first.0) (block_symbols b.first.0) (stmt_says stmt loops ns a.first a.is) (block_says others loops a.first.1 b.first b.is))

-- SCRIPTS

channels_plain : (texts : List (List ℕ)) → Says (channels_tokens texts) []
channels_plain [] rest = refl
channels_plain (text ∷ texts) rest = channels_plain texts rest

processes_say : (ws : List written.Process) (channels names : List (List ℕ)) (spawned : List ℕ) (ps : List Proc) → processes_meaning channels names spawned ws ≡ Some ps → token_symbols (processes_tokens ws) ≡ all_symbols ps
unfolding processes_meaning
processes_say [] channels names spawned ps e = ap all_symbols (some_is _ _ e)
processes_say (w ∷ ws) channels names spawned ps e =
    let d = part (declare 64 names w.name) _ ps e in
    let b = part (block_meaning true (first_names channels names spawned) w.body) _ ps d.then in
    let o = part (processes_meaning channels d.first b.first.1.spawned ws) _ ps b.then in
    block_says w.body true (first_names channels names spawned) b.first b.is (processes_tokens ws)
    ∙ ap (λ zs. block_symbols b.first.0 ++ zs) (processes_say ws channels d.first b.first.1.spawned o.first o.is)
    ∙ ap all_symbols (some_is _ _ o.then)

-- what a text spells has the words of its statements
pub text_says : (bytes : List ℕ) (s : Script) → Spells bytes s → token_symbols (tokens_of bytes) ≡ all_symbols s.processes
unfolding script_meaning
text_says bytes s h =
    let w = h.written in
    let c = part (channels_meaning [] w.channels) _ s h.meaning in
    let p = part (processes_meaning c.first [] [] w.processes) _ s c.then in
    ap token_symbols h.tokens
    ∙ channels_plain w.channels (processes_tokens w.processes)
    ∙ processes_say w.processes c.first [] [] p.first p.is
    ∙ ap (λ (x : Script). all_symbols x.processes) (some_is _ _ p.then)
