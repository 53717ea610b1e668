-- The numbers and channels in the processes of a script that was read.
use Rattle.std.proofs.Common.{◌≡◌, ℕ, ◌+◌, ◌<◌, ◌≤◌, Bool, true, false, ◌||◌, leb, ltb, List, [], ◌∷◌, ◌++◌, length, Option, Some, None, is_some, refl, sym, ap, ◌∙◌, subst, arith}
use Rattle.std.proofs.lemmas.Bool.{and_parts}
use Rattle.std.proofs.lemmas.Bool.Decides.{nat_tests}
use Rattle.std.specs.Prelude.{⊤}
use Rattle.std.specs.List.{AllByRecursion}
use Rattle.std.proofs.lemmas.List.{length-append, length-map}
use Rattle.script_token.specs.Tokens.{Token, Fixed, Name}
use Rattle.script_token.specs.declared.kind.Symbol.TheVariants as symbols
use Rattle.script_grammar.specs.Meaning.{place, if_some, is_among, is_listed, Parts, linked, parts_term, Names, first_names, name_meaning, term_meaning, terms_meaning, expr_meaning, test_meaning, exprs_meaning, list_meaning, bound, bind, bind_all, bind_names, is_small, as_turn, event_meaning, events_meaning, stmt_meaning, block_meaning, declare, channels_meaning, processes_meaning}
use Rattle.script_reader.specs.Steps.{start}
use Rattle.script_reader.proofs.Keeping.{name_read}
use Rattle.script_tree.specs.declared.tree.Name.{Name as TreeName}
use Rattle.script_tree.specs.declared.tree.Name.TheVariants.{Variable, Channel}
use Rattle.script_tree.specs.declared.tree.Sign.{Sign}
use Rattle.script_tree.specs.Limits.{NameIsIn, base_count, nack_count}
use Rattle.script_tree.specs.Trees as trees
use Rattle.script_tree.specs.Trees.{LoopBody}
use Rattle.script_tree.specs.Processes.{Proc}
use Rattle.script_reader.specs.Laws.{at}
use Rattle.script_grammar.specs.Written as written
use Rattle.script_grammar.specs.Written.{term_tokens, terms_tokens, expr_tokens, others_tokens, members_tokens, list_tokens, more_names_tokens, as_tokens, received_tokens, event_tokens, events_tokens, more_events_tokens, stmt_tokens, body_tokens, channels_tokens, processes_tokens}
use Rattle.script_grammar.proofs.Parts.{part, some_is, if_else_some, unless_some}
use Rattle.script_grammar.proofs.Places.{place_in}
use Rattle.script_reader.proofs.ReadNames.{name_again, neither}
use Rattle.script.specs.Sources.{Script}
use Rattle.script.specs.Spelling.{script_meaning, Spells}
use Rattle.script.proofs.Good.{Good, AllGood, texts_are_good}
use Rattle.thread.proofs.Keeping.{Rule, NameOf, OperandOf, TermOf, TermsOf, ExprOf, ListOf, EventOf, MembersOf, StmtOf, BlockOf, into_name, from_name}
use Rattle.journal_text.specs.Names.{Declared, names_of}
use Rattle.journal_text.proofs.Rules.{in_text}

-- a name that is declared is one more
declared_few : (names new : List (List ℕ)) (text : List ℕ) → declare 64 names text ≡ Some new → (length new ≡ length names + 1) × (length names < 64)
unfolding declare
declared_few names new text e =
    unless_some (is_some (place text names) || (leb 64 (length names) || ltb 32 (length text))) _ new e
    (λ may f.
    let free : leb 64 (length names) ≡ false = (neither (leb 64 (length names)) (ltb 32 (length text)) (neither (is_some (place text names)) (leb 64 (length names) || ltb 32 (length text)) may).1).0 in
    (ap (λ (ns : List (List ℕ)). length ns) (sym (some_is _ _ f)) ∙ length-append names (text ∷ []), grind (arith, nat_tests, free)))

module _ (d : Declared) (t : ℕ) (below : t < length d.threads) where
  abbrev rule : Rule
  rule = in_text d t below

  -- as many channels as are declared, and no more processes
  pub record Fits (ns : Names) : Type 0 where
    pub channels : length ns.channels ≡ length d.channels
    pub processes : length ns.processes ≤ length d.threads

  -- EXPRESSIONS

  known_name : (ns : Names) (name : TreeName) → Fits ns → NameIsIn (record { channels = length ns.channels; variables = length ns.variables; processes = length ns.processes }) name → NameOf rule name
  known_name ns (Variable v) f h = tt
  known_name ns (Channel c) f h = omega (arith, f.channels, h)

  name_text : (ns : Names) (text : List ℕ) (name : TreeName) → Fits ns → name_meaning ns text ≡ Some name → NameOf rule name
  name_text ns text name f e =
      let h = at ns (start [] [] []).counts in
      let read = name_read 1 h (Name text ∷ []) (name, []) (name_again 1 ns (start [] [] []).counts text name [] (omega arith) e) in
      known_name ns name f (read.is_in (record { channels = length ns.channels; variables = length ns.variables; processes = length ns.processes }) (record { channels = refl; variables = omega arith; processes = refl }))

  abbrev SignedOf : List (Sign × trees.Term) → Type 0
  SignedOf [] = ⊤
  SignedOf (p ∷ ps) = TermOf rule p.1 × SignedOf ps

  abbrev PartsOf : Parts → Type 0
  PartsOf p = OperandOf rule p.0 × SignedOf p.1

  signed_append : (xs ys : List (Sign × trees.Term)) → SignedOf xs → SignedOf ys → SignedOf (xs ++ ys)
  signed_append [] ys h k = k
  signed_append (x ∷ xs) ys h k = (h.0, signed_append xs ys h.1 k)

  linked_of : (ps : List (Sign × trees.Term)) → SignedOf ps → TermsOf rule (linked ps)
  unfolding linked
  linked_of [] h = tt
  linked_of (p ∷ ps) h = (h.0, linked_of ps h.1)

  as_term_of : (p : Parts) → PartsOf p → TermOf rule (parts_term p)
  as_term_of (first, []) h = h.0
  as_term_of (first, p ∷ ps) h = (h.0, linked_of (p ∷ ps) h.1)

  mutual
    unfolding term_meaning AllGood Good terms_meaning

    term_text : (w : written.Term) (ns : Names) (x : Parts) (rest : List Token) → Fits ns → term_meaning ns w ≡ Some x → AllGood (term_tokens w rest) → PartsOf x × AllGood rest
    term_text (written.OfNumber n) ns x rest f e g = subst (λ (p : Parts). PartsOf p × AllGood rest) (some_is _ _ e) ((g.0, tt), g.1)
    term_text (written.OfName text) ns x rest f e g =
        let p = part (name_meaning ns text) _ x e in
        subst (λ (q : Parts). PartsOf q × AllGood rest) (some_is _ _ p.then) ((name_text ns text p.first f p.is, tt), g.1)
    term_text (written.Grouped first more) ns x rest f e g =
        let p = part (term_meaning ns first) _ x e in
        let q = part (terms_meaning ns more) _ x p.then in
        let one = term_text first ns p.first (terms_tokens more (Fixed symbols.CloseParen ∷ rest)) f p.is g.1 in
        let two = terms_text more ns q.first (Fixed symbols.CloseParen ∷ rest) f q.is one.1 in
        subst (λ (y : Parts). PartsOf y × AllGood rest) (some_is _ _ q.then) ((one.0.0, signed_append p.first.1 q.first one.0.1 two.0), two.1.1)

    terms_text : (w : written.Terms) (ns : Names) (x : List (Sign × trees.Term)) (rest : List Token) → Fits ns → terms_meaning ns w ≡ Some x → AllGood (terms_tokens w rest) → SignedOf x × AllGood rest
    terms_text written.NoMore ns x rest f e g = subst (λ (y : List (Sign × trees.Term)). SignedOf y × AllGood rest) (some_is _ _ e) (tt, g)
    terms_text (written.Further sign term more) ns x rest f e g =
        let p = part (term_meaning ns term) _ x e in
        let q = part (terms_meaning ns more) _ x p.then in
        let one = term_text term ns p.first (terms_tokens more rest) f p.is g.1 in
        let two = terms_text more ns q.first rest f q.is one.1 in
        subst (λ (y : List (Sign × trees.Term)). SignedOf y × AllGood rest) (some_is _ _ q.then) ((as_term_of p.first one.0, two.0), two.1)

  expr_text : (w : written.Expr) (ns : Names) (x : trees.Expr) (rest : List Token) → Fits ns → expr_meaning ns w ≡ Some x → AllGood (expr_tokens w rest) → ExprOf rule x × AllGood rest
  unfolding expr_meaning term_meaning AllGood
  expr_text w ns x rest f e g =
      let p = part (term_meaning ns (written.Grouped w.first w.more)) _ x e in
      let one = grouped w.first w.more ns p.first rest f p.is g in
      subst (λ (y : trees.Expr). ExprOf rule y × AllGood rest) (some_is _ _ p.then) ((one.0.0, linked_of p.first.1 one.0.1), one.1)
    where
      -- without the parentheses round it
      grouped : (first : written.Term) (more : written.Terms) (ns : Names) (y : Parts) (rest : List Token) → Fits ns → term_meaning ns (written.Grouped first more) ≡ Some y → AllGood (term_tokens first (terms_tokens more rest)) → PartsOf y × AllGood rest
      grouped first more ns y rest f e g =
          let p = part (term_meaning ns first) _ y e in
          let q = part (terms_meaning ns more) _ y p.then in
          let one = term_text first ns p.first (terms_tokens more rest) f p.is g in
          let two = terms_text more ns q.first rest f q.is one.1 in
          subst (λ (z : Parts). PartsOf z × AllGood rest) (some_is _ _ q.then) ((one.0.0, signed_append p.first.1 q.first one.0.1 two.0), two.1)

  test_text : (w : written.Test) (ns : Names) (x : trees.Test) (rest : List Token) → Fits ns → test_meaning ns w ≡ Some x → AllGood (expr_tokens w.left (Fixed (written.relation_symbol w.relation) ∷ expr_tokens w.right rest)) → AllGood rest
  unfolding test_meaning AllGood
  test_text w ns x rest f e g =
      let p = part (expr_meaning ns w.left) _ x e in
      let q = part (expr_meaning ns w.right) _ x p.then in
      let one = expr_text w.left ns p.first (Fixed (written.relation_symbol w.relation) ∷ expr_tokens w.right rest) f p.is g in
      (expr_text w.right ns q.first rest f q.is one.1.1).1

  others_text : (ws : List written.Expr) (ns : Names) (xs : List trees.Expr) (rest : List Token) → Fits ns → exprs_meaning ns ws ≡ Some xs → AllGood (others_tokens ws rest) → ListOf rule xs × AllGood rest
  unfolding exprs_meaning AllGood
  others_text [] ns xs rest f e g = subst (λ (ys : List trees.Expr). ListOf rule ys × AllGood rest) (some_is _ _ e) (tt, g)
  others_text (w ∷ ws) ns xs rest f e g =
      let p = part (expr_meaning ns w) _ xs e in
      let q = part (exprs_meaning ns ws) _ xs p.then in
      let one = expr_text w ns p.first (others_tokens ws rest) f p.is g.1 in
      let two = others_text ws ns q.first rest f q.is one.1 in
      subst (λ (ys : List trees.Expr). ListOf rule ys × AllGood rest) (some_is _ _ q.then) ((one.0, two.0), two.1)

  members_text : (ws : List written.Expr) (ns : Names) (xs : List trees.Expr) (rest : List Token) → Fits ns → exprs_meaning ns ws ≡ Some xs → AllGood (members_tokens ws rest) → ListOf rule xs × AllGood rest
  unfolding exprs_meaning AllGood
  members_text [] ns xs rest f e g = subst (λ (ys : List trees.Expr). ListOf rule ys × AllGood rest) (some_is _ _ e) (tt, g)
  members_text (w ∷ ws) ns xs rest f e g =
      let p = part (expr_meaning ns w) _ xs e in
      let q = part (exprs_meaning ns ws) _ xs p.then in
      let one = expr_text w ns p.first (others_tokens ws rest) f p.is g in
      let two = others_text ws ns q.first rest f q.is one.1 in
      subst (λ (ys : List trees.Expr). ListOf rule ys × AllGood rest) (some_is _ _ q.then) ((one.0, two.0), two.1)

  list_text : (ws : List written.Expr) (ns : Names) (xs : List trees.Expr) (rest : List Token) → Fits ns → list_meaning ns ws ≡ Some xs → AllGood (list_tokens ws rest) → ListOf rule xs × AllGood rest
  unfolding list_meaning AllGood
  list_text ws ns xs rest f e g = if_else_some (leb (length ws) 3) _ xs e (λ few is.
      let one = members_text ws ns xs (Fixed symbols.CloseParen ∷ rest) f is g.1 in (one.0, one.1.1))

  -- NAMES THAT ARE BOUND

  bound_fits : (ns : Names) (text : List ℕ) → Fits ns → Fits (bound ns text).1
  bound_fits ns text f = at_place (place text ns.variables)
    where
      at_place : (o : Option ℕ) → Fits (if_some {B = ℕ × Names} o (λ v. (v, ns)) (length ns.variables, record ns { variables = ns.variables ++ text ∷ [] })).1
      at_place (Some v) = f
      at_place None = record { channels = f.channels; processes = f.processes }

  bind_fits : (list : List ℕ) (ns : Names) (text : List ℕ) (y : ℕ × Names) → bind list ns text ≡ Some y → Fits ns → Fits y.1
  unfolding bind
  bind_fits list ns text y e f =
      unless_some (is_some (place text ns.channels) || is_listed list (place text ns.variables)) _ y e (λ _ g.
      unless_some (ltb 32 (length text)) _ y g (λ _ h. subst (λ (z : ℕ × Names). Fits z.1) (some_is _ _ h) (bound_fits ns text f)))

  bind_all_fits : (texts : List (List ℕ)) (list : List ℕ) (ns : Names) (y : List ℕ × Names) → bind_all list ns texts ≡ Some y → Fits ns → Fits y.1
  unfolding bind_all
  bind_all_fits [] list ns y e f = subst (λ (z : List ℕ × Names). Fits z.1) (some_is _ _ e) f
  bind_all_fits (text ∷ texts) list ns y e f =
      let p = part (bind list ns text) _ y e in
      bind_all_fits texts (list ++ p.first.0 ∷ []) p.first.1 y p.then (bind_fits list ns text p.first p.is f)

  bind_names_fits : (texts : List (List ℕ)) (ns : Names) (y : Option (List ℕ) × Names) → bind_names ns texts ≡ Some y → Fits ns → Fits y.1
  unfolding bind_names
  bind_names_fits [] ns y e f = subst (λ (z : Option (List ℕ) × Names). Fits z.1) (some_is _ _ e) f
  bind_names_fits (text ∷ texts) ns y e f = if_else_some (leb (length texts) 2) _ y e (λ _ g.
      let p = part (bind_all [] ns (text ∷ texts)) _ y g in
      subst (λ (z : Option (List ℕ) × Names). Fits z.1) (some_is _ _ p.then) (bind_all_fits (text ∷ texts) [] ns p.first p.is f))

  more_names_good : (texts : List (List ℕ)) (rest : List Token) → AllGood (more_names_tokens texts rest) → AllGood rest
  unfolding AllGood
  more_names_good [] rest g = g
  more_names_good (text ∷ texts) rest g = more_names_good texts rest g.1.1

  as_good : (texts : List (List ℕ)) (rest : List Token) → AllGood (as_tokens texts rest) → AllGood rest
  unfolding AllGood
  as_good [] rest g = g
  as_good (text ∷ texts) rest g = more_names_good texts rest g.1.1

  received_good : (texts : List (List ℕ)) (rest : List Token) → AllGood (received_tokens texts rest) → AllGood rest
  unfolding AllGood
  received_good [] rest g = g
  received_good (text ∷ texts) rest g = (more_names_good texts (Fixed symbols.Arrow ∷ rest) g.1).1

  -- EVENTS, STATEMENTS AND BLOCKS

  small_of : (e : trees.Event) → is_small e ≡ true → base_count e ≤ 8
  small_of e h = let parts = and_parts (leb (base_count e) 8) (leb (nack_count e) 4) h in let small = parts.0 in grind (arith, nat_tests, small)

  turn_text : (b : trees.Block) (turn : LoopBody) → as_turn b ≡ Some turn → BlockOf rule b → (EventOf rule turn.event × (base_count turn.event ≤ 8)) × BlockOf rule turn.rest
  turn_text trees.Stops turn e h = absurd cc
  turn_text (trees.Runs (trees.Syncs names event) rest) turn e h =
      subst (λ (x : LoopBody). (EventOf rule x.event × (base_count x.event ≤ 8)) × BlockOf rule x.rest) (some_is _ _ e) h
  turn_text (trees.Runs (trees.Lets name value) rest) turn e h = absurd cc
  turn_text (trees.Runs (trees.Prints value) rest) turn e h = absurd cc
  turn_text (trees.Runs (trees.Branches test first second) rest) turn e h = absurd cc
  turn_text (trees.Runs (trees.Loops times names event body) rest) turn e h = absurd cc
  turn_text (trees.Runs (trees.LoopsForever names event body) rest) turn e h = absurd cc
  turn_text (trees.Runs trees.Ends rest) turn e h = absurd cc
  turn_text (trees.Runs (trees.Spawns process) rest) turn e h = absurd cc

  abbrev Told : {A : Type 0} → (A → Type 0) → List Token → A × Names → Type 0
  Told P rest x = P x.0 × Fits x.1 × AllGood rest

  mutual
    unfolding event_meaning AllGood events_meaning stmt_meaning block_meaning

    event_text : (w : written.Event) (ns : Names) (x : trees.Event × Names) (rest : List Token) → Fits ns → event_meaning ns w ≡ Some x → AllGood (event_tokens w rest) → Told (EventOf rule) rest x
    event_text (written.Send channel list) ns x rest f e g =
        let p = part (name_meaning ns channel) _ x e in
        let q = part (list_meaning ns list) _ x p.then in
        let one = list_text list ns q.first rest f q.is g.1.1 in
        subst (Told (EventOf rule) rest) (some_is _ _ q.then) ((into_name rule p.first (name_text ns channel p.first f p.is), one.0), f, one.1)
    event_text (written.Recv channel) ns x rest f e g =
        let p = part (name_meaning ns channel) _ x e in
        subst (Told (EventOf rule) rest) (some_is _ _ p.then) (from_name rule p.first (name_text ns channel p.first f p.is), f, g.1.1)
    event_text (written.Always list) ns x rest f e g =
        let q = part (list_meaning ns list) _ x e in
        let one = list_text list ns q.first rest f q.is g.1 in
        subst (Told (EventOf rule) rest) (some_is _ _ q.then) (one.0, f, one.1)
    event_text written.Never ns x rest f e g = subst (Told (EventOf rule) rest) (some_is _ _ e) (tt, f, g.1)
    event_text (written.Cancelled nack) ns x rest f e g =
        let p = part (name_meaning ns nack) _ x e in
        subst (Told (EventOf rule) rest) (some_is _ _ p.then) (name_text ns nack p.first f p.is, f, g.1.1)
    event_text (written.Joined process) ns x rest f e g =
        let p = part (place process ns.processes) _ x e in
        let few = place_in process ns.processes p.first p.is in
        subst (Told (EventOf rule) rest) (some_is _ _ p.then) (omega (arith, few, f.processes), f, g.1.1)
    event_text (written.Choose members) ns x rest f e g =
        let p = part (events_meaning ns members) _ x e in
        let one = events_text members ns p.first (Fixed symbols.CloseBracket ∷ rest) f p.is g.1.1 in
        subst (Told (EventOf rule) rest) (some_is _ _ p.then) (one.0, one.1, one.2.1)
    event_text (written.Wrap event names list) ns x rest f e g =
        let p = part (event_meaning ns event) _ x e in
        let b = part (bind_names p.first.1 names) _ x p.then in
        let l = part (list_meaning b.first.1 list) _ x b.then in
        let one = event_text event ns p.first (as_tokens names (Fixed symbols.To ∷ list_tokens list rest)) f p.is g.1 in
        let fits = bind_names_fits names p.first.1 b.first b.is one.1 in
        let two = list_text list b.first.1 l.first rest fits l.is (as_good names (Fixed symbols.To ∷ list_tokens list rest) one.2).1 in
        subst (Told (EventOf rule) rest) (some_is _ _ l.then) ((one.0, two.0), fits, two.1)
    event_text (written.Guard body event) ns x rest f e g =
        let b = part (block_meaning false ns body) _ x e in
        let p = part (event_meaning b.first.1 event) _ x b.then in
        let one = block_text false body ns b.first (event_tokens event rest) f b.is g.1.1 in
        let two = event_text event b.first.1 p.first rest one.1 p.is one.2 in
        subst (Told (EventOf rule) rest) (some_is _ _ p.then) ((one.0, two.0), two.1, two.2)
    event_text (written.Nack name body event) ns x rest f e g =
        let n = part (bind [] ns name) _ x e in
        let b = part (block_meaning false n.first.1 body) _ x n.then in
        let p = part (event_meaning b.first.1 event) _ x b.then in
        let one = block_text false body n.first.1 b.first (event_tokens event rest) (bind_fits [] ns name n.first n.is f) b.is g.1.1.1 in
        let two = event_text event b.first.1 p.first rest one.1 p.is one.2 in
        subst (Told (EventOf rule) rest) (some_is _ _ p.then) ((one.0, two.0), two.1, two.2)

    events_text : (w : written.Events) (ns : Names) (x : trees.Events × Names) (rest : List Token) → Fits ns → events_meaning ns w ≡ Some x → AllGood (events_tokens w rest) → Told (MembersOf rule) rest x
    events_text written.NoEvents ns x rest f e g = subst (Told (MembersOf rule) rest) (some_is _ _ e) (tt, f, g)
    events_text (written.Another event others) ns x rest f e g =
        let p = part (event_meaning ns event) _ x e in
        let q = part (events_meaning p.first.1 others) _ x p.then in
        let one = event_text event ns p.first (more_events_tokens others rest) f p.is g in
        let two = more_events_text others p.first.1 q.first rest one.1 q.is one.2 in
        subst (Told (MembersOf rule) rest) (some_is _ _ q.then) ((one.0, two.0), two.1, two.2)

    more_events_text : (w : written.Events) (ns : Names) (x : trees.Events × Names) (rest : List Token) → Fits ns → events_meaning ns w ≡ Some x → AllGood (more_events_tokens w rest) → Told (MembersOf rule) rest x
    more_events_text written.NoEvents ns x rest f e g = subst (Told (MembersOf rule) rest) (some_is _ _ e) (tt, f, g)
    more_events_text (written.Another event others) ns x rest f e g =
        let p = part (event_meaning ns event) _ x e in
        let q = part (events_meaning p.first.1 others) _ x p.then in
        let one = event_text event ns p.first (more_events_tokens others rest) f p.is g.1 in
        let two = more_events_text others p.first.1 q.first rest one.1 q.is one.2 in
        subst (Told (MembersOf rule) rest) (some_is _ _ q.then) ((one.0, two.0), two.1, two.2)

    stmt_text : (loops : Bool) (w : written.Stmt) (ns : Names) (x : trees.Stmt × Names) (rest : List Token) → Fits ns → stmt_meaning loops ns w ≡ Some x → AllGood (stmt_tokens w rest) → Told (StmtOf rule) rest x
    stmt_text loops (written.Let name value) ns x rest f e g =
        let n = part (bind [] ns name) _ x e in
        let v = part (expr_meaning n.first.1 value) _ x n.then in
        let fits = bind_fits [] ns name n.first n.is f in
        let one = expr_text value n.first.1 v.first (Fixed symbols.Semicolon ∷ rest) fits v.is g.1.1.1 in
        subst (Told (StmtOf rule) rest) (some_is _ _ v.then) (one.0, fits, one.1.1)
    stmt_text loops (written.Print value) ns x rest f e g =
        let v = part (expr_meaning ns value) _ x e in
        let one = expr_text value ns v.first (Fixed symbols.Semicolon ∷ rest) f v.is g.1 in
        subst (Told (StmtOf rule) rest) (some_is _ _ v.then) (one.0, f, one.1.1)
    stmt_text loops (written.Sync names event) ns x rest f e g =
        let b = part (bind_names ns names) _ x e in
        let p = part (event_meaning b.first.1 event) _ x b.then in
        let fits = bind_names_fits names ns b.first b.is f in
        let good = received_good names (Fixed symbols.Sync ∷ event_tokens event (Fixed symbols.Semicolon ∷ rest)) g in
        let one = event_text event b.first.1 p.first (Fixed symbols.Semicolon ∷ rest) fits p.is good.1 in
        if_else_some (is_small p.first.0) _ x p.then (λ small is.
        subst (Told (StmtOf rule) rest) (some_is _ _ is) ((one.0, small_of p.first.0 small), one.1, one.2.1))
    stmt_text loops (written.If test first second) ns x rest f e g =
        let p = part (test_meaning ns test) _ x e in
        let b = part (block_meaning loops ns first) _ x p.then in
        let c = part (block_meaning loops b.first.1 second) _ x b.then in
        let good = test_text test ns p.first (Fixed symbols.OpenBrace ∷ body_tokens first (Fixed symbols.Else ∷ Fixed symbols.OpenBrace ∷ body_tokens second rest)) f p.is g.1 in
        let one = block_text loops first ns b.first (Fixed symbols.Else ∷ Fixed symbols.OpenBrace ∷ body_tokens second rest) f b.is good.1 in
        let two = block_text loops second b.first.1 c.first rest one.1 c.is one.2.1.1 in
        subst (Told (StmtOf rule) rest) (some_is _ _ c.then) ((one.0, two.0), two.1, two.2)
    stmt_text loops (written.Loop times body) ns x rest f e g = if_else_some loops _ x e (λ _ is.
        let b = part (block_meaning true ns body) _ x is in
        let turn = part (as_turn b.first.0) _ x b.then in
        let one = block_text true body ns b.first rest f b.is g.1.1.1 in
        subst (Told (StmtOf rule) rest) (some_is _ _ turn.then) (turn_text b.first.0 turn.first turn.is one.0, one.1, one.2))
    stmt_text loops (written.Forever body) ns x rest f e g = if_else_some loops _ x e (λ _ is.
        let b = part (block_meaning true ns body) _ x is in
        let turn = part (as_turn b.first.0) _ x b.then in
        let one = block_text true body ns b.first rest f b.is g.1.1 in
        subst (Told (StmtOf rule) rest) (some_is _ _ turn.then) (turn_text b.first.0 turn.first turn.is one.0, one.1, one.2))
    stmt_text loops written.End ns x rest f e g = subst (Told (StmtOf rule) rest) (some_is _ _ e) (tt, f, g.1.1)
    stmt_text loops (written.Spawn process) ns x rest f e g =
        let p = part (place process ns.processes) _ x e in
        unless_some (is_among ns.spawned p.first) _ x p.then (λ _ is.
        subst (Told (StmtOf rule) rest) (some_is _ _ is) (tt, record { channels = f.channels; processes = f.processes }, g.1.1.1))

    pub block_text : (loops : Bool) (w : written.Block) (ns : Names) (x : trees.Block × Names) (rest : List Token) → Fits ns → block_meaning loops ns w ≡ Some x → AllGood (body_tokens w rest) → Told (BlockOf rule) rest x
    block_text loops written.Done ns x rest f e g = subst (Told (BlockOf rule) rest) (some_is _ _ e) (tt, f, g.1)
    block_text loops (written.Then stmt others) ns x rest f e g =
        let s = part (stmt_meaning loops ns stmt) _ x e in
        let b = part (block_meaning loops s.first.1 others) _ x s.then in
        let one = stmt_text loops stmt ns s.first (body_tokens others rest) f s.is g in
        let two = block_text loops others s.first.1 b.first rest one.1 b.is one.2 in
        subst (Told (BlockOf rule) rest) (some_is _ _ b.then) ((one.0, two.0), two.1, two.2)

  -- PROCESSES

  abbrev pub IsInText : Proc → Type 0
  IsInText p = BlockOf rule p.body

  processes_text : (ws : List written.Process) (channels names : List (List ℕ)) (spawned : List ℕ) (ps : List Proc) → length channels ≡ length d.channels → length names + length ps ≤ length d.threads → processes_meaning channels names spawned ws ≡ Some ps → AllGood (processes_tokens ws) → AllByRecursion IsInText ps
  unfolding processes_meaning AllGood
  processes_text [] channels names spawned ps f few e g = subst (AllByRecursion IsInText) (some_is _ _ e) tt
  processes_text (w ∷ ws) channels names spawned ps f few e g =
      let n = part (declare 64 names w.name) _ ps e in
      let b = part (block_meaning true (first_names channels names spawned) w.body) _ ps n.then in
      let o = part (processes_meaning channels n.first b.first.1.spawned ws) _ ps b.then in
      let more = (declared_few names n.first w.name n.is).0 in
      let one = block_text true w.body (first_names channels names spawned) b.first (processes_tokens ws) (record { channels = f; processes = omega (arith, few) }) b.is g.1.1.1 in
      subst (AllByRecursion IsInText) (some_is _ _ o.then) (one.0, processes_text ws channels n.first b.first.1.spawned o.first f (omega (arith, few, more, ap (λ (qs : List Proc). length qs) (some_is _ _ o.then))) o.is one.2)

  channels_good : (texts : List (List ℕ)) (rest : List Token) → AllGood (channels_tokens texts rest) → AllGood rest
  unfolding AllGood
  channels_good [] rest g = g
  channels_good (text ∷ texts) rest g = channels_good texts rest g.1.1.1

-- SCRIPTS

few_processes : (ws : List written.Process) (channels names : List (List ℕ)) (spawned : List ℕ) (ps : List Proc) → processes_meaning channels names spawned ws ≡ Some ps → length names ≤ 64 → length names + length ps ≤ 64
unfolding processes_meaning
few_processes [] channels names spawned ps e h = omega (arith, h, ap (λ (qs : List Proc). length qs) (some_is _ _ e))
few_processes (w ∷ ws) channels names spawned ps e h =
    let n = part (declare 64 names w.name) _ ps e in
    let b = part (block_meaning true (first_names channels names spawned) w.body) _ ps n.then in
    let o = part (processes_meaning channels n.first b.first.1.spawned ws) _ ps b.then in
    let few = declared_few names n.first w.name n.is in
    let others = few_processes ws channels n.first b.first.1.spawned o.first o.is (omega (arith, few.0, few.1)) in
    omega (arith, few.0, others, ap (λ (qs : List Proc). length qs) (some_is _ _ o.then))

-- what a script that was read says of its processes
pub record HasText (s : Script) : Type 0 where
  pub few : length s.processes ≤ 64
  pub each : (t : ℕ) (below : t < length (names_of s).threads) → AllByRecursion (IsInText (names_of s) t below) s.processes

pub has_text : (bytes : List ℕ) (s : Script) → Spells bytes s → HasText s
unfolding script_meaning
has_text bytes s h =
    let w = h.written in
    let c = part (channels_meaning [] w.channels) _ s h.meaning in
    let p = part (processes_meaning c.first [] [] w.processes) _ s c.then in
    let same = some_is _ _ p.then in
    let channels : c.first ≡ s.channels = ap (λ (x : Script). x.channels) same in
    let processes : p.first ≡ s.processes = ap (λ (x : Script). x.processes) same in
    let good = subst AllGood h.tokens (texts_are_good bytes) in
    record {
      few = omega (arith, few_processes w.processes c.first [] [] p.first p.is (omega arith), ap (λ (qs : List Proc). length qs) processes);
      each = λ t below.
          let d = names_of s in
          let count : length p.first ≡ length d.threads = ap (λ (qs : List Proc). length qs) processes ∙ sym (length-map s.processes (λ (q : Proc). q.name)) in
          subst (AllByRecursion (IsInText d t below)) processes
          (processes_text d t below w.processes c.first [] [] p.first (ap (λ (x : List (List ℕ)). length x) channels) (omega (arith, count)) p.is (channels_good d t below w.channels (processes_tokens w.processes) good));
    }
