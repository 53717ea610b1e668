-- Tests, lists of expressions and lists of names: what is written, and where reading it stops.
use Rattle.std.proofs.Common.{◌≡◌, ◌⊎◌, inl, inr, ⊎_elim, ℕ, zero, suc, ◌-◌, Bool, true, false, cond, List, [], ◌∷◌, ◌++◌, length, Option, Some, None, Result, Ok, Err, refl, sym, ap, ◌∙◌}
use Rattle.script_token.specs.Tokens.{Token, Fixed, same_symbol}
use Rattle.script_token.specs.Tokens as tokens
use Rattle.script_token.specs.declared.kind.Symbol.{Symbol}
use Rattle.script_token.specs.declared.kind.Symbol.TheVariants.{OpenParen, CloseParen, Comma, Equal, Less}
use Rattle.script_tree.specs.Trees as trees
use Rattle.script_tree.specs.declared.tree.Name.{Name as Meaning}
use Rattle.script_tree.specs.declared.tree.Relation.{Relation}
use Rattle.script_tree.specs.declared.tree.Relation.TheVariants as relations
use Rattle.script_reader.specs.Steps.{Told, ◌>>=◌, stop_at, next_is, accept_at, expect_at, Here, meaning}
use Rattle.script_grammar.specs.Meaning.{if_some}
use Rattle.script_reader.specs.Exprs.{expr_at, relation_at, test_at, fourth_at, members_at, list_at}
use Rattle.script_reader.specs.declared.fault.Problem.{Problem}
use Rattle.script_reader.specs.declared.fault.Problem.TheVariants.{Syntax, UnknownName, TooMany}
use Rattle.script_grammar.specs.Written.{Term, OfNumber, OfName, Grouped, Terms, NoMore, Expr, term_tokens, Test, relation_symbol, expr_tokens, test_tokens, others_tokens, members_tokens, list_tokens}
use Rattle.script_reader.proofs.ReadFronts.{is_next, same_one}
use Rattle.script_faults.specs.Notes.{Note, SameFront, also, plain, read_note, term_notes, expr_notes, test_notes, others_notes, more_notes, members_notes, list_notes}
use Rattle.script_faults.specs.Laws.{NoSign, Any}
use Rattle.script_faults.proofs.Facts.{Shape, shape_one, shape_seq, shape_none, Lang, Facts, Bad, Stops, Noted, seq, bind, then, under, turned, instead, giving, give, nothing, gives, either, cases, choose, next_same, stops_with, bad_at_once}
use Rattle.script_faults.proofs.Words.{accept_both, word, accept_facts, expect_facts}
use Rattle.script_faults.proofs.Exprs.{sign_ends, expr_shape, expr_lang, expr_facts}

-- RELATIONS AND TESTS

abbrev pub relation_lang : ℕ → Lang (Unit {0}) (Relation × List Token) Any
relation_lang nesting = record { W = Relation; default = relations.Equal; spell = λ r rest. Fixed (relation_symbol r) ∷ rest; notes = λ r. plain nesting ∷ []; join = λ r x rest. (r, rest); shape = λ r. shape_one (Fixed (relation_symbol r)) (plain nesting) }

module _ (nesting : ℕ) where
  abbrev equal_lang : Lang (Unit {0}) (Relation × List Token) Any
  equal_lang = giving (word Equal nesting) (λ w x rest. (relations.Equal, rest))

  abbrev less_lang : Lang (Unit {0}) (Relation × List Token) Any
  less_lang = giving (word Less nesting) (λ w x rest. (relations.Less, rest))

  abbrev relations_lang : Lang (Unit {0}) (Relation × List Token) Any
  relations_lang = either equal_lang less_lang

  less_first : (rest : List Token) → next_is Equal (Fixed Less ∷ rest) ≡ false
  unfolding next_is
  less_first rest = refl

  relations_read : Facts Any relations_lang (λ ts. relation_at nesting ts)
  unfolding relation_at
  relations_read =
      choose (next_is Equal) (next_same Equal) equal_lang less_lang (λ ts. accept_at nesting ts >>= λ rest. Ok (relations.Equal, rest)) (λ ts. expect_at nesting Less ts >>= λ rest. Ok (relations.Less, rest)) (λ w rest e. is_next Equal rest) (λ w rest e. less_first rest)
      (give (word Equal nesting) (λ w x rest. (relations.Equal, rest)) (λ ts. accept_at nesting ts) (λ rest. (relations.Equal, rest)) (λ w x. x) (λ w x rest. refl) (accept_facts nesting Equal (λ ts p. p.1)))
      (give (word Less nesting) (λ w x rest. (relations.Less, rest)) (λ ts. expect_at nesting Less ts) (λ rest. (relations.Less, rest)) (λ w x. x) (λ w x rest. refl) (expect_facts nesting Less))

  abbrev to_relation : relations_lang.W → Relation
  to_relation (inl w) = relations.Equal
  to_relation (inr w) = relations.Less

  abbrev from_relation : Relation → relations_lang.W
  from_relation relations.Equal = inl tt
  from_relation relations.Less = inr tt

  relation_spell_to : (w : relations_lang.W) (rest : List Token) → Fixed (relation_symbol (to_relation w)) ∷ rest ≡ relations_lang.spell w rest
  relation_spell_to (inl w) rest = refl
  relation_spell_to (inr w) rest = refl

  relation_notes_to : (w : relations_lang.W) → (plain nesting ∷ []) ≡ relations_lang.notes w
  relation_notes_to (inl w) = refl
  relation_notes_to (inr w) = refl

  relation_spell_from : (r : Relation) (rest : List Token) → Fixed (relation_symbol r) ∷ rest ≡ relations_lang.spell (from_relation r) rest
  relation_spell_from relations.Equal rest = refl
  relation_spell_from relations.Less rest = refl

  relation_notes_from : (r : Relation) → (plain nesting ∷ []) ≡ relations_lang.notes (from_relation r)
  relation_notes_from relations.Equal = refl
  relation_notes_from relations.Less = refl

  relation_joined : (r : Relation) (x : Unit {0}) (rest : List Token) → relations_lang.join (from_relation r) x rest ≡ (r, rest)
  relation_joined relations.Equal x rest = refl
  relation_joined relations.Less x rest = refl

  pub relation_facts : Facts Any (relation_lang nesting) (λ ts. relation_at nesting ts)
  relation_facts = turned relations_lang (relation_lang nesting) (λ ts. relation_at nesting ts) (λ ts. relation_at nesting ts) (record {
    to = to_relation;
    spell_to = relation_spell_to;
    notes_to = relation_notes_to;
    from = from_relation;
    spell_from = relation_spell_from;
    notes_from = relation_notes_from;
    value = λ w x. x;
    oks = λ ts w x rest e. e ∙ ap (λ (y : Relation × List Token). Ok y) (relation_joined w x rest);
    errs = λ ts t e. e;
  }) relations_read

relation_ends : (r : Relation) (rest : List Token) → NoSign (Fixed (relation_symbol r) ∷ rest)
unfolding next_is
relation_ends relations.Equal rest = refl
relation_ends relations.Less rest = refl

pub test_shape : (t : Test) (nesting : ℕ) (h : Here) → Shape (test_tokens t) (test_notes nesting h t)
unfolding test_notes
test_shape t nesting h =
    shape_seq (expr_tokens t.left) (λ r. Fixed (relation_symbol t.relation) ∷ expr_tokens t.right r) _ _ (expr_shape t.left nesting h)
    (shape_seq (λ r. Fixed (relation_symbol t.relation) ∷ r) (expr_tokens t.right) (plain nesting ∷ []) _ (shape_one (Fixed (relation_symbol t.relation)) _) (expr_shape t.right nesting h))

abbrev no_expr : Expr
no_expr = record { first = OfNumber 0; more = NoMore }

abbrev pub test_lang : ℕ → Here → Lang trees.Test (trees.Test × List Token) NoSign
test_lang nesting h = record { W = Test; default = record { left = no_expr; relation = relations.Equal; right = no_expr }; spell = test_tokens; notes = test_notes nesting h; join = λ w x rest. (x, rest); shape = λ w. test_shape w nesting h }

module _ (nesting : ℕ) (h : Here) where
  abbrev test_end : trees.Expr → Relation → trees.Expr × List Token → trees.Test × List Token
  test_end left relation right = (record { left = left; relation = relation; right = right.0 }, right.1)

  abbrev right_lang : Lang trees.Test (trees.Test × List Token) NoSign
  right_lang = giving (expr_lang nesting h) (λ w x rest. (x, rest))

  abbrev test_parts : Lang trees.Test (trees.Test × List Token) NoSign
  test_parts = seq (expr_lang nesting h) (λ a. seq (relation_lang nesting) (λ r. right_lang))

  test_reads : Facts Any test_parts (λ ts. test_at nesting h ts)
  unfolding test_at
  test_reads =
      bind (expr_lang nesting h) (λ a. seq (relation_lang nesting) (λ r. right_lang)) (λ ts. expr_at nesting h ts) (λ left. relation_at nesting left.1 >>= λ relation. expr_at nesting h relation.1 >>= λ right. Ok (test_end left.0 relation.0 right)) sign_ends (λ w v rest e. relation_ends v.0 _)
      (expr_facts nesting h)
      (λ w x clean.
      under (seq (relation_lang nesting) (λ r. right_lang)) _ (λ ts p. tt)
      (then (relation_lang nesting) (λ r. right_lang) (λ ts. relation_at nesting ts) (λ relation. expr_at nesting h relation.1 >>= λ right. Ok (test_end x relation.0 right)) (relation_facts nesting)
      (λ r y clean'. give (expr_lang nesting h) (λ w x rest. (x, rest)) (λ ts. expr_at nesting h ts) (λ right. test_end x r right) (λ w z. record { left = x; relation = r; right = z }) (λ w z rest. refl) (expr_facts nesting h))))

  pub test_facts : Facts Any (test_lang nesting h) (λ ts. test_at nesting h ts)
  unfolding test_notes
  test_facts = turned test_parts (test_lang nesting h) (λ ts. test_at nesting h ts) (λ ts. test_at nesting h ts) (record {
    to = λ w. record { left = w.0; relation = w.1.0; right = w.1.1 };
    spell_to = λ w rest. refl;
    notes_to = λ w. refl;
    from = λ w. (w.left, (w.relation, w.right));
    spell_from = λ w rest. refl;
    notes_from = λ w. refl;
    value = λ w x. x;
    oks = λ ts w x rest e. e;
    errs = λ ts t e. e;
  }) test_reads

-- MEMBERS OF A LIST

abbrev pub Last : List Token → Type 0
Last rest = NoSign rest × (next_is Comma rest ≡ false)

last_ends : (a b : List Token) → SameFront a b → Last a → Last b
last_ends a b h e = (sign_ends a b h e.0, sym (next_same Comma a b h) ∙ e.1)

comma_ends : (rest : List Token) → NoSign (Fixed Comma ∷ rest)
unfolding next_is
comma_ends rest = refl

others_shape : (es : List Expr) (nesting : ℕ) (h : Here) → Shape (others_tokens es) (others_notes nesting h es)
unfolding others_notes
others_shape [] nesting h = shape_none
others_shape (e ∷ es) nesting h =
    shape_seq (λ r. Fixed Comma ∷ r) (λ r. expr_tokens e (others_tokens es r)) (plain nesting ∷ []) _ (shape_one (Fixed Comma) _) (shape_seq (expr_tokens e) (others_tokens es) _ _ (expr_shape e nesting h) (others_shape es nesting h))

also_length : (p : Problem × ℕ) (notes : List Note) → length (also p notes) ≡ length notes
also_length p [] = refl
also_length p (None ∷ notes) = refl
also_length p (Some q ∷ notes) = refl

pub also_shape : (p : Problem × ℕ) (spell : List Token → List Token) (notes : List Note) → Shape spell notes → Shape spell (also p notes)
also_shape p spell notes s = record { text = s.text; is = s.is; count = also_length p notes ∙ s.count }

fourth_shape : (e : Expr) (es : List Expr) (nesting : ℕ) (h : Here) → Shape (λ r. expr_tokens e (others_tokens es r)) (also (TooMany, 0) (expr_notes nesting h e ++ others_notes nesting h es))
fourth_shape e es nesting h = also_shape (TooMany, 0) _ _ (shape_seq (expr_tokens e) (others_tokens es) _ _ (expr_shape e nesting h) (others_shape es nesting h))

more_shape : (es : List Expr) (n nesting : ℕ) (h : Here) → Shape (others_tokens es) (more_notes n nesting h es)
unfolding more_notes
more_shape [] n nesting h = shape_none
more_shape (e ∷ es) zero nesting h = shape_seq (λ r. Fixed Comma ∷ r) (λ r. expr_tokens e (others_tokens es r)) (plain nesting ∷ []) _ (shape_one (Fixed Comma) _) (fourth_shape e es nesting h)
more_shape (e ∷ es) (suc n) nesting h =
    shape_seq (λ r. Fixed Comma ∷ r) (λ r. expr_tokens e (others_tokens es r)) (plain nesting ∷ []) _ (shape_one (Fixed Comma) _) (shape_seq (expr_tokens e) (others_tokens es) _ _ (expr_shape e nesting h) (more_shape es n nesting h))

abbrev Exprs : Type 0
Exprs = List trees.Expr × List Token

abbrev more_lang : ℕ → ℕ → Here → Lang (List trees.Expr) Exprs Last
more_lang n nesting h = record { W = List Expr; default = []; spell = others_tokens; notes = more_notes n nesting h; join = λ w x rest. (x, rest); shape = λ w. more_shape w n nesting h }

-- THE FOURTH MEMBER

abbrev fourth_lang : ℕ → Here → Lang (List trees.Expr) Exprs Last
fourth_lang nesting h = record {
  W = Expr × List Expr;
  default = (no_expr, []);
  spell = λ w rest. expr_tokens w.0 (others_tokens w.1 rest);
  notes = λ w. also (TooMany, 0) (expr_notes nesting h w.0 ++ others_notes nesting h w.1);
  join = λ w x rest. (x, rest);
  shape = λ w. fourth_shape w.0 w.1 nesting h;
}

abbrev fourth_reader : Here → List Token → Result Exprs Told
fourth_reader h rest = stop_at (fourth_at h rest) rest

also_plain : (nesting : ℕ) (notes : List Note) → also (TooMany, 0) (plain nesting ∷ notes) ≡ Some (TooMany, 0) ∷ notes
also_plain nesting notes = at_note (plain nesting) (⊎_elim (λ a. inl a.0) (λ b. inr b.0) (accept_both nesting (tokens.Bad)))
  where
    at_note : (n : Note) → (n ≡ None) ⊎ (n ≡ Some (TooMany, 0)) → also (TooMany, 0) (n ∷ notes) ≡ Some (TooMany, 0) ∷ notes
    at_note n (inl e) = ap (λ (x : Note). also (TooMany, 0) (x ∷ notes)) e
    at_note n (inr e) = ap (λ (x : Note). also (TooMany, 0) (x ∷ notes)) e

module _ (nesting : ℕ) (h : Here) where
  name_fourth : (text : List ℕ) (notes : List Note) (o : Option (Meaning)) → meaning h text ≡ o → also (TooMany, 0) (read_note nesting h text ∷ notes) ≡ Some (if_some o (λ x. TooMany) UnknownName, 0) ∷ notes
  unfolding read_note
  name_fourth text notes (Some x) e = rw e (also_plain nesting notes)
  name_fourth text notes None e = rw e refl

  fourth_name : (text : List ℕ) (us : List Token) (o : Option (Meaning)) → meaning h text ≡ o → fourth_at h (tokens.Name text ∷ us) ≡ if_some o (λ x. TooMany) UnknownName
  unfolding fourth_at
  fourth_name text us (Some x) e = rw e refl
  fourth_name text us None e = rw e refl

  fourth_number : (n : ℕ) (us : List Token) → fourth_at h (tokens.Number n ∷ us) ≡ TooMany
  unfolding fourth_at
  fourth_number n us = refl

  fourth_open : (us : List Token) → fourth_at h (Fixed OpenParen ∷ us) ≡ TooMany
  unfolding fourth_at next_is
  fourth_open us = refl

  fourth_other : (s : Symbol) (us : List Token) → same_symbol OpenParen s ≡ false → fourth_at h (Fixed s ∷ us) ≡ Syntax
  unfolding fourth_at next_is
  fourth_other s us e = rw e refl

  fourth_bad : (us : List Token) → fourth_at h (tokens.Bad ∷ us) ≡ Syntax
  unfolding fourth_at next_is
  fourth_bad us = refl

  fourth_end : fourth_at h [] ≡ Syntax
  unfolding fourth_at next_is
  fourth_end = refl

  stops_by : (problem : Problem) (us : List Token) → fourth_at h us ≡ problem → fourth_reader h us ≡ Err (problem, length us)
  stops_by problem us e = ap (λ (p : Problem). Err (p, length us)) e

  fourth_fault : Term → Problem
  fourth_fault (OfNumber n) = TooMany
  fourth_fault (OfName text) = if_some (meaning h text) (λ x. TooMany) UnknownName
  fourth_fault (Grouped first inner) = TooMany

  fourth_noted : (first : Term) (more : Terms) (es : List Expr) → Noted ((fourth_lang nesting h).notes (record { first = first; more = more }, es)) (fourth_fault first, 0)
  unfolding expr_notes term_notes fourth_fault
  fourth_noted (OfNumber n) more es = record { others = _; is = also_plain nesting _ }
  fourth_noted (OfName text) more es = record { others = _; is = name_fourth text _ (meaning h text) refl }
  fourth_noted (Grouped first inner) more es = record { others = _; is = also_plain nesting _ }

  fourth_told : (first : Term) (more : Terms) (es : List Expr) (rest : List Token) → fourth_at h ((fourth_lang nesting h).spell (record { first = first; more = more }, es) rest) ≡ fourth_fault first
  unfolding fourth_fault
  fourth_told (OfNumber n) more es rest = fourth_number n _
  fourth_told (OfName text) more es rest = fourth_name text _ (meaning h text) refl
  fourth_told (Grouped first inner) more es rest = fourth_open _

  fourth_reads : (first : Term) (more : Terms) (es : List Expr) → Bad (fourth_lang nesting h) (fourth_reader h) (record { first = first; more = more }, es)
  fourth_reads first more es = bad_at_once (fourth_lang nesting h) (fourth_reader h) _ (fourth_fault first) (fourth_noted first more es) (λ rest. stops_by _ _ (fourth_told first more es rest))

  -- whatever stands behind the same token
  fronted : (t : Token) (ts : List Token) (problem : Problem) → ((us : List Token) → fourth_at h (t ∷ us) ≡ problem) → (others : List Token) → SameFront (t ∷ ts) others → fourth_reader h others ≡ Err (problem, length others)
  fronted t ts problem e [] k = absurd k
  fronted t ts problem e (u ∷ us) k = ap (λ (x : Token). fourth_reader h (x ∷ us)) (sym k) ∙ stops_by problem (t ∷ us) (e us)

  abbrev alone : Term → Expr × List Expr
  alone t = (record { first = t; more = NoMore }, [])

  at_symbol : (s : Symbol) (ts : List Token) (b : Bool) → same_symbol OpenParen s ≡ b → Stops (fourth_lang nesting h) (fourth_reader h) (Fixed s ∷ ts)
  unfolding fourth_fault
  at_symbol s ts true e =
      let same : OpenParen ≡ s = same_one OpenParen s e in
      stops_with (fourth_lang nesting h) (fourth_reader h) (Fixed s ∷ ts) TooMany (alone (Grouped (OfNumber 0) NoMore))
      (fronted (Fixed s) ts TooMany (λ us. ap (λ (x : Symbol). fourth_at h (Fixed x ∷ us)) (sym same) ∙ fourth_open us)) (inr (fourth_noted (Grouped (OfNumber 0) NoMore) NoMore [], λ rest. ap (λ (x : Symbol). Fixed x) (sym same)))
  at_symbol s ts false e = stops_with (fourth_lang nesting h) (fourth_reader h) (Fixed s ∷ ts) Syntax (alone (OfNumber 0)) (fronted (Fixed s) ts Syntax (λ us. fourth_other s us e)) (inl refl)

  fourth_takes : (ts : List Token) → Stops (fourth_lang nesting h) (fourth_reader h) ts
  unfolding fourth_fault
  fourth_takes [] = stops_with (fourth_lang nesting h) (fourth_reader h) [] Syntax (alone (OfNumber 0)) at_end (inl refl)
    where
      at_end : (others : List Token) → SameFront [] others → fourth_reader h others ≡ Err (Syntax, length others)
      at_end [] k = stops_by Syntax [] fourth_end
      at_end (u ∷ us) k = absurd k
  fourth_takes (Fixed s ∷ ts) = at_symbol s ts (same_symbol OpenParen s) refl
  fourth_takes (tokens.Name text ∷ ts) =
      stops_with (fourth_lang nesting h) (fourth_reader h) (tokens.Name text ∷ ts) (if_some (meaning h text) (λ x. TooMany) UnknownName) (alone (OfName text))
      (fronted (tokens.Name text) ts _ (λ us. fourth_name text us (meaning h text) refl)) (inr (fourth_noted (OfName text) NoMore [], λ rest. refl))
  fourth_takes (tokens.Number n ∷ ts) = stops_with (fourth_lang nesting h) (fourth_reader h) (tokens.Number n ∷ ts) TooMany (alone (OfNumber n)) (fronted (tokens.Number n) ts TooMany (λ us. fourth_number n us)) (inr (fourth_noted (OfNumber n) NoMore [], λ rest. refl))
  fourth_takes (tokens.Bad ∷ ts) = stops_with (fourth_lang nesting h) (fourth_reader h) (tokens.Bad ∷ ts) Syntax (alone (OfNumber 0)) (fronted tokens.Bad ts Syntax fourth_bad) (inl refl)

  fourth_facts : Facts Any (fourth_lang nesting h) (fourth_reader h)
  fourth_facts = record { reads = λ w. inr (fourth_reads w.0.first w.0.more w.1); takes = λ ts p. inr (fourth_takes ts) }

  -- MEMBERS BEHIND ANOTHER

  abbrev tail_lang : Lang (List trees.Expr) Exprs Last → Lang (List trees.Expr) Exprs Last
  tail_lang L = either (seq (word Comma nesting) (λ w. L)) (nothing {X = List trees.Expr} {Y = Exprs} {E = Last} (λ x rest. (x, rest)))

  abbrev tail_reader : (List Token → Result Exprs Told) → List trees.Expr → List Token → Result Exprs Told
  tail_reader f xs us = cond (next_is Comma us) (accept_at nesting us >>= f) (Ok (xs, us))

  tail_reads : (L : Lang (List trees.Expr) Exprs Last) (f : List Token → Result Exprs Told) (xs : List trees.Expr) → Facts Any L f → Facts NoSign (tail_lang L) (tail_reader f xs)
  tail_reads L f xs F =
      choose (next_is Comma) (next_same Comma) (seq (word Comma nesting) (λ w. L)) (nothing {X = List trees.Expr} {Y = Exprs} {E = Last} (λ x rest. (x, rest))) (λ us. accept_at nesting us >>= f) (λ us. Ok (xs, us)) (λ w rest e. is_next Comma _) (λ w rest e. e.1)
      (then (word Comma nesting) (λ w. L) (λ ts. accept_at nesting ts) f (accept_facts nesting Comma (λ ts p. p.1)) (λ w x c. F))
      (under (nothing {X = List trees.Expr} {Y = Exprs} {E = Last} (λ x rest. (x, rest))) (λ us. Ok (xs, us)) (λ ts p. (p.0, p.1)) (gives Last (λ x rest. (x, rest)) xs))

  abbrev Tail : Type 0
  Tail = (Unit {0} × (Expr × List Expr)) ⊎ Unit {0}

  abbrev to_more : Tail → List Expr
  to_more (inl w) = w.1.0 ∷ w.1.1
  to_more (inr w) = []

  abbrev from_more : List Expr → Tail
  from_more [] = inr tt
  from_more (e ∷ es) = inl (tt, (e, es))

  abbrev more_reader : ℕ → List trees.Expr → List Token → Result Exprs Told
  more_reader zero xs us = tail_reader (fourth_reader h) xs us
  more_reader (suc n) xs us = tail_reader (λ rest. expr_at nesting h rest >>= λ c. more_reader n (xs ++ c.0 ∷ []) c.1) xs us

  abbrev next_lang : ℕ → Lang (List trees.Expr) Exprs Last
  next_lang n = seq (expr_lang nesting h) (λ e. more_lang n nesting h)

  more_ends : (es : List Expr) (rest : List Token) → Last rest → NoSign (others_tokens es rest)
  more_ends [] rest e = e.0
  more_ends (x ∷ es) rest e = comma_ends _

  zero_spell_to : (w : Tail) (rest : List Token) → others_tokens (to_more w) rest ≡ (tail_lang (fourth_lang nesting h)).spell w rest
  zero_spell_to (inl w) rest = refl
  zero_spell_to (inr w) rest = refl

  zero_notes_to : (w : Tail) → more_notes 0 nesting h (to_more w) ≡ (tail_lang (fourth_lang nesting h)).notes w
  unfolding more_notes
  zero_notes_to (inl w) = refl
  zero_notes_to (inr w) = refl

  zero_spell_from : (w : List Expr) (rest : List Token) → others_tokens w rest ≡ (tail_lang (fourth_lang nesting h)).spell (from_more w) rest
  zero_spell_from [] rest = refl
  zero_spell_from (e ∷ es) rest = refl

  zero_notes_from : (w : List Expr) → more_notes 0 nesting h w ≡ (tail_lang (fourth_lang nesting h)).notes (from_more w)
  unfolding more_notes
  zero_notes_from [] = refl
  zero_notes_from (e ∷ es) = refl

  zero_joined : (w : List Expr) (x : List trees.Expr) (rest : List Token) → (tail_lang (fourth_lang nesting h)).join (from_more w) x rest ≡ (x, rest)
  zero_joined [] x rest = refl
  zero_joined (e ∷ es) x rest = refl

  suc_spell_to : (n : ℕ) (w : Tail) (rest : List Token) → others_tokens (to_more w) rest ≡ (tail_lang (next_lang n)).spell w rest
  suc_spell_to n (inl w) rest = refl
  suc_spell_to n (inr w) rest = refl

  suc_notes_to : (n : ℕ) (w : Tail) → more_notes (suc n) nesting h (to_more w) ≡ (tail_lang (next_lang n)).notes w
  unfolding more_notes
  suc_notes_to n (inl w) = refl
  suc_notes_to n (inr w) = refl

  suc_spell_from : (n : ℕ) (w : List Expr) (rest : List Token) → others_tokens w rest ≡ (tail_lang (next_lang n)).spell (from_more w) rest
  suc_spell_from n [] rest = refl
  suc_spell_from n (e ∷ es) rest = refl

  suc_notes_from : (n : ℕ) (w : List Expr) → more_notes (suc n) nesting h w ≡ (tail_lang (next_lang n)).notes (from_more w)
  unfolding more_notes
  suc_notes_from n [] = refl
  suc_notes_from n (e ∷ es) = refl

  suc_joined : (n : ℕ) (w : List Expr) (x : List trees.Expr) (rest : List Token) → (tail_lang (next_lang n)).join (from_more w) x rest ≡ (x, rest)
  suc_joined n [] x rest = refl
  suc_joined n (e ∷ es) x rest = refl

  more_facts : (n : ℕ) (xs : List trees.Expr) → Facts NoSign (more_lang n nesting h) (more_reader n xs)
  more_facts zero xs = turned (tail_lang (fourth_lang nesting h)) (more_lang 0 nesting h) (more_reader 0 xs) (more_reader 0 xs) (record {
    to = to_more;
    spell_to = zero_spell_to;
    notes_to = zero_notes_to;
    from = from_more;
    spell_from = zero_spell_from;
    notes_from = zero_notes_from;
    value = λ w x. x;
    oks = λ ts w x rest e. e ∙ ap (λ (y : Exprs). Ok y) (zero_joined w x rest);
    errs = λ ts t e. e;
  }) (tail_reads (fourth_lang nesting h) (fourth_reader h) xs fourth_facts)
  more_facts (suc n) xs = turned (tail_lang (next_lang n)) (more_lang (suc n) nesting h) (more_reader (suc n) xs) (more_reader (suc n) xs) (record {
    to = to_more;
    spell_to = suc_spell_to n;
    notes_to = suc_notes_to n;
    from = from_more;
    spell_from = suc_spell_from n;
    notes_from = suc_notes_from n;
    value = λ w x. x;
    oks = λ ts w x rest e. e ∙ ap (λ (y : Exprs). Ok y) (suc_joined n w x rest);
    errs = λ ts t e. e;
  }) (tail_reads (next_lang n) (λ rest. expr_at nesting h rest >>= λ c. more_reader n (xs ++ c.0 ∷ []) c.1) xs
      (bind (expr_lang nesting h) (λ e. more_lang n nesting h) (λ ts. expr_at nesting h ts) (λ c. more_reader n (xs ++ c.0 ∷ []) c.1) sign_ends (λ w v rest e. more_ends v rest e) (expr_facts nesting h) (λ w x c. more_facts n (xs ++ x ∷ []))))

-- LISTS

members_shape : (es : List Expr) (nesting : ℕ) (h : Here) → Shape (members_tokens es) (members_notes nesting h es)
unfolding members_notes
members_shape [] nesting h = shape_none
members_shape (e ∷ es) nesting h = shape_seq (expr_tokens e) (others_tokens es) _ _ (expr_shape e nesting h) (more_shape es 2 nesting h)

pub list_shape : (es : List Expr) (nesting : ℕ) (h : Here) → Shape (list_tokens es) (list_notes nesting h es)
unfolding list_notes
list_shape es nesting h =
    shape_seq (λ r. Fixed OpenParen ∷ r) (λ r. members_tokens es (Fixed CloseParen ∷ r)) (plain nesting ∷ []) _ (shape_one (Fixed OpenParen) _)
    (shape_seq (members_tokens es) (λ r. Fixed CloseParen ∷ r) _ _ (members_shape es (nesting - 1) h) (shape_one (Fixed CloseParen) _))

abbrev pub list_lang : ℕ → Here → Lang (List trees.Expr) Exprs Any
list_lang nesting h = record { W = List Expr; default = []; spell = list_tokens; notes = list_notes nesting h; join = λ w x rest. (x, rest); shape = λ w. list_shape w nesting h }

module _ (r : ℕ) (h : Here) where
  abbrev closing : Lang (List trees.Expr) Exprs Any
  closing = giving (word CloseParen r) (λ w x rest. (x, rest))

  abbrev some_lang : Lang (List trees.Expr) Exprs Last
  some_lang = seq (expr_lang r h) (λ e. more_lang 2 r h)

  abbrev some_reader : List Token → Result Exprs Told
  some_reader ts = expr_at r h ts >>= λ a. more_reader r h 2 (a.0 ∷ []) a.1

  abbrev close_with : Exprs → Result Exprs Told
  close_with x = expect_at r CloseParen x.1 >>= λ rest. Ok (x.0, rest)

  abbrev body_lang : Lang (List trees.Expr) Exprs Any
  body_lang = either closing (seq some_lang (λ w. closing))

  abbrev body_reader : List Token → Result Exprs Told
  body_reader ts = cond (next_is CloseParen ts) (close_with ([], ts)) (some_reader ts >>= close_with)

  closes : (x : List trees.Expr) {P : List Token → Type 0} → Facts P closing (λ ts. close_with (x, ts))
  closes x = give (word CloseParen r) (λ w x rest. (x, rest)) (λ ts. expect_at r CloseParen ts) (λ rest. (x, rest)) (λ w u. x) (λ w u rest. refl) (expect_facts r CloseParen)

  some_reads : Facts Any some_lang some_reader
  some_reads = bind (expr_lang r h) (λ e. more_lang 2 r h) (λ ts. expr_at r h ts) (λ a. more_reader r h 2 (a.0 ∷ []) a.1) sign_ends (λ w v rest e. more_ends r h v rest e) (expr_facts r h) (λ w x c. more_facts r h 2 (x ∷ []))

  close_last : (rest : List Token) → Last (Fixed CloseParen ∷ rest)
  unfolding next_is
  close_last rest = (refl, refl)

  no_close : (t : Term) (rest : List Token) → next_is CloseParen (term_tokens t rest) ≡ false
  unfolding next_is
  no_close (OfNumber n) rest = refl
  no_close (OfName text) rest = refl
  no_close (Grouped first more) rest = refl

  body_reads : Facts Any body_lang body_reader
  body_reads =
      choose (next_is CloseParen) (next_same CloseParen) closing (seq some_lang (λ w. closing)) (λ ts. close_with ([], ts)) (λ ts. some_reader ts >>= close_with) (λ w rest e. is_next CloseParen rest) (λ w rest e. no_close w.0.0.first _)
      (closes [])
      (bind some_lang (λ w. closing) some_reader close_with last_ends (λ w v rest e. close_last rest) (under some_lang some_reader (λ ts p. tt) some_reads) (λ w x c. closes x))

  body_is : (ts : List Token) → body_reader ts ≡ (members_at r h ts >>= close_with)
  unfolding members_at
  body_is ts = at_close (next_is CloseParen ts) (Ok ([], ts)) (some_reader ts)
    where
      at_close : (b : Bool) (x y : Result Exprs Told) → cond b (x >>= close_with) (y >>= close_with) ≡ (cond b x y >>= close_with)
      at_close true x y = refl
      at_close false x y = refl

module _ (nesting : ℕ) (h : Here) where
  abbrev list_parts : Lang (List trees.Expr) Exprs Any
  list_parts = seq (word OpenParen nesting) (λ w. body_lang (nesting - 1) h)

  list_reads : {P : List Token → Type 0} → Facts P list_parts (λ ts. list_at nesting h ts)
  unfolding list_at
  list_reads = then (word OpenParen nesting) (λ w. body_lang (nesting - 1) h) (λ ts. expect_at nesting OpenParen ts) (λ rest. members_at (nesting - 1) h rest >>= close_with (nesting - 1) h) (expect_facts nesting OpenParen)
      (λ w x c. instead (body_lang (nesting - 1) h) (body_reader (nesting - 1) h) (λ ts. members_at (nesting - 1) h ts >>= close_with (nesting - 1) h) (body_is (nesting - 1) h) (body_reads (nesting - 1) h))

  abbrev to_list : list_parts.W → List Expr
  to_list w = cases (λ v. []) (λ v. v.0.0 ∷ v.0.1) w.1

  abbrev from_list : List Expr → list_parts.W
  from_list [] = (tt, inl tt)
  from_list (e ∷ es) = (tt, inr ((e, es), tt))

  list_spell_to : (u : Unit {0}) (w : (body_lang (nesting - 1) h).W) (rest : List Token) → list_tokens (to_list (u, w)) rest ≡ list_parts.spell (u, w) rest
  list_spell_to u (inl w) rest = refl
  list_spell_to u (inr w) rest = refl

  list_notes_to : (u : Unit {0}) (w : (body_lang (nesting - 1) h).W) → list_notes nesting h (to_list (u, w)) ≡ list_parts.notes (u, w)
  unfolding list_notes members_notes
  list_notes_to u (inl w) = refl
  list_notes_to u (inr w) = refl

  list_spell_from : (w : List Expr) (rest : List Token) → list_tokens w rest ≡ list_parts.spell (from_list w) rest
  list_spell_from [] rest = refl
  list_spell_from (e ∷ es) rest = refl

  list_notes_from : (w : List Expr) → list_notes nesting h w ≡ list_parts.notes (from_list w)
  unfolding list_notes members_notes
  list_notes_from [] = refl
  list_notes_from (e ∷ es) = refl

  list_joined : (w : List Expr) (x : List trees.Expr) (rest : List Token) → list_parts.join (from_list w) x rest ≡ (x, rest)
  list_joined [] x rest = refl
  list_joined (e ∷ es) x rest = refl

  pub list_facts : {P : List Token → Type 0} → Facts P (list_lang nesting h) (λ ts. list_at nesting h ts)
  list_facts = turned list_parts (list_lang nesting h) (λ ts. list_at nesting h ts) (λ ts. list_at nesting h ts) (record {
    to = to_list;
    spell_to = λ w rest. list_spell_to w.0 w.1 rest;
    notes_to = λ w. list_notes_to w.0 w.1;
    from = from_list;
    spell_from = list_spell_from;
    notes_from = list_notes_from;
    value = λ w x. x;
    oks = λ ts w x rest e. e ∙ ap (λ (y : Exprs). Ok y) (list_joined w x rest);
    errs = λ ts t e. e;
  }) list_reads
