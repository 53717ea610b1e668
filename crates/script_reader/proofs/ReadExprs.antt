-- Expressions: what is written is read, and what is read was written.
use Rattle.std.proofs.Common.{◌≡◌, ℕ, zero, suc, ◌-◌, ◌<◌, ◌≤◌, max, Bool, true, false, cond, List, [], ◌∷◌, ◌++◌, length, Option, Some, None, Result, Ok, is_some, refl, sym, ap, ◌∙◌, subst, arith, append_assoc}
use Rattle.std.proofs.lemmas.List.{append-nil}
use Rattle.std.specs.Option.{option_map}
use Rattle.script_token.specs.Tokens.{Token, Fixed}
use Rattle.script_token.specs.Tokens as tokens
use Rattle.script_token.specs.declared.kind.Symbol.TheVariants.{OpenParen, CloseParen, Plus, Minus}
use Rattle.script_reader.specs.Steps.{Told, Here, ◌>>=◌, repeated, name_at, number_at, next_is, accept_at, expect_at, read_name_at}
use Rattle.script_reader.specs.Exprs.{with_term, sign_at, term_step, operand_with, sum_with, operand_at, sum_at, expr_at}
use Rattle.script_grammar.specs.Meaning.{Parts, parts_term, Names, name_meaning, term_meaning, terms_meaning, expr_meaning}
use Rattle.script_reader.specs.declared.scope.Counts.{Counts}
use Rattle.script_reader.proofs.Keeping.{bound_ok, ok_is, no_ok, if_ok, some_ok}
use Rattle.script_reader.proofs.Linking.{operand_at-is}
use Rattle.script_tree.specs.declared.tree.Sign.{Sign}
use Rattle.script_tree.specs.declared.tree.Sign.TheVariants as signs
use Rattle.script_tree.specs.Trees as trees
use Rattle.script_grammar.specs.Written.{Term, OfNumber, OfName, Grouped, Terms, NoMore, Further, sign_symbol, term_tokens, terms_tokens}
use Rattle.script_grammar.specs.Depths.{term_depth, terms_depth}
use Rattle.script_reader.specs.Laws.{names_at, at, SpellsExpr, ExprsAreFound, ExprsAreReadAgain}
use Rattle.script_reader.proofs.ReadFronts.{accept_ok, expect_ok, is_next, Front, next_found, number_found, accept_found, expect_found, no_step, one_step}
use Rattle.script_grammar.proofs.Parts.{part, some_is}
use Rattle.script_reader.proofs.ReadNames.{name_again, name_is_found}

-- WHAT IS WRITTEN IS READ

mutual
  pub term_longer : (t : Term) (rest : List Token) → length rest ≤ length (term_tokens t rest)
  term_longer (OfNumber n) rest = omega arith
  term_longer (OfName text) rest = omega arith
  term_longer (Grouped first more) rest =
      let a = terms_longer more (Fixed CloseParen ∷ rest) in
      let b = term_longer first (terms_tokens more (Fixed CloseParen ∷ rest)) in
      omega (arith, a, b)

  pub terms_longer : (m : Terms) (rest : List Token) → length rest ≤ length (terms_tokens m rest)
  terms_longer NoMore rest = omega arith
  terms_longer (Further sign term more) rest =
      let a = terms_longer more rest in
      let b = term_longer term (terms_tokens more rest) in
      omega (arith, a, b)

sign_next : (sign : Sign) (ts : List Token) → sign_at (Fixed (sign_symbol sign) ∷ ts) ≡ Some sign
unfolding next_is
sign_next signs.Plus ts = refl
sign_next signs.Minus ts = refl

-- one term more
step_again : (operand : List Token → Result (Parts × List Token) Told) (nesting : ℕ) (s : Parts) (sign : Sign) (ts rest : List Token) (p : Parts) → 0 < nesting → operand ts ≡ Ok (p, rest)
    → term_step operand nesting (s, Fixed (sign_symbol sign) ∷ ts) ≡ Some (Ok (with_term s sign p, rest))
step_again operand nesting s sign ts rest p some e = rw (sign_next sign ts, accept_ok nesting (Fixed (sign_symbol sign)) ts some, e) refl

regrouped : (s : Parts) (x : Sign × trees.Term) (xs : List (Sign × trees.Term)) (ts : List (Sign × trees.Term)) (rest : List Token) → x ∷ xs ≡ ts
    → ◌≡◌ {A = Result (Parts × List Token) Told} (Ok ((s.0, (s.1 ++ x ∷ []) ++ xs), rest)) (Ok ((s.0, s.1 ++ ts), rest))
regrouped s x xs ts rest e = ap (λ (y : List (Sign × trees.Term)). Ok ((s.0, y), rest)) (append_assoc s.1 (x ∷ []) xs ∙ ap (λ (y : List (Sign × trees.Term)). s.1 ++ y) e)

no_sign : (rest : List Token) → sign_at (Fixed CloseParen ∷ rest) ≡ None
unfolding next_is
no_sign rest = refl

mutual
  unfolding operand_with sum_at sum_with term_meaning terms_meaning

  pub term_again : (t : Term) (nesting : ℕ) (ns : Names) (counts : Counts) (p : Parts) (rest : List Token) → term_depth t < nesting → term_meaning ns t ≡ Some p
      → operand_at nesting (at ns counts) (term_tokens t rest) ≡ Ok (p, rest)
  term_again (OfNumber n) nesting ns counts p rest deep e =
      sym (operand_at-is nesting (at ns counts) (tokens.Number n ∷ rest)) ∙ rw (accept_ok nesting (tokens.Number n) rest deep) (ap (λ (y : Parts). Ok (y, rest)) (some_is _ _ e))
  term_again (OfName text) nesting ns counts p rest deep e =
      let name = part (name_meaning ns text) _ p e in
      sym (operand_at-is nesting (at ns counts) (tokens.Name text ∷ rest)) ∙ rw (name_again nesting ns counts text name.first rest deep name.is) (ap (λ (y : Parts). Ok (y, rest)) (some_is _ _ name.then))
  term_again (Grouped first more) nesting ns counts p rest deep e =
      let a = part (term_meaning ns first) _ p e in
      let b = part (terms_meaning ns more) _ p a.then in
      let close = Fixed CloseParen ∷ rest in
      let behind = terms_tokens more close in
      let inner = term_again first (nesting - 1) ns counts a.first behind (omega (arith, deep)) a.is in
      let others = terms_again more (nesting - 1) ns counts b.first a.first (length (term_tokens first behind)) close (omega (arith, deep)) b.is (no_sign rest) (term_longer first behind) in
      sym (operand_at-is nesting (at ns counts) (term_tokens (Grouped first more) rest)) ∙
      rw (is_next OpenParen (term_tokens first behind), accept_ok nesting (Fixed OpenParen) (term_tokens first behind) (omega (arith, deep)), inner, others, expect_ok (nesting - 1) CloseParen rest (omega (arith, deep)))
      (ap (λ (y : Parts). Ok (y, rest)) (some_is _ _ b.then))

  pub terms_again : (m : Terms) (nesting : ℕ) (ns : Names) (counts : Counts) (ts : List (Sign × trees.Term)) (s : Parts) (n : ℕ) (rest : List Token) → terms_depth m < nesting → terms_meaning ns m ≡ Some ts → sign_at rest ≡ None
      → length (terms_tokens m rest) ≤ n → repeated (term_step (operand_at nesting (at ns counts)) nesting) n (s, terms_tokens m rest) ≡ Ok ((s.0, s.1 ++ ts), rest)
  terms_again NoMore nesting ns counts ts s n rest deep e last fuel =
      no_step (term_step (operand_at nesting (at ns counts)) nesting) n (s, rest) (rw last refl) ∙ ap (λ (y : List (Sign × trees.Term)). Ok ((s.0, y), rest)) (sym (append-nil s.1) ∙ ap (λ (y : List (Sign × trees.Term)). s.1 ++ y) (some_is _ _ e))
  terms_again (Further sign term more) nesting ns counts ts s zero rest deep e last fuel = absurd (omega (arith, fuel))
  terms_again (Further sign term more) nesting ns counts ts s (suc n) rest deep e last fuel =
      let a = part (term_meaning ns term) _ ts e in
      let b = part (terms_meaning ns more) _ ts a.then in
      let behind = terms_tokens more rest in
      let read = term_again term nesting ns counts a.first behind (omega (arith, deep)) a.is in
      let step = step_again (operand_at nesting (at ns counts)) nesting s sign (term_tokens term behind) behind a.first (omega (arith, deep)) read in
      let others = terms_again more nesting ns counts b.first (with_term s sign a.first) n rest (omega (arith, deep)) b.is last (omega (arith, fuel, term_longer term behind)) in
      one_step (term_step (operand_at nesting (at ns counts)) nesting) n (s, terms_tokens (Further sign term more) rest) (with_term s sign a.first, behind) _ step
      (others ∙ regrouped s (sign, parts_term a.first) b.first ts rest (some_is _ _ b.then))

sum_again : (nesting : ℕ) (ns : Names) (counts : Counts) (first : Term) (more : Terms) (p : Parts) (rest : List Token) → max (term_depth first) (terms_depth more) < nesting → term_meaning ns (Grouped first more) ≡ Some p → sign_at rest ≡ None
    → sum_at nesting (at ns counts) (term_tokens first (terms_tokens more rest)) ≡ Ok (p, rest)
unfolding sum_at sum_with term_meaning terms_meaning
sum_again nesting ns counts first more p rest deep e last =
    let a = part (term_meaning ns first) _ p e in
    let b = part (terms_meaning ns more) _ p a.then in
    let behind = terms_tokens more rest in
    let inner = term_again first nesting ns counts a.first behind (omega (arith, deep)) a.is in
    let others = terms_again more nesting ns counts b.first a.first (length (term_tokens first behind)) rest (omega (arith, deep)) b.is last (term_longer first behind) in
    rw inner (others ∙ ap (λ (y : Parts). Ok (y, rest)) (some_is _ _ b.then))

pub expr_again : ExprsAreReadAgain
unfolding expr_at sum_at sum_with expr_meaning
expr_again nesting ns counts ts e rest s last =
    let p = part (term_meaning ns (Grouped s.expr.first s.expr.more)) _ e s.meaning in
    let read = sum_again nesting ns counts s.expr.first s.expr.more p.first rest s.depth p.is last in
    let behind = terms_tokens s.expr.more rest in
    rw s.tokens (rw read (ap (λ (y : trees.Expr). Ok (y, rest)) (some_is _ _ p.then)))

-- WHAT IS READ WAS WRITTEN

record SpellsTerm (nesting : ℕ) (ns : Names) (ts : List Token) (x : Parts × List Token) : Type 0 where
  term : Term
  tokens : ts ≡ term_tokens term x.1
  depth : term_depth term < nesting
  meaning : term_meaning ns term ≡ Some x.0

record SpellsSum (nesting : ℕ) (ns : Names) (ts : List Token) (x : Parts × List Token) : Type 0 where
  first : Term
  more : Terms
  tokens : ts ≡ term_tokens first (terms_tokens more x.1)
  depth : max (term_depth first) (terms_depth more) < nesting
  meaning : term_meaning ns (Grouped first more) ≡ Some x.0

-- the terms behind those so far
record SpellsTerms (nesting : ℕ) (ns : Names) (s x : Parts × List Token) : Type 0 where
  more : Terms
  terms : List (Sign × trees.Term)
  tokens : s.1 ≡ terms_tokens more x.1
  depth : 0 < nesting → terms_depth more < nesting
  meaning : terms_meaning ns more ≡ Some terms
  value : (s.0.0, s.0.1 ++ terms) ≡ x.0

abbrev SpellTerms : ℕ → Names → (List Token → Result (Parts × List Token) Told) → Type 0
SpellTerms nesting ns f = (ts : List Token) (x : Parts × List Token) → f ts ≡ Ok x → SpellsTerm nesting ns ts x

abbrev SpellSums : ℕ → Names → (List Token → Result (Parts × List Token) Told) → Type 0
SpellSums nesting ns f = (ts : List Token) (x : Parts × List Token) → f ts ≡ Ok x → SpellsSum nesting ns ts x

term_found : (inner : List Token → Result (Parts × List Token) Told) (nesting : ℕ) (h : Here) → SpellSums (nesting - 1) (names_at h) inner → SpellTerms nesting (names_at h) (operand_with inner nesting h)
unfolding operand_with term_meaning
term_found inner nesting h inners ts x e =
    some_ok (number_at ts) _ _ x e
    (λ n is f.
    let b = bound_ok (accept_at nesting ts) _ x f in
    let t = accept_found nesting (tokens.Number n) ts b.first (number_found ts n is) b.is in
    subst (λ (y : Parts × List Token). SpellsTerm nesting (names_at h) ts y) (ok_is _ _ b.then) (record { term = OfNumber n; tokens = t.is; depth = t.some; meaning = refl }))
    (λ f. if_ok (is_some (name_at ts)) _ _ x f
    (λ _ g.
    let b = bound_ok (read_name_at nesting h ts) _ x g in
    let n = name_is_found nesting h ts b.first b.is in
    subst (λ (y : Parts × List Token). SpellsTerm nesting (names_at h) ts y) (ok_is _ _ b.then) (record { term = OfName n.text; tokens = n.tokens; depth = n.some; meaning = rw n.meaning refl }))
    (λ _ g. if_ok (next_is OpenParen ts) _ _ x g
    (λ open' k.
    let a = bound_ok (accept_at nesting ts) _ x k in
    let first = accept_found nesting (Fixed OpenParen) ts a.first (next_found OpenParen ts open') a.is in
    let b = bound_ok (inner a.first) _ x a.then in
    let s = inners a.first b.first b.is in
    let c = bound_ok (expect_at (nesting - 1) CloseParen b.first.1) _ x b.then in
    let last = expect_found (nesting - 1) CloseParen b.first.1 c.first c.is in
    subst (λ (y : Parts × List Token). SpellsTerm nesting (names_at h) ts y) (ok_is _ _ c.then) (record {
      term = Grouped s.first s.more;
      tokens = first.is ∙ ap (λ (y : List Token). Fixed OpenParen ∷ y) (s.tokens ∙ ap (λ (y : List Token). term_tokens s.first (terms_tokens s.more y)) last.is);
      depth = omega (arith, s.depth);
      meaning = s.meaning;
    }))
    (λ _ k. no_ok _ _ k)))

sign_found : (ts : List Token) (sign : Sign) → sign_at ts ≡ Some sign → Front (Fixed (sign_symbol sign)) ts
sign_found ts sign e = at_plus (next_is Plus ts) refl e
  where
    at_minus : (v : Bool) → next_is Minus ts ≡ v → cond v (Some signs.Minus) None ≡ Some sign → Front (Fixed (sign_symbol sign)) ts
    at_minus true is f = (let same = some_is _ _ f in subst (λ (y : Sign). Front (Fixed (sign_symbol y)) ts) same (next_found Minus ts is))
    at_minus false is f = absurd cc

    at_plus : (v : Bool) → next_is Plus ts ≡ v → cond v (Some signs.Plus) (cond (next_is Minus ts) (Some signs.Minus) None) ≡ Some sign → Front (Fixed (sign_symbol sign)) ts
    at_plus true is f = (let same = some_is _ _ f in subst (λ (y : Sign). Front (Fixed (sign_symbol y)) ts) same (next_found Plus ts is))
    at_plus false is f = at_minus (next_is Minus ts) refl f

no_terms : (nesting : ℕ) (ns : Names) (s : Parts × List Token) → SpellsTerms nesting ns s s
unfolding terms_meaning
no_terms nesting ns s = record { more = NoMore; terms = []; tokens = refl; depth = λ some. some; meaning = refl; value = ap (λ (y : List (Sign × trees.Term)). (s.0.0, y)) (append-nil s.0.1) }

-- a step, and what it has read
record SpellsStep (nesting : ℕ) (ns : Names) (s x : Parts × List Token) : Type 0 where
  sign : Sign
  term : Term
  parts : Parts
  tokens : s.1 ≡ Fixed (sign_symbol sign) ∷ term_tokens term x.1
  depth : term_depth term < nesting
  meaning : term_meaning ns term ≡ Some parts
  value : with_term s.0 sign parts ≡ x.0

step_found : (operand : List Token → Result (Parts × List Token) Told) (nesting : ℕ) (ns : Names) → SpellTerms nesting ns operand
    → (s x : Parts × List Token) → term_step operand nesting s ≡ Some (Ok x) → SpellsStep nesting ns s x
step_found operand nesting ns terms s x e = at_sign (sign_at s.1) refl e
  where
    at_sign : (o : Option Sign) → sign_at s.1 ≡ o → option_map (λ sign. ◌>>=◌ {B = Parts × List Token} (accept_at nesting s.1) (λ rest. operand rest >>= λ u. Ok (with_term s.0 sign u.0, u.1))) o ≡ Some (Ok x) → SpellsStep nesting ns s x
    at_sign None is f = absurd cc
    at_sign (Some sign) is f =
        let g : ◌>>=◌ {B = Parts × List Token} (accept_at nesting s.1) (λ rest. operand rest >>= λ u. Ok (with_term s.0 sign u.0, u.1)) ≡ Ok x = cc in
        let a = bound_ok (accept_at nesting s.1) _ x g in
        let first = accept_found nesting (Fixed (sign_symbol sign)) s.1 a.first (sign_found s.1 sign is) a.is in
        let b = bound_ok (operand a.first) _ x a.then in
        let t = terms a.first b.first b.is in
        subst (λ (y : Parts × List Token). SpellsStep nesting ns s y) (ok_is _ _ b.then)
        (record { sign = sign; term = t.term; parts = b.first.0; tokens = first.is ∙ ap (λ (y : List Token). Fixed (sign_symbol sign) ∷ y) t.tokens; depth = t.depth; meaning = t.meaning; value = refl })

with_step : (nesting : ℕ) (ns : Names) (s t x : Parts × List Token) → SpellsStep nesting ns s t → SpellsTerms nesting ns t x → SpellsTerms nesting ns s x
unfolding terms_meaning
with_step nesting ns s t x step more = record {
  more = Further step.sign step.term more.more;
  terms = (step.sign, parts_term step.parts) ∷ more.terms;
  tokens = step.tokens ∙ ap (λ (y : List Token). Fixed (sign_symbol step.sign) ∷ term_tokens step.term y) more.tokens;
  depth = λ some. (let d = more.depth some in omega (arith, d, step.depth));
  meaning = rw (step.meaning, more.meaning) refl;
  value =
      let first : (s.0.0, s.0.1 ++ (step.sign, parts_term step.parts) ∷ []) ≡ t.0 = step.value in
      ap (λ (y : List (Sign × trees.Term)). (s.0.0, y)) (sym (append_assoc s.0.1 ((step.sign, parts_term step.parts) ∷ []) more.terms)) ∙ ap (λ (y : Parts). (y.0, y.1 ++ more.terms)) first ∙ more.value;
}

terms_found : (operand : List Token → Result (Parts × List Token) Told) (nesting : ℕ) (ns : Names) → SpellTerms nesting ns operand
    → (n : ℕ) (s x : Parts × List Token) → repeated (term_step operand nesting) n s ≡ Ok x → SpellsTerms nesting ns s x
unfolding repeated
terms_found operand nesting ns terms zero s x e = subst (λ (y : Parts × List Token). SpellsTerms nesting ns s y) (ok_is _ _ e) (no_terms nesting ns s)
terms_found operand nesting ns terms (suc n) s x e =
    some_ok (term_step operand nesting s) _ _ x e
    (λ r is f.
    let b = bound_ok r _ x f in
    with_step nesting ns s b.first x (step_found operand nesting ns terms s b.first (is ∙ ap Some b.is)) (terms_found operand nesting ns terms n b.first x b.then))
    (λ f. subst (λ (y : Parts × List Token). SpellsTerms nesting ns s y) (ok_is _ _ f) (no_terms nesting ns s))

some_room : (a nesting : ℕ) → a < nesting → 0 < nesting
some_room a nesting h = omega (arith, h)

sum_found : (operand : List Token → Result (Parts × List Token) Told) (nesting : ℕ) (ns : Names) → SpellTerms nesting ns operand → SpellSums nesting ns (sum_with operand nesting)
unfolding sum_with term_meaning
sum_found operand nesting ns terms ts x e =
    let b = bound_ok (operand ts) _ x e in
    let t = terms ts b.first b.is in
    let m = terms_found operand nesting ns terms (length ts) b.first x b.then in
    let d = m.depth (some_room _ nesting t.depth) in
    record {
      first = t.term;
      more = m.more;
      tokens = t.tokens ∙ ap (term_tokens t.term) m.tokens;
      depth = omega (arith, t.depth, d);
      meaning = rw (t.meaning, m.meaning) (ap Some m.value);
    }

terms_are_found : (nesting : ℕ) (h : Here) → SpellTerms nesting (names_at h) (operand_at nesting h)
unfolding operand_at
terms_are_found zero h ts x e = term_found _ zero h (λ ts x f. no_ok _ _ f) ts x e
terms_are_found (suc r) h ts x e =
    let one : r ≡ suc r - 1 = omega arith in
    term_found (sum_with (operand_at r h) r) (suc r) h (subst (λ (n : ℕ). SpellSums n (names_at h) (sum_with (operand_at r h) r)) one (sum_found (operand_at r h) r (names_at h) (terms_are_found r h))) ts x e

pub expr_found : ExprsAreFound
unfolding expr_at sum_at expr_meaning
expr_found nesting h ts x e =
    let b = bound_ok (sum_at nesting h ts) _ x e in
    let s = sum_found (operand_at nesting h) nesting (names_at h) (terms_are_found nesting h) ts b.first b.is in
    subst (λ (y : trees.Expr × List Token). SpellsExpr nesting (names_at h) ts y.0 y.1) (ok_is _ _ b.then)
    (record { expr = record { first = s.first; more = s.more }; tokens = s.tokens; depth = s.depth; meaning = rw s.meaning refl })
