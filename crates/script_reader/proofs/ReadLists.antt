-- Tests and lists: what is written is read, and what is read was written.
use Rattle.std.proofs.Common.{◌≡◌, ℕ, ◌-◌, ◌<◌, ◌≤◌, true, false, leb, List, [], ◌∷◌, length, Some, None, Ok, refl, ap, ◌∙◌, subst, arith}
use Rattle.std.proofs.lemmas.Bool.Decides.{nat_tests}
use Rattle.script_token.specs.Tokens.{Token, Fixed}
use Rattle.script_token.specs.declared.kind.Symbol.TheVariants.{OpenParen, CloseParen, Comma, Equal, Less}
use Rattle.script_reader.specs.Steps.{Here, next_is, accept_at, expect_at}
use Rattle.script_reader.specs.Exprs.{sign_at, expr_at, relation_at, test_at, members_at, list_at}
use Rattle.script_reader.specs.declared.scope.Counts.{Counts}
use Rattle.script_reader.proofs.Keeping.{bound_ok, ok_is, no_ok, if_ok}
use Rattle.script_tree.specs.declared.tree.Relation.{Relation}
use Rattle.script_tree.specs.declared.tree.Relation.TheVariants as relations
use Rattle.script_tree.specs.Trees as trees
use Rattle.script_grammar.specs.Written.{Term, OfNumber, OfName, Grouped, Expr, Test, relation_symbol, term_tokens, terms_tokens, expr_tokens, test_tokens, members_tokens, list_tokens}
use Rattle.script_grammar.specs.Depths.{expr_depth, exprs_depth, list_depth, test_depth}
use Rattle.script_grammar.specs.Meaning.{Names, expr_meaning, test_meaning, exprs_meaning, list_meaning}
use Rattle.script_reader.specs.Laws.{names_at, at}
use Rattle.script_reader.proofs.ReadFronts.{accept_ok, expect_ok, is_next, next_found, accept_found, expect_found}
use Rattle.script_grammar.proofs.Parts.{part, some_is, if_else_some}
use Rattle.script_reader.proofs.ReadExprs.{expr_again, expr_found}

pub expr_reads : (e : Expr) (nesting : ℕ) (ns : Names) (counts : Counts) (x : trees.Expr) (rest : List Token) → expr_depth e < nesting → expr_meaning ns e ≡ Some x → sign_at rest ≡ None → expr_at nesting (at ns counts) (expr_tokens e rest) ≡ Ok (x, rest)
expr_reads e nesting ns counts x rest deep is last = expr_again nesting ns counts (expr_tokens e rest) x rest (record { expr = e; tokens = refl; depth = deep; meaning = is }) last

-- TESTS

no_sign_relation : (r : Relation) (ts : List Token) → sign_at (Fixed (relation_symbol r) ∷ ts) ≡ None
unfolding next_is
no_sign_relation relations.Equal ts = refl
no_sign_relation relations.Less ts = refl

less_no_equal : (ts : List Token) → next_is Equal (Fixed Less ∷ ts) ≡ false
unfolding next_is
less_no_equal ts = refl

relation_reads : (r : Relation) (nesting : ℕ) (ts : List Token) → 0 < nesting → relation_at nesting (Fixed (relation_symbol r) ∷ ts) ≡ Ok (r, ts)
unfolding relation_at
relation_reads relations.Equal nesting ts some = rw (is_next Equal ts, accept_ok nesting (Fixed Equal) ts some) refl
relation_reads relations.Less nesting ts some = rw (less_no_equal ts, expect_ok nesting Less ts some) refl

pub test_reads : (t : Test) (nesting : ℕ) (ns : Names) (counts : Counts) (x : trees.Test) (rest : List Token) → test_depth t < nesting → test_meaning ns t ≡ Some x → sign_at rest ≡ None
    → test_at nesting (at ns counts) (test_tokens t rest) ≡ Ok (x, rest)
unfolding test_at test_meaning
test_reads t nesting ns counts x rest deep e last =
    let a = part (expr_meaning ns t.left) _ x e in
    let b = part (expr_meaning ns t.right) _ x a.then in
    let behind = Fixed (relation_symbol t.relation) ∷ expr_tokens t.right rest in
    rw (
      expr_reads t.left nesting ns counts a.first behind (omega (arith, deep)) a.is (no_sign_relation t.relation (expr_tokens t.right rest)),
      relation_reads t.relation nesting (expr_tokens t.right rest) (omega (arith, deep)),
      expr_reads t.right nesting ns counts b.first rest (omega (arith, deep)) b.is last,
    )
    (ap (λ (y : trees.Test). Ok (y, rest)) (some_is _ _ b.then))

pub record SpellsTest (nesting : ℕ) (ns : Names) (ts : List Token) (x : trees.Test) (rest : List Token) : Type 0 where
  pub test : Test
  pub tokens : ts ≡ test_tokens test rest
  pub depth : test_depth test < nesting
  pub meaning : test_meaning ns test ≡ Some x

relation_found : (nesting : ℕ) (ts : List Token) (x : Relation × List Token) → relation_at nesting ts ≡ Ok x → ts ≡ Fixed (relation_symbol x.0) ∷ x.1
unfolding relation_at
relation_found nesting ts x e =
    if_ok (next_is Equal ts) _ _ x e
    (λ is f.
    let a = bound_ok (accept_at nesting ts) _ x f in
    let t = accept_found nesting (Fixed Equal) ts a.first (next_found Equal ts is) a.is in
    subst (λ (y : Relation × List Token). ts ≡ Fixed (relation_symbol y.0) ∷ y.1) (ok_is _ _ a.then) t.is)
    (λ _ f.
    let a = bound_ok (expect_at nesting Less ts) _ x f in
    let t = expect_found nesting Less ts a.first a.is in
    subst (λ (y : Relation × List Token). ts ≡ Fixed (relation_symbol y.0) ∷ y.1) (ok_is _ _ a.then) t.is)

pub test_found : (nesting : ℕ) (h : Here) (ts : List Token) (x : trees.Test × List Token) → test_at nesting h ts ≡ Ok x → SpellsTest nesting (names_at h) ts x.0 x.1
unfolding test_at test_meaning
test_found nesting h ts x e =
    let a = bound_ok (expr_at nesting h ts) _ x e in
    let b = bound_ok (relation_at nesting a.first.1) _ x a.then in
    let c = bound_ok (expr_at nesting h b.first.1) _ x b.then in
    let left = expr_found nesting h ts a.first a.is in
    let relation = relation_found nesting a.first.1 b.first b.is in
    let right = expr_found nesting h b.first.1 c.first c.is in
    subst (λ (y : trees.Test × List Token). SpellsTest nesting (names_at h) ts y.0 y.1) (ok_is _ _ c.then) (record {
      test = record { left = left.expr; relation = b.first.0; right = right.expr };
      tokens = left.tokens ∙ ap (expr_tokens left.expr) (relation ∙ ap (λ (y : List Token). Fixed (relation_symbol b.first.0) ∷ y) right.tokens);
      depth = omega (arith, left.depth, right.depth);
      meaning = rw (left.meaning, right.meaning) refl;
    })

-- LISTS

no_close : (t : Term) (ts : List Token) → next_is CloseParen (term_tokens t ts) ≡ false
unfolding next_is
no_close (OfNumber n) ts = refl
no_close (OfName text) ts = refl
no_close (Grouped first more) ts = refl

no_sign_comma : (ts : List Token) → sign_at (Fixed Comma ∷ ts) ≡ None
unfolding next_is
no_sign_comma ts = refl

no_sign_close : (ts : List Token) → sign_at (Fixed CloseParen ∷ ts) ≡ None
unfolding next_is
no_sign_close ts = refl

no_comma : (ts : List Token) → next_is Comma (Fixed CloseParen ∷ ts) ≡ false
unfolding next_is
no_comma ts = refl

record Headed (ns : Names) (e : Expr) (es : List Expr) (list : List trees.Expr) : Type 0 where
  head : trees.Expr
  tail : List trees.Expr
  is : expr_meaning ns e ≡ Some head
  others : exprs_meaning ns es ≡ Some tail
  whole : head ∷ tail ≡ list

headed : (ns : Names) (e : Expr) (es : List Expr) (list : List trees.Expr) → exprs_meaning ns (e ∷ es) ≡ Some list → Headed ns e es list
unfolding exprs_meaning
headed ns e es list h =
    let x = part (expr_meaning ns e) _ list h in
    let xs = part (exprs_meaning ns es) _ list x.then in
    record { head = x.first; tail = xs.first; is = x.is; others = xs.is; whole = some_is _ _ xs.then }

nothing_else : (ns : Names) (list : List trees.Expr) → exprs_meaning ns [] ≡ Some list → [] ≡ list
unfolding exprs_meaning
nothing_else ns list e = some_is _ _ e

too_long : (a b c d : Expr) (es : List Expr) → leb (length (a ∷ b ∷ c ∷ d ∷ es)) 3 ≡ true → ⊥
too_long a b c d es e = (let small : length (a ∷ b ∷ c ∷ d ∷ es) ≤ 3 = grind (arith, nat_tests) in omega arith)

members_again : (es : List Expr) (nesting : ℕ) (ns : Names) (counts : Counts) (list : List trees.Expr) (rest : List Token) → 0 < nesting → exprs_depth es < nesting → leb (length es) 3 ≡ true → exprs_meaning ns es ≡ Some list
    → members_at nesting (at ns counts) (members_tokens es (Fixed CloseParen ∷ rest)) ≡ Ok (list, Fixed CloseParen ∷ rest)
unfolding members_at
members_again [] nesting ns counts list rest some deep few e =
    let last = Fixed CloseParen ∷ rest in
    rw (is_next CloseParen rest) (ap (λ (y : List trees.Expr). Ok (y, last)) (nothing_else ns list e))
members_again (a ∷ []) nesting ns counts list rest some deep few e =
    let x = headed ns a [] list e in
    let last = Fixed CloseParen ∷ rest in
    rw (no_close a.first (terms_tokens a.more last), expr_reads a nesting ns counts x.head last (omega (arith, deep)) x.is (no_sign_close rest), no_comma rest)
    (ap (λ (y : List trees.Expr). Ok (y, last)) (ap (λ (y : List trees.Expr). x.head ∷ y) (nothing_else ns x.tail x.others) ∙ x.whole))
members_again (a ∷ b ∷ []) nesting ns counts list rest some deep few e =
    let x = headed ns a (b ∷ []) list e in
    let y = headed ns b [] x.tail x.others in
    let last = Fixed CloseParen ∷ rest in
    let second = expr_tokens b last in
    rw (
      no_close a.first (terms_tokens a.more (Fixed Comma ∷ second)),
      expr_reads a nesting ns counts x.head (Fixed Comma ∷ second) (omega (arith, deep)) x.is (no_sign_comma second),
      is_next Comma second,
      accept_ok nesting (Fixed Comma) second some,
      expr_reads b nesting ns counts y.head last (omega (arith, deep)) y.is (no_sign_close rest),
      no_comma rest,
    )
    (ap (λ (z : List trees.Expr). Ok (z, last)) (ap (λ (z : List trees.Expr). x.head ∷ y.head ∷ z) (nothing_else ns y.tail y.others) ∙ ap (λ (z : List trees.Expr). x.head ∷ z) y.whole ∙ x.whole))
members_again (a ∷ b ∷ c ∷ []) nesting ns counts list rest some deep few e =
    let x = headed ns a (b ∷ c ∷ []) list e in
    let y = headed ns b (c ∷ []) x.tail x.others in
    let w = headed ns c [] y.tail y.others in
    let last = Fixed CloseParen ∷ rest in
    let third = expr_tokens c last in
    let second = expr_tokens b (Fixed Comma ∷ third) in
    rw (
      no_close a.first (terms_tokens a.more (Fixed Comma ∷ second)),
      expr_reads a nesting ns counts x.head (Fixed Comma ∷ second) (omega (arith, deep)) x.is (no_sign_comma second),
      is_next Comma second,
      accept_ok nesting (Fixed Comma) second some,
      expr_reads b nesting ns counts y.head (Fixed Comma ∷ third) (omega (arith, deep)) y.is (no_sign_comma third),
      is_next Comma third,
      accept_ok nesting (Fixed Comma) third some,
      expr_reads c nesting ns counts w.head last (omega (arith, deep)) w.is (no_sign_close rest),
      no_comma rest,
    )
    (ap (λ (z : List trees.Expr). Ok (z, last)) (ap (λ (z : List trees.Expr). x.head ∷ y.head ∷ w.head ∷ z) (nothing_else ns w.tail w.others) ∙ ap (λ (z : List trees.Expr). x.head ∷ y.head ∷ z) w.whole ∙ ap (λ (z : List trees.Expr). x.head ∷ z) y.whole ∙ x.whole))
members_again (a ∷ b ∷ c ∷ d ∷ es) nesting ns counts list rest some deep few e = absurd (too_long a b c d es few)

pub list_reads : (es : List Expr) (nesting : ℕ) (ns : Names) (counts : Counts) (list : List trees.Expr) (rest : List Token) → list_depth es < nesting → list_meaning ns es ≡ Some list
    → list_at nesting (at ns counts) (list_tokens es rest) ≡ Ok (list, rest)
unfolding list_at list_meaning
list_reads es nesting ns counts list rest deep e =
    if_else_some (leb (length es) 3) _ list e
    (λ few f.
    rw (
      expect_ok nesting OpenParen (members_tokens es (Fixed CloseParen ∷ rest)) (omega (arith, deep)),
      members_again es (nesting - 1) ns counts list rest (omega (arith, deep)) (omega (arith, deep)) few f,
      expect_ok (nesting - 1) CloseParen rest (omega (arith, deep)),
    ) refl)

record SpellsMembers (nesting : ℕ) (ns : Names) (ts : List Token) (list : List trees.Expr) (rest : List Token) : Type 0 where
  members : List Expr
  tokens : ts ≡ members_tokens members rest
  depth : 0 < nesting → exprs_depth members < nesting
  few : leb (length members) 3 ≡ true
  meaning : exprs_meaning ns members ≡ Some list

members_found : (nesting : ℕ) (h : Here) (ts : List Token) (x : List trees.Expr × List Token) → members_at nesting h ts ≡ Ok x → SpellsMembers nesting (names_at h) ts x.0 x.1
unfolding members_at exprs_meaning
members_found nesting h ts x e =
    if_ok (next_is CloseParen ts) _ _ x e
    (λ _ f. subst (λ (y : List trees.Expr × List Token). SpellsMembers nesting (names_at h) ts y.0 y.1) (ok_is _ _ f) (record { members = []; tokens = refl; depth = λ some. some; few = refl; meaning = refl }))
    (λ _ f.
    let a = bound_ok (expr_at nesting h ts) _ x f in
    let p = expr_found nesting h ts a.first a.is in
    if_ok (next_is Comma a.first.1) _ _ x a.then
    (λ comma g.
    let r = bound_ok (accept_at nesting a.first.1) _ x g in
    let r-is = accept_found nesting (Fixed Comma) a.first.1 r.first (next_found Comma a.first.1 comma) r.is in
    let b = bound_ok (expr_at nesting h r.first) _ x r.then in
    let q = expr_found nesting h r.first b.first b.is in
    if_ok (next_is Comma b.first.1) _ _ x b.then
    (λ comma' k.
    let s = bound_ok (accept_at nesting b.first.1) _ x k in
    let s-is = accept_found nesting (Fixed Comma) b.first.1 s.first (next_found Comma b.first.1 comma') s.is in
    let c = bound_ok (expr_at nesting h s.first) _ x s.then in
    let w = expr_found nesting h s.first c.first c.is in
    if_ok (next_is Comma c.first.1) _ _ x c.then
    (λ _ m. (let o = bound_ok (accept_at nesting c.first.1) _ x m in no_ok _ _ o.then))
    (λ _ m.
    subst (λ (y : List trees.Expr × List Token). SpellsMembers nesting (names_at h) ts y.0 y.1) (ok_is _ _ m) (record {
      members = p.expr ∷ q.expr ∷ w.expr ∷ [];
      tokens = p.tokens ∙ ap (expr_tokens p.expr) (r-is.is ∙ ap (λ (y : List Token). Fixed Comma ∷ y) (q.tokens ∙ ap (expr_tokens q.expr) (s-is.is ∙ ap (λ (y : List Token). Fixed Comma ∷ y) w.tokens)));
      depth = λ some. omega (arith, p.depth, q.depth, w.depth);
      few = refl;
      meaning = rw (p.meaning, q.meaning, w.meaning) refl;
    })))
    (λ _ k.
    subst (λ (y : List trees.Expr × List Token). SpellsMembers nesting (names_at h) ts y.0 y.1) (ok_is _ _ k) (record {
      members = p.expr ∷ q.expr ∷ [];
      tokens = p.tokens ∙ ap (expr_tokens p.expr) (r-is.is ∙ ap (λ (y : List Token). Fixed Comma ∷ y) q.tokens);
      depth = λ some. omega (arith, p.depth, q.depth);
      few = refl;
      meaning = rw (p.meaning, q.meaning) refl;
    })))
    (λ _ g.
    subst (λ (y : List trees.Expr × List Token). SpellsMembers nesting (names_at h) ts y.0 y.1) (ok_is _ _ g)
    (record { members = p.expr ∷ []; tokens = p.tokens; depth = λ some. omega (arith, p.depth); few = refl; meaning = rw p.meaning refl })))

pub record SpellsList (nesting : ℕ) (ns : Names) (ts : List Token) (list : List trees.Expr) (rest : List Token) : Type 0 where
  pub members : List Expr
  pub tokens : ts ≡ list_tokens members rest
  pub depth : list_depth members < nesting
  pub meaning : list_meaning ns members ≡ Some list

pub list_found : (nesting : ℕ) (h : Here) (ts : List Token) (x : List trees.Expr × List Token) → list_at nesting h ts ≡ Ok x → SpellsList nesting (names_at h) ts x.0 x.1
unfolding list_at list_meaning
list_found nesting h ts x e =
    let a = bound_ok (expect_at nesting OpenParen ts) _ x e in
    let first = expect_found nesting OpenParen ts a.first a.is in
    let b = bound_ok (members_at (nesting - 1) h a.first) _ x a.then in
    let m = members_found (nesting - 1) h a.first b.first b.is in
    let c = bound_ok (expect_at (nesting - 1) CloseParen b.first.1) _ x b.then in
    let last = expect_found (nesting - 1) CloseParen b.first.1 c.first c.is in
    let d = m.depth last.some in
    subst (λ (y : List trees.Expr × List Token). SpellsList nesting (names_at h) ts y.0 y.1) (ok_is _ _ c.then) (record {
      members = m.members;
      tokens = first.is ∙ ap (λ (y : List Token). Fixed OpenParen ∷ y) (m.tokens ∙ ap (members_tokens m.members) last.is);
      depth = omega (arith, d, last.some);
      meaning = rw m.few m.meaning;
    })
