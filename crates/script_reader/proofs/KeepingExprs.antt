-- What is read keeps the limits: expressions, tests and lists.
use Rattle.std.proofs.Common.{◌≡◌, ℕ, zero, suc, ◌+◌, ◌-◌, ◌<◌, List, [], ◌∷◌, ◌++◌, length, Option, Some, None, Result, Ok, is_some, subst, arith}
use Rattle.std.specs.Option.{option_map}
use Rattle.script_token.specs.Tokens.{Token}
use Rattle.script_token.specs.declared.kind.Symbol.TheVariants.{OpenParen, CloseParen, Comma}
use Rattle.script_tree.specs.declared.tree.Operand.{Operand}
use Rattle.script_tree.specs.declared.tree.Operand.TheVariants.{Number, Named}
use Rattle.script_tree.specs.declared.tree.Sign.{Sign}
use Rattle.script_tree.specs.Trees.{Term, Expr, Test}
use Rattle.script_tree.specs.Limits.{Known, OperandIsIn, TermIsIn, TermsAreIn, ExprIsIn, ListIsIn, TestIsIn, term_depth, terms_depth, expr_depth, exprs_depth, list_depth, test_depth}
use Rattle.script_reader.specs.Steps.{Told, Here, ◌>>=◌, name_at, number_at, next_is, accept_at, expect_at, read_name_at}
use Rattle.script_reader.specs.Exprs.{with_term, sign_at, term_step, operand_with, sum_with, operand_at, sum_at, expr_at, relation_at, test_at, members_at, list_at}
use Rattle.script_grammar.specs.Meaning.{Parts, linked, as_term, parts_term, whole}
use Rattle.script_reader.proofs.Keeping.{bound_ok, ok_is, no_ok, if_ok, some_ok, repeated_keeps, accept_room, expect_room, Later, name_read}

-- an operand, which as a term behind a sign is so deep
pub record OperandRead (nesting : ℕ) (h : Here) (p : Parts) : Type 0 where
  pub some : 0 < nesting
  pub is_in : (k : Known) → Later h k → OperandIsIn k p.0 × TermsAreIn k (linked p.1)
  pub depth : term_depth (parts_term p) < nesting

pub record SumRead (nesting : ℕ) (h : Here) (p : Parts) : Type 0 where
  pub some : 0 < nesting
  pub is_in : (k : Known) → Later h k → OperandIsIn k p.0 × TermsAreIn k (linked p.1)
  pub depth : terms_depth (linked p.1) < nesting

alone_read : (nesting : ℕ) (h : Here) (o : Operand) → 0 < nesting → ((k : Known) → Later h k → OperandIsIn k o) → OperandRead nesting h (o, [])
unfolding linked
alone_read nesting h o some is_in = record { some = some; is_in = λ k later. (is_in k later, tt); depth = some }

term_in : (k : Known) (o : Operand) (ts : List (Sign × Term)) → OperandIsIn k o × TermsAreIn k (linked ts) → TermIsIn k (as_term o ts)
unfolding linked
term_in k o [] h = h.0
term_in k o (t ∷ ts) h = h

term_deep : (o : Operand) (ts : List (Sign × Term)) (n : ℕ) → terms_depth (linked ts) < n → term_depth (as_term o ts) < n + 1
unfolding linked
term_deep o [] n h = omega (arith, h)
term_deep o (t ∷ ts) n h = omega (arith, h)

terms_deep : (o : Operand) (ts : List (Sign × Term)) (n : ℕ) → term_depth (as_term o ts) < n → terms_depth (linked ts) < n
unfolding linked
terms_deep o [] n h = h
terms_deep o (t ∷ ts) n h = omega (arith, h)

more_in : (k : Known) (ts : List (Sign × Term)) (t : Sign × Term) → TermsAreIn k (linked ts) → TermIsIn k t.1 → TermsAreIn k (linked (ts ++ t ∷ []))
unfolding linked
more_in k [] t h g = (g, tt)
more_in k (x ∷ ts) t h g = (h.0, more_in k ts t h.1 g)

more_deep : (ts : List (Sign × Term)) (t : Sign × Term) (n : ℕ) → terms_depth (linked ts) < n → term_depth t.1 < n → terms_depth (linked (ts ++ t ∷ [])) < n
unfolding linked
more_deep [] t n h g = omega (arith, h, g)
more_deep (x ∷ ts) t n h g = (let below : terms_depth (linked (ts ++ t ∷ [])) < n = more_deep ts t n (omega (arith, h)) g in omega (arith, h, below))

grouped : (nesting : ℕ) (h : Here) (p : Parts) → 0 < nesting → SumRead (nesting - 1) h p → OperandRead nesting h p
grouped nesting h p some inner = (let d = term_deep p.0 p.1 (nesting - 1) inner.depth in record { some = some; is_in = inner.is_in; depth = omega (arith, d, some) })

abbrev pub SumsRead : ℕ → Here → (List Token → Result (Parts × List Token) Told) → Type 0
SumsRead nesting h f = (ts : List Token) (x : Parts × List Token) → f ts ≡ Ok x → SumRead nesting h x.0

abbrev pub OperandsRead : ℕ → Here → (List Token → Result (Parts × List Token) Told) → Type 0
OperandsRead nesting h f = (ts : List Token) (x : Parts × List Token) → f ts ≡ Ok x → OperandRead nesting h x.0

operand_reads : (inner : List Token → Result (Parts × List Token) Told) (nesting : ℕ) (h : Here) → SumsRead (nesting - 1) h inner → OperandsRead nesting h (operand_with inner nesting h)
unfolding operand_with
operand_reads inner nesting h reads ts x e =
    some_ok (number_at ts) _ _ x e
    (λ n _ f.
    let b = bound_ok (accept_at nesting ts) _ x f in
    let is : ((Number n, []), b.first) ≡ x = (let q = b.then in cc) in
    subst (λ (y : Parts × List Token). OperandRead nesting h y.0) is (alone_read nesting h (Number n) (accept_room nesting ts b.first b.is) (λ k later. tt)))
    (λ f. if_ok (is_some (name_at ts)) _ _ x f
    (λ _ g.
    let b = bound_ok (read_name_at nesting h ts) _ x g in
    let n = name_read nesting h ts b.first b.is in
    let is : ((Named b.first.0, []), b.first.1) ≡ x = (let q = b.then in cc) in
    subst (λ (y : Parts × List Token). OperandRead nesting h y.0) is (alone_read nesting h (Named b.first.0) n.some n.is_in))
    (λ _ g. if_ok (next_is OpenParen ts) _ _ x g
    (λ _ k.
    let a = bound_ok (accept_at nesting ts) _ x k in
    let b = bound_ok (inner a.first) _ x a.then in
    let c = bound_ok (expect_at (nesting - 1) CloseParen b.first.1) _ x b.then in
    let is : (b.first.0, c.first) ≡ x = (let q = c.then in cc) in
    subst (λ (y : Parts × List Token). OperandRead nesting h y.0) is (grouped nesting h b.first.0 (accept_room nesting ts a.first a.is) (reads a.first b.first b.is)))
    (λ _ k. absurd cc)))

sum_from : (nesting : ℕ) (h : Here) (p : Parts) → OperandRead nesting h p → SumRead nesting h p
sum_from nesting h p o = record { some = o.some; is_in = o.is_in; depth = terms_deep p.0 p.1 nesting o.depth }

with_more : (nesting : ℕ) (h : Here) (p : Parts) (sign : Sign) (t : Parts) → SumRead nesting h p → OperandRead nesting h t → SumRead nesting h (with_term p sign t)
with_more nesting h p sign t sum o = record {
  some = sum.some;
  is_in = λ k later. ((sum.is_in k later).0, more_in k p.1 (sign, parts_term t) (sum.is_in k later).1 (term_in k t.0 t.1 (o.is_in k later)));
  depth = more_deep p.1 (sign, parts_term t) nesting sum.depth o.depth;
}

step_keeps : (operand : List Token → Result (Parts × List Token) Told) (nesting : ℕ) (h : Here) → OperandsRead nesting h operand
    → (s t : Parts × List Token) → SumRead nesting h s.0 → term_step operand nesting s ≡ Some (Ok t) → SumRead nesting h t.0
step_keeps operand nesting h reads s t sum e = at_sign (sign_at s.1) e
  where
    at_sign : (o : Option Sign) → option_map (λ sign. ◌>>=◌ {B = Parts × List Token} (accept_at nesting s.1) (λ rest. operand rest >>= λ u. Ok (with_term s.0 sign u.0, u.1))) o ≡ Some (Ok t) → SumRead nesting h t.0
    at_sign None f = absurd cc
    at_sign (Some sign) f =
        let g : ◌>>=◌ {B = Parts × List Token} (accept_at nesting s.1) (λ rest. operand rest >>= λ u. Ok (with_term s.0 sign u.0, u.1)) ≡ Ok t = cc in
        let a = bound_ok (accept_at nesting s.1) _ t g in
        let b = bound_ok (operand a.first) _ t a.then in
        let is : (with_term s.0 sign b.first.0, b.first.1) ≡ t = (let q = b.then in cc) in
        subst (λ (y : Parts × List Token). SumRead nesting h y.0) is (with_more nesting h s.0 sign b.first.0 sum (reads a.first b.first b.is))

sum_reads : (operand : List Token → Result (Parts × List Token) Told) (nesting : ℕ) (h : Here) → OperandsRead nesting h operand → SumsRead nesting h (sum_with operand nesting)
unfolding sum_with
sum_reads operand nesting h reads ts x e =
    let b = bound_ok (operand ts) _ x e in
    repeated_keeps (λ (s : Parts × List Token). SumRead nesting h s.0) (term_step operand nesting) (step_keeps operand nesting h reads) (length ts) b.first x (sum_from nesting h b.first.0 (reads ts b.first b.is)) b.then

operands_read : (nesting : ℕ) (h : Here) → OperandsRead nesting h (operand_at nesting h)
unfolding operand_at
operands_read zero h ts x e = operand_reads _ zero h (λ ts x f. absurd cc) ts x e
operands_read (suc r) h ts x e =
    let one : r ≡ suc r - 1 = omega arith in
    operand_reads (sum_with (operand_at r h) r) (suc r) h (subst (λ (n : ℕ). SumsRead n h (sum_with (operand_at r h) r)) one (sum_reads (operand_at r h) r h (operands_read r h))) ts x e

sums_read : (nesting : ℕ) (h : Here) → SumsRead nesting h (sum_at nesting h)
unfolding sum_at
sums_read nesting h ts x e = sum_reads (operand_at nesting h) nesting h (operands_read nesting h) ts x e

-- AN EXPRESSION

pub record ExprRead (nesting : ℕ) (h : Here) (e : Expr) : Type 0 where
  pub some : 0 < nesting
  pub is_in : (k : Known) → Later h k → ExprIsIn k e
  pub depth : expr_depth e < nesting

pub expr_read : (nesting : ℕ) (h : Here) (ts : List Token) (x : Expr × List Token) → expr_at nesting h ts ≡ Ok x → ExprRead nesting h x.0
unfolding expr_at
expr_read nesting h ts x e =
    let b = bound_ok (sum_at nesting h ts) _ x e in
    let s = sums_read nesting h ts b.first b.is in
    let is : (whole b.first.0, b.first.1) ≡ x = (let q = b.then in cc) in
    subst (λ (y : Expr × List Token). ExprRead nesting h y.0) is (record { some = s.some; is_in = s.is_in; depth = s.depth })

pub record TestRead (nesting : ℕ) (h : Here) (t : Test) : Type 0 where
  pub some : 0 < nesting
  pub is_in : (k : Known) → Later h k → TestIsIn k t
  pub depth : test_depth t < nesting

pub test_read : (nesting : ℕ) (h : Here) (ts : List Token) (x : Test × List Token) → test_at nesting h ts ≡ Ok x → TestRead nesting h x.0
unfolding test_at
test_read nesting h ts x e =
    let a = bound_ok (expr_at nesting h ts) _ x e in
    let b = bound_ok (relation_at nesting a.first.1) _ x a.then in
    let c = bound_ok (expr_at nesting h b.first.1) _ x b.then in
    let left = expr_read nesting h ts a.first a.is in
    let right = expr_read nesting h b.first.1 c.first c.is in
    let test : Test = record { left = a.first.0; relation = b.first.0; right = c.first.0 } in
    let is : (test, c.first.1) ≡ x = (let q = c.then in cc) in
    subst (λ (y : Test × List Token). TestRead nesting h y.0) is (record {
      some = left.some;
      is_in = λ k later. (left.is_in k later, right.is_in k later);
      depth = omega (arith, left.depth, right.depth);
    })

-- A LIST

pub record MembersRead (nesting : ℕ) (h : Here) (es : List Expr) : Type 0 where
  pub is_in : (k : Known) → Later h k → ListIsIn k es
  pub depth : 0 < nesting → exprs_depth es < nesting

none_read : (nesting : ℕ) (h : Here) → MembersRead nesting h []
none_read nesting h = record { is_in = λ k later. tt; depth = λ some. some }

one_read : (nesting : ℕ) (h : Here) (e : Expr) (es : List Expr) → ExprRead nesting h e → MembersRead nesting h es → MembersRead nesting h (e ∷ es)
one_read nesting h e es first others = record {
  is_in = λ k later. (first.is_in k later, others.is_in k later);
  depth = λ some. omega (arith, first.depth, others.depth some);
}

members_read : (nesting : ℕ) (h : Here) (ts : List Token) (x : List Expr × List Token) → members_at nesting h ts ≡ Ok x → MembersRead nesting h x.0
unfolding members_at
members_read nesting h ts x e =
    if_ok (next_is CloseParen ts) _ _ x e
    (λ _ f. (let is : ([], ts) ≡ x = cc in subst (λ (y : List Expr × List Token). MembersRead nesting h y.0) is (none_read nesting h)))
    (λ _ f.
    let a = bound_ok (expr_at nesting h ts) _ x f in
    let a-read = expr_read nesting h ts a.first a.is in
    if_ok (next_is Comma a.first.1) _ _ x a.then
    (λ _ g.
    let r = bound_ok (accept_at nesting a.first.1) _ x g in
    let b = bound_ok (expr_at nesting h r.first) _ x r.then in
    let b-read = expr_read nesting h r.first b.first b.is in
    if_ok (next_is Comma b.first.1) _ _ x b.then
    (λ _ k.
    let q = bound_ok (accept_at nesting b.first.1) _ x k in
    let c = bound_ok (expr_at nesting h q.first) _ x q.then in
    let c-read = expr_read nesting h q.first c.first c.is in
    if_ok (next_is Comma c.first.1) _ _ x c.then
    (λ _ m. (let p = bound_ok (accept_at nesting c.first.1) _ x m in no_ok _ _ p.then))
    (λ _ m.
    let is : (a.first.0 ∷ b.first.0 ∷ c.first.0 ∷ [], c.first.1) ≡ x = ok_is _ _ m in
    subst (λ (y : List Expr × List Token). MembersRead nesting h y.0) is (one_read nesting h _ _ a-read (one_read nesting h _ _ b-read (one_read nesting h _ _ c-read (none_read nesting h))))))
    (λ _ k.
    let is : (a.first.0 ∷ b.first.0 ∷ [], b.first.1) ≡ x = ok_is _ _ k in
    subst (λ (y : List Expr × List Token). MembersRead nesting h y.0) is (one_read nesting h _ _ a-read (one_read nesting h _ _ b-read (none_read nesting h)))))
    (λ _ g.
    let is : (a.first.0 ∷ [], a.first.1) ≡ x = ok_is _ _ g in
    subst (λ (y : List Expr × List Token). MembersRead nesting h y.0) is (one_read nesting h _ _ a-read (none_read nesting h))))

pub record ListRead (nesting : ℕ) (h : Here) (list : List Expr) : Type 0 where
  pub is_in : (k : Known) → Later h k → ListIsIn k list
  pub depth : list_depth list < nesting

pub list_read : (nesting : ℕ) (h : Here) (ts : List Token) (x : List Expr × List Token) → list_at nesting h ts ≡ Ok x → ListRead nesting h x.0
unfolding list_at
list_read nesting h ts x e =
    let a = bound_ok (expect_at nesting OpenParen ts) _ x e in
    let b = bound_ok (members_at (nesting - 1) h a.first) _ x a.then in
    let c = bound_ok (expect_at (nesting - 1) CloseParen b.first.1) _ x b.then in
    let m = members_read (nesting - 1) h a.first b.first b.is in
    let is : (b.first.0, c.first) ≡ x = (let q = c.then in cc) in
    subst (λ (y : List Expr × List Token). ListRead nesting h y.0) is (record {
      is_in = m.is_in;
      depth = (let d = m.depth (expect_room (nesting - 1) CloseParen b.first.1 c.first c.is) in omega (arith, d));
    })
