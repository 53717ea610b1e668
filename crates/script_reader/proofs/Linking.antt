-- Lists that are linked from behind, and what a reader with less nesting reads.
use Rattle.std.proofs.Common.{◌≡◌, ℕ, zero, suc, ◌-◌, List, [], ◌∷◌, ◌++◌, Some, None, Result, Ok, refl, sym, ap, arith}
use Rattle.script_tree.specs.Trees.{Term, Terms, Nothing, More}
use Rattle.script_token.specs.Tokens.{Token}
use Rattle.script_reader.specs.Steps.{Here, Told, ◌>>=◌, accept_at, next_is}
use Rattle.script_reader.specs.Exprs.{with_term, sign_at, term_step, operand_with, operand_at, sum_at}
use Rattle.script_grammar.specs.Meaning.{Parts, linked}
use Rattle.script_tree.specs.declared.tree.Sign.{Sign}

-- terms in front of linked ones
abbrev pub linked_on : Terms → List (Sign × Term) → Terms
linked_on end [] = end
linked_on end (t ∷ ts) = More t.0 t.1 (linked_on end ts)

pub linked_on-nothing : (ts : List (Sign × Term)) → linked_on Nothing ts ≡ linked ts
unfolding linked
linked_on-nothing [] = refl
linked_on-nothing (t ∷ ts) = ap (More t.0 t.1) (linked_on-nothing ts)

pub linked_on-more : (end : Terms) (ts : List (Sign × Term)) (t : Sign × Term) → linked_on end (ts ++ t ∷ []) ≡ linked_on (More t.0 t.1 end) ts
linked_on-more end [] t = refl
linked_on-more end (x ∷ ts) t = ap (More x.0 x.1) (linked_on-more end ts t)

pub operand_at-is : (nesting : ℕ) (h : Here) (ts : List Token) → operand_with (sum_at (nesting - 1) h) nesting h ts ≡ operand_at nesting h ts
unfolding operand_at operand_with accept_at next_is sum_at
operand_at-is zero h [] = refl
operand_at-is zero h (t ∷ ts) = refl
operand_at-is (suc r) h ts = (let e : suc r - 1 ≡ r = omega arith in ap (λ (n : ℕ). operand_with (sum_at n h) (suc r) h ts) e)

-- a further term
pub term_step-some : (operand : List Token → Result (Parts × List Token) Told) (nesting : ℕ) (p : Parts) (ts : List Token) (sign : Sign) → Some sign ≡ sign_at ts
    → term_step operand nesting (p, ts) ≡ Some (accept_at nesting ts >>= λ rest. operand rest >>= λ t. Ok (with_term p sign t.0, t.1))
term_step-some operand nesting p ts sign e = rw (sym e) refl

pub term_step-none : (operand : List Token → Result (Parts × List Token) Told) (nesting : ℕ) (p : Parts) (ts : List Token) → None ≡ sign_at ts → term_step operand nesting (p, ts) ≡ None
term_step-none operand nesting p ts e = rw (sym e) refl

pub term_read : (operand : List Token → Result (Parts × List Token) Told) (nesting : ℕ) (p : Parts) (ts rest : List Token) (sign : Sign) (t : Parts × List Token)
    → accept_at nesting ts ≡ Ok rest → operand rest ≡ Ok t → ◌>>=◌ {B = Parts × List Token} (accept_at nesting ts) (λ rest. ◌>>=◌ {B = Parts × List Token} (operand rest) (λ t. Ok (with_term p sign t.0, t.1))) ≡ Ok (with_term p sign t.0, t.1)
term_read operand nesting p ts rest sign t a b = rw (a, b) refl
