-- Events and blocks, read with the nesting that is left a level deeper; lists that are linked from behind.
use Rattle.std.proofs.Common.{◌≡◌, ℕ, zero, suc, ◌-◌, List, [], ◌∷◌, ◌++◌, refl, sym, ap, arith, Bool, true, false, cond, leb, length, Result, Ok, Err, Some, None}
use Rattle.script_token.specs.Tokens.{Token}
use Rattle.script_reader.specs.Steps.{Here, Told, Fails, accept_at, expect_at, next_is}
use Rattle.script_reader.specs.declared.fault.Problem.TheVariants.{Syntax, TooMany}
use Rattle.script_token.specs.declared.kind.Symbol.{Symbol}
use Rattle.script_token.specs.declared.kind.Symbol.TheVariants.{OpenBrace, CloseBrace, Comma}
use Rattle.script_reader.specs.declared.fault.Stop.{Stop}
use Rattle.script_reader.proofs.Giving.{fails_bind}
use Rattle.script_tree.specs.Trees.{Event, Events, NoMembers, Members, Stmt, Block, Stops, Runs}
use Rattle.script_reader.specs.Blocks.{chain, body, ReadsEvent, ReadsStmt, event_at, block_at, turn_at, stmt_at, event_with, block_with, turn_with, choose_with, wrap_with, guard_with, nack_with, nack_word_at, member_step, member_next, stmt_step, stmt_next}
use Rattle.script_reader.specs.declared.process.Loops.{Loops as Place}

abbrev pub chain_on : Events → List Event → Events
chain_on end [] = end
chain_on end (e ∷ es) = Members e (chain_on end es)

pub chain_on-nothing : (es : List Event) → chain_on NoMembers es ≡ chain es
chain_on-nothing [] = refl
chain_on-nothing (e ∷ es) = ap (Members e) (chain_on-nothing es)

pub chain_on-more : (end : Events) (es : List Event) (e : Event) → chain_on end (es ++ e ∷ []) ≡ chain_on (Members e end) es
chain_on-more end [] e = refl
chain_on-more end (x ∷ es) e = ap (Members x) (chain_on-more end es e)

abbrev pub body_on : Block → List Stmt → Block
body_on end [] = end
body_on end (s ∷ ss) = Runs s (body_on end ss)

pub body_on-nothing : (ss : List Stmt) → body_on Stops ss ≡ body ss
body_on-nothing [] = refl
body_on-nothing (s ∷ ss) = ap (Runs s) (body_on-nothing ss)

pub body_on-more : (end : Block) (ss : List Stmt) (s : Stmt) → body_on end (ss ++ s ∷ []) ≡ body_on (Runs s end) ss
body_on-more end [] s = refl
body_on-more end (x ∷ ss) s = ap (Runs x) (body_on-more end ss s)

-- where nothing may lie so deep, nothing is taken
record IsErr {A : Type 0} (r : Result A Told) : Type 0 where
  pub told : Told
  pub is : r ≡ Err told

choice_err : {A : Type 0} (b : Bool) (x y : Told) → IsErr {A = A} (cond b (Err x) (Err y))
choice_err true x y = record { told = x; is = refl }
choice_err false x y = record { told = y; is = refl }

accept_zero : (ts : List Token) → IsErr (accept_at zero ts)
unfolding accept_at
accept_zero [] = record { told = (Syntax, 0); is = refl }
accept_zero (t ∷ ts) = record { told = (TooMany, length (t ∷ ts)); is = refl }

expect_zero : (symbol : Symbol) (ts : List Token) → IsErr (expect_at zero symbol ts)
unfolding expect_at
expect_zero symbol ts = (let a = accept_zero ts in let c = choice_err {A = List Token} (next_is symbol ts) a.told (Syntax, length ts) in record { told = c.told; is = rw a.is c.is })

nack_word_zero : (h : Here) (ts : List Token) → IsErr (nack_word_at zero h ts)
unfolding nack_word_at
nack_word_zero h ts = (let a = accept_zero ts in let c = choice_err {A = Here × List Token} (leb 4 h.counts.nacks) (TooMany, length ts) a.told in record { told = c.told; is = rw a.is c.is })

pub event_at_is : (nesting : ℕ) (h : Here) (ts : List Token) → event_at nesting h ts ≡ event_with (event_at (nesting - 1)) (block_at (nesting - 1)) nesting h ts
unfolding event_at event_with choose_with wrap_with guard_with nack_with
event_at_is zero h ts = (let a = accept_zero ts in let n = nack_word_zero h ts in rw (a.is, n.is) refl)
event_at_is (suc r) h ts = (let e : suc r - 1 ≡ r = omega arith in sym (ap (λ (n : ℕ). event_with (event_at n) (block_at n) (suc r) h ts) e))

pub block_at_is : (nesting : ℕ) (place : Place) (h : Here) (ts : List Token) → block_at nesting place h ts ≡ block_with (stmt_at (nesting - 1)) nesting place h ts
unfolding block_at block_with stmt_at
block_at_is zero place h ts = (let e = expect_zero OpenBrace ts in rw e.is refl)
block_at_is (suc r) place h ts = (let e : suc r - 1 ≡ r = omega arith in sym (ap (λ (n : ℕ). block_with (stmt_at n) (suc r) place h ts) e))

pub turn_at_is : (nesting word : ℕ) (h : Here) (ts : List Token) → turn_at nesting word h ts ≡ turn_with (event_at (nesting - 1)) (stmt_at (nesting - 1)) nesting word h ts
unfolding turn_at turn_with stmt_at
turn_at_is zero word h ts = (let e = expect_zero OpenBrace ts in rw e.is refl)
turn_at_is (suc r) word h ts = (let e : suc r - 1 ≡ r = omega arith in sym (ap (λ (n : ℕ). turn_with (event_at n) (stmt_at n) (suc r) word h ts) e))

-- MEMBERS AND STATEMENTS

abbrev pub SoFar : Type 0 → Type 0
SoFar A = List A × Here × List Token

pub member_step-some : (event : ReadsEvent) (nesting : ℕ) (s : SoFar Event) → true ≡ next_is Comma s.2 → member_step event nesting s ≡ Some (member_next event nesting s)
member_step-some event nesting s e = rw (sym e) refl

pub member_step-none : (event : ReadsEvent) (nesting : ℕ) (s : SoFar Event) → false ≡ next_is Comma s.2 → member_step event nesting s ≡ None
member_step-none event nesting s e = rw (sym e) refl

pub member_next-ok : (event : ReadsEvent) (nesting : ℕ) (s : SoFar Event) (rest : List Token) (e : Event × Here × List Token)
    → accept_at nesting s.2 ≡ Ok rest → event s.1 rest ≡ Ok e → member_next event nesting s ≡ Ok (s.0 ++ e.0 ∷ [], e.1, e.2)
member_next-ok event nesting s rest e a b = rw (a, b) refl

pub member_next-no_room : (event : ReadsEvent) (nesting : ℕ) (s : SoFar Event) (e : Stop) → Fails e (accept_at nesting s.2) → Fails e (member_next event nesting s)
member_next-no_room event nesting s e h = fails_bind e (accept_at nesting s.2) _ h

pub member_next-no_event : (event : ReadsEvent) (nesting : ℕ) (s : SoFar Event) (rest : List Token) (e : Stop) → accept_at nesting s.2 ≡ Ok rest → Fails e (event s.1 rest) → Fails e (member_next event nesting s)
member_next-no_event event nesting s rest e a h = rw a (fails_bind e (event s.1 rest) _ h)

pub stmt_step-some : (stmt : ReadsStmt) (place : Place) (s : SoFar Stmt) → false ≡ next_is CloseBrace s.2 → stmt_step stmt place s ≡ Some (stmt_next stmt place s)
stmt_step-some stmt place s e = rw (sym e) refl

pub stmt_step-none : (stmt : ReadsStmt) (place : Place) (s : SoFar Stmt) → true ≡ next_is CloseBrace s.2 → stmt_step stmt place s ≡ None
stmt_step-none stmt place s e = rw (sym e) refl

pub stmt_next-ok : (stmt : ReadsStmt) (place : Place) (s : SoFar Stmt) (x : Stmt × Here × List Token) → stmt place s.1 s.2 ≡ Ok x → stmt_next stmt place s ≡ Ok (s.0 ++ x.0 ∷ [], x.1, x.2)
stmt_next-ok stmt place s x a = rw a refl

pub stmt_next-fails : (stmt : ReadsStmt) (place : Place) (s : SoFar Stmt) (e : Stop) → Fails e (stmt place s.1 s.2) → Fails e (stmt_next stmt place s)
stmt_next-fails stmt place s e h = fails_bind e (stmt place s.1 s.2) _ h
