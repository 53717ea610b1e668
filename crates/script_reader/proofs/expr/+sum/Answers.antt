use Rattle.std.proofs.Common.{◌≡◌, ℕ, ◌+◌, ◌-◌, List, [], ◌∷◌, ◌++◌, map, length, Result, Ok, sym, ap, ◌∙◌, arith}
use Rattle.std.proofs.lemmas.List.{map-append}
use Rattle.script_tree.specs.declared.tree.Sign.{Sign}
use Rattle.script_tree.specs.Trees.{Term}
use Rattle.script_token.specs.Tokens.{Token}
use Rattle.script_reader.specs.Steps.{Told, ◌>>=◌, bare, here, repeated, accept_at}
use Rattle.script_reader.specs.Exprs.{parts_of, signed_of, with_term, operand_at, sum_with, sum_at, term_step}
use Rattle.script_grammar.specs.Meaning.{Parts, parts_term}
use Rattle.script_reader.proofs.Giving.{gives_err, fails_same, fails_bind, repeated_step, repeated_none, repeated_all}
use Rattle.script_reader.proofs.Fronts.{length_bare}
use Rattle.script_reader.proofs.Linking.{operand_at-is, term_step-some, term_step-none, term_read}
use Rattle.script_reader.specs.declared.fault.Stop.TheVariants.{At}
use Rattle.script_reader.proofs.expr.+sum.Goals as goal

pub sum_of-returns-in_err-sum : goal.sum_of-returns-in_err-sum
unfolding sum_at sum_with
sum_of-returns-in_err-sum t c =
    let h = here c.args.scope.now in
    let ts = bare c.args.tokens.now in
    let e = c.in_err-sum.field-0.0 in
    gives_err _ c.from_residual.result e _ c.from_residual.ensures.1
    (fails_bind e (operand_at c.args.nesting h ts) (repeated (term_step (operand_at c.args.nesting h) c.args.nesting) (length ts)) (fails_same e _ _ (operand_at-is c.args.nesting h ts) c.in_err-sum.ensures))

pub sum_of-loop-turn-init : goal.sum_of-loop-turn-init
unfolding sum_at sum_with
sum_of-loop-turn-init t c =
    let h = here c.args.scope.now in
    let ts = bare c.args.tokens.now in
    let is : operand_at c.args.nesting h ts ≡ Ok (parts_of c.in_ok-sum.sum, bare c.in_ok-sum.rest.now) = sym (operand_at-is c.args.nesting h ts) ∙ c.in_ok-sum.ensures in
    rw is (ap (λ (n : ℕ). repeated (term_step (operand_at c.args.nesting h) c.args.nesting) n (parts_of c.in_ok-sum.sum, bare c.in_ok-sum.rest.now)) (omega arith))

pub sum_of-loop-turn-preserved : goal.sum_of-loop-turn-preserved
sum_of-loop-turn-preserved t c =
    let h = here c.args.scope.now in
    let nesting = c.args.nesting in
    let p = parts_of c.loop-turn.sum in
    let rest = bare c.loop-turn.rest.now in
    let operand = operand_at nesting h in
    let step = term_step-some operand nesting p rest c.in-Some.sign c.in-Some.ensures in
    let whole = repeated_step (term_step operand nesting) (length (bare c.args.tokens.now)) c.loop-turn._turn (p, rest) _ _ (omega (arith, length_bare c.args.tokens.now, c.loop-turn-test.true)) step c.loop-turn.invariant in
    let read : operand (bare c.in_ok-after.after.now) ≡ Ok (parts_of c.in_ok-term.term, bare c.in_ok-term.after.now) = sym (operand_at-is nesting h (bare c.in_ok-after.after.now)) ∙ c.in_ok-term.ensures in
    let done = term_read operand nesting p rest (bare c.in_ok-after.after.now) c.in-Some.sign (parts_of c.in_ok-term.term, bare c.in_ok-term.after.now) c.in_ok-after.ensures.value read in
    let old = c.loop-turn.sum.more.items in
    let items : map signed_of c.push.new.self.items ≡ map signed_of old ++ (c.in-Some.sign, parts_term (parts_of c.in_ok-term.term)) ∷ [] =
    ap (map signed_of) c.in_ok-push.ensures.items ∙ map-append signed_of old ((c.in-Some.sign, c.in_ok-term_of.field-0) ∷ []) ∙ ap (λ (t : Term). map signed_of old ++ (c.in-Some.sign, t) ∷ []) c.in_ok-term_of.ensures in
    let next = repeated (term_step operand nesting) (length (bare c.args.tokens.now) - (c.loop-turn._turn + 1)) in
    ap (λ (xs : List (Sign × Term)). next ((c.loop-turn.sum.first, xs), bare c.in_ok-term.after.now)) items ∙ ap (λ (r : Result (Parts × List Token) Told). r >>= next) (sym done) ∙ whole

pub sum_of-returns-in_default : goal.sum_of-returns-in_default
sum_of-returns-in_default t c =
    let h = here c.args.scope.now in
    let nesting = c.args.nesting in
    let p = parts_of c.loop-turn.sum in
    let rest = bare c.loop-turn.rest.now in
    repeated_none (term_step (operand_at nesting h) nesting) (length (bare c.args.tokens.now) - c.loop-turn._turn) (p, rest) (sum_at nesting h (bare c.args.tokens.now)) (term_step-none (operand_at nesting h) nesting p rest c.in_default.ensures) c.loop-turn.invariant

pub sum_of-returns-in_err-after : goal.sum_of-returns-in_err-after
sum_of-returns-in_err-after t c =
    let h = here c.args.scope.now in
    let nesting = c.args.nesting in
    let p = parts_of c.loop-turn.sum in
    let rest = bare c.loop-turn.rest.now in
    let operand = operand_at nesting h in
    let e = At c.in_err-after.field-0.0 in
    let step = term_step-some operand nesting p rest c.in-Some.sign c.in-Some.ensures in
    let whole = repeated_step (term_step operand nesting) (length (bare c.args.tokens.now)) c.loop-turn._turn (p, rest) _ _ (omega (arith, length_bare c.args.tokens.now, c.loop-turn-test.true)) step c.loop-turn.invariant in
    gives_err _ c.from_residual-in_err-after.result e _ c.from_residual-in_err-after.ensures.1
    (fails_same e _ _ whole (fails_bind e _ _ (fails_bind e (accept_at nesting rest) _ c.in_err-after.ensures.value)))

pub sum_of-returns-in_err-term : goal.sum_of-returns-in_err-term
sum_of-returns-in_err-term t c =
    let h = here c.args.scope.now in
    let nesting = c.args.nesting in
    let p = parts_of c.loop-turn.sum in
    let rest = bare c.loop-turn.rest.now in
    let after = bare c.in_ok-after.after.now in
    let operand = operand_at nesting h in
    let e = c.in_err-term.field-0.0 in
    let step = term_step-some operand nesting p rest c.in-Some.sign c.in-Some.ensures in
    let whole = repeated_step (term_step operand nesting) (length (bare c.args.tokens.now)) c.loop-turn._turn (p, rest) _ _ (omega (arith, length_bare c.args.tokens.now, c.loop-turn-test.true)) step c.loop-turn.invariant in
    let behind = λ (ts : List Token). operand ts >>= λ t. Ok (with_term p c.in-Some.sign t.0, t.1) in
    let same : behind after ≡ (accept_at nesting rest >>= behind) = sym (ap (λ (r : Result (List Token) Told). r >>= behind) c.in_ok-after.ensures.value) in
    gives_err _ c.from_residual-in_err-term.result e _ c.from_residual-in_err-term.ensures.1
    (fails_same e _ _ whole (fails_bind e _ _ (fails_same e _ _ same (fails_bind e (operand after) _ (fails_same e _ _ (operand_at-is nesting h after) c.in_err-term.ensures)))))

pub sum_of-returns : goal.sum_of-returns
sum_of-returns t c =
    repeated_all (term_step (operand_at c.args.nesting (here c.args.scope.now)) c.args.nesting) (length (bare c.args.tokens.now)) c.loop-turn._turn (parts_of c.loop-turn.sum, bare c.loop-turn.rest.now) (sum_at c.args.nesting (here c.args.scope.now) (bare c.args.tokens.now))
    (omega (arith, length_bare c.args.tokens.now, c.loop-turn-test.false)) c.loop-turn.invariant
