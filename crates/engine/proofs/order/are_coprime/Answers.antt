use Rattle.std.proofs.Common.{◌≡◌, ℕ, arith, eq-eqb, subst}
use Rattle.std.specs.Int.{IsGcd}
use Rattle.std.proofs.lemmas.Nat.Gcd.{IsGcd-from_mod, IsGcd-from_zero, same_from_IsGcd}
use Rattle.std.proofs.lemmas.Bool.{eqb-true}
use Rattle.engine.proofs.Multiples.{IsMultiple, count-is-multiple, rest-is-multiple, step-is-multiple}
use Rattle.engine.proofs.order.are_coprime.Goals as goal

pub loop-less-init : goal.loop-less-init
loop-less-init c = record {
  divisor = λ g d. d;
  greater = count-is-multiple c.args.count c.args.step;
  less = step-is-multiple c.args.count c.args.step;
}

pub loop-less-preserved : goal.loop-less-preserved
loop-less-preserved c =
    let i = c.loop-less.invariant in
    record {
      divisor = λ g d. i.divisor g (IsGcd-from_mod c.loop-less.greater c.loop-less.less g d);
      greater = i.less;
      less = rest-is-multiple c.args.count c.args.step c.loop-less.greater c.loop-less.less c.requires i.greater i.less;
    }

pub returns-clause-coprime : goal.returns-clause-coprime
returns-clause-coprime c =
    let greater = c.loop-less.greater in
    let end : c.loop-less.less ≡ 0 = omega (arith, c.loop-less-test.false) in
    let divisor : IsGcd c.args.count c.args.step greater = c.loop-less.invariant.divisor greater (IsGcd-from_zero greater c.loop-less.less end) in
    (λ is. let one : greater ≡ 1 = eqb-true _ _ is in subst (λ (g : ℕ). IsGcd c.args.count c.args.step g) one divisor, λ one. eq-eqb greater 1 (same_from_IsGcd c.args.count c.args.step greater 1 divisor one))

pub returns-clause-inverse : goal.returns-clause-inverse
returns-clause-inverse c = λ is. let one : c.loop-less.greater ≡ 1 = eqb-true _ _ is in subst (λ (g : ℕ). IsMultiple c.args.count c.args.step g) one c.loop-less.invariant.greater
