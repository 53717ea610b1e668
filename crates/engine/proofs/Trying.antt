-- What an order tries.
use Rattle.std.proofs.Common.{◌≡◌, ℕ, suc, ◌+◌, ◌*◌, refl, ap, arith}
use Rattle.std.proofs.lemmas.Nat.{mod_below}
use Rattle.engine.specs.declared.order.Order.{Order}
use Rattle.engine.specs.Orders.{GoesOn, HasInverse, TriesEach, tried}
use Rattle.engine.proofs.Multiples.{each, once, rest-alike}

pub one-has-inverse : (count : ℕ) → HasInverse 1 count
one-has-inverse count = (1, refl)

-- to go back by one undoes itself
pub back-has-inverse : (step count : ℕ) → step + 1 ≡ count → HasInverse step count
back-has-inverse step count e = (step, rest-alike count (step * step) 1 (record { k = 1; l = step; is = omega (arith, e, ap (λ n. step * n) e) }))

pub tries-each : (o : Order) → HasInverse o.step o.count → TriesEach o
unfolding tried
tries-each o inverse = record {
  within = λ time p. mod_below (o.at + time * o.step) o.count (omega (arith, p));
  once = λ one other p q same. once o.count o.step o.at one other inverse p q same;
  each = λ place p. each o.count o.step o.at place inverse p;
}

pub goes-on : (old new : Order) (k : ℕ) → new.count ≡ old.count → new.step ≡ old.step → new.at + k * old.count ≡ old.at + old.step → GoesOn old new
unfolding tried
goes-on old new k count step at = record {
  count = count;
  next = λ time. rw (count, step) (rest-alike old.count (new.at + time * old.step) (old.at + suc time * old.step) (record { k = k; l = 0; is = omega (arith, at) }));
}
