use Rattle.std.proofs.Common.{◌≡◌, ◌<◌, ◌+◌, ℕ, Some}
use Rattle.std.specs.List.{slice_get}
use Rattle.engine.specs.declared.offers.Offer.{Offer}
use Rattle.engine.specs.Orders.{IsWithin, tried}
use Rattle.engine.specs.States.{NotReady}
use Rattle.engine.specs.Tables.{Sound, state_of}
use Rattle.engine.proofs.table.Table.first_ready.Given as goal

abbrev pub invariant-loop-time : goal.invariant-loop-time
invariant-loop-time l = record {
  sound : Sound l.self;
  same : state_of l.self ≡ state_of l.initial.self;
  count : l.order.count ≡ l.initial.order.count;
  within : 0 < l.order.count → IsWithin l.order;
  on : (t : ℕ) → tried l.order t ≡ tried l.initial.order (l._time + t);
  none : (t : ℕ) (offer : Offer) → t < l._time → slice_get l.offers (tried l.initial.order t) ≡ Some offer → NotReady (state_of l.initial.self) offer;
}
