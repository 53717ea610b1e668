use Rattle.std.proofs.Common.{false, refl, inr, arith}
use Rattle.engine.proofs.Lists.{get-push}
use Rattle.engine.proofs.places.Places.free_place.Goals as goal

pub returns-clause-grows : goal.returns-clause-grows
returns-clause-grows g c =
    inr (record { used = false; generation = 0; value = c.args.empty; next_free = c.args.self.now.free }, c.in_ok-push.ensures.items, refl)

pub returns-clause-ok : goal.returns-clause-ok
returns-clause-ok g c = record {
  slot = record { used = false; generation = 0; value = c.args.empty; next_free = c.args.self.now.free };
  at = rw c.in_ok-push.ensures.items (get-push c.args.self.now.slots.items _ _ (omega (arith, c.len-index.ensures, c.args.self.now.slots.ok.0)));
  unused = refl;
}
