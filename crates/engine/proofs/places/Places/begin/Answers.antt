use Rattle.std.proofs.Common.{◌∙◌, true, refl, ap}
use Rattle.std.proofs.lemmas.Option.{get_or_from_slice_get}
use Rattle.engine.proofs.places.Places.begin.Goals as goal

pub returns : goal.returns
returns g c =
    let was = c.index_mut-slot.result.now in
    record {
      slot = record { used = true; generation = c.args.generation; value = was.value; next_free = was.next_free };
      is = refl;
      used = refl;
      since = refl;
      value = λ before at. ap (λ s. s.value) (c.index_mut-slot.ensures.value ∙ get_or_from_slice_get c.args.self.now.slots.items c.args.index before was at);
    }
