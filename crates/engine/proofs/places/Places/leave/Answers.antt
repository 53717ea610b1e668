use Rattle.std.proofs.Common.{false, refl}
use Rattle.engine.proofs.places.Places.leave.Goals as goal

pub returns : goal.returns
returns g c =
    let was = c.index_mut-slot.result.now in
    record { slot = record { used = false; generation = was.generation; value = was.value; next_free = c.args.self.now.free }; is = refl; unused = refl }
