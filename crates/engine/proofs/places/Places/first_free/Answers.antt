use Rattle.std.proofs.Common.{arith, rules}
use Rattle.std.proofs.lemmas.Grind.{common_steps}
use Rattle.std.proofs.lemmas.Option.{gets}
use Rattle.engine.proofs.places.Places.first_free.Goals as goal

pub returns-in-Some : goal.returns-in-Some
returns-in-Some g c = record { slot = c.in-Some.slot.now; at = grind (arith, common_steps, gets); unused = grind (arith, rules) }
