use Rattle.std.proofs.Common.{◌≡◌, ◌<◌, List, length, rules, subst, sym}
use Rattle.std.specs.Prelude.{IfSome}
use Rattle.meet.specs.declared.rooms.Room.{Room}
use Rattle.meet.proofs.Choosing.{nack_within}
use Rattle.meet.proofs.meet.Meet.wake.Goals as goal

pub wake_room-requires-clause-lanes : goal.wake_room-requires-clause-lanes
wake_room-requires-clause-lanes g c =
    let all : c.deref.result.now ≡ c.args.self.now.rooms.items = (search rules) in (
      (search rules),
      subst (λ (rooms : List Room). IfSome c.nack_room-at.result (λ n. n < length rooms)) (sym all) (nack_within c.args.self.now c.args.nack.thread c.nack_room-at.result c.requires.lanes.0.1 c.nack_room-at.ensures),
    )
