use Rattle.cell_hand.proofs.Looking.{can_open}
use Rattle.cell_hand.proofs.hand.Hand.begin.Goals as goal

pub open_fresh-requires : goal.open_fresh-requires
open_fresh-requires c = record { fresh = can_open c.reach.new.self c.write.new.self c.args.row c.args.offers.now c.in_ok-reach.ensures.0 c.write.ensures }

pub returns : goal.returns
returns c =
    (c.in_ok-test_room.ensures.room, c.reach.new.self, c.in_ok-reach.ensures, c.write.new.self, c.write.ensures, c.open_fresh.new.self, c.open_fresh.ensures.made, c.search_opened.ensures)
