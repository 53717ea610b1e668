use Rattle.std.proofs.Common.{◌≡◌, subst, sym}
use Rattle.cell_table.specs.declared.view.View.{View}
use Rattle.cell_table.specs.Sight.{Learns}
use Rattle.cell.proofs.Learning.{learns_look, learns_then}
use Rattle.cell.proofs.reading.direction_of.Goals as goal

pub returns-clause-learns : goal.returns-clause-learns
returns-clause-learns g c =
    learns_then (λ q. q ≡ c.args.row) c.args.seat.now.me.0.seen c.look.new.seat.me.0.seen c.opened_direction.new.seat.me.0.seen
    (subst (λ (v : View _). Learns (λ q. q ≡ c.args.row) c.args.seat.now.me.0.seen v.seen) (sym c.look.ensures.saw) (learns_look c.args.row c.look.result c.args.seat.now.me.0.seen))
    c.opened_direction.ensures.learns
