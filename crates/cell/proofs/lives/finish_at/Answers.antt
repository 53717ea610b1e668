use Rattle.cell.proofs.Starting.{never_here}
use Rattle.std.proofs.Common.{sym, subst, refl, inl}
use Rattle.cell_table.specs.declared.view.View.{View}
use Rattle.cell_table.specs.Sight.{Has}
use Rattle.cell.proofs.lives.finish_at.Goals as goal

pub finish-requires-clause-started : goal.finish-requires-clause-started
finish-requires-clause-started g c =
    subst (λ (v : View _). Has v.seen.started (c.args.row.thread, c.in-Running.start)) (sym c.in-Running.ensures.saw) (inl refl)

pub unreachable-requires : goal.unreachable-requires
unreachable-requires g c = never_here c.args.board.now c.args.seat.now.me.0 c.args.row c.look_life.result c.requires.sits.0.2 c.requires.stands.0 c.requires.stands.1 c.look_life.ensures.agrees c.in-Unstarted.is
