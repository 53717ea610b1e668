use Rattle.std.proofs.Common.{sym, subst, refl, inl}
use Rattle.cell_table.specs.declared.view.View.{View}
use Rattle.cell_table.specs.Sight.{Has}
use Rattle.cell.proofs.reading.end_stamp.Goals as goal

pub last_at-requires-clause-sits : goal.last_at-requires-clause-sits
last_at-requires-clause-sits g c =
    let has : Has c.look_life.new.seat.me.0.seen.ended (c.args.thread, c.in-Ended.sync) = subst (λ (v : View _). Has v.seen.ended (c.args.thread, c.in-Ended.sync)) (sym c.in-Ended.ensures.saw) (inl refl) in
    let inside = c.look_life.ensures.sits.1.3.ended c.args.thread c.in-Ended.sync has in
    (c.look_life.ensures.sits.1, inside.0, inside.1)
