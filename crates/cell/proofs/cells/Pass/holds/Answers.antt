use Rattle.std.proofs.Common.{subst, true, ◌≡◌}
use Rattle.cell.specs.Calls.{HoldsAt, PassOf}
use Rattle.cell.specs.Flags.{places_of}
use Rattle.cell.proofs.Flagging.{has_places, places_has}
use Rattle.cell.proofs.cells.Pass.holds.Goals as goal

pub returns : goal.returns
returns g c =
    let me = c.self.inside.seat.me.0 in
    let flags = c.contains.ensures (places_of me.rows me.seen) c.self.invariant.3 in
    subst (λ (p : PassOf g.row.M.Denot). (c.contains.result ≡ true → HoldsAt p c.args.row) × (HoldsAt p c.args.row → c.contains.result ≡ true)) c.self.view_is
    ((λ yes_it. places_has me.rows me.seen c.args.row (flags.0 yes_it)), (λ h. flags.1 (has_places me.rows me.seen c.args.row h)))
