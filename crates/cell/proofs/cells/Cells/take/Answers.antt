use Rattle.std.proofs.Common.{rules, ◌≡◌, ℕ, ◌+◌, ◌∷◌, List, length, ◌<◌, Option, None, Some, ap, sym, subst}
use Rattle.protocol_ledger.specs.Standing.{Result}
use Rattle.cell_table.specs.declared.view.Seen.{Seen}
use Rattle.cell.specs.Calls.{GridOf, PassOf, opening_at}
use Rattle.cell.proofs.Meeting.{from_none}
use Rattle.cell_table.proofs.Offers.{if_none}
use Rattle.cell.specs.Flags.{AreFlags, places_of}
use Rattle.cell_table.specs.Sight.{AreSettled, Has, Learns, SawCommitted}
use Rattle.cell_table.specs.Told.{ComesOut}
use Rattle.cell.specs.Attempts.{Took}
use Rattle.cell.proofs.Flagging.{taken_flags}
use Rattle.cell.proofs.cells.Cells.take.Goals as goal

pub returns-clause-out : goal.returns-clause-out
returns-clause-out g c =
    let seen = ap (λ (p : PassOf g.row.M.Denot). p.seen) c.pass.view_is in
    let before = ap (λ (p : PassOf g.row.M.Denot). p.out) c.pass.view_is in
    let first = ap (λ (x : GridOf g.row.M.Denot). x.first) c.self.view_is in
    subst (λ (z : Seen × List (ℕ × Option g.row.M.Denot) × List (Option g.row.M.Denot)).
    (told : List Result) × Has c.take_row.new.seat.me.0.results (c.args.row.thread, told) × (length told ≡ c.args.row.sync + 1) × ComesOut g.M.Resident.stands z.2 z.0 c.take_row.new.seat.me.0.seen c.args.row c.in_ok-joined.joined.own told z.1 c.take_row.new.seat.me.1)
    (λ i. (seen i, before i, first i)) c.in_ok-joined.ensures.out

pub invariant_of-pass-2 : goal.invariant_of-pass-2
invariant_of-pass-2 g c =
    let some : c.take_row.result ≡ Some c.in_ok-joined.joined = (search rules) in
    let rows : c.take_row.new.seat.me.0.rows ≡ c.pass.inside.seat.me.0.rows = (search rules) in
    let threads : c.insert.new.self.threads ≡ c.pass.inside.rows.threads = (search rules) in
    let all : c.insert.new.self.rows ≡ c.pass.inside.seat.me.0.rows + 1 = (search rules) in
    let old : AreFlags c.pass.inside.rows.threads (c.pass.inside.seat.me.0.rows + 1) c.pass.inside.rows.flags.items (places_of c.pass.inside.seat.me.0.rows c.pass.inside.seat.me.0.seen) = (search rules) in
    let below : c.args.row.sync < c.pass.inside.seat.me.0.rows = (search rules) in
    let took : Took c.pass.inside.seat.me.0.rows c.pass.inside.seat.me.0.seen c.take_row.new.seat.me.0.seen c.args.row c.in_ok-joined.joined = (search rules) in
    let flags = taken_flags c.pass.inside.rows.threads c.pass.inside.seat.me.0.rows c.pass.inside.rows.flags.items c.insert.new.self.flags.items c.pass.inside.seat.me.0.seen c.take_row.new.seat.me.0.seen c.args.row c.in_ok-joined.joined below took (search rules) old in
    ((search rules), (search rules), (search rules), subst (λ (z : ℕ × ℕ × ℕ). AreFlags z.0 z.1 c.insert.new.self.flags.items (places_of z.2 c.take_row.new.seat.me.0.seen)) (λ i. (sym threads i, sym all i, sym rows i)) flags, (search rules), (search rules))

pub returns-in_err-joined-clause-none : goal.returns-in_err-joined-clause-none
returns-in_err-joined-clause-none g c =
    let none : c.take_row.result ≡ None = (search rules) in
    let seen = ap (λ (p : PassOf g.row.M.Denot). p.seen) c.pass.view_is in
    if_none c.from_residual.result (Learns (λ q. q ≡ c.args.row) c.args.pass.now.seen c.take_row.new.seat.me.0.seen × (SawCommitted c.args.pass.now.seen c.args.row → Has c.take_row.new.seat.me.0.seen.taken c.args.row))
    (λ e. subst (λ (s : Seen). Learns (λ q. q ≡ c.args.row) s c.take_row.new.seat.me.0.seen × (SawCommitted s c.args.row → Has c.take_row.new.seat.me.0.seen.taken c.args.row)) seen
    (from_none c.take_row.result (Learns (λ q. q ≡ c.args.row) c.pass.inside.seat.me.0.seen c.take_row.new.seat.me.0.seen × (SawCommitted c.pass.inside.seat.me.0.seen c.args.row → Has c.take_row.new.seat.me.0.seen.taken c.args.row)) c.take_row.ensures.none none))

pub returns-clause-here : goal.returns-clause-here
returns-clause-here g c = (search rules, search rules, search rules, search rules, search rules, search rules, search rules, search rules, subst (λ (grid : GridOf g.row.M.Denot). AreSettled (opening_at grid) c.take_row.new.seat.me.0.seen) c.self.view_is c.take_row.ensures.sits.1.7, search rules, search rules)

pub returns-clause-results : goal.returns-clause-results
returns-clause-results g c =
    let before = ap (λ (p : PassOf g.row.M.Denot). p.results) c.pass.view_is in
    subst (λ (rs : List (ℕ × List Result)). (told : List Result) × (length told ≡ c.args.row.sync + 1) × (c.take_row.new.seat.me.0.results ≡ (c.args.row.thread, told) ∷ rs)) before c.in_ok-joined.ensures.results
