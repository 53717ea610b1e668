use Rattle.std.proofs.Common.{rules, ◌≡◌, ◌⊎◌, true, inl, inr, ⊎_elim, Some, sym, ap, ◌∙◌, subst}
use Rattle.cell_table.specs.declared.view.View.{View}
use Rattle.protocol_ledger.specs.Tables.{names}
use Rattle.cell_table.specs.Sight.{Has, IsPartnerOf, Learns}
use Rattle.cell.proofs.Learning.{learns_look, learns_then, learns_wider}
use Rattle.cell_table.proofs.Results.{one_result, result_more}
use Rattle.cell.proofs.reading.result_of.Goals as goal

-- src/reading.rt:71:5
pub returns-in-Synched-clause-same : goal.returns-in-Synched-clause-same
returns-in-Synched-clause-same g c got is =
    let looked = subst (λ (v : View _). Learns (λ q. q ≡ c.args.row) c.args.seat.now.me.0.seen v.seen) (sym c.look.ensures.saw) (learns_look c.args.row c.look.result c.args.seat.now.me.0.seen) in
    let found = c.gained.ensures.got in
    found.1 ∙ ap Some (one_result _ _ c.gained.new.seat.me.0.seen c.args.row found.0 got c.gained.ensures.sits.1.3 found.2
    (result_more _ _ _ c.args.row got c.gained.ensures.learns (result_more _ _ _ c.args.row got looked is)))

pub returns-in-Synched-clause-learns : goal.returns-in-Synched-clause-learns
returns-in-Synched-clause-learns g c =
    let s = c.args.seat.now.me.0.seen in
    let t = c.look.new.seat.me.0.seen in
    let u = c.gained.new.seat.me.0.seen in
    let looked : Learns (λ q. q ≡ c.args.row) s t = subst (λ (v : View _). Learns (λ q. q ≡ c.args.row) s v.seen) (sym c.look.ensures.saw) (learns_look c.args.row c.look.result s) in
    let has : Has t.joined (c.args.row, c.in-Synched.joined) = (search rules) in
    let more : Has u.joined (c.args.row, c.in-Synched.joined) = c.gained.ensures.learns.joined.0 (c.args.row, c.in-Synched.joined) has in
    learns_then (IsPartnerOf u c.args.row) s t u
    (learns_wider (λ q. q ≡ c.args.row) (IsPartnerOf u c.args.row) s t (λ q e. inl e) looked)
    (learns_wider (λ q. (q ≡ c.args.row) ⊎ (names (Some c.in-Synched.joined) q ≡ true)) (IsPartnerOf u c.args.row) t u
    (λ q h. ⊎_elim (λ (e : q ≡ c.args.row). inl e) (λ (e : names (Some c.in-Synched.joined) q ≡ true). inr (c.in-Synched.joined, more, e)) h) c.gained.ensures.learns)
