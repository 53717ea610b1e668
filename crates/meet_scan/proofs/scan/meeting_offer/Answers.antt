use Rattle.std.proofs.Common.{arith, rules, sym, ◌≡◌, ◌∙◌, inr}
use Rattle.std.specs.Prelude.{None}
use Rattle.cell_table.specs.Sight.{LackOffer}
use Rattle.cell.proofs.Meeting.{from_none}
use Rattle.meet_scan.proofs.Growing.{grows_by, grows_then}
use Rattle.meet_scan.proofs.Making.{looks_then}
use Rattle.meet_scan.proofs.Reading.{if_none}
use Rattle.meet_scan.proofs.Scanning.{all_next, lacks_all}
use Rattle.meet_scan.proofs.scan.meeting_offer.Goals as goal

pub returns-in_err-direction-clause-none : goal.returns-in_err-direction-clause-none
returns-in_err-direction-clause-none g c =
    let t = c.loop-n.pass.seen in
    let u = c.direction.new.pass.seen in
    let none : c.direction.result ≡ None = (search rules) in
    if_none c.from_residual.result (λ k low. lacks_all t u c.args.row c.args.direction c.loop-n.n (grows_by _ _ t u c.direction.ensures.learns) c.loop-n.invariant.3
    (from_none c.direction.result (LackOffer u.words c.args.row c.loop-n.n) c.direction.ensures.none none) k)

pub loop-n-preserved : goal.loop-n-preserved
loop-n-preserved g c =
    let t = c.loop-n.pass.seen in
    let u = c.direction.new.pass.seen in
    let more = grows_by _ _ t u c.direction.ensures.learns in (
      c.direction.ensures.here,
      grows_then c.args.pass.now.seen t u c.loop-n.invariant.1 more,
      looks_then c.args.pass.now c.loop-n.pass c.direction.new.pass c.loop-n.invariant.2 (c.direction.ensures.made, c.direction.ensures.results),
      all_next t u c.args.row c.args.direction c.loop-n.n more c.loop-n.invariant.3 (inr (c.in_ok-direction.field-0, c.in_ok-direction.ensures.some, sym c.meets.ensures ∙ c.if-meets.false)),
    )

pub returns-clause-none : goal.returns-clause-none
returns-clause-none g c k low = c.loop-n.invariant.3 k (omega (arith, c.loop-n-test.false))
