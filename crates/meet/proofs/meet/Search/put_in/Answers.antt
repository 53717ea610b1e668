use Rattle.std.proofs.Common.{◌≡◌, rules, arith, subst}
use Rattle.std.specs.Prelude.{None, get_or}
use Rattle.meet_scan.specs.Searches.{LacksAt}
use Rattle.meet.proofs.Choosing.{all_put, ended_put, next_put}
use Rattle.meet_scan.proofs.Growing.{grows_nothing, grows_then}
use Rattle.meet_scan.proofs.Making.{looks_nothing, looks_then}
use Rattle.meet.proofs.Putting.{each_on_nothing, each_on_then}
use Rattle.meet_scan.proofs.Reading.{none_listed}
use Rattle.meet.proofs.meet.Search.put_in.Goals as goal

pub loop-n-init : goal.loop-n-init
loop-n-init g c = (
  c.requires.here,
  grows_nothing c.args.pass.now.seen,
  c.requires.lanes,
  looks_nothing c.args.pass.now,
  each_on_nothing c.args.lanes.now.passes.items,
  (λ k d at low. absurd (omega arith)),
)

pub returns-in_err-put_offer-clause-more : goal.returns-in_err-put_offer-clause-more
returns-in_err-put_offer-clause-more g c =
    each_on_then c.args.lanes.now.passes.items c.loop-n.lanes.passes.items c.put_offer.new.lanes.passes.items c.loop-n.invariant.4 c.put_offer.ensures.more

pub loop-n-preserved : goal.loop-n-preserved
loop-n-preserved g c = (
  c.put_offer.ensures.here,
  grows_then c.args.pass.now.seen c.loop-n.pass.seen c.put_offer.new.pass.seen c.loop-n.invariant.1 c.put_offer.ensures.grows,
  c.put_offer.ensures.lanes,
  looks_then c.args.pass.now c.loop-n.pass c.put_offer.new.pass c.loop-n.invariant.3 c.put_offer.ensures.looks,
  each_on_then c.args.lanes.now.passes.items c.loop-n.lanes.passes.items c.put_offer.new.lanes.passes.items c.loop-n.invariant.4 c.put_offer.ensures.more,
  next_put c.args.self.now.meet.now c.args.row c.args.directions.now c.args.lanes.now.passes.items c.loop-n.lanes.passes.items c.put_offer.new.lanes.passes.items c.loop-n.n c.in-Some.direction
      (subst (λ (n : Rattle.std.proofs.Common.ℕ). get_or c.args.directions.now n None ≡ Rattle.std.specs.Prelude.Some c.in-Some.direction) c.from.ensures c.in-Some.is)
      c.loop-n.invariant.4 c.put_offer.ensures.more c.loop-n.invariant.5 c.in_ok-put_offer.ensures.put,
)

-- the list ends here
pub returns-in_default-clause-put : goal.returns-in_default-clause-put
returns-in_default-clause-put g c =
    let lacks : LacksAt c.args.directions.now c.loop-n.n =
    subst (LacksAt c.args.directions.now) c.from.ensures (none_listed (get_or c.args.directions.now c.from.result None) c.in_default.not-Some) in
    ended_put c.args.self.now.meet.now c.args.row c.args.directions.now c.args.lanes.now.passes.items c.loop-n.lanes.passes.items c.loop-n.n lacks c.loop-n.invariant.5

pub returns-clause-put : goal.returns-clause-put
returns-clause-put g c = all_put c.args.self.now.meet.now c.args.row c.args.directions.now c.args.lanes.now.passes.items c.loop-n.lanes.passes.items c.loop-n.n c.loop-n-test.false c.loop-n.invariant.5
