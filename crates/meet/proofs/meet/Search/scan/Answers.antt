use Rattle.std.proofs.Common.{rules, ◌≡◌}
use Rattle.std.specs.Prelude.{None, Some}
use Rattle.meet_scan.specs.declared.found.Found.TheVariants.{Alone, Already, Met, Waits}
use Rattle.meet_scan.proofs.Growing.{grows_then}
use Rattle.meet_scan.proofs.Making.{found_made, left_by, made_then, none_made}
use Rattle.meet_scan.proofs.Scanning.{all_more, comes_left, goes_nothing, goes_then, left_made, left_scans, read_more}
use Rattle.meet.proofs.meet.Search.scan.Goals as goal

pub loop-init : goal.loop-init
loop-init g c = (tt, tt, goes_nothing c.args.self.now.cells.now c.args.self.now.meet.now.directory c.args.row c.args.pass.now c.args.scan.now c.requires.here.0 c.requires.sits.0)

pub scan_offers-requires-clause-read : goal.scan_offers-requires-clause-read
scan_offers-requires-clause-read g c = read_more c.args.pass.now.seen c.loop.pass.seen c.args.row c.args.directions.now c.loop.invariant.2.grows c.requires.read

pub scan_offers-requires-clause-out : goal.scan_offers-requires-clause-out
scan_offers-requires-clause-out g c = all_more c.args.scan.now.me.0 c.loop.scan.me.0 c.args.row c.args.directions.now c.loop.invariant.2.more c.requires.out

-- a row was claimed
pub loop-preserved : goal.loop-preserved
loop-preserved g c =
    let call = c.scan_offers.ensures in
    let r = c.args.row in
    let none : c.scan_offers.result ≡ None = (search rules) in (
      tt,
      tt,
      goes_then c.args.self.now.cells.now c.args.self.now.meet.now.directory r c.args.pass.now c.loop.pass c.scan_offers.new.pass c.args.scan.now c.loop.scan c.scan_offers.new.scan c.loop.invariant.2
          (record { here = call.here; grows = call.grows; results = call.results; sits = call.sits; more = call.more; made = none_made r c.loop.pass.made c.scan_offers.new.pass.made c.scan_offers.result none call.made }),
    )

pub returns-in-Some-Waits-clause-found : goal.returns-in-Some-Waits-clause-found
returns-in-Some-Waits-clause-found g c =
    let s = c.args.pass.now.seen in
    let t = c.loop.pass.seen in
    let u = c.scan_offers.new.pass.seen in
    let left : c.scan_offers.result ≡ Some Waits = (search rules) in
    left_scans c.scan_offers.new.scan.me.0 s u c.leave.new.pass.seen c.args.row c.leave.result (grows_then s t u c.loop.invariant.2.grows c.scan_offers.ensures.grows) c.leave.ensures.grows
    (comes_left u c.args.row _ c.scan_offers.result left c.scan_offers.ensures.found).0 c.leave.ensures.left

pub returns-in-Some-Waits-clause-made : goal.returns-in-Some-Waits-clause-made
returns-in-Some-Waits-clause-made g c =
    let r = c.args.row in
    let a = c.args.pass.now.made in
    let b = c.loop.pass.made in
    let d = c.scan_offers.new.pass.made in
    let left : c.scan_offers.result ≡ Some Waits = (search rules) in
    left_by r c.leave.result c.scan_offers.new.pass.seen c.leave.new.pass.seen a d c.leave.new.pass.made
    (made_then r Waits a b d c.loop.invariant.2.made (left_made r b d c.scan_offers.result left c.scan_offers.ensures.made)) c.leave.ensures.left c.leave.ensures.looks.0

pub returns-in-Some-Met-clause-made : goal.returns-in-Some-Met-clause-made
returns-in-Some-Met-clause-made g c = found_made c.args.row c.in-Some-Met.field-0 (Met c.in-Some-Met.other) c.args.pass.now.made c.loop.pass.made c.scan_offers.new.pass.made c.in-Some-Met.field-0-is c.loop.invariant.2.made c.in-Some-Met.ensures.made

pub returns-in-Some-Alone-clause-made : goal.returns-in-Some-Alone-clause-made
returns-in-Some-Alone-clause-made g c = found_made c.args.row c.in-Some-Alone.field-0 Alone c.args.pass.now.made c.loop.pass.made c.scan_offers.new.pass.made c.in-Some-Alone.field-0-is c.loop.invariant.2.made c.in-Some-Alone.ensures.made

pub returns-in-Some-Already-clause-made : goal.returns-in-Some-Already-clause-made
returns-in-Some-Already-clause-made g c = found_made c.args.row c.in-Some-Already.field-0 Already c.args.pass.now.made c.loop.pass.made c.scan_offers.new.pass.made c.in-Some-Already.field-0-is c.loop.invariant.2.made c.in-Some-Already.ensures.made
