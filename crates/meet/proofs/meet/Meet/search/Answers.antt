use Rattle.std.proofs.Common.{◌≡◌}
use Rattle.std.specs.Prelude.{None}
use Rattle.cell.proofs.Meeting.{from_none}
use Rattle.meet_scan.specs.Searches.{StandsByNone}
use Rattle.meet_scan.specs.Steps.{SomeSearchMade}
use Rattle.meet_scan.specs.declared.found.Found.TheVariants.{Waits}
use Rattle.meet_scan.proofs.Growing.{grows_then}
use Rattle.meet_scan.proofs.Making.{any_error, looked_first, made_looks, made_then, none_made}
use Rattle.meet_scan.proofs.Reading.{none_found, stands_nowhere}
use Rattle.meet_scan.proofs.Scanning.{read_more}
use Rattle.meet.proofs.Choosing.{put_offers}
use Rattle.meet.proofs.Leaving.{scans_find}
use Rattle.meet.proofs.Putting.{each_on_nothing}
use Rattle.meet.proofs.meet.Meet.search.Goals as goal

pub scan-found-requires-clause-read : goal.scan-found-requires-clause-read
scan-found-requires-clause-read g c =
    let read = c.own_directions-directions.new.pass.seen in
    let looked = c.look_each-first.new.pass.seen in
    let t = c.put_in-put.new.pass.seen in
    read_more read t c.args.row c.own_directions-directions.result (grows_then read looked t c.look_each-first.ensures.grows c.put_in-put.ensures.grows) c.own_directions-directions.ensures.read

-- nothing came of the first look
pub returns-clause-found : goal.returns-clause-found
returns-clause-found g c =
    let s = c.args.pass.now.seen in
    let read = c.own_directions-directions.new.pass.seen in
    let looked = c.look_each-first.new.pass.seen in
    let t = c.put_in-put.new.pass.seen in
    let none : c.look_each-first.result ≡ None = none_found c.look_each-first.result c.in_default.not-Some in
    scans_find c.scan-found.new.scan.me.0 s t c.scan-found.new.pass.seen c.args.row c.scan-found.result
    (grows_then s read t c.own_directions-directions.ensures.grows (grows_then read looked t c.look_each-first.ensures.grows c.put_in-put.ensures.grows))
    (stands_nowhere s read c.args.row c.own_directions-directions.result c.own_directions-directions.ensures.grows c.own_directions-directions.ensures.short
    (from_none c.look_each-first.result (StandsByNone read c.args.row c.own_directions-directions.result) c.look_each-first.ensures.none none))
    c.scan-found.ensures.found

pub returns-clause-made : goal.returns-clause-made
returns-clause-made g c =
    let r = c.args.row in
    let a = c.args.pass.now.made in
    let read = c.own_directions-directions.new.pass.made in
    let looked = c.look_each-first.new.pass.made in
    let put = c.put_in-put.new.pass.made in
    let none : c.look_each-first.result ≡ None = none_found c.look_each-first.result c.in_default.not-Some in
    made_then r c.scan-found.result a put c.scan-found.new.pass.made
    (made_looks r Waits a looked put
    (made_then r Waits a read looked (looked_first r a read c.own_directions-directions.ensures.looks.0) (none_made r read looked c.look_each-first.result none c.look_each-first.ensures.made))
    c.put_in-put.ensures.looks.0)
    c.scan-found.ensures.made

pub returns-in_err-put-clause-failed : goal.returns-in_err-put-clause-failed
returns-in_err-put-clause-failed g c =
    let r = c.args.row in
    let a = c.args.pass.now.made in
    let read = c.own_directions-directions.new.pass.made in
    let looked = c.look_each-first.new.pass.made in
    let put = c.put_in-put.new.pass.made in
    let none : c.look_each-first.result ≡ None = none_found c.look_each-first.result c.in_default.not-Some in
    let some : SomeSearchMade r a c.scan-found.new.pass.made = (
      c.scan-found.result,
      made_then r c.scan-found.result a put c.scan-found.new.pass.made
          (made_looks r Waits a looked put
          (made_then r Waits a read looked (looked_first r a read c.own_directions-directions.ensures.looks.0) (none_made r read looked c.look_each-first.result none c.look_each-first.ensures.made))
          c.put_in-put.ensures.looks.0)
          c.scan-found.ensures.made,
    ) in
    any_error _ some

pub returns-clause-put : goal.returns-clause-put
returns-clause-put g c is =
    let put = c.put_in-put.new.lanes.passes.items in
    put_offers c.args.self.now c.args.pass.now.seen c.args.row c.own_directions-directions.result c.args.lanes.now.rooms.passes.items c.look_each-first.new.lanes.passes.items put put
    c.own_directions-directions.ensures.whole c.own_directions-directions.ensures.short c.in_ok-put.ensures.put c.look_each-first.ensures.more (each_on_nothing put)
