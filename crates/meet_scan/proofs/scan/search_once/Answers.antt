use Rattle.std.proofs.Common.{rules, ◌≡◌, ◌∙◌, ap}
use Rattle.std.specs.Prelude.{None, Some}
use Rattle.meet_scan.specs.declared.found.Found.TheVariants.{Waits}
use Rattle.meet_scan.proofs.Growing.{grows_nothing, grows_then}
use Rattle.meet_scan.proofs.Reading.{found_left, if_none, stands_nowhere}
use Rattle.meet_scan.proofs.Scanning.{comes_left, from_again, held_more, left_scans, more_nothing, tries_sooner}
use Rattle.meet_scan.proofs.scan.search_once.Goals as goal

pub returns-in-Waits-clause-found : goal.returns-in-Waits-clause-found
returns-in-Waits-clause-found g c =
    let s = c.args.pass.now.seen in
    let read = c.own_directions-directions.new.pass.seen in
    let t = c.scan_from.new.pass.seen in
    let left : c.scan_from.result ≡ Some Waits = c.in_ok-found.was ∙ ap Some c.in-Waits.is in
    let came = comes_left t c.args.row _ c.scan_from.result left c.scan_from.ensures.found in
    left_scans c.scan_from.new.scan.me.0 s t c.leave.new.pass.seen c.args.row c.leave.result (grows_then s read t c.own_directions-directions.ensures.grows c.scan_from.ensures.grows) c.leave.ensures.grows came.0 c.leave.ensures.left

pub returns-in-Waits-clause-alone : goal.returns-in-Waits-clause-alone
returns-in-Waits-clause-alone g c asked =
    let s = c.args.pass.now.seen in
    let read = c.own_directions-directions.new.pass.seen in
    let t = c.scan_from.new.pass.seen in
    let left : c.scan_from.result ≡ Some Waits = c.in_ok-found.was ∙ ap Some c.in-Waits.is in
    let came = comes_left t c.args.row _ c.scan_from.result left c.scan_from.ensures.found in
    found_left s t c.leave.new.pass.seen c.args.row c.leave.result (grows_then s read t c.own_directions-directions.ensures.grows c.scan_from.ensures.grows) c.leave.ensures.left
    (stands_nowhere s read c.args.row c.own_directions-directions.result c.own_directions-directions.ensures.grows c.own_directions-directions.ensures.short (came.1 asked))

pub returns-in_err-found-clause-again : goal.returns-in_err-found-clause-again
returns-in_err-found-clause-again g c =
    let v = c.scan_from.new.scan.me.0 in
    let read = c.own_directions-directions.new.pass.seen in
    let t = c.scan_from.new.pass.seen in
    let none : c.scan_from.result ≡ None = (search rules) in
    if_none c.from_residual.result
    (held_more c.args.cells.now v v c.args.pass.now.seen read t t c.args.row (more_nothing v) c.own_directions-directions.ensures.grows (grows_nothing t) (from_again c.scan_from.result none c.scan_from.ensures.again))

pub returns-in_default-clause-first : goal.returns-in_default-clause-first
returns-in_default-clause-first g c =
    tries_sooner c.args.cells.now c.scan_from.new.scan.me.0 c.args.pass.now.seen c.own_directions-directions.new.pass.seen c.scan_from.new.pass.seen c.args.row c.args.first c.in_ok-found.found
    c.own_directions-directions.ensures.grows c.in_ok-found.ensures.first
