use Rattle.std.proofs.Common.{rules, ◌≡◌}
use Rattle.std.specs.Prelude.{None}
use Rattle.meet_scan.proofs.Growing.{grows_nothing}
use Rattle.meet_scan.proofs.Making.{made_then, none_made}
use Rattle.meet_scan.proofs.Reading.{stands_by_none_sooner}
use Rattle.meet_scan.proofs.Scanning.{all_more, all_try, comes_wider, from_again, held_more, more_nothing, none_holds, read_more, tried_more}
use Rattle.meet_scan.specs.Steps.{found_or_left}
use Rattle.meet_scan.proofs.scan.scan_from.Goals as goal

pub scan_offers-requires-clause-read : goal.scan_offers-requires-clause-read
scan_offers-requires-clause-read g c = read_more c.args.pass.now.seen c.scan_first.new.pass.seen c.args.row c.args.directions.now c.scan_first.ensures.grows c.requires.read

pub scan_offers-requires-clause-out : goal.scan_offers-requires-clause-out
scan_offers-requires-clause-out g c = all_more c.args.scan.now.me.0 c.scan_first.new.scan.me.0 c.args.row c.args.directions.now c.scan_first.ensures.more c.requires.out

pub returns-in-None-clause-made : goal.returns-in-None-clause-made
returns-in-None-clause-made g c =
    let none : c.scan_first.result ≡ None = (search rules) in
    made_then c.args.row (found_or_left c.scan_offers.result) c.args.pass.now.made c.scan_first.new.pass.made c.scan_offers.new.pass.made
    (none_made c.args.row c.args.pass.now.made c.scan_first.new.pass.made c.scan_first.result none c.scan_first.ensures.made) c.scan_offers.ensures.made

pub returns-in-None-clause-found : goal.returns-in-None-clause-found
returns-in-None-clause-found g c =
    comes_wider c.scan_offers.new.pass.seen c.args.row _ _ c.scan_offers.result
    (λ left. (left.0, λ asked. stands_by_none_sooner c.args.pass.now.seen c.scan_first.new.pass.seen c.args.row c.args.directions.now c.scan_first.ensures.grows (left.1 asked)))
    c.scan_offers.ensures.found

pub returns-in-None-clause-first : goal.returns-in-None-clause-first
returns-in-None-clause-first g c =
    let s = c.args.pass.now.seen in
    let none : c.scan_first.result ≡ None = (search rules) in
    all_try c.args.cells.now c.scan_offers.new.scan.me.0 s c.scan_offers.new.pass.seen c.args.row c.args.first c.scan_offers.result
    (tried_more c.args.cells.now c.scan_first.new.scan.me.0 c.scan_offers.new.scan.me.0 s s c.scan_first.new.pass.seen c.scan_offers.new.pass.seen c.args.row c.args.first
    c.scan_offers.ensures.more (grows_nothing s) c.scan_offers.ensures.grows (from_again c.scan_first.result none c.scan_first.ensures.tried))

pub returns-in-None-clause-again : goal.returns-in-None-clause-again
returns-in-None-clause-again g c =
    let v = c.scan_offers.new.scan.me.0 in
    let t = c.scan_offers.new.pass.seen in
    none_holds c.scan_offers.result
    (λ held. held_more c.args.cells.now v v c.args.pass.now.seen c.scan_first.new.pass.seen t t c.args.row (more_nothing v) c.scan_first.ensures.grows (grows_nothing t) held)
    c.scan_offers.ensures.again
