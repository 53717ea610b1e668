use Rattle.std.proofs.Common.{◌≡◌, ◌≢◌, ◌-◌, ◌<◌, ℕ, inl, inr, rules, arith, subst}
use Rattle.protocol_values.specs.declared.Row.{Row}
use Rattle.meet_directory.specs.Directory.{Has, glimpse}
use Rattle.meet_scan.proofs.Scanning.{comes_wider, held_by, newest_done, no_row, none_holds, saw_it}
use Rattle.meet_scan.proofs.scan.scan_thread.Goals as goal

pub returns-then-count-eq0-clause-found : goal.returns-then-count-eq0-clause-found
returns-then-count-eq0-clause-found g c q at =
    let v = c.args.scan.now.me.0 in
    let w = c.scan_newest-count.new.pass.me.0 in
    let none : c.scan_newest-count.result ≡ 0 = (search rules) in
    no_row v w c.args.pass.now.seen c.args.mine.0 c.args.direction c.args.sides.0 c.args.sides.1 c.args.other c.requires.published
    (subst (λ (n : ℕ). Has w.looks (glimpse c.args.other n v)) none (saw_it v w c.args.other c.scan_newest-count.result c.scan_newest-count.ensures.saw))
    q at

pub returns-clause-found : goal.returns-clause-found
returns-clause-found g c =
    let v = c.args.scan.now.me.0 in
    let w = c.scan_newest-count.new.pass.me.0 in
    let newest : Row = record { thread = c.args.other; sync = c.scan_newest-count.result - 1 } in
    let some : c.scan_newest-count.result ≢ 0 = (search rules) in
    comes_wider c.scan_row.new.pass.seen c.args.mine.0 _ _ c.scan_row.result
    (λ passed. newest_done v w c.scan_row.new.pass.seen c.args.mine.0 newest c.args.direction c.args.sides.0 c.args.sides.1 c.scan_newest-count.result c.requires.published
    (saw_it v w c.args.other c.scan_newest-count.result c.scan_newest-count.ensures.saw) (omega arith) passed.0 passed.1)
    c.scan_row.ensures.found

-- no row can have so late a number
pub returns-then-count-gt4294967296-clause-again : goal.returns-then-count-gt4294967296-clause-again
returns-then-count-gt4294967296-clause-again g c =
    let far : Row = record { thread = c.args.other; sync = c.scan_newest-count.result - 1 } in
    let late : 4294967296 < c.scan_newest-count.result = (search rules) in
    held_by c.args.cells.now c.args.scan.now.me.0 c.scan_newest-count.new.pass.me.0 c.args.pass.now.seen c.args.pass.now.seen c.args.mine.0 far c.args.sides.0 c.scan_newest-count.result c.requires.published c.scan_newest-count.ensures.saw (omega arith) c.requires.other.1 (inl (omega arith))

pub returns-then-not-has-clause-again : goal.returns-then-not-has-clause-again
returns-then-not-has-clause-again g c =
    let newest : Row = record { thread = c.args.other; sync = c.scan_newest-count.result - 1 } in
    let some : c.scan_newest-count.result ≢ 0 = (search rules) in
    held_by c.args.cells.now c.args.scan.now.me.0 c.scan_newest-count.new.pass.me.0 c.args.pass.now.seen c.args.pass.now.seen c.args.mine.0 newest c.args.sides.0 c.scan_newest-count.result c.requires.published c.scan_newest-count.ensures.saw (omega arith) c.requires.other.1 (inr (inl (search rules)))

pub returns-clause-again : goal.returns-clause-again
returns-clause-again g c =
    let newest : Row = record { thread = c.args.other; sync = c.scan_newest-count.result - 1 } in
    let some : c.scan_newest-count.result ≢ 0 = (search rules) in
    none_holds c.scan_row.result
    (λ stops. held_by c.args.cells.now c.args.scan.now.me.0 c.scan_newest-count.new.pass.me.0 c.args.pass.now.seen c.scan_row.new.pass.seen c.args.mine.0 newest c.args.sides.0 c.scan_newest-count.result c.requires.published c.scan_newest-count.ensures.saw (omega arith) c.requires.other.1 stops)
    c.scan_row.ensures.again
