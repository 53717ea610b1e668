use Rattle.std.proofs.Common.{arith, inl, inr, rules, subst, sym, ◌≡◌, ◌∙◌, ℕ}
use Rattle.std.specs.Prelude.{Some, None, get_or}
use Rattle.meet_scan.specs.Searches.{LacksAt, Lists}
use Rattle.meet_scan.specs.declared.found.Found.TheVariants.{Already, Met, Waits}
use Rattle.meet_scan.proofs.Growing.{grows_nothing}
use Rattle.meet_scan.proofs.Making.{found_made, none_made}
use Rattle.meet_scan.proofs.Reading.{none_listed}
use Rattle.meet_scan.proofs.Scanning.{comes_left, from_again, goes_then, have_more, held_by_more, lack_more, left_made, more_nothing, published_more, read_lacks, read_listed, tried_behind, tried_in_side, tried_next, tried_nowhere}
use Rattle.meet_scan.proofs.scan.scan_wished.Goals as goal

-- the row has no such offer, and none behind it
pub returns-in_default-clause-tried : goal.returns-in_default-clause-tried
returns-in_default-clause-tried g c low apart n few =
    let i = c.loop-n.invariant in
    let s = c.args.pass.now.seen in
    let t = c.loop-n.pass.seen in
    let r = c.args.row in
    let none : LacksAt c.args.directions.now c.loop-n.n =
    subst (LacksAt c.args.directions.now) c.from.ensures (none_listed (get_or c.args.directions.now c.from.result None) c.in_default.not-Some) in
    let lacks = lack_more s t r c.loop-n.n i.0.grows (read_lacks s r c.args.directions.now c.loop-n.n c.loop-n-test.true c.requires.read none) in
    tried_behind c.args.cells.now c.loop-n.scan.me.0 s t r c.args.first c.loop-n.n lacks i.1 n

-- the offer has no side
pub loop-n-preserved-in_default-sides : goal.loop-n-preserved-in_default-sides
loop-n-preserved-in_default-sides g c =
    let i = c.loop-n.invariant in
    let s = c.args.pass.now.seen in
    let t = c.loop-n.pass.seen in
    let v = c.loop-n.scan.me.0 in
    let r = c.args.row in
    let d = c.in-Some.direction in
    let listed : Lists c.args.directions.now c.loop-n.n d = subst (λ (n : ℕ). Lists c.args.directions.now n d) c.from.ensures c.in-Some.is in
    let have = have_more s t r c.loop-n.n d i.0.grows (read_listed s r c.args.directions.now c.loop-n.n d c.loop-n-test.true c.requires.read listed) in (
      i.0,
      tried_next c.args.cells.now v v s t t r c.args.first c.loop-n.n (more_nothing v) (grows_nothing t) i.1
          (inr (d, have, tried_nowhere c.args.cells.now v s t r d c.args.first (sym c.sides.ensures ∙ none_listed c.sides.result c.in_default-sides.not-Some))),
    )

pub scan_thread-requires-clause-read : goal.scan_thread-requires-clause-read
scan_thread-requires-clause-read g c =
    let listed : Lists c.args.directions.now c.loop-n.n c.in-Some.direction = subst (λ (n : ℕ). Lists c.args.directions.now n c.in-Some.direction) c.from.ensures c.in-Some.is in
    have_more c.args.pass.now.seen c.loop-n.pass.seen c.args.row c.loop-n.n c.in-Some.direction c.loop-n.invariant.0.grows
    (read_listed c.args.pass.now.seen c.args.row c.args.directions.now c.loop-n.n c.in-Some.direction c.loop-n-test.true c.requires.read listed)

pub scan_thread-requires-clause-published : goal.scan_thread-requires-clause-published
scan_thread-requires-clause-published g c =
    let both = c.in-Some-sides.both in
    let listed : Lists c.args.directions.now c.loop-n.n c.in-Some.direction = subst (λ (n : ℕ). Lists c.args.directions.now n c.in-Some.direction) c.from.ensures c.in-Some.is in
    published_more c.args.scan.now.me.0 c.loop-n.scan.me.0 c.args.row.thread c.args.row.sync both.0 c.loop-n.invariant.0.more
    (c.requires.out c.loop-n.n c.in-Some.direction both.0 both.1 listed (sym c.sides.ensures ∙ c.in-Some-sides.is))

-- each row of the thread was missed or passed by
pub loop-n-preserved-in-Some-Waits : goal.loop-n-preserved-in-Some-Waits
loop-n-preserved-in-Some-Waits g c =
    let i = c.loop-n.invariant in
    let call = c.scan_thread.ensures in
    let s = c.args.pass.now.seen in
    let t = c.loop-n.pass.seen in
    let u = c.scan_thread.new.pass.seen in
    let v = c.loop-n.scan.me.0 in
    let w = c.scan_thread.new.scan.me.0 in
    let r = c.args.row in
    let d = c.in-Some.direction in
    let both = c.in-Some-sides.both in
    let listed : Lists c.args.directions.now c.loop-n.n d = subst (λ (n : ℕ). Lists c.args.directions.now n d) c.from.ensures c.in-Some.is in
    let have = have_more t u r c.loop-n.n d call.grows (have_more s t r c.loop-n.n d i.0.grows (read_listed s r c.args.directions.now c.loop-n.n d c.loop-n-test.true c.requires.read listed)) in
    let left : c.scan_thread.result ≡ Some Waits = (search rules) in
    let done = comes_left u r _ c.scan_thread.result left call.found in (
      goes_then c.args.cells.now c.args.directory.now r c.args.pass.now c.loop-n.pass c.scan_thread.new.pass c.args.scan.now c.loop-n.scan c.scan_thread.new.scan i.0
          (record { here = call.here; grows = call.grows; results = call.results; sits = call.sits; more = call.more; made = left_made r c.loop-n.pass.made c.scan_thread.new.pass.made c.scan_thread.result left call.made }),
      tried_next c.args.cells.now v w s t u r c.args.first c.loop-n.n call.more call.grows i.1
          (inr (d, have, tried_in_side c.args.cells.now w s u r d both c.args.first (sym c.sides.ensures ∙ c.in-Some-sides.is) (inl done))),
    )

-- one was in the way
pub loop-n-preserved : goal.loop-n-preserved
loop-n-preserved g c =
    let i = c.loop-n.invariant in
    let call = c.scan_thread.ensures in
    let s = c.args.pass.now.seen in
    let t = c.loop-n.pass.seen in
    let u = c.scan_thread.new.pass.seen in
    let v = c.loop-n.scan.me.0 in
    let w = c.scan_thread.new.scan.me.0 in
    let r = c.args.row in
    let d = c.in-Some.direction in
    let both = c.in-Some-sides.both in
    let listed : Lists c.args.directions.now c.loop-n.n d = subst (λ (n : ℕ). Lists c.args.directions.now n d) c.from.ensures c.in-Some.is in
    let have = have_more t u r c.loop-n.n d call.grows (have_more s t r c.loop-n.n d i.0.grows (read_listed s r c.args.directions.now c.loop-n.n d c.loop-n-test.true c.requires.read listed)) in
    let none : c.scan_thread.result ≡ None = (search rules) in
    let held = held_by_more c.args.cells.now w w s t u u r c.args.first (more_nothing w) i.0.grows (grows_nothing u) (from_again c.scan_thread.result none call.again) in (
      goes_then c.args.cells.now c.args.directory.now r c.args.pass.now c.loop-n.pass c.scan_thread.new.pass c.args.scan.now c.loop-n.scan c.scan_thread.new.scan i.0
          (record { here = call.here; grows = call.grows; results = call.results; sits = call.sits; more = call.more; made = none_made r c.loop-n.pass.made c.scan_thread.new.pass.made c.scan_thread.result none call.made }),
      tried_next c.args.cells.now v w s t u r c.args.first c.loop-n.n call.more call.grows i.1
          (inr (d, have, tried_in_side c.args.cells.now w s u r d both c.args.first (sym c.sides.ensures ∙ c.in-Some-sides.is) (inr held))),
    )

pub returns-clause-tried : goal.returns-clause-tried
returns-clause-tried g c low apart n few = c.loop-n.invariant.1 n (omega (arith, few, c.loop-n-test.false))

pub returns-in-Some-Met-clause-made : goal.returns-in-Some-Met-clause-made
returns-in-Some-Met-clause-made g c = found_made c.args.row c.in-Some-Met.field-0 (Met c.in-Some-Met.other) c.args.pass.now.made c.loop-n.pass.made c.scan_thread.new.pass.made c.in-Some-Met.field-0-is c.loop-n.invariant.0.made c.in-Some-Met.ensures.made

pub returns-in-Some-Already-clause-made : goal.returns-in-Some-Already-clause-made
returns-in-Some-Already-clause-made g c = found_made c.args.row c.in-Some-Already.field-0 Already c.args.pass.now.made c.loop-n.pass.made c.scan_thread.new.pass.made c.in-Some-Already.field-0-is c.loop-n.invariant.0.made c.in-Some-Already.ensures.made
