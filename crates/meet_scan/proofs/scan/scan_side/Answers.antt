use Rattle.std.proofs.Common.{arith, rules, ◌≡◌}
use Rattle.std.specs.Prelude.{Some, None}
use Rattle.std.proofs.lemmas.Bool.{true≢false}
use Rattle.meet_scan.specs.declared.found.Found.TheVariants.{Alone, Already, Met, Waits}
use Rattle.meet_scan.proofs.Growing.{grows_nothing}
use Rattle.meet_scan.proofs.Making.{found_made, none_made}
use Rattle.meet_scan.proofs.Scanning.{all_done, comes_left, done_next, done_to, from_again, goes_then, held_more, left_made, more_nothing, published_more, then_comes, then_none}
use Rattle.meet_scan.proofs.scan.scan_side.Goals as goal

pub loop-other-preserved-then-other-mine : goal.loop-other-preserved-then-other-mine
loop-other-preserved-then-other-mine g c =
    let i = c.loop-other.invariant in
    let v = c.loop-other.scan.me.0 in
    let s = c.loop-other.pass.seen in
    let r = c.args.mine.0 in
    let next = c.in-Some.ensures in
    let own : c.in-Some.other ≡ r.thread = (search rules) in (
      i.0,
      i.1,
      omega (arith, next.1),
      λ free. done_next v v s s r c.args.direction c.args.sides.0 c.args.sides.1 c.in-Some.other (more_nothing v) (grows_nothing s)
          (done_to c.args.scan.now.me.0 v s r c.args.direction c.args.sides.0 c.args.sides.1 c.loop-other.from c.in-Some.other c.scan_side-word.result c.requires.published i.1 next.3 (i.3 free)) (λ apart. absurd (apart own)),
      i.4,
    )

pub scan_thread-requires-clause-published : goal.scan_thread-requires-clause-published
scan_thread-requires-clause-published g c = published_more c.args.scan.now.me.0 c.loop-other.scan.me.0 c.args.mine.0.thread c.args.mine.0.sync c.args.sides.0 c.loop-other.invariant.0.more c.requires.published

pub loop-other-preserved-in-Some-Waits : goal.loop-other-preserved-in-Some-Waits
loop-other-preserved-in-Some-Waits g c =
    let i = c.loop-other.invariant in
    let call = c.scan_thread.ensures in
    let v = c.loop-other.scan.me.0 in
    let w = c.scan_thread.new.scan.me.0 in
    let s = c.loop-other.pass.seen in
    let t = c.scan_thread.new.pass.seen in
    let r = c.args.mine.0 in
    let next = c.in-Some.ensures in
    let left : c.scan_thread.result ≡ Some Waits = (search rules) in (
      goes_then c.args.cells.now c.args.directory.now r c.args.pass.now c.loop-other.pass c.scan_thread.new.pass c.args.scan.now c.loop-other.scan c.scan_thread.new.scan i.0
          (record { here = call.here; grows = call.grows; results = call.results; sits = call.sits; more = call.more; made = left_made r c.loop-other.pass.made c.scan_thread.new.pass.made c.scan_thread.result left call.made }),
      call.more.1 _ i.1,
      omega (arith, next.1),
      λ free. done_next v w s t r c.args.direction c.args.sides.0 c.args.sides.1 c.in-Some.other call.more call.grows
          (done_to c.args.scan.now.me.0 v s r c.args.direction c.args.sides.0 c.args.sides.1 c.loop-other.from c.in-Some.other c.scan_side-word.result c.requires.published i.1 next.3 (i.3 free))
          (λ apart. comes_left t r _ c.scan_thread.result left call.found),
      λ claimed. held_more c.args.cells.now v w c.args.pass.now.seen c.args.pass.now.seen s t r call.more (grows_nothing c.args.pass.now.seen) call.grows (i.4 claimed),
    )

-- a row was claimed
pub loop-other-preserved : goal.loop-other-preserved
loop-other-preserved g c =
    let i = c.loop-other.invariant in
    let call = c.scan_thread.ensures in
    let r = c.args.mine.0 in
    let next = c.in-Some.ensures in
    let none : c.scan_thread.result ≡ None = (search rules) in (
      goes_then c.args.cells.now c.args.directory.now r c.args.pass.now c.loop-other.pass c.scan_thread.new.pass c.args.scan.now c.loop-other.scan c.scan_thread.new.scan i.0
          (record { here = call.here; grows = call.grows; results = call.results; sits = call.sits; more = call.more; made = none_made r c.loop-other.pass.made c.scan_thread.new.pass.made c.scan_thread.result none call.made }),
      call.more.1 _ i.1,
      omega (arith, next.1),
      (λ free. absurd (true≢false free)),
      (λ claimed. held_more c.args.cells.now c.scan_thread.new.scan.me.0 c.scan_thread.new.scan.me.0 c.args.pass.now.seen c.loop-other.pass.seen c.scan_thread.new.pass.seen c.scan_thread.new.pass.seen r
          (more_nothing c.scan_thread.new.scan.me.0) i.0.grows (grows_nothing c.scan_thread.new.pass.seen) (from_again c.scan_thread.result none call.again).0),
    )

pub returns-clause-found : goal.returns-clause-found
returns-clause-found g c =
    let i = c.loop-other.invariant in
    let w = c.loop-other.scan.me.0 in
    let s = c.loop-other.pass.seen in
    let r = c.args.mine.0 in
    then_comes s r _ c.loop-other.is_claimed c.then_some.result c.then_some.ensures
    (λ free. all_done w s r c.args.direction c.args.sides.0 c.args.sides.1 64 (omega arith)
    (done_to c.args.scan.now.me.0 w s r c.args.direction c.args.sides.0 c.args.sides.1 c.loop-other.from 64 c.scan_side-word.result c.requires.published i.1 c.in_default.ensures (i.3 free)))

pub returns-in-Some-Met-clause-made : goal.returns-in-Some-Met-clause-made
returns-in-Some-Met-clause-made g c = found_made c.args.mine.0 c.in-Some-Met.field-0 (Met c.in-Some-Met.other) c.args.pass.now.made c.loop-other.pass.made c.scan_thread.new.pass.made c.in-Some-Met.field-0-is c.loop-other.invariant.0.made c.in-Some-Met.ensures.made

pub returns-in-Some-Alone-clause-made : goal.returns-in-Some-Alone-clause-made
returns-in-Some-Alone-clause-made g c = found_made c.args.mine.0 c.in-Some-Alone.field-0 Alone c.args.pass.now.made c.loop-other.pass.made c.scan_thread.new.pass.made c.in-Some-Alone.field-0-is c.loop-other.invariant.0.made c.in-Some-Alone.ensures.made

pub returns-in-Some-Already-clause-made : goal.returns-in-Some-Already-clause-made
returns-in-Some-Already-clause-made g c = found_made c.args.mine.0 c.in-Some-Already.field-0 Already c.args.pass.now.made c.loop-other.pass.made c.scan_thread.new.pass.made c.in-Some-Already.field-0-is c.loop-other.invariant.0.made c.in-Some-Already.ensures.made

pub returns-clause-again : goal.returns-clause-again
returns-clause-again g c = then_none c.loop-other.is_claimed c.then_some.result c.then_some.ensures c.loop-other.invariant.4
