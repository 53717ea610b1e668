use Rattle.std.proofs.Common.{rules, ◌≡◌}
use Rattle.std.specs.Prelude.{None}
use Rattle.meet_scan.specs.Steps.{found_or_left}
use Rattle.meet_scan.specs.declared.found.Found.TheVariants.{Waits}
use Rattle.meet_scan.proofs.Growing.{grows_nothing, grows_then}
use Rattle.meet_scan.proofs.Making.{keeps_nothing, keeps_then, made_then, none_made, tries_nothing}
use Rattle.meet.proofs.Putting.{each_on_nothing, each_on_then}
use Rattle.meet.proofs.meet.Search.attempt_each.Goals as goal

pub loop-init : goal.loop-init
loop-init g c = (
  tt,
  tt,
  c.requires.here.0,
  grows_nothing c.args.pass.now.seen,
  c.requires.lanes.0,
  tries_nothing c.args.mine.0 c.args.pass.now.made,
  keeps_nothing c.args.pass.now,
  each_on_nothing c.args.lanes.now.passes.items,
)

pub returns-in_default-clause-more : goal.returns-in_default-clause-more
returns-in_default-clause-more g c =
    each_on_then c.args.lanes.now.passes.items c.loop.lanes.passes.items c.take_from.new.lanes.passes.items c.loop.invariant.7 c.take_from.ensures.more

pub returns-then-is_some-clause-made : goal.returns-then-is_some-clause-made
returns-then-is_some-clause-made g c =
    made_then c.args.mine.0 (found_or_left c.attempt-found.result) c.args.pass.now.made c.loop.pass.made c.attempt-found.new.pass.made c.loop.invariant.5 c.attempt-found.ensures.made

pub returns-then-is_some-clause-more : goal.returns-then-is_some-clause-more
returns-then-is_some-clause-more g c =
    each_on_then c.args.lanes.now.passes.items c.loop.lanes.passes.items c.take_from.new.lanes.passes.items c.loop.invariant.7 c.take_from.ensures.more

pub loop-preserved : goal.loop-preserved
loop-preserved g c =
    let row = c.args.mine.0 in
    let none : c.attempt-found.result ≡ None = (search rules) in (
      tt,
      tt,
      c.attempt-found.ensures.here,
      grows_then c.args.pass.now.seen c.loop.pass.seen c.attempt-found.new.pass.seen c.loop.invariant.3 c.attempt-found.ensures.grows,
      (search rules),
      made_then row Waits c.args.pass.now.made c.loop.pass.made c.attempt-found.new.pass.made c.loop.invariant.5
          (none_made row c.loop.pass.made c.attempt-found.new.pass.made c.attempt-found.result none c.attempt-found.ensures.made),
      keeps_then c.args.pass.now c.loop.pass c.attempt-found.new.pass c.loop.invariant.6 c.attempt-found.ensures.results,
      each_on_then c.args.lanes.now.passes.items c.loop.lanes.passes.items c.take_from.new.lanes.passes.items c.loop.invariant.7 c.take_from.ensures.more,
    )
