use Rattle.std.proofs.Common.{◌≡◌, ℕ, arith, rules, subst}
use Rattle.std.specs.Prelude.{None, get_or}
use Rattle.cell_table.specs.Nacks.{CanStandAlone}
use Rattle.cell.proofs.Meeting.{from_none}
use Rattle.meet_scan.specs.Searches.{LacksAt, Lists}
use Rattle.meet_scan.specs.Steps.{found_or_left}
use Rattle.meet_scan.specs.declared.found.Found.TheVariants.{Waits}
use Rattle.meet_scan.proofs.Growing.{grows_nothing, grows_then, seen_more, stands_more}
use Rattle.meet_scan.proofs.Making.{keeps_nothing, keeps_then, made_then, none_made, tries_nothing}
use Rattle.meet.proofs.Putting.{each_on_nothing, each_on_then}
use Rattle.meet_scan.proofs.Reading.{none_listed, stands_by_none, stands_by_no_other, stands_to}
use Rattle.meet.proofs.meet.Search.look_each.Goals as goal

pub look-found-requires-clause-read : goal.look-found-requires-clause-read
look-found-requires-clause-read g c =
    seen_more c.args.pass.now.seen c.loop-n.pass.seen c.args.row c.loop-n.n c.in-Some.direction c.loop-n.invariant.1
    (c.requires.read c.loop-n.n c.in-Some.direction (subst (λ (n : ℕ). Lists c.args.directions.now n c.in-Some.direction) c.from.ensures c.in-Some.is))

pub loop-n-preserved : goal.loop-n-preserved
loop-n-preserved g c =
    let s = c.args.pass.now.seen in
    let u = c.loop-n.pass.seen in
    let none : c.look-found.result ≡ None = (search rules) in (
      c.look-found.ensures.here,
      grows_then s u c.look-found.new.pass.seen c.loop-n.invariant.1 c.look-found.ensures.grows,
      stands_to s c.args.row c.loop-n.n c.loop-n.invariant.2 (λ can. from_none c.look-found.result (¬ CanStandAlone u c.args.row c.loop-n.n) c.look-found.ensures.none none (stands_more s u c.args.row c.loop-n.n c.loop-n.invariant.1 can)),
      c.look-found.ensures.lanes,
      made_then c.args.row Waits c.args.pass.now.made c.loop-n.pass.made c.look-found.new.pass.made c.loop-n.invariant.4
          (none_made c.args.row c.loop-n.pass.made c.look-found.new.pass.made c.look-found.result none c.look-found.ensures.made),
      keeps_then c.args.pass.now c.loop-n.pass c.look-found.new.pass c.loop-n.invariant.5 c.look-found.ensures.results,
      each_on_then c.args.lanes.now.passes.items c.loop-n.lanes.passes.items c.look-found.new.lanes.passes.items c.loop-n.invariant.6 c.look-found.ensures.more,
    )

pub loop-n-init : goal.loop-n-init
loop-n-init g c = (
  c.requires.here.0,
  grows_nothing c.args.pass.now.seen,
  (λ k low. absurd (omega arith)),
  c.requires.lanes,
  tries_nothing c.args.row c.args.pass.now.made,
  keeps_nothing c.args.pass.now,
  each_on_nothing c.args.lanes.now.passes.items,
)

pub returns-then-is_some-clause-made : goal.returns-then-is_some-clause-made
returns-then-is_some-clause-made g c =
    made_then c.args.row (found_or_left c.look-found.result) c.args.pass.now.made c.loop-n.pass.made c.look-found.new.pass.made c.loop-n.invariant.4 c.look-found.ensures.made

pub returns-then-is_some-clause-more : goal.returns-then-is_some-clause-more
returns-then-is_some-clause-more g c =
    each_on_then c.args.lanes.now.passes.items c.loop-n.lanes.passes.items c.look-found.new.lanes.passes.items c.loop-n.invariant.6 c.look-found.ensures.more

-- the list ends here
pub returns-in_default-clause-none : goal.returns-in_default-clause-none
returns-in_default-clause-none g c =
    let lacks : LacksAt c.args.directions.now c.loop-n.n =
    subst (LacksAt c.args.directions.now) c.from.ensures (none_listed (get_or c.args.directions.now c.from.result None) c.in_default.not-Some) in
    stands_by_none c.args.pass.now.seen c.args.row c.args.directions.now c.loop-n.n lacks c.loop-n.invariant.2

pub returns-clause-none : goal.returns-clause-none
returns-clause-none g c = stands_by_no_other c.args.pass.now.seen c.args.row c.args.directions.now c.loop-n.n c.loop-n-test.false c.loop-n.invariant.2
