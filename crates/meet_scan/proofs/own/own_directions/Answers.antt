use Rattle.std.proofs.Common.{rules, ◌≡◌, None, sym, ◌∙◌}
use Rattle.cell_table.specs.Sight.{LackOffer}
use Rattle.cell.proofs.Meeting.{from_none}
use Rattle.meet_scan.proofs.Growing.{grows_by, grows_then, seen_more}
use Rattle.meet_scan.proofs.Making.{looks_then}
use Rattle.meet_scan.proofs.Reading.{few_directions, none_behind, reads_ended, reads_more, reads_short}
use Rattle.meet_scan.proofs.Scanning.{read_ended, read_next, read_whole}
use Rattle.meet_scan.proofs.own.own_directions.Goals as goal

-- the row has no further offer
pub returns-in_default-clause-seen : goal.returns-in_default-clause-seen
returns-in_default-clause-seen g c n d e =
    seen_more c.loop-n.pass.seen c.direction.new.pass.seen c.args.row n d (grows_by _ _ c.loop-n.pass.seen c.direction.new.pass.seen c.direction.ensures.learns) (c.loop-n.invariant.2.seen n d e)

pub returns-in_default-clause-whole : goal.returns-in_default-clause-whole
returns-in_default-clause-whole g c n d sees =
    let s = c.args.pass.now.seen in
    let t = c.loop-n.pass.seen in
    let u = c.direction.new.pass.seen in
    let grows = grows_then s t u c.loop-n.invariant.1 (grows_by _ _ t u c.direction.ensures.learns) in
    let none : c.direction.result ≡ None = (search rules) in
    let lacks = from_none c.direction.result (LackOffer u.words c.args.row c.loop-n.n) c.direction.ensures.none none in
    c.loop-n.invariant.2.whole n d (none_behind _ _ u c.args.row c.loop-n.n n d c.direction.ensures.here.4 lacks (seen_more s u c.args.row n d grows sees)) sees

pub loop-n-preserved : goal.loop-n-preserved
loop-n-preserved g c =
    let s = c.args.pass.now.seen in
    let t = c.loop-n.pass.seen in
    let u = c.direction.new.pass.seen in
    let grows = grows_by _ _ t u c.direction.ensures.learns in (
      c.direction.ensures.here,
      grows_then s t u c.loop-n.invariant.1 grows,
      reads_more s t u c.args.row c.loop-n.directions c.loop-n.n c.from.result c.in-Some.direction c.loop-n.invariant.2 c.from.ensures c.loop-n-test.true c.loop-n.invariant.1 grows
          c.in-Some.ensures.some (λ d sees. sym c.in-Some.is ∙ c.direction.ensures.same d (seen_more t u c.args.row c.loop-n.n d grows sees)),
      looks_then c.args.pass.now c.loop-n.pass c.direction.new.pass c.loop-n.invariant.3 (c.direction.ensures.made, c.direction.ensures.results),
      read_next t u c.args.row c.loop-n.directions c.loop-n.n c.from.result c.in-Some.direction c.loop-n.invariant.2.sized c.from.ensures c.loop-n-test.true grows c.in-Some.ensures.some c.loop-n.invariant.4,
    )

pub returns-clause-whole : goal.returns-clause-whole
returns-clause-whole g c = reads_ended c.args.pass.now.seen c.loop-n.pass.seen c.args.row c.loop-n.directions c.loop-n.n c.loop-n-test.false c.loop-n.invariant.2

pub returns-in_default-clause-short : goal.returns-in_default-clause-short
returns-in_default-clause-short g c =
    let s = c.args.pass.now.seen in
    let t = c.loop-n.pass.seen in
    let u = c.direction.new.pass.seen in
    let grows = grows_then s t u c.loop-n.invariant.1 (grows_by _ _ t u c.direction.ensures.learns) in
    let none : c.direction.result ≡ None = (search rules) in
    let lacks = from_none c.direction.result (LackOffer u.words c.args.row c.loop-n.n) c.direction.ensures.none none in
    reads_short s t c.args.row c.loop-n.directions c.loop-n.n c.loop-n.invariant.2
    (λ k d sees. none_behind _ _ u c.args.row c.loop-n.n k d c.direction.ensures.here.4 lacks (seen_more s u c.args.row k d grows sees))

pub returns-clause-short : goal.returns-clause-short
returns-clause-short g c =
    let s = c.args.pass.now.seen in
    reads_short s c.loop-n.pass.seen c.args.row c.loop-n.directions c.loop-n.n c.loop-n.invariant.2 (few_directions s c.args.row c.loop-n.n c.loop-n-test.false)

pub returns-in_default-clause-read : goal.returns-in_default-clause-read
returns-in_default-clause-read g c =
    let t = c.loop-n.pass.seen in
    let u = c.direction.new.pass.seen in
    let none : c.direction.result ≡ None = (search rules) in
    read_ended t u c.args.row c.loop-n.directions c.loop-n.n (grows_by _ _ t u c.direction.ensures.learns) c.loop-n.invariant.4 c.loop-n.invariant.2.filled
    (from_none c.direction.result (LackOffer u.words c.args.row c.loop-n.n) c.direction.ensures.none none)

pub returns-clause-read : goal.returns-clause-read
returns-clause-read g c = read_whole c.loop-n.pass.seen c.args.row c.loop-n.directions c.loop-n.n c.loop-n-test.false c.loop-n.invariant.4 c.loop-n.invariant.2.filled
