use Rattle.std.proofs.Common.{arith, inr, rules, subst, sym, ◌≡◌, ℕ}
use Rattle.std.specs.Prelude.{IsTrue, Some, None, get_or}
use Rattle.std.proofs.lemmas.Bool.{true≢false}
use Rattle.meet_scan.specs.Searches.{LacksAt, Lists}
use Rattle.meet_scan.specs.declared.found.Found.TheVariants.{Alone, Already, Met, Waits}
use Rattle.meet_scan.proofs.Growing.{grows_nothing, stands_more}
use Rattle.meet_scan.proofs.Making.{found_made, none_made}
use Rattle.meet_scan.proofs.Reading.{none_listed, stands_by_no_other, stands_by_none}
use Rattle.meet_scan.proofs.Scanning.{comes_left, from_again, goes_nothing, goes_then, have_more, held_more, lack_more, left_behind, left_made, left_next, more_nothing, published_more, read_lacks, read_listed, then_comes, then_none}
use Rattle.meet_scan.proofs.scan.scan_offers.Goals as goal

pub loop-n-init : goal.loop-n-init
loop-n-init g c = (goes_nothing c.args.cells.now c.args.directory.now c.args.row c.args.pass.now c.args.scan.now c.requires.here.0 c.requires.sits.0, λ free k low. absurd (omega arith), λ claimed. absurd (true≢false (sym claimed)))

-- the row has no such offer, and none behind it
pub returns-in_default-clause-found : goal.returns-in_default-clause-found
returns-in_default-clause-found g c =
    let i = c.loop-n.invariant in
    let s = c.args.pass.now.seen in
    let t = c.loop-n.pass.seen in
    let r = c.args.row in
    let none : LacksAt c.args.directions.now c.loop-n.n =
    subst (LacksAt c.args.directions.now) c.from.ensures (none_listed (get_or c.args.directions.now c.from.result None) c.in_default.not-Some) in
    let lacks = lack_more s t r c.loop-n.n i.0.grows (read_lacks s r c.args.directions.now c.loop-n.n c.loop-n-test.true c.requires.read none) in
    then_comes t r _ c.loop-n.is_claimed c.then_some.result c.then_some.ensures
    (λ free. (
      (λ k low. left_behind c.loop-n.scan.me.0 t r c.loop-n.n lacks (λ k before. (i.1 free k before).0) k),
      (λ asked. stands_by_none s r c.args.directions.now c.loop-n.n none (λ k before. (i.1 free k before).1 asked)),
    ))

pub returns-in_default-clause-again : goal.returns-in_default-clause-again
returns-in_default-clause-again g c = then_none c.loop-n.is_claimed c.then_some.result c.then_some.ensures c.loop-n.invariant.2

pub loop-n-preserved-in-Some-Waits : goal.loop-n-preserved-in-Some-Waits
loop-n-preserved-in-Some-Waits g c =
    let i = c.loop-n.invariant in
    let call = c.scan_offer.ensures in
    let s = c.args.pass.now.seen in
    let t = c.loop-n.pass.seen in
    let u = c.scan_offer.new.pass.seen in
    let v = c.loop-n.scan.me.0 in
    let w = c.scan_offer.new.scan.me.0 in
    let r = c.args.row in
    let d = c.in-Some.direction in
    let listed : Lists c.args.directions.now c.loop-n.n d = subst (λ (n : ℕ). Lists c.args.directions.now n d) c.from.ensures c.in-Some.is in
    let have = read_listed s r c.args.directions.now c.loop-n.n d c.loop-n-test.true c.requires.read listed in
    let left : c.scan_offer.result ≡ Some Waits = (search rules) in (
      goes_then c.args.cells.now c.args.directory.now r c.args.pass.now c.loop-n.pass c.scan_offer.new.pass c.args.scan.now c.loop-n.scan c.scan_offer.new.scan i.0
          (record { here = call.here; grows = call.grows; results = call.results; sits = call.sits; more = call.more; made = left_made r c.loop-n.pass.made c.scan_offer.new.pass.made c.scan_offer.result left call.made }),
      λ free. let came = comes_left u r _ c.scan_offer.result left call.found in
          left_next v w s t u r (IsTrue c.args.alone) c.loop-n.n call.more call.grows (i.1 free) (inr (d, have_more t u r c.loop-n.n d call.grows (have_more s t r c.loop-n.n d i.0.grows have), came.0))
          (λ asked can. came.1 asked (stands_more s t r c.loop-n.n i.0.grows can)),
      λ claimed. held_more c.args.cells.now v w s s t u r call.more (grows_nothing s) call.grows (i.2 claimed),
    )

-- a row was claimed
pub loop-n-preserved : goal.loop-n-preserved
loop-n-preserved g c =
    let i = c.loop-n.invariant in
    let call = c.scan_offer.ensures in
    let r = c.args.row in
    let none : c.scan_offer.result ≡ None = (search rules) in (
      goes_then c.args.cells.now c.args.directory.now r c.args.pass.now c.loop-n.pass c.scan_offer.new.pass c.args.scan.now c.loop-n.scan c.scan_offer.new.scan i.0
          (record { here = call.here; grows = call.grows; results = call.results; sits = call.sits; more = call.more; made = none_made r c.loop-n.pass.made c.scan_offer.new.pass.made c.scan_offer.result none call.made }),
      (λ free. absurd (true≢false free)),
      (λ claimed. held_more c.args.cells.now c.scan_offer.new.scan.me.0 c.scan_offer.new.scan.me.0 c.args.pass.now.seen c.loop-n.pass.seen c.scan_offer.new.pass.seen c.scan_offer.new.pass.seen r
          (more_nothing c.scan_offer.new.scan.me.0) i.0.grows (grows_nothing c.scan_offer.new.pass.seen) (from_again c.scan_offer.result none call.again)),
    )

pub scan_offer-requires-clause-read : goal.scan_offer-requires-clause-read
scan_offer-requires-clause-read g c =
    let listed : Lists c.args.directions.now c.loop-n.n c.in-Some.direction = subst (λ (n : ℕ). Lists c.args.directions.now n c.in-Some.direction) c.from.ensures c.in-Some.is in
    have_more c.args.pass.now.seen c.loop-n.pass.seen c.args.row c.loop-n.n c.in-Some.direction c.loop-n.invariant.0.grows
    (read_listed c.args.pass.now.seen c.args.row c.args.directions.now c.loop-n.n c.in-Some.direction c.loop-n-test.true c.requires.read listed)

pub scan_offer-requires-clause-published : goal.scan_offer-requires-clause-published
scan_offer-requires-clause-published g c l m is =
    let listed : Lists c.args.directions.now c.loop-n.n c.in-Some.direction = subst (λ (n : ℕ). Lists c.args.directions.now n c.in-Some.direction) c.from.ensures c.in-Some.is in
    published_more c.args.scan.now.me.0 c.loop-n.scan.me.0 c.args.row.thread c.args.row.sync l c.loop-n.invariant.0.more (c.requires.out c.loop-n.n c.in-Some.direction l m listed is)

pub returns-clause-found : goal.returns-clause-found
returns-clause-found g c =
    let i = c.loop-n.invariant in
    let s = c.args.pass.now.seen in
    then_comes c.loop-n.pass.seen c.args.row _ c.loop-n.is_claimed c.then_some-2.result c.then_some-2.ensures
    (λ free. (
      (λ k low. (i.1 free k (omega (arith, c.loop-n-test.false))).0),
      (λ asked. stands_by_no_other s c.args.row c.args.directions.now c.loop-n.n c.loop-n-test.false (λ k low. (i.1 free k low).1 asked)),
    ))

pub returns-in-Some-Met-clause-made : goal.returns-in-Some-Met-clause-made
returns-in-Some-Met-clause-made g c = found_made c.args.row c.in-Some-Met.field-0 (Met c.in-Some-Met.other) c.args.pass.now.made c.loop-n.pass.made c.scan_offer.new.pass.made c.in-Some-Met.field-0-is c.loop-n.invariant.0.made c.in-Some-Met.ensures.made

pub returns-in-Some-Alone-clause-made : goal.returns-in-Some-Alone-clause-made
returns-in-Some-Alone-clause-made g c = found_made c.args.row c.in-Some-Alone.field-0 Alone c.args.pass.now.made c.loop-n.pass.made c.scan_offer.new.pass.made c.in-Some-Alone.field-0-is c.loop-n.invariant.0.made c.in-Some-Alone.ensures.made

pub returns-in-Some-Already-clause-made : goal.returns-in-Some-Already-clause-made
returns-in-Some-Already-clause-made g c = found_made c.args.row c.in-Some-Already.field-0 Already c.args.pass.now.made c.loop-n.pass.made c.scan_offer.new.pass.made c.in-Some-Already.field-0-is c.loop-n.invariant.0.made c.in-Some-Already.ensures.made

pub returns-clause-again : goal.returns-clause-again
returns-clause-again g c = then_none c.loop-n.is_claimed c.then_some-2.result c.then_some-2.ensures c.loop-n.invariant.2
