use Rattle.std.proofs.Common.{◌≡◌, ◌∙◌, ◌<◌, ℕ, suc, length, Some, inl, inr, subst, sym, ap, arith}
use Rattle.std.specs.List.{slice_get}
use Rattle.std.proofs.lemmas.Bool.{cases_lt}
use Rattle.std.proofs.lemmas.Option.{get_or_from_slice_get, slice_get-get_or, slice_get_within}
use Rattle.engine.specs.declared.offers.Offer.{Offer}
use Rattle.engine.specs.Orders.{tried}
use Rattle.engine.specs.States.{NotReady, State}
use Rattle.engine.specs.Tables.{state_of}
use Rattle.engine.proofs.Tabling.{known-then}
use Rattle.engine.proofs.table.Table.first_ready.Goals as goal

pub next-own-requires : goal.next-own-requires
next-own-requires c =
    c.loop-time.invariant.within (let lt = c.loop-time-test.true in let e = c.loop-time.invariant.count in let n = c.requires.count in omega arith)

pub answer-requires-clause-known : goal.answer-requires-clause-known
answer-requires-clause-known c =
    let is : c.next-own.result ≡ tried c.args.order c.loop-time._time = c.next-own.ensures.now ∙ (c.loop-time.invariant.on 0 ∙ ap (λ (n : ℕ). tried c.args.order n) (omega arith)) in
    let n = c.requires.count in
    let lt = c.loop-time-test.true in
    let within = c.requires.each.within c.loop-time._time (omega arith) in
    let here : c.next-own.result < length c.args.offers.now = omega arith in
    let at = slice_get-get_or c.args.offers.now c.next-own.result _ here in
    known-then (state_of c.loop-time.self) (state_of c.args.self.now) _ c.loop-time.invariant.same (c.requires.known c.next-own.result _ at)

pub loop-time-preserved : goal.loop-time-preserved
loop-time-preserved c =
    let tries = c.in_default.ensures.tries in
    let before = c.loop-time.invariant in
    let is : c.next-own.result ≡ tried c.args.order c.loop-time._time = c.next-own.ensures.now ∙ (before.on 0 ∙ ap (λ (n : ℕ). tried c.args.order n) (omega arith)) in
    record {
      sound = c.in_default.ensures.sound;
      same = tries.0 ∙ before.same;
      count = c.next-own.ensures.on.count ∙ before.count;
      within = λ _. c.next-own.ensures.within;
      on = λ t. c.next-own.ensures.on.next t ∙ (before.on (suc t) ∙ ap (λ (n : ℕ). tried c.args.order n) (omega arith));
      none = λ t offer lt at.
          elim (cases_lt t c.loop-time._time) [
            | inl l ↦ before.none t offer l at
            | inr ge ↦
                let now : t ≡ c.loop-time._time = omega arith in
                let here : slice_get c.args.offers.now c.next-own.result ≡ Some offer =
                subst (λ (n : ℕ). slice_get c.args.offers.now n ≡ Some offer) (sym is) (subst (λ (n : ℕ). slice_get c.args.offers.now (tried c.args.order n) ≡ Some offer) now at) in
                let same = get_or_from_slice_get c.args.offers.now c.next-own.result offer _ here in
                subst (λ (s : State). NotReady s offer) before.same (subst (λ (o : Offer). NotReady (state_of c.loop-time.self) o) same tries.1)
          ];
    }

pub returns-clause-polls : goal.returns-clause-polls
returns-clause-polls c =
    let before = c.loop-time.invariant in (
      before.same,
      λ own offer at.
          let n = c.requires.count in
          let lt = slice_get_within c.args.offers.now own offer at in
          let time = c.requires.each.each own (omega arith) in
          let over = c.loop-time-test.false in
          let early = time.1 in
          before.none time.0 offer (omega arith) (subst (λ (n : ℕ). slice_get c.args.offers.now n ≡ Some offer) (sym time.2) at),
    )
