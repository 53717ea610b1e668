use Rattle.std.proofs.Common.{rules, ◌≡◌, ℕ, ◌+◌, None, Some, sym, ap, ◌∙◌, min, subst}
use Rattle.protocol_values.specs.declared.Offer.{Offer}
use Rattle.protocol_values.specs.Words.{IsJoinedInRange}
use Rattle.protocol_ledger.proofs.Linking.{some_inj}
use Rattle.cell.specs.Attempts.{IsNearGrant}
use Rattle.cell_table.specs.Nacks.{CanGrant, IsReadyAlone, SawCause}
use Rattle.cell_table.specs.Sight.{Has, HaveOffer}
use Rattle.cell.proofs.Learning.{learns_then, learns_nothing}
use Rattle.cell_table.proofs.Offers.{sees_more}
use Rattle.cell.proofs.Meeting.{from_none, from_some}
use Rattle.cell.proofs.Alone.{IsReady, can, given_is, late_is, near_cause, near_offer, ready_more}
use Rattle.cell_table.proofs.Truths.{opened_words}
use Rattle.cell.proofs.granting.grant_row.Goals as goal
use Rattle.cell.proofs.granting.grant_row.Goals.{After-cause_of, After-last_stamp-last}

-- the row has no such offer
pub returns-in_default-clause-granted : goal.returns-in_default-clause-granted
returns-in_default-clause-granted g c (o, sees, ready) =
    c.in_default.not-Some o (c.offer_of.ensures.same o (sees_more _ _ _ _ _ o c.offer_of.ensures.learns sees))

-- nothing lets the offer commit its row alone
pub returns-in_default-cause_of-clause-granted : goal.returns-in_default-cause_of-clause-granted
returns-in_default-cause_of-clause-granted g c (o, sees, ready) =
    let some : c.offer_of.result ≡ Some c.in-Some.offer = (search rules) in
    let same : o ≡ c.in-Some.offer = some_inj o c.in-Some.offer (sym (c.offer_of.ensures.same o (sees_more _ _ _ _ _ o c.offer_of.ensures.learns sees)) ∙ some) in
    let none : c.cause_of.result ≡ None = (search rules) in
    let later : IsReadyAlone c.offer_of.new.seat.me.0.seen c.in-Some.offer.base =
    subst (λ (p : Offer). IsReadyAlone c.offer_of.new.seat.me.0.seen p.base) same (ready_more (λ q. q ≡ c.args.row) c.args.seat.now.me.0.seen c.offer_of.new.seat.me.0.seen o.base c.offer_of.ensures.learns ready) in
    from_none c.cause_of.result (¬ IsReadyAlone c.offer_of.new.seat.me.0.seen c.in-Some.offer.base) c.cause_of.ensures.none none later

-- what was read of the offer
read : (g : _) (c : After-cause_of g) → Has c.offer_of.new.seat.me.0.seen.opened c.args.row × HaveOffer c.offer_of.new.seat.me.0.seen.words c.args.row c.args.n c.in-Some.offer
read g c =
    let some : c.offer_of.result ≡ Some c.in-Some.offer = (search rules) in
    from_some c.offer_of.result (λ o. Has c.offer_of.new.seat.me.0.seen.opened c.args.row × HaveOffer c.offer_of.new.seat.me.0.seen.words c.args.row c.args.n o) c.in-Some.offer c.offer_of.ensures.some some

pub returns-in_default-cause_of-clause-learns : goal.returns-in_default-cause_of-clause-learns
returns-in_default-cause_of-clause-learns g c =
    learns_then (IsNearGrant c.cause_of.new.seat.me.0.seen c.args.row c.args.n) c.args.seat.now.me.0.seen c.offer_of.new.seat.me.0.seen c.cause_of.new.seat.me.0.seen
    (near_offer c.args.seat.now.me.0.seen c.offer_of.new.seat.me.0.seen c.cause_of.new.seat.me.0.seen c.args.row c.args.n c.offer_of.ensures.learns)
    (near_cause c.offer_of.new.seat.me.0.seen c.cause_of.new.seat.me.0.seen c.cause_of.new.seat.me.0.seen c.args.row c.args.n c.in-Some.offer (read g c.before).1 c.cause_of.ensures.learns (learns_nothing (λ q. ⊥) (λ m. ⊥) (λ p. ⊥) c.cause_of.new.seat.me.0.seen))

ready : (g : _) (c : After-last_stamp-last g) → IsReady c.args.seat.now.me.0.seen c.offer_of.new.seat.me.0.seen c.cause_of.new.seat.me.0.seen c.last_stamp-last.new.seat.me.0 c.args.row c.args.n c.in-Some.offer c.in-Some-cause_of.cause c.last_stamp-last.result
ready g c =
    let some : c.offer_of.result ≡ Some c.in-Some.offer = (search rules) in
    let have = from_some c.offer_of.result (λ o. Has c.offer_of.new.seat.me.0.seen.opened c.args.row × HaveOffer c.offer_of.new.seat.me.0.seen.words c.args.row c.args.n o) c.in-Some.offer c.offer_of.ensures.some some in
    let caused : c.cause_of.result ≡ Some c.in-Some-cause_of.cause = (search rules) in
    let cause = from_some c.cause_of.result (λ stamp. SawCause c.cause_of.new.seat.me.0.seen c.in-Some.offer.base stamp) c.in-Some-cause_of.cause c.cause_of.ensures.some caused in
    record {
      offer = c.offer_of.ensures.learns;
      same = λ p sees. some_inj c.in-Some.offer p (sym some ∙ c.offer_of.ensures.same p (sees_more _ _ _ _ _ p c.offer_of.ensures.learns sees));
      opened = have.0;
      have = have.1;
      nack = c.cause_of.ensures.learns;
      caused = cause;
      before_row = c.last_stamp-last.ensures.learns;
      seen_last = c.last_stamp-last.ensures.last;
    }

pub give-requires-clause-can : goal.give-requires-clause-can
give-requires-clause-can g c =
    subst (λ (k : ℕ). CanGrant c.last_stamp-last.new.seat.me.0.seen c.args.row c.args.n (record { own = c.args.n; partner = None; stamp = k }) × IsJoinedInRange (record { own = c.args.n; partner = None; stamp = k })) (sym (c.saturating_add.ensures ∙ ap (λ k. min (k + 1) 4294967295) c.max.ensures))
    (can _ _ _ _ c.last_stamp-last.new.seat.me.0 _ _ _ _ _ (ready g c.before.before.before))

pub returns-in-Ok-clause-granted : goal.returns-in-Ok-clause-granted
returns-in-Ok-clause-granted g c = (given_is _ _ _ _ c.give.new.seat.me.0 _ _ _ _ _ (ready g c.before.before.before.before.before) (search rules) (search rules)).0

pub returns-in-Ok-clause-learns : goal.returns-in-Ok-clause-learns
returns-in-Ok-clause-learns g c = (given_is _ _ _ _ c.give.new.seat.me.0 _ _ _ _ _ (ready g c.before.before.before.before.before) (search rules) (search rules)).1

pub returns-in-Err-clause-granted : goal.returns-in-Err-clause-granted
returns-in-Err-clause-granted g c = (late_is _ _ _ _ c.give.new.seat.me.0 _ _ _ _ _ (ready g c.before.before.before.before.before) c.in-Err.field-0 (search rules) (search rules) (search rules) (search rules)).0

pub returns-in-Err-clause-learns : goal.returns-in-Err-clause-learns
returns-in-Err-clause-learns g c = (late_is _ _ _ _ c.give.new.seat.me.0 _ _ _ _ _ (ready g c.before.before.before.before.before) c.in-Err.field-0 (search rules) (search rules) (search rules) (search rules)).1

pub give-requires-clause-words : goal.give-requires-clause-words
give-requires-clause-words g c =
    let some : c.offer_of.result ≡ Some c.in-Some.offer = (search rules) in
    let opened : Has c.offer_of.new.seat.me.0.seen.opened c.args.row = (search rules) in
    opened_words c.args.board.now.shape.layout c.offer_of.new.seat.me.0.seen c.args.row c.offer_of.ensures.sits.1.9 opened
