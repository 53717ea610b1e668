use Rattle.std.proofs.Common.{rules, ◌≡◌, ◌⊎◌, true, None, Some, inl, inr, refl}
use Rattle.protocol_values.specs.declared.Offer.{Offer}
use Rattle.protocol_values.specs.declared.Row.{Row}
use Rattle.protocol_ledger.specs.Tables.{names}
use Rattle.cell_table.specs.Sight.{Has, HaveOffer, LackOffer}
use Rattle.cell.proofs.Learning.{learns_then, learns_wider}
use Rattle.cell.proofs.Meeting.{from_none, from_some, chosen_not_lacking}
use Rattle.cell_table.proofs.Results.{gets_received}
use Rattle.cell_table.proofs.Offers.{have_more}
use Rattle.cell.proofs.reading.gained.Goals as goal

pub returns-in_err-message-clause-got : goal.returns-in_err-message-clause-got
returns-in_err-message-clause-got g c =
    let none : c.opened_offer.result ≡ None = (search rules) in
    let lack = from_none c.opened_offer.result (LackOffer c.opened_offer.new.seat.me.0.seen.words c.args.row c.args.joined.own) c.opened_offer.ensures.none none in
    absurd (chosen_not_lacking _ _ c.opened_offer.new.seat.me.0.seen c.args.row c.args.joined.own c.opened_offer.ensures.sits.1.3
    (inl (c.args.joined, c.opened_offer.ensures.learns.joined.0 (c.args.row, c.args.joined) c.requires.committed.0, refl)) lack)

pub returns-in-Recv-clause-got : goal.returns-in-Recv-clause-got
returns-in-Recv-clause-got g c =
    let sent = c.received.ensures.sent in
    let mine : Offer = c.in_ok-message.field-0 in
    let some : c.opened_offer.result ≡ Some mine = (search rules) in
    let have = (from_some c.opened_offer.result (λ o. Has c.opened_offer.new.seat.me.0.seen.opened c.args.row × HaveOffer c.opened_offer.new.seat.me.0.seen.words c.args.row c.args.joined.own o) mine c.opened_offer.ensures.some some).1 in (
      sent.3,
      sent.4,
      (
        c.args.joined,
        mine,
        c.received.ensures.learns.joined.0 _ (c.opened_offer.ensures.learns.joined.0 (c.args.row, c.args.joined) c.requires.committed.0),
        inl (have_more _ _ c.args.row c.args.joined.own mine c.received.ensures.learns.words.0 have),
        gets_received c.received.new.seat.me.0.seen c.args.joined mine.base c.in-Recv.field-0 sent.3 sent.0 sent.1 sent.2 (search rules) sent.5 (inl sent.6) sent.7,
      ),
    )

-- the row is read, and then its partner
pub returns-in-Recv-clause-learns : goal.returns-in-Recv-clause-learns
returns-in-Recv-clause-learns g c =
    let Near : Row → Type 0 = λ q. (q ≡ c.args.row) ⊎ (names (Some c.args.joined) q ≡ true) in
    let s = c.args.seat.now.me.0.seen in
    let t = c.opened_offer.new.seat.me.0.seen in
    let u = c.received.new.seat.me.0.seen in
    learns_then Near s t u
    (learns_wider (λ q. q ≡ c.args.row) Near s t (λ q e. inl e) c.opened_offer.ensures.learns)
    (learns_wider (λ q. names (Some c.args.joined) q ≡ true) Near t u (λ q e. inr e) c.received.ensures.learns)

pub returns-in-Send : goal.returns-in-Send
returns-in-Send g c =
    let Near : Row → Type 0 = λ q. (q ≡ c.args.row) ⊎ (names (Some c.args.joined) q ≡ true) in
    record {
      sits = (search rules);
      stays = (search rules);
      learns = learns_wider (λ q. q ≡ c.args.row) Near c.args.seat.now.me.0.seen c.opened_offer.new.seat.me.0.seen (λ q e. inl e) c.opened_offer.ensures.learns;
      got = (search rules);
    }
