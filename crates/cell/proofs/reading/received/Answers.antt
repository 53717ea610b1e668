use Rattle.std.proofs.Common.{rules, ℕ, Option, ◌≡◌, ◌∙◌, ap, sym, true, None, Some, inr}
use Rattle.std.proofs.lemmas.Bool.{false≢true}
use Rattle.protocol_values.specs.declared.Row.{Row}
use Rattle.protocol_ledger.specs.Tables.{is_partner, needs_none, row_eq}
use Rattle.protocol_ledger.proofs.RowLemmas.{row_eq-refl}
use Rattle.cell.proofs.Learning.{learns_wider}
use Rattle.cell_table.specs.Sight.{Has, HaveOffer, LackOffer, IsKnownOpen}
use Rattle.cell.proofs.Meeting.{from_none, from_some, recv_meets, chosen_not_lacking, partner_known_open}
use Rattle.cell_table.proofs.Offers.{have_more}
use Rattle.cell.proofs.reading.received.Goals as goal

pub returns-in_err-message-clause-sent : goal.returns-in_err-message-clause-sent
returns-in_err-message-clause-sent g c =
    let partner : c.args.joined.partner ≡ Some (c.in_ok-partner.partner, c.in_ok-partner.offer) = (search rules) in
    let none : c.offer_of.result ≡ None = (search rules) in
    let lack = from_none c.offer_of.result (IsKnownOpen c.args.seat.now.me.0.seen c.in_ok-partner.partner → LackOffer c.offer_of.new.seat.me.0.seen.words c.in_ok-partner.partner c.in_ok-partner.offer) c.offer_of.ensures.none none
    (partner_known_open c.args.seat.now.me.0.seen c.args.row c.args.joined c.in_ok-partner.partner c.in_ok-partner.offer c.requires.committed partner) in
    absurd (chosen_not_lacking _ _ c.offer_of.new.seat.me.0.seen c.in_ok-partner.partner c.in_ok-partner.offer c.offer_of.ensures.sits.1.3
    (inr (c.args.row, c.args.joined, c.offer_of.ensures.learns.joined.0 (c.args.row, c.args.joined) c.requires.committed, partner)) lack)

pub returns-in_default : goal.returns-in_default
returns-in_default g c =
    let partner : c.args.joined.partner ≡ Some (c.in_ok-partner.partner, c.in_ok-partner.offer) = (search rules) in
    let some : c.offer_of.result ≡ Some c.in_ok-message.field-0 = (search rules) in
    let have = (from_some c.offer_of.result (λ o. Has c.offer_of.new.seat.me.0.seen.opened c.in_ok-partner.partner × HaveOffer c.offer_of.new.seat.me.0.seen.words c.in_ok-partner.partner c.in_ok-partner.offer o) c.in_ok-message.field-0 c.offer_of.ensures.some some).1 in
    let mine = c.requires.receives.0 in
    let meet = c.offer_of.ensures.sits.1.3.meet c.args.row c.args.joined (c.in_ok-partner.partner, c.in_ok-partner.offer) mine c.in_ok-message.field-0
    (c.offer_of.ensures.learns.joined.0 (c.args.row, c.args.joined) c.requires.committed) partner
    (have_more c.args.seat.now.me.0.seen.words c.offer_of.new.seat.me.0.seen.words c.args.row c.args.joined.own mine c.offer_of.ensures.learns.words.0 c.requires.receives.2) have in
    let sends = recv_meets mine c.in_ok-message.field-0 c.requires.receives.1 c.requires.receives.3 meet in
    absurd (c.in_default.not-Send sends.0 sends.1 sends.2)

-- a row that receives is not committed alone
pub returns-in_err-partner-clause-sent : goal.returns-in_err-partner-clause-sent
returns-in_err-partner-clause-sent g c =
    let none : c.args.joined.partner ≡ None = (search rules) in
    let mine = c.requires.receives.0 in
    let alone : needs_none mine.base ≡ true = c.requires.sits.0.3.alone c.args.row c.args.joined mine c.requires.committed none c.requires.receives.2 in
    absurd (false≢true (sym (ap needs_none c.requires.receives.3) ∙ alone))

pub offer_of-requires : goal.offer_of-requires
offer_of-requires g c =
    let partner : c.args.joined.partner ≡ Some (c.in_ok-partner.partner, c.in_ok-partner.offer) = (search rules) in
    let inside = c.requires.sits.0.3.inside c.args.row c.args.joined (c.in_ok-partner.partner, c.in_ok-partner.offer) c.requires.committed partner in
    (c.requires.sits.0, inside)

-- the partner is read
pub returns-in-Send-clause-learns : goal.returns-in-Send-clause-learns
returns-in-Send-clause-learns g c =
    let partner : c.args.joined.partner ≡ Some (c.in_ok-partner.partner, c.in_ok-partner.offer) = (search rules) in
    learns_wider (λ q. q ≡ c.in_ok-partner.partner) (λ q. is_partner c.args.joined.partner q ≡ true) c.args.seat.now.me.0.seen c.offer_of.new.seat.me.0.seen
    (λ q e. ap (λ (p : Option (Row × ℕ)). is_partner p q) partner ∙ ap (row_eq c.in_ok-partner.partner) e ∙ row_eq-refl c.in_ok-partner.partner) c.offer_of.ensures.learns

pub returns-in_err-message-clause-learns : goal.returns-in_err-message-clause-learns
returns-in_err-message-clause-learns g c =
    let partner : c.args.joined.partner ≡ Some (c.in_ok-partner.partner, c.in_ok-partner.offer) = (search rules) in
    learns_wider (λ q. q ≡ c.in_ok-partner.partner) (λ q. is_partner c.args.joined.partner q ≡ true) c.args.seat.now.me.0.seen c.offer_of.new.seat.me.0.seen
    (λ q e. ap (λ (p : Option (Row × ℕ)). is_partner p q) partner ∙ ap (row_eq c.in_ok-partner.partner) e ∙ row_eq-refl c.in_ok-partner.partner) c.offer_of.ensures.learns
