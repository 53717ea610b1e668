-- An offer that is there is one of a row of the table, and its words are an offer's; where a short row has not the words, they are 0.
use Rattle.std.proofs.Common.{◌+◌, ◌*◌, ap, arith, is_some, Option, sym, ◌∙◌}
use Rattle.protocol_values.specs.declared.Offer.{Offer}
use Rattle.protocol_ledger.specs.Sheets.{table_of}
use Rattle.protocol_ledger.proofs.Places.{row_inside}
use Rattle.protocol_ledger.proofs.Readings.{offer_place}
use Rattle.protocol_ledger.proofs.Sheets.{offer_there, sheet_no_offer, sheet_offer}
use Rattle.protocol_ledger.proofs.Short.{short_inside}
use Rattle.protocol_ledger.proofs.sheet.Sheet.known_offer.Goals as goal

pub read_offer-requires : goal.read_offer-requires
read_offer-requires c =
    let high = c.if-from-self.true in
    let none = sheet_no_offer c.args.self.now c.args.row c.args.n c.requires (omega (arith, c.from.ensures, high)) in
    ap (λ (o : Option Offer). is_some o) (sym none) ∙ c.requires

pub returns-then-from-self : goal.returns-then-from-self
returns-then-from-self c =
    let high = c.if-from-self.true in
    sheet_no_offer c.args.self.now c.args.row c.args.n c.requires (omega (arith, c.from.ensures, high)) ∙ c.read_offer.ensures

pub place-head-requires-clause-thread : goal.place-head-requires-clause-thread
place-head-requires-clause-thread c = (row_inside (table_of c.args.self.now) c.args.row (offer_place (table_of c.args.self.now) c.args.row c.args.n c.requires).0).0

pub place-head-requires-clause-words : goal.place-head-requires-clause-words
place-head-requires-clause-words c = offer_there c.args.self.now c.args.row c.args.n c.requires

pub index-requires-2 : goal.index-requires-2
index-requires-2 c =
    let s = c.args.self.now in
    let its = row_inside (table_of s) c.args.row (offer_place (table_of s) c.args.row c.args.n c.requires).0 in
    let low = c.if-from-self.false in
    let b = short_inside s.layout s.threads c.args.row (5 + 4 * c.args.n) its.0 (offer_there s c.args.row c.args.n c.requires) (omega (arith, c.from.ensures)) in
    omega (arith, c.place-head.ensures.value, c.from-2.ensures, s.sized)

pub index-requires-3 : goal.index-requires-3
index-requires-3 c =
    let s = c.args.self.now in
    let its = row_inside (table_of s) c.args.row (offer_place (table_of s) c.args.row c.args.n c.requires).0 in
    let low = c.if-from-self.false in
    let b = short_inside s.layout s.threads c.args.row (5 + 4 * c.args.n) its.0 (offer_there s c.args.row c.args.n c.requires) (omega (arith, c.from.ensures)) in
    omega (arith, c.place-head.ensures.value, c.from-2.ensures, s.sized)

pub index-requires-4 : goal.index-requires-4
index-requires-4 c =
    let s = c.args.self.now in
    let its = row_inside (table_of s) c.args.row (offer_place (table_of s) c.args.row c.args.n c.requires).0 in
    let low = c.if-from-self.false in
    let b = short_inside s.layout s.threads c.args.row (5 + 4 * c.args.n) its.0 (offer_there s c.args.row c.args.n c.requires) (omega (arith, c.from.ensures)) in
    omega (arith, c.place-head.ensures.value, c.from-2.ensures, s.sized)

pub read_offer-requires-2 : goal.read_offer-requires-2
read_offer-requires-2 c =
    let low = c.if-from-self.false in
    let is = sheet_offer c.args.self.now c.args.row c.args.n c.place-head.result _ _ _ _ c.requires (omega (arith, c.from.ensures)) (omega (arith, c.place-head.ensures.value, c.from-2.ensures)) c.index.ensures c.index-2.ensures c.index-3.ensures c.index-4.ensures in
    ap (λ (o : Option Offer). is_some o) (sym is) ∙ c.requires

pub returns : goal.returns
returns c =
    let low = c.if-from-self.false in
    sheet_offer c.args.self.now c.args.row c.args.n c.place-head.result _ _ _ _ c.requires (omega (arith, c.from.ensures)) (omega (arith, c.place-head.ensures.value, c.from-2.ensures)) c.index.ensures c.index-2.ensures c.index-3.ensures c.index-4.ensures
    ∙ c.read_offer-2.ensures
