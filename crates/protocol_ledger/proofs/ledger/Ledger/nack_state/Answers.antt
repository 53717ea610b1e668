use Rattle.std.proofs.Common.{◌∙◌, Some, inl, inr, ap, arith, subst, sym}
use Rattle.protocol_ledger.specs.Ledgers.{IsLawful, Ledger, offer_in}
use Rattle.protocol_ledger.specs.Sheets.{table_of}
use Rattle.protocol_ledger.specs.Tables.{bound_row}
use Rattle.protocol_ledger.proofs.Closing.{counts_own, enclosed_by, nack_told, outside_of}
use Rattle.protocol_ledger.proofs.LedgerLemmas.{offer_in_ledger}
use Rattle.protocol_ledger.proofs.ledger.Ledger.nack_state.Goals as goal

pub returns-in-Unbound : goal.returns-in-Unbound
returns-in-Unbound c = nack_told (table_of c.self.inside.sheet) c.args.self.now c.args.nack _ c.self.view_is c.in-Unbound.ensures.value

pub returns-in-Carried-eq0 : goal.returns-in-Carried-eq0
returns-in-Carried-eq0 c = inl ((nack_told (table_of c.self.inside.sheet) c.args.self.now c.args.nack _ c.self.view_is c.in-Carried-eq0.ensures.value).1 ∙ ap Some c.in-Carried-eq0.field-0-test)

pub returns-in-Carried : goal.returns-in-Carried
returns-in-Carried c =
    (omega (arith, c.in-Carried.stamp-test.1), inl (nack_told (table_of c.self.inside.sheet) c.args.self.now c.args.nack _ c.self.view_is c.in-Carried.ensures.value).1)

pub returns-then-from-rows : goal.returns-then-from-rows
returns-then-from-rows c =
    let bound = (nack_told (table_of c.self.inside.sheet) c.args.self.now c.args.nack _ c.self.view_is c.in-Bound.ensures.value).0 in
    let over = c.if-from-rows.true in
    let same = c.from.ensures in
    (c.in-Bound.bound, bound, λ d has of. let low = c.requires d c.in-Bound.bound.sync has of in absurd (omega (arith, over, same, low)))

pub returns-in_default : goal.returns-in_default
returns-in_default c =
    let bound = (nack_told (table_of c.self.inside.sheet) c.args.self.now c.args.nack _ c.self.view_is c.in-Bound.ensures.value).0 in
    (c.in-Bound.bound, bound, c.in_default.ensures.none)

pub returns-then-encloses : goal.returns-then-encloses
returns-then-encloses c =
    let t = table_of c.self.inside.sheet in
    let b = c.in-Bound.bound in
    let o = enclosed_by b.scope c.offer.result (sym c.encloses.ensures ∙ c.if-encloses.true) in
    inr (record {
      binding = b;
      is_bound = (nack_told t c.args.self.now c.args.nack _ c.self.view_is c.in-Bound.ensures.value).0;
      commit = c.in-Some.commit;
      inside = c.in-Some.ensures.found.0;
      chosen = c.taken.result;
      takes = c.taken.ensures;
      offer = o.0;
      offered = sym (ap (λ (l : Ledger). offer_in l (bound_row c.args.nack b) c.taken.result) c.self.view_is) ∙ (λ i. offer_in_ledger t i (bound_row c.args.nack b) c.taken.result) ∙ sym c.offer.ensures ∙ o.1;
      enclosed = o.2;
    })

pub returns-else-encloses : goal.returns-else-encloses
returns-else-encloses c =
    let t = table_of c.self.inside.sheet in
    let b = c.in-Bound.bound in
    let has = c.in-Some.ensures.found.0 in
    let law = subst IsLawful c.self.view_is c.self.invariant in
    let above = (law.stamps c.in-Some.commit has).after_start c.args.nack.thread (counts_own c.in-Some.commit c.args.nack.thread b.sync c.in-Some.ensures.found.1) in
    let is = c.stamp_of.ensures in (
      omega (arith, above, is),
      inr (
        record {
          binding = b;
          is_bound = (nack_told t c.args.self.now c.args.nack _ c.self.view_is c.in-Bound.ensures.value).0;
          commit = c.in-Some.commit;
          inside = has;
          chosen = c.taken.result;
          takes = c.taken.ensures;
          outside = λ o e. outside_of b.scope c.offer.result (sym c.encloses.ensures ∙ c.if-encloses.false) o
              (c.offer.ensures ∙ sym (λ i. offer_in_ledger t i (bound_row c.args.nack b) c.taken.result) ∙ ap (λ (l : Ledger). offer_in l (bound_row c.args.nack b) c.taken.result) c.self.view_is ∙ e);
        },
        sym is,
      ),
    )
