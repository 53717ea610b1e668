use Rattle.std.proofs.Common.{◌≡◌, ◌≢◌, ◌∙◌, ◌<◌, ◌+◌, ◌-◌, [], true, false, ap, sym, subst, arith, get_or, length}
use Rattle.std.proofs.lemmas.Bool.Decides.{Decides-eqb}
use Rattle.std.proofs.lemmas.List.{get_or_read}
use Rattle.std.proofs.lemmas.Slice.Eq.{slice_eq-Decides}
use Rattle.script_reader.specs.Places.{texts}
use Rattle.journal_text.specs.Slots.{slot_of, last_in}
use Rattle.journal_text.proofs.Chains.{IsSought, is_last, begun, goes_on, place_apart, place_none, texts_at, texts_length}
use Rattle.journal_text.proofs.listing.Listing.number.Goals as goal

pub loop-next-init : goal.loop-next-init
loop-next-init c =
    let self = c.args.self.now in
    let text = c.args.word.text.now in
    let names = texts self.names.items in
    let slot = c.slot.result in
    let read = get_or_read self.heads.items slot _ (omega (arith, self.headed.count, c.slot.ensures.small)) c.index-next.ensures 0 ∙ self.headed.each slot c.slot.ensures.small in
    begun names text _ (read ∙ ap (λ slot. last_in slot names (length self.names.items)) c.slot.ensures.value ∙ ap (last_in (slot_of text) names) (sym (texts_length self.names.items)))

pub returns-then-eq : goal.returns-then-eq
returns-then-eq c =
    let self = c.args.self.now in
    let text = c.args.word.text.now in
    let number = c.from-number.result - 1 in
    let within : number < length self.names.items = omega (arith, texts_length self.names.items) in
    let same = (slice_eq-Decides Decides-eqb _ _ _ c.eq.ensures).0 c.if-eq.true in
    let is : get_or (texts self.names.items) number [] ≡ text = texts_at self.names.items number _ within c.index.ensures ∙ sym c.as_bytes.ensures.value ∙ same in
    sym (place_apart (texts self.names.items) text number self.apart (omega (arith, texts_length self.names.items)) is)

pub loop-next-smaller : goal.loop-next-smaller
loop-next-smaller c =
    let self = c.args.self.now in
    let number = c.from-number.result - 1 in
    let within : number < length self.names.items = omega (arith, texts_length self.names.items) in
    let read = get_or_read self.links.items number _ (omega (arith, self.linked.count)) c.index-next-in-loop-next.ensures 0 ∙ self.linked.each number within in
    omega (arith, read, (is_last (slot_of (get_or (texts self.names.items) number [])) (texts self.names.items) number).within)

pub loop-next-preserved : goal.loop-next-preserved
loop-next-preserved c =
    let self = c.args.self.now in
    let text = c.args.word.text.now in
    let number = c.from-number.result - 1 in
    let within : number < length self.names.items = omega (arith, texts_length self.names.items) in
    let read = get_or_read self.links.items number _ (omega (arith, self.linked.count)) c.index-next-in-loop-next.ensures 0 ∙ self.linked.each number within in
    let next : c.loop-next.next ≡ number + 1 = omega arith in
    let other : get_or (texts self.names.items) number [] ≢ text = λ same.
    let met = (slice_eq-Decides Decides-eqb _ _ _ c.eq.ensures).1 (c.as_bytes.ensures.value ∙ sym (texts_at self.names.items number _ within c.index.ensures) ∙ same) in
    let clash : true ≡ false = sym met ∙ c.if-eq.false in absurd cc in
    goes_on (texts self.names.items) text number _ (subst (IsSought (texts self.names.items) text) next c.loop-next.invariant) other read

pub returns : goal.returns
returns c = sym (place_none (texts c.args.self.now.names.items) c.args.word.text.now (λ k less. c.loop-next.invariant.none k (omega arith) less))
