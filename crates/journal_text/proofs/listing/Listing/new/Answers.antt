use Rattle.std.proofs.Common.{◌≡◌, ◌∙◌, ◌<◌, ℕ, List, [], ap, sym, subst, arith, length, get_or, replicate, rules}
use Rattle.std.proofs.lemmas.List.{get_or-map, get_or_read}
use denote.Ref.{Bor}
use Rattle.script_reader.specs.Places.{texts}
use Rattle.journal_text.specs.Slots.{slot_of, last_in, AreHeads, AreLinks}
use Rattle.journal_text.proofs.Chains.{heads_begun, heads_more, links_begun, links_more}
use Rattle.journal_text.proofs.listing.Listing.new.Goals as goal

pub loop-number-init : goal.loop-number-init
loop-number-init c =
    let names = texts c.args.names.items in
    let empty : c.in_ok-heads.heads.items ≡ replicate 1024 0 = search rules in
    (rw empty (heads_begun names), rw c.in_ok-links.ensures.items (links_begun names))

pub loop-number-preserved : goal.loop-number-preserved
loop-number-preserved c =
    let names = texts c.args.names.items in
    let n = c.loop-number.number in
    let heads = c.loop-number.heads.items in
    let slot = c.slot-slot.result in
    let small = c.slot-slot.ensures.small in
    let nowhere : Bor (List ℕ) = record { ref_ptr = (0, 0); now = [] } in
    let slice : c.deref-name-items.result.now ≡ c.args.names.items = c.deref-name-items.ensures.value in
    let within : n < length c.args.names.items = omega (arith, ap length slice) in
    let name = ap (λ (all : List (Bor (List ℕ))). (get_or all n nowhere).now) slice ∙ sym (get_or-map (λ (x : Bor (List ℕ)). x.now) c.args.names.items n nowhere [] within) in
    let is : slot ≡ slot_of (get_or names n []) = c.slot-slot.ensures.value ∙ ap slot_of (c.new.ensures ∙ c.as_bytes.ensures.value ∙ name) in
    let read = get_or_read heads slot _ (omega (arith, c.loop-number.invariant.0.count, small)) c.index.ensures 0 ∙ c.loop-number.invariant.0.each slot small ∙ ap (λ slot. last_in slot names n) is in
    (heads_more names n heads slot c.loop-number.invariant.0 is small, rw c.in_ok-push.ensures.items (links_more names n c.loop-number.links.items _ c.loop-number.invariant.1 read))

pub invariant_of-result : goal.invariant_of-result
invariant_of-result c =
    let names = texts c.args.names.items in
    let all : c.loop-number.number ≡ length c.args.names.items = omega (arith, c.loop-number-test.false) in
    record {
      few = c.requires.few;
      apart = c.requires.apart;
      headed = subst (λ n. AreHeads names n c.loop-number.heads.items) all c.loop-number.invariant.0;
      linked = subst (λ n. AreLinks names n c.loop-number.links.items) all c.loop-number.invariant.1;
    }
