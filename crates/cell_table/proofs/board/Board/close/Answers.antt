use Rattle.std.proofs.Common.{rules, ℕ, List, ◌≡◌, ◌<◌, ◌∙◌, length, None, Some, slice_get, sym, subst, ap, arith}
use Rattle.protocol_ledger.specs.Ledgers.{IsLawful, Ledger, ledger_of, binding_in, carried_in, course_in, joined_in, offer_in}
use Rattle.cell_table.specs.Views.{opening_in}
use Rattle.protocol_ledger.specs.Acting.{ActsAs, EndsAt, HasStart, acts_in, before_of}
use Rattle.protocol_ledger.specs.Standing.{AreResults}
use Rattle.protocol_ledger.proofs.LedgerLemmas.{course_in_ledger, offer_in_ledger}
use Rattle.protocol_ledger.proofs.Readings.{course_outside}
use Rattle.std.specs.Slots.{slots_items}
use Rattle.cell_table.specs.Closings.{AreInTurn, HandedOut, IsHomeOf}
use Rattle.protocol_ledger.specs.Short.{wide_table}
use Rattle.cell_table.proofs.Allowing.{sized}
use Rattle.cell_table.proofs.Endings.{ended, final_acts, final_before, final_bound, final_carried, final_ended, final_few, final_kept, final_lawful, final_joined, final_lack, final_machine, final_offer, final_opened, final_over, final_own, final_results, final_started, final_turns, final_waiting, sized_ledger}
use Rattle.cell_table.proofs.InTurn.{offers_open}
use Rattle.cell_table.proofs.board.Board.close.Goals as goal

pub of_short_words-ledger-requires-clause-lawful : goal.of_short_words-ledger-requires-clause-lawful
of_short_words-ledger-requires-clause-lawful g c =
    let size : c.args.seat.me.0.threads ≡ c.args.self.shape.threads = (search rules) in
    let some = c.args.self.small.0 in
    subst (λ (n : ℕ). IsLawful (ledger_of (wide_table c.args.self.shape.layout (record { threads = c.args.self.shape.threads; rows = c.args.self.shape.rows; words = c.copy_words-words.result.items; opening = n })))) (sym c.args.self.opens.2)
    (final_lawful g.M.Resident.stands c.args.self.shape c.args.seat.id c.args.seat.me.0 (omega arith) c.copy_words-words.result.items _
    (ended g.M.Resident.stands _ _ _ _ _ _ _ c.args.self.keyed c.copy_words-words.ensures c.close_with-closed.ensures.values.2))

pub returns-clause-size : goal.returns-clause-size
unfolding ledger_of
returns-clause-size g c = (ap (λ (l : Ledger). l.threads) (sized_ledger c.args.self.shape c.copy_words-words.result.items c.args.self.stamps _ c.args.self.opens.2 c.of_short_words-ledger.ensures), ap (λ (l : Ledger). l.rows) (sized_ledger c.args.self.shape c.copy_words-words.result.items c.args.self.stamps _ c.args.self.opens.2 c.of_short_words-ledger.ensures))

pub returns-clause-opening : goal.returns-clause-opening
unfolding ledger_of
returns-clause-opening g c = ap (λ (l : Ledger). l.opening) (sized_ledger c.args.self.shape c.copy_words-words.result.items c.args.self.stamps _ c.args.self.opens.2 c.of_short_words-ledger.ensures)

pub returns-clause-seen : goal.returns-clause-seen
returns-clause-seen g c r j h =
    let size : c.args.seat.me.0.threads ≡ c.args.self.shape.threads = (search rules) in
    let some = c.args.self.small.0 in
    subst (λ (l : Ledger). joined_in l r ≡ Some j) (sym (sized_ledger c.args.self.shape c.copy_words-words.result.items c.args.self.stamps _ c.args.self.opens.2 c.of_short_words-ledger.ensures))
    (final_joined g.M.Resident.stands c.args.self.shape c.args.seat.id c.args.seat.me.0 (omega arith) c.copy_words-words.result.items _
    (ended g.M.Resident.stands _ _ _ _ _ _ _ c.args.self.keyed c.copy_words-words.ensures c.close_with-closed.ensures.values.2) r j h)

pub returns-clause-own : goal.returns-clause-own
returns-clause-own g c r j offers draft e =
    let size : c.args.seat.me.0.threads ≡ c.args.self.shape.threads = (search rules) in
    let some = c.args.self.small.0 in
    subst (λ (l : Ledger). (j.own < length offers) × (offer_in l r j.own ≡ slice_get offers j.own)) (sym (sized_ledger c.args.self.shape c.copy_words-words.result.items c.args.self.stamps _ c.args.self.opens.2 c.of_short_words-ledger.ensures))
    (final_own g.M.Resident.stands c.args.self.shape c.args.seat.id c.args.seat.me.0 (omega arith) c.copy_words-words.result.items _
    (ended g.M.Resident.stands _ _ _ _ _ _ _ c.args.self.keyed c.copy_words-words.ensures c.close_with-closed.ensures.values.2) r j offers draft (subst (λ (l : Ledger). joined_in l r ≡ Some j) (sized_ledger c.args.self.shape c.copy_words-words.result.items c.args.self.stamps _ c.args.self.opens.2 c.of_short_words-ledger.ensures) e))

pub returns-clause-offers : goal.returns-clause-offers
returns-clause-offers g c r n o sees =
    let size : c.args.seat.me.0.threads ≡ c.args.self.shape.threads = (search rules) in
    let some = c.args.self.small.0 in
    subst (λ (l : Ledger). offer_in l r n ≡ Some o) (sym (sized_ledger c.args.self.shape c.copy_words-words.result.items c.args.self.stamps _ c.args.self.opens.2 c.of_short_words-ledger.ensures))
    (final_offer g.M.Resident.stands c.args.self.shape c.args.seat.id c.args.seat.me.0 (omega arith) c.copy_words-words.result.items _
    (ended g.M.Resident.stands _ _ _ _ _ _ _ c.args.self.keyed c.copy_words-words.ensures c.close_with-closed.ensures.values.2) r n o sees)

pub returns-clause-lacks : goal.returns-clause-lacks
returns-clause-lacks g c r n sees =
    let size : c.args.seat.me.0.threads ≡ c.args.self.shape.threads = (search rules) in
    let some = c.args.self.small.0 in
    subst (λ (l : Ledger). offer_in l r n ≡ None) (sym (sized_ledger c.args.self.shape c.copy_words-words.result.items c.args.self.stamps _ c.args.self.opens.2 c.of_short_words-ledger.ensures))
    (final_lack g.M.Resident.stands c.args.self.shape c.args.seat.id c.args.seat.me.0 (omega arith) c.copy_words-words.result.items _
    (ended g.M.Resident.stands _ _ _ _ _ _ _ c.args.self.keyed c.copy_words-words.ensures c.close_with-closed.ensures.values.2) r n sees)

pub returns-clause-lawful : goal.returns-clause-lawful
returns-clause-lawful g c =
    let size : c.args.seat.me.0.threads ≡ c.args.self.shape.threads = (search rules) in
    let some = c.args.self.small.0 in
    subst IsLawful (sym (sized_ledger c.args.self.shape c.copy_words-words.result.items c.args.self.stamps _ c.args.self.opens.2 c.of_short_words-ledger.ensures))
    (final_lawful g.M.Resident.stands c.args.self.shape c.args.seat.id c.args.seat.me.0 (omega arith) c.copy_words-words.result.items _
    (ended g.M.Resident.stands _ _ _ _ _ _ _ c.args.self.keyed c.copy_words-words.ensures c.close_with-closed.ensures.values.2))

pub returns-clause-bound : goal.returns-clause-bound
returns-clause-bound g c n b h =
    let size : c.args.seat.me.0.threads ≡ c.args.self.shape.threads = (search rules) in
    let some = c.args.self.small.0 in
    subst (λ (l : Ledger). binding_in l n ≡ Some b) (sym (sized_ledger c.args.self.shape c.copy_words-words.result.items c.args.self.stamps _ c.args.self.opens.2 c.of_short_words-ledger.ensures))
    (final_bound g.M.Resident.stands c.args.self.shape c.args.seat.id c.args.seat.me.0 (omega arith) c.copy_words-words.result.items _
    (ended g.M.Resident.stands _ _ _ _ _ _ _ c.args.self.keyed c.copy_words-words.ensures c.close_with-closed.ensures.values.2) n b h)

pub returns-clause-results : goal.returns-clause-results
returns-clause-results g c t rs h =
    let size : c.args.seat.me.0.threads ≡ c.args.self.shape.threads = (search rules) in
    let some = c.args.self.small.0 in
    subst (λ (l : Ledger). AreResults l t rs) (sym (sized_ledger c.args.self.shape c.copy_words-words.result.items c.args.self.stamps _ c.args.self.opens.2 c.of_short_words-ledger.ensures))
    (final_results g.M.Resident.stands c.args.self.shape c.args.seat.id c.args.seat.me.0 (omega arith) c.copy_words-words.result.items _
    (ended g.M.Resident.stands _ _ _ _ _ _ _ c.args.self.keyed c.copy_words-words.ensures c.close_with-closed.ensures.values.2) t rs h)

pub returns-clause-acts : goal.returns-clause-acts
returns-clause-acts g c some_first =
    let size : c.args.seat.me.0.threads ≡ c.args.self.shape.threads = (search rules) in
    let some = c.args.self.small.0 in
    subst (ActsAs (before_of (opening_in c.args.self.shape)) (acts_in g.M.Resident.stands c.args.self.shape.first.value.items)) (sym (sized_ledger c.args.self.shape c.copy_words-words.result.items c.args.self.stamps _ c.args.self.opens.2 c.of_short_words-ledger.ensures))
    (final_acts g.M.Resident.stands c.args.self.shape c.args.seat.id c.args.seat.me.0 (omega arith) c.copy_words-words.result.items _
    (ended g.M.Resident.stands _ _ _ _ _ _ _ c.args.self.keyed c.copy_words-words.ensures c.close_with-closed.ensures.values.2) some_first)

pub returns-clause-started : goal.returns-clause-started
returns-clause-started g c t stamp h =
    let size : c.args.seat.me.0.threads ≡ c.args.self.shape.threads = (search rules) in
    let some = c.args.self.small.0 in
    subst (λ (l : Ledger). HasStart (course_in l t) stamp) (sym (sized_ledger c.args.self.shape c.copy_words-words.result.items c.args.self.stamps _ c.args.self.opens.2 c.of_short_words-ledger.ensures))
    (final_started g.M.Resident.stands c.args.self.shape c.args.seat.id c.args.seat.me.0 (omega arith) c.copy_words-words.result.items _
    (ended g.M.Resident.stands _ _ _ _ _ _ _ c.args.self.keyed c.copy_words-words.ensures c.close_with-closed.ensures.values.2) t stamp h)

pub returns-clause-ended : goal.returns-clause-ended
returns-clause-ended g c t g' h =
    let size : c.args.seat.me.0.threads ≡ c.args.self.shape.threads = (search rules) in
    let some = c.args.self.small.0 in
    subst (λ (l : Ledger). EndsAt (course_in l t) g') (sym (sized_ledger c.args.self.shape c.copy_words-words.result.items c.args.self.stamps _ c.args.self.opens.2 c.of_short_words-ledger.ensures))
    (final_ended g.M.Resident.stands c.args.self.shape c.args.seat.id c.args.seat.me.0 (omega arith) c.copy_words-words.result.items _
    (ended g.M.Resident.stands _ _ _ _ _ _ _ c.args.self.keyed c.copy_words-words.ensures c.close_with-closed.ensures.values.2) t g' h)

pub returns-clause-before : goal.returns-clause-before
returns-clause-before g c t stamp had =
    let size : c.args.seat.me.0.threads ≡ c.args.self.shape.threads = (search rules) in
    let some = c.args.self.small.0 in
    subst (λ (l : Ledger). HasStart (course_in l t) stamp) (sym (sized_ledger c.args.self.shape c.copy_words-words.result.items c.args.self.stamps _ c.args.self.opens.2 c.of_short_words-ledger.ensures))
    (final_before g.M.Resident.stands c.args.self.shape c.args.seat.id c.args.seat.me.0 (omega arith) c.copy_words-words.result.items _
    (ended g.M.Resident.stands _ _ _ _ _ _ _ c.args.self.keyed c.copy_words-words.ensures c.close_with-closed.ensures.values.2) t stamp had)

pub returns-clause-over : goal.returns-clause-over
returns-clause-over g c t had =
    let size : c.args.seat.me.0.threads ≡ c.args.self.shape.threads = (search rules) in
    let some = c.args.self.small.0 in
    subst (λ (l : Ledger). EndsAt (course_in l t) 0) (sym (sized_ledger c.args.self.shape c.copy_words-words.result.items c.args.self.stamps _ c.args.self.opens.2 c.of_short_words-ledger.ensures))
    (final_over g.M.Resident.stands c.args.self.shape c.args.seat.id c.args.seat.me.0 (omega arith) c.copy_words-words.result.items _
    (ended g.M.Resident.stands _ _ _ _ _ _ _ c.args.self.keyed c.copy_words-words.ensures c.close_with-closed.ensures.values.2) t had)

pub returns-clause-carried : goal.returns-clause-carried
returns-clause-carried g c n thread low =
    let size : c.args.seat.me.0.threads ≡ c.args.self.shape.threads = (search rules) in
    let some = c.args.self.small.0 in
    ap (λ (l : Ledger). carried_in l n) (sized_ledger c.args.self.shape c.copy_words-words.result.items c.args.self.stamps _ c.args.self.opens.2 c.of_short_words-ledger.ensures)
    ∙ final_carried g.M.Resident.stands c.args.self.shape c.args.seat.id c.args.seat.me.0 (omega arith) c.copy_words-words.result.items _
    (ended g.M.Resident.stands _ _ _ _ _ _ _ c.args.self.keyed c.copy_words-words.ensures c.close_with-closed.ensures.values.2) n thread low

pub returns-clause-outside : goal.returns-clause-outside
returns-clause-outside g c t above = ap (λ (l : Ledger). course_in l t) (sized_ledger c.args.self.shape c.copy_words-words.result.items c.args.self.stamps _ c.args.self.opens.2 c.of_short_words-ledger.ensures) ∙ (λ i. course_in_ledger (sized c.args.self.shape c.copy_words-words.result.items) i t) ∙ course_outside (sized c.args.self.shape c.copy_words-words.result.items) t above

pub returns-clause-machines : goal.returns-clause-machines
returns-clause-machines g c some_first t value h =
    let size : c.args.seat.me.0.threads ≡ c.args.self.shape.threads = (search rules) in
    let some = c.args.self.small.0 in
    let home = final_machine g.M.Resident.stands c.args.self.shape c.args.seat.id c.args.seat.me.0 (omega arith) c.copy_words-words.result.items _
    (ended g.M.Resident.stands _ _ _ _ _ _ _ c.args.self.keyed c.copy_words-words.ensures c.close_with-closed.ensures.values.2) some_first t value
    (subst (λ (ws : List ℕ). IsHomeOf c.args.self.shape ws (slots_items c.close_with-closed.result.slots) t value) c.as_slice.ensures.value (c.take_home-machines.ensures.home t value h)) in
    subst (λ (l : Ledger). HandedOut g.M.Resident.stands c.args.self.shape.first.value.items l t value) (sym (sized_ledger c.args.self.shape c.copy_words-words.result.items c.args.self.stamps _ c.args.self.opens.2 c.of_short_words-ledger.ensures)) home

pub take_home-machines-requires-clause-turns : goal.take_home-machines-requires-clause-turns
take_home-machines-requires-clause-turns g c =
    let size : c.args.seat.me.0.threads ≡ c.args.self.shape.threads = (search rules) in
    let some = c.args.self.small.0 in
    subst (λ (ws : List ℕ). AreInTurn c.args.self.shape ws) (sym c.as_slice.ensures.value) (final_turns g.M.Resident.stands c.args.self.shape c.args.seat.id c.args.seat.me.0 (omega arith) c.copy_words-words.result.items _
    (ended g.M.Resident.stands _ _ _ _ _ _ _ c.args.self.keyed c.copy_words-words.ensures c.close_with-closed.ensures.values.2))

pub returns-clause-waiting : goal.returns-clause-waiting
returns-clause-waiting g c some_first r n o offers waits =
    let size : c.args.seat.me.0.threads ≡ c.args.self.shape.threads = (search rules) in
    let some = c.args.self.small.0 in
    let same = sized_ledger c.args.self.shape c.copy_words-words.result.items c.args.self.stamps _ c.args.self.opens.2 c.of_short_words-ledger.ensures in
    let home = final_waiting g.M.Resident.stands c.args.self.shape c.args.seat.id c.args.seat.me.0 (omega arith) c.copy_words-words.result.items _
    (ended g.M.Resident.stands _ _ _ _ _ _ _ c.args.self.keyed c.copy_words-words.ensures c.close_with-closed.ensures.values.2) some_first r n o
    (subst (λ (l : Ledger). offer_in l r n ≡ Some o) same offers) (subst (λ (l : Ledger). joined_in l r ≡ None) same waits) in
    (home.0, c.take_home-machines.ensures.all r.thread home.0 (subst (λ (ws : List ℕ). IsHomeOf c.args.self.shape ws (slots_items c.close_with-closed.result.slots) r.thread home.0) (sym c.as_slice.ensures.value) home.1))

pub returns-clause-few : goal.returns-clause-few
returns-clause-few g c rests =
    let size : c.args.seat.me.0.threads ≡ c.args.self.shape.threads = (search rules) in
    let some = c.args.self.small.0 in
    final_few g.M.Resident.stands c.args.self.shape c.args.seat.id c.args.seat.me.0 (omega arith) c.copy_words-words.result.items _
    (ended g.M.Resident.stands _ _ _ _ _ _ _ c.args.self.keyed c.copy_words-words.ensures c.close_with-closed.ensures.values.2) rests

pub returns-clause-opened : goal.returns-clause-opened
returns-clause-opened g c all r n o offers =
    let size : c.args.seat.me.0.threads ≡ c.args.self.shape.threads = (search rules) in
    let some = c.args.self.small.0 in
    let same = sized_ledger c.args.self.shape c.copy_words-words.result.items c.args.self.stamps _ c.args.self.opens.2 c.of_short_words-ledger.ensures in
    let offered : offer_in (ledger_of (sized c.args.self.shape c.copy_words-words.result.items)) r n ≡ Some o = subst (λ (l : Ledger). offer_in l r n ≡ Some o) same offers in
    final_opened g.M.Resident.stands c.args.self.shape c.args.seat.id c.args.seat.me.0 (omega arith) c.copy_words-words.result.items _
    (ended g.M.Resident.stands _ _ _ _ _ _ _ c.args.self.keyed c.copy_words-words.ensures c.close_with-closed.ensures.values.2) all r
    (offers_open (sized c.args.self.shape c.copy_words-words.result.items) r n o (sym (λ i. offer_in_ledger (sized c.args.self.shape c.copy_words-words.result.items) i r n) ∙ offered))

pub returns-clause-handed : goal.returns-clause-handed
returns-clause-handed g c some_first all r steps made opens untook =
    let size : c.args.seat.me.0.threads ≡ c.args.self.shape.threads = (search rules) in
    let some = c.args.self.small.0 in
    let home = final_kept g.M.Resident.stands c.args.self.shape c.args.seat.id c.args.seat.me.0 (omega arith) c.copy_words-words.result.items _
    (ended g.M.Resident.stands _ _ _ _ _ _ _ c.args.self.keyed c.copy_words-words.ensures c.close_with-closed.ensures.values.2) some_first all r steps made opens untook in
    (home.0, c.take_home-machines.ensures.all r.thread home.0 (subst (λ (ws : List ℕ). IsHomeOf c.args.self.shape ws (slots_items c.close_with-closed.result.slots) r.thread home.0) (sym c.as_slice.ensures.value) home.1))
