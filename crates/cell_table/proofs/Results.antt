-- A committed row gets one message, and goes on getting it.
use Rattle.std.proofs.Common.{◌≡◌, ℕ, ◌≤◌, ◌+◌, ◌*◌, List, sym, ap, ◌∙◌, subst, inl, inr, Some}
use Rattle.protocol_values.specs.Words.{message_in}
use Rattle.protocol_values.specs.declared.Base.{Base}
use Rattle.protocol_values.specs.declared.Base.TheVariants.{Send, Recv, Always, OnNack, OnEnd, Never}
use Rattle.protocol_values.specs.declared.Message.{Message}
use Rattle.protocol_values.specs.declared.Offer.{Offer}
use Rattle.protocol_values.specs.declared.Row.{Row}
use Rattle.protocol_values.specs.declared.Joined.{Joined}
use Rattle.protocol_ledger.proofs.Linking.{some_inj}
use Rattle.cell_table.specs.declared.view.Seen.{Seen}
use Rattle.cell_table.specs.Sight.{Has, HaveOffer, SeesOffer, Gets, IsResult, Learns, Coherent, atoms_behind}
use Rattle.cell_table.proofs.Offers.{offer_parts, same_read, sees_more}

same_in : (xs ys : List (Row × ℕ × ℕ)) (r : Row) (n : ℕ) (o q : Offer) → ((p x y : ℕ) → Has xs (r, p, x) → Has ys (r, p, y) → x ≡ y) → HaveOffer xs r n o → HaveOffer ys r n q → o ≡ q
same_in xs ys r n o q agree h i =
    let head : h.head ≡ i.head = agree (2 + 4 * n) h.head i.head h.has_head i.has_head in
    let there : (k : ℕ) → k ≤ atoms_behind h.head → k ≤ atoms_behind i.head = λ k m. subst (λ (w : ℕ). k ≤ atoms_behind w) head m in
    let formed = offer_parts i.head i.first i.second i.third q i.is in
    some_inj o q
    (sym (same_read h.head h.first h.second h.third i.head i.first i.second i.third o h.is head
    (λ m. agree (3 + 4 * n) h.first i.first (h.has_first m) (i.has_first (there 1 m)))
    (λ m. agree (4 + 4 * n) h.second i.second (h.has_second m) (i.has_second (there 2 m)))
    (λ m. agree (5 + 4 * n) h.third i.third (h.has_third m) (i.has_third (there 3 m)))
    (formed.1, formed.2, formed.3)) ∙ i.is)

pub sees_one : (threads rows : ℕ) (s : Seen) (r : Row) (n : ℕ) (o q : Offer) → Coherent threads rows s → SeesOffer s r n o → SeesOffer s r n q → o ≡ q
sees_one threads rows s r n o q agree (inl h) (inl i) = same_in s.words s.words r n o q (agree.one_word r) h i
sees_one threads rows s r n o q agree (inl h) (inr i) = same_in s.words s.drafts r n o q (λ p x y f g. sym (agree.as_drafted r p y x g f)) h i.1
sees_one threads rows s r n o q agree (inr h) (inl i) = same_in s.drafts s.words r n o q (agree.as_drafted r) h.1 i
sees_one threads rows s r n o q agree (inr h) (inr i) = same_in s.drafts s.drafts r n o q (agree.one_draft r) h.1 i.1

one_message : (c d : ℕ) (x y : Message) → Send c x ≡ Send d y → x ≡ y
one_message c d x y e = ap message_in e

gets_one : (threads rows : ℕ) (s : Seen) (j : Joined) (b : Base) (x y : Message) → Coherent threads rows s → Gets s j b x → Gets s j b y → x ≡ y
gets_one threads rows s j (Send c m) x y agree g h = g ∙ sym h
gets_one threads rows s j (Recv c) x y agree (p, d, o, e, sees, is) (p', d', o', e', sees', is') =
    let same : p ≡ p' = some_inj p p' (sym e ∙ e') in
    let one : o ≡ o' = sees_one threads rows s p'.0 p'.1 o o' agree (subst (λ (z : Row × ℕ). SeesOffer s z.0 z.1 o) same sees) sees' in
    one_message d d' x y (sym is ∙ ap (λ (z : Offer). z.base) one ∙ is')
gets_one threads rows s j (Always m) x y agree g h = g ∙ sym h
gets_one threads rows s j (OnNack n) x y agree g h = g ∙ sym h
gets_one threads rows s j (OnEnd p) x y agree g h = g ∙ sym h
gets_one threads rows s j Never x y agree g h = g ∙ sym h

pub one_result : (threads rows : ℕ) (s : Seen) (r : Row) (x y : Message) → Coherent threads rows s → IsResult s r x → IsResult s r y → x ≡ y
one_result threads rows s r x y agree (j, o, has, sees, gets) (k, q, has', sees', gets') =
    let same : j ≡ k = agree.one_joined r j k has has' in
    let one : o ≡ q = sees_one threads rows s r k.own o q agree (subst (λ (z : Joined). SeesOffer s r z.own o) same sees) sees' in
    gets_one threads rows s k q.base x y agree (subst (λ (z : Joined × Offer). Gets s z.0 z.1.base x) (λ i. (same i, one i)) gets) gets'

gets_more : (About : Row → Type 0) (s t : Seen) (j : Joined) (b : Base) (x : Message) → Learns About s t → Gets s j b x → Gets t j b x
gets_more About s t j (Send c m) x l g = g
gets_more About s t j (Recv c) x l (p, d, o, e, sees, is) = (p, d, o, e, sees_more About s t p.0 p.1 o l sees, is)
gets_more About s t j (Always m) x l g = g
gets_more About s t j (OnNack n) x l g = g
gets_more About s t j (OnEnd p) x l g = g
gets_more About s t j Never x l g = g

pub result_more : (About : Row → Type 0) (s t : Seen) (r : Row) (x : Message) → Learns About s t → IsResult s r x → IsResult t r x
result_more About s t r x l (j, o, has, sees, gets) = (j, o, l.joined.0 (r, j) has, sees_more About s t r j.own o l sees, gets_more About s t j o.base x l gets)

-- a receive gets what its partner sent
pub gets_received : (s : Seen) (j : Joined) (b : Base) (chan : ℕ) (got : Message) (p : Row × ℕ) (d : ℕ) (o : Offer) → b ≡ Recv chan → j.partner ≡ Some p → SeesOffer s p.0 p.1 o → o.base ≡ Send d got → Gets s j b got
gets_received s j b chan got p d o e partner sees is = subst (λ (z : Base). Gets s j z got) (sym e) (p, d, o, partner, sees, is)
