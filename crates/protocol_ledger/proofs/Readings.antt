-- What a table reads as after a write to one of its words.
use Rattle.std.proofs.Common.{◌⊎◌, ◌≡◌, ◌≢◌, ℕ, ◌+◌, ◌*◌, ◌<◌, ◌≤◌, true, false, cond, ltb, length, get_or, sym, ap, ◌∙◌, inl, inr, ⊎_elim, refl, arith, Option, Some, None, is_some, subst}
use Rattle.std.specs.Prelude.{unwrap_or}
use Rattle.std.proofs.lemmas.Bool.{cases_eq, cases_Bool, le-ltb, lt-ltb, false≢true, true≢false}
use Rattle.std.proofs.lemmas.List.{length-set, get_or_read_under}
use Rattle.protocol_values.specs.declared.Row.{Row}
use Rattle.protocol_values.specs.declared.NackName.{NackName}
use Rattle.protocol_values.specs.declared.Binding.{Binding}
use Rattle.protocol_values.specs.declared.NackWord.{NackWord}
use Rattle.protocol_values.specs.declared.NackWord.TheVariants.{Unbound, Bound, Carried}
use Rattle.protocol_values.specs.declared.Course.{Course}
use Rattle.protocol_values.specs.declared.Course.TheVariants.{Unstarted}
use Rattle.protocol_values.specs.declared.Offer.{Offer}
use Rattle.protocol_values.specs.declared.Joined.{Joined}
use Rattle.protocol_values.specs.declared.Cell.{Cell}
use Rattle.protocol_values.specs.declared.Cell.TheVariants.{Fresh, Waiting, Claimed, Synched, Taken}
use Rattle.protocol_values.specs.Words.{cell_of, cell_word, count_of, course_of, IsCourseInRange, offer_of, nack_of, is_word_for, IsBindingInRange, IsCellInRange, IsJoinedInRange, IsNackWordInRange}
use Rattle.protocol_values.proofs.WordLemmas.{cell_of-cell_word, count-count_of, cell_is_word, cell_word-cell_of, nack_of-nack_word, nack_word-nack_of, course_of-course_word, course_word-course_of}
use Rattle.protocol_ledger.specs.Tables.{Table, course_at, course_place, marks_at, thread_len, place_of, is_row, is_nack, nack_at, nack_says, bound_by, carried_by, binding_at, carried_at, word_at, row_eq, cell_at, is_fresh, count_at, offer_at, joined_at}
use Rattle.protocol_values.specs.Values.{joined_of}
use Rattle.protocol_ledger.specs.Worlds.{with_word, with_cell, with_nack, with_course}
use Rattle.protocol_ledger.specs.Kept.{IsFormed}
use Rattle.protocol_ledger.proofs.RowLemmas.{row_cases, put, put_same, put_other}
use Rattle.protocol_ledger.proofs.Linking.{cases_Option, some_inj, fresh_not_joined}
use Rattle.protocol_ledger.proofs.Places.{place_inside, is_row_after, is_nack_after, word_same, word_other, nack_other, is_row_bound, is_nack_bound, word_bound, nack_bound, nack_bound_other, is_row_lived, is_nack_lived, word_lived, nack_lived, life_other, life_bound, life_lived, life_lived_other}

-- a row that the table has not reads as Fresh, with no offers
pub cell_outside : (t : Table) (r : Row) → is_row t r ≡ false → cell_at t r ≡ Fresh
unfolding cell_at
cell_outside t r h = ap (λ b. cond b (unwrap_or (cell_of (word_at t r 0)) Fresh) Fresh) h

pub cell_inside : (t : Table) (r : Row) → is_row t r ≡ true → cell_at t r ≡ unwrap_or (cell_of (word_at t r 0)) Fresh
unfolding cell_at
cell_inside t r h = ap (λ b. cond b (unwrap_or (cell_of (word_at t r 0)) Fresh) Fresh) h

-- a row that is not Fresh is one of the table's
pub row_of_open : (t : Table) (r : Row) → is_fresh (cell_at t r) ≡ false → is_row t r ≡ true
row_of_open t r h = ⊎_elim
    (λ (e : is_row t r ≡ true). e)
    (λ (e : is_row t r ≡ false). absurd (true≢false (sym (ap is_fresh (cell_outside t r e)) ∙ h)))
    (cases_Bool (is_row t r))

pub count_fresh : (t : Table) (r : Row) → is_fresh (cell_at t r) ≡ true → count_at t r ≡ 0
unfolding count_at
count_fresh t r h = ap (λ b. cond b 0 (unwrap_or (count_of (word_at t r 1)) 0)) h

pub count_open : (t : Table) (r : Row) → is_fresh (cell_at t r) ≡ false → count_at t r ≡ unwrap_or (count_of (word_at t r 1)) 0
unfolding count_at
count_open t r h = ap (λ b. cond b 0 (unwrap_or (count_of (word_at t r 1)) 0)) h

-- a row has 8 offers at most
default_few : (w : ℕ) → unwrap_or (count_of w) 0 ≤ 8
default_few w = ⊎_elim
    (λ (e : count_of w ≡ None). let z : unwrap_or (count_of w) 0 ≡ 0 = ap (λ (o : Option ℕ). unwrap_or o 0) e in omega arith)
    (λ (n : (n : ℕ) × (count_of w ≡ Some n)).
    let z : unwrap_or (count_of w) 0 ≡ n.0 = ap (λ (o : Option ℕ). unwrap_or o 0) n.1 in
    let few = (count-count_of w n.0 n.1).0 in
    omega arith)
    (cases_Option (count_of w))

pub few_offers : (t : Table) (r : Row) → count_at t r ≤ 8
few_offers t r = ⊎_elim
    (λ (e : is_fresh (cell_at t r) ≡ true). let z = count_fresh t r e in omega arith)
    (λ (e : is_fresh (cell_at t r) ≡ false). let z = count_open t r e in let d = default_few (word_at t r 1) in omega arith)
    (cases_Bool (is_fresh (cell_at t r)))

pub offer_none : (t : Table) (r : Row) (n : ℕ) → count_at t r ≤ n → offer_at t r n ≡ None
unfolding offer_at
offer_none t r n h = ap (λ b. cond b (offer_of (word_at t r (2 + 4 * n)) (word_at t r (3 + 4 * n)) (word_at t r (4 + 4 * n)) (word_at t r (5 + 4 * n))) None) (le-ltb n (count_at t r) h)

-- an offer that is there has a number below 8
pub offer_below : (t : Table) (r : Row) (n : ℕ) (o : Offer) → offer_at t r n ≡ Some o → n < 8
offer_below t r n o h = ⊎_elim
    (λ (e : n < count_at t r). let f = few_offers t r in omega arith)
    (λ (e : count_at t r ≤ n). let bad : None ≡ Some o = sym (offer_none t r n e) ∙ h in cc)
    (Rattle.std.proofs.lemmas.Bool.cases_lt n (count_at t r))

-- A WRITE of a word at a place other than 0 leaves every cell.
pub cell_after_word : (t : Table) (x r : Row) (p v : ℕ) → is_row t x ≡ true → 1 ≤ p → p < 34 → cell_at (with_word t x p v) r ≡ cell_at t r
cell_after_word t x r p v h k a = ⊎_elim
    (λ (e : is_row t r ≡ true).
    cell_inside (with_word t x p v) r (is_row_after t x r p v ∙ e)
    ∙ ap (λ w. unwrap_or (cell_of w) Fresh) (word_other t x r p 0 v h e a (omega arith) (inr (λ (z : 0 ≡ p). absurd (omega arith))))
    ∙ sym (cell_inside t r e))
    (λ (e : is_row t r ≡ false). cell_outside (with_word t x p v) r (is_row_after t x r p v ∙ e) ∙ sym (cell_outside t r e))
    (cases_Bool (is_row t r))

-- the offers of a row depend on whether it is Fresh, and on its words from place 1 on
offers_same : (t u : Table) (r : Row) (n : ℕ) → is_fresh (cell_at u r) ≡ is_fresh (cell_at t r) → (is_fresh (cell_at t r) ≡ false → (p : ℕ) → 1 ≤ p → p < 34 → word_at u r p ≡ word_at t r p) → offer_at u r n ≡ offer_at t r n
unfolding offer_at
offers_same t u r n f w = ⊎_elim
    (λ (e : is_fresh (cell_at t r) ≡ true).
    let a = count_fresh t r e in
    let b = count_fresh u r (f ∙ e) in
    offer_none u r n (omega arith) ∙ sym (offer_none t r n (omega arith)))
    (λ (e : is_fresh (cell_at t r) ≡ false). opened t u r n e (f ∙ e) (w e))
    (cases_Bool (is_fresh (cell_at t r)))
  where
    by_number : (t u : Table) (r : Row) (n : ℕ) → n < 8 → ((p : ℕ) → 1 ≤ p → p < 34 → word_at u r p ≡ word_at t r p) → count_at u r ≡ count_at t r → offer_at u r n ≡ offer_at t r n
    by_number t u r n b w c =
        λ i. cond (ltb n (c i))
        (offer_of (w (2 + 4 * n) (omega arith) (omega arith) i) (w (3 + 4 * n) (omega arith) (omega arith) i) (w (4 + 4 * n) (omega arith) (omega arith) i) (w (5 + 4 * n) (omega arith) (omega arith) i))
        None

    opened : (t u : Table) (r : Row) (n : ℕ) → is_fresh (cell_at t r) ≡ false → is_fresh (cell_at u r) ≡ false → ((p : ℕ) → 1 ≤ p → p < 34 → word_at u r p ≡ word_at t r p) → offer_at u r n ≡ offer_at t r n
    opened t u r n e f w =
        let c : count_at u r ≡ count_at t r = count_open u r f ∙ ap (λ v. unwrap_or (count_of v) 0) (w 1 (omega arith) (omega arith)) ∙ sym (count_open t r e) in
        let few = few_offers t r in
        ⊎_elim
        (λ (b : n < 8). by_number t u r n b w c)
        (λ (b : 8 ≤ n). offer_none u r n (omega arith) ∙ sym (offer_none t r n (omega arith)))
        (Rattle.std.proofs.lemmas.Bool.cases_lt n 8)

-- a draft of a Fresh row leaves the offers of all rows
pub offer_after_draft : (t : Table) (x r : Row) (n p v : ℕ) → is_row t x ≡ true → 1 ≤ p → p < 34 → is_fresh (cell_at t x) ≡ true → offer_at (with_word t x p v) r n ≡ offer_at t r n
offer_after_draft t x r n p v h k a f =
    offers_same t (with_word t x p v) r n (ap is_fresh (cell_after_word t x r p v h k a)) (λ e q b c.
    word_other t x r p q v h (row_of_open t r e) a c (⊎_elim
    (λ (d : r ≡ x). absurd (false≢true (sym e ∙ ap (λ (y : Row). is_fresh (cell_at t y)) d ∙ f)))
    (λ (d : row_eq r x ≡ false). inl d)
    (row_cases r x)))

-- A WRITE of a cell
pub cell_after_cell : (t : Table) (x : Row) (c : Cell) → length t.words ≡ t.threads * thread_len t.rows → is_row t x ≡ true → IsCellInRange c → cell_at (with_cell t x c) ≡ put (cell_at t) x c
unfolding with_cell
cell_after_cell t x c s h g = λ i r. at r i
  where
    at : (r : Row) → cell_at (with_cell t x c) r ≡ put (cell_at t) x c r
    at r = ⊎_elim
        (λ (e : r ≡ x).
        ap (cell_at (with_cell t x c)) e
        ∙ cell_inside (with_cell t x c) x (is_row_after t x x 0 (cell_word c) ∙ h)
        ∙ ap (λ w. unwrap_or (cell_of w) Fresh) (word_same t x 0 (cell_word c) s h (omega arith))
        ∙ ap (λ (o : Option Cell). unwrap_or o Fresh) (cell_of-cell_word c g)
        ∙ sym (ap (put (cell_at t) x c) e ∙ put_same (cell_at t) x c))
        (λ (e : row_eq r x ≡ false). other r e ∙ sym (put_other (cell_at t) x c r e))
        (row_cases r x)
      where
        other : (r : Row) → row_eq r x ≡ false → cell_at (with_cell t x c) r ≡ cell_at t r
        other r e = ⊎_elim
            (λ (k : is_row t r ≡ true).
            cell_inside (with_cell t x c) r (is_row_after t x r 0 (cell_word c) ∙ k)
            ∙ ap (λ w. unwrap_or (cell_of w) Fresh) (word_other t x r 0 0 (cell_word c) h k (omega arith) (omega arith) (inl e))
            ∙ sym (cell_inside t r k))
            (λ (k : is_row t r ≡ false). cell_outside (with_cell t x c) r (is_row_after t x r 0 (cell_word c) ∙ k) ∙ sym (cell_outside t r k))
            (cases_Bool (is_row t r))

-- the offers of a row stay, where it is Fresh after the write as it was before
pub offer_after_cell : (t : Table) (x r : Row) (n : ℕ) (c : Cell) → is_row t x ≡ true → is_fresh (cell_at (with_cell t x c) r) ≡ is_fresh (cell_at t r) → offer_at (with_cell t x c) r n ≡ offer_at t r n
unfolding with_cell
offer_after_cell t x r n c h f =
    offers_same t (with_cell t x c) r n f (λ e q b k. word_other t x r 0 q (cell_word c) h (row_of_open t r e) (omega arith) k (inr (λ (z : q ≡ 0). absurd (omega arith))))

pub row_after_cell : (t : Table) (x r : Row) (c : Cell) → is_row (with_cell t x c) r ≡ is_row t r
unfolding with_cell
row_after_cell t x r c = is_row_after t x r 0 (cell_word c)

-- WELL-FORMED WORDS stay so
pub formed_after_word : (t : Table) (x : Row) (p v : ℕ) → length t.words ≡ t.threads * thread_len t.rows → is_row t x ≡ true → p < 34 → is_word_for p v ≡ true → IsFormed t → IsFormed (with_word t x p v)
formed_after_word t x p v s h k w f = record {
  rows = λ r q i b. ⊎_elim
      (λ (e : r ≡ x). ⊎_elim
      (λ (d : q ≡ p). (λ z. is_word_for (d z) (word_at (with_word t x p v) (e z) (d z))) ∙ ap (is_word_for p) (word_same t x p v s h k) ∙ w)
      (λ (d : q ≡ p → ⊥). ap (is_word_for q) (word_other t x r p q v h (sym (is_row_after t x r p v) ∙ i) k b (inr d)) ∙ f.rows r q (sym (is_row_after t x r p v) ∙ i) b)
      (cases_eq q p))
      (λ (e : row_eq r x ≡ false). ap (is_word_for q) (word_other t x r p q v h (sym (is_row_after t x r p v) ∙ i) k b (inl e)) ∙ f.rows r q (sym (is_row_after t x r p v) ∙ i) b)
      (row_cases r x);
  nacks = λ n i. ap (λ u. is_some (nack_of u)) (nack_other t x n p v h (sym (is_nack_after t x n p v) ∙ i) k) ∙ f.nacks n (sym (is_nack_after t x n p v) ∙ i);
  lives = λ q i. ap (λ u. is_some (course_of u)) (life_other t x p q v h k) ∙ f.lives q i;
}

pub cell_is_formed : (c : Cell) → IsCellInRange c → is_word_for 0 (cell_word c) ≡ true
cell_is_formed c g = cell_is_word (cell_word c) ∙ ap (λ (o : Option Cell). is_some o) (cell_of-cell_word c g)

pub sized_after_word : (t : Table) (x : Row) (p v : ℕ) → length t.words ≡ t.threads * thread_len t.rows → length (with_word t x p v).words ≡ t.threads * thread_len t.rows
sized_after_word t x p v s = length-set t.words _ v ∙ s

-- an offer that is there is one of a row's count
pub offer_counted : (t : Table) (r : Row) (n : ℕ) → is_some (offer_at t r n) ≡ true → n < count_at t r
offer_counted t r n h = ⊎_elim
    (λ (e : n < count_at t r). e)
    (λ (e : count_at t r ≤ n). absurd (false≢true (sym (ap (λ (o : Option Offer). is_some o) (offer_none t r n e)) ∙ h)))
    (Rattle.std.proofs.lemmas.Bool.cases_lt n (count_at t r))

-- a row that has offers is opened, and one of the table's
pub open_of_count : (t : Table) (r : Row) (n : ℕ) → n < count_at t r → is_fresh (cell_at t r) ≡ false
open_of_count t r n h = ⊎_elim
    (λ (e : is_fresh (cell_at t r) ≡ true). let z = count_fresh t r e in absurd (omega arith))
    (λ (e : is_fresh (cell_at t r) ≡ false). e)
    (cases_Bool (is_fresh (cell_at t r)))

pub row_of_count : (t : Table) (r : Row) (n : ℕ) → n < count_at t r → is_row t r ≡ true
row_of_count t r n h = row_of_open t r (open_of_count t r n h)

-- an offer that is there lies in four words, one after another
pub offer_place : (t : Table) (r : Row) (n : ℕ) → is_some (offer_at t r n) ≡ true → (is_row t r ≡ true) × (n < 8)
offer_place t r n h =
    let b : n < count_at t r = offer_counted t r n h in
    let few : count_at t r ≤ 8 = few_offers t r in
    (row_of_count t r n b, omega arith)

pub offer_end : (t : Table) (r : Row) (n at : ℕ) → is_some (offer_at t r n) ≡ true → at ≡ place_of t.rows r (2 + 4 * n) → at + 3 < t.threads * thread_len t.rows
offer_end t r n at h e =
    let there = offer_place t r n h in
    let last : place_of t.rows r (5 + 4 * n) < t.threads * thread_len t.rows = place_inside t r (5 + 4 * n) there.0 (let b = there.1 in omega arith) in
    omega (arith, e)

pub offer_from : (t : Table) (r : Row) (n at a b c d : ℕ) → length t.words ≡ t.threads * thread_len t.rows → is_some (offer_at t r n) ≡ true → at ≡ place_of t.rows r (2 + 4 * n) → a ≡ get_or t.words at a → b ≡ get_or t.words (at + 1) b → c ≡ get_or t.words (at + 2) c → d ≡ get_or t.words (at + 3) d → offer_at t r n ≡ offer_of a b c d
unfolding offer_at word_at
offer_from t r n at a b c d s h e ea eb ec ed =
    let counted : n < count_at t r = offer_counted t r n h in
    let last : at + 3 < t.threads * thread_len t.rows = offer_end t r n at h e in
    let second : place_of t.rows r (3 + 4 * n) ≡ at + 1 = omega (arith, e) in
    let third : place_of t.rows r (4 + 4 * n) ≡ at + 2 = omega (arith, e) in
    let fourth : place_of t.rows r (5 + 4 * n) ≡ at + 3 = omega (arith, e) in
    let first_is : get_or t.words (place_of t.rows r (2 + 4 * n)) 0 ≡ a = ap (λ k. get_or t.words k 0) (sym e) ∙ sym (get_or_read_under t.words at _ a 0 ea (omega arith) (sym s)) in
    let second_is : get_or t.words (place_of t.rows r (3 + 4 * n)) 0 ≡ b = ap (λ k. get_or t.words k 0) second ∙ sym (get_or_read_under t.words (at + 1) _ b 0 eb (omega arith) (sym s)) in
    let third_is : get_or t.words (place_of t.rows r (4 + 4 * n)) 0 ≡ c = ap (λ k. get_or t.words k 0) third ∙ sym (get_or_read_under t.words (at + 2) _ c 0 ec (omega arith) (sym s)) in
    let fourth_is : get_or t.words (place_of t.rows r (5 + 4 * n)) 0 ≡ d = ap (λ k. get_or t.words k 0) fourth ∙ sym (get_or_read_under t.words (at + 3) _ d 0 ed last (sym s)) in
    λ i. cond (lt-ltb n (count_at t r) counted i) (offer_of (first_is i) (second_is i) (third_is i) (fourth_is i)) None

pub open_cell : (c : Cell) → c ≢ Fresh → is_fresh c ≡ false
open_cell Fresh h = absurd (h refl)
open_cell Waiting h = refl
open_cell Claimed h = refl
open_cell (Synched j) h = refl
open_cell (Taken j) h = refl

-- how a row is committed has room in its word
pub joined_ranged : (t : Table) (r : Row) (j : Joined) → joined_at t r ≡ Some j → IsJoinedInRange j
joined_ranged t r j h =
    let open_r = fresh_not_joined (cell_at t r) j h in
    let read = cell_inside t r (row_of_open t r open_r) in
    ⊎_elim
    (λ (e : cell_of (word_at t r 0) ≡ None). let bad : None ≡ Some j = sym (ap joined_of (read ∙ ap (λ (o : Option Cell). unwrap_or o Fresh) e)) ∙ h in cc)
    (λ (c : (c : Cell) × (cell_of (word_at t r 0) ≡ Some c)).
    in_cell c.0 (cell_word-cell_of (word_at t r 0) c.0 c.1).0 (sym (ap joined_of (read ∙ ap (λ (o : Option Cell). unwrap_or o Fresh) c.1)) ∙ h))
    (cases_Option (cell_of (word_at t r 0)))
  where
    in_cell : (c : Cell) → IsCellInRange c → joined_of c ≡ Some j → IsJoinedInRange j
    in_cell Fresh range e = let bad : None ≡ Some j = e in cc
    in_cell Waiting range e = let bad : None ≡ Some j = e in cc
    in_cell Claimed range e = let bad : None ≡ Some j = e in cc
    in_cell (Synched i) range e = subst IsJoinedInRange (some_inj i j e) range
    in_cell (Taken i) range e = subst IsJoinedInRange (some_inj i j e) range

-- NACKS

pub says_inside : (t : Table) (n : NackName) → is_nack t n ≡ true → nack_says t n ≡ unwrap_or (nack_of (nack_at t n)) Unbound
unfolding nack_says
says_inside t n h = ap (λ b. cond b (unwrap_or (nack_of (nack_at t n)) Unbound) Unbound) h

pub says_outside : (t : Table) (n : NackName) → is_nack t n ≡ false → nack_says t n ≡ Unbound
unfolding nack_says
says_outside t n h = ap (λ b. cond b (unwrap_or (nack_of (nack_at t n)) Unbound) Unbound) h

pub bound_is : (t : Table) (n : NackName) → binding_at t n ≡ bound_by (nack_says t n)
unfolding binding_at
bound_is t n = refl

pub carried_is : (t : Table) (n : NackName) → carried_at t n ≡ carried_by (nack_says t n)
unfolding carried_at
carried_is t n = refl

pub binding_outside : (t : Table) (n : NackName) → is_nack t n ≡ false → binding_at t n ≡ None
binding_outside t n h = bound_is t n ∙ ap bound_by (says_outside t n h)

-- a nack that is bound is one of the table's
pub nack_of_bound : (t : Table) (n : NackName) (b : Binding) → binding_at t n ≡ Some b → is_nack t n ≡ true
nack_of_bound t n b h = ⊎_elim
    (λ (e : is_nack t n ≡ true). e)
    (λ (e : is_nack t n ≡ false). let bad : None ≡ Some b = sym (binding_outside t n e) ∙ h in cc)
    (cases_Bool (is_nack t n))

-- what a nack's word says hangs on that word alone
same_nacks : (t u : Table) → ((n : NackName) → is_nack u n ≡ is_nack t n) → ((n : NackName) → is_nack t n ≡ true → nack_at u n ≡ nack_at t n) → nack_says u ≡ nack_says t
same_nacks t u names words = λ i n. at n i
  where
    at : (n : NackName) → nack_says u n ≡ nack_says t n
    at n = ⊎_elim
        (λ (e : is_nack t n ≡ true). says_inside u n (names n ∙ e) ∙ ap (λ w. unwrap_or (nack_of w) Unbound) (words n e) ∙ sym (says_inside t n e))
        (λ (e : is_nack t n ≡ false). says_outside u n (names n ∙ e) ∙ sym (says_outside t n e))
        (cases_Bool (is_nack t n))

same_bindings : (t u : Table) → nack_says u ≡ nack_says t → binding_at u ≡ binding_at t
unfolding binding_at
same_bindings t u e = λ i n. bound_by (e i n)

same_carried : (t u : Table) → nack_says u ≡ nack_says t → carried_at u ≡ carried_at t
unfolding carried_at
same_carried t u e = λ i n. carried_by (e i n)

-- a write to a row's word leaves every nack
says_after_word : (t : Table) (x : Row) (p v : ℕ) → is_row t x ≡ true → p < 34 → nack_says (with_word t x p v) ≡ nack_says t
says_after_word t x p v h a = same_nacks t (with_word t x p v) (λ n. is_nack_after t x n p v) (λ n e. nack_other t x n p v h e a)

pub binding_after_word : (t : Table) (x : Row) (p v : ℕ) → is_row t x ≡ true → p < 34 → binding_at (with_word t x p v) ≡ binding_at t
binding_after_word t x p v h a = same_bindings t (with_word t x p v) (says_after_word t x p v h a)

pub carried_after_word : (t : Table) (x : Row) (p v : ℕ) → is_row t x ≡ true → p < 34 → carried_at (with_word t x p v) ≡ carried_at t
carried_after_word t x p v h a = same_carried t (with_word t x p v) (says_after_word t x p v h a)

pub binding_after_cell : (t : Table) (x : Row) (c : Cell) → is_row t x ≡ true → binding_at (with_cell t x c) ≡ binding_at t
unfolding with_cell
binding_after_cell t x c h = binding_after_word t x 0 (cell_word c) h (omega arith)

pub carried_after_cell : (t : Table) (x : Row) (c : Cell) → is_row t x ≡ true → carried_at (with_cell t x c) ≡ carried_at t
unfolding with_cell
carried_after_cell t x c h = carried_after_word t x 0 (cell_word c) h (omega arith)

-- a bind leaves every row
pub cell_after_bind : (t : Table) (m : NackName) (b : Binding) (r : Row) → is_nack t m ≡ true → cell_at (with_nack t m b) r ≡ cell_at t r
cell_after_bind t m b r h = ⊎_elim
    (λ (e : is_row t r ≡ true).
    cell_inside (with_nack t m b) r (is_row_bound t m b r ∙ e)
    ∙ ap (λ w. unwrap_or (cell_of w) Fresh) (word_bound t m b r 0 h e (omega arith))
    ∙ sym (cell_inside t r e))
    (λ (e : is_row t r ≡ false). cell_outside (with_nack t m b) r (is_row_bound t m b r ∙ e) ∙ sym (cell_outside t r e))
    (cases_Bool (is_row t r))

pub offer_after_bind : (t : Table) (m : NackName) (b : Binding) (r : Row) (n : ℕ) → is_nack t m ≡ true → offer_at (with_nack t m b) r n ≡ offer_at t r n
offer_after_bind t m b r n h =
    offers_same t (with_nack t m b) r n (ap is_fresh (cell_after_bind t m b r h)) (λ e q a k. word_bound t m b r q h (row_of_open t r e) k)

says_bound : (t : Table) (m : NackName) (b : Binding) → length t.words ≡ t.threads * thread_len t.rows → is_nack t m ≡ true → IsBindingInRange b → nack_says (with_nack t m b) m ≡ Bound b
says_bound t m b s h g =
    says_inside (with_nack t m b) m (is_nack_bound t m b m ∙ h)
    ∙ ap (λ w. unwrap_or (nack_of w) Unbound) (nack_bound t m b s h)
    ∙ ap (λ (o : Option NackWord). unwrap_or o Unbound) (nack_of-nack_word (Bound b) g)

says_bound_other : (t : Table) (m n : NackName) (b : Binding) → is_nack t m ≡ true → ((n.thread ≡ m.thread) × (n.k ≡ m.k) → ⊥) → nack_says (with_nack t m b) n ≡ nack_says t n
says_bound_other t m n b h other = ⊎_elim
    (λ (e : is_nack t n ≡ true).
    says_inside (with_nack t m b) n (is_nack_bound t m b n ∙ e)
    ∙ ap (λ w. unwrap_or (nack_of w) Unbound) (nack_bound_other t m n b h e other)
    ∙ sym (says_inside t n e))
    (λ (e : is_nack t n ≡ false). says_outside (with_nack t m b) n (is_nack_bound t m b n ∙ e) ∙ sym (says_outside t n e))
    (cases_Bool (is_nack t n))

same_nack : (m n : NackName) → n.thread ≡ m.thread → n.k ≡ m.k → m ≡ n
same_nack m n d f = λ i. record { thread = sym d i; k = sym f i }

nack_cases : (m n : NackName) → (m ≡ n) ⊎ ((n.thread ≡ m.thread) × (n.k ≡ m.k) → ⊥)
nack_cases m n = ⊎_elim
    (λ (d : n.thread ≡ m.thread). ⊎_elim
    (λ (f : n.k ≡ m.k). inl (same_nack m n d f))
    (λ (f : n.k ≡ m.k → ⊥). inr (λ z. f z.1))
    (cases_eq n.k m.k))
    (λ (d : n.thread ≡ m.thread → ⊥). inr (λ z. d z.0))
    (cases_eq n.thread m.thread)

pub binding_bound : (t : Table) (m : NackName) (b : Binding) → length t.words ≡ t.threads * thread_len t.rows → is_nack t m ≡ true → IsBindingInRange b → binding_at (with_nack t m b) m ≡ Some b
binding_bound t m b s h g = bound_is (with_nack t m b) m ∙ ap bound_by (says_bound t m b s h g)

-- what is bound stays so, where the nack that is bound was not
pub binding_kept : (t : Table) (m : NackName) (b : Binding) → is_nack t m ≡ true → nack_says t m ≡ Unbound → (n : NackName) (c : Binding) → binding_at t n ≡ Some c → binding_at (with_nack t m b) n ≡ Some c
binding_kept t m b h free n c e = ⊎_elim
    (λ (same : m ≡ n). let bad : None ≡ Some c = sym (ap bound_by free) ∙ sym (bound_is t m) ∙ ap (binding_at t) same ∙ e in cc)
    (λ other. bound_is (with_nack t m b) n ∙ ap bound_by (says_bound_other t m n b h other) ∙ sym (bound_is t n) ∙ e)
    (nack_cases m n)

-- what is bound then was bound before, or is the nack that is bound
pub binding_was : (t : Table) (m : NackName) (b : Binding) → length t.words ≡ t.threads * thread_len t.rows → is_nack t m ≡ true → IsBindingInRange b → (n : NackName) (c : Binding) → binding_at (with_nack t m b) n ≡ Some c → (binding_at t n ≡ Some c) ⊎ ((m ≡ n) × (b ≡ c))
binding_was t m b s h g n c e = ⊎_elim
    (λ (same : m ≡ n). inr (same, some_inj b c (sym (binding_bound t m b s h g) ∙ ap (binding_at (with_nack t m b)) same ∙ e)))
    (λ other. inl (bound_is t n ∙ ap bound_by (sym (says_bound_other t m n b h other)) ∙ sym (bound_is (with_nack t m b) n) ∙ e))
    (nack_cases m n)

-- a bind leaves what was carried
pub carried_after_bind : (t : Table) (m : NackName) (b : Binding) → length t.words ≡ t.threads * thread_len t.rows → is_nack t m ≡ true → IsBindingInRange b → nack_says t m ≡ Unbound → carried_at (with_nack t m b) ≡ carried_at t
carried_after_bind t m b s h g free = λ i n. at n i
  where
    at : (n : NackName) → carried_at (with_nack t m b) n ≡ carried_at t n
    at n = ⊎_elim
        (λ (same : m ≡ n).
        ap (carried_at (with_nack t m b)) (sym same)
        ∙ carried_is (with_nack t m b) m
        ∙ ap carried_by (says_bound t m b s h g)
        ∙ sym (ap carried_by free)
        ∙ sym (carried_is t m)
        ∙ ap (carried_at t) same)
        (λ other. carried_is (with_nack t m b) n ∙ ap carried_by (says_bound_other t m n b h other) ∙ sym (carried_is t n))
        (nack_cases m n)

-- what the word of a nack says has room in it
pub says_ranged : (t : Table) (n : NackName) → IsNackWordInRange (nack_says t n)
says_ranged t n = ⊎_elim
    (λ (e : is_nack t n ≡ true). subst IsNackWordInRange (sym (says_inside t n e)) (by_word (nack_of (nack_at t n)) refl))
    (λ (e : is_nack t n ≡ false). subst IsNackWordInRange (sym (says_outside t n e)) tt)
    (cases_Bool (is_nack t n))
  where
    by_word : (o : Option NackWord) → nack_of (nack_at t n) ≡ o → IsNackWordInRange (unwrap_or o Unbound)
    by_word None e = tt
    by_word (Some w) e = (nack_word-nack_of (nack_at t n) w e).0

-- so where a nack is bound has
pub binding_ranged : (t : Table) (n : NackName) (b : Binding) → binding_at t n ≡ Some b → IsBindingInRange b
binding_ranged t n b h = by_word (nack_says t n) (says_ranged t n) (sym (bound_is t n) ∙ h)
  where
    by_word : (w : NackWord) → IsNackWordInRange w → bound_by w ≡ Some b → IsBindingInRange b
    by_word Unbound g e = let bad : None ≡ Some b = e in cc
    by_word (Bound c) g e = subst IsBindingInRange (some_inj c b e) g
    by_word (Carried stamp) g e = let bad : None ≡ Some b = e in cc

-- a nack that is bound is not carried
pub bound_uncarried : (t : Table) (n : NackName) (b : Binding) → binding_at t n ≡ Some b → carried_at t n ≡ None
bound_uncarried t n b h = carried_is t n ∙ by_word (nack_says t n) (sym (bound_is t n) ∙ h)
  where
    by_word : (w : NackWord) → bound_by w ≡ Some b → carried_by w ≡ None
    by_word Unbound e = refl
    by_word (Bound c) e = refl
    by_word (Carried stamp) e = let bad : None ≡ Some b = e in cc

lives_after_bind : (t : Table) (m : NackName) (b : Binding) → is_nack t m ≡ true → IsFormed t → (q : ℕ) → q < (with_nack t m b).threads → is_some (course_of (get_or (with_nack t m b).words (course_place (with_nack t m b).rows q) 0)) ≡ true
unfolding with_nack
lives_after_bind t m b h f q i = ap (λ u. is_some (course_of u)) (life_bound t m b q h) ∙ f.lives q i

pub formed_after_bind : (t : Table) (m : NackName) (b : Binding) → length t.words ≡ t.threads * thread_len t.rows → is_nack t m ≡ true → IsBindingInRange b → IsFormed t → IsFormed (with_nack t m b)
formed_after_bind t m b s h g f = record {
  rows = λ r q i k.
      let here = sym (is_row_bound t m b r) ∙ i in
      ap (is_word_for q) (word_bound t m b r q h here k) ∙ f.rows r q here k;
  nacks = λ n i.
      let here = sym (is_nack_bound t m b n) ∙ i in
      ⊎_elim
      (λ (e : n.thread ≡ m.thread). ⊎_elim
      (λ (d : n.k ≡ m.k).
      ap (λ w. is_some (nack_of w)) ((λ x. nack_at (with_nack t m b) (record { thread = e x; k = d x })) ∙ nack_bound t m b s h)
      ∙ ap (λ (o : Option NackWord). is_some o) (nack_of-nack_word (Bound b) g))
      (λ (d : n.k ≡ m.k → ⊥). ap (λ w. is_some (nack_of w)) (nack_bound_other t m n b h here (λ z. d z.1)) ∙ f.nacks n here)
      (cases_eq n.k m.k))
      (λ (e : n.thread ≡ m.thread → ⊥). ap (λ w. is_some (nack_of w)) (nack_bound_other t m n b h here (λ z. e z.0)) ∙ f.nacks n here)
      (cases_eq n.thread m.thread);
  lives = lives_after_bind t m b h f;
}

-- LIVES

pub course_inside : (t : Table) (p : ℕ) → p < t.threads → course_at t p ≡ unwrap_or (course_of (get_or t.words (course_place t.rows p) 0)) Unstarted
unfolding course_at
course_inside t p h = ap (λ b. cond b (unwrap_or (course_of (get_or t.words (course_place t.rows p) 0)) Unstarted) Unstarted) (lt-ltb p t.threads h)

pub course_outside : (t : Table) (p : ℕ) → t.threads ≤ p → course_at t p ≡ Unstarted
unfolding course_at
course_outside t p h = ap (λ b. cond b (unwrap_or (course_of (get_or t.words (course_place t.rows p) 0)) Unstarted) Unstarted) (le-ltb p t.threads h)

-- the course depends on the life word alone
pub same_courses : (t u : Table) → u.threads ≡ t.threads → ((q : ℕ) → q < t.threads → get_or u.words (course_place u.rows q) 0 ≡ get_or t.words (course_place t.rows q) 0) → course_at u ≡ course_at t
same_courses t u n w = λ i q. at q i
  where
    at : (q : ℕ) → course_at u q ≡ course_at t q
    at q = ⊎_elim
        (λ (h : q < t.threads). course_inside u q (omega (arith, n)) ∙ ap (λ v. unwrap_or (course_of v) Unstarted) (w q h) ∙ sym (course_inside t q h))
        (λ (h : t.threads ≤ q). course_outside u q (omega (arith, n)) ∙ sym (course_outside t q h))
        (Rattle.std.proofs.lemmas.Bool.cases_lt q t.threads)

-- a write to a row's word, and a bind, leave every life
pub course_after_word : (t : Table) (x : Row) (p v : ℕ) → is_row t x ≡ true → p < 34 → course_at (with_word t x p v) ≡ course_at t
course_after_word t x p v h a = same_courses t (with_word t x p v) refl (λ q i. life_other t x p q v h a)

pub course_after_bind : (t : Table) (m : NackName) (b : Binding) → is_nack t m ≡ true → course_at (with_nack t m b) ≡ course_at t
unfolding with_nack
course_after_bind t m b h = same_courses t (with_nack t m b) refl (λ q i. life_bound t m b q h)

pub course_after_cell : (t : Table) (x : Row) (c : Cell) → is_row t x ≡ true → course_at (with_cell t x c) ≡ course_at t
unfolding with_cell
course_after_cell t x c h = course_after_word t x 0 (cell_word c) h (omega arith)

pub marks_after_word : (t : Table) (x : Row) (p v : ℕ) → is_row t x ≡ true → p < 34 → marks_at (with_word t x p v) ≡ marks_at t
marks_after_word t x p v h a = λ i. record { bound = binding_after_word t x p v h a i; carried = carried_after_word t x p v h a i; course = course_after_word t x p v h a i; opening = t.opening }

pub marks_after_cell : (t : Table) (x : Row) (c : Cell) → is_row t x ≡ true → marks_at (with_cell t x c) ≡ marks_at t
unfolding with_cell
marks_after_cell t x c h = marks_after_word t x 0 (cell_word c) h (omega arith)

-- a life that is written leaves every row and every nack
pub cell_after_life : (t : Table) (p : ℕ) (c : Course) (r : Row) → cell_at (with_course t p c) r ≡ cell_at t r
cell_after_life t p c r = ⊎_elim
    (λ (e : is_row t r ≡ true).
    cell_inside (with_course t p c) r (is_row_lived t p c r ∙ e)
    ∙ ap (λ w. unwrap_or (cell_of w) Fresh) (word_lived t p c r 0 e (omega arith))
    ∙ sym (cell_inside t r e))
    (λ (e : is_row t r ≡ false). cell_outside (with_course t p c) r (is_row_lived t p c r ∙ e) ∙ sym (cell_outside t r e))
    (cases_Bool (is_row t r))

pub offer_after_life : (t : Table) (p : ℕ) (c : Course) (r : Row) (n : ℕ) → offer_at (with_course t p c) r n ≡ offer_at t r n
offer_after_life t p c r n =
    offers_same t (with_course t p c) r n (ap is_fresh (cell_after_life t p c r)) (λ e q a k. word_lived t p c r q (row_of_open t r e) k)

says_after_life : (t : Table) (p : ℕ) (c : Course) → nack_says (with_course t p c) ≡ nack_says t
says_after_life t p c = same_nacks t (with_course t p c) (λ n. is_nack_lived t p c n) (λ n e. nack_lived t p c n e)

pub binding_after_life : (t : Table) (p : ℕ) (c : Course) → binding_at (with_course t p c) ≡ binding_at t
binding_after_life t p c = same_bindings t (with_course t p c) (says_after_life t p c)

pub carried_after_life : (t : Table) (p : ℕ) (c : Course) → carried_at (with_course t p c) ≡ carried_at t
carried_after_life t p c = same_carried t (with_course t p c) (says_after_life t p c)

pub course_lived : (t : Table) (p : ℕ) (c : Course) → length t.words ≡ t.threads * thread_len t.rows → p < t.threads → IsCourseInRange c → course_at (with_course t p c) p ≡ c
unfolding with_course
course_lived t p c s h g =
    course_inside (with_course t p c) p h
    ∙ ap (λ w. unwrap_or (course_of w) Unstarted) (life_lived t p c s h)
    ∙ ap (λ (o : Option Course). unwrap_or o Unstarted) (course_of-course_word c g)

pub course_lived_other : (t : Table) (p q : ℕ) (c : Course) → (q ≡ p → ⊥) → course_at (with_course t p c) q ≡ course_at t q
unfolding with_course
course_lived_other t p q c n = ⊎_elim
    (λ (h : q < t.threads).
    course_inside (with_course t p c) q h
    ∙ ap (λ w. unwrap_or (course_of w) Unstarted) (life_lived_other t p q c n)
    ∙ sym (course_inside t q h))
    (λ (h : t.threads ≤ q). course_outside (with_course t p c) q h ∙ sym (course_outside t q h))
    (Rattle.std.proofs.lemmas.Bool.cases_lt q t.threads)

-- where a thread is has room in its word
pub course_ranged : (t : Table) (p : ℕ) → IsCourseInRange (course_at t p)
course_ranged t p = ⊎_elim
    (λ (h : p < t.threads). subst IsCourseInRange (sym (course_inside t p h)) (by_word (course_of (get_or t.words (course_place t.rows p) 0)) refl))
    (λ (h : t.threads ≤ p). subst IsCourseInRange (sym (course_outside t p h)) tt)
    (Rattle.std.proofs.lemmas.Bool.cases_lt p t.threads)
  where
    by_word : (o : Option Course) → course_of (get_or t.words (course_place t.rows p) 0) ≡ o → IsCourseInRange (unwrap_or o Unstarted)
    by_word None e = tt
    by_word (Some c) e = (course_word-course_of (get_or t.words (course_place t.rows p) 0) c e).0

lives_after_life : (t : Table) (p : ℕ) (c : Course) → length t.words ≡ t.threads * thread_len t.rows → p < t.threads → IsCourseInRange c → IsFormed t → (q : ℕ) → q < (with_course t p c).threads → is_some (course_of (get_or (with_course t p c).words (course_place (with_course t p c).rows q) 0)) ≡ true
unfolding with_course
lives_after_life t p c s h g f q i = ⊎_elim
    (λ (e : q ≡ p).
    ap (λ w. is_some (course_of (get_or (with_course t p c).words (course_place t.rows w) 0))) e
    ∙ ap (λ w. is_some (course_of w)) (life_lived t p c s h)
    ∙ ap (λ (o : Option Course). is_some o) (course_of-course_word c g))
    (λ (e : q ≡ p → ⊥). ap (λ w. is_some (course_of w)) (life_lived_other t p q c e) ∙ f.lives q i)
    (cases_eq q p)

pub formed_after_life : (t : Table) (p : ℕ) (c : Course) → length t.words ≡ t.threads * thread_len t.rows → p < t.threads → IsCourseInRange c → IsFormed t → IsFormed (with_course t p c)
formed_after_life t p c s h g f = record {
  rows = λ r q i k.
      let here = sym (is_row_lived t p c r) ∙ i in
      ap (is_word_for q) (word_lived t p c r q here k) ∙ f.rows r q here k;
  nacks = λ n i.
      let here = sym (is_nack_lived t p c n) ∙ i in
      ap (λ w. is_some (nack_of w)) (nack_lived t p c n here) ∙ f.nacks n here;
  lives = lives_after_life t p c s h g f;
}
