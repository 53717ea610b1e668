-- Flags that stand for a set of rows.
use Rattle.std.proofs.Common.{◌⊎◌, ◌≡◌, ℕ, ◌+◌, ◌*◌, ◌<◌, ◌≤◌, Bool, cond, ltb, true, false, List, [], ◌∷◌, ◌++◌, length, get_or, set, refl, sym, ap, ◌∙◌, subst, inl, inr, ⊎_elim, arith}
use Rattle.std.proofs.lemmas.Bool.{ltb-false}
use Rattle.std.proofs.lemmas.List.{get_or-set_same, get_or-set_other}
use Rattle.protocol_values.specs.declared.Joined.{Joined}
use Rattle.protocol_values.specs.declared.Row.{Row}
use Rattle.protocol_values.specs.Values.{next_row}
use Rattle.protocol_ledger.specs.Tables.{row_eq, number_of}
use Rattle.protocol_ledger.proofs.RowLemmas.{row_cases, row_eq-false, same_row}
use Rattle.protocol_ledger.proofs.Places.{same_block, same_rest, block_inside}
use Rattle.protocol_ledger.specs.Worlds.{first_row}
use Rattle.cell.specs.Attempts.{Started, Took}
use Rattle.cell.specs.Flags.{AreFlags, places_behind, places_of}
use Rattle.cell_table.specs.declared.view.Seen.{Seen}
use Rattle.cell_table.specs.Sight.{Has, see_held, see_next}
use Rattle.cell_table.specs.Views.{behind_last}
use Rattle.cell_table.proofs.Hearing.{has_either, has_left, has_right}

pub one_flag : (threads rows : ℕ) (flags : List Bool) (held : List Row) (x : Row) → length flags ≡ threads * rows → x.thread < threads → x.sync < rows → AreFlags threads rows flags held → AreFlags threads rows (set flags (number_of rows x) true) (x ∷ held)
one_flag threads rows flags held x sized a b f = record {
  inside = λ r h. inside_now r h;
  marked = λ r c d. ⊎_elim
      (λ (e : r ≡ x). ((λ _. inl (sym e)), λ _. ap (λ (y : Row). get_or (set flags (number_of rows x) true) (number_of rows y) false) e ∙ get_or-set_same flags (number_of rows x) true false here))
      (λ (n : row_eq r x ≡ false).
      let same : get_or (set flags (number_of rows x) true) (number_of rows r) false ≡ get_or flags (number_of rows r) false =
      get_or-set_other flags (number_of rows x) (number_of rows r) true false (λ e. row_eq-false r x n (same_row r x (same_block r.thread x.thread r.sync x.sync rows d b e) (same_rest r.thread x.thread r.sync x.sync rows d b e))) in
      ((λ e. inr ((f.marked r c d).0 (sym same ∙ e))), λ h. same ∙ (f.marked r c d).1 (other r n h)))
      (row_cases r x);
}
  where
    here : number_of rows x < length flags
    here = let i = block_inside x.thread threads x.sync rows a b in omega (arith, sized)

    inside_now : (r : Row) → Has (x ∷ held) r → (r.thread < threads) × (r.sync < rows)
    inside_now r (inl e) = subst (λ (y : Row). (y.thread < threads) × (y.sync < rows)) e (a, b)
    inside_now r (inr h) = f.inside r h

    other : (r : Row) → row_eq r x ≡ false → Has (x ∷ held) r → Has held r
    other r n (inl e) = absurd (row_eq-false r x n (sym e))
    other r n (inr h) = h

-- the same flags stand for another list of the same rows
flags_same : (threads rows : ℕ) (flags : List Bool) (xs ys : List Row) → ((r : Row) → Has xs r → Has ys r) → ((r : Row) → Has ys r → Has xs r) → AreFlags threads rows flags xs → AreFlags threads rows flags ys
flags_same threads rows flags xs ys to back f = record {
  inside = λ r h. f.inside r (back r h);
  marked = λ r a b. let m = f.marked r a b in ((λ e. to r (m.0 e)), (λ h. m.1 (back r h)));
}

-- THE PLACES OF A PASS: the rows that it holds, and those behind last ones
behind_has : (rows : ℕ) (ts : List ℕ) (r : Row) → Has (places_behind rows ts) r → (r.sync ≡ rows) × Has ts r.thread
behind_has rows [] r h = absurd h
behind_has rows (t ∷ ts) r (inl e) = (ap (λ (x : Row). x.sync) (sym e), inl (ap (λ (x : Row). x.thread) e))
behind_has rows (t ∷ ts) r (inr h) = let b = behind_has rows ts r h in (b.0, inr b.1)

has_behind : (rows : ℕ) (ts : List ℕ) (r : Row) → r.sync ≡ rows → Has ts r.thread → Has (places_behind rows ts) r
has_behind rows [] r e h = absurd h
has_behind rows (t ∷ ts) r e (inl same) = inl (same_row (behind_last rows t) r same (sym e))
has_behind rows (t ∷ ts) r e (inr h) = inr (has_behind rows ts r e h)

abbrev IsAmong : ℕ → Seen → Row → Type 0
IsAmong rows s r = Has s.held r ⊎ ((r.sync ≡ rows) × Has s.lasts r.thread)

pub places_has : (rows : ℕ) (s : Seen) (r : Row) → Has (places_of rows s) r → IsAmong rows s r
places_has rows s r h = ⊎_elim
    (λ (held : Has s.held r). inl held)
    (λ (behind : Has (places_behind rows s.lasts) r). inr (behind_has rows s.lasts r behind))
    (has_either s.held (places_behind rows s.lasts) r h)

pub has_places : (rows : ℕ) (s : Seen) (r : Row) → IsAmong rows s r → Has (places_of rows s) r
has_places rows s r (inl h) = has_left s.held (places_behind rows s.lasts) r h
has_places rows s r (inr h) = has_right s.held (places_behind rows s.lasts) r (has_behind rows s.lasts r h.0 h.1)

-- once a row is taken, the place behind it is one more
next_case : (b : Bool) (rows : ℕ) (r : Row) (s : Seen) (q : Row) → (b ≡ false → r.sync + 1 ≡ rows) → (next_row r ≡ q) ⊎ IsAmong rows s q → IsAmong rows (cond b (see_held (next_row r) s) (record s { lasts = r.thread ∷ s.lasts })) q
next_case true rows r s q last (inl e) = inl (inl e)
next_case true rows r s q last (inr (inl h)) = inl (inr h)
next_case true rows r s q last (inr (inr h)) = inr h
next_case false rows r s q last (inl e) = inr (ap (λ (x : Row). x.sync) (sym e) ∙ last refl, inl (ap (λ (x : Row). x.thread) e))
next_case false rows r s q last (inr (inl h)) = inl h
next_case false rows r s q last (inr (inr h)) = inr (h.0, inr h.1)

case_next : (b : Bool) (rows : ℕ) (r : Row) (s : Seen) (q : Row) → (b ≡ false → r.sync + 1 ≡ rows) → IsAmong rows (cond b (see_held (next_row r) s) (record s { lasts = r.thread ∷ s.lasts })) q → (next_row r ≡ q) ⊎ IsAmong rows s q
case_next true rows r s q last (inl (inl e)) = inl e
case_next true rows r s q last (inl (inr h)) = inr (inl h)
case_next true rows r s q last (inr h) = inr (inr h)
case_next false rows r s q last (inl h) = inr (inl h)
case_next false rows r s q last (inr (at, inl e)) = inl (same_row (next_row r) q e (last refl ∙ sym at))
case_next false rows r s q last (inr (at, inr h)) = inr (inr (at, h))

pub taken_flags : (threads rows : ℕ) (flags flags' : List Bool) (before after : Seen) (r : Row) (j : Joined) → r.sync < rows → Took rows before after r j
    → (AreFlags threads (rows + 1) flags (places_of rows before) → AreFlags threads (rows + 1) flags' (next_row r ∷ places_of rows before)) → AreFlags threads (rows + 1) flags (places_of rows before) → AreFlags threads (rows + 1) flags' (places_of rows after)
taken_flags threads rows flags flags' before after r j below took more old = flags_same threads (rows + 1) flags' (next_row r ∷ places_of rows before) (places_of rows after) to back (more old)
  where
    last : ltb (r.sync + 1) rows ≡ false → r.sync + 1 ≡ rows
    last e = let past : rows ≤ r.sync + 1 = ltb-false (r.sync + 1) rows e in omega (arith, past, below)

    so : (q : Row) → IsAmong rows (see_next rows r before) q → IsAmong rows after q
    so q = subst (λ (z : List Row × List ℕ). Has z.0 q ⊎ ((q.sync ≡ rows) × Has z.1 q.thread)) (λ i. (sym took.held i, sym took.lasts i))

    was : (q : Row) → IsAmong rows after q → IsAmong rows (see_next rows r before) q
    was q = subst (λ (z : List Row × List ℕ). Has z.0 q ⊎ ((q.sync ≡ rows) × Has z.1 q.thread)) (λ i. (took.held i, took.lasts i))

    to : (q : Row) → Has (next_row r ∷ places_of rows before) q → Has (places_of rows after) q
    to q (inl e) = has_places rows after q (so q (next_case (ltb (r.sync + 1) rows) rows r before q last (inl e)))
    to q (inr h) = has_places rows after q (so q (next_case (ltb (r.sync + 1) rows) rows r before q last (inr (places_has rows before q h))))

    back : (q : Row) → Has (places_of rows after) q → Has (next_row r ∷ places_of rows before) q
    back q h = ⊎_elim
        (λ (e : next_row r ≡ q). inl e)
        (λ (among : IsAmong rows before q). inr (has_places rows before q among))
        (case_next (ltb (r.sync + 1) rows) rows r before q last (was q (places_has rows after q h)))

-- once a thread was started, its first row is one more
pub started_flags : (threads all rows : ℕ) (flags : List Bool) (before after : Seen) (r : Row) (p : ℕ) → Started before after r p true → AreFlags threads all flags (first_row p ∷ places_of rows before) → AreFlags threads all flags (places_of rows after)
started_flags threads all rows flags before after r p started old =
    let learns = started.2 in
    subst (AreFlags threads all flags) (sym (ap (places_of rows) started.4 ∙ (λ i. first_row p ∷ (learns.held i ++ places_behind rows (learns.lasts i))))) old
