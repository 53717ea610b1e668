-- What one word says of a row, with nothing unpacked: that the row is committed, and that it has a partner.
use Rattle.std.proofs.Common.{◌≡◌, ℕ, ◌+◌, ◌*◌, ◌/◌, ◌%◌, ◌^◌, ◌<◌, ◌≤◌, true, false, ltb, ◌⊎◌, ⊎_elim, sym, refl, ap, ◌∙◌, arith, Option, Some, None, is_some}
use Rattle.std.specs.Prelude.{unwrap_or, option_and_then}
use Rattle.std.proofs.lemmas.Bool.{false≢true, true≢false, lt-ltb, le-ltb}
use Rattle.protocol_values.specs.declared.Row.{Row}
use Rattle.protocol_values.specs.declared.Cell.{Cell}
use Rattle.protocol_values.specs.declared.Cell.TheVariants.{Fresh, Waiting, Claimed, Synched, Taken}
use Rattle.protocol_values.specs.declared.Joined.{Joined}
use Rattle.protocol_values.specs.Values.{joined_of}
use Rattle.protocol_values.specs.Words.{field, partner_bits, joined_bits, cell_of, cell_word, IsCellInRange, IsJoinedInRange}
use Rattle.protocol_values.proofs.WordLemmas.{cell_of-cell_word, cell_of-zero, cell_word-cell_of}
use Rattle.protocol_ledger.specs.CellWords.{joined_by, partner_by}
use Rattle.protocol_ledger.specs.Tables.{Table, is_row, is_fresh, cell_at, joined_at, word_at}
use Rattle.protocol_ledger.proofs.Linking.{cases_Option}
use Rattle.protocol_ledger.proofs.Readings.{cell_inside}

-- A ROW WITH A PARTNER

-- the word's state is that of a committed row, it has a partner, and its stamp is none of 0 and no longer than a stamp
pub record IsPairWord (w : ℕ) : Type 0 where
  pub state : (w % 8 ≡ 3) ⊎ (w % 8 ≡ 4)
  pub paired : w / 2 ^ 6 % 2 ≡ 1
  pub stamp_low : 1 ≤ w / 2 ^ 26
  pub stamp_high : w / 2 ^ 26 < 2 ^ 32

-- such a word is that of what its fields say
abbrev way_of : ℕ → Joined
way_of w = record { own = field w 3 3; partner = Some (record { thread = field w 20 6; sync = field w 10 10 }, field w 7 3); stamp = field w 26 32 }

way_in_range : (w : ℕ) → IsPairWord w → IsJoinedInRange (way_of w)
way_in_range w h = record {
  own = omega arith;
  partner = (record { thread = omega arith; sync = omega arith }, omega arith);
  stamp_low = (let low = h.stamp_low in let high = h.stamp_high in omega arith);
  stamp_high = omega arith;
}

way_word : (w : ℕ) → IsPairWord w → w ≡ w % 8 + joined_bits (way_of w)
way_word w h = let p = h.paired in let s = h.stamp_high in omega arith

of_way : (w : ℕ) (j : Joined) → IsJoinedInRange j → ((w ≡ 3 + joined_bits j) ⊎ (w ≡ 4 + joined_bits j)) → joined_by w ≡ Some j
unfolding cell_word
of_way w j h e = ⊎_elim
    (λ (e : w ≡ 3 + joined_bits j). ap joined_by e ∙ ap (λ (o : Option Cell). joined_of (unwrap_or o Fresh)) (cell_of-cell_word (Synched j) h))
    (λ (e : w ≡ 4 + joined_bits j). ap joined_by e ∙ ap (λ (o : Option Cell). joined_of (unwrap_or o Fresh)) (cell_of-cell_word (Taken j) h))
    e

way_is : (w : ℕ) → IsPairWord w → joined_by w ≡ Some (way_of w)
way_is w h =
    let whole = way_word w h in
    of_way w (way_of w) (way_in_range w h) (⊎_elim
    (λ (e : w % 8 ≡ 3). ◌⊎◌.inl (omega (arith, whole, e)))
    (λ (e : w % 8 ≡ 4). ◌⊎◌.inr (omega (arith, whole, e)))
    h.state)

pub pair_word : (w : ℕ) → IsPairWord w → is_some (partner_by w) ≡ true
pair_word w h = ap (λ (o : Option Joined). is_some (option_and_then (λ (j : Joined). j.partner) o)) (way_is w h)

-- and no other word has a partner
bits_of : (state own stamp : ℕ) (p : Option (Row × ℕ)) → state < 8 → (state + (own * 2 ^ 3 + partner_bits p + stamp * 2 ^ 26)) % 8 ≡ state
bits_of state own stamp None b = omega arith
bits_of state own stamp (Some (row, n)) b = omega arith

of_pair : (w state own stamp : ℕ) (p : Option (Row × ℕ)) → ((state ≡ 3) ⊎ (state ≡ 4)) → IsJoinedInRange (record { own = own; partner = p; stamp = stamp }) → w ≡ state + (own * 2 ^ 3 + partner_bits p + stamp * 2 ^ 26) → is_some p ≡ true → IsPairWord w
of_pair w state own stamp None s h e there = absurd (false≢true there)
of_pair w state own stamp (Some (row, n)) s h e there =
    let few : state < 8 = ⊎_elim (λ (e : state ≡ 3). omega (arith, e)) (λ (e : state ≡ 4). omega (arith, e)) s in
    let thread = h.partner.0.thread in
    let sync = h.partner.0.sync in
    let offer = h.partner.1 in
    let own_few = h.own in
    let low = h.stamp_low in
    let high = h.stamp_high in
    let is : w % 8 ≡ state = omega arith in
    record {
      state = ⊎_elim (λ (e : state ≡ 3). ◌⊎◌.inl (is ∙ e)) (λ (e : state ≡ 4). ◌⊎◌.inr (is ∙ e)) s;
      paired = omega arith;
      stamp_low = omega arith;
      stamp_high = omega arith;
    }

pub pair_only : (w : ℕ) → is_some (partner_by w) ≡ true → IsPairWord w
unfolding cell_word
pair_only w h = ⊎_elim
    (λ (e : cell_of w ≡ None). absurd (false≢true (sym (by_cell e) ∙ h)))
    (λ (c : (c : Cell) × (cell_of w ≡ Some c)). let is = cell_word-cell_of w c.0 c.1 in in_cell c.0 is.0 is.1 (sym (by_cell c.1) ∙ h))
    (cases_Option (cell_of w))
  where
    by_cell : {o : Option Cell} → cell_of w ≡ o → is_some (partner_by w) ≡ is_some (option_and_then (λ (j : Joined). j.partner) (joined_of (unwrap_or o Fresh)))
    by_cell e = ap (λ (o : Option Cell). is_some (option_and_then (λ (j : Joined). j.partner) (joined_of (unwrap_or o Fresh)))) e

    in_cell : (c : Cell) → IsCellInRange c → w ≡ cell_word c → is_some (option_and_then (λ (j : Joined). j.partner) (joined_of c)) ≡ true → IsPairWord w
    in_cell Fresh range is k = absurd (false≢true k)
    in_cell Waiting range is k = absurd (false≢true k)
    in_cell Claimed range is k = absurd (false≢true k)
    in_cell (Synched j) range is k = of_pair w 3 j.own j.stamp j.partner (◌⊎◌.inl refl) range is k
    in_cell (Taken j) range is k = of_pair w 4 j.own j.stamp j.partner (◌⊎◌.inr refl) range is k

-- so such a word says all of how its row is committed
pub pair_way : (w own offer thread sync stamp : ℕ) → is_some (partner_by w) ≡ true → own ≡ field w 3 3 → offer ≡ field w 7 3 → thread ≡ field w 20 6 → sync ≡ field w 10 10 → stamp ≡ field w 26 32 → joined_by w ≡ Some (record { own = own; partner = Some (record { thread = thread; sync = sync }, offer); stamp = stamp })
pair_way w own offer thread sync stamp h e₁ e₂ e₃ e₄ e₅ =
    way_is w (pair_only w h)
    ∙ (λ i. Some (record { own = sym e₁ i; partner = Some (record { thread = sym e₃ i; sync = sym e₄ i }, sym e₂ i); stamp = sym e₅ i }))

-- how a row is committed is what its word says
pub joined_word : (t : Table) (r : Row) (w : ℕ) → is_row t r ≡ true → w ≡ word_at t r 0 → joined_at t r ≡ joined_by w
joined_word t r w row is = ap joined_of (cell_inside t r row) ∙ ap joined_by (sym is)

-- a row of a word that is 0 is Fresh
pub zero_fresh : (t : Table) (r : Row) → is_row t r ≡ true → word_at t r 0 ≡ 0 → is_fresh (cell_at t r) ≡ true
zero_fresh t r row is = ap is_fresh (cell_inside t r row ∙ ap (λ (w : ℕ). unwrap_or (cell_of w) Fresh) is ∙ ap (λ (o : Option Cell). unwrap_or o Fresh) cell_of-zero)

-- A ROW THAT IS OPENED is committed where its state is above 2
pub committed_word : (t : Table) (r : Row) → is_row t r ≡ true → is_fresh (cell_at t r) ≡ false → is_some (joined_at t r) ≡ ltb 2 (word_at t r 0 % 8)
unfolding cell_word
committed_word t r row opened = ⊎_elim
    (λ (e : cell_of (word_at t r 0) ≡ None). absurd (true≢false (sym (ap is_fresh (cell_inside t r row ∙ ap (λ (o : Option Cell). unwrap_or o Fresh) e)) ∙ opened)))
    (λ (c : (c : Cell) × (cell_of (word_at t r 0) ≡ Some c)).
    let read : cell_at t r ≡ c.0 = cell_inside t r row ∙ ap (λ (o : Option Cell). unwrap_or o Fresh) c.1 in
    ap (λ (c : Cell). is_some (joined_of c)) read ∙ in_cell c.0 (word_at t r 0) (cell_word-cell_of (word_at t r 0) c.0 c.1).1 (sym (ap is_fresh read) ∙ opened))
    (cases_Option (cell_of (word_at t r 0)))
  where
    in_cell : (c : Cell) (w : ℕ) → w ≡ cell_word c → is_fresh c ≡ false → is_some (joined_of c) ≡ ltb 2 (w % 8)
    in_cell Fresh w is k = absurd (true≢false k)
    in_cell Waiting w is k = sym (le-ltb 2 (w % 8) (omega (arith, is)))
    in_cell Claimed w is k = sym (le-ltb 2 (w % 8) (omega (arith, is)))
    in_cell (Synched j) w is k = let bits = bits_of 3 j.own j.stamp j.partner (omega arith) in sym (lt-ltb 2 (w % 8) (omega (arith, ap (λ n. n % 8) is, bits)))
    in_cell (Taken j) w is k = let bits = bits_of 4 j.own j.stamp j.partner (omega arith) in sym (lt-ltb 2 (w % 8) (omega (arith, ap (λ n. n % 8) is, bits)))
