-- A sheet's words, by the table for which they stand.
use Rattle.std.proofs.Common.{◌≡◌, ℕ, cond, ◌+◌, ◌*◌, ◌<◌, ◌≤◌, ⊎_elim, false, true, true≢false, List, None, Option, drop, get_or, is_some, length, set, subst, sym, ap, take, unwrap_or, ◌∙◌, arith}
use Rattle.std.proofs.lemmas.Bool.{and_from, cases_Bool, cases_lt, lt-ltb}
use Rattle.std.proofs.lemmas.List.{get_or-drop, get_or-take, get_or_default}
use Rattle.protocol_values.specs.declared.Binding.{Binding}
use Rattle.protocol_values.specs.declared.Course.{Course}
use Rattle.protocol_values.specs.declared.NackName.{NackName}
use Rattle.protocol_values.specs.declared.NackWord.TheVariants.{Bound}
use Rattle.protocol_values.specs.declared.Row.{Row}
use Rattle.protocol_values.proofs.WordLemmas.{cell_of-zero}
use Rattle.protocol_values.specs.declared.Cell.{Cell}
use Rattle.protocol_values.specs.declared.Cell.TheVariants.{Fresh}
use Rattle.protocol_values.specs.Words.{cell_of, course_word, nack_word, offer_of}
use Rattle.protocol_ledger.specs.declared.layout.Layout.{Layout}
use Rattle.protocol_ledger.specs.declared.sheet.Sheet.{Sheet}
use Rattle.protocol_ledger.specs.Short.{Fits, HasWords, even, row_len, rows_of, short_course_place, short_nack_place, short_place, wide_table, widen, words_below}
use Rattle.protocol_ledger.specs.Sheets.{table_of}
use Rattle.protocol_ledger.specs.Tables.{Table, cell_at, count_at, course_place, is_fresh, is_nack, is_row, nack_at, nack_place, offer_at, word_at}
use Rattle.protocol_ledger.specs.Worlds.{with_course, with_nack, with_word}
use Rattle.protocol_ledger.proofs.Places.{nack_inside, row_from, row_inside}
use Rattle.protocol_ledger.proofs.Readings.{cell_outside, offer_counted, offer_place, open_of_count}
use Rattle.protocol_ledger.proofs.Short.{even_rows, length_wide, no_row, no_word, set_course, set_nack, set_word, short_course, short_course_inside, short_inside, short_nack, short_nack_inside, short_word}

-- A row that has no words is Fresh, so one that is opened has words
module _ (y : Layout) (threads rows : ℕ) (ws : List ℕ) (opening : ℕ) (fits : Fits y rows) (sized : length ws ≡ words_below y threads) where
  abbrev wide : Table
  wide = wide_table y (record { threads = threads; rows = rows; words = ws; opening = opening })

  pub missing_fresh : (r : Row) → (r.thread < threads → rows_of y r.thread ≤ r.sync) → cell_at (wide_table y (record { threads = threads; rows = rows; words = ws; opening = opening })) r ≡ Fresh
  unfolding cell_at word_at
  missing_fresh r lacks = ⊎_elim
      (λ (row : is_row wide r ≡ true).
      let its = row_inside wide r row in
      let word = no_row y rows fits threads ws sized r 0 its.0 its.1 (lacks its.0) (omega arith) in
      (λ i. cond (row i) (unwrap_or (cell_of (word i)) Fresh) Fresh) ∙ ap (λ (o : Option Cell). unwrap_or o Fresh) cell_of-zero)
      (λ (none : is_row wide r ≡ false). cell_outside wide r none)
      (cases_Bool (is_row wide r))

  pub open_has_words : (r : Row) → is_fresh (cell_at (wide_table y (record { threads = threads; rows = rows; words = ws; opening = opening })) r) ≡ false → HasWords y r
  open_has_words r open_r = ⊎_elim
      (λ (h : HasWords y r). h)
      (λ (past : rows_of y r.thread ≤ r.sync). absurd (true≢false (sym (ap is_fresh (missing_fresh r (λ its. past))) ∙ open_r)))
      (cases_lt r.sync (rows_of y r.thread))

module _ (s : Sheet) where
  abbrev words : List ℕ
  words = s.words.items

  -- what was read is what stands there
  read_there : (at x : ℕ) → at < length s.words.items → x ≡ get_or s.words.items at x → x ≡ get_or s.words.items at 0
  read_there at x inside read = read ∙ get_or_default s.words.items at x 0 inside

  sized : length s.words.items ≡ words_below s.layout s.threads
  sized = s.sized

  pub sheet_word : (r : Row) (p at x : ℕ) → is_row (table_of s) r ≡ true → HasWords s.layout r → p < row_len s.layout.offers → at ≡ short_place s.layout r p → x ≡ get_or s.words.items at x → x ≡ word_at (table_of s) r p
  unfolding word_at
  sheet_word r p at x row there low place read =
      let its = row_inside (table_of s) r row in
      let inside = short_inside s.layout s.threads r p its.0 there low in
      read_there at x (omega (arith, sized)) read
      ∙ ap (λ i. get_or s.words.items i 0) place
      ∙ sym (short_word s.layout s.rows s.fits s.threads s.words.items sized r p its.0 there low)

  pub sheet_past : (r : Row) (p : ℕ) → is_row (table_of s) r ≡ true → HasWords s.layout r → row_len s.layout.offers ≤ p → p < 34 → word_at (table_of s) r p ≡ 0
  unfolding word_at
  sheet_past r p row there high low = let its = row_inside (table_of s) r row in no_word s.layout s.rows s.fits s.threads s.words.items sized r p its.0 there high low

  -- of a row for which its thread has no words
  pub sheet_none : (r : Row) (p : ℕ) → is_row (table_of s) r ≡ true → rows_of s.layout r.thread ≤ r.sync → p < 34 → word_at (table_of s) r p ≡ 0
  unfolding word_at
  sheet_none r p row past low = let its = row_inside (table_of s) r row in no_row s.layout s.rows s.fits s.threads s.words.items sized r p its.0 its.1 past low

  pub sheet_nack : (n : NackName) (at x : ℕ) → is_nack (table_of s) n ≡ true → at ≡ short_nack_place s.layout n → x ≡ get_or s.words.items at x → x ≡ nack_at (table_of s) n
  unfolding nack_at
  sheet_nack n at x nack place read =
      let its = nack_inside (table_of s) n nack in
      let inside = short_nack_inside s.layout s.threads n its.0 its.1 in
      read_there at x (omega (arith, sized)) read
      ∙ ap (λ i. get_or s.words.items i 0) place
      ∙ sym (short_nack s.layout s.rows s.fits s.threads s.words.items sized n its.0 its.1)

  -- the words of a thread's nacks
  pub sheet_has_nack : (t k : ℕ) → t < s.threads → k < 64 → is_nack (table_of s) (record { thread = t; k = k }) ≡ true
  unfolding is_nack
  sheet_has_nack t k its low = and_from _ _ (lt-ltb t s.threads its) (lt-ltb k 64 low)

  pub sheet_nacks_inside : (t at : ℕ) → t < s.threads → at ≡ short_nack_place s.layout (record { thread = t; k = 0 }) → at + 64 ≤ length s.words.items
  sheet_nacks_inside t at its first =
      let last = short_nack_inside s.layout s.threads (record { thread = t; k = 63 }) its (omega arith) in
      omega (arith, first, last, sized)

  pub sheet_nack_word : (t at n k : ℕ) → t < s.threads → at ≡ short_nack_place s.layout (record { thread = t; k = 0 }) → k < n → k < 64 → get_or (take n (drop at s.words.items)) k 0 ≡ nack_at (table_of s) (record { thread = t; k = k })
  sheet_nack_word t at n k its first inside low =
      let word : ℕ = get_or s.words.items (at + k) 0 in
      let place : at + k ≡ short_nack_place s.layout (record { thread = t; k = k }) = omega (arith, first) in
      let within = short_nack_inside s.layout s.threads (record { thread = t; k = k }) its low in
      get_or-take n (drop at s.words.items) k 0 inside
      ∙ get_or-drop at s.words.items k 0
      ∙ sheet_nack (record { thread = t; k = k }) (at + k) word (sheet_has_nack t k its low) place (sym (get_or_default s.words.items (at + k) word 0 (omega (arith, sized, place))))

  pub sheet_course : (t at x : ℕ) → t < s.threads → at ≡ short_course_place s.layout t → x ≡ get_or s.words.items at x → x ≡ get_or (table_of s).words (course_place s.rows t) 0
  sheet_course t at x below place read =
      let inside = short_course_inside s.layout s.threads t below in
      read_there at x (omega (arith, sized)) read
      ∙ ap (λ i. get_or s.words.items i 0) place
      ∙ sym (short_course s.layout s.rows s.fits s.threads s.words.items sized t below)

  -- and what is written
  abbrev written : List ℕ → Table
  written ws = record { threads = s.threads; rows = s.rows; words = ws; opening = s.opening }

  pub sheet_set_word : (r : Row) (p at v : ℕ) → is_row (table_of s) r ≡ true → HasWords s.layout r → p < row_len s.layout.offers → at ≡ short_place s.layout r p → written (widen s.layout s.rows s.threads (set s.words.items at v)) ≡ with_word (table_of s) r p v
  sheet_set_word r p at v row there low place =
      let its = row_inside (table_of s) r row in
      ap written (ap (λ i. widen s.layout s.rows s.threads (set s.words.items i v)) place ∙ set_word s.layout s.rows s.fits s.threads s.words.items sized r p v its.0 there low)

  pub sheet_set_nack : (n : NackName) (at v : ℕ) (b : Binding) → is_nack (table_of s) n ≡ true → at ≡ short_nack_place s.layout n → v ≡ nack_word (Bound b) → written (widen s.layout s.rows s.threads (set s.words.items at v)) ≡ with_nack (table_of s) n b
  unfolding with_nack
  sheet_set_nack n at v b nack place word =
      let its = nack_inside (table_of s) n nack in
      ap written (ap (λ i. widen s.layout s.rows s.threads (set s.words.items i v)) place ∙ set_nack s.layout s.rows s.fits s.threads s.words.items sized n v its.0 its.1 ∙ ap (λ w. set (table_of s).words (nack_place s.rows n) w) word)

  pub sheet_set_course : (t at v : ℕ) (c : Course) → t < s.threads → at ≡ short_course_place s.layout t → v ≡ course_word c → written (widen s.layout s.rows s.threads (set s.words.items at v)) ≡ with_course (table_of s) t c
  unfolding with_course
  sheet_set_course t at v c below place word =
      ap written (ap (λ i. widen s.layout s.rows s.threads (set s.words.items i v)) place ∙ set_course s.layout s.rows s.fits s.threads s.words.items sized t v below ∙ ap (λ w. set (table_of s).words (course_place s.rows t) w) word)

  -- OFFERS that are known to be there
  pub sheet_size : length (table_of s).words ≡ s.threads * (s.rows * 34 + 65)
  sheet_size = length_wide s.layout s.rows s.fits s.threads s.words.items (let all : words_below s.layout s.threads ≤ length s.words.items = omega (arith, sized) in all)

  -- a row that has words is one of the table, and one that has none is Fresh
  pub sheet_row : (r : Row) → r.thread < s.threads → HasWords s.layout r → is_row (table_of s) r ≡ true
  sheet_row r its there = let few = s.fits.1 r.thread in row_from (table_of s) r its (omega arith)

  pub sheet_fresh : (r : Row) → (r.thread < s.threads → rows_of s.layout r.thread ≤ r.sync) → cell_at (table_of s) r ≡ Fresh
  sheet_fresh r lacks = missing_fresh s.layout s.threads s.rows s.words.items s.opening s.fits s.sized r lacks

  pub sheet_cell : (r : Row) (at x : ℕ) → r.thread < s.threads → HasWords s.layout r → at ≡ short_place s.layout r 0 → x ≡ get_or s.words.items at x → unwrap_or (cell_of x) Fresh ≡ cell_at (table_of s) r
  unfolding cell_at
  sheet_cell r at x its there place read =
      let row = sheet_row r its there in
      let word = sheet_word r 0 at x row there (omega arith) place read in
      λ i. cond (sym row i) (unwrap_or (cell_of (word i)) Fresh) Fresh

  -- so an opened row has words
  pub sheet_open : (r : Row) → is_fresh (cell_at (table_of s) r) ≡ false → HasWords s.layout r
  sheet_open r open_r = open_has_words s.layout s.threads s.rows s.words.items s.opening s.fits s.sized r open_r

  -- and one that has an offer is opened
  pub offer_there : (r : Row) (n : ℕ) → is_some (offer_at (table_of s) r n) ≡ true → HasWords s.layout r
  offer_there r n there = sheet_open r (open_of_count (table_of s) r n (offer_counted (table_of s) r n there))

  -- a short row's words that it has
  pub sheet_offer : (r : Row) (n at a b c d : ℕ) → is_some (offer_at (table_of s) r n) ≡ true → n < s.layout.offers → at ≡ short_place s.layout r (2 + 4 * n)
      → a ≡ get_or s.words.items at a → b ≡ get_or s.words.items (at + 1) b → c ≡ get_or s.words.items (at + 2) c → d ≡ get_or s.words.items (at + 3) d → offer_at (table_of s) r n ≡ offer_of a b c d
  unfolding offer_at
  sheet_offer r n at a b c d there low place ea eb ec ed =
      let row = (offer_place (table_of s) r n there).0 in
      let words = offer_there r n there in
      let counted = offer_counted (table_of s) r n there in
      let first = sheet_word r (2 + 4 * n) at a row words (omega arith) place ea in
      let second = sheet_word r (3 + 4 * n) (at + 1) b row words (omega arith) (omega arith) eb in
      let third = sheet_word r (4 + 4 * n) (at + 2) c row words (omega arith) (omega arith) ec in
      let fourth = sheet_word r (5 + 4 * n) (at + 3) d row words (omega arith) (omega arith) ed in
      λ i. cond (lt-ltb n (count_at (table_of s) r) counted i) (offer_of (sym first i) (sym second i) (sym third i) (sym fourth i)) None

  pub sheet_no_offer : (r : Row) (n : ℕ) → is_some (offer_at (table_of s) r n) ≡ true → s.layout.offers ≤ n → offer_at (table_of s) r n ≡ offer_of 0 0 0 0
  unfolding offer_at
  sheet_no_offer r n there high =
      let place = offer_place (table_of s) r n there in
      let words = offer_there r n there in
      let counted = offer_counted (table_of s) r n there in
      let few = place.1 in
      let first = sheet_past r (2 + 4 * n) place.0 words (omega arith) (omega arith) in
      let second = sheet_past r (3 + 4 * n) place.0 words (omega arith) (omega arith) in
      let third = sheet_past r (4 + 4 * n) place.0 words (omega arith) (omega arith) in
      let fourth = sheet_past r (5 + 4 * n) place.0 words (omega arith) (omega arith) in
      λ i. cond (lt-ltb n (count_at (table_of s) r) counted i) (offer_of (first i) (second i) (third i) (fourth i)) None

-- all rows of a table have words where it has them for all
pub row_there : (s : Sheet) → s.layout ≡ even 8 s.rows → (r : Row) → is_row (table_of s) r ≡ true → HasWords s.layout r
row_there s whole r row =
    let its = row_inside (table_of s) r row in
    let few = s.few_threads in
    let all = even_rows 8 s.rows r.thread (omega arith) in
    subst (λ (y : Layout). HasWords y r) (sym whole) (let below : r.sync < rows_of (even 8 s.rows) r.thread = omega arith in below)
