-- The words of short rows and threads, widened: each word stands at its place, and the others are 0.
use Rattle.std.proofs.Common.{◌≡◌, ℕ, zero, suc, ◌+◌, ◌-◌, ◌*◌, ◌<◌, ◌≤◌, ◌⊎◌, ⊎_elim, List, ◌++◌, drop, get_or, length, replicate, set, take, refl, sym, ap, subst, ◌∙◌, arith}
use Rattle.std.proofs.Math.Nat.{mul-le-mul_right}
use Rattle.std.proofs.Math.Seq.{take-set-lt}
use Rattle.std.proofs.lemmas.Bool.{cases_order}
use Rattle.std.proofs.lemmas.List.{drop-replicate, drop-set-add, drop-set-lt, drop-take, get_or-append_right, get_or-drop, get_or-replicate, get_or-take, get_or_append_left, get_or_past, length-append, length-drop, length-replicate, length-take, replicate-append-replicate, set-append_left, set-append_right, take-append-drop, take-replicate, take-set-le, take-take, take_all}
use Rattle.protocol_values.specs.declared.NackName.{NackName}
use Rattle.protocol_values.specs.declared.Row.{Row}
use Rattle.protocol_ledger.specs.declared.layout.Layout.{Layout}
use Rattle.protocol_ledger.specs.Short.{Fits, HasWords, even, row_len, rows_of, short_course_place, short_nack_place, short_place, thread_words, wide_rows, wide_thread, widen, words_below}
use Rattle.protocol_ledger.specs.Tables.{course_place, nack_place, place_of, thread_len}
use Rattle.protocol_ledger.proofs.Places.{block_inside}

-- TWO PIECES, the first of this length

read_front : (xs ys : List ℕ) (n i : ℕ) → length xs ≡ n → i < n → get_or (xs ++ ys) i 0 ≡ get_or xs i 0
read_front xs ys n i e h = get_or_append_left xs ys 0 i (omega arith)

read_back : (xs ys : List ℕ) (n i : ℕ) → length xs ≡ n → get_or (xs ++ ys) (n + i) 0 ≡ get_or ys i 0
read_back xs ys n i e = get_or-append_right xs ys n (n + i) 0 e (omega arith) ∙ ap (λ j. get_or ys j 0) (let back : n + i - n ≡ i = omega arith in back)

write_front : (xs ys : List ℕ) (n i v : ℕ) → length xs ≡ n → i < n → set (xs ++ ys) i v ≡ set xs i v ++ ys
write_front xs ys n i v e h = set-append_left xs ys i v (omega arith)

write_back : (xs ys : List ℕ) (n i v : ℕ) → length xs ≡ n → set (xs ++ ys) (n + i) v ≡ xs ++ set ys i v
write_back xs ys n i v e = set-append_right xs ys n (n + i) v e (omega arith) ∙ ap (λ j. xs ++ set ys j v) (let back : n + i - n ≡ i = omega arith in back)

taken_len : (k : ℕ) (ws : List ℕ) → k ≤ length ws → length (take k ws) ≡ k
taken_len k ws h = let n = length-take k ws in omega arith

left_len : (k n : ℕ) (ws : List ℕ) → k + n ≤ length ws → n ≤ length (drop k ws)
left_len k n ws h = let l = length-drop k ws in omega arith

left_is : (k n : ℕ) (ws : List ℕ) → length ws ≡ k + n → length (drop k ws) ≡ n
left_is k n ws h = let l = length-drop k ws in omega arith

module _ (len : ℕ) (short : len ≤ 34) where
  -- ROWS

  length_rows : (rows : ℕ) (ws : List ℕ) → rows * len ≤ length ws → length (wide_rows len rows ws) ≡ rows * 34
  length_rows zero ws h = omega arith
  length_rows (suc rows) ws h =
      let front = taken_len len ws (omega arith) in
      let rest = length_rows rows (drop len ws) (left_len len (rows * len) ws (omega arith)) in
      let blank : List ℕ = replicate (34 - len) 0 in
      let zeros : length blank ≡ 34 - len = length-replicate (34 - len) 0 in
      let inner : length (blank ++ wide_rows len rows (drop len ws)) ≡ length blank + length (wide_rows len rows (drop len ws)) = length-append blank (wide_rows len rows (drop len ws)) in
      let outer : length (wide_rows len (suc rows) ws) ≡ length (take len ws) + length (blank ++ wide_rows len rows (drop len ws)) = length-append (take len ws) (blank ++ wide_rows len rows (drop len ws)) in
      omega arith

  read_row : (rows g p : ℕ) (ws : List ℕ) → rows * len ≤ length ws → g < rows → p < len → get_or (wide_rows len rows ws) (g * 34 + p) 0 ≡ get_or ws (g * len + p) 0
  read_row zero g p ws fits below low = absurd (omega arith)
  read_row (suc rows) zero p ws fits below low =
      let at : 0 * 34 + p ≡ p = omega arith in
      let from : p ≡ 0 * len + p = omega arith in
      ap (λ i. get_or (wide_rows len (suc rows) ws) i 0) at
      ∙ read_front (take len ws) (replicate (34 - len) 0 ++ wide_rows len rows (drop len ws)) len p (taken_len len ws (omega arith)) low
      ∙ get_or-take len ws p 0 low
      ∙ ap (λ i. get_or ws i 0) from
  read_row (suc rows) (suc g) p ws fits below low =
      let at : suc g * 34 + p ≡ len + ((34 - len) + (g * 34 + p)) = omega arith in
      let from : len + (g * len + p) ≡ suc g * len + p = omega arith in
      ap (λ i. get_or (wide_rows len (suc rows) ws) i 0) at
      ∙ read_back (take len ws) (replicate (34 - len) 0 ++ wide_rows len rows (drop len ws)) len ((34 - len) + (g * 34 + p)) (taken_len len ws (omega arith))
      ∙ read_back (replicate (34 - len) 0) (wide_rows len rows (drop len ws)) (34 - len) (g * 34 + p) (length-replicate (34 - len) 0)
      ∙ read_row rows g p (drop len ws) (left_len len (rows * len) ws (omega arith)) (omega arith) low
      ∙ get_or-drop len ws (g * len + p) 0
      ∙ ap (λ i. get_or ws i 0) from

  read_past : (rows g p : ℕ) (ws : List ℕ) → rows * len ≤ length ws → g < rows → len ≤ p → p < 34 → get_or (wide_rows len rows ws) (g * 34 + p) 0 ≡ 0
  read_past zero g p ws fits below high low = absurd (omega arith)
  read_past (suc rows) zero p ws fits below high low =
      let at : 0 * 34 + p ≡ len + (p - len) = omega arith in
      ap (λ i. get_or (wide_rows len (suc rows) ws) i 0) at
      ∙ read_back (take len ws) (replicate (34 - len) 0 ++ wide_rows len rows (drop len ws)) len (p - len) (taken_len len ws (omega arith))
      ∙ read_front (replicate (34 - len) 0) (wide_rows len rows (drop len ws)) (34 - len) (p - len) (length-replicate (34 - len) 0) (omega arith)
      ∙ get_or-replicate (34 - len) (p - len) 0 0 (omega arith)
  read_past (suc rows) (suc g) p ws fits below high low =
      let at : suc g * 34 + p ≡ len + ((34 - len) + (g * 34 + p)) = omega arith in
      ap (λ i. get_or (wide_rows len (suc rows) ws) i 0) at
      ∙ read_back (take len ws) (replicate (34 - len) 0 ++ wide_rows len rows (drop len ws)) len ((34 - len) + (g * 34 + p)) (taken_len len ws (omega arith))
      ∙ read_back (replicate (34 - len) 0) (wide_rows len rows (drop len ws)) (34 - len) (g * 34 + p) (length-replicate (34 - len) 0)
      ∙ read_past rows g p (drop len ws) (left_len len (rows * len) ws (omega arith)) (omega arith) high low

  write_row : (rows g p v : ℕ) (ws : List ℕ) → rows * len ≤ length ws → g < rows → p < len → wide_rows len rows (set ws (g * len + p) v) ≡ set (wide_rows len rows ws) (g * 34 + p) v
  write_row zero g p v ws fits below low = absurd (omega arith)
  write_row (suc rows) zero p v ws fits below low =
      let at : p ≡ 0 * 34 + p = omega arith in
      let from : 0 * len + p ≡ p = omega arith in
      ap (λ i. wide_rows len (suc rows) (set ws i v)) from
      ∙ ap (λ (z : List ℕ × List ℕ). z.0 ++ (replicate (34 - len) 0 ++ wide_rows len rows z.1)) (λ i. (take-set-lt len ws p v low i, drop-set-lt len ws p v low i))
      ∙ sym (write_front (take len ws) (replicate (34 - len) 0 ++ wide_rows len rows (drop len ws)) len p v (taken_len len ws (omega arith)) low)
      ∙ ap (λ i. set (wide_rows len (suc rows) ws) i v) at
  write_row (suc rows) (suc g) p v ws fits below low =
      let at : len + ((34 - len) + (g * 34 + p)) ≡ suc g * 34 + p = omega arith in
      let from : suc g * len + p ≡ len + (g * len + p) = omega arith in
      ap (λ i. wide_rows len (suc rows) (set ws i v)) from
      ∙ ap (λ (z : List ℕ × List ℕ). z.0 ++ (replicate (34 - len) 0 ++ wide_rows len rows z.1)) (λ i. (take-set-le len ws (len + (g * len + p)) v (omega arith) i, drop-set-add len ws (g * len + p) v i))
      ∙ ap (λ (z : List ℕ). take len ws ++ (replicate (34 - len) 0 ++ z)) (write_row rows g p v (drop len ws) (left_len len (rows * len) ws (omega arith)) (omega arith) low)
      ∙ ap (λ (z : List ℕ). take len ws ++ z) (sym (write_back (replicate (34 - len) 0) (wide_rows len rows (drop len ws)) (34 - len) (g * 34 + p) v (length-replicate (34 - len) 0)))
      ∙ sym (write_back (take len ws) (replicate (34 - len) 0 ++ wide_rows len rows (drop len ws)) len ((34 - len) + (g * 34 + p)) v (taken_len len ws (omega arith)))
      ∙ ap (λ i. set (wide_rows len (suc rows) ws) i v) at

  -- a word behind the rows
  write_behind : (rows i v : ℕ) (ws : List ℕ) → rows * len ≤ i → wide_rows len rows (set ws i v) ≡ wide_rows len rows ws
  write_behind zero i v ws h = refl
  write_behind (suc rows) i v ws h =
      let at : i ≡ len + (i - len) = omega arith in
      ap (λ j. wide_rows len (suc rows) (set ws j v)) at
      ∙ ap (λ (z : List ℕ × List ℕ). z.0 ++ (replicate (34 - len) 0 ++ wide_rows len rows z.1)) (λ k. (take-set-le len ws (len + (i - len)) v (omega arith) k, drop-set-add len ws (i - len) v k))
      ∙ ap (λ (z : List ℕ). take len ws ++ (replicate (34 - len) 0 ++ z)) (write_behind rows (i - len) v (drop len ws) (omega arith))

  zero_rows : (rows n : ℕ) → rows * len ≤ n → wide_rows len rows (replicate n 0) ≡ replicate (rows * 34) 0
  zero_rows zero n h = ap (λ m. replicate m 0) (let none : 0 ≡ 0 * 34 = omega arith in none)
  zero_rows (suc rows) n h =
      let whole : len + ((34 - len) + rows * 34) ≡ suc rows * 34 = omega arith in
      ap (λ (z : List ℕ × List ℕ). z.0 ++ (replicate (34 - len) 0 ++ wide_rows len rows z.1)) (λ i. (take-replicate len n 0 (let fits : len ≤ n = omega arith in fits) i, drop-replicate len n 0 i))
      ∙ ap (λ (z : List ℕ). replicate len 0 ++ (replicate (34 - len) 0 ++ z)) (zero_rows rows (n - len) (omega arith))
      ∙ ap (λ (z : List ℕ). replicate len 0 ++ z) (replicate-append-replicate (34 - len) (rows * 34) 0)
      ∙ replicate-append-replicate len ((34 - len) + rows * 34) 0
      ∙ ap (λ m. replicate m 0) whole

  -- A THREAD, which has words for few of its rows
  module _ (few rows : ℕ) (fewer : few ≤ rows) where
    abbrev thread : List ℕ → List ℕ
    thread ws = wide_thread len few rows ws

    abbrev blank : List ℕ
    blank = replicate ((rows - few) * 34) 0

    abbrev behind : List ℕ → List ℕ
    behind ws = take 65 (drop (few * len) ws)

    blank_len : length blank ≡ (rows - few) * 34
    blank_len = length-replicate ((rows - few) * 34) 0

    length_thread : (ws : List ℕ) → few * len + 65 ≤ length ws → length (thread ws) ≡ thread_len rows
    length_thread ws fits =
        let front = length_rows few ws (omega arith) in
        let tail = taken_len 65 (drop (few * len) ws) (left_len (few * len) 65 ws fits) in
        let none = blank_len in
        let inner = length-append blank (behind ws) in
        let both = length-append (wide_rows len few ws) (blank ++ behind ws) in
        omega arith

    thread_row : (g p : ℕ) (ws : List ℕ) → few * len + 65 ≤ length ws → g < few → p < len → get_or (thread ws) (g * 34 + p) 0 ≡ get_or ws (g * len + p) 0
    thread_row g p ws fits below low =
        read_front (wide_rows len few ws) (blank ++ behind ws) (few * 34) (g * 34 + p) (length_rows few ws (omega arith)) (omega arith)
        ∙ read_row few g p ws (omega arith) below low

    thread_past : (g p : ℕ) (ws : List ℕ) → few * len + 65 ≤ length ws → g < few → len ≤ p → p < 34 → get_or (thread ws) (g * 34 + p) 0 ≡ 0
    thread_past g p ws fits below high low =
        read_front (wide_rows len few ws) (blank ++ behind ws) (few * 34) (g * 34 + p) (length_rows few ws (omega arith)) (omega arith)
        ∙ read_past few g p ws (omega arith) below high low

    -- a row that it has no words for
    thread_none : (g p : ℕ) (ws : List ℕ) → few * len + 65 ≤ length ws → few ≤ g → g < rows → p < 34 → get_or (thread ws) (g * 34 + p) 0 ≡ 0
    thread_none g p ws fits above below low =
        let at : g * 34 + p ≡ few * 34 + ((g - few) * 34 + p) = omega arith in
        ap (λ i. get_or (thread ws) i 0) at
        ∙ read_back (wide_rows len few ws) (blank ++ behind ws) (few * 34) ((g - few) * 34 + p) (length_rows few ws (omega arith))
        ∙ read_front blank (behind ws) ((rows - few) * 34) ((g - few) * 34 + p) blank_len (omega arith)
        ∙ get_or-replicate ((rows - few) * 34) ((g - few) * 34 + p) 0 0 (omega arith)

    thread_tail : (k : ℕ) (ws : List ℕ) → few * len + 65 ≤ length ws → k < 65 → get_or (thread ws) (rows * 34 + k) 0 ≡ get_or ws (few * len + k) 0
    thread_tail k ws fits low =
        let at : rows * 34 + k ≡ few * 34 + ((rows - few) * 34 + k) = omega arith in
        ap (λ i. get_or (thread ws) i 0) at
        ∙ read_back (wide_rows len few ws) (blank ++ behind ws) (few * 34) ((rows - few) * 34 + k) (length_rows few ws (omega arith))
        ∙ read_back blank (behind ws) ((rows - few) * 34) k blank_len
        ∙ get_or-take 65 (drop (few * len) ws) k 0 low
        ∙ get_or-drop (few * len) ws k 0

    set_row : (g p v : ℕ) (ws : List ℕ) → few * len + 65 ≤ length ws → g < few → p < len → thread (set ws (g * len + p) v) ≡ set (thread ws) (g * 34 + p) v
    set_row g p v ws fits below low =
        ap (λ (z : List ℕ × List ℕ). z.0 ++ (blank ++ take 65 z.1)) (λ i. (write_row few g p v ws (let inside : few * len ≤ length ws = omega arith in inside) below low i, drop-set-lt (few * len) ws (g * len + p) v (block_inside g few p len below low) i))
        ∙ sym (write_front (wide_rows len few ws) (blank ++ behind ws) (few * 34) (g * 34 + p) v (length_rows few ws (omega arith)) (omega arith))

    set_tail : (k v : ℕ) (ws : List ℕ) → few * len + 65 ≤ length ws → k < 65 → thread (set ws (few * len + k) v) ≡ set (thread ws) (rows * 34 + k) v
    set_tail k v ws fits low =
        let at : few * 34 + ((rows - few) * 34 + k) ≡ rows * 34 + k = omega arith in
        ap (λ (z : List ℕ × List ℕ). z.0 ++ (blank ++ z.1))
        (λ i. (write_behind few (few * len + k) v ws (let past : few * len ≤ few * len + k = omega arith in past) i, (ap (take 65) (drop-set-add (few * len) ws k v) ∙ take-set-lt 65 (drop (few * len) ws) k v low) i))
        ∙ ap (λ (z : List ℕ). wide_rows len few ws ++ z) (sym (write_back blank (behind ws) ((rows - few) * 34) k v blank_len))
        ∙ sym (write_back (wide_rows len few ws) (blank ++ behind ws) (few * 34) ((rows - few) * 34 + k) v (length_rows few ws (omega arith)))
        ∙ ap (λ i. set (thread ws) i v) at

    -- a word behind the thread's
    set_past : (j v : ℕ) (ws : List ℕ) → few * len + 65 ≤ j → thread (set ws j v) ≡ thread ws
    set_past j v ws past =
        let at : j ≡ few * len + (j - few * len) = omega arith in
        ap (λ (z : List ℕ × List ℕ). z.0 ++ (blank ++ z.1))
        (λ i. (
          write_behind few j v ws (let far : few * len ≤ j = omega arith in far) i,
          (ap (λ n. take 65 (drop (few * len) (set ws n v))) at ∙ ap (take 65) (drop-set-add (few * len) ws (j - few * len) v) ∙ take-set-le 65 (drop (few * len) ws) (j - few * len) v (let far : 65 ≤ j - few * len = omega arith in far)) i,
        ))

    zero_thread : (n : ℕ) → few * len + 65 ≤ n → thread (replicate n 0) ≡ replicate (thread_len rows) 0
    zero_thread n fits =
        let whole : few * 34 + ((rows - few) * 34 + 65) ≡ thread_len rows = omega arith in
        ap (λ (z : List ℕ × List ℕ). z.0 ++ (blank ++ z.1))
        (λ i. (zero_rows few n (let inside : few * len ≤ n = omega arith in inside) i, (ap (take 65) (drop-replicate (few * len) n 0) ∙ take-replicate 65 (n - few * len) 0 (let inside : 65 ≤ n - few * len = omega arith in inside)) i))
        ∙ ap (λ (z : List ℕ). replicate (few * 34) 0 ++ z) (replicate-append-replicate ((rows - few) * 34) 65 0)
        ∙ replicate-append-replicate (few * 34) ((rows - few) * 34 + 65) 0
        ∙ ap (λ m. replicate m 0) whole

-- the words of a thread lie before those of a later one
pub threads_apart : (y : Layout) (n t : ℕ) → t < n → words_below y t + thread_words y t ≤ words_below y n
threads_apart y zero t below = absurd (omega arith)
threads_apart y (suc n) t below = ⊎_elim
    (λ (e : t ≡ n). subst (λ m. words_below y m + thread_words y m ≤ words_below y (suc n)) (sym e) (let least : words_below y n + thread_words y n ≤ words_below y (suc n) = omega arith in least))
    (λ (c : (t < n) ⊎ (n < t)). ⊎_elim
    (λ (d : t < n). let before = threads_apart y n t d in let more : words_below y t + thread_words y t ≤ words_below y (suc n) = omega arith in more)
    (λ (d : n < t). absurd (omega arith))
    c)
    (cases_order t n)

-- A TABLE: what is so of each thread's words is so of the table's
module _ (y : Layout) (rows : ℕ) (fits : Fits y rows) where
  abbrev len : ℕ
  len = row_len y.offers

  narrow : row_len y.offers ≤ 34
  narrow = let few = fits.0 in omega arith

  -- a thread, of the table's words
  abbrev one_of : List ℕ → ℕ → List ℕ
  one_of ws t = wide_thread (row_len y.offers) (rows_of y t) rows (drop (words_below y t) ws)

  thread_fits : (ws : List ℕ) (n t : ℕ) → words_below y n ≤ length ws → t < n → rows_of y t * row_len y.offers + 65 ≤ length (drop (words_below y t) ws)
  thread_fits ws n t inside below = let apart = threads_apart y n t below in left_len (words_below y t) (thread_words y t) ws (omega arith)

  one_len : (ws : List ℕ) (n t : ℕ) → words_below y n ≤ length ws → t < n → length (one_of ws t) ≡ thread_len rows
  one_len ws n t inside below = length_thread (row_len y.offers) narrow (rows_of y t) rows (fits.1 t) (drop (words_below y t) ws) (thread_fits ws n t inside below)

  pub length_wide : (threads : ℕ) (ws : List ℕ) → words_below y threads ≤ length ws → length (widen y rows threads ws) ≡ threads * thread_len rows
  unfolding widen
  length_wide zero ws inside = omega arith
  length_wide (suc n) ws inside =
      let last = one_len ws (suc n) n inside (let s : n < suc n = omega arith in s) in
      let others = length_wide n ws (omega arith) in
      let both : length (widen y rows (suc n) ws) ≡ length (widen y rows n ws) + length (one_of ws n) = length-append (widen y rows n ws) (one_of ws n) in
      omega arith

  read_wide : (threads t i : ℕ) (ws : List ℕ) → words_below y threads ≤ length ws → t < threads → i < thread_len rows → get_or (widen y rows threads ws) (t * thread_len rows + i) 0 ≡ get_or (one_of ws t) i 0
  unfolding widen
  read_wide zero t i ws inside below within = absurd (omega arith)
  read_wide (suc n) t i ws inside below within =
      let others = length_wide n ws (let less : words_below y n ≤ length ws = omega arith in less) in
      let last : get_or (widen y rows (suc n) ws) (n * thread_len rows + i) 0 ≡ get_or (one_of ws n) i 0 = read_back (widen y rows n ws) (one_of ws n) (n * thread_len rows) i others in ⊎_elim
      (λ (e : t ≡ n). subst (λ m. get_or (widen y rows (suc n) ws) (m * thread_len rows + i) 0 ≡ get_or (one_of ws m) i 0) (sym e) last)
      (λ (c : (t < n) ⊎ (n < t)). ⊎_elim
      (λ (d : t < n). read_front (widen y rows n ws) (one_of ws n) (n * thread_len rows) (t * thread_len rows + i) others (block_inside t n i (thread_len rows) d within) ∙ read_wide n t i ws (omega arith) d within)
      (λ (d : n < t). absurd (omega arith))
      c)
      (cases_order t n)

  -- a word behind those of so many threads
  write_past : (threads j v : ℕ) (ws : List ℕ) → words_below y threads ≤ j → widen y rows threads (set ws j v) ≡ widen y rows threads ws
  unfolding widen
  write_past zero j v ws past = refl
  write_past (suc n) j v ws past =
      let at : j ≡ words_below y n + (j - words_below y n) = omega arith in
      let far : rows_of y n * row_len y.offers + 65 ≤ j - words_below y n = omega arith in
      ap (λ (z : List ℕ × List ℕ). z.0 ++ z.1)
      (λ i. (
        write_past n j v ws (let less : words_below y n ≤ j = omega arith in less) i,
        (
            ap (λ m. one_of (set ws m v) n) at
            ∙ ap (wide_thread (row_len y.offers) (rows_of y n) rows) (drop-set-add (words_below y n) ws (j - words_below y n) v)
            ∙ set_past (row_len y.offers) narrow (rows_of y n) rows (fits.1 n) (j - words_below y n) v (drop (words_below y n) ws) far
            ) i,
      ))

  write_wide : (threads t i j v : ℕ) (ws : List ℕ) → words_below y threads ≤ length ws → t < threads → i < thread_len rows → j < thread_words y t
      → wide_thread (row_len y.offers) (rows_of y t) rows (set (drop (words_below y t) ws) j v) ≡ set (one_of ws t) i v
      → widen y rows threads (set ws (words_below y t + j) v) ≡ set (widen y rows threads ws) (t * thread_len rows + i) v
  unfolding widen
  write_wide zero t i j v ws inside below within low one = absurd (omega arith)
  write_wide (suc n) t i j v ws inside below within low one =
      let others = length_wide n ws (let less : words_below y n ≤ length ws = omega arith in less) in ⊎_elim
      (λ (e : t ≡ n).
      let at : words_below y n ≤ words_below y t + j = subst (λ m. words_below y n ≤ words_below y m + j) (sym e) (let least : words_below y n ≤ words_below y n + j = omega arith in least) in
      ap (λ (z : List ℕ × List ℕ). z.0 ++ z.1)
      (λ k. (
        write_past n (words_below y t + j) v ws at k,
        (
            ap (λ m. wide_thread (row_len y.offers) (rows_of y m) rows (drop (words_below y m) (set ws (words_below y t + j) v))) (sym e)
            ∙ ap (wide_thread (row_len y.offers) (rows_of y t) rows) (drop-set-add (words_below y t) ws j v)
            ∙ one
            ∙ ap (λ m. set (one_of ws m) i v) e
            ) k,
      ))
      ∙ sym (write_back (widen y rows n ws) (one_of ws n) (n * thread_len rows) i v others)
      ∙ ap (λ m. set (widen y rows (suc n) ws) (m * thread_len rows + i) v) (sym e))
      (λ (c : (t < n) ⊎ (n < t)). ⊎_elim
      (λ (d : t < n).
      let apart = threads_apart y n t d in
      let before : words_below y t + j < words_below y n = omega arith in
      ap (λ (z : List ℕ × List ℕ). z.0 ++ z.1)
      (λ k. (
        write_wide n t i j v ws (let less : words_below y n ≤ length ws = omega arith in less) d within low one k,
        ap (wide_thread (row_len y.offers) (rows_of y n) rows) (drop-set-lt (words_below y n) ws (words_below y t + j) v before) k,
      ))
      ∙ sym (write_front (widen y rows n ws) (one_of ws n) (n * thread_len rows) (t * thread_len rows + i) v others (block_inside t n i (thread_len rows) d within)))
      (λ (d : n < t). absurd (omega arith))
      c)
      (cases_order t n)

  -- where words are 0
  zero_words : (threads n : ℕ) → words_below y threads ≤ n → widen y rows threads (replicate n 0) ≡ replicate (threads * thread_len rows) 0
  unfolding widen
  zero_words zero n inside = ap (λ m. replicate m 0) (let none : 0 ≡ 0 * thread_len rows = omega arith in none)
  zero_words (suc k) n inside =
      let whole : k * thread_len rows + thread_len rows ≡ suc k * thread_len rows = omega arith in
      let room : rows_of y k * row_len y.offers + 65 ≤ n - words_below y k = omega arith in
      ap (λ (z : List ℕ × List ℕ). z.0 ++ z.1)
      (λ i. (
        zero_words k n (let less : words_below y k ≤ n = omega arith in less) i,
        (ap (wide_thread (row_len y.offers) (rows_of y k) rows) (drop-replicate (words_below y k) n 0) ∙ zero_thread (row_len y.offers) narrow (rows_of y k) rows (fits.1 k) (n - words_below y k) room) i,
      ))
      ∙ replicate-append-replicate (k * thread_len rows) (thread_len rows) 0
      ∙ ap (λ m. replicate m 0) whole

  pub zero_wide : (threads : ℕ) → widen y rows threads (replicate (words_below y threads) 0) ≡ replicate (threads * thread_len rows) 0
  zero_wide threads = zero_words threads (words_below y threads) (let same : words_below y threads ≤ words_below y threads = omega arith in same)

  -- THE WORDS OF ROWS, NACKS AND LIVES
  module _ (threads : ℕ) (ws : List ℕ) (sized : length ws ≡ words_below y threads) where
    all_there : words_below y threads ≤ length ws
    all_there = omega (arith, sized)

    has_thread : (t : ℕ) → t < threads → rows_of y t * row_len y.offers + 65 ≤ length (drop (words_below y t) ws)
    has_thread t its = thread_fits ws threads t all_there its

    row_within : (t g p : ℕ) → g < rows_of y t → p < row_len y.offers → g * row_len y.offers + p < thread_words y t
    row_within t g p below low = let b = block_inside g (rows_of y t) p (row_len y.offers) below low in omega arith

    pub short_word : (r : Row) (p : ℕ) → r.thread < threads → HasWords y r → p < row_len y.offers → get_or (widen y rows threads ws) (place_of rows r p) 0 ≡ get_or ws (short_place y r p) 0
    short_word r p its row low =
        let few = fits.1 r.thread in
        let thin = narrow in
        let at : place_of rows r p ≡ r.thread * thread_len rows + (r.sync * 34 + p) = omega arith in
        let from : words_below y r.thread + (r.sync * row_len y.offers + p) ≡ short_place y r p = omega arith in
        ap (λ i. get_or (widen y rows threads ws) i 0) at
        ∙ read_wide threads r.thread (r.sync * 34 + p) ws all_there its (omega arith)
        ∙ thread_row (row_len y.offers) narrow (rows_of y r.thread) rows few r.sync p (drop (words_below y r.thread) ws) (has_thread r.thread its) row low
        ∙ get_or-drop (words_below y r.thread) ws (r.sync * row_len y.offers + p) 0
        ∙ ap (λ i. get_or ws i 0) from

    -- a word that a short row has not
    pub no_word : (r : Row) (p : ℕ) → r.thread < threads → HasWords y r → row_len y.offers ≤ p → p < 34 → get_or (widen y rows threads ws) (place_of rows r p) 0 ≡ 0
    no_word r p its row high low =
        let few = fits.1 r.thread in
        let at : place_of rows r p ≡ r.thread * thread_len rows + (r.sync * 34 + p) = omega arith in
        ap (λ i. get_or (widen y rows threads ws) i 0) at
        ∙ read_wide threads r.thread (r.sync * 34 + p) ws all_there its (omega arith)
        ∙ thread_past (row_len y.offers) narrow (rows_of y r.thread) rows few r.sync p (drop (words_below y r.thread) ws) (has_thread r.thread its) row high low

    -- one of a row that its thread has not
    pub no_row : (r : Row) (p : ℕ) → r.thread < threads → r.sync < rows → rows_of y r.thread ≤ r.sync → p < 34 → get_or (widen y rows threads ws) (place_of rows r p) 0 ≡ 0
    no_row r p its row past low =
        let at : place_of rows r p ≡ r.thread * thread_len rows + (r.sync * 34 + p) = omega arith in
        ap (λ i. get_or (widen y rows threads ws) i 0) at
        ∙ read_wide threads r.thread (r.sync * 34 + p) ws all_there its (omega arith)
        ∙ thread_none (row_len y.offers) narrow (rows_of y r.thread) rows (fits.1 r.thread) r.sync p (drop (words_below y r.thread) ws) (has_thread r.thread its) past row low

    tail_word : (t k : ℕ) → t < threads → k < 65 → get_or (widen y rows threads ws) (t * thread_len rows + (rows * 34 + k)) 0 ≡ get_or ws (words_below y t + (rows_of y t * row_len y.offers + k)) 0
    tail_word t k its low =
        read_wide threads t (rows * 34 + k) ws all_there its (omega arith)
        ∙ thread_tail (row_len y.offers) narrow (rows_of y t) rows (fits.1 t) k (drop (words_below y t) ws) (has_thread t its) low
        ∙ get_or-drop (words_below y t) ws (rows_of y t * row_len y.offers + k) 0

    pub short_nack : (n : NackName) → n.thread < threads → n.k < 64 → get_or (widen y rows threads ws) (nack_place rows n) 0 ≡ get_or ws (short_nack_place y n) 0
    short_nack n its low =
        let at : nack_place rows n ≡ n.thread * thread_len rows + (rows * 34 + n.k) = omega arith in
        let from : words_below y n.thread + (rows_of y n.thread * row_len y.offers + n.k) ≡ short_nack_place y n = omega arith in
        ap (λ i. get_or (widen y rows threads ws) i 0) at ∙ tail_word n.thread n.k its (omega arith) ∙ ap (λ i. get_or ws i 0) from

    pub short_course : (t : ℕ) → t < threads → get_or (widen y rows threads ws) (course_place rows t) 0 ≡ get_or ws (short_course_place y t) 0
    short_course t its =
        let at : course_place rows t ≡ t * thread_len rows + (rows * 34 + 64) = omega arith in
        let from : words_below y t + (rows_of y t * row_len y.offers + 64) ≡ short_course_place y t = omega arith in
        ap (λ i. get_or (widen y rows threads ws) i 0) at ∙ tail_word t 64 its (omega arith) ∙ ap (λ i. get_or ws i 0) from

    -- and how they are written
    pub set_word : (r : Row) (p v : ℕ) → r.thread < threads → HasWords y r → p < row_len y.offers → widen y rows threads (set ws (short_place y r p) v) ≡ set (widen y rows threads ws) (place_of rows r p) v
    set_word r p v its row low =
        let few = fits.1 r.thread in
        let thin = narrow in
        let at : r.thread * thread_len rows + (r.sync * 34 + p) ≡ place_of rows r p = omega arith in
        let from : short_place y r p ≡ words_below y r.thread + (r.sync * row_len y.offers + p) = omega arith in
        ap (λ i. widen y rows threads (set ws i v)) from
        ∙ write_wide threads r.thread (r.sync * 34 + p) (r.sync * row_len y.offers + p) v ws all_there its (omega arith) (row_within r.thread r.sync p row low) (set_row (row_len y.offers) narrow (rows_of y r.thread) rows few r.sync p v (drop (words_below y r.thread) ws) (has_thread r.thread its) row low)
        ∙ ap (λ i. set (widen y rows threads ws) i v) at

    set_behind : (t k v : ℕ) → t < threads → k < 65 → widen y rows threads (set ws (words_below y t + (rows_of y t * row_len y.offers + k)) v) ≡ set (widen y rows threads ws) (t * thread_len rows + (rows * 34 + k)) v
    set_behind t k v its low =
        write_wide threads t (rows * 34 + k) (rows_of y t * row_len y.offers + k) v ws all_there its (omega arith) (omega arith) (set_tail (row_len y.offers) narrow (rows_of y t) rows (fits.1 t) k v (drop (words_below y t) ws) (has_thread t its) low)

    pub set_nack : (n : NackName) (v : ℕ) → n.thread < threads → n.k < 64 → widen y rows threads (set ws (short_nack_place y n) v) ≡ set (widen y rows threads ws) (nack_place rows n) v
    set_nack n v its low =
        let at : n.thread * thread_len rows + (rows * 34 + n.k) ≡ nack_place rows n = omega arith in
        let from : short_nack_place y n ≡ words_below y n.thread + (rows_of y n.thread * row_len y.offers + n.k) = omega arith in
        ap (λ i. widen y rows threads (set ws i v)) from ∙ set_behind n.thread n.k v its (omega arith) ∙ ap (λ i. set (widen y rows threads ws) i v) at

    pub set_course : (t v : ℕ) → t < threads → widen y rows threads (set ws (short_course_place y t) v) ≡ set (widen y rows threads ws) (course_place rows t) v
    set_course t v its =
        let at : t * thread_len rows + (rows * 34 + 64) ≡ course_place rows t = omega arith in
        let from : short_course_place y t ≡ words_below y t + (rows_of y t * row_len y.offers + 64) = omega arith in
        ap (λ i. widen y rows threads (set ws i v)) from ∙ set_behind t 64 v its (omega arith) ∙ ap (λ i. set (widen y rows threads ws) i v) at

-- PLACES lie within the words
pub short_inside : (y : Layout) (threads : ℕ) (r : Row) (p : ℕ) → r.thread < threads → HasWords y r → p < row_len y.offers → short_place y r p < words_below y threads
short_inside y threads r p its row low =
    let within = block_inside r.sync (rows_of y r.thread) p (row_len y.offers) row low in
    let apart = threads_apart y threads r.thread its in
    omega arith

pub short_nack_inside : (y : Layout) (threads : ℕ) (n : NackName) → n.thread < threads → n.k < 64 → short_nack_place y n < words_below y threads
short_nack_inside y threads n its low = let apart = threads_apart y threads n.thread its in omega arith

pub short_course_inside : (y : Layout) (threads t : ℕ) → t < threads → short_course_place y t < words_below y threads
short_course_inside y threads t its = let apart = threads_apart y threads t its in omega arith

-- EVEN TABLES
pub even_rows : (offers rows t : ℕ) → t < 64 → rows_of (even offers rows) t ≡ rows
even_rows offers rows t below = get_or-replicate 64 t rows 0 below

even_words : (offers rows t : ℕ) → t < 64 → thread_words (even offers rows) t ≡ rows * row_len offers + 65
even_words offers rows t below = ap (λ n. n * row_len offers + 65) (even_rows offers rows t below)

pub even_below : (offers rows threads : ℕ) → threads ≤ 64 → words_below (even offers rows) threads ≡ threads * (rows * row_len offers + 65)
even_below offers rows zero few = let none : 0 ≡ 0 * (rows * row_len offers + 65) = omega arith in none
even_below offers rows (suc t) few =
    let more : t * (rows * row_len offers + 65) + (rows * row_len offers + 65) ≡ suc t * (rows * row_len offers + 65) = omega arith in
    (λ i. even_below offers rows t (let less : t ≤ 64 = omega arith in less) i + even_words offers rows t (let below : t < 64 = omega arith in below) i) ∙ more

pub even_fits : (offers rows : ℕ) → offers ≤ 8 → Fits (even offers rows) rows
even_fits offers rows few = (
  few,
  λ t. ⊎_elim
      (λ (e : t ≡ 64). let none = get_or_past (replicate 64 rows) t 0 (let past : 64 ≤ t = omega arith in past) in omega arith)
      (λ (c : (t < 64) ⊎ (64 < t)). ⊎_elim
      (λ (d : t < 64). let all = even_rows offers rows t d in omega arith)
      (λ (d : 64 < t). let none = get_or_past (replicate 64 rows) t 0 (let past : 64 ≤ t = omega arith in past) in omega arith)
      c)
      (cases_order t 64),
)

pub fits_more : (y : Layout) (few rows : ℕ) → few ≤ rows → Fits y few → Fits y rows
fits_more y few rows more fits = (fits.0, λ t. let least = fits.1 t in omega arith)

-- rows that have room for 8 offers are whole
take_both : (a b : ℕ) (ws : List ℕ) → take a ws ++ take b (drop a ws) ≡ take (a + b) ws
take_both a b ws =
    ap (λ (z : List ℕ × List ℕ). z.0 ++ z.1) (λ i. (sym (take-take a (a + b) ws (let more : a ≤ a + b = omega arith in more)) i, sym (drop-take a b ws) i))
    ∙ take-append-drop a (take (a + b) ws)

whole_rows : (n : ℕ) (ws : List ℕ) → wide_rows 34 n ws ≡ take (n * 34) ws
whole_rows zero ws = ap (λ m. take m ws) (let none : 0 ≡ 0 * 34 = omega arith in none)
whole_rows (suc n) ws =
    let more : 34 + n * 34 ≡ suc n * 34 = omega arith in
    ap (λ (z : List ℕ). take 34 ws ++ z) (whole_rows n (drop 34 ws)) ∙ take_both 34 (n * 34) ws ∙ ap (λ m. take m ws) more

whole_thread : (rows : ℕ) (ws : List ℕ) → wide_thread 34 rows rows ws ≡ take (rows * 34 + 65) ws
whole_thread rows ws =
    let none : (rows - rows) * 34 ≡ 0 = omega arith in
    ap (λ (z : List ℕ × ℕ). z.0 ++ (replicate z.1 0 ++ take 65 (drop (rows * 34) ws))) (λ i. (whole_rows rows ws i, none i)) ∙ take_both (rows * 34) 65 ws

whole_part : (rows threads : ℕ) (ws : List ℕ) → threads ≤ 64 → widen (even 8 rows) rows threads ws ≡ take (words_below (even 8 rows) threads) ws
unfolding widen
whole_part rows zero ws few = refl
whole_part rows (suc t) ws few =
    let y = even 8 rows in
    let below : t < 64 = omega arith in
    ap (λ (z : List ℕ × List ℕ). z.0 ++ z.1)
    (λ i. (
      whole_part rows t ws (let less : t ≤ 64 = omega arith in less) i,
      (ap (λ n. wide_thread 34 n rows (drop (words_below y t) ws)) (even_rows 8 rows t below) ∙ whole_thread rows (drop (words_below y t) ws) ∙ ap (λ n. take n (drop (words_below y t) ws)) (sym (even_words 8 rows t below))) i,
    ))
    ∙ take_both (words_below y t) (thread_words y t) ws

pub whole : (rows threads : ℕ) (ws : List ℕ) → threads ≤ 64 → length ws ≡ words_below (even 8 rows) threads → widen (even 8 rows) rows threads ws ≡ ws
whole rows threads ws few sized = whole_part rows threads ws few ∙ take_all (words_below (even 8 rows) threads) ws (let all : length ws ≤ words_below (even 8 rows) threads = omega (arith, sized) in all)

-- there are few words
thread_few : (y : Layout) (t : ℕ) → Fits y 1024 → thread_words y t ≤ 34881
thread_few y t fits =
    let few = fits.0 in
    let rows = fits.1 t in
    let most : rows_of y t * row_len y.offers ≤ 1024 * row_len y.offers = mul-le-mul_right (row_len y.offers) rows in
    omega arith

pub words_few : (y : Layout) (t : ℕ) → Fits y 1024 → words_below y t ≤ t * 34881
words_few y zero fits = omega arith
words_few y (suc t) fits = let before = words_few y t fits in let last = thread_few y t fits in omega arith
