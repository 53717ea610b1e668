-- The ledger of a table has what the table reads as; the start is kept; so every schedule's ledger is lawful.
use Rattle.std.proofs.Common.{◌≡◌, ℕ, zero, suc, ◌+◌, ◌-◌, ◌*◌, ◌%◌, ◌^◌, ◌<◌, ◌≤◌, ◌&&◌, max, Bool, eqb, set, length-set, get_or-set_same, get_or-set_other, true, false, cond, ltb, List, [], ◌∷◌, length, get_or, map, replicate, ◌++◌, sym, refl, ap, ◌∙◌, subst, ⊎_elim, arith, Option, Some, None}
use Rattle.std.specs.Prelude.{unwrap_or, option_to_list}
use Rattle.std.specs.List.{fold, range_with_len}
use Rattle.std.proofs.lemmas.Bool.{cases_eq, cases_Bool, cases_lt, true≢false, and_from, and_parts, lt-ltb, ltb-true}
use Rattle.std.proofs.lemmas.List.{get_or_append_left, get_or-append_right, get_or-map, get_or_past, get_or-replicate, length-append, length-replicate, length-map}
use Rattle.std.proofs.lemmas.List.FromFn.{get_or-map-range_with_len, length-map-range_with_len}
use Rattle.std.proofs.Math.Nat.{mul-le-mul_right, zero-div}
use Rattle.protocol_values.specs.declared.Row.{Row}
use Rattle.protocol_values.specs.declared.NackName.{NackName}
use Rattle.protocol_values.specs.declared.Joined.{Joined}
use Rattle.protocol_values.specs.declared.Offer.{Offer}
use Rattle.protocol_values.specs.declared.NackWord.TheVariants.{Unbound}
use Rattle.protocol_ledger.specs.declared.opening.Life.{Life}
use Rattle.protocol_ledger.specs.declared.opening.Life.TheVariants as life
use Rattle.protocol_ledger.specs.declared.opening.NackState.{NackState}
use Rattle.protocol_ledger.specs.declared.opening.NackState.TheVariants as nack
use Rattle.protocol_values.specs.declared.Course.TheVariants.{Unstarted, Running}
use Rattle.protocol_values.specs.declared.Seat.{Seat}
use Rattle.protocol_values.specs.declared.Step.{Step}
use Rattle.protocol_values.specs.declared.Cell.TheVariants.{Fresh}
use Rattle.protocol_values.specs.Words.{course_word, nack_of, nack_word}
use Rattle.protocol_ledger.specs.Tables.{Table, Marks, course_at, course_place, marks_at, thread_len, place_of, nack_place, is_row, is_nack, all_rows, rows_below, number_of, word_at, nack_at, cell_at, is_fresh, joined_at, count_at, offer_at, nack_says, bound_by, carried_by, binding_at, carried_at}
use Rattle.protocol_values.specs.Values.{joined_of}
use Rattle.protocol_ledger.specs.Worlds.{World, start_world, first_holder, holder_at, Plays, waits, with_lives}
use Rattle.protocol_ledger.specs.Ledgers.{course_in, marks_in, Entry, ledger_of, entry_at, no_entry, entry_in, joined_in, offer_in, nack_in, binding_in, carried_in, all_nacks, nacks_below, commits_in, commits_of, rows_in, told_at, told_by, Lawful, IsLawful}
use Rattle.protocol_ledger.specs.Kept.{Linked, Kept}
use Rattle.protocol_ledger.specs.Openings.{AreFirstWords, Begins, IsOpening, Opening, course_for, first_life, greatest, held_first, is_running, stamp_in, start_opening, state_in, thread_in, word_for}
use Rattle.protocol_ledger.proofs.Places.{block_inside, course_apart, course_nack_apart, course_place_inside, row_inside, same_course_place}
use Rattle.protocol_ledger.proofs.Beginning.{first_binding, first_carried, first_cell, first_course, kept_begins}
use Rattle.protocol_ledger.proofs.Readings.{carried_is, cell_outside, course_outside, offer_none, count_fresh, says_outside}
use Rattle.protocol_ledger.proofs.Keeping.{length_all, length_below, kept_schedule}
use Rattle.protocol_ledger.proofs.Lawfulness.{lawful_linked}

-- THE ROW AT A NUMBER

row_in_thread : (t g h : ℕ) (d : Row) → h < g → get_or (rows_below t g) h d ≡ record { thread = t; sync = h }
row_in_thread t zero h d b = absurd (omega arith)
row_in_thread t (suc g) h d b =
    let len = length_below t g in
    ⊎_elim
    (λ (e : h ≡ g).
    get_or-append_right (rows_below t g) _ g h d len (omega arith)
    ∙ ap (λ n. get_or (record { thread = t; sync = g } ∷ []) n d) (let z : h - g ≡ 0 = omega arith in z)
    ∙ ap (λ n. record { thread = t; sync = n }) (sym e))
    (λ (n : h ≡ g → ⊥).
    get_or_append_left (rows_below t g) _ d h (omega (arith, n)) ∙ row_in_thread t g h d (omega (arith, n)))
    (cases_eq h g)

row_at_number : (t g : ℕ) (r : Row) (d : Row) → r.thread < t → r.sync < g → get_or (all_rows t g) (r.thread * g + r.sync) d ≡ r
row_at_number zero g r d h k = absurd (omega arith)
row_at_number (suc t) g r d h k =
    let len = length_all t g in
    ⊎_elim
    (λ (e : r.thread ≡ t).
    let same : r.thread * g ≡ t * g = ap (λ n. n * g) e in
    get_or-append_right (all_rows t g) (rows_below t g) (t * g) (r.thread * g + r.sync) d len (omega arith)
    ∙ ap (λ n. get_or (rows_below t g) n d) (let z : r.thread * g + r.sync - t * g ≡ r.sync = omega arith in z)
    ∙ row_in_thread t g r.sync d k
    ∙ ap (λ n. record { thread = n; sync = r.sync }) (sym e))
    (λ (n : r.thread ≡ t → ⊥).
    let b = block_inside r.thread t r.sync g (omega (arith, n)) k in
    get_or_append_left (all_rows t g) (rows_below t g) d (r.thread * g + r.sync) (omega arith) ∙ row_at_number t g r d (omega (arith, n)) k)
    (cases_eq r.thread t)

number_inside : (t g : ℕ) (r : Row) → r.thread < t → r.sync < g → r.thread * g + r.sync < length (all_rows t g)
number_inside t g r h k = let l = length_all t g in let b = block_inside r.thread t r.sync g h k in omega arith

-- a list that a function gives, row by row
pub at_number : {X : Type 0} (f : Row → X) (t g : ℕ) (r : Row) (d : X) → r.thread < t → r.sync < g → get_or (map f (all_rows t g)) (number_of g r) d ≡ f r
at_number f t g r d h k =
    get_or-map f (all_rows t g) (number_of g r) r d (number_inside t g r h k) ∙ ap f (row_at_number t g r r h k)

-- THE LEDGER OF A TABLE

pub entry_is : (t : Table) (r : Row) → is_row t r ≡ true → entry_in (ledger_of t) r ≡ entry_at t r
unfolding ledger_of is_row
entry_is t r h =
    let p = and_parts (ltb r.thread t.threads) (ltb r.sync t.rows) h in
    ap (λ b. cond b (get_or (map (entry_at t) (all_rows t.threads t.rows)) (number_of t.rows r) no_entry) no_entry) h
    ∙ at_number (entry_at t) t.threads t.rows r no_entry (ltb-true r.thread t.threads p.0) (ltb-true r.sync t.rows p.1)

entry_outside : (t : Table) (r : Row) → is_row t r ≡ false → entry_in (ledger_of t) r ≡ no_entry
unfolding ledger_of is_row
entry_outside t r h = ap (λ b. cond b (get_or (map (entry_at t) (all_rows t.threads t.rows)) (number_of t.rows r) no_entry) no_entry) h

pub joined_in_ledger : (t : Table) → joined_in (ledger_of t) ≡ joined_at t
unfolding joined_in
joined_in_ledger t = λ i r. at r i
  where
    at : (r : Row) → joined_in (ledger_of t) r ≡ joined_at t r
    at r = ⊎_elim
        (λ (e : is_row t r ≡ true). ap (λ (x : Entry). x.joined) (entry_is t r e))
        (λ (e : is_row t r ≡ false). ap (λ (x : Entry). x.joined) (entry_outside t r e) ∙ sym (ap joined_of (cell_outside t r e)))
        (cases_Bool (is_row t r))

offers_entry : (t : Table) (r : Row) (n : ℕ) → get_or (map (offer_at t r) (range_with_len 0 (count_at t r))) n None ≡ offer_at t r n
offers_entry t r n = ⊎_elim
    (λ (h : n < count_at t r). get_or-map-range_with_len (offer_at t r) 0 (count_at t r) n n None h (let z : 0 + n ≡ n = omega arith in z))
    (λ (h : count_at t r ≤ n).
    let len = length-map-range_with_len (offer_at t r) 0 (count_at t r) in
    get_or_past (map (offer_at t r) (range_with_len 0 (count_at t r))) n None (omega arith) ∙ sym (offer_none t r n h))
    (cases_lt n (count_at t r))

pub offer_in_ledger : (t : Table) → offer_in (ledger_of t) ≡ offer_at t
unfolding offer_in
offer_in_ledger t = λ i r n. at r n i
  where
    at : (r : Row) (n : ℕ) → offer_in (ledger_of t) r n ≡ offer_at t r n
    at r n = ⊎_elim
        (λ (e : is_row t r ≡ true). ap (λ (x : Entry). get_or x.offers n None) (entry_is t r e) ∙ offers_entry t r n)
        (λ (e : is_row t r ≡ false).
        let none : count_at t r ≡ 0 = count_fresh t r (ap is_fresh (cell_outside t r e)) in
        ap (λ (x : Entry). get_or x.offers n None) (entry_outside t r e) ∙ sym (offer_none t r n (omega arith)))
        (cases_Bool (is_row t r))

-- THE NACK AT A NUMBER

abbrev nack_named : ℕ → ℕ → NackName
nack_named t k = record { thread = t; k = k }

length_nacks : (t : ℕ) → length (all_nacks t) ≡ t * 64
length_nacks zero = omega arith
length_nacks (suc t) =
    length-append (all_nacks t) (nacks_below t 64) ∙ (let h = length_nacks t in let k = length-map-range_with_len (nack_named t) 0 64 in omega arith)

nack_at_number : (t : ℕ) (n : NackName) (d : NackName) → n.thread < t → n.k < 64 → get_or (all_nacks t) (n.thread * 64 + n.k) d ≡ n
nack_at_number zero n d h k = absurd (omega arith)
nack_at_number (suc t) n d h k =
    let len = length_nacks t in
    ⊎_elim
    (λ (e : n.thread ≡ t).
    get_or-append_right (all_nacks t) (nacks_below t 64) (t * 64) (n.thread * 64 + n.k) d len (omega arith)
    ∙ get_or-map-range_with_len (nack_named t) 0 64 (n.thread * 64 + n.k - t * 64) n.k d (omega arith) (omega arith)
    ∙ ap (λ m. nack_named m n.k) (sym e))
    (λ (m : n.thread ≡ t → ⊥).
    get_or_append_left (all_nacks t) (nacks_below t 64) d (n.thread * 64 + n.k) (omega (arith, m)) ∙ nack_at_number t n d (omega (arith, m)) k)
    (cases_eq n.thread t)

nack_in_ledger : (t : Table) → nack_in (ledger_of t) ≡ nack_says t
unfolding nack_in nack_says ledger_of is_nack
nack_in_ledger t = λ i n. at n i
  where
    at : (n : NackName) → nack_in (ledger_of t) n ≡ nack_says t n
    at n = ⊎_elim
        (λ (e : is_nack t n ≡ true).
        let p = and_parts (ltb n.thread t.threads) (ltb n.k 64) e in
        let below = ltb-true n.thread t.threads p.0 in
        let small = ltb-true n.k 64 p.1 in
        let len = length_nacks t.threads in
        ap (λ b. cond b (get_or (map (nack_says t) (all_nacks t.threads)) (n.thread * 64 + n.k) Unbound) Unbound) e
        ∙ get_or-map (nack_says t) (all_nacks t.threads) (n.thread * 64 + n.k) n Unbound (omega arith)
        ∙ ap (nack_says t) (nack_at_number t.threads n n below small))
        (λ (e : is_nack t n ≡ false).
        ap (λ b. cond b (get_or (map (nack_says t) (all_nacks t.threads)) (n.thread * 64 + n.k) Unbound) Unbound) e
        ∙ sym (ap (λ b. cond b (unwrap_or (nack_of (nack_at t n)) Unbound) Unbound) e))
        (cases_Bool (is_nack t n))

pub binding_in_ledger : (t : Table) → binding_in (ledger_of t) ≡ binding_at t
unfolding binding_in binding_at
binding_in_ledger t = λ i n. bound_by (nack_in_ledger t i n)

pub carried_in_ledger : (t : Table) → carried_in (ledger_of t) ≡ carried_at t
unfolding carried_in carried_at
carried_in_ledger t = λ i n. carried_by (nack_in_ledger t i n)

pub opening_in_ledger : (t : Table) → (ledger_of t).opening ≡ t.opening
unfolding ledger_of
opening_in_ledger t = refl

-- THE THREAD AT A NUMBER

pub course_in_ledger : (t : Table) → course_in (ledger_of t) ≡ course_at t
unfolding course_in ledger_of
course_in_ledger t = λ i p. at p i
  where
    at : (p : ℕ) → course_in (ledger_of t) p ≡ course_at t p
    at p = ⊎_elim
        (λ (h : p < t.threads). get_or-map-range_with_len (course_at t) 0 t.threads p p Unstarted h (omega arith))
        (λ (h : t.threads ≤ p).
        let len = length-map-range_with_len (course_at t) 0 t.threads in
        get_or_past (map (course_at t) (range_with_len 0 t.threads)) p Unstarted (omega arith) ∙ sym (course_outside t p h))
        (cases_lt p t.threads)

pub marks_in_ledger : (t : Table) → marks_in (ledger_of t) ≡ marks_at t
marks_in_ledger t = λ i. record { bound = binding_in_ledger t i; carried = carried_in_ledger t i; course = course_in_ledger t i; opening = opening_in_ledger t i }

-- THE START

unstarted_word : course_word Unstarted ≡ 0
unfolding course_word
unstarted_word = refl

pub zeros : (n i : ℕ) → ◌≡◌ {A = ℕ} (get_or (replicate n 0) i 0) 0
zeros n i = ⊎_elim
    (λ (h : i < n). get_or-replicate n i 0 0 h)
    (λ (h : n ≤ i). let l = length-replicate {A = ℕ} n 0 in get_or_past {X = ℕ} (replicate n 0) i 0 (omega arith))
    (cases_lt i n)

module _ (later rows : ℕ) (words : List ℕ) where
  -- lives are written at their places alone
  pub length_lives : (t : ℕ) → length (with_lives later rows t words) ≡ length words
  length_lives zero = refl
  length_lives (suc t) = ⊎_elim
      (λ (e : waits later t ≡ true). ap (λ b. length (cond b (with_lives later rows t words) (set (with_lives later rows t words) (course_place rows t) (course_word (Running 0))))) e ∙ length_lives t)
      (λ (e : waits later t ≡ false).
      ap (λ b. length (cond b (with_lives later rows t words) (set (with_lives later rows t words) (course_place rows t) (course_word (Running 0))))) e
      ∙ length-set (with_lives later rows t words) (course_place rows t) (course_word (Running 0))
      ∙ length_lives t)
      (cases_Bool (waits later t))

  lives_other : (t i : ℕ) → ((p : ℕ) → p < t → waits later p ≡ false → i ≡ course_place rows p → ⊥) → get_or (with_lives later rows t words) i 0 ≡ get_or words i 0
  lives_other zero i apart = refl
  lives_other (suc t) i apart =
      let before = lives_other t i (λ p h w e. apart p (omega arith) w e) in
      ⊎_elim
      (λ (e : waits later t ≡ true). ap (λ b. get_or (cond b (with_lives later rows t words) (set (with_lives later rows t words) (course_place rows t) (course_word (Running 0)))) i 0) e ∙ before)
      (λ (e : waits later t ≡ false).
      ap (λ b. get_or (cond b (with_lives later rows t words) (set (with_lives later rows t words) (course_place rows t) (course_word (Running 0)))) i 0) e
      ∙ get_or-set_other (with_lives later rows t words) (course_place rows t) i (course_word (Running 0)) 0 (λ d. apart t (omega arith) e d)
      ∙ before)
      (cases_Bool (waits later t))

  lives_here : (t p : ℕ) → p < t → waits later p ≡ false → course_place rows p < length words → get_or (with_lives later rows t words) (course_place rows p) 0 ≡ course_word (Running 0)
  lives_here zero p h w b = absurd (omega arith)
  lives_here (suc t) p h w b = ⊎_elim
      (λ (same : p ≡ t).
      let len = length_lives t in
      let inside : course_place rows t < length (with_lives later rows t words) = (let at : course_place rows p ≡ course_place rows t = ap (course_place rows) same in omega arith) in
      ap (λ b. get_or (cond b (with_lives later rows t words) (set (with_lives later rows t words) (course_place rows t) (course_word (Running 0)))) (course_place rows p) 0) (ap (waits later) (sym same) ∙ w)
      ∙ ap (λ i. get_or (set (with_lives later rows t words) (course_place rows t) (course_word (Running 0))) i 0) (ap (course_place rows) same)
      ∙ get_or-set_same (with_lives later rows t words) (course_place rows t) (course_word (Running 0)) 0 inside)
      (λ (other : p ≡ t → ⊥).
      let before = lives_here t p (omega (arith, other)) w b in
      ⊎_elim
      (λ (e : waits later t ≡ true). ap (λ b. get_or (cond b (with_lives later rows t words) (set (with_lives later rows t words) (course_place rows t) (course_word (Running 0)))) (course_place rows p) 0) e ∙ before)
      (λ (e : waits later t ≡ false).
      ap (λ b. get_or (cond b (with_lives later rows t words) (set (with_lives later rows t words) (course_place rows t) (course_word (Running 0)))) (course_place rows p) 0) e
      ∙ get_or-set_other (with_lives later rows t words) (course_place rows t) (course_place rows p) (course_word (Running 0)) 0 (λ d. other (same_course_place rows p t d))
      ∙ before)
      (cases_Bool (waits later t)))
      (cases_eq p t)

-- of the empty mask
pub nobody_waits : (t : ℕ) → waits 0 t ≡ false
nobody_waits t = ap (λ n. eqb (n % 2) 1) (zero-div (2 ^ t))

abbrev start_words : ℕ → ℕ → ℕ → List ℕ
start_words threads rows later = with_lives later rows threads (replicate (threads * thread_len rows) 0)

abbrev start_table : ℕ → ℕ → ℕ → Table
start_table threads rows later = record { threads = threads; rows = rows; words = start_words threads rows later; opening = 0 }

pub length_start : (threads rows later : ℕ) → length (start_words threads rows later) ≡ threads * thread_len rows
length_start threads rows later = length_lives later rows (replicate (threads * thread_len rows) 0) threads ∙ length-replicate (threads * thread_len rows) 0

pub start_word : (threads rows later : ℕ) (r : Row) (p : ℕ) → is_row (start_table threads rows later) r ≡ true → p < 34 → word_at (start_table threads rows later) r p ≡ 0
unfolding word_at
start_word threads rows later r p h b =
    lives_other later rows (replicate (threads * thread_len rows) 0) threads (place_of rows r p) (λ q k w e. course_apart (start_table threads rows later) r p q h b (sym e))
    ∙ zeros (threads * thread_len rows) (place_of rows r p)

start_nack : (threads rows later : ℕ) (n : NackName) → is_nack (start_table threads rows later) n ≡ true → nack_at (start_table threads rows later) n ≡ 0
unfolding nack_at
start_nack threads rows later n h =
    lives_other later rows (replicate (threads * thread_len rows) 0) threads (nack_place rows n) (λ q k w e. course_nack_apart (start_table threads rows later) n q h (sym e))
    ∙ zeros (threads * thread_len rows) (nack_place rows n)

-- a thread waits, or has started at stamp 0
start_life : (threads rows later p : ℕ) → p < threads → get_or (start_words threads rows later) (course_place rows p) 0 ≡ course_word (cond (waits later p) Unstarted (Running 0))
start_life threads rows later p h = ⊎_elim
    (λ (e : waits later p ≡ true).
    lives_other later rows (replicate (threads * thread_len rows) 0) threads (course_place rows p)
    (λ q k w d. true≢false (sym e ∙ ap (waits later) (same_course_place rows p q d) ∙ w))
    ∙ zeros (threads * thread_len rows) (course_place rows p)
    ∙ sym unstarted_word
    ∙ ap (λ b. course_word (cond b Unstarted (Running 0))) (sym e))
    (λ (e : waits later p ≡ false).
    lives_here later rows (replicate (threads * thread_len rows) 0) threads p h e
    (let len = length-replicate {A = ℕ} (threads * thread_len rows) 0 in let inside = course_place_inside (start_table threads rows later) p h in omega arith)
    ∙ ap (λ b. course_word (cond b Unstarted (Running 0))) (sym e))
    (cases_Bool (waits later p))

-- the opening of a first table
pub first_thread : (threads later p : ℕ) → p < threads → thread_in (start_opening threads later) p ≡ first_life later p
first_thread threads later p h = get_or-map-range_with_len (first_life later) 0 threads p p (life.Unstarted, 0) h (omega arith)

first_state : (threads later : ℕ) (n : NackName) → state_in (start_opening threads later) n ≡ nack.Unbound
first_state threads later n = ⊎_elim
    (λ (h : n.thread * 64 + n.k < threads * 64). get_or-replicate (threads * 64) (n.thread * 64 + n.k) nack.Unbound nack.Unbound h)
    (λ (h : threads * 64 ≤ n.thread * 64 + n.k).
    let l = length-replicate {A = NackState} (threads * 64) nack.Unbound in
    get_or_past (replicate {A = NackState} (threads * 64) nack.Unbound) (n.thread * 64 + n.k) nack.Unbound (omega arith))
    (cases_lt (n.thread * 64 + n.k) (threads * 64))

no_stamps : (later : ℕ) (ts : List ℕ) → fold (λ most (x : Life × ℕ). max most x.1) 0 (map (first_life later) ts) ≡ 0
no_stamps later [] = refl
no_stamps later (t ∷ ts) = no_stamps later ts

no_states : (n : ℕ) → fold (λ most x. max most (stamp_in x)) 0 (replicate n nack.Unbound) ≡ 0
no_states zero = refl
no_states (suc n) = no_states n

pub start_greatest : (threads later : ℕ) → greatest (start_opening threads later) ≡ 0
start_greatest threads later = λ i. max (no_stamps later (range_with_len 0 threads) i) (no_states (threads * 64) i)

pub start_threads : (threads later : ℕ) → length (start_opening threads later).threads ≡ threads
start_threads threads later = length-map-range_with_len (first_life later) 0 threads

course_first : (b : Bool) → course_word (cond b Unstarted (Running 0)) ≡ course_word (course_for (cond b life.Unstarted life.Running) 0)
course_first true = refl
course_first false = refl

nothing_says : nack_word Unbound ≡ 0
unfolding nack_word
nothing_says = refl

first_words : (threads rows later : ℕ) → AreFirstWords (start_opening threads later) (start_table threads rows later)
first_words threads rows later = record {
  sized = length_start threads rows later;
  blank = start_word threads rows later;
  nacks = λ n e. start_nack threads rows later n e ∙ sym nothing_says ∙ ap (λ (s : NackState). nack_word (word_for s)) (sym (first_state threads later n));
  lives = λ p h.
      start_life threads rows later p h
      ∙ course_first (waits later p)
      ∙ ap (λ (x : Life × ℕ). course_word (course_for x.0 x.1)) (sym (first_thread threads later p h));
}

start_low : (threads later : ℕ) → greatest (start_opening threads later) ≤ 4294967295
start_low threads later = let z = start_greatest threads later in omega arith

pub start_course : (threads rows later p : ℕ) → p < threads → course_at (start_table threads rows later) p ≡ cond (waits later p) Unstarted (Running 0)
start_course threads rows later p h =
    first_course (start_opening threads later) (start_table threads rows later) (first_words threads rows later) (start_low threads later) p h
    ∙ ap (λ (x : Life × ℕ). course_for x.0 x.1) (first_thread threads later p h)
    ∙ by_mask (waits later p)
  where
    by_mask : (b : Bool) → course_for (cond b life.Unstarted life.Running) 0 ≡ cond b Unstarted (Running 0)
    by_mask true = refl
    by_mask false = refl

pub start_binding : (threads rows later : ℕ) (n : NackName) → binding_at (start_table threads rows later) n ≡ None
start_binding threads rows later = first_binding (start_opening threads later) (start_table threads rows later) (first_words threads rows later) (start_low threads later)

pub start_cell : (threads rows later : ℕ) (r : Row) → cell_at (start_table threads rows later) r ≡ Fresh
start_cell threads rows later = first_cell (start_opening threads later) (start_table threads rows later) (first_words threads rows later) (start_low threads later)

start_carried : (threads rows later : ℕ) (n : NackName) → carried_at (start_table threads rows later) n ≡ None
start_carried threads rows later n = ⊎_elim
    (λ (e : is_nack (start_table threads rows later) n ≡ true).
    first_carried (start_opening threads later) (start_table threads rows later) (first_words threads rows later) (start_low threads later) n e
    ∙ ap (λ (s : NackState). carried_by (word_for s)) (first_state threads later n))
    (λ (e : is_nack (start_table threads rows later) n ≡ false). carried_is (start_table threads rows later) n ∙ ap carried_by (says_outside (start_table threads rows later) n e))
    (cases_Bool (is_nack (start_table threads rows later) n))

pub first_uncarried : (threads rows seats later : ℕ) (n : NackName) → carried_at (start_world threads rows seats later).table n ≡ None
unfolding start_world
first_uncarried threads rows seats later n = start_carried threads rows later n

-- where no row is joined there are no commits
none_told : (rows : List Row) (joined : Row → Option Joined) (offer : Row → ℕ → Option Offer) → ((r : Row) → joined r ≡ None) → commits_of rows joined offer ≡ []
unfolding told_at
none_told [] joined offer none = refl
none_told (r ∷ rows) joined offer none =
    ap (λ (o : Option Joined). option_to_list (told_by joined offer r o) ++ commits_of rows joined offer) (none r) ∙ none_told rows joined offer none

pub start_empty : (threads rows seats later : ℕ) → commits_in (ledger_of (start_world threads rows seats later).table) ≡ []
unfolding start_world
start_empty threads rows seats later =
    none_told (rows_in (ledger_of (start_table threads rows later))) (joined_in (ledger_of (start_table threads rows later))) (offer_in (ledger_of (start_table threads rows later)))
    (λ r. ap (λ (f : Row → Option Joined). f r) (joined_in_ledger (start_table threads rows later)) ∙ ap joined_of (start_cell threads rows later r))

held_nowhere : (threads rows seats later : ℕ) (r : Row) → is_row (start_table threads rows later) r ≡ false → holder_at (start_world threads rows seats later) r ≡ None
unfolding holder_at start_world
held_nowhere threads rows seats later r h = ap (λ b. cond b (get_or (map (first_holder seats later) (all_rows threads rows)) (number_of rows r) None) None) h

pub start_holder : (threads rows seats later : ℕ) (r : Row) → r.thread < threads → r.sync < rows → holder_at (start_world threads rows seats later) r ≡ first_holder seats later r
unfolding holder_at start_world is_row
start_holder threads rows seats later r h k =
    ap (λ b. cond b (get_or (map (first_holder seats later) (all_rows threads rows)) (number_of rows r) None) None) (and_from _ _ (lt-ltb r.thread threads h) (lt-ltb r.sync rows k))
    ∙ at_number (first_holder seats later) threads rows r None h k

pub length_holders : (threads rows seats later : ℕ) → length (map (first_holder seats later) (all_rows threads rows)) ≡ threads * rows
length_holders threads rows seats later = length-map (all_rows threads rows) (first_holder seats later) ∙ length_all threads rows

-- a first table goes on from that opening
first_held : (threads later seats : ℕ) (r : Row) → r.thread < threads → first_holder seats later r ≡ held_first (start_opening threads later) seats r
first_held threads later seats r h =
    by_mask (waits later r.thread) (eqb r.sync 0) (Some (r.thread % seats))
    ∙ ap (λ (x : Life × ℕ). cond (eqb r.sync 0 && is_running x.0) (Some (r.thread % seats)) None) (sym (first_thread threads later r.thread h))
  where
    by_mask : (b zeroth : Bool) (seat : Option ℕ) → cond b None (cond zeroth seat None) ≡ cond (zeroth && is_running (cond b life.Unstarted life.Running)) seat None
    by_mask true true seat = refl
    by_mask true false seat = refl
    by_mask false true seat = refl
    by_mask false false seat = refl

pub start_begins : (threads rows seats later : ℕ) → Begins (start_opening threads later) rows seats (start_world threads rows seats later)
unfolding start_world
start_begins threads rows seats later = record {
  threads = sym (start_threads threads later);
  rows_are = refl;
  seats_are = refl;
  opening = sym (start_greatest threads later);
  words = first_words threads rows later;
  all_rows = length_holders threads rows seats later;
  held = λ r e.
      let inside = row_inside (start_table threads rows later) r e in
      start_holder threads rows seats later r inside.0 inside.1 ∙ first_held threads later seats r inside.0;
  lasts = ap (λ n. replicate n None) (sym (start_threads threads later));
}

pub kept_start : (threads rows seats later : ℕ) → threads ≤ 64 → rows ≤ 1024 → Kept (start_world threads rows seats later)
kept_start threads rows seats later a b =
    let n = start_threads threads later in
    let z = start_greatest threads later in
    let few : threads * rows ≤ 64 * rows = mul-le-mul_right rows a in
    let same : length (start_opening threads later).threads * rows ≡ threads * rows = ap (λ m. m * rows) n in
    kept_begins (start_opening threads later) rows seats (start_world threads rows seats later) (omega arith) b (omega arith) (start_begins threads rows seats later)

pub begins_empty : (o : Opening) (rows seats : ℕ) (w : World) → IsOpening o rows → Begins o rows seats w → commits_in (ledger_of w.table) ≡ []
begins_empty o rows seats w opens begins =
    let room = opens.room in
    none_told (rows_in (ledger_of w.table)) (joined_in (ledger_of w.table)) (offer_in (ledger_of w.table))
    (λ r. ap (λ (f : Row → Option Joined). f r) (joined_in_ledger w.table) ∙ ap joined_of (first_cell o w.table begins.words (omega arith) r))

pub kept_opening : (o : Opening) (rows seats : ℕ) (w : World) → IsOpening o rows → rows ≤ 1024 → Begins o rows seats w → Kept w
kept_opening o rows seats w opens few begins = kept_begins o rows seats w opens.few few opens.room begins

-- THE LAW OF ALL SCHEDULES

pub lawful_ledger : (t : Table) → Linked t.threads t.rows (cell_at t) (offer_at t) (marks_at t) → IsLawful (ledger_of t)
unfolding ledger_of
lawful_ledger t l =
    subst (λ (z : (Row → Option Joined) × (Row → ℕ → Option Offer) × Marks). Lawful (all_rows t.threads t.rows) z.0 z.1 z.2)
    (λ i. (sym (joined_in_ledger t) i, sym (offer_in_ledger t) i, sym (marks_in_ledger t) i))
    (lawful_linked t.threads t.rows (cell_at t) (offer_at t) (marks_at t) l)

pub lawful_schedule : (o : Opening) (rows seats : ℕ) (steps : List (Seat × Step)) (b w : World) → IsOpening o rows → rows ≤ 1024 → Begins o rows seats b → Plays b steps w → IsLawful (ledger_of w.table)
lawful_schedule o rows seats steps b w opens few begins p = lawful_ledger w.table (kept_schedule b w steps (kept_opening o rows seats b opens few begins) p).linked

pub lawful_from_start : (threads rows seats later : ℕ) (steps : List (Seat × Step)) (w : World) → threads ≤ 64 → rows ≤ 1024 → Plays (start_world threads rows seats later) steps w → IsLawful (ledger_of w.table)
lawful_from_start threads rows seats later steps w a b p = lawful_ledger w.table (kept_schedule (start_world threads rows seats later) w steps (kept_start threads rows seats later a b) p).linked

-- the words of a start have a lawful ledger
pub lawful_start : (threads rows later : ℕ) (words : List ℕ) → threads ≤ 64 → rows ≤ 1024 → words ≡ with_lives later rows threads (replicate (threads * thread_len rows) 0) → IsLawful (ledger_of (record { threads = threads; rows = rows; words = words; opening = 0 }))
unfolding start_world
lawful_start threads rows later words a b e =
    subst (λ (ws : List ℕ). IsLawful (ledger_of (record { threads = threads; rows = rows; words = ws; opening = 0 }))) (sym e)
    (lawful_ledger (start_table threads rows later) (kept_start threads rows 1 later a b).linked)
