-- Where words lie: no two of them at one place.
use Rattle.std.proofs.Common.{get_or, ◌≡◌, ℕ, ◌+◌, ◌*◌, ◌<◌, ◌≤◌, true, false, ltb, length, sym, refl, ap, ◌⊎◌, ⊎_elim, arith}
use Rattle.std.proofs.lemmas.Bool.{cases_order, ltb-true, lt-ltb, and_parts, and_from}
use Rattle.std.proofs.lemmas.List.{get_or-set_same, get_or-set_other}
use Rattle.std.proofs.Math.Nat.{mul-le-mul_right}
use Rattle.protocol_values.specs.declared.Row.{Row}
use Rattle.protocol_values.specs.declared.NackName.{NackName}
use Rattle.protocol_values.specs.declared.Binding.{Binding}
use Rattle.protocol_values.specs.declared.NackWord.TheVariants.{Bound}
use Rattle.protocol_values.specs.declared.Course.{Course}
use Rattle.protocol_values.specs.Words.{course_word, nack_word}
use Rattle.protocol_ledger.specs.Tables.{Table, thread_len, place_of, nack_place, course_place, is_row, is_nack, word_at, nack_at, row_eq}
use Rattle.protocol_ledger.specs.Worlds.{with_word, with_nack, with_course}
use Rattle.protocol_ledger.proofs.RowLemmas.{row_eq-false, same_row}

pub row_inside : (t : Table) (r : Row) → is_row t r ≡ true → (r.thread < t.threads) × (r.sync < t.rows)
unfolding is_row
row_inside t r h =
    let p = and_parts (ltb r.thread t.threads) (ltb r.sync t.rows) h in
    (ltb-true r.thread t.threads p.0, ltb-true r.sync t.rows p.1)

pub row_from : (t : Table) (r : Row) → r.thread < t.threads → r.sync < t.rows → is_row t r ≡ true
unfolding is_row
row_from t r h k = and_from _ _ (lt-ltb r.thread t.threads h) (lt-ltb r.sync t.rows k)

pub nack_inside : (t : Table) (n : NackName) → is_nack t n ≡ true → (n.thread < t.threads) × (n.k < 64)
unfolding is_nack
nack_inside t n h =
    let p = and_parts (ltb n.thread t.threads) (ltb n.k 64) h in
    (ltb-true n.thread t.threads p.0, ltb-true n.k 64 p.1)

-- a number of blocks and a rest below the block's length are unique
blocks_differ : (a b u v len : ℕ) → a < b → u < len → a * len + u ≡ b * len + v → ⊥
blocks_differ a b u v len h k e =
    let up : (a + 1) * len ≤ b * len = mul-le-mul_right len (let s : a + 1 ≤ b = omega arith in s) in
    absurd (omega arith)

pub same_block : (a b u v len : ℕ) → u < len → v < len → a * len + u ≡ b * len + v → a ≡ b
same_block a b u v len h k e = ⊎_elim
    (λ (c : a ≡ b). c)
    (λ (c : (a < b) ⊎ (b < a)). ⊎_elim
    (λ (d : a < b). absurd (blocks_differ a b u v len d h e))
    (λ (d : b < a). absurd (blocks_differ b a v u len d k (sym e)))
    c)
    (cases_order a b)

pub same_rest : (a b u v len : ℕ) → u < len → v < len → a * len + u ≡ b * len + v → u ≡ v
same_rest a b u v len h k e =
    let c : a ≡ b = same_block a b u v len h k e in
    let d : a * len ≡ b * len = ap (λ n. n * len) c in
    omega arith

-- the words of a row, within its thread's
row_rest : (rows sync place : ℕ) → sync < rows → place < 34 → sync * 34 + place < rows * 34
row_rest rows sync place h k = omega arith

-- a place of the table is within its words
pub block_inside : (a n u len : ℕ) → a < n → u < len → a * len + u < n * len
block_inside a n u len h k =
    let up : (a + 1) * len ≤ n * len = mul-le-mul_right len (let s : a + 1 ≤ n = omega arith in s) in
    omega arith

pub place_inside : (t : Table) (r : Row) (place : ℕ) → is_row t r ≡ true → place < 34 → place_of t.rows r place < t.threads * thread_len t.rows
place_inside t r place h k =
    let in_t = row_inside t r h in
    let rest = row_rest t.rows r.sync place in_t.1 k in
    let b = block_inside r.thread t.threads (r.sync * 34 + place) (thread_len t.rows) in_t.0 (omega arith) in
    omega arith

pub nack_place_inside : (t : Table) (n : NackName) → is_nack t n ≡ true → nack_place t.rows n < t.threads * thread_len t.rows
nack_place_inside t n h =
    let in_t = nack_inside t n h in
    let b = block_inside n.thread t.threads (t.rows * 34 + n.k) (thread_len t.rows) in_t.0 (omega arith) in
    omega arith

pub same_place : (t : Table) (r x : Row) (p q : ℕ) → is_row t r ≡ true → is_row t x ≡ true → p < 34 → q < 34 → place_of t.rows r p ≡ place_of t.rows x q → (r ≡ x) × (p ≡ q)
same_place t r x p q h k a b e =
    let in_r = row_inside t r h in
    let in_x = row_inside t x k in
    let u = row_rest t.rows r.sync p in_r.1 a in
    let v = row_rest t.rows x.sync q in_x.1 b in
    let whole : r.thread * thread_len t.rows + (r.sync * 34 + p) ≡ x.thread * thread_len t.rows + (x.sync * 34 + q) = omega arith in
    let threads = same_block r.thread x.thread (r.sync * 34 + p) (x.sync * 34 + q) (thread_len t.rows) (omega arith) (omega arith) whole in
    let rest = same_rest r.thread x.thread (r.sync * 34 + p) (x.sync * 34 + q) (thread_len t.rows) (omega arith) (omega arith) whole in
    (same_row r x threads (omega arith), omega arith)

pub nack_apart : (t : Table) (r : Row) (p : ℕ) (n : NackName) → is_row t r ≡ true → is_nack t n ≡ true → p < 34 → nack_place t.rows n ≡ place_of t.rows r p → ⊥
nack_apart t r p n h k a e =
    let in_r = row_inside t r h in
    let in_n = nack_inside t n k in
    let u = row_rest t.rows r.sync p in_r.1 a in
    let whole : n.thread * thread_len t.rows + (t.rows * 34 + n.k) ≡ r.thread * thread_len t.rows + (r.sync * 34 + p) = omega arith in
    let rest = same_rest n.thread r.thread (t.rows * 34 + n.k) (r.sync * 34 + p) (thread_len t.rows) (omega arith) (omega arith) whole in
    absurd (omega arith)

-- nacks have places of their own
pub same_nack_place : (t : Table) (n m : NackName) → is_nack t n ≡ true → is_nack t m ≡ true → nack_place t.rows n ≡ nack_place t.rows m → (n.thread ≡ m.thread) × (n.k ≡ m.k)
same_nack_place t n m h k e =
    let in_n = nack_inside t n h in
    let in_m = nack_inside t m k in
    let whole : n.thread * thread_len t.rows + (t.rows * 34 + n.k) ≡ m.thread * thread_len t.rows + (t.rows * 34 + m.k) = omega arith in
    let threads = same_block n.thread m.thread (t.rows * 34 + n.k) (t.rows * 34 + m.k) (thread_len t.rows) (omega arith) (omega arith) whole in
    let rest = same_rest n.thread m.thread (t.rows * 34 + n.k) (t.rows * 34 + m.k) (thread_len t.rows) (omega arith) (omega arith) whole in
    (threads, omega arith)

-- lives have places of their own
pub course_place_inside : (t : Table) (p : ℕ) → p < t.threads → course_place t.rows p < t.threads * thread_len t.rows
course_place_inside t p h =
    let b = block_inside p t.threads (t.rows * 34 + 64) (thread_len t.rows) h (omega arith) in
    omega arith

pub course_apart : (t : Table) (r : Row) (q p : ℕ) → is_row t r ≡ true → q < 34 → course_place t.rows p ≡ place_of t.rows r q → ⊥
course_apart t r q p h a e =
    let in_r = row_inside t r h in
    let u = row_rest t.rows r.sync q in_r.1 a in
    let whole : p * thread_len t.rows + (t.rows * 34 + 64) ≡ r.thread * thread_len t.rows + (r.sync * 34 + q) = omega arith in
    let rest = same_rest p r.thread (t.rows * 34 + 64) (r.sync * 34 + q) (thread_len t.rows) (omega arith) (omega arith) whole in
    absurd (omega arith)

pub course_nack_apart : (t : Table) (n : NackName) (p : ℕ) → is_nack t n ≡ true → course_place t.rows p ≡ nack_place t.rows n → ⊥
course_nack_apart t n p h e =
    let in_n = nack_inside t n h in
    let whole : p * thread_len t.rows + (t.rows * 34 + 64) ≡ n.thread * thread_len t.rows + (t.rows * 34 + n.k) = omega arith in
    let rest = same_rest p n.thread (t.rows * 34 + 64) (t.rows * 34 + n.k) (thread_len t.rows) (omega arith) (omega arith) whole in
    absurd (omega arith)

pub same_course_place : (rows p q : ℕ) → course_place rows p ≡ course_place rows q → p ≡ q
same_course_place rows p q e =
    let whole : p * thread_len rows + (rows * 34 + 64) ≡ q * thread_len rows + (rows * 34 + 64) = omega arith in
    same_block p q (rows * 34 + 64) (rows * 34 + 64) (thread_len rows) (omega arith) (omega arith) whole

-- A WRITE to one word

pub is_row_after : (t : Table) (x r : Row) (p v : ℕ) → is_row (with_word t x p v) r ≡ is_row t r
unfolding is_row
is_row_after t x r p v = refl

pub is_nack_after : (t : Table) (x : Row) (n : NackName) (p v : ℕ) → is_nack (with_word t x p v) n ≡ is_nack t n
unfolding is_nack
is_nack_after t x n p v = refl

pub word_same : (t : Table) (x : Row) (p v : ℕ) → length t.words ≡ t.threads * thread_len t.rows → is_row t x ≡ true → p < 34 → word_at (with_word t x p v) x p ≡ v
unfolding word_at
word_same t x p v s h k =
    let inside = place_inside t x p h k in
    get_or-set_same t.words (place_of t.rows x p) v 0 (omega arith)

pub word_other : (t : Table) (x r : Row) (p q v : ℕ) → is_row t x ≡ true → is_row t r ≡ true → p < 34 → q < 34 → (row_eq r x ≡ false) ⊎ (q ≡ p → ⊥) → word_at (with_word t x p v) r q ≡ word_at t r q
unfolding word_at
word_other t x r p q v h k a b n =
    get_or-set_other t.words (place_of t.rows x p) (place_of t.rows r q) v 0 (λ e.
    let same = same_place t r x q p k h b a e in
    ⊎_elim (λ (d : row_eq r x ≡ false). row_eq-false r x d same.0) (λ (d : q ≡ p → ⊥). d same.1) n)

pub nack_other : (t : Table) (x : Row) (n : NackName) (p v : ℕ) → is_row t x ≡ true → is_nack t n ≡ true → p < 34 → nack_at (with_word t x p v) n ≡ nack_at t n
unfolding nack_at
nack_other t x n p v h k a = get_or-set_other t.words (place_of t.rows x p) (nack_place t.rows n) v 0 (λ e. nack_apart t x p n h k a e)

pub life_other : (t : Table) (x : Row) (p q v : ℕ) → is_row t x ≡ true → p < 34 → get_or (with_word t x p v).words (course_place t.rows q) 0 ≡ get_or t.words (course_place t.rows q) 0
life_other t x p q v h a = get_or-set_other t.words (place_of t.rows x p) (course_place t.rows q) v 0 (λ e. course_apart t x p q h a e)

-- A NACK IS BOUND

pub is_row_bound : (t : Table) (m : NackName) (b : Binding) (r : Row) → is_row (with_nack t m b) r ≡ is_row t r
unfolding is_row with_nack
is_row_bound t m b r = refl

pub is_nack_bound : (t : Table) (m : NackName) (b : Binding) (n : NackName) → is_nack (with_nack t m b) n ≡ is_nack t n
unfolding is_nack with_nack
is_nack_bound t m b n = refl

pub word_bound : (t : Table) (m : NackName) (b : Binding) (r : Row) (p : ℕ) → is_nack t m ≡ true → is_row t r ≡ true → p < 34 → word_at (with_nack t m b) r p ≡ word_at t r p
unfolding word_at with_nack
word_bound t m b r p h k a =
    get_or-set_other t.words (nack_place t.rows m) (place_of t.rows r p) (nack_word (Bound b)) 0 (λ e. nack_apart t r p m k h a (sym e))

pub nack_bound : (t : Table) (m : NackName) (b : Binding) → length t.words ≡ t.threads * thread_len t.rows → is_nack t m ≡ true → nack_at (with_nack t m b) m ≡ nack_word (Bound b)
unfolding nack_at with_nack
nack_bound t m b s h =
    let inside = nack_place_inside t m h in
    get_or-set_same t.words (nack_place t.rows m) (nack_word (Bound b)) 0 (omega arith)

pub nack_bound_other : (t : Table) (m n : NackName) (b : Binding) → is_nack t m ≡ true → is_nack t n ≡ true → ((n.thread ≡ m.thread) × (n.k ≡ m.k) → ⊥) → nack_at (with_nack t m b) n ≡ nack_at t n
unfolding nack_at with_nack
nack_bound_other t m n b h k d =
    get_or-set_other t.words (nack_place t.rows m) (nack_place t.rows n) (nack_word (Bound b)) 0 (λ e. d (same_nack_place t n m k h e))

pub life_bound : (t : Table) (m : NackName) (b : Binding) (q : ℕ) → is_nack t m ≡ true → get_or (with_nack t m b).words (course_place t.rows q) 0 ≡ get_or t.words (course_place t.rows q) 0
unfolding with_nack
life_bound t m b q h = get_or-set_other t.words (nack_place t.rows m) (course_place t.rows q) (nack_word (Bound b)) 0 (λ e. course_nack_apart t m q h e)

-- A LIFE IS WRITTEN

pub is_row_lived : (t : Table) (p : ℕ) (c : Course) (r : Row) → is_row (with_course t p c) r ≡ is_row t r
unfolding is_row with_course
is_row_lived t p c r = refl

pub is_nack_lived : (t : Table) (p : ℕ) (c : Course) (n : NackName) → is_nack (with_course t p c) n ≡ is_nack t n
unfolding is_nack with_course
is_nack_lived t p c n = refl

pub word_lived : (t : Table) (p : ℕ) (c : Course) (r : Row) (q : ℕ) → is_row t r ≡ true → q < 34 → word_at (with_course t p c) r q ≡ word_at t r q
unfolding word_at with_course
word_lived t p c r q h a = get_or-set_other t.words (course_place t.rows p) (place_of t.rows r q) (course_word c) 0 (λ e. course_apart t r q p h a (sym e))

pub nack_lived : (t : Table) (p : ℕ) (c : Course) (n : NackName) → is_nack t n ≡ true → nack_at (with_course t p c) n ≡ nack_at t n
unfolding nack_at with_course
nack_lived t p c n h = get_or-set_other t.words (course_place t.rows p) (nack_place t.rows n) (course_word c) 0 (λ e. course_nack_apart t n p h (sym e))

pub life_lived : (t : Table) (p : ℕ) (c : Course) → length t.words ≡ t.threads * thread_len t.rows → p < t.threads → get_or (with_course t p c).words (course_place t.rows p) 0 ≡ course_word c
unfolding with_course
life_lived t p c s h =
    let inside = course_place_inside t p h in
    get_or-set_same t.words (course_place t.rows p) (course_word c) 0 (omega arith)

pub life_lived_other : (t : Table) (p q : ℕ) (c : Course) → (q ≡ p → ⊥) → get_or (with_course t p c).words (course_place t.rows q) 0 ≡ get_or t.words (course_place t.rows q) 0
unfolding with_course
life_lived_other t p q c n = get_or-set_other t.words (course_place t.rows p) (course_place t.rows q) (course_word c) 0 (λ e. n (same_course_place t.rows q p e))
