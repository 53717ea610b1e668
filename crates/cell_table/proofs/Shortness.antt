-- Words of short rows and threads have places of their own.
use Rattle.std.proofs.Common.{◌≡◌, ℕ, ◌+◌, ◌*◌, ◌<◌, ◌⊎◌, ⊎_elim, ap, arith}
use Rattle.std.proofs.lemmas.Bool.{cases_order}
use Rattle.protocol_values.specs.declared.NackName.{NackName}
use Rattle.protocol_values.specs.declared.Row.{Row}
use Rattle.protocol_ledger.specs.declared.layout.Layout.{Layout}
use Rattle.protocol_ledger.specs.Short.{row_len, rows_of, short_course_place, short_nack_place, short_place, thread_words, words_below}
use Rattle.protocol_ledger.proofs.Places.{block_inside, same_block, same_rest}
use Rattle.protocol_ledger.proofs.RowLemmas.{same_row}
use Rattle.protocol_ledger.proofs.Short.{threads_apart}
use Rattle.cell_table.specs.Told.{Inside, InsideNack}

-- a place is of one thread
same_thread : (y : Layout) (t u i j : ℕ) → i < thread_words y t → j < thread_words y u → words_below y t + i ≡ words_below y u + j → t ≡ u
same_thread y t u i j a b e = ⊎_elim
    (λ (c : t ≡ u). c)
    (λ (c : (t < u) ⊎ (u < t)). ⊎_elim
    (λ (d : t < u). let apart = threads_apart y u t d in absurd (omega arith))
    (λ (d : u < t). let apart = threads_apart y t u d in absurd (omega arith))
    c)
    (cases_order t u)

same_within : (y : Layout) (t u i j : ℕ) → t ≡ u → words_below y t + i ≡ words_below y u + j → i ≡ j
same_within y t u i j same e = let below : words_below y t ≡ words_below y u = ap (words_below y) same in omega arith

pub same_short : (y : Layout) (threads rows : ℕ) (r q : Row) (p o : ℕ) → Inside threads rows y r → Inside threads rows y q → p < row_len y.offers → o < row_len y.offers → short_place y r p ≡ short_place y q o → (r ≡ q) × (p ≡ o)
same_short y threads rows r q p o a b low high e =
    let u = block_inside r.sync (rows_of y r.thread) p (row_len y.offers) a.2 low in
    let v = block_inside q.sync (rows_of y q.thread) o (row_len y.offers) b.2 high in
    let whole : words_below y r.thread + (r.sync * row_len y.offers + p) ≡ words_below y q.thread + (q.sync * row_len y.offers + o) = omega (arith, e) in
    let thread = same_thread y r.thread q.thread (r.sync * row_len y.offers + p) (q.sync * row_len y.offers + o) (omega arith) (omega arith) whole in
    let rest = same_within y r.thread q.thread (r.sync * row_len y.offers + p) (q.sync * row_len y.offers + o) thread whole in
    (same_row r q thread (same_block r.sync q.sync p o (row_len y.offers) low high rest), same_rest r.sync q.sync p o (row_len y.offers) low high rest)

-- and so is one behind a thread's rows

same_behind : (y : Layout) (t u k l : ℕ) → k < 65 → l < 65 → words_below y t + (rows_of y t * row_len y.offers + k) ≡ words_below y u + (rows_of y u * row_len y.offers + l) → (t ≡ u) × (k ≡ l)
same_behind y t u k l a b e =
    let thread = same_thread y t u (rows_of y t * row_len y.offers + k) (rows_of y u * row_len y.offers + l) (omega arith) (omega arith) e in
    let rest = same_within y t u (rows_of y t * row_len y.offers + k) (rows_of y u * row_len y.offers + l) thread e in
    let rows : rows_of y t * row_len y.offers ≡ rows_of y u * row_len y.offers = ap (λ n. rows_of y n * row_len y.offers) thread in
    (thread, omega (arith, rest))

pub same_short_nack : (y : Layout) (threads : ℕ) (n m : NackName) → InsideNack threads n → InsideNack threads m → short_nack_place y n ≡ short_nack_place y m → (n.thread ≡ m.thread) × (n.k ≡ m.k)
same_short_nack y threads n m a b e =
    let low = a.1 in
    let high = b.1 in
    same_behind y n.thread m.thread n.k m.k (omega arith) (omega arith) (omega (arith, e))

pub same_short_course : (y : Layout) (p q : ℕ) → short_course_place y p ≡ short_course_place y q → p ≡ q
same_short_course y p q e = (same_behind y p q 64 64 (omega arith) (omega arith) (omega (arith, e))).0
