-- Tables that are shorter than they say: a row has room for few offers, and a thread has words for few rows. Where their words
-- lie, and the table that they stand for, in which the words that are not there are 0.
use Rattle.std.specs.Prelude.{ℕ, zero, suc, ◌+◌, ◌-◌, ◌*◌, ◌<◌, ◌≤◌, ◌≡◌, List, [], ◌++◌, drop, get_or, replicate, take}
use Rattle.protocol_values.specs.declared.NackName.{NackName}
use Rattle.protocol_values.specs.declared.Row.{Row}
use Rattle.protocol_ledger.specs.declared.layout.Layout.{Layout}
use Rattle.protocol_ledger.specs.Tables.{Table}

-- how many words a row has that has room for so many offers: its cell, their number, and four for each
abbrev pub row_len : ℕ → ℕ
row_len offers = 2 + 4 * offers

-- for how many rows a thread has words
abbrev pub rows_of : Layout → ℕ → ℕ
rows_of y thread = get_or y.lens thread 0

-- it has words for the row
abbrev pub HasWords : Layout → Row → Type 0
HasWords y r = r.sync < rows_of y r.thread

-- how many words a thread has
abbrev pub thread_words : Layout → ℕ → ℕ
thread_words y thread = rows_of y thread * row_len y.offers + 65

-- how many words the threads below this one have: where its own start
abbrev pub words_below : Layout → ℕ → ℕ
words_below y zero = 0
words_below y (suc thread) = words_below y thread + thread_words y thread

-- where the word of a row at a place lies, that of a nack, and that of a thread's life
abbrev pub short_place : Layout → Row → ℕ → ℕ
short_place y r place = words_below y r.thread + r.sync * row_len y.offers + place

abbrev pub short_nack_place : Layout → NackName → ℕ
short_nack_place y n = words_below y n.thread + rows_of y n.thread * row_len y.offers + n.k

abbrev pub short_course_place : Layout → ℕ → ℕ
short_course_place y thread = words_below y thread + rows_of y thread * row_len y.offers + 64

-- no row has room for more offers than rows can have, and no thread has words for more rows than there are
abbrev pub Fits : Layout → ℕ → Type 0
Fits y rows = (y.offers ≤ 8) × ((thread : ℕ) → rows_of y thread ≤ rows)

-- the layout of a table whose threads have words for all rows
abbrev pub even : ℕ → ℕ → Layout
even offers rows = record { offers = offers; lens = replicate 64 rows }

-- the list says where the words of each thread start, and last where they all end
abbrev pub AreStarts : Layout → List ℕ → Type 0
AreStarts y starts = (thread : ℕ) → thread ≤ 64 → get_or starts thread 0 ≡ words_below y thread

-- behind the words of each row stand zeros
abbrev pub wide_rows : ℕ → ℕ → List ℕ → List ℕ
wide_rows len zero words = []
wide_rows len (suc rows) words = take len words ++ (replicate (34 - len) 0 ++ wide_rows len rows (drop len words))

-- and behind a thread's rows zeros for those that it has no words for; its nacks and its life follow as they are
abbrev pub wide_thread : ℕ → ℕ → ℕ → List ℕ → List ℕ
wide_thread len few rows words = wide_rows len few words ++ (replicate ((rows - few) * 34) 0 ++ take 65 (drop (few * len) words))

-- the words of all threads
unfoldable pub widen : Layout → ℕ → ℕ → List ℕ → List ℕ
widen y rows zero words = []
widen y rows (suc thread) words = widen y rows thread words ++ wide_thread (row_len y.offers) (rows_of y thread) rows (drop (words_below y thread) words)

-- the table for which these words stand
abbrev pub wide_table : Layout → Table → Table
wide_table y t = record t { words = widen y t.rows t.threads t.words }
