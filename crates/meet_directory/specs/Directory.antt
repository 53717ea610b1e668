-- The directory of who offers where: what its words say, what a pass has written and read there, and the rule.
use Rattle.std.specs.Prelude.{◌≡◌, ◌⊎◌, ℕ, ◌+◌, ◌<◌, ◌≤◌, List, [], ◌∷◌, ◌++◌, length, slice_index}
use Rattle.std.specs.Int.{bit_at}
use mathlib.Core.Option.{some}
use lib.ListN.{get_elem?}
use Rattle.atomic_table.specs.Table.{State, Me, Step}
use Rattle.meet_directory.specs.declared.view.Glimpse.{Glimpse}
use Rattle.meet_directory.specs.declared.view.View.{View}

-- x is in the list
abbrev pub Has : {A : Type 0} → List A → A → Type 0
Has [] x = ⊥
Has (y ∷ ys) x = (y ≡ x) ⊎ Has ys x

-- What a word that is x says at least, where n was written there or read there before: the word of a thread counts the rows that it
-- has opened; that of a side has a bit for each thread that ever offered there.
abbrev pub Covers : ℕ → ℕ → ℕ → Type 0
Covers word x n = (word < 64 → n ≤ x) × (64 ≤ word → (t : ℕ) → bit_at n t ≤ bit_at x t)

-- what was read shows whatever of these marks stands in the word that was read
abbrev pub Shows : Glimpse → List (ℕ × ℕ) → Type 0
Shows a marks = (n : ℕ) → Has marks (a.word, n) → Covers a.word a.found n

-- ONE SAW THE OTHER: of two looks, one found what the pass of the other had written before it looked
abbrev pub OneSaw : Glimpse → Glimpse → Type 0
OneSaw a b = Shows a b.marks ⊎ Shows b a.marks

-- so it is of any two looks that the pass knows of
abbrev pub Coherent : View → Type 0
Coherent v = (a b : Glimpse) → Has v.looks a → Has v.looks b → OneSaw a b

-- The rule. Words only grow, so what was written stands; whoever looks has written all that the look has beside it; and of any two
-- looks one saw the other.
pub record Keeps (sides : ℕ) (s : State (Unit {0}) View) : Type 0 where
  pub sized : length s.words ≡ 64 + sides
  pub written : (id : ℕ) (v : View) (i n : ℕ) → get_elem? s.views id ≡ some v → Has v.marks (i, n) → Covers i (slice_index s.words i) n
  pub own : (id : ℕ) (v : View) (a : Glimpse) (i n : ℕ) → get_elem? s.views id ≡ some v → Has v.looks a → Has a.marks (i, n) → Has v.marks (i, n)
  pub one_saw : (i j : ℕ) (u v : View) (a b : Glimpse) → get_elem? s.views i ≡ some u → get_elem? s.views j ≡ some v → Has u.looks a → Has v.looks b → OneSaw a b

-- VIEWS

abbrev pub nothing : View
nothing = record { marks = []; looks = [] }

-- this stands in the word
abbrev pub marked : ℕ → ℕ → View → View
marked word n v = record v { marks = (word, n) ∷ v.marks }

-- the word was read, beside all that the pass had written or read by then
abbrev pub glimpse : ℕ → ℕ → View → Glimpse
glimpse word found v = record { marks = v.marks; word = word; found = found }

abbrev pub saw : ℕ → ℕ → View → View
saw word found v = record { marks = (word, found) ∷ v.marks; looks = glimpse word found v ∷ v.looks }

abbrev pub heard : View → View → View
heard v told = record { marks = v.marks ++ told.marks; looks = v.looks ++ told.looks }

-- WHAT A STEP TELLS

abbrev pub Sitting : Type 0
Sitting = Me (Unit {0}) View

abbrev pub has_marked : Step (Unit {0}) → Sitting → ℕ → Sitting → Type 0
has_marked st m n w = w ≡ (marked st.word st.first m.0, m.1)

abbrev pub has_seen : Step (Unit {0}) → Sitting → ℕ → Sitting → Type 0
has_seen st m n w = w ≡ (saw st.word n m.0, m.1)

abbrev pub has_glanced : Step (Unit {0}) → Sitting → ℕ → Sitting → Type 0
has_glanced st m n w = (w ≡ (saw st.word n m.0, m.1)) × Coherent w.0

-- ROWS

-- the number n has bit t
abbrev pub HasBit : ℕ → ℕ → Type 0
HasBit n t = bit_at n t ≡ 1

-- none of the threads from one on, and below another, has its bit set
abbrev pub NoBitBetween : ℕ → ℕ → ℕ → Type 0
NoBitBetween n from to = (t : ℕ) → from ≤ t → t < to → ¬ HasBit n t

-- it is the first thread from this one on whose bit is set
abbrev pub IsNextBit : ℕ → ℕ → ℕ → Type 0
IsNextBit n from t = (from ≤ t) × (t < 64) × HasBit n t × NoBitBetween n from t

-- the thread is known to have opened its row g, and to offer on side l
abbrev pub Opened : List (ℕ × ℕ) → ℕ → ℕ → Type 0
Opened marks t g = (n : ℕ) × Has marks (t, n) × (g < n)

abbrev pub Offered : List (ℕ × ℕ) → ℕ → ℕ → Type 0
Offered marks t l = (n : ℕ) × Has marks (64 + l, n) × HasBit n t

-- row g of thread t, which offers on side l, has been published
abbrev pub Published : List (ℕ × ℕ) → ℕ → ℕ → ℕ → Type 0
Published marks t g l = Opened marks t g × Offered marks t l

-- WHO WAS MISSED: the pass had published row g of thread t on side l, and then found no row h of thread u on side k: no bit for the
-- thread there, or no so late row of it.
abbrev pub Missed : View → ℕ → ℕ → ℕ → ℕ → ℕ → ℕ → Type 0
Missed v t g l u h k =
    (a : Glimpse) × Has v.looks a × Published a.marks t g l
    × (((a.word ≡ 64 + k) × (¬ HasBit a.found u)) ⊎ ((a.word ≡ u) × (a.found ≤ h)))

-- NOBODY IS MISSED BY BOTH: of two rows that were published and then looked for each other, one found the other.
abbrev pub NoPairMissed : View → Type 0
NoPairMissed v = (t g l u h k : ℕ) → t < 64 → u < 64 → Missed v t g l u h k → Missed v u h k t g l → ⊥

-- IN GENERAL: whoever had written all of `mine` looked at a word where one of `theirs` is written, and did not find it there.
abbrev pub Overlooked : View → List (ℕ × ℕ) → List (ℕ × ℕ) → Type 0
Overlooked v mine theirs =
    (a : Glimpse) × Has v.looks a × ((i n : ℕ) → Has mine (i, n) → (m : ℕ) × Has a.marks (i, m) × Covers i m n)
    × ((n : ℕ) × Has theirs (a.word, n) × (¬ Covers a.word a.found n))

-- of two who wrote and then looked for what the other wrote, not both overlooked it
abbrev pub NothingOverlooked : View → Type 0
NothingOverlooked v = (mine theirs : List (ℕ × ℕ)) → Overlooked v mine theirs → Overlooked v theirs mine → ⊥
