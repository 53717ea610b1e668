-- The list of the threads that are to have their first turns.
use Rattle.std.proofs.Common.{◌≡◌, ◌≢◌, ◌<◌, ◌≤◌, ◌+◌, ◌-◌, ◌∙◌, ◌++◌, ◌∷◌, [], ℕ, zero, suc, Bool, true, false, Contains, List, ap, arith, get_or, length, refl, subst, sym, take, ⊎_elim}
use Rattle.std.specs.Prelude.{drop, if◌then◌else◌}
use Rattle.std.specs.List.{AllPairs}
use Rattle.std.proofs.Math.Seq.{get_or-append_seam}
use Rattle.std.proofs.lemmas.Bool.{cases_lt}
use Rattle.std.proofs.lemmas.List.{get_or-drop, get_or_append_left, get_or_default, length-append, length-drop, take_all}
use Rattle.std.proofs.lemmas.List.Elements.{Contains-append_cases, Contains-append_left, Contains-append_right}
use Rattle.protocol_values.specs.declared.Row.{Row}
use Rattle.protocol_ledger.specs.Worlds.{first_row}
use Rattle.cell_table.specs.declared.view.Seen.{Seen}
use Rattle.cell_table.specs.Sight.{Has, see_begun}
use Rattle.cell.specs.Attempts.{Started}
use Rattle.cell.specs.Calls.{GridOf, HoldsAt, IsPassOf, IsRowOf, PassOf}
use Rattle.runtime_worker.specs.declared.resident.Suspended.{Suspended}
use Rattle.runtime_worker.specs.Machines.{AreToBegin, IsTable, IsUntouched, LeavesOthers}
use Rattle.runtime_worker.proofs.Startings.{started_begins, started_leaves}

-- LISTS IN WHICH NONE STANDS TWICE

only_one : (x t : ℕ) → Contains (x ∷ []) t → x ≡ t
only_one x t (zero, low, e) = e
only_one x t (suc k, low, e) = absurd (omega (arith, low))

-- one more behind, which none of them is
apart_more : (xs : List ℕ) (x : ℕ) → AllPairs (λ a b. a ≢ b) xs → ((t : ℕ) → Contains xs t → t ≢ x) → AllPairs (λ a b. a ≢ b) (xs ++ x ∷ [])
apart_more xs x apart new i j d below within = ⊎_elim
    (λ (earlier : j < length xs).
    λ e. apart i j d below earlier (sym (get_or_append_left xs (x ∷ []) d i (omega (arith, below, earlier))) ∙ e ∙ get_or_append_left xs (x ∷ []) d j earlier))
    (λ (last : length xs ≤ j).
    let at : j ≡ length xs = (let size = length-append xs (x ∷ []) in omega (arith, last, within, size)) in
    let low : i < length xs = omega (arith, at, below) in
    λ e. new (get_or xs i d) (i, low, get_or_default xs i (get_or xs i d) d low)
    (sym (get_or_append_left xs (x ∷ []) d i low) ∙ e ∙ ap (λ (k : ℕ). get_or (xs ++ x ∷ []) k d) at ∙ get_or-append_seam xs x [] d))
    (cases_lt j (length xs))

-- all but the last, which is none of them
apart_first : (xs : List ℕ) (x : ℕ) → AllPairs (λ a b. a ≢ b) (xs ++ x ∷ []) → AllPairs (λ a b. a ≢ b) xs
apart_first xs x apart i j d below within e =
    apart i j d below (let size = length-append xs (x ∷ []) in omega (arith, within, size))
    (get_or_append_left xs (x ∷ []) d i (omega (arith, below, within)) ∙ e ∙ sym (get_or_append_left xs (x ∷ []) d j within))

not_last : (xs : List ℕ) (x : ℕ) → AllPairs (λ a b. a ≢ b) (xs ++ x ∷ []) → (t : ℕ) → Contains xs t → t ≢ x
not_last xs x apart t (k, low, e) same =
    apart k (length xs) t low (let size = length-append xs (x ∷ []) in omega (arith, size))
    (get_or_append_left xs (x ∷ []) t k low ∙ e ∙ same ∙ sym (get_or-append_seam xs x [] t))

-- WHO IS TO BEGIN

-- what was done for one thread leaves the others
pub begin_yet : (count t : ℕ) (s u : Seen) (threads : List ℕ) → LeavesOthers t s u → AreToBegin count s threads → ((p : ℕ) → Contains threads p → p ≢ t) → AreToBegin count u threads
begin_yet count t s u threads leaves are others = ((λ p h. let a = are.0 p h in let left = leaves (first_row p) (others p h) a.1 a.2 in (a.0, left.0, left.1)), are.1)

-- one more
pub begin_more : (count : ℕ) (s : Seen) (threads : List ℕ) (p : ℕ) → AreToBegin count s threads → ((t : ℕ) → Contains threads t → t ≢ p) → (p < count) × Has s.held (first_row p) × IsUntouched s (first_row p) → AreToBegin count s (threads ++ p ∷ [])
begin_more count s threads p are new one = (
  λ t h. ⊎_elim
      (λ (old : Contains threads t). are.0 t old)
      (λ (last : Contains (p ∷ []) t). subst (λ (x : ℕ). (x < count) × Has s.held (first_row x) × IsUntouched s (first_row x)) (only_one p t last) one)
      (Contains-append_cases threads (p ∷ []) t h),
  apart_more threads p are.1 new,
)

-- the last one, and those that are left
pub begin_last : (count : ℕ) (s : Seen) (threads left : List ℕ) (p : ℕ) → threads ≡ left ++ p ∷ [] → AreToBegin count s threads
    → AreToBegin count s left × ((t : ℕ) → Contains left t → t ≢ p) × ((p < count) × Has s.held (first_row p) × IsUntouched s (first_row p))
begin_last count s threads left p is are =
    let whole = subst (AreToBegin count s) is are in (
      ((λ t h. whole.0 t (Contains-append_left left (p ∷ []) t h)), apart_first left p whole.1),
      not_last left p whole.1,
      whole.0 p (Contains-append_right left (p ∷ []) p (zero, omega arith, refl)),
    )

pub begin_none : (count : ℕ) (s : Seen) (threads : List ℕ) → threads ≡ [] → AreToBegin count s threads
begin_none count s threads none = subst (AreToBegin count s) (sym none) ((λ t h. let low = h.1 in absurd (omega (arith, low))), λ i j d below within. absurd (omega (arith, within)))

-- a first turn that began with another row leaves them
pub leaves_begun : (r : Row) (s : Seen) → LeavesOthers r.thread s (see_begun r s)
leaves_begun r s x apart held h = (held, (h.0, (λ b. ⊎_elim (λ (e : r ≡ x). apart (ap (λ (y : Row). y.thread) (sym e))) (λ (old : Has s.begun x). h.1 old) b), h.2, h.3))

-- a thread that was started joins them
begin_started : (count : ℕ) (s t : Seen) (place : Row) (p : ℕ) (threads : List ℕ) → Started s t place p true → (p < count) × (place.thread ≢ p) → AreToBegin count s threads → ((x : ℕ) → Contains threads x → x ≢ place.thread)
    → AreToBegin count t (threads ++ p ∷ [])
begin_started count s t place p threads started other are others =
    let begins = started_begins s t place p started other.1 in
    begin_more count t threads p (begin_yet count place.thread s t threads (started_leaves s t place p true started) are others) (λ x h e. let unseen = started.5 in unseen.held (first_row x) (are.0 x h).1 e) (other.0, begins.0, begins.1)

others_more : (threads : List ℕ) (p t : ℕ) → ((x : ℕ) → Contains threads x → x ≢ t) → p ≢ t → (x : ℕ) → Contains (threads ++ p ∷ []) x → x ≢ t
others_more threads p t others apart x h = ⊎_elim (λ (old : Contains threads x). others x old) (λ (last : Contains (p ∷ []) x). λ e. apart (only_one p x last ∙ e)) (Contains-append_cases threads (p ∷ []) x h)

-- also where it was found started, and does not
pub begin_then : (count : ℕ) (s t : Seen) (place : Row) (p : ℕ) (answer : Bool) (threads then_threads : List ℕ) → Started s t place p answer → (p < count) × (place.thread ≢ p) → AreToBegin count s threads
    → ((x : ℕ) → Contains threads x → x ≢ place.thread) → then_threads ≡ (if answer then threads ++ p ∷ [] else threads) → AreToBegin count t then_threads × ((x : ℕ) → Contains then_threads x → x ≢ place.thread)
begin_then count s t place p true threads then_threads started other are others is =
    subst (λ (l : List ℕ). AreToBegin count t l × ((x : ℕ) → Contains l x → x ≢ place.thread)) (sym is)
    (begin_started count s t place p threads started other are others, others_more threads p place.thread others (λ e. other.1 (sym e)))
begin_then count s t place p false threads then_threads started other are others is =
    subst (λ (l : List ℕ). AreToBegin count t l × ((x : ℕ) → Contains l x → x ≢ place.thread)) (sym is) (begin_yet count place.thread s t threads (started_leaves s t place p false started) are others, others)

-- THE FIRST LIST, from the last thread down
pub is_listed : (cells : GridOf Suspended) (p : PassOf Suspended) (t : ℕ) → IsPassOf cells p → IsTable cells → IsRowOf cells (first_row t) → HoldsAt p (first_row t) → ((r : Row) → IsUntouched p.seen r)
    → (t < cells.threads) × Has p.seen.held (first_row t) × IsUntouched p.seen (first_row t)
is_listed cells p t here table within holds untouched =
    (within.0, ⊎_elim (λ (held : Has p.seen.held (first_row t)). held) (λ last. let rows = here.2 in let no : 0 ≡ p.of.rows = last.0 in absurd (let some = table.rows.0 in omega (arith, no, rows, some))) holds, untouched (first_row t))

pub listed_more : (count threads behind : ℕ) (s : Seen) (xs : List ℕ) → behind < threads → AreToBegin count s xs → ((t : ℕ) → Contains xs t → (t < threads) × (threads ≤ t + behind))
    → (threads - 1 - behind < count) × Has s.held (first_row (threads - 1 - behind)) × IsUntouched s (first_row (threads - 1 - behind))
    → AreToBegin count s (xs ++ (threads - 1 - behind) ∷ []) × ((t : ℕ) → Contains (xs ++ (threads - 1 - behind) ∷ []) t → (t < threads) × (threads ≤ t + (behind + 1)))
listed_more count threads behind s xs low are bounds one = (
  begin_more count s xs (threads - 1 - behind) are (λ t h e. let b = bounds t h in let lower = b.1 in omega (arith, lower, e, low)) one,
  λ t h. ⊎_elim
      (λ (old : Contains xs t). let b = bounds t old in let lower = b.1 in (b.0, omega (arith, lower)))
      (λ (last : Contains ((threads - 1 - behind) ∷ []) t). let e = only_one (threads - 1 - behind) t last in (omega (arith, e, low), omega (arith, e, low)))
      (Contains-append_cases xs ((threads - 1 - behind) ∷ []) t h),
)

pub listed_yet : (threads behind : ℕ) (xs : List ℕ) → ((t : ℕ) → Contains xs t → (t < threads) × (threads ≤ t + behind)) → (t : ℕ) → Contains xs t → (t < threads) × (threads ≤ t + (behind + 1))
listed_yet threads behind xs bounds t h = let b = bounds t h in let lower = b.1 in (b.0, omega (arith, lower))

-- WHAT STANDS BEHIND THE FIRST SO MANY
stands_behind : (xs : List ℕ) (had i : ℕ) → i < length (take (length xs - had) (drop had xs)) → Contains (drop had xs) (get_or (take (length xs - had) (drop had xs)) i 0)
stands_behind xs had i low =
    let part = take (length xs - had) (drop had xs) in
    let whole : part ≡ drop had xs = take_all (length xs - had) (drop had xs) (let size = length-drop had xs in omega (arith, size)) in
    subst (λ (l : List ℕ). Contains l (get_or part i 0)) whole (i, low, get_or_default part i (get_or part i 0) 0 low)

-- also as the list is named otherwise
pub stands_there : (xs ys : List ℕ) (had i : ℕ) → xs ≡ ys → i < length (take (length xs - had) (drop had xs)) → Contains (drop had ys) (get_or (take (length xs - had) (drop had xs)) i 0)
stands_there xs ys had i same low = subst (λ (l : List ℕ). Contains (drop had l) (get_or (take (length xs - had) (drop had xs)) i 0)) same (stands_behind xs had i low)

pub stands_in : (xs : List ℕ) (had x : ℕ) → Contains (drop had xs) x → Contains xs x
stands_in xs had x (k, low, e) = (had + k, (let size = length-drop had xs in omega (arith, low, size)), sym (get_or-drop had xs k x) ∙ e)
