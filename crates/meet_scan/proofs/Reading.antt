-- The directions of a row's offers are read one after another into a list.
use Rattle.std.proofs.Common.{refl, Bool, true, false, ◌≡◌, ◌≢◌, ◌+◌, ◌<◌, ◌≤◌, ℕ, List, inl, inr, sym, subst, ap, ◌∙◌, get_or, set, length, length-set, arith}
use Rattle.std.specs.Prelude.{IfNone, Option, Some, None, unwrap_or}
use Rattle.std.proofs.lemmas.Bool.{ltb-false, ltb-true}
use Rattle.std.proofs.lemmas.Bool.Decides.{eqb_tells}
use Rattle.std.proofs.lemmas.List.{get_or-set_same, get_or-set_other}
use Rattle.protocol_values.specs.Words.{count_of}
use Rattle.protocol_values.specs.declared.Direction.{Direction}
use Rattle.protocol_values.specs.declared.Row.{Row}
use Rattle.cell_table.specs.declared.view.Seen.{Seen}
use Rattle.cell_table.specs.Sight.{Coherent, HaveDirection, LackOffer, SeesDirection}
use Rattle.cell_table.specs.Nacks.{CanStandAlone}
use Rattle.meet_scan.specs.declared.found.Found.{Found}
use Rattle.meet_scan.specs.declared.found.Found.TheVariants.{Met, Alone, Already, Waits}
use Rattle.meet_scan.specs.Searches.{Finds, Grows, LacksAt, Leaves, Lists, StandsByNone}
use Rattle.cell_table.proofs.Directions.{sees_direction}
use Rattle.cell_table.proofs.Offers.{few}
use Rattle.meet_scan.proofs.Growing.{saw_more, seen_more, stands_more}

-- the list has the directions before n that the pass had seen, and none that it has not seen now
pub record Reads (s t : Seen) (r : Row) (directions : List (Option Direction)) (n : ℕ) : Type 0 where
  pub sized : length directions ≡ 8
  pub seen : (k : ℕ) (d : Direction) → Lists directions k d → SeesDirection t r k d
  pub whole : (k : ℕ) (d : Direction) → k < n → SeesDirection s r k d → Lists directions k d
  pub filled : (k : ℕ) → k < n → ¬ LacksAt directions k

direction_few : (s : Seen) (r : Row) (n : ℕ) (d : Direction) → SeesDirection s r n d → n < 8
direction_few s r n d (inl h) = few h.count n h.below
direction_few s r n d (inr h) = few h.1.count n h.1.below

-- a row has no offers from the first that it lacks
pub none_behind : (threads rows : ℕ) (s : Seen) (r : Row) (n k : ℕ) (d : Direction) → Coherent threads rows s → LackOffer s.words r n → SeesDirection s r k d → k < n
none_behind threads rows s r n k d agree lack (inl have) =
    let same = agree.one_word r 1 have.count lack.0 have.counted lack.1 in
    let below : k < unwrap_or (count_of lack.0) 0 = subst (λ (c : ℕ). k < unwrap_or (count_of c) 0) same have.below in
    let behind = lack.2 in
    omega arith
none_behind threads rows s r n k d agree lack (inr have) =
    let same = agree.as_drafted r 1 have.1.count lack.0 have.1.counted lack.1 in
    let below : k < unwrap_or (count_of lack.0) 0 = subst (λ (c : ℕ). k < unwrap_or (count_of c) 0) same have.1.below in
    let behind = lack.2 in
    omega arith

pub reads_ended : (s t : Seen) (r : Row) (directions : List (Option Direction)) (n : ℕ) → 8 ≤ n → Reads s t r directions n → (k : ℕ) (d : Direction) → SeesDirection s r k d → Lists directions k d
reads_ended s t r directions n all reads k d sees = reads.whole k d (let few = direction_few s r k d sees in omega arith) sees

-- where the list ends, the row has no further offers
pub reads_short : (s t : Seen) (r : Row) (directions : List (Option Direction)) (n : ℕ) → Reads s t r directions n → ((k : ℕ) (d : Direction) → SeesDirection s r k d → k < n) → (m : ℕ) → LacksAt directions m → (k : ℕ) (d : Direction) → SeesDirection s r k d → k < m
reads_short s t r directions n reads few m lacks k d sees = by_case (Rattle.std.proofs.Math.Dec.ltb m n) refl
  where
    by_case : (b : Bool) → Rattle.std.proofs.Math.Dec.ltb m n ≡ b → k < m
    by_case true e = absurd (reads.filled m (ltb-true m n e) lacks)
    by_case false e = let past = ltb-false m n e in let low = few k d sees in omega arith

pub few_directions : (s : Seen) (r : Row) (n : ℕ) → 8 ≤ n → (k : ℕ) (d : Direction) → SeesDirection s r k d → k < n
few_directions s r n all k d sees = let few = direction_few s r k d sees in omega arith

-- the direction of offer n was read in u, and is put at place n
pub reads_more : (s t u : Seen) (r : Row) (directions : List (Option Direction)) (n at : ℕ) (read : Direction) → Reads s t r directions n → at ≡ n → n < 8 → Grows s t → Grows t u
    → HaveDirection u.words r n read → ((d : Direction) → SeesDirection t r n d → Some read ≡ Some d) → Reads s u r (set directions at (Some read)) (n + 1)
reads_more s t u r directions n at read reads same_place low before after have same = record {
  sized = length-set directions at (Some read) ∙ reads.sized;
  seen = seen;
  whole = whole;
  filled = filled;
}
  where
    inside : at < length directions
    inside = let e = reads.sized in omega arith

    at_n : get_or (set directions at (Some read)) at None ≡ Some read
    at_n = get_or-set_same directions at (Some read) None inside

    put : (d : Direction) → Lists (set directions at (Some read)) at d → SeesDirection u r n d
    put d e = inl (subst (λ (x : Direction). HaveDirection u.words r n x) (ap (λ (x : Option Direction). unwrap_or x read) (sym at_n ∙ e)) have)

    seen : (k : ℕ) (d : Direction) → Lists (set directions at (Some read)) k d → SeesDirection u r k d
    seen k d e = elim (eqb_tells k at) [
      | inl is ↦ subst (λ (x : ℕ). SeesDirection u r x d) (sym (is.1 ∙ same_place)) (put d (subst (λ (x : ℕ). Lists (set directions at (Some read)) x d) is.1 e))
      | inr other ↦ seen_more t u r k d after (reads.seen k d (sym (get_or-set_other directions at k (Some read) None other.1) ∙ e))
    ]

    filled : (k : ℕ) → k < n + 1 → ¬ LacksAt (set directions at (Some read)) k
    filled k low_k lacks = elim (eqb_tells k at) [
      | inl is ↦ (let bad : Some read ≡ None = sym at_n ∙ subst (λ (x : ℕ). LacksAt (set directions at (Some read)) x) is.1 lacks in cc)
      | inr other ↦ reads.filled k (let apart = other.1 in omega arith) (sym (get_or-set_other directions at k (Some read) None other.1) ∙ lacks)
    ]

    whole : (k : ℕ) (d : Direction) → k < n + 1 → SeesDirection s r k d → Lists (set directions at (Some read)) k d
    whole k d low_k sees = elim (eqb_tells k at) [
      | inl is ↦ subst (λ (x : ℕ). Lists (set directions at (Some read)) x d) (sym is.1) (at_n ∙ same d (seen_more s t r n d before (subst (λ (x : ℕ). SeesDirection s r x d) (is.1 ∙ same_place) sees)))
      | inr other ↦ get_or-set_other directions at k (Some read) None other.1 ∙ reads.whole k d (let apart = other.1 in omega arith) sees
    ]

-- THE OFFERS ARE TRIED one after another, and none of them commits the row alone
pub stands_to : (s : Seen) (r : Row) (n : ℕ) → ((k : ℕ) → k < n → ¬ CanStandAlone s r k) → ¬ CanStandAlone s r n → (k : ℕ) → k < n + 1 → ¬ CanStandAlone s r k
stands_to s r n before last k low = elim (eqb_tells k n) [
  | inl is ↦ subst (λ (x : ℕ). ¬ CanStandAlone s r x) (sym is.1) last
  | inr other ↦ before k (let apart = other.1 in omega arith)
]

pub none_found : (x : Option Found) → ((f : Found) → x ≢ Some f) → x ≡ None
none_found None none = refl
none_found (Some f) none = absurd (none f refl)

pub if_none : {A : Type 0} {P : Type 0} (x : Option A) → P → IfNone x P
if_none None p = p
if_none (Some a) p = tt

pub none_listed : {A : Type 0} (x : Option A) → ((d : A) → x ≢ Some d) → x ≡ None
none_listed None none = refl
none_listed (Some d) none = absurd (none d refl)

-- nor does any before the list's end
pub stands_by_none : (s : Seen) (r : Row) (directions : List (Option Direction)) (n : ℕ) → LacksAt directions n → ((k : ℕ) → k < n → ¬ CanStandAlone s r k) → StandsByNone s r directions
stands_by_none s r directions n lacks before m listed = by_case (Rattle.std.proofs.Math.Dec.ltb m n) refl
  where
    by_case : (b : Bool) → Rattle.std.proofs.Math.Dec.ltb m n ≡ b → ¬ CanStandAlone s r m
    by_case true e = before m (ltb-true m n e)
    by_case false e = absurd (listed n (ltb-false m n e) lacks)

-- there are eight at most
-- what had been seen before was seen to let it stand no more
pub stands_by_none_sooner : (s t : Seen) (r : Row) (directions : List (Option Direction)) → Grows s t → StandsByNone t r directions → StandsByNone s r directions
stands_by_none_sooner s t r directions g none n listed can = none n listed (stands_more s t r n g can)

pub stands_by_no_other : (s : Seen) (r : Row) (directions : List (Option Direction)) (n : ℕ) → 8 ≤ n → ((k : ℕ) → k < n → ¬ CanStandAlone s r k) → StandsByNone s r directions
stands_by_no_other s r directions n all before m listed can =
    let told = sees_direction s r m can.0 can.1 in
    before m (few_directions s r n all m told.0 told.1) can

-- the list has all that had been seen before it was read
pub stands_nowhere : (s t : Seen) (r : Row) (directions : List (Option Direction)) → Grows s t → ((n : ℕ) → LacksAt directions n → (k : ℕ) (d : Direction) → SeesDirection s r k d → k < n) → StandsByNone t r directions → (n : ℕ) → ¬ CanStandAlone s r n
stands_nowhere s t r directions grows short none n can =
    let told = sees_direction s r n can.0 can.1 in
    none n (λ k low lacks. let past = short k lacks n told.0 told.1 in omega arith) (stands_more s t r n grows can)

-- the row is left, and had not been seen to stand alone
pub found_left : (s t u : Seen) (r : Row) (found : Found) → Grows s t → Leaves t u r found → ((n : ℕ) → ¬ CanStandAlone s r n) → Finds s u r found
found_left s t u r (Met other) grows h none = absurd h
found_left s t u r Alone grows h none = absurd h
found_left s t u r Already grows h none = h
found_left s t u r Waits grows h none = ((λ c. h (saw_more s t r grows c)), none)
