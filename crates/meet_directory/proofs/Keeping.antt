-- The rule is kept.
use Rattle.std.proofs.Common.{slice_index, slice_set, ◌≡◌, ◌≢◌, ℕ, zero, suc, ◌+◌, ◌^◌, ◌<◌, ◌≤◌, List, [], ◌∷◌, ◌++◌, length, sym, refl, ap, ◌∙◌, subst, inl, inr, ◌⊎◌, ⊎_elim, arith, length-set, bit_or, max}
use Rattle.std.specs.Int.{bit_at}
use Rattle.std.proofs.lemmas.Nat.Bits.{bit_at_or, bit_at-lt, bit_at-pow_same}
use mathlib.Core.Option.{some, some-ne-none}
use mathlib.Core.Logic.{dite}
use native.Mathlib.Decide.{ℕ_discrete}
use lib.ListN.{get_elem?}
use Rattle.atomic_table.specs.Table.{State, Allows, Splits, Joins, opening, keeps, step, stepped}
use Rattle.atomic_table.proofs.Lists.{at_set, at_snoc}
use Rattle.meet_directory.specs.declared.view.Glimpse.{Glimpse}
use Rattle.meet_directory.specs.declared.view.View.{View}
use Rattle.meet_directory.specs.Directory.{Has, HasBit, Covers, Shows, OneSaw, Coherent, Keeps, Offered, Published, NoPairMissed, Overlooked, NothingOverlooked, nothing, marked, glimpse, saw, heard, has_marked, has_seen, has_glanced}

-- WORDS
at_here : (xs : List ℕ) (i n : ℕ) → i < length xs → slice_index (slice_set xs i n) i ≡ n
at_here [] i n h = absurd (omega arith)
at_here (x ∷ xs) zero n h = refl
at_here (x ∷ xs) (suc i) n h = at_here xs i n (omega arith)

at_else : (xs : List ℕ) (i j n : ℕ) → j ≢ i → slice_index (slice_set xs i n) j ≡ slice_index xs j
at_else [] i j n h = refl
at_else (x ∷ xs) zero zero n h = absurd (h refl)
at_else (x ∷ xs) zero (suc j) n h = refl
at_else (x ∷ xs) (suc i) zero n h = refl
at_else (x ∷ xs) (suc i) (suc j) n h = at_else xs i j n (λ e. h (ap suc e))

-- LISTS
pub has_either : {A : Type 0} (xs ys : List A) (x : A) → Has (xs ++ ys) x → Has xs x ⊎ Has ys x
has_either [] ys x h = inr h
has_either (y ∷ xs) ys x (inl e) = inl (inl e)
has_either (y ∷ xs) ys x (inr h) = ⊎_elim (λ (a : Has xs x). inl (inr a)) (λ (b : Has ys x). inr b) (has_either xs ys x h)

pub has_right : {A : Type 0} (xs ys : List A) (x : A) → Has ys x → Has (xs ++ ys) x
has_right [] ys x h = h
has_right (y ∷ xs) ys x h = inr (has_right xs ys x h)

pub has_left : {A : Type 0} (xs ys : List A) (x : A) → Has xs x → Has (xs ++ ys) x
has_left [] ys x h = absurd h
has_left (y ∷ xs) ys x (inl e) = inl e
has_left (y ∷ xs) ys x (inr h) = inr (has_left xs ys x h)

module _ (sides : ℕ) where
  -- A look that one pass has, or that found what stands in the word now.
  abbrev IsOf : State (Unit {0}) View → Glimpse → Type 0
  IsOf s a = ((id : ℕ) × (v : View) × (get_elem? s.views id ≡ some v) × Has v.looks a) ⊎ (a.found ≡ slice_index s.words a.word)

  -- what a view has to be that the rule is kept with it
  record IsFit (s : State (Unit {0}) View) (v : View) : Type 0 where
    written : (i n : ℕ) → Has v.marks (i, n) → Covers i (slice_index s.words i) n
    own : (a : Glimpse) (i n : ℕ) → Has v.looks a → Has a.marks (i, n) → Has v.marks (i, n)
    looks : (a : Glimpse) → Has v.looks a → IsOf s a

  fit_old : (s : State (Unit {0}) View) → Keeps sides s → (id : ℕ) (v : View) → get_elem? s.views id ≡ some v → IsFit s v
  fit_old s k id v at = record {
    written = λ i n h. k.written id v i n at h;
    own = λ a i n h m. k.own id v a i n at h m;
    looks = λ a h. inl (id, v, at, h);
  }

  -- who looks now sees all that was written
  shows_now : (s : State (Unit {0}) View) (a b : Glimpse) (v : View) → IsFit s v → Has v.looks b → a.found ≡ slice_index s.words a.word → Shows a b.marks
  shows_now s a b v fit has now n h = subst (λ (x : ℕ). Covers a.word x n) (sym now) (fit.written a.word n (fit.own b a.word n has h))

  one_saw : (s : State (Unit {0}) View) → Keeps sides s → (u v : View) (a b : Glimpse) → IsFit s u → IsFit s v → Has u.looks a → Has v.looks b → IsOf s a → IsOf s b → OneSaw a b
  one_saw s k u v a b fu fv ha hb (inr now) ob = inl (shows_now s a b v fv hb now)
  one_saw s k u v a b fu fv ha hb (inl old) (inr now) = inr (shows_now s b a u fu ha now)
  one_saw s k u v a b fu fv ha hb (inl x) (inl y) = k.one_saw x.0 y.0 x.1 y.1 a b x.2 y.2 x.3 y.3

  -- other views, each of which fits
  rebuilt : (s : State (Unit {0}) View) → Keeps sides s → (vs : List View) → ((id : ℕ) (v : View) → get_elem? vs id ≡ some v → IsFit s v) → Keeps sides record { words = s.words; homes = s.homes; views = vs }
  rebuilt s k vs fits = record {
    sized = k.sized;
    written = λ id v i n at h. (fits id v at).written i n h;
    own = λ id v a i n at h m. (fits id v at).own a i n h m;
    one_saw = λ i j u v a b at too ha hb. let fu = fits i u at in let fv = fits j v too in one_saw s k u v a b fu fv ha hb (fu.looks a ha) (fv.looks b hb);
  }

  -- a word grows
  grown : (s : State (Unit {0}) View) → Keeps sides s → (i n : ℕ) → i < 64 + sides → ((m : ℕ) → Covers i (slice_index s.words i) m → Covers i n m) → Keeps sides record { words = slice_set s.words i n; homes = s.homes; views = s.views }
  grown s k i n within grows = record {
    sized = length-set s.words i n ∙ k.sized;
    written = λ id v j m at h. let was = k.written id v j m at h in dite (ℕ_discrete j i)
        (λ (e : j ≡ i). subst (λ (x : ℕ). Covers j x m) (sym (ap (λ (z : ℕ). slice_index (slice_set s.words i n) z) e ∙ at_here s.words i n (subst (λ (z : ℕ). i < z) (sym k.sized) within)))
        (subst (λ (z : ℕ). Covers z n m) (sym e) (grows m (subst (λ (z : ℕ). Covers z (slice_index s.words z) m) e was))))
        (λ (ne : j ≢ i). subst (λ (x : ℕ). Covers j x m) (sym (at_else s.words i j n ne)) was);
    own = k.own;
    one_saw = k.one_saw;
  }

  -- A STEP: the word i becomes n, and the pass's view w
  stepped_keeps : (s : State (Unit {0}) View) → Keeps sides s → (i n id : ℕ) (carried : List (ℕ × Unit {0})) (w : View) → i < 64 + sides → ((m : ℕ) → Covers i (slice_index s.words i) m → Covers i n m)
      → IsFit (record { words = slice_set s.words i n; homes = s.homes; views = s.views }) w → Keeps sides (stepped s i n id carried w keeps)
  stepped_keeps s k i n id carried w within grows fit =
      let after : State (Unit {0}) View = record { words = slice_set s.words i n; homes = s.homes; views = s.views } in
      let g : Keeps sides after = grown s k i n within grows in
      rebuilt after g (slice_set s.views id w) (λ j v at. ⊎_elim
      (λ (e : (j ≡ id) × (w ≡ v)). subst (λ (z : View). IsFit after z) e.1 fit)
      (λ (e : (j ≢ id) × (get_elem? s.views j ≡ some v)). fit_old after g j v e.1)
      (at_set s.views id j w v at))

  -- what is written there now is marked
  fit_marked : (s : State (Unit {0}) View) → Keeps sides s → (id i n m : ℕ) (v : View) → get_elem? s.views id ≡ some v → i < 64 + sides → ((j : ℕ) → Covers i (slice_index s.words i) j → Covers i n j)
      → Covers i n m → IsFit (record { words = slice_set s.words i n; homes = s.homes; views = s.views }) (marked i m v)
  fit_marked s k id i n m v at within grows here =
      let after : State (Unit {0}) View = record { words = slice_set s.words i n; homes = s.homes; views = s.views } in
      let old : IsFit after v = fit_old after (grown s k i n within grows) id v at in record {
        written = λ j x h. ⊎_elim
            (λ (e : (i, m) ≡ (j, x)). subst (λ (z : ℕ × ℕ). Covers z.0 (slice_index after.words z.0) z.1) e
            (subst (λ (y : ℕ). Covers i y m) (sym (at_here s.words i n (subst (λ (z : ℕ). i < z) (sym k.sized) within))) here))
            (λ (rest : Has v.marks (j, x)). old.written j x rest)
            h;
        own = λ a j x has mark. inr (old.own a j x has mark);
        looks = old.looks;
      }

  pub mark_allowed : (slots id : ℕ) (me : View × List (ℕ × Unit {0})) (i m : ℕ) (f : ℕ → ℕ) → i < 64 + sides
      → ((x j : ℕ) → Covers i x j → Covers i (f x) j) → ((x : ℕ) → Covers i (f x) m)
      → Allows (Keeps sides) slots id me i f (has_marked (step slots i m 0 mathlib.Core.Option.none) me)
  mark_allowed slots id me i m f within grows reached s k homes at range =
      let x : ℕ = slice_index s.words i in (
        marked i m me.0,
        keeps,
        tt,
        stepped_keeps s k i (f x) id me.1 (marked i m me.0) within (λ j c. grows x j c) (fit_marked s k id i (f x) m me.0 at within (λ j c. grows x j c) (reached x)),
        refl,
      )

  -- what was read
  fit_saw : (s : State (Unit {0}) View) → Keeps sides s → (id i : ℕ) (v : View) → get_elem? s.views id ≡ some v → i < 64 + sides
      → IsFit (record { words = slice_set s.words i (slice_index s.words i); homes = s.homes; views = s.views }) (saw i (slice_index s.words i) v)
  fit_saw s k id i v at within =
      let x : ℕ = slice_index s.words i in
      let after : State (Unit {0}) View = record { words = slice_set s.words i x; homes = s.homes; views = s.views } in
      let more : IsFit after (marked i x v) = fit_marked s k id i x x v at within (λ j c. c) ((λ h. omega arith), λ h t. omega arith) in record {
        written = more.written;
        own = λ a j y has mark. ⊎_elim
            (λ (e : glimpse i x v ≡ a). inr (subst (λ (z : Glimpse). Has z.marks (j, y)) (sym e) mark))
            (λ (rest : Has v.looks a). more.own a j y rest mark)
            has;
        looks = λ a has. ⊎_elim
            (λ (e : glimpse i x v ≡ a). subst (λ (z : Glimpse). IsOf after z) e (inr (sym (at_here s.words i x (subst (λ (z : ℕ). i < z) (sym k.sized) within)))))
            (λ (rest : Has v.looks a). more.looks a rest)
            has;
      }

  seen_keeps : (s : State (Unit {0}) View) → Keeps sides s → (id i : ℕ) (me : View × List (ℕ × Unit {0})) → get_elem? s.views id ≡ some me.0 → i < 64 + sides → Keeps sides (stepped s i (slice_index s.words i) id me.1 (saw i (slice_index s.words i) me.0) keeps)
  seen_keeps s k id i me at within = stepped_keeps s k i (slice_index s.words i) id me.1 (saw i (slice_index s.words i) me.0) within (λ j c. c) (fit_saw s k id i me.0 at within)

  pub see_allowed : (slots id : ℕ) (me : View × List (ℕ × Unit {0})) (i : ℕ) → i < 64 + sides → Allows (Keeps sides) slots id me i (λ n. n) (has_seen (step slots i 0 0 mathlib.Core.Option.none) me)
  see_allowed slots id me i within s k homes at range = (saw i (slice_index s.words i) me.0, keeps, tt, seen_keeps s k id i me at within, refl)

  -- and of any two looks that the pass knows of then, one saw the other
  pub glance_allowed : (slots id : ℕ) (me : View × List (ℕ × Unit {0})) (i : ℕ) → i < 64 + sides → Allows (Keeps sides) slots id me i (λ n. n) (has_glanced (step slots i 0 0 mathlib.Core.Option.none) me)
  glance_allowed slots id me i within s k homes at range =
      let x : ℕ = slice_index s.words i in
      let w : View = saw i x me.0 in
      let after : State (Unit {0}) View = record { words = slice_set s.words i x; homes = s.homes; views = s.views } in
      let g : Keeps sides after = grown s k i x within (λ j c. c) in
      let fit : IsFit after w = fit_saw s k id i me.0 at within in (
        w,
        keeps,
        tt,
        seen_keeps s k id i me at within,
        (refl, λ a b ha hb. one_saw after g w w a b fit fit ha hb (fit.looks a ha) (fit.looks b hb)),
      )

  -- a view that fits anyhow
  fit_nothing : (s : State (Unit {0}) View) → IsFit s nothing
  fit_nothing s = record { written = λ i n h. absurd h; own = λ a i n h m. absurd h; looks = λ a h. absurd h }

  fit_heard : (s : State (Unit {0}) View) (v w : View) → IsFit s v → IsFit s w → IsFit s (heard v w)
  fit_heard s v w fv fw = record {
    written = λ i n h. ⊎_elim (λ (x : Has v.marks (i, n)). fv.written i n x) (λ (y : Has w.marks (i, n)). fw.written i n y) (has_either v.marks w.marks (i, n) h);
    own = λ a i n h m. ⊎_elim
        (λ (x : Has v.looks a). has_left v.marks w.marks (i, n) (fv.own a i n x m))
        (λ (y : Has w.looks a). has_right v.marks w.marks (i, n) (fw.own a i n y m))
        (has_either v.looks w.looks a h);
    looks = λ a h. ⊎_elim (λ (x : Has v.looks a). fv.looks a x) (λ (y : Has w.looks a). fw.looks a y) (has_either v.looks w.looks a h);
  }

  -- one pass is cut in two: the one keeps what it knows, and the other knows no more
  split_allowed : (id : ℕ) (v w : View) → ((s : State (Unit {0}) View) → IsFit s v → IsFit s w) → Splits (Keeps sides) id v v w
  split_allowed id v w fits s k at = rebuilt s k (slice_set s.views id v ++ w ∷ []) (λ j u here. ⊎_elim
      (λ (old : get_elem? (slice_set s.views id v) j ≡ some u). ⊎_elim
      (λ (e : (j ≡ id) × (v ≡ u)). subst (λ (z : View). IsFit s z) e.1 (fit_old s k id v at))
      (λ (e : (j ≢ id) × (get_elem? s.views j ≡ some u)). fit_old s k j u e.1)
      (at_set s.views id j v u old))
      (λ (new : w ≡ u). subst (λ (z : View). IsFit s z) new (fits s (fit_old s k id v at)))
      (at_snoc (slice_set s.views id v) w u j here))

  pub enter_allowed : (id : ℕ) (v : View) → Splits (Keeps sides) id v v nothing
  enter_allowed id v = split_allowed id v nothing (λ s fit. fit_nothing s)

  pub tell_allowed : (id : ℕ) (v : View) → Splits (Keeps sides) id v v v
  tell_allowed id v = split_allowed id v v (λ s fit. fit)

  pub hear_allowed : (id : ℕ) (v : View) (other : ℕ) (w : View) → Joins (Keeps sides) id v other w (heard v w) nothing
  hear_allowed id v other w s k at apart told =
      let both : IsFit s (heard v w) = ⊎_elim
      (λ (e : (other ≡ id) × (heard v w ≡ w)). absurd (apart e.0))
      (λ (e : (other ≢ id) × (get_elem? s.views other ≡ some w)). fit_heard s v w (fit_old s k id v at) (fit_old s k other w e.1))
      (at_set s.views id other (heard v w) w told) in
      rebuilt s k (slice_set (slice_set s.views id (heard v w)) other nothing) (λ j u here. ⊎_elim
      (λ (e : (j ≡ other) × (nothing ≡ u)). subst (λ (z : View). IsFit s z) e.1 (fit_nothing s))
      (λ (e : (j ≢ other) × (get_elem? (slice_set s.views id (heard v w)) j ≡ some u)). ⊎_elim
      (λ (f : (j ≡ id) × (heard v w ≡ u)). subst (λ (z : View). IsFit s z) f.1 both)
      (λ (f : (j ≢ id) × (get_elem? s.views j ≡ some u)). fit_old s k j u f.1)
      (at_set s.views id j (heard v w) u e.1))
      (at_set (slice_set s.views id (heard v w)) other j nothing u here))

  -- what the rule says of one pass: of any two looks that it knows of, one saw the other
  pub coherent : (s : State (Unit {0}) View) → Keeps sides s → (id : ℕ) (v : View) → get_elem? s.views id ≡ some v → Coherent v
  coherent s k id v at a b ha hb = k.one_saw id id v v a b at at ha hb

  pub begins : (words : List ℕ) (slots : List (Unit {0})) → length words ≡ 64 + sides → Keeps sides (opening words slots nothing)
  begins words slots sized = record {
    sized = sized;
    written = λ id v i n at h. absurd (none_written id v at i n h);
    own = λ id v a i n at h m. absurd (none_looked id v at a h);
    one_saw = λ i j u v a b at too ha hb. absurd (none_looked i u at a ha);
  }
    where
      only : (id : ℕ) (v : View) → get_elem? (nothing ∷ []) id ≡ some v → nothing ≡ v
      only zero v e = mathlib.Core.Option.some-injective nothing v e
      only (suc id) v e = absurd (some-ne-none v (sym e))

      none_written : (id : ℕ) (v : View) → get_elem? (nothing ∷ []) id ≡ some v → (i n : ℕ) → Has v.marks (i, n) → ⊥
      none_written id v e i n h = subst (λ (z : View). Has z.marks (i, n)) (sym (only id v e)) h

      none_looked : (id : ℕ) (v : View) → get_elem? (nothing ∷ []) id ≡ some v → (a : Glimpse) → Has v.looks a → ⊥
      none_looked id v e a h = subst (λ (z : View). Has z.looks a) (sym (only id v e)) h

-- A count is raised, and a bit is set.
pub raises : (i k : ℕ) → i < 64 → ((x j : ℕ) → Covers i x j → Covers i (max x k) j) × ((x : ℕ) → Covers i (max x k) k)
raises i k low = (
  λ x j c. ((λ h. let a = c.0 h in omega arith), λ h. absurd (omega arith)),
  λ x. ((λ h. omega arith), λ h. absurd (omega arith)),
)

pub sets : (i k : ℕ) → 64 ≤ i → ((x j : ℕ) → Covers i x j → Covers i (bit_or x k) j) × ((x : ℕ) → Covers i (bit_or x k) k)
sets i k high = (
  λ x j c. ((λ h. absurd (omega arith)), λ h t. let was = c.1 h t in let b = bit_at_or x k t in omega arith),
  λ x. ((λ h. absurd (omega arith)), λ h t. let b = bit_at_or x k t in omega arith),
)

-- ROWS
-- a count that shows the row
count_shows : (a : Glimpse) (marks : List (ℕ × ℕ)) (u h : ℕ) → u < 64 → ((n : ℕ) × Has marks (u, n) × (h < n)) → Shows a marks → a.word ≡ u → a.found ≤ h → ⊥
count_shows a marks u h low there shows here short =
    let c : Covers a.word a.found there.0 = shows there.0 (subst (λ (z : ℕ). Has marks (z, there.0)) (sym here) there.1) in
    let least = c.0 (subst (λ (z : ℕ). z < 64) (sym here) low) in
    let far = there.2 in omega arith

bit_shows : (a : Glimpse) (marks : List (ℕ × ℕ)) (u l : ℕ) → ((n : ℕ) × Has marks (64 + l, n) × HasBit n u) → Shows a marks → a.word ≡ 64 + l → (¬ HasBit a.found u) → ⊥
bit_shows a marks u l there shows here none =
    let c : Covers a.word a.found there.0 = shows there.0 (subst (λ (z : ℕ). Has marks (z, there.0)) (sym here) there.1) in
    let set = c.1 (omega arith) u in
    let below = bit_at-lt a.found u in
    let one = there.2 in none (omega arith)

-- the look shows all of these marks, so it shows the row
never_missed : (a : Glimpse) (marks : List (ℕ × ℕ)) (u h k : ℕ) → u < 64 → Published marks u h k → Shows a marks → ((a.word ≡ 64 + k) × (¬ HasBit a.found u)) ⊎ ((a.word ≡ u) × (a.found ≤ h)) → ⊥
never_missed a marks u h k low published shows (inl m) = bit_shows a marks u k published.1 shows m.0 m.1
never_missed a marks u h k low published shows (inr m) = count_shows a marks u h low published.0 shows m.0 m.1

pub no_pair_missed : (v : View) → Coherent v → NoPairMissed v
no_pair_missed v c t g l u h k low low' mine its = ⊎_elim
    (λ (shows : Shows mine.0 its.0.marks). never_missed mine.0 its.0.marks u h k low' its.2 shows mine.3)
    (λ (shows : Shows its.0 mine.0.marks). never_missed its.0 mine.0.marks t g l low mine.2 shows its.3)
    (c mine.0 its.0 mine.1 its.1)

pub offered_now : (before after : List (ℕ × ℕ)) (t l k : ℕ) → after ≡ (64 + l, k) ∷ before → k ≡ 2 ^ t → Offered after t l
offered_now before after t l k e bit = (k, subst (λ (ms : List (ℕ × ℕ)). Has ms (64 + l, k)) (sym e) (inl refl), ap (λ (z : ℕ). bit_at z t) bit ∙ bit_at-pow_same t)

covers_then : (i x m n : ℕ) → Covers i x m → Covers i m n → Covers i x n
covers_then i x m n f g = ((λ low. let a = f.0 low in let b = g.0 low in omega arith), λ high t. let a = f.1 high t in let b = g.1 high t in omega arith)

-- a look that shows what another had written by its look overlooks nothing of it
not_overlooked : (v : View) (mine theirs : List (ℕ × ℕ)) (o : Overlooked v mine theirs) (p : Overlooked v theirs mine) → Shows o.0 p.0.marks → ⊥
not_overlooked v mine theirs o p shows =
    let a : Glimpse = o.0 in
    let n : ℕ = o.3.0 in
    let wrote = p.2 a.word n o.3.1 in
    o.3.2 (covers_then a.word a.found wrote.0 n (shows wrote.0 wrote.1) wrote.2)

pub nothing_overlooked : (v : View) → Coherent v → NothingOverlooked v
nothing_overlooked v c mine theirs o p = ⊎_elim
    (λ (shows : Shows o.0 p.0.marks). not_overlooked v mine theirs o p shows)
    (λ (shows : Shows p.0 o.0.marks). not_overlooked v theirs mine p o shows)
    (c o.0 p.0 o.1 p.1)
