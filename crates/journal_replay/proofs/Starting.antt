-- Starts, as a configuration goes on: by further results, and by a commit.
use Rattle.std.proofs.Common.{◌≡◌, ◌⊎◌, ℕ, zero, suc, ◌+◌, ◌<◌, ◌≤◌, ◌==◌, ◌||◌, Bool, true, false, List, [], ◌∷◌, ◌++◌, length, take, Some, Contains, slice_get, refl, sym, ap, ◌∙◌, subst, arith, inl, inr, ⊎_elim}
use Rattle.std.specs.List.{list_any}
use Rattle.std.proofs.lemmas.Bool.{cases_eq, cases_lt, cases_order, eq-eqb, eqb-true, false≢true}
use Rattle.std.proofs.lemmas.List.{append-nil, length-append, take-append-le, take_all}
use Rattle.std.proofs.lemmas.Option.{none-some, same_Some}
use Rattle.script_tree.specs.Processes.{Proc}
use Rattle.thread.specs.After.{Chosen, after}
use Rattle.protocol_values.specs.declared.Commit.{Commit}
use Rattle.journal_replay.specs.Starting.{Config, HasRow, HasSpawned, SpawnsAt, Starts, AtOnce, Spawned, CountsForStart, InRow, InStart, spawned_in}

-- FURTHER RESULTS

-- these results with others behind them
abbrev pub Extends : List Chosen → List Chosen → Type 0
Extends before rs = (behind : List Chosen) × (rs ≡ before ++ behind)

spawns-behind : (ps : List Proc) (s : ℕ) (rs ys : List Chosen) (t n : ℕ) → SpawnsAt ps s rs t n → SpawnsAt ps s (rs ++ ys) t n
spawns-behind ps s rs ys t n a = record {
  within = let size = length-append rs ys in omega (arith, size, a.within);
  there = subst (λ (zs : List Chosen). HasSpawned ps s zs t) (sym (take-append-le n rs ys a.within)) a.there;
  first = λ m below has. a.first m below (subst (λ (zs : List Chosen). HasSpawned ps s zs t) (take-append-le m rs ys (omega (arith, below, a.within))) has);
}

spawns-front : (ps : List Proc) (s : ℕ) (rs ys : List Chosen) (t n : ℕ) → n ≤ length rs → SpawnsAt ps s (rs ++ ys) t n → SpawnsAt ps s rs t n
spawns-front ps s rs ys t n low a = record {
  within = low;
  there = subst (λ (zs : List Chosen). HasSpawned ps s zs t) (take-append-le n rs ys low) a.there;
  first = λ m below has. a.first m below (subst (λ (zs : List Chosen). HasSpawned ps s zs t) (sym (take-append-le m rs ys (omega (arith, below, low)))) has);
}

-- a process is spawned first after one number of results
pub spawns-once : (ps : List Proc) (s : ℕ) (rs : List Chosen) (t n m : ℕ) → SpawnsAt ps s rs t n → SpawnsAt ps s rs t m → n ≡ m
spawns-once ps s rs t n m a b = ⊎_elim
    (λ e. e)
    (λ other. ⊎_elim (λ lt. absurd (b.first n lt a.there)) (λ gt. absurd (a.first m gt b.there)) other)
    (cases_order n m)

-- THE FIRST OF ALL

-- the test that finds a number in a list
pub among-from : (xs : List ℕ) (t : ℕ) → list_any (λ p. p == t) xs ≡ true → Contains xs t
among-from [] t h = absurd (false≢true h)
among-from (x ∷ xs) t h = among-front (x == t) refl h (λ k. among-from xs t k)
  where
    among-front : (b : Bool) → (x == t) ≡ b → (b || list_any (λ p. p == t) xs) ≡ true → (list_any (λ p. p == t) xs ≡ true → Contains xs t) → Contains (x ∷ xs) t
    among-front true e h rest = (0, omega arith, eqb-true x t e)
    among-front false e h rest = let w = rest h in (suc w.0, omega (arith, w.1), w.2)

pub among-to : (xs : List ℕ) (t : ℕ) → Contains xs t → list_any (λ p. p == t) xs ≡ true
among-to [] t h = absurd (omega (arith, h.1))
among-to (x ∷ xs) t (zero, lt, e) = ap (λ (b : Bool). b || list_any (λ p. p == t) xs) (eq-eqb x t e)
among-to (x ∷ xs) t (suc i, lt, e) = behind (x == t) (list_any (λ p. p == t) xs) (among-to xs t (i, omega (arith, lt), e))
  where
    behind : (a b : Bool) → b ≡ true → (a || b) ≡ true
    behind true b e = refl
    behind false b e = e

is-among : (xs : List ℕ) (t : ℕ) → Contains xs t ⊎ (Contains xs t → ⊥)
is-among xs t = by-test (list_any (λ p. p == t) xs) refl
  where
    by-test : (b : Bool) → list_any (λ p. p == t) xs ≡ b → Contains xs t ⊎ (Contains xs t → ⊥)
    by-test true e = inl (among-from xs t e)
    by-test false e = inr (λ h. false≢true (sym e ∙ among-to xs t h))

has-or-not : (ps : List Proc) (s : ℕ) (p : Proc) (rs : List Chosen) (t : ℕ) → slice_get ps s ≡ Some p → HasSpawned ps s rs t ⊎ (HasSpawned ps s rs t → ⊥)
has-or-not ps s p rs t is = ⊎_elim
    (λ h. inl (record { process = p; is_its = is; spawned = h }))
    (λ no. inr (λ h.
    no (subst (λ (q : Proc). Contains (spawned_in (after q.body (length q.variables) s rs)) t) (same_Some h.process p (sym h.is_its ∙ is)) h.spawned)))
    (is-among (spawned_in (after p.body (length p.variables) s rs)) t)

first-from : (ps : List Proc) (s : ℕ) (p : Proc) (rs : List Chosen) (t : ℕ) → slice_get ps s ≡ Some p → HasSpawned ps s rs t → (k m : ℕ) → m + k ≡ length rs →
    ((j : ℕ) → j < m → HasSpawned ps s (take j rs) t → ⊥) → (n : ℕ) × SpawnsAt ps s rs t n
first-from ps s p rs t is has zero m e none = (
  m,
  record {
    within = omega (arith, e);
    there = subst (λ (zs : List Chosen). HasSpawned ps s zs t) (sym (take_all m rs (omega (arith, e)))) has;
    first = none;
  },
)
first-from ps s p rs t is has (suc k) m e none = ⊎_elim
    (λ here. (m, record { within = omega (arith, e); there = here; first = none }))
    (λ no. first-from ps s p rs t is has k (m + 1) (omega (arith, e)) (λ j lt h. ⊎_elim
    (λ same. no (subst (λ (i : ℕ). HasSpawned ps s (take i rs) t) same h))
    (λ ne. none j (omega (arith, lt, ne)) h)
    (cases_eq j m)))
    (has-or-not ps s p (take m rs) t is)

-- what is spawned after some results was first spawned after some of them
pub first-spawned : (ps : List Proc) (s : ℕ) (rs : List Chosen) (t : ℕ) → HasSpawned ps s rs t → (n : ℕ) × SpawnsAt ps s rs t n
first-spawned ps s rs t has = first-from ps s has.process rs t has.is_its has (length rs) 0 (omega arith) (λ j lt h. omega (arith, lt))

-- WHERE ALL RESULTS ONLY GROW

module _ (ps : List Proc) (before later : Config) (extends : (s : ℕ) → Extends (before s) (later s)) where
  pub spawns-later : (s t n : ℕ) → SpawnsAt ps s (before s) t n → SpawnsAt ps s (later s) t n
  spawns-later s t n a = subst (λ (rs : List Chosen). SpawnsAt ps s rs t n) (sym (extends s).1) (spawns-behind ps s (before s) (extends s).0 t n a)

  pub starts-later : {t : ℕ} → Starts ps before t → Starts ps later t
  starts-later (AtOnce none) = AtOnce none
  starts-later (Spawned {t} s n by at started) = Spawned s n by (spawns-later s t n at) (starts-later started)

  pub counts-later : (d : Commit) {t : ℕ} → CountsForStart ps before d t → CountsForStart ps later d t
  counts-later d (InRow {t} s n g by at below row) = InRow s n g by (spawns-later s t n at) below row
  counts-later d (InStart s by counts) = InStart s by (counts-later d counts)

  -- what counts for the start of a thread that had started counted before
  pub counts-earlier : (d : Commit) {t : ℕ} → CountsForStart ps later d t → Starts ps before t → CountsForStart ps before d t
  counts-earlier d (InRow {t} s n g by at below row) (AtOnce none) = absurd (none-some s (sym none ∙ by))
  counts-earlier d (InRow {t} s n g by at below row) (Spawned u m by' at' started) =
      let same : u ≡ s = same_Some u s (sym by' ∙ by) in
      let old : SpawnsAt ps s (before s) t m = subst (λ (z : ℕ). SpawnsAt ps z (before z) t m) same at' in
      let one : n ≡ m = spawns-once ps s (later s) t n m at (spawns-later s t m old) in
      InRow s m g by old (omega (arith, one, below)) row
  counts-earlier d (InStart s by counts) (AtOnce none) = absurd (none-some s (sym none ∙ by))
  counts-earlier d (InStart s by counts) (Spawned u m by' at' started) =
      InStart s by (counts-earlier d counts (subst (λ (z : ℕ). Starts ps before z) (same_Some u s (sym by' ∙ by)) started))

-- A COMMIT IS ADDED

-- it added at most one result to each thread, for a row of its own
abbrev pub Touches : Config → Config → Commit → Type 0
Touches before later c =
    (s : ℕ) → (later s ≡ before s) ⊎ ((r : Chosen) × (later s ≡ before s ++ r ∷ []) × HasRow c s (length (before s)))

low-or-high : (i j : ℕ) → (i ≤ j) ⊎ (j < i)
low-or-high i j = ⊎_elim (λ lt. inr lt) (λ le. inl le) (cases_lt j i)

module _ (ps : List Proc) (before later : Config) (c : Commit) (touches : Touches before later c) where
  longer : (s : ℕ) → Extends (before s) (later s)
  longer s = ⊎_elim (λ same. ([], same ∙ sym (append-nil (before s)))) (λ grew. (grew.0 ∷ [], grew.1)) (touches s)

  pub spawns-on : (s t n : ℕ) → SpawnsAt ps s (before s) t n → SpawnsAt ps s (later s) t n
  spawns-on s t n a = spawns-later ps before later longer s t n a

  pub starts-on : {t : ℕ} → Starts ps before t → Starts ps later t
  starts-on h = starts-later ps before later longer h

  pub counts-on : (d : Commit) {t : ℕ} → CountsForStart ps before d t → CountsForStart ps later d t
  counts-on d h = counts-later ps before later longer d h

  pub counts-back : (d : Commit) {t : ℕ} → CountsForStart ps later d t → Starts ps before t → CountsForStart ps before d t
  counts-back d h started = counts-earlier ps before later longer d h started

  -- a spawn after c that was none before is in c's own result
  pub spawns-back : (s t n : ℕ) → SpawnsAt ps s (later s) t n → SpawnsAt ps s (before s) t n ⊎ ((length (before s) < n) × HasRow c s (length (before s)))
  spawns-back s t n a = ⊎_elim
      (λ same. inl (subst (λ (rs : List Chosen). SpawnsAt ps s rs t n) same a))
      (λ grew. ⊎_elim
      (λ low. inl (spawns-front ps s (before s) (grew.0 ∷ []) t n low (subst (λ (rs : List Chosen). SpawnsAt ps s rs t n) grew.1 a)))
      (λ high. inr (high, grew.2))
      (low-or-high n (length (before s))))
      (touches s)

  pub starts-back : {t : ℕ} → Starts ps later t → (CountsForStart ps later c t → ⊥) → Starts ps before t
  starts-back (AtOnce none) free = AtOnce none
  starts-back (Spawned {t} s n by at started) free = ⊎_elim
      (λ old. Spawned s n by old (starts-back started (λ h. free (InStart s by h))))
      (λ new. absurd (free (InRow s n (length (before s)) by at new.0 new.1)))
      (spawns-back s t n at)

  -- and the commit itself counts for no such start: its rows are new
  pub uncounted : ((s g : ℕ) → HasRow c s g → g ≡ length (before s)) → {t : ℕ} → CountsForStart ps later c t → Starts ps before t → ⊥
  uncounted new (InRow {t} s n g by at below row) (AtOnce none) = none-some s (sym none ∙ by)
  uncounted new (InRow {t} s n g by at below row) (Spawned u m by' at' started) =
      let same : u ≡ s = same_Some u s (sym by' ∙ by) in
      let old : SpawnsAt ps s (before s) t m = subst (λ (z : ℕ). SpawnsAt ps z (before z) t m) same at' in
      let one : n ≡ m = spawns-once ps s (later s) t n m at (spawns-on s t m old) in
      let within = old.within in
      omega (arith, one, below, within, new s g row)
  uncounted new (InStart s by counts) (AtOnce none) = none-some s (sym none ∙ by)
  uncounted new (InStart s by counts) (Spawned u m by' at' started) =
      uncounted new counts (subst (λ (z : ℕ). Starts ps before z) (same_Some u s (sym by' ∙ by)) started)
