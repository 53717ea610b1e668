-- Rows: when two are one, the list of all rows, and a function that is changed at one row.
use Rattle.std.proofs.Common.{◌||◌, ◌≡◌, ◌≢◌, ℕ, zero, suc, ◌<◌, ◌≤◌, true, false, cond, eqb, List, [], ◌∷◌, ◌++◌, sym, refl, ap, ◌∙◌, ◌⊎◌, inl, inr, ⊎_elim, arith, append_assoc, subst}
use Rattle.std.proofs.lemmas.Bool.{eqb-true, eq-eqb, cases_Bool, and_parts, cases_eq, true≢false}
use Rattle.std.specs.List.{IsDistinct, list_any}
use Rattle.std.specs.Cmp.{IsEquivalence}
use Rattle.std.proofs.lemmas.Map.Keys.{IsDistinct-push}
use Rattle.std.proofs.lemmas.List.{append-nil}
use Rattle.protocol_values.specs.declared.Row.{Row}
use Rattle.protocol_ledger.specs.Tables.{row_eq, rows_below, all_rows}

pub row_eq-refl : (r : Row) → row_eq r r ≡ true
row_eq-refl r = rw (eq-eqb r.thread r.thread refl, eq-eqb r.sync r.sync refl) refl

pub same_row : (r s : Row) → r.thread ≡ s.thread → r.sync ≡ s.sync → r ≡ s
same_row r s p q = λ i. record { thread = p i; sync = q i }

pub row_eq-true : (r s : Row) → row_eq r s ≡ true → r ≡ s
row_eq-true r s h =
    let parts = and_parts (eqb r.thread s.thread) (eqb r.sync s.sync) h in
    same_row r s (eqb-true _ _ parts.0) (eqb-true _ _ parts.1)

pub row_cases : (r s : Row) → (r ≡ s) ⊎ (row_eq r s ≡ false)
row_cases r s = ⊎_elim (λ h. inl (row_eq-true r s h)) (λ h. inr h) (cases_Bool (row_eq r s))

pub row_eq-false : (r s : Row) → row_eq r s ≡ false → r ≢ s
row_eq-false r s h e = true≢false (sym (row_eq-refl s) ∙ ap (λ (x : Row). row_eq x s) (sym e) ∙ h)

pub row_ne : (r s : Row) → r ≢ s → row_eq r s ≡ false
row_ne r s h = ⊎_elim (λ (e : r ≡ s). absurd (h e)) (λ e. e) (row_cases r s)

-- a function that is changed at one row
abbrev pub put : {X : Type 0} → (Row → X) → Row → X → Row → X
put f x c r = cond (row_eq r x) c (f r)

pub put_same : {X : Type 0} (f : Row → X) (x : Row) (c : X) → put f x c x ≡ c
put_same f x c = ap (λ b. cond b c (f x)) (row_eq-refl x)

pub put_other : {X : Type 0} (f : Row → X) (x : Row) (c : X) (r : Row) → row_eq r x ≡ false → put f x c r ≡ f r
put_other f x c r h = ap (λ b. cond b c (f r)) h

-- the row is not in the list
abbrev pub IsAbsent : Row → List Row → Type 0
IsAbsent x [] = Unit {0}
IsAbsent x (r ∷ rs) = (row_eq r x ≡ false) × IsAbsent x rs

pub absent_append : (x : Row) (rs ss : List Row) → IsAbsent x rs → IsAbsent x ss → IsAbsent x (rs ++ ss)
absent_append x [] ss h k = k
absent_append x (r ∷ rs) ss h k = (h.0, absent_append x rs ss h.1 k)

-- the list has the row at one place
pub record IsOnce (x : Row) (rs : List Row) : Type 0 where
  pub front : List Row
  pub back : List Row
  pub is : rs ≡ front ++ x ∷ back
  pub before : IsAbsent x front
  pub behind : IsAbsent x back

absent_below : (t g : ℕ) (x : Row) → ((x.thread ≡ t) → g ≤ x.sync) → IsAbsent x (rows_below t g)
absent_below t zero x h = tt
absent_below t (suc g) x h =
    absent_append x (rows_below t g) _ (absent_below t g x (λ e. let k = h e in omega arith)) (
      row_ne _ x (λ e. let same : x.thread ≡ t = ap (λ (r : Row). r.thread) (sym e) in
          let at : g ≡ x.sync = ap (λ (r : Row). r.sync) e in
          let k = h same in
          absurd (omega arith)),
      tt,
    )

once_below : (t g : ℕ) (x : Row) → x.thread ≡ t → x.sync < g → IsOnce x (rows_below t g)
once_below t zero x e h = absurd (omega arith)
once_below t (suc g) x e h =
    ⊎_elim
    (λ (s : x.sync ≡ g).
    record {
      front = rows_below t g;
      back = [];
      is = ap (λ (r : Row). rows_below t g ++ r ∷ []) (same_row (record { thread = t; sync = g }) x (sym e) (sym s));
      before = absent_below t g x (λ _. omega arith);
      behind = tt;
    })
    (λ (n : x.sync ≡ g → ⊥).
    let o : IsOnce x (rows_below t g) = once_below t g x e (omega (arith, n)) in
    record {
      front = o.front;
      back = o.back ++ record { thread = t; sync = g } ∷ [];
      is = ap (λ (rs : List Row). rs ++ record { thread = t; sync = g } ∷ []) o.is ∙ append_assoc o.front (x ∷ o.back) _;
      before = o.before;
      behind = absent_append x o.back _ o.behind (row_ne _ x (λ k. n (ap (λ (r : Row). r.sync) (sym k))), tt);
    })
    (cases_eq x.sync g)

absent_all : (t g : ℕ) (x : Row) → t ≤ x.thread → IsAbsent x (all_rows t g)
absent_all zero g x h = tt
absent_all (suc t) g x h = absent_append x (all_rows t g) _ (absent_all t g x (omega arith)) (absent_below t g x (λ e. absurd (omega arith)))

-- each row of a table stands once in the list of all rows
pub once_all : (t g : ℕ) (x : Row) → x.thread < t → x.sync < g → IsOnce x (all_rows t g)
once_all zero g x h k = absurd (omega arith)
once_all (suc t) g x h k =
    ⊎_elim
    (λ (s : x.thread ≡ t).
    let o : IsOnce x (rows_below t g) = once_below t g x s k in
    record {
      front = all_rows t g ++ o.front;
      back = o.back;
      is = ap (λ (rs : List Row). all_rows t g ++ rs) o.is ∙ sym (append_assoc (all_rows t g) o.front (x ∷ o.back));
      before = absent_append x (all_rows t g) _ (absent_all t g x (omega arith)) o.before;
      behind = o.behind;
    })
    (λ (n : x.thread ≡ t → ⊥).
    let o : IsOnce x (all_rows t g) = once_all t g x (omega (arith, n)) k in
    record {
      front = o.front;
      back = o.back ++ rows_below t g;
      is = ap (λ (rs : List Row). rs ++ rows_below t g) o.is ∙ append_assoc o.front (x ∷ o.back) _;
      before = o.before;
      behind = absent_append x o.back _ o.behind (absent_below t g x (λ e. absurd (n e)));
    })
    (cases_eq x.thread t)

-- ALL ROWS DIFFER

pub row_eq_flips : (r s : Row) → row_eq r s ≡ row_eq s r
row_eq_flips r s = ⊎_elim
    (λ (e : r ≡ s). λ i. row_eq (e i) (sym e i))
    (λ (n : row_eq r s ≡ false). n ∙ sym (row_ne s r (λ e. row_eq-false r s n (sym e))))
    (row_cases r s)

row_equivalence : IsEquivalence row_eq
row_equivalence = record {
  refl = row_eq-refl;
  symm = row_eq_flips;
  congr = λ r s t h. ap (λ (x : Row). row_eq x t) (row_eq-true r s h);
}

any_absent : (x : Row) (rs : List Row) → IsAbsent x rs → list_any (row_eq x) rs ≡ false
any_absent x [] h = refl
any_absent x (r ∷ rs) h = (λ i. (row_eq_flips x r ∙ h.0) i || any_absent x rs h.1 i)

distinct_rows : (t g n : ℕ) → IsDistinct row_eq (all_rows t g) → IsDistinct row_eq (all_rows t g ++ rows_below t n)
distinct_rows t g zero d = subst (IsDistinct row_eq) (sym (append-nil (all_rows t g))) d
distinct_rows t g (suc n) d =
    let next : Row = record { thread = t; sync = n } in
    let absent : IsAbsent next (all_rows t g ++ rows_below t n) = absent_append next (all_rows t g) _ (absent_all t g next (omega arith)) (absent_below t n next (λ e. omega arith)) in
    subst (IsDistinct row_eq) (append_assoc (all_rows t g) (rows_below t n) (next ∷ []))
    (IsDistinct-push row_equivalence (all_rows t g ++ rows_below t n) next (distinct_rows t g n d) (any_absent next _ absent))

pub all_distinct : (t g : ℕ) → IsDistinct row_eq (all_rows t g)
unfolding IsDistinct
all_distinct zero g = tt
all_distinct (suc t) g = distinct_rows t g g (all_distinct t g)
