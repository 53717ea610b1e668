-- What a ledger tells of its end, found by looking at rows.
use Rattle.std.proofs.Common.{◌⊎◌, ◌≡◌, ◌∙◌, ◌+◌, ◌*◌, ◌/◌, ◌%◌, ◌<◌, ◌≤◌, ◌++◌, ◌∷◌, [], ℕ, zero, suc, List, length, set, slice_get, Bool, true, false, cond, ltb, Option, None, Some, ap, arith, inl, inr, refl, subst, sym, unwrap_or, ⊎_elim}
use Rattle.std.specs.Prelude.{slice_index_or}
use Rattle.std.proofs.lemmas.Bool.{and_parts, cases_Bool, cases_lt, false≢true, ltb-true}
use Rattle.std.proofs.lemmas.Option.{none-some, same_Some}
use Rattle.protocol_values.specs.declared.Cause.{Cause}
use Rattle.protocol_values.specs.declared.Cause.TheVariants as cause
use Rattle.protocol_values.specs.declared.Commit.{Commit}
use Rattle.protocol_values.specs.declared.Commit.TheVariants.{Alone, Pair}
use Rattle.protocol_values.specs.declared.NackName.{NackName}
use Rattle.protocol_values.specs.declared.NackWord.{NackWord}
use Rattle.protocol_values.specs.declared.NackWord.TheVariants.{Bound, Carried, Unbound}
use Rattle.protocol_values.specs.declared.Offer.{Offer}
use Rattle.protocol_values.specs.declared.Row.{Row}
use Rattle.protocol_values.specs.Commits.{stamp_of}
use Rattle.protocol_values.specs.Scopes.{has_scope}
use Rattle.protocol_values.specs.Words.{nack_of}
use Rattle.protocol_values.proofs.WordLemmas.{nack_of-zero}
use Rattle.protocol_ledger.specs.Ledgers.{CountsThread, Fits, HasCommit, Involves, IsCaused, IsLawful, Ledger, Takes, binding_in, carried_in, nack_in, course_in, has_row, joined_in, ledger_of, marks_in, no_entry, offer_in}
use Rattle.protocol_ledger.specs.Openings.{IsLastStamp, nack_numbered}
use Rattle.protocol_ledger.specs.Kept.{Linked}
use Rattle.protocol_ledger.specs.Tables.{Table, bound_by, carried_by, is_nack, nack_at, nack_says, cell_at, encloses, is_fresh, is_taken, marks_at, number_of, offer_at, start_of}
use Rattle.protocol_values.specs.declared.Cell.{Cell}
use Rattle.protocol_values.specs.declared.Cell.TheVariants.{Claimed, Fresh, Synched, Taken, Waiting}
use Rattle.protocol_ledger.proofs.LedgerLemmas.{binding_in_ledger, carried_in_ledger, lawful_ledger, offer_in_ledger}
use Rattle.protocol_ledger.proofs.Readings.{bound_is, carried_is, count_fresh, offer_none}

-- A COMMIT'S ROWS are rows of the ledger

-- what it took was offered
taken_offer : (l : Ledger) (c : Commit) (r : Row) (n : ℕ) → Takes c r n → Fits (joined_in l) (offer_in l) (marks_in l) c → (o : Offer) × (offer_in l r n ≡ Some o)
taken_offer l (Pair sender receiver channel m s) r n (inl is) fits = let o = fits.1 in (o.0, subst (λ (at : Row × ℕ). offer_in l at.0 at.1 ≡ Some o.0) is o.1)
taken_offer l (Pair sender receiver channel m s) r n (inr is) fits = let o = fits.2 in (o.0, subst (λ (at : Row × ℕ). offer_in l at.0 at.1 ≡ Some o.0) is o.1)
taken_offer l (Alone at k s) r n is fits = let o = offered k fits in (o.0, subst (λ (at : Row × ℕ). offer_in l at.0 at.1 ≡ Some o.0) is o.1)
  where
    offered : (k : Cause) → IsCaused (joined_in l) (offer_in l) (marks_in l) at k → (o : Offer) × (offer_in l at.0 at.1 ≡ Some o)
    offered (cause.Always m) h = (h.0, h.1)
    offered (cause.Nack x) h = let o = h.0 in (o.0, o.1)
    offered (cause.End p) h = let o = h.0 in (o.0, o.1)

offers_inside : (l : Ledger) (r : Row) (n : ℕ) (o : Offer) → offer_in l r n ≡ Some o → has_row l r ≡ true
unfolding offer_in
offers_inside l r n o e = ⊎_elim (λ (yes : has_row l r ≡ true). yes)
    (λ (no : has_row l r ≡ false). absurd (none-some o (sym (ap (λ (b : Bool). slice_index_or (cond b (slice_index_or l.entries (number_of l.rows r) no_entry) no_entry).offers n None) no) ∙ e)))
    (cases_Bool (has_row l r))

pub commit_inside : (l : Ledger) → IsLawful l → (c : Commit) → HasCommit l c → (r : Row) → Involves c r → (r.thread < l.threads) × (r.sync < l.rows)
commit_inside l lawful c has r involved =
    let o = taken_offer l c r involved.0 involved.1 (lawful.fits c has) in
    let inside = offers_inside l r involved.0 o.0 o.1 in
    let p = and_parts (ltb r.thread l.threads) (ltb r.sync l.rows) inside in
    (ltb-true r.thread l.threads p.0, ltb-true r.sync l.rows p.1)

-- THE LAST STAMP

-- a commit counts the start of each of its threads
pub counts_own : (c : Commit) (t g : ℕ) → Involves c (record { thread = t; sync = g }) → CountsThread c t
counts_own (Pair sender receiver channel m s) t g involved = ⊎_elim
    (λ (is : sender ≡ (record { thread = t; sync = g }, involved.0)). inl (ap (λ (at : Row × ℕ). at.0.thread) is))
    (λ (is : receiver ≡ (record { thread = t; sync = g }, involved.0)). inr (ap (λ (at : Row × ℕ). at.0.thread) is))
    involved.1
counts_own (Alone at k s) t g involved = inl (ap (λ (x : Row × ℕ). x.0.thread) involved.1)

-- of the rows before this one the last stamp is that of the last commit, or of the start
unfoldable pub IsLastBefore : Ledger → ℕ → ℕ → ℕ → Type 0
IsLastBefore l t from last =
    ((from ≡ 0) × (last ≡ start_of (course_in l t)))
    ⊎ ((c : Commit) × (g : ℕ) × (from ≡ g + 1) × HasCommit l c × Involves c (record { thread = t; sync = g }) × (stamp_of c ≡ last))

-- and from this one on no row is in a commit
unfoldable pub NoneFrom : Ledger → ℕ → ℕ → Type 0
NoneFrom l t to = (c : Commit) (g : ℕ) → to ≤ g → HasCommit l c → Involves c (record { thread = t; sync = g }) → ⊥

pub last_found : (l : Ledger) (t at last : ℕ) → IsLawful l → IsLastBefore l t at last → NoneFrom l t at → IsLastStamp l t last
unfolding IsLastBefore NoneFrom
last_found l t at last lawful (inl start) none = record {
  above = λ c g has involved. absurd (none c g (let zero_at = start.0 in omega (arith, zero_at)) has involved);
  started = let same = start.1 in omega (arith, same);
  there = inl start.1;
}
last_found l t at last lawful (inr found) none = record {
  above = λ c g has involved. ⊎_elim
      (λ (below : g < at). ⊎_elim
      (λ (same : g ≡ found.1).
      let one : c ≡ found.0 = lawful.once (record { thread = t; sync = g }) c found.0 has found.3 involved (subst (λ (h : ℕ). Involves found.0 (record { thread = t; sync = h })) (sym same) found.4) in
      let stamp : stamp_of c ≡ last = ap stamp_of one ∙ found.5 in omega (arith, stamp))
      (λ (earlier : g < found.1).
      let less = (lawful.stamps found.0 found.3).above c has (inl (t, found.1, g, earlier, involved, found.4)) in
      let stamp = found.5 in omega (arith, less, stamp))
      (Rattle.std.proofs.Math.Nat.eq-or-lt_of_le (let end = found.2 in let low : g ≤ found.1 = omega (arith, below, end) in low)))
      (λ (behind : at ≤ g). absurd (none c g behind has involved))
      (cases_lt g at);
  started = let after = (lawful.stamps found.0 found.3).after_start t (counts_own found.0 t found.1 found.4) in let stamp = found.5 in omega (arith, after, stamp);
  there = inr (found.0, found.1, found.3, found.4, found.5);
}

-- where a row is in no commit, none behind it is
pub none_behind : (l : Ledger) (t at : ℕ) → IsLawful l → ((c : Commit) → HasCommit l c → Involves c (record { thread = t; sync = at }) → ⊥) → NoneFrom l t at
unfolding NoneFrom
none_behind l t at lawful none c g behind has involved = ⊎_elim
    (λ (same : at ≡ g). none c has (subst (λ (h : ℕ). Involves c (record { thread = t; sync = h })) (sym same) involved))
    (λ (below : at < g). let d = lawful.in_turn c t g at has involved below in none d.0 d.1 d.2)
    (Rattle.std.proofs.Math.Nat.eq-or-lt_of_le behind)

pub none_outside : (l : Ledger) (t : ℕ) → IsLawful l → NoneFrom l t l.rows
unfolding NoneFrom
none_outside l t lawful c g behind has involved = let inside = (commit_inside l lawful c has (record { thread = t; sync = g }) involved).1 in omega (arith, inside, behind)

-- NACKS

-- what a nack's word says, the ledger has
pub nack_told : (t : Table) (l : Ledger) (n : NackName) (w : NackWord) → ledger_of t ≡ l → w ≡ nack_says t n → (binding_in l n ≡ bound_by w) × (carried_in l n ≡ carried_by w)
nack_told t l n w is e = (
  sym (ap (λ (x : Ledger). binding_in x n) is) ∙ (λ i. binding_in_ledger t i n) ∙ bound_is t n ∙ ap bound_by (sym e),
  sym (ap (λ (x : Ledger). carried_in x n) is) ∙ (λ i. carried_in_ledger t i n) ∙ carried_is t n ∙ ap carried_by (sym e),
)

-- a word of 0 says that the nack is not bound
pub zero_says : (t : Table) (n : NackName) → nack_at t n ≡ 0 → nack_says t n ≡ Unbound
unfolding nack_says
zero_says t n zero_word = by_test (is_nack t n)
  where
    by_test : (b : Bool) → cond b (unwrap_or (nack_of (nack_at t n)) Unbound) Unbound ≡ Unbound
    by_test true = ap (λ (w : ℕ). unwrap_or (nack_of w) Unbound) zero_word ∙ ap (λ (o : Option NackWord). unwrap_or o Unbound) nack_of-zero
    by_test false = refl

-- one that was settled before is bound to no row
pub carried_unbound : (l : Ledger) (n : NackName) (stamp : ℕ) → carried_in l n ≡ Some stamp → binding_in l n ≡ None
unfolding carried_in binding_in
carried_unbound l n stamp h = by_word (nack_in l n) h
  where
    by_word : (w : NackWord) → carried_by w ≡ Some stamp → bound_by w ≡ None
    by_word Unbound e = refl
    by_word (Bound b) e = absurd (none-some stamp e)
    by_word (Carried s) e = refl

pub enclosed_by : (scope : ℕ) (o : Option Offer) → encloses scope o ≡ true → (x : Offer) × (o ≡ Some x) × (has_scope x.scopes scope ≡ true)
enclosed_by scope None e = absurd (false≢true e)
enclosed_by scope (Some x) e = (x, refl, e)

pub outside_of : (scope : ℕ) (o : Option Offer) → encloses scope o ≡ false → (x : Offer) → o ≡ Some x → has_scope x.scopes scope ≡ false
outside_of scope None e x is = absurd (none-some x is)
outside_of scope (Some y) e x is = subst (λ (z : Offer). has_scope z.scopes scope ≡ false) (same_Some y x is) e

-- LISTS
pub each_pushed : {A : Type 0} (P : ℕ → A → Type 0) (xs : List A) (y : A) → ((i : ℕ) (x : A) → slice_get xs i ≡ Some x → P i x) → P (length xs) y → (i : ℕ) (x : A) → slice_get (xs ++ y ∷ []) i ≡ Some x → P i x
each_pushed P [] y before new zero x e = subst (P 0) (same_Some y x e) new
each_pushed P [] y before new (suc i) x e = absurd (none-some x e)
each_pushed P (z ∷ xs) y before new zero x e = before 0 x e
each_pushed P (z ∷ xs) y before new (suc i) x e = each_pushed (λ k. P (suc k)) xs y (λ k. before (suc k)) new i x e

pub each_set : {A : Type 0} (P : ℕ → A → Type 0) (xs : List A) (k : ℕ) (y : A) → ((i : ℕ) (x : A) → slice_get xs i ≡ Some x → (i ≡ k → ⊥) → P i x) → P k y → (i : ℕ) (x : A) → slice_get (set xs k y) i ≡ Some x → P i x
each_set P [] k y others here i x e = absurd (none-some x e)
each_set P (z ∷ xs) zero y others here zero x e = subst (P 0) (same_Some y x e) here
each_set P (z ∷ xs) zero y others here (suc i) x e = others (suc i) x e (λ same. absurd (omega arith))
each_set P (z ∷ xs) (suc k) y others here zero x e = others 0 x e (λ same. absurd (omega arith))
each_set P (z ∷ xs) (suc k) y others here (suc i) x e = each_set (λ n. P (suc n)) xs k y (λ n v is apart. others (suc n) v is (λ same. apart (omega arith))) here i x e

-- what holds of the elements before place k holds up to it, where the element there is as those behind it
pub each_kept : {A : Type 0} (P Q : ℕ → A → Type 0) (xs : List A) (k : ℕ) → ((i : ℕ) (x : A) → slice_get xs i ≡ Some x → (i < k → P i x) × (k ≤ i → Q i x)) → ((x : A) → Q k x → P k x) → (i : ℕ) (x : A) → slice_get xs i ≡ Some x → (i < k + 1 → P i x) × (k + 1 ≤ i → Q i x)
each_kept P Q xs k told here i x e =
    let t = told i x e in (
      λ h. ⊎_elim
          (λ (less : i < k). t.0 less)
          (λ (more : k ≤ i). let same : k ≡ i = omega arith in subst (λ (n : ℕ). P n x) same (here x (subst (λ (n : ℕ). Q n x) (sym same) (t.1 more))))
          (cases_lt i k),
      λ h. t.1 (omega arith),
    )

pub numbered : (n : NackName) → n.k < 64 → nack_numbered (n.thread * 64 + n.k) ≡ n
numbered n low =
    let thread : (n.thread * 64 + n.k) / 64 ≡ n.thread = omega (arith, low) in
    let k : (n.thread * 64 + n.k) % 64 ≡ n.k = omega (arith, low) in
    λ i. record { thread = thread i; k = k i }

-- OPENED ROWS
-- who offers something is opened
offers_opened : (t : Table) (r : Row) (n : ℕ) (o : Offer) → offer_at t r n ≡ Some o → is_fresh (cell_at t r) ≡ false
offers_opened t r n o e = ⊎_elim
    (λ (fresh : is_fresh (cell_at t r) ≡ true). absurd (none-some o (sym (offer_none t r n (let none = count_fresh t r fresh in omega (arith, none))) ∙ e)))
    (λ (seen_open : is_fresh (cell_at t r) ≡ false). seen_open)
    (cases_Bool (is_fresh (cell_at t r)))

taken_opened : (c : Cell) → is_taken c ≡ true → is_fresh c ≡ false
taken_opened Fresh e = absurd (false≢true e)
taken_opened Waiting e = absurd (false≢true e)
taken_opened Claimed e = absurd (false≢true e)
taken_opened (Synched j) e = absurd (false≢true e)
taken_opened (Taken j) e = refl

-- and the rows before it were taken
taken_before : (t : Table) → Linked t.threads t.rows (cell_at t) (offer_at t) (marks_at t) → (thread g h : ℕ) → g < h → is_fresh (cell_at t (record { thread = thread; sync = h })) ≡ false → is_taken (cell_at t (record { thread = thread; sync = g })) ≡ true
taken_before t linked thread g zero below seen_open = absurd (omega (arith, below))
taken_before t linked thread g (suc h) below seen_open =
    let next : suc h ≡ h + 1 = omega arith in
    let last = linked.in_turn thread h (subst (λ (k : ℕ). is_fresh (cell_at t (record { thread = thread; sync = k })) ≡ false) next seen_open) in
    ⊎_elim
    (λ (same : g ≡ h). subst (λ (k : ℕ). is_taken (cell_at t (record { thread = thread; sync = k })) ≡ true) (sym same) last)
    (λ (lower : g < h). taken_before t linked thread g h lower (taken_opened (cell_at t (record { thread = thread; sync = h })) last))
    (Rattle.std.proofs.Math.Nat.eq-or-lt_of_le (let low : g ≤ h = omega (arith, below) in low))

-- so behind a row that was not taken none is in a commit
pub none_later : (t : Table) → Linked t.threads t.rows (cell_at t) (offer_at t) (marks_at t) → (thread g : ℕ) → is_taken (cell_at t (record { thread = thread; sync = g })) ≡ false
    → (c : Commit) (h : ℕ) → HasCommit (ledger_of t) c → Involves c (record { thread = thread; sync = h }) → h ≤ g
none_later t linked thread g untaken c h has involved = ⊎_elim
    (λ (above : g < h).
    let r : Row = record { thread = thread; sync = h } in
    let o = taken_offer (ledger_of t) c r involved.0 involved.1 ((lawful_ledger t linked).fits c has) in
    let seen_open = offers_opened t r involved.0 o.0 (sym (λ i. offer_in_ledger t i r involved.0) ∙ o.1) in
    absurd (false≢true (sym untaken ∙ taken_before t linked thread g h above seen_open)))
    (λ (within : h ≤ g). within)
    (cases_lt g h)
