-- What a loop over all rows, thread by thread, has at its next row and at its next thread.
use Rattle.std.proofs.Common.{◌≡◌, ℕ, zero, suc, ◌+◌, ◌<◌, Bool, true, false, cond, List, [], ◌∷◌, ◌++◌, sym, refl, ap, ◌∙◌, arith, Option, Some, None, ⊎_elim}
use Rattle.std.specs.Prelude.{option_to_list}
use Rattle.std.specs.List.{find}
use Rattle.std.proofs.lemmas.List.{append-nil}
use Rattle.std.proofs.lemmas.List.Concat.{flat_map-append}
use Rattle.std.proofs.lemmas.List.Sums.{sum_by_push, sum_by-append}
use Rattle.std.proofs.lemmas.Bool.{cases_Bool, cases_eq}
use Rattle.protocol_values.specs.declared.Row.{Row}
use Rattle.protocol_values.specs.declared.Joined.{Joined}
use Rattle.protocol_values.specs.declared.Offer.{Offer}
use Rattle.protocol_values.specs.declared.Commit.{Commit}
use Rattle.protocol_ledger.specs.Tables.{all_rows, rows_below, names, namer_of}
use Rattle.protocol_ledger.specs.Ledgers.{told_at, commits_of, pending_of, is_pending}

-- THE COMMITS that one row more tells

pub commits_push : (rs : List Row) (r : Row) (joined : Row → Option Joined) (offer : Row → ℕ → Option Offer) → commits_of (rs ++ r ∷ []) joined offer ≡ commits_of rs joined offer ++ option_to_list (told_at joined offer r)
commits_push rs r joined offer =
    flat_map-append (λ x. option_to_list (told_at joined offer x)) rs (r ∷ [])
    ∙ ap (λ (cs : List Commit). commits_of rs joined offer ++ cs) (append-nil (option_to_list (told_at joined offer r)))

pub commits_row : (thread sync : ℕ) (joined : Row → Option Joined) (offer : Row → ℕ → Option Offer) → commits_of (rows_below thread (sync + 1)) joined offer ≡ commits_of (rows_below thread sync) joined offer ++ option_to_list (told_at joined offer (record { thread = thread; sync = sync }))
commits_row thread sync joined offer =
    ap (λ n. commits_of (rows_below thread n) joined offer) (let e : sync + 1 ≡ suc sync = omega arith in e)
    ∙ commits_push (rows_below thread sync) (record { thread = thread; sync = sync }) joined offer

-- THE SEARCH FOR A NAMER

find_append : (test : Row → Bool) (xs ys : List Row) → find test xs ≡ None → find test (xs ++ ys) ≡ find test ys
find_append test [] ys h = refl
find_append test (x ∷ xs) ys h = ⊎_elim
    (λ (e : test x ≡ true). let bad : Some x ≡ None = sym (ap (λ b. cond b (Some x) (find test xs)) e) ∙ h in cc)
    (λ (e : test x ≡ false).
    ap (λ b. cond b (Some x) (find test (xs ++ ys))) e
    ∙ find_append test xs ys (sym (ap (λ b. cond b (Some x) (find test xs)) e) ∙ h))
    (cases_Bool (test x))

find_front : (test : Row → Bool) (xs ys : List Row) (r : Row) → find test xs ≡ Some r → find test (xs ++ ys) ≡ Some r
find_front test [] ys r h = let bad : None ≡ Some r = h in cc
find_front test (x ∷ xs) ys r h = ⊎_elim
    (λ (e : test x ≡ true). ap (λ b. cond b (Some x) (find test (xs ++ ys))) e ∙ sym (ap (λ b. cond b (Some x) (find test xs)) e) ∙ h)
    (λ (e : test x ≡ false).
    ap (λ b. cond b (Some x) (find test (xs ++ ys))) e
    ∙ find_front test xs ys r (sym (ap (λ b. cond b (Some x) (find test xs)) e) ∙ h))
    (cases_Bool (test x))

-- one row more
pub namer_push : (rs : List Row) (r x : Row) (joined : Row → Option Joined) → namer_of rs joined x ≡ None → names (joined r) x ≡ false → namer_of (rs ++ r ∷ []) joined x ≡ None
namer_push rs r x joined none f = find_append (λ q. names (joined q) x) rs (r ∷ []) none ∙ ap (λ b. cond b (Some r) None) f

pub namer_row : (thread sync : ℕ) (x : Row) (joined : Row → Option Joined) → namer_of (rows_below thread sync) joined x ≡ None → names (joined (record { thread = thread; sync = sync })) x ≡ false → namer_of (rows_below thread (sync + 1)) joined x ≡ None
namer_row thread sync x joined none f =
    ap (λ n. namer_of (rows_below thread n) joined x) (let e : sync + 1 ≡ suc sync = omega arith in e)
    ∙ namer_push (rows_below thread sync) (record { thread = thread; sync = sync }) x joined none f

-- the first row of a thread that names it
pub namer_first : (thread sync n : ℕ) (x : Row) (joined : Row → Option Joined) → sync < n → namer_of (rows_below thread sync) joined x ≡ None → names (joined (record { thread = thread; sync = sync })) x ≡ true → namer_of (rows_below thread n) joined x ≡ Some (record { thread = thread; sync = sync })
namer_first thread sync zero x joined b none t = absurd (omega arith)
namer_first thread sync (suc n) x joined b none t = ⊎_elim
    (λ (e : sync ≡ n).
    ap (λ k. namer_of (rows_below thread k ++ record { thread = thread; sync = k } ∷ []) joined x) (sym e)
    ∙ find_append (λ q. names (joined q) x) (rows_below thread sync) (record { thread = thread; sync = sync } ∷ []) none
    ∙ ap (λ b. cond b (Some (record { thread = thread; sync = sync })) None) t)
    (λ (e : sync ≡ n → ⊥).
    find_front (λ q. names (joined q) x) (rows_below thread n) (record { thread = thread; sync = n } ∷ []) (record { thread = thread; sync = sync })
    (namer_first thread sync n x joined (omega (arith, e)) none t))
    (cases_eq sync n)

-- one thread more
pub namer_thread : (thread rows : ℕ) (x : Row) (joined : Row → Option Joined) → namer_of (all_rows thread rows) joined x ≡ None → namer_of (rows_below thread rows) joined x ≡ None → namer_of (all_rows (thread + 1) rows) joined x ≡ None
namer_thread thread rows x joined none f =
    ap (λ n. namer_of (all_rows n rows) joined x) (let e : thread + 1 ≡ suc thread = omega arith in e)
    ∙ find_append (λ q. names (joined q) x) (all_rows thread rows) (rows_below thread rows) none
    ∙ f

-- the first thread with a row that names it
pub namer_found : (thread threads rows : ℕ) (x q : Row) (joined : Row → Option Joined) → thread < threads → namer_of (all_rows thread rows) joined x ≡ None → namer_of (rows_below thread rows) joined x ≡ Some q → namer_of (all_rows threads rows) joined x ≡ Some q
namer_found thread zero rows x q joined b none t = absurd (omega arith)
namer_found thread (suc threads) rows x q joined b none t = ⊎_elim
    (λ (e : thread ≡ threads).
    ap (λ k. namer_of (all_rows k rows ++ rows_below k rows) joined x) (sym e)
    ∙ find_append (λ r. names (joined r) x) (all_rows thread rows) (rows_below thread rows) none
    ∙ t)
    (λ (e : thread ≡ threads → ⊥).
    find_front (λ r. names (joined r) x) (all_rows threads rows) (rows_below threads rows) q
    (namer_found thread threads rows x q joined (omega (arith, e)) none t))
    (cases_eq thread threads)

-- THE PENDING PAIRS

pub pending_push : (rs : List Row) (r : Row) (joined : Row → Option Joined) → pending_of (rs ++ r ∷ []) joined ≡ pending_of rs joined + cond (is_pending joined (joined r)) 1 0
unfolding pending_of
pending_push rs r joined = sum_by_push (λ x. cond (is_pending joined (joined x)) 1 0) rs r

pub pending_row : (thread sync : ℕ) (joined : Row → Option Joined) → pending_of (rows_below thread (sync + 1)) joined ≡ pending_of (rows_below thread sync) joined + cond (is_pending joined (joined (record { thread = thread; sync = sync }))) 1 0
pending_row thread sync joined =
    ap (λ n. pending_of (rows_below thread n) joined) (let e : sync + 1 ≡ suc sync = omega arith in e)
    ∙ pending_push (rows_below thread sync) (record { thread = thread; sync = sync }) joined

pub pending_thread : (thread rows : ℕ) (joined : Row → Option Joined) → pending_of (all_rows (thread + 1) rows) joined ≡ pending_of (all_rows thread rows) joined + pending_of (rows_below thread rows) joined
unfolding pending_of
pending_thread thread rows joined =
    ap (λ n. pending_of (all_rows n rows) joined) (let e : thread + 1 ≡ suc thread = omega arith in e)
    ∙ sum_by-append (λ x. cond (is_pending joined (joined x)) 1 0) (all_rows thread rows) (rows_below thread rows)
