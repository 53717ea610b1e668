-- The row that names another: what the search over all rows finds.
use Rattle.std.proofs.Common.{◌≡◌, ℕ, ◌<◌, Bool, true, false, cond, List, [], ◌∷◌, ◌++◌, sym, refl, ap, ◌∙◌, ⊎_elim, Option, Some, None}
use Rattle.std.specs.List.{find}
use Rattle.std.proofs.lemmas.Bool.{cases_Bool, true≢false}
use Rattle.protocol_values.specs.declared.Row.{Row}
use Rattle.protocol_values.specs.declared.Joined.{Joined}
use Rattle.protocol_ledger.specs.Tables.{all_rows, names, namer_of}
use Rattle.protocol_ledger.proofs.RowLemmas.{IsOnce, once_all}
use Rattle.protocol_ledger.proofs.Linking.{cases_Option, some_inj}

found_passes : (test : Row → Bool) (rs : List Row) (q : Row) → find test rs ≡ Some q → test q ≡ true
found_passes test [] q h = cc
found_passes test (r ∷ rs) q h = ⊎_elim
    (λ (e : test r ≡ true). let same : r ≡ q = some_inj r q (sym (ap (λ b. cond b (Some r) (find test rs)) e) ∙ h) in ap test (sym same) ∙ e)
    (λ (e : test r ≡ false). found_passes test rs q (sym (ap (λ b. cond b (Some r) (find test rs)) e) ∙ h))
    (cases_Bool (test r))

none_passes : (test : Row → Bool) (front : List Row) (q : Row) (back : List Row) → find test (front ++ q ∷ back) ≡ None → test q ≡ false
none_passes test [] q back h = ⊎_elim
    (λ (e : test q ≡ true). let bad : Some q ≡ None = sym (ap (λ b. cond b (Some q) (find test back)) e) ∙ h in cc)
    (λ (e : test q ≡ false). e)
    (cases_Bool (test q))
none_passes test (r ∷ rs) q back h = ⊎_elim
    (λ (e : test r ≡ true). let bad : Some r ≡ None = sym (ap (λ b. cond b (Some r) (find test (rs ++ q ∷ back))) e) ∙ h in cc)
    (λ (e : test r ≡ false). none_passes test rs q back (sym (ap (λ b. cond b (Some r) (find test (rs ++ q ∷ back))) e) ∙ h))
    (cases_Bool (test r))

-- the one that is found names the row
pub namer_names : (rs : List Row) (joined : Row → Option Joined) (x q : Row) → namer_of rs joined x ≡ Some q → names (joined q) x ≡ true
namer_names rs joined x q h = found_passes (λ r. names (joined r) x) rs q h

-- where none is found, no row of the table names it
pub no_namer : (threads rows : ℕ) (joined : Row → Option Joined) (x q : Row) → namer_of (all_rows threads rows) joined x ≡ None → q.thread < threads → q.sync < rows → names (joined q) x ≡ false
no_namer threads rows joined x q h t g =
    let o : IsOnce q (all_rows threads rows) = once_all threads rows q t g in
    none_passes (λ r. names (joined r) x) o.front q o.back (ap (find (λ r. names (joined r) x)) (sym o.is) ∙ h)

-- a row of the table that names it is found, where it is the only one
pub namer_is : (threads rows : ℕ) (joined : Row → Option Joined) (x q : Row) → q.thread < threads → q.sync < rows → names (joined q) x ≡ true → ((r : Row) → names (joined r) x ≡ true → r ≡ q) → namer_of (all_rows threads rows) joined x ≡ Some q
namer_is threads rows joined x q t g h only = ⊎_elim
    (λ (e : namer_of (all_rows threads rows) joined x ≡ None). absurd (true≢false (sym h ∙ no_namer threads rows joined x q e t g)))
    (λ (e : (r : Row) × (namer_of (all_rows threads rows) joined x ≡ Some r)).
    e.1 ∙ ap (λ (r : Row). Some r) (only e.0 (namer_names (all_rows threads rows) joined x e.0 e.1)))
    (cases_Option (namer_of (all_rows threads rows) joined x))

-- where no row names it, none is found
pub namer_none : (rs : List Row) (joined : Row → Option Joined) (x : Row) → ((r : Row) → names (joined r) x ≡ false) → namer_of rs joined x ≡ None
namer_none [] joined x h = refl
namer_none (r ∷ rs) joined x h = ap (λ b. cond b (Some r) (find (λ q. names (joined q) x) rs)) (h r) ∙ namer_none rs joined x h
