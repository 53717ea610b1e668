-- What the code reads from a table, said of its ledger.
use Rattle.std.proofs.Common.{◌≡◌, ℕ, ◌<◌, true, false, cond, sym, refl, ap, ◌∙◌, subst, ⊎_elim, Option, Some, None, is_some}
use Rattle.std.specs.Prelude.{IfSome, IfNone, ◌↔◌, Contains, option_and_then}
use Rattle.std.proofs.lemmas.Bool.{cases_Bool, false≢true, true≢false}
use Rattle.protocol_values.specs.declared.Row.{Row}
use Rattle.protocol_values.specs.declared.Joined.{Joined}
use Rattle.protocol_values.specs.declared.Offer.{Offer}
use Rattle.protocol_values.specs.declared.Commit.{Commit}
use Rattle.protocol_values.specs.declared.Cell.{Cell}
use Rattle.protocol_values.specs.declared.Cell.TheVariants.{Fresh, Waiting, Claimed, Synched, Taken}
use Rattle.protocol_ledger.specs.Tables.{Table, all_rows, cell_at, is_fresh, joined_at, offer_at, names, namer_of}
use Rattle.protocol_values.specs.Values.{joined_of}
use Rattle.protocol_ledger.specs.Ledgers.{Ledger, ledger_of, joined_in, offer_in, IsIn, Takes, Involves, HasCommit, IsLawful, commits_of, commits_in, pending_of, pending_in, commit_named, named_at, commit_at}
use Rattle.protocol_ledger.proofs.Linking.{cases_Option, some_parts, none_from, fresh_not_joined, IsNaming, naming}
use Rattle.protocol_ledger.proofs.Places.{row_inside}
use Rattle.protocol_ledger.proofs.Readings.{row_of_open}
use Rattle.protocol_ledger.proofs.Naming.{namer_names, no_namer, namer_none}
use Rattle.protocol_ledger.proofs.LedgerLemmas.{joined_in_ledger, offer_in_ledger}
use Rattle.protocol_ledger.proofs.Chosen.{law_at, fresh_unnamed}
use Rattle.protocol_ledger.proofs.CommitLemmas.{named_rows, row_in_commit, commit_members}

-- a committed row is one of the table's
joined_inside : (t : Table) (r : Row) (j : Joined) → joined_at t r ≡ Some j → (r.thread < t.threads) × (r.sync < t.rows)
joined_inside t r j h = row_inside t r (row_of_open t r (fresh_not_joined (cell_at t r) j h))

pub commits_in_table : (t : Table) → (c : Commit) → IsIn (joined_at t) (offer_at t) c → HasCommit (ledger_of t) c
commits_in_table t c h =
    subst (λ (z : (Row → Option Joined) × (Row → ℕ → Option Offer)). IsIn z.0 z.1 c) (λ i. (sym (joined_in_ledger t) i, sym (offer_in_ledger t) i)) h

pub commits_from_table : (t : Table) → (c : Commit) → HasCommit (ledger_of t) c → IsIn (joined_at t) (offer_at t) c
commits_from_table t c h =
    subst (λ (z : (Row → Option Joined) × (Row → ℕ → Option Offer)). IsIn z.0 z.1 c) (λ i. (joined_in_ledger t i, offer_in_ledger t i)) h

pub commits_in_ledger : (t : Table) → commits_of (all_rows t.threads t.rows) (joined_at t) (offer_at t) ≡ commits_in (ledger_of t)
unfolding ledger_of
commits_in_ledger t = λ i. commits_of (all_rows t.threads t.rows) (sym (joined_in_ledger t) i) (sym (offer_in_ledger t) i)

pub pending_in_ledger : (t : Table) → pending_of (all_rows t.threads t.rows) (joined_at t) ≡ pending_in (ledger_of t)
unfolding ledger_of
pending_in_ledger t = λ i. pending_of (all_rows t.threads t.rows) (sym (joined_in_ledger t) i)

pub members_in_ledger : (t : Table) → IsLawful (ledger_of t) → (c : Commit) → Contains (commits_in (ledger_of t)) c ↔ HasCommit (ledger_of t) c
unfolding ledger_of
members_in_ledger t law c =
    commit_members t.threads t.rows (joined_in (ledger_of t)) (offer_in (ledger_of t)) _ law
    (λ r j h. joined_inside t r j (ap (λ (f : Row → Option Joined). f r) (sym (joined_in_ledger t)) ∙ h))
    c

-- THE COMMIT OF A ROW

named_is : (t : Table) (r : Row) (c : Commit) → named_at (joined_at t) (offer_at t) r ≡ Some c → (j : Joined) × (joined_at t r ≡ Some j) × (commit_named (offer_at t) r j ≡ Some c)
named_is t r c h = by (joined_at t r) h
  where
    by : (o : Option Joined) → option_and_then (commit_named (offer_at t) r) o ≡ Some c → (j : Joined) × (o ≡ Some j) × (commit_named (offer_at t) r j ≡ Some c)
    by None k = let bad : None ≡ Some c = k in cc
    by (Some j) k = (j, refl, k)

-- whose commit it is
is_own : (t : Table) (r : Row) → is_some (joined_at t r) ≡ true → commit_at (all_rows t.threads t.rows) (joined_at t) (offer_at t) r ≡ named_at (joined_at t) (offer_at t) r
is_own t r e = ap (λ b. cond b (named_at (joined_at t) (offer_at t) r) (option_and_then (named_at (joined_at t) (offer_at t)) (namer_of (all_rows t.threads t.rows) (joined_at t) r))) e

is_namers : (t : Table) (r : Row) → is_some (joined_at t r) ≡ false → commit_at (all_rows t.threads t.rows) (joined_at t) (offer_at t) r ≡ option_and_then (named_at (joined_at t) (offer_at t)) (namer_of (all_rows t.threads t.rows) (joined_at t) r)
is_namers t r e = ap (λ b. cond b (named_at (joined_at t) (offer_at t) r) (option_and_then (named_at (joined_at t) (offer_at t)) (namer_of (all_rows t.threads t.rows) (joined_at t) r))) e

-- a Fresh row is in none
pub commit_fresh : (t : Table) (r : Row) → IsLawful (ledger_of t) → is_fresh (cell_at t r) ≡ true → commit_at (all_rows t.threads t.rows) (joined_at t) (offer_at t) r ≡ None
commit_fresh t r law fresh =
    is_namers t r (by_cell (cell_at t r) fresh)
    ∙ ap (option_and_then (named_at (joined_at t) (offer_at t))) (namer_none (all_rows t.threads t.rows) (joined_at t) r (fresh_unnamed t r law fresh))
  where
    by_cell : (c : Cell) → is_fresh c ≡ true → is_some (joined_of c) ≡ false
    by_cell Fresh h = refl
    by_cell Waiting h = refl
    by_cell Claimed h = refl
    by_cell (Synched j) h = absurd (false≢true h)
    by_cell (Taken j) h = absurd (false≢true h)

-- the commit that is found is one of the ledger's, and has the row
commit_found : (t : Table) (r : Row) (c : Commit) → commit_at (all_rows t.threads t.rows) (joined_at t) (offer_at t) r ≡ Some c → IsIn (joined_at t) (offer_at t) c × Involves c r
commit_found t r c h = ⊎_elim
    (λ (e : is_some (joined_at t r) ≡ true).
    let n = named_is t r c (sym (is_own t r e) ∙ h) in
    (record { row = r; way = n.0; is_joined = n.1; is_named = n.2 }, (n.0.own, (named_rows (offer_at t) r n.0 c n.2).own)))
    (λ (e : is_some (joined_at t r) ≡ false). by_namer (namer_of (all_rows t.threads t.rows) (joined_at t) r) refl (sym (is_namers t r e) ∙ h))
    (cases_Bool (is_some (joined_at t r)))
  where
    by_namer : (o : Option Row) → namer_of (all_rows t.threads t.rows) (joined_at t) r ≡ o → option_and_then (named_at (joined_at t) (offer_at t)) o ≡ Some c → IsIn (joined_at t) (offer_at t) c × Involves c r
    by_namer None e k = let bad : None ≡ Some c = k in cc
    by_namer (Some q) e k =
        let n = named_is t q c k in
        let m = naming (joined_at t q) r (namer_names (all_rows t.threads t.rows) (joined_at t) r q e) in
        let same : m.way ≡ n.0 = Rattle.protocol_ledger.proofs.Linking.some_inj m.way n.0 (sym m.is ∙ n.1) in
        let partner : n.0.partner ≡ Some m.place = ap (λ (j : Joined). j.partner) (sym same) ∙ m.partner in (
          record { row = q; way = n.0; is_joined = n.1; is_named = n.2 },
          (m.place.1, subst (λ (x : Row). Takes c x m.place.1) m.row ((named_rows (offer_at t) q n.0 c n.2).other m.place partner)),
        )

-- in a lawful ledger a joined row names a commit
names_some : (t : Table) → IsLawful (ledger_of t) → (r : Row) → named_at (joined_at t) (offer_at t) r ≡ None → is_some (joined_at t r) ≡ true → ⊥
names_some t law r h e =
    let j = some_parts (joined_at t r) e in
    let none : commit_named (offer_at t) r j.0 ≡ None = sym (ap (option_and_then (commit_named (offer_at t) r)) j.1) ∙ h in
    let some : is_some (commit_named (offer_at t) r j.0) ≡ true = (law_at t law).named r j.0 j.1 in
    false≢true (sym (ap (λ (o : Option Commit). is_some o) none) ∙ some)

-- where none is found, no commit of the ledger has the row
commit_missing : (t : Table) (r : Row) → IsLawful (ledger_of t) → commit_at (all_rows t.threads t.rows) (joined_at t) (offer_at t) r ≡ None → (c : Commit) → IsIn (joined_at t) (offer_at t) c → Involves c r → ⊥
commit_missing t r law h c k v = ⊎_elim
    (λ (e : is_some (joined_at t r) ≡ true). names_some t law r (sym (is_own t r e) ∙ h) e)
    (λ (e : is_some (joined_at t r) ≡ false). by_namer (namer_of (all_rows t.threads t.rows) (joined_at t) r) refl (sym (is_namers t r e) ∙ h) e)
    (cases_Bool (is_some (joined_at t r)))
  where
    by_namer : (o : Option Row) → namer_of (all_rows t.threads t.rows) (joined_at t) r ≡ o → option_and_then (named_at (joined_at t) (offer_at t)) o ≡ None → is_some (joined_at t r) ≡ false → ⊥
    by_namer (Some q) e n f =
        let m = naming (joined_at t q) r (namer_names (all_rows t.threads t.rows) (joined_at t) r q e) in
        names_some t law q n (ap (λ (x : Option Joined). is_some x) m.is)
    by_namer None e n f = ⊎_elim
        (λ (x : k.row ≡ r). false≢true (sym f ∙ ap (λ (y : Row). is_some (joined_at t y)) (sym x) ∙ ap (λ (y : Option Joined). is_some y) k.is_joined))
        (λ (x : names (joined_at t k.row) r ≡ true).
        let in_t = joined_inside t k.row k.way k.is_joined in
        true≢false (sym x ∙ no_namer t.threads t.rows (joined_at t) r k.row e in_t.0 in_t.1))
        (row_in_commit (joined_at t) (offer_at t) c r k v)

pub commit_of_found : (t : Table) (l : Ledger) (r : Row) (o : Option Commit) → ledger_of t ≡ l → o ≡ commit_at (all_rows t.threads t.rows) (joined_at t) (offer_at t) r → IfSome o (λ c. HasCommit l c × Involves c r)
commit_of_found t l r None e h = tt
commit_of_found t l r (Some c) e h =
    let found = commit_found t r c (sym h) in
    (subst (λ (x : Ledger). HasCommit x c) e (commits_in_table t c found.0), found.1)

pub commit_of_none : (t : Table) (l : Ledger) (r : Row) (o : Option Commit) → ledger_of t ≡ l → IsLawful (ledger_of t) → o ≡ commit_at (all_rows t.threads t.rows) (joined_at t) (offer_at t) r → IfNone o ((c : Commit) → HasCommit l c → Involves c r → ⊥)
commit_of_none t l r None e law h = λ c k v. commit_missing t r law (sym h) c (commits_from_table t c (subst (λ (x : Ledger). HasCommit x c) (sym e) k)) v
commit_of_none t l r (Some c) e law h = tt
