-- The commits of a lawful ledger stand in the journal's order in one way.
use Rattle.std.proofs.Common.{◌≡◌, ℕ, ◌<◌, eqb, List, length, get_or, Some, Contains, ap, ◌∙◌, subst, arith, inl, ⊎_elim}
use Rattle.std.specs.List.{IsDistinct}
use Rattle.std.proofs.lemmas.Bool.{and_parts, eqb-true, false_from_ne_true, cases_order}
use Rattle.std.proofs.lemmas.List.Elements.{Contains-get_or}
use Rattle.std.proofs.lemmas.List.Sorted.{Contains-permutation, IsPermutation-sym}
use Rattle.std.proofs.lemmas.Map.Keys.{IsDistinct-from_apart}
use Rattle.std.proofs.lemmas.Option.{slice_get-get_or}
use Rattle.protocol_values.specs.declared.Commit.{Commit}
use Rattle.protocol_values.specs.declared.Row.{Row}
use Rattle.protocol_values.specs.Commits.{first_row, first_thread, stamp_of}
use Rattle.protocol_ledger.specs.Ledgers.{Ledger, HasCommit, Involves, IsLawful, commits_in, joined_in, offer_in, rows_in}
use Rattle.protocol_ledger.proofs.CommitLemmas.{commit_told}
use Rattle.protocol_ledger.proofs.Ordering.{causal_ledger, first_involved}
use Rattle.journal_ledger.specs.Ledgers.{IsOrderOf, OneLedgerOrder}
use Rattle.journal_order.proofs.Unique.{ascends-from-order, one-list, same_key}

abbrev row : ℕ → ℕ → Row
row t g = record { thread = t; sync = g }

-- the later commit of a thread has the greater stamp
stamps-rise : (l : Ledger) → IsLawful l → (c d : Commit) (t g h : ℕ) → HasCommit l c → HasCommit l d → Involves c (row t g) → Involves d (row t h) → g < h → stamp_of c < stamp_of d
stamps-rise l law c d t g h in_c in_d has_c has_d lt = (law.stamps d in_d).above c in_c (inl (t, h, g, lt, has_c, has_d))

-- two commits of one key are one
one-key : (l : Ledger) → IsLawful l → (c d : Commit) → HasCommit l c → HasCommit l d → stamp_of c ≡ stamp_of d → first_thread c ≡ first_thread d → c ≡ d
one-key l law c d in_c in_d stamps threads =
    let t = first_thread d in
    let g = (first_row c).sync in
    let h = (first_row d).sync in
    let has_c : Involves c (row t g) = subst (λ (u : ℕ). Involves c (row u g)) threads (first_involved c) in
    let has_d : Involves d (row t h) = first_involved d in
    ⊎_elim
    (λ same. law.once (row t h) c d in_c in_d (subst (λ (n : ℕ). Involves c (row t n)) same has_c) has_d)
    (λ other. ⊎_elim
    (λ lt. absurd (omega (arith, stamps, stamps-rise l law c d t g h in_c in_d has_c has_d lt)))
    (λ gt. absurd (omega (arith, stamps, stamps-rise l law d c t h g in_d in_c has_d has_c gt)))
    other)
    (cases_order g h)

member : (l : Ledger) (cs : List Commit) (c : Commit) → IsOrderOf l cs → Contains cs c → HasCommit l c
member l cs c order h = commit_told (rows_in l) (joined_in l) (offer_in l) c (Contains-permutation cs (commits_in l) c (IsPermutation-sym (commits_in l) cs order.all) h)

distinct : (l : Ledger) → IsLawful l → (cs : List Commit) → IsOrderOf l cs → IsDistinct same_key cs
distinct l law cs order = IsDistinct-from_apart same_key cs (λ i j x lt within. false_from_ne_true _ (λ same.
    let c = get_or cs i x in
    let d = get_or cs j x in
    let before : i < length cs = omega (arith, lt, within) in
    let parts = and_parts (eqb (stamp_of c) (stamp_of d)) (eqb (first_thread c) (first_thread d)) same in
    let one : c ≡ d = one-key l law c d (member l cs c order (Contains-get_or cs i x before)) (member l cs d order (Contains-get_or cs j x within))
    (eqb-true (stamp_of c) (stamp_of d) parts.0) (eqb-true (first_thread c) (first_thread d) parts.1) in
    let place : i ≡ j = (causal_ledger l law cs order.all order.ordered).once i j d
    (slice_get-get_or cs i x before ∙ ap (λ (e : Commit). Some e) one) (slice_get-get_or cs j x within) in
    absurd (omega (arith, lt, place))))

moved : (l : Ledger) (cs ds : List Commit) → IsOrderOf l cs → IsOrderOf l ds → (c : Commit) → Contains cs c → Contains ds c
moved l cs ds one other c h =
    Contains-permutation (commits_in l) ds c other.all (Contains-permutation cs (commits_in l) c (IsPermutation-sym (commits_in l) cs one.all) h)

pub one-ledger-order : OneLedgerOrder
one-ledger-order l cs ds law one other =
    one-list cs ds (ascends-from-order cs one.ordered) (ascends-from-order ds other.ordered) (distinct l law cs one) (distinct l law ds other)
    (moved l cs ds one other) (moved l ds cs other one)
