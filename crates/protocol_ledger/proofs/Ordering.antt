-- The journal's order: each commit once, and behind each that counts for it.
use Rattle.std.proofs.Common.{◌++◌, ◌≡◌, ℕ, ◌+◌, ◌<◌, ◌≤◌, Bool, true, false, ◌||◌, List, [], ◌∷◌, get_or, Option, Some, None, sym, refl, ap, ◌∙◌, subst, inl, ⊎_elim, arith, slice_get}
use Rattle.std.specs.Prelude.{is_none, option_to_list, IsPermutation}
use Rattle.std.proofs.lemmas.Bool.{cases_eq, cases_lt, false≢true, true≢false}
use Rattle.std.specs.List.{AllByRecursion, IsDistinct, flat_map, slice_get}
use Rattle.std.specs.List.Sorted.{IsNonDecreasingBy}
use Rattle.std.specs.Cmp.{nat_cmp_is}
use Rattle.std.specs.Ordering.{nat_cmp, ordering_then, is_lt}
use Rattle.std.specs.declared.cmp.Ordering.{Ordering}
use Rattle.std.specs.declared.cmp.Ordering.TheVariants.{Less}
use Rattle.std.proofs.lemmas.Option.{slice_get_within, get_or_from_slice_get}
use Rattle.std.proofs.lemmas.List.Sorted.{Contains-permutation, IsPermutation-sym, IsNonDecreasingBy-from_all_adjacent}
use Rattle.std.proofs.lemmas.Map.Keys.{apart_from_distinct, IsDistinct-IsPermutation}
use Rattle.protocol_values.specs.declared.Row.{Row}
use Rattle.protocol_values.specs.declared.Joined.{Joined}
use Rattle.protocol_values.specs.declared.Offer.{Offer}
use Rattle.protocol_values.specs.declared.Base.{Base}
use Rattle.protocol_values.specs.declared.Base.TheVariants.{Send, Recv, Always, OnNack, OnEnd, Never}
use Rattle.protocol_values.specs.declared.Commit.{Commit}
use Rattle.protocol_values.specs.declared.Commit.TheVariants.{Pair, Alone}
use Rattle.protocol_values.specs.Commits.{first_row, first_thread, stamp_of, IsInOrder}
use Rattle.protocol_ledger.specs.Tables.{Marks, row_eq, all_rows, is_partner}
use Rattle.protocol_ledger.specs.Ledgers.{Ledger, IsLawful, joined_in, offer_in, marks_in, commits_in, Involves, Lawful, IsIn, commit_named, commit_by, pair_by, tells, told_at, is_send, sends, commits_of, IsCausal}
use Rattle.protocol_ledger.proofs.RowLemmas.{row_eq-refl, row_eq-false, row_eq_flips, row_ne, all_distinct}
use Rattle.protocol_ledger.proofs.Linking.{some_inj, partner_parts}
use Rattle.protocol_ledger.proofs.CommitLemmas.{named_rows, told_named, told_parts, commit_told}

-- the row that offered the send of a pair is the first
sends_first : (offer : Row → ℕ → Option Offer) (r : Row) (j : Joined) (p : Row × ℕ) (c : Commit) → j.partner ≡ Some p → is_send (offer r j.own) ≡ true → commit_named offer r j ≡ Some c → first_row c ≡ r
unfolding commit_named
sends_first offer r j p c e s h =
    by_own (offer r j.own) s (sym (ap (λ (v : Option (Row × ℕ)). commit_by offer r j v (offer r j.own)) e) ∙ h)
  where
    by_base : (b : Base) (o : Option Offer) → sends b ≡ true → pair_by r j p b o ≡ Some c → first_row c ≡ r
    by_base (Send d m) o s k = ap first_row (sym (some_inj _ c k))
    by_base (Recv d) o s k = absurd (false≢true s)
    by_base (Always m) o s k = absurd (false≢true s)
    by_base (OnNack n) o s k = absurd (false≢true s)
    by_base (OnEnd x) o s k = absurd (false≢true s)
    by_base Never o s k = absurd (false≢true s)

    by_own : (o : Option Offer) → is_send o ≡ true → commit_by offer r j (Some p) o ≡ Some c → first_row c ≡ r
    by_own None s k = absurd (false≢true s)
    by_own (Some o) s k = by_base o.base (offer p.0 p.1) s k

pub first_involved : (c : Commit) → Involves c (first_row c)
first_involved (Pair sender receiver c m s) = (sender.1, inl refl)
first_involved (Alone at k s) = (at.1, refl)

module _ (joined : Row → Option Joined) (offer : Row → ℕ → Option Offer) where
  -- a row that tells a commit in which another joined row is, is its first
  tells_first : (r q : Row) (j k : Joined) (p : Row × ℕ) (c : Commit) → tells joined (offer r j.own) j.partner ≡ true → j.partner ≡ Some p → p.0 ≡ q → joined q ≡ Some k → commit_named offer r j ≡ Some c → first_row c ≡ r
  tells_first r q j k p c t e at there named =
      let told : (is_send (offer r j.own) || is_none (joined p.0)) ≡ true = sym (ap (tells joined (offer r j.own)) e) ∙ t in
      let joined_p : joined p.0 ≡ Some k = ap joined at ∙ there in
      sends_first offer r j p c e (left_true (is_send (offer r j.own)) (joined p.0) joined_p told) named
    where
      left_true : (b : Bool) (o : Option Joined) → o ≡ Some k → (b || is_none o) ≡ true → b ≡ true
      left_true true o e h = refl
      left_true false o e h = absurd (false≢true (sym (ap (λ (x : Option Joined). is_none x) e) ∙ h))

  -- one row tells a commit
  one_teller : (r q : Row) (c : Commit) → told_at joined offer r ≡ Some c → told_at joined offer q ≡ Some c → r ≡ q
  one_teller r q c h k =
      let a = told_parts joined offer r c h in
      let b = told_parts joined offer q c k in
      ⊎_elim
      (λ (e : r ≡ q). e)
      (λ (e : is_partner a.0.partner q ≡ true). ⊎_elim
      (λ (f : q ≡ r). sym f)
      (λ (f : is_partner b.0.partner r ≡ true).
      let p = partner_parts a.0.partner q e in
      let u = partner_parts b.0.partner r f in
      sym (tells_first r q a.0 b.0 p.0 c a.2 p.1 p.2 b.1 a.3) ∙ tells_first q r b.0 a.0 u.0 c b.2 u.1 u.2 a.1 b.3)
      ((named_rows offer q b.0 c b.3).rows r (a.0.own, (named_rows offer r a.0 c a.3).own)))
      ((named_rows offer r a.0 c a.3).rows q (b.0.own, (named_rows offer q b.0 c b.3).own))

-- whether two commits have one first row
abbrev same_first : Commit → Commit → Bool
same_first c d = row_eq (first_row c) (first_row d)

-- A LIST THAT IS TOLD row by row
module _ (told : Row → Option Commit) (apart : (r q : Row) (c d : Commit) → told r ≡ Some c → told q ≡ Some d → row_eq r q ≡ false → same_first c d ≡ false) where
  apart_from : (r : Row) (c : Commit) (rs : List Row) → told r ≡ Some c → AllByRecursion (λ q. row_eq r q ≡ false) rs → AllByRecursion (λ d. same_first c d ≡ false) (flat_map (λ q. option_to_list (told q)) rs)
  apart_from r c [] h a = tt
  apart_from r c (q ∷ qs) h a = by_told (told q) refl (apart_from r c qs h a.1)
    where
      by_told : (o : Option Commit) → told q ≡ o → AllByRecursion (λ d. same_first c d ≡ false) (flat_map (λ q. option_to_list (told q)) qs) → AllByRecursion (λ d. same_first c d ≡ false) (option_to_list o ++ flat_map (λ q. option_to_list (told q)) qs)
      by_told None e rest = rest
      by_told (Some d) e rest = (apart r q c d h e a.0, rest)

  distinct_more : (r : Row) (rs : List Row) (o : Option Commit) → told r ≡ o → AllByRecursion (λ q. row_eq r q ≡ false) rs → IsDistinct same_first (flat_map (λ q. option_to_list (told q)) rs) → IsDistinct same_first (option_to_list o ++ flat_map (λ q. option_to_list (told q)) rs)
  unfolding IsDistinct
  distinct_more r rs None e a rest = rest
  distinct_more r rs (Some c) e a rest = (apart_from r c rs e a, rest)

  distinct_told : (rs : List Row) → IsDistinct row_eq rs → IsDistinct same_first (flat_map (λ q. option_to_list (told q)) rs)
  unfolding IsDistinct
  distinct_told [] d = tt
  distinct_told (r ∷ rs) d = distinct_more r rs (told r) refl d.0 (distinct_told rs d.1)

-- IN ORDER, stamps do not fall
stamps_rise : (cs : List Commit) → IsInOrder cs → IsNonDecreasingBy stamp_of cs
stamps_rise cs sorted = IsNonDecreasingBy-from_all_adjacent stamp_of cs (λ k d b. ⊎_elim
    (λ (e : stamp_of (get_or cs (k + 1) d) < stamp_of (get_or cs k d)).
    let less : Less ≡ nat_cmp (stamp_of (get_or cs (k + 1) d)) (stamp_of (get_or cs k d)) = nat_cmp_is _ _ Less e in
    absurd (true≢false (ap (λ (o : Ordering). is_lt (ordering_then o (nat_cmp (first_thread (get_or cs (k + 1) d)) (first_thread (get_or cs k d))))) less ∙ sorted k d (omega arith) b)))
    (λ (e : stamp_of (get_or cs k d) ≤ stamp_of (get_or cs (k + 1) d)). e)
    (cases_lt (stamp_of (get_or cs (k + 1) d)) (stamp_of (get_or cs k d))))

-- so of two commits the one with the lower stamp stands first
pub lower_first : (cs : List Commit) → IsInOrder cs → (i k : ℕ) (c d : Commit) → slice_get cs i ≡ Some d → slice_get cs k ≡ Some c → stamp_of d < stamp_of c → i < k
lower_first cs sorted i k c d h e above = ⊎_elim
    (λ (b : i < k). b)
    (λ (b : k ≤ i).
    let rise : stamp_of (get_or cs k c) ≤ stamp_of (get_or cs i c) = stamps_rise cs sorted k i c b (slice_get_within cs i d h) in
    let at_k : stamp_of (get_or cs k c) ≡ stamp_of c = ap stamp_of (get_or_from_slice_get cs k c c e) in
    let at_i : stamp_of (get_or cs i c) ≡ stamp_of d = ap stamp_of (get_or_from_slice_get cs i d c h) in
    absurd (omega arith))
    (cases_lt i k)

module _ (threads rows : ℕ) (joined : Row → Option Joined) (offer : Row → ℕ → Option Offer) (marks : Marks)
    (law : Lawful (all_rows threads rows) joined offer marks)
    (cs : List Commit)
    (same : IsPermutation (commits_of (all_rows threads rows) joined offer) cs)
    (sorted : IsInOrder cs) where
  told_apart : (r q : Row) (c d : Commit) → told_at joined offer r ≡ Some c → told_at joined offer q ≡ Some d → row_eq r q ≡ false → same_first c d ≡ false
  told_apart r q c d h k n = row_ne (first_row c) (first_row d) (λ e.
      let one : c ≡ d = law.once (first_row c) c d (told_named joined offer r c h) (told_named joined offer q d k) (first_involved c) (subst (Involves d) (sym e) (first_involved d)) in
      row_eq-false r q n (one_teller joined offer r q c h (k ∙ ap (λ (x : Commit). Some x) (sym one))))

  distinct : IsDistinct same_first cs
  distinct =
      IsDistinct-IsPermutation same_first (λ c d. row_eq_flips (first_row c) (first_row d)) (commits_of (all_rows threads rows) joined offer) cs same
      (distinct_told (told_at joined offer) told_apart (all_rows threads rows) (all_distinct threads rows))

  differ : (i k : ℕ) (c : Commit) → i < k → slice_get cs i ≡ Some c → slice_get cs k ≡ Some c → ⊥
  differ i k c b h e =
      let a = apart_from_distinct same_first cs i k c distinct b (slice_get_within cs k c e) in
      let at : same_first (get_or cs i c) (get_or cs k c) ≡ true =
      (λ x. same_first (get_or_from_slice_get cs i c c h x) (get_or_from_slice_get cs k c c e x)) ∙ row_eq-refl (first_row c) in
      true≢false (sym at ∙ a)

  member : (k : ℕ) (c : Commit) → slice_get cs k ≡ Some c → IsIn joined offer c
  member k c h =
      commit_told (all_rows threads rows) joined offer c
      (Contains-permutation cs (commits_of (all_rows threads rows) joined offer) c (IsPermutation-sym _ _ same) (k, slice_get_within cs k c h, get_or_from_slice_get cs k c c h))

  pub causal : IsCausal marks cs
  causal = record {
    once = λ i k c h e. ⊎_elim
        (λ (b : i < k). absurd (differ i k c b h e))
        (λ (b : k ≤ i). ⊎_elim
        (λ (z : i ≡ k). z)
        (λ (n : i ≡ k → ⊥). absurd (differ k i c (omega (arith, n)) e h))
        (cases_eq i k))
        (cases_lt i k);
    behind = λ i k c d h e counts. lower_first cs sorted i k c d h e ((law.stamps c (member k c e)).above d (member i d h) counts);
  }

pub causal_ledger : (l : Ledger) → IsLawful l → (cs : List Commit) → IsPermutation (commits_in l) cs → IsInOrder cs → IsCausal (marks_in l) cs
causal_ledger l law cs same sorted = causal l.threads l.rows (joined_in l) (offer_in l) (marks_in l) law cs same sorted
