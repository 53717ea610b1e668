-- The commits of a lawful ledger: which rows are in them, and that each is told.
use Rattle.std.proofs.Common.{◌≡◌, ℕ, zero, suc, ◌<◌, Bool, true, false, cond, ◌||◌, List, [], ◌∷◌, ◌++◌, length, get_or, sym, refl, ap, ◌∙◌, subst, ◌⊎◌, inl, inr, ⊎_elim, arith, Option, Some, None}
use Rattle.std.specs.Prelude.{is_none, option_to_list, ◌↔◌, Contains}
use Rattle.std.specs.List.{flat_map}
use Rattle.std.proofs.lemmas.Bool.{cases_Bool, true≢false}
use Rattle.protocol_values.specs.declared.Row.{Row}
use Rattle.protocol_values.specs.declared.Joined.{Joined}
use Rattle.protocol_values.specs.declared.Offer.{Offer}
use Rattle.protocol_values.specs.declared.Base.{Base}
use Rattle.protocol_values.specs.declared.Base.TheVariants.{Send, Recv, Always, OnNack, OnEnd, Never}
use Rattle.protocol_values.specs.declared.Commit.{Commit}
use Rattle.protocol_values.specs.declared.Commit.TheVariants.{Pair, Alone}
use Rattle.protocol_values.specs.Commits.{stamp_of}
use Rattle.protocol_ledger.specs.Tables.{Marks, row_eq, all_rows, names, is_partner}
use Rattle.protocol_ledger.specs.Ledgers.{IsIn, Takes, Involves, Lawful, Fits, commit_named, commit_by, alone_by, pair_by, received_by, told_at, told_by, tells, is_send, sends, commits_of}
use Rattle.protocol_ledger.proofs.RowLemmas.{row_eq-refl, IsOnce, once_all}
use Rattle.protocol_ledger.proofs.Linking.{some_inj, some_parts}

-- THE ROWS OF A COMMIT that row r names, joined as j

pub record IsNamedBy (r : Row) (j : Joined) (partner : Option (Row × ℕ)) (c : Commit) : Type 0 where
  pub own : Takes c r j.own
  pub rows : (x : Row) → Involves c x → (r ≡ x) ⊎ (is_partner partner x ≡ true)
  pub other : (p : Row × ℕ) → partner ≡ Some p → Takes c p.0 p.1
  pub stamp : stamp_of c ≡ j.stamp

alone_rows : (r : Row) (j : Joined) (c d : Commit) (k : Rattle.protocol_values.specs.declared.Cause.Cause) → d ≡ Alone (r, j.own) k j.stamp → Some d ≡ Some c → IsNamedBy r j None c
alone_rows r j c d k e h =
    let is : c ≡ Alone (r, j.own) k j.stamp = sym (some_inj d c h) ∙ e in
    record {
      own = subst (λ (x : Commit). Takes x r j.own) (sym is) refl;
      rows = λ x v. inl (ap (λ (z : Row × ℕ). z.0) (subst (λ (y : Commit). Takes y x v.0) is v.1));
      other = λ p e. let bad : None ≡ Some p = e in cc;
      stamp = ap stamp_of is;
    }

by_alone : (r : Row) (j : Joined) (b : Base) (c : Commit) → alone_by r j b ≡ Some c → IsNamedBy r j None c
by_alone r j (Always m) c h = alone_rows r j c _ _ refl h
by_alone r j (OnNack n) c h = alone_rows r j c _ _ refl h
by_alone r j (Send d m) c h = let bad : None ≡ Some c = h in cc
by_alone r j (Recv d) c h = let bad : None ≡ Some c = h in cc
by_alone r j (OnEnd n) c h = alone_rows r j c _ _ refl h
by_alone r j Never c h = let bad : None ≡ Some c = h in cc

sent_rows : (r : Row) (j : Joined) (p : Row × ℕ) (c : Commit) (chan : ℕ) (m : Rattle.protocol_values.specs.declared.Message.Message) → (c ≡ Pair (r, j.own) p chan m j.stamp) ⊎ (c ≡ Pair p (r, j.own) chan m j.stamp) → IsNamedBy r j (Some p) c
sent_rows r j p c chan m (inl is) = record {
  own = subst (λ (x : Commit). Takes x r j.own) (sym is) (inl refl);
  rows = λ x v. ⊎_elim
      (λ (e : (r, j.own) ≡ (x, v.0)). inl (ap (λ (z : Row × ℕ). z.0) e))
      (λ (e : p ≡ (x, v.0)). inr (ap (λ (z : Row × ℕ). row_eq z.0 x) e ∙ row_eq-refl x))
      (subst (λ (y : Commit). Takes y x v.0) is v.1);
  other = λ q e. subst (λ (x : Commit). Takes x q.0 q.1) (sym is) (inr (some_inj p q e));
  stamp = ap stamp_of is;
}
sent_rows r j p c chan m (inr is) = record {
  own = subst (λ (x : Commit). Takes x r j.own) (sym is) (inr refl);
  rows = λ x v. ⊎_elim
      (λ (e : p ≡ (x, v.0)). inr (ap (λ (z : Row × ℕ). row_eq z.0 x) e ∙ row_eq-refl x))
      (λ (e : (r, j.own) ≡ (x, v.0)). inl (ap (λ (z : Row × ℕ). z.0) e))
      (subst (λ (y : Commit). Takes y x v.0) is v.1);
  other = λ q e. subst (λ (x : Commit). Takes x q.0 q.1) (sym is) (inl (some_inj p q e));
  stamp = ap stamp_of is;
}

by_received : (r : Row) (j : Joined) (p : Row × ℕ) (b : Base) (c : Commit) → received_by r j p b ≡ Some c → IsNamedBy r j (Some p) c
by_received r j p (Send d m) c h = sent_rows r j p c d m (inr (sym (some_inj _ c h)))
by_received r j p (Recv d) c h = let bad : None ≡ Some c = h in cc
by_received r j p (Always m) c h = let bad : None ≡ Some c = h in cc
by_received r j p (OnNack n) c h = let bad : None ≡ Some c = h in cc
by_received r j p (OnEnd x) c h = let bad : None ≡ Some c = h in cc
by_received r j p Never c h = let bad : None ≡ Some c = h in cc

by_pair : (r : Row) (j : Joined) (p : Row × ℕ) (b : Base) (o : Option Offer) (c : Commit) → pair_by r j p b o ≡ Some c → IsNamedBy r j (Some p) c
by_pair r j p (Send d m) o c h = sent_rows r j p c d m (inl (sym (some_inj _ c h)))
by_pair r j p (Recv d) None c h = let bad : None ≡ Some c = h in cc
by_pair r j p (Recv d) (Some o) c h = by_received r j p o.base c h
by_pair r j p (Always m) o c h = let bad : None ≡ Some c = h in cc
by_pair r j p (OnNack n) o c h = let bad : None ≡ Some c = h in cc
by_pair r j p (OnEnd x) o c h = let bad : None ≡ Some c = h in cc
by_pair r j p Never o c h = let bad : None ≡ Some c = h in cc

by_offers : (offer : Row → ℕ → Option Offer) (r : Row) (j : Joined) (partner : Option (Row × ℕ)) (own : Option Offer) (c : Commit) → commit_by offer r j partner own ≡ Some c → IsNamedBy r j partner c
by_offers offer r j None None c h = let bad : None ≡ Some c = h in cc
by_offers offer r j (Some p) None c h = let bad : None ≡ Some c = h in cc
by_offers offer r j None (Some o) c h = by_alone r j o.base c h
by_offers offer r j (Some p) (Some o) c h = by_pair r j p o.base (offer p.0 p.1) c h

pub named_rows : (offer : Row → ℕ → Option Offer) (r : Row) (j : Joined) (c : Commit) → commit_named offer r j ≡ Some c → IsNamedBy r j j.partner c
unfolding commit_named
named_rows offer r j c h = by_offers offer r j j.partner (offer r j.own) c h

-- a row that is in a commit is joined, or named by a row that is
pub row_in_commit : (joined : Row → Option Joined) (offer : Row → ℕ → Option Offer) (c : Commit) (x : Row) (h : IsIn joined offer c) → Involves c x → (h.row ≡ x) ⊎ (names (joined h.row) x ≡ true)
row_in_commit joined offer c x h v = ⊎_elim
    (λ (e : h.row ≡ x). inl e)
    (λ (e : is_partner h.way.partner x ≡ true). inr (ap (λ (o : Option Joined). names o x) h.is_joined ∙ e))
    ((named_rows offer h.row h.way c h.is_named).rows x v)

-- EACH COMMIT IS TOLD

-- membership by recursion
abbrev pub Has : Commit → List Commit → Type 0
Has c [] = ⊥
Has c (x ∷ xs) = (x ≡ c) ⊎ Has c xs

has_contains : (c : Commit) (xs : List Commit) → Has c xs → Contains xs c
has_contains c [] h = absurd h
has_contains c (x ∷ xs) (inl e) = (0, omega arith, e)
has_contains c (x ∷ xs) (inr h) = let k = has_contains c xs h in (suc k.0, omega (arith, k.1), k.2)

contains_has : (c : Commit) (xs : List Commit) → Contains xs c → Has c xs
contains_has c xs h = at h.0 xs h.1 h.2
  where
    at : (k : ℕ) (xs : List Commit) → k < length xs → get_or xs k c ≡ c → Has c xs
    at k [] b e = absurd (omega arith)
    at zero (x ∷ xs) b e = inl e
    at (suc k) (x ∷ xs) b e = inr (at k xs (omega arith) e)

has_left : (c : Commit) (xs ys : List Commit) → Has c xs → Has c (xs ++ ys)
has_left c [] ys h = absurd h
has_left c (x ∷ xs) ys (inl e) = inl e
has_left c (x ∷ xs) ys (inr h) = inr (has_left c xs ys h)

has_right : (c : Commit) (xs ys : List Commit) → Has c ys → Has c (xs ++ ys)
has_right c [] ys h = h
has_right c (x ∷ xs) ys h = inr (has_right c xs ys h)

has_parts : (c : Commit) (xs ys : List Commit) → Has c (xs ++ ys) → Has c xs ⊎ Has c ys
has_parts c [] ys h = inr h
has_parts c (x ∷ xs) ys (inl e) = inl (inl e)
has_parts c (x ∷ xs) ys (inr h) = ⊎_elim (λ (k : Has c xs). inl (inr k)) (λ (k : Has c ys). inr k) (has_parts c xs ys h)

has_option : (c : Commit) (o : Option Commit) → Has c (option_to_list o) → o ≡ Some c
has_option c None h = absurd h
has_option c (Some d) (inl e) = ap (λ (x : Commit). Some x) e
has_option c (Some d) (inr h) = absurd h

-- whoever is told is told of some row
told_of : (told : Row → Option Commit) (c : Commit) (rs : List Row) → Has c (flat_map (λ r. option_to_list (told r)) rs) → (r : Row) × (told r ≡ Some c)
told_of told c [] h = absurd h
told_of told c (r ∷ rs) h = ⊎_elim
    (λ (k : Has c (option_to_list (told r))). (r, has_option c (told r) k))
    (λ (k : Has c (flat_map (λ r. option_to_list (told r)) rs)). told_of told c rs k)
    (has_parts c (option_to_list (told r)) _ h)

told_once : (told : Row → Option Commit) (c : Commit) (front : List Row) (r : Row) (back : List Row) → told r ≡ Some c → Has c (flat_map (λ r. option_to_list (told r)) (front ++ r ∷ back))
told_once told c [] r back h = has_left c (option_to_list (told r)) _ (subst (λ (o : Option Commit). Has c (option_to_list o)) (sym h) (inl refl))
told_once told c (x ∷ front) r back h = has_right c (option_to_list (told x)) _ (told_once told c front r back h)

-- what is told of a row it names
pub told_parts : (joined : Row → Option Joined) (offer : Row → ℕ → Option Offer) (r : Row) (c : Commit) → told_at joined offer r ≡ Some c → (j : Joined) × (joined r ≡ Some j) × (tells joined (offer r j.own) j.partner ≡ true) × (commit_named offer r j ≡ Some c)
unfolding told_at
told_parts joined offer r c h = by_joined (joined r) refl h
  where
    by_joined : (o : Option Joined) → joined r ≡ o → told_by joined offer r o ≡ Some c → (j : Joined) × (joined r ≡ Some j) × (tells joined (offer r j.own) j.partner ≡ true) × (commit_named offer r j ≡ Some c)
    by_joined None e k = let bad : None ≡ Some c = k in cc
    by_joined (Some j) e k = by_test (tells joined (offer r j.own) j.partner) refl k
      where
        by_test : (b : Bool) → tells joined (offer r j.own) j.partner ≡ b → cond b (commit_named offer r j) None ≡ Some c → (j : Joined) × (joined r ≡ Some j) × (tells joined (offer r j.own) j.partner ≡ true) × (commit_named offer r j ≡ Some c)
        by_test true t k = (j, e, t, k)
        by_test false t k = let bad : None ≡ Some c = k in cc

pub told_named : (joined : Row → Option Joined) (offer : Row → ℕ → Option Offer) (r : Row) (c : Commit) → told_at joined offer r ≡ Some c → IsIn joined offer c
told_named joined offer r c h =
    let t = told_parts joined offer r c h in
    record { row = r; way = t.0; is_joined = t.1; is_named = t.3 }

pub commit_told : (rs : List Row) (joined : Row → Option Joined) (offer : Row → ℕ → Option Offer) (c : Commit) → Contains (commits_of rs joined offer) c → IsIn joined offer c
commit_told rs joined offer c h =
    let r = told_of (told_at joined offer) c rs (contains_has c _ h) in
    told_named joined offer r.0 c r.1

tells_told : (joined : Row → Option Joined) (offer : Row → ℕ → Option Offer) (r : Row) (j : Joined) (c : Commit) → joined r ≡ Some j → tells joined (offer r j.own) j.partner ≡ true → commit_named offer r j ≡ Some c → told_at joined offer r ≡ Some c
unfolding told_at
tells_told joined offer r j c e t n =
    ap (told_by joined offer r) e ∙ ap (λ b. cond b (commit_named offer r j) None) t ∙ n

-- a row that does not tell its commit has a partner that is joined, and offered no send
silent : (joined : Row → Option Joined) (own : Option Offer) (partner : Option (Row × ℕ)) → tells joined own partner ≡ false → (p : Row × ℕ) × (k : Joined) × (partner ≡ Some p) × (is_send own ≡ false) × (joined p.0 ≡ Some k)
silent joined own None h = absurd (true≢false h)
silent joined own (Some p) h =
    let parts = or_false (is_send own) (is_none (joined p.0)) h in
    let some = joined_some (joined p.0) parts.1 in
    (p, some.0, refl, parts.0, some.1)
  where
    or_false : (a b : Bool) → (a || b) ≡ false → (a ≡ false) × (b ≡ false)
    or_false true b h = absurd (true≢false h)
    or_false false b h = (refl, h)

    joined_some : (o : Option Joined) → is_none o ≡ false → (k : Joined) × (o ≡ Some k)
    joined_some None h = absurd (true≢false h)
    joined_some (Some k) h = (k, refl)

-- a pair seen from a row that offered no send: the row receives
receives : (offer : Row → ℕ → Option Offer) (r : Row) (j : Joined) (p : Row × ℕ) (c : Commit) → j.partner ≡ Some p → is_send (offer r j.own) ≡ false → commit_named offer r j ≡ Some c → (chan : ℕ) × (m : Rattle.protocol_values.specs.declared.Message.Message) × (c ≡ Pair p (r, j.own) chan m j.stamp)
unfolding commit_named
receives offer r j p c e s h =
    by_own (offer r j.own) s (sym (ap (λ (v : Option (Row × ℕ)). commit_by offer r j v (offer r j.own)) e) ∙ h)
  where
    by_other : (b : Base) → received_by r j p b ≡ Some c → (chan : ℕ) × (m : Rattle.protocol_values.specs.declared.Message.Message) × (c ≡ Pair p (r, j.own) chan m j.stamp)
    by_other (Send d m) k = (d, m, sym (some_inj _ c k))
    by_other (Recv d) k = let bad : None ≡ Some c = k in cc
    by_other (Always m) k = let bad : None ≡ Some c = k in cc
    by_other (OnNack n) k = let bad : None ≡ Some c = k in cc
    by_other (OnEnd x) k = let bad : None ≡ Some c = k in cc
    by_other Never k = let bad : None ≡ Some c = k in cc

    by_base : (b : Base) (o : Option Offer) → sends b ≡ false → pair_by r j p b o ≡ Some c → (chan : ℕ) × (m : Rattle.protocol_values.specs.declared.Message.Message) × (c ≡ Pair p (r, j.own) chan m j.stamp)
    by_base (Send d m) o s k = absurd (true≢false s)
    by_base (Recv d) None s k = let bad : None ≡ Some c = k in cc
    by_base (Recv d) (Some o) s k = by_other o.base k
    by_base (Always m) o s k = let bad : None ≡ Some c = k in cc
    by_base (OnNack n) o s k = let bad : None ≡ Some c = k in cc
    by_base (OnEnd x) o s k = let bad : None ≡ Some c = k in cc
    by_base Never o s k = let bad : None ≡ Some c = k in cc

    by_own : (o : Option Offer) → is_send o ≡ false → commit_by offer r j (Some p) o ≡ Some c → (chan : ℕ) × (m : Rattle.protocol_values.specs.declared.Message.Message) × (c ≡ Pair p (r, j.own) chan m j.stamp)
    by_own None s k = let bad : None ≡ Some c = k in cc
    by_own (Some o) s k = by_base o.base (offer p.0 p.1) s k

module _ (threads rows : ℕ) (joined : Row → Option Joined) (offer : Row → ℕ → Option Offer) (marks : Marks)
    (law : Lawful (all_rows threads rows) joined offer marks)
    (inside : (r : Row) (j : Joined) → joined r ≡ Some j → (r.thread < threads) × (r.sync < rows)) where
  told_by_row : (c : Commit) (r : Row) (j : Joined) → joined r ≡ Some j → told_at joined offer r ≡ Some c → Has c (commits_of (all_rows threads rows) joined offer)
  told_by_row c r j e h =
      let in_t = inside r j e in
      let o : IsOnce r (all_rows threads rows) = once_all threads rows r in_t.0 in_t.1 in
      subst (λ (rs : List Row). Has c (commits_of rs joined offer)) (sym o.is) (told_once (told_at joined offer) c o.front r o.back h)

  -- where one row does not tell the commit, the other does
  told_by_partner : (c : Commit) (h : IsIn joined offer c) → tells joined (offer h.row h.way.own) h.way.partner ≡ false → Has c (commits_of (all_rows threads rows) joined offer)
  told_by_partner c h t =
      let s = silent joined (offer h.row h.way.own) h.way.partner t in
      let p : Row × ℕ = s.0 in
      let k : Joined = s.1 in
      let d = some_parts (commit_named offer p.0 k) (law.named p.0 k s.4) in
      let in_d : IsIn joined offer d.0 = record { row = p.0; way = k; is_joined = s.4; is_named = d.1 } in
      let own : Takes d.0 p.0 k.own = (named_rows offer p.0 k d.0 d.1).own in
      let other : Takes c p.0 p.1 = (named_rows offer h.row h.way c h.is_named).other p s.2 in
      let same : c ≡ d.0 = law.once p.0 c d.0 h in_d (p.1, other) (k.own, own) in
      let named : commit_named offer p.0 k ≡ Some c = d.1 ∙ ap (λ (x : Commit). Some x) (sym same) in
      ⊎_elim
      (λ (e : tells joined (offer p.0 k.own) k.partner ≡ true). told_by_row c p.0 k s.4 (tells_told joined offer p.0 k c s.4 e named))
      (λ (e : tells joined (offer p.0 k.own) k.partner ≡ false).
      let u = silent joined (offer p.0 k.own) k.partner e in
      let mine = receives offer h.row h.way p c s.2 s.3 h.is_named in
      let yours = receives offer p.0 k u.0 c u.2 u.3 named in
      let pairs : Pair p (h.row, h.way.own) mine.0 mine.1 h.way.stamp ≡ Pair u.0 (p.0, k.own) yours.0 yours.1 k.stamp = sym mine.2 ∙ yours.2 in
      let rows_same : (h.row, h.way.own) ≡ (p.0, k.own) = cc in
      let row_same : h.row ≡ p.0 = ap (λ (z : Row × ℕ). z.0) rows_same in
      let fits : Fits joined offer marks (Pair p (h.row, h.way.own) mine.0 mine.1 h.way.stamp) = subst (Fits joined offer marks) mine.2 (law.fits c h) in
      absurd (fits.0 (ap (λ (x : Row). x.thread) (sym row_same))))
      (cases_Bool (tells joined (offer p.0 k.own) k.partner))

  pub commit_members : (c : Commit) → Contains (commits_of (all_rows threads rows) joined offer) c ↔ IsIn joined offer c
  commit_members c = (
    commit_told (all_rows threads rows) joined offer c,
    λ h. has_contains c _ (⊎_elim
        (λ (e : tells joined (offer h.row h.way.own) h.way.partner ≡ true). told_by_row c h.row h.way h.is_joined (tells_told joined offer h.row h.way c h.is_joined e h.is_named))
        (λ (e : tells joined (offer h.row h.way.own) h.way.partner ≡ false). told_by_partner c h e)
        (cases_Bool (tells joined (offer h.row h.way.own) h.way.partner))),
  )
