-- One lemma for each kind of step: the cells and offers stay linked.
use Rattle.std.proofs.Common.{◌≡◌, ◌≢◌, ℕ, ◌+◌, true, false, cond, eqb, ◌||◌, List, [], ◌∷◌, length, Option, Some, None, sym, refl, ap, ◌∙◌, subst, ◌⊎◌, inl, inr, ⊎_elim, arith, is_some}
use Rattle.std.specs.Prelude.{is_none, option_to_list}
use Rattle.std.specs.List.{sum_by}
use Rattle.std.proofs.lemmas.List.Sums.{sum_by-append, sum_by-cons}
use Rattle.std.proofs.lemmas.List.Concat.{length-flat_map}
use Rattle.std.proofs.lemmas.Bool.{ne_eqb, cases_Bool, cases_eq, false≢true}
use Rattle.protocol_values.specs.declared.Row.{Row}
use Rattle.protocol_values.specs.declared.Joined.{Joined}
use Rattle.protocol_values.specs.declared.Offer.{Offer}
use Rattle.protocol_values.specs.declared.Base.{Base}
use Rattle.protocol_values.specs.declared.Base.TheVariants.{Send, Recv, Always, OnNack, OnEnd, Never}
use Rattle.protocol_values.specs.declared.Commit.{Commit}
use Rattle.protocol_values.specs.declared.Cell.{Cell}
use Rattle.protocol_values.specs.declared.Cell.TheVariants.{Fresh, Waiting, Claimed, Synched, Taken}
use Rattle.protocol_ledger.specs.Tables.{Marks, row_eq, is_fresh, is_taken, names, is_partner, offers_meet, needs_none, stands_alone}
use Rattle.protocol_values.specs.Values.{joined_of, bases_meet}
use Rattle.protocol_ledger.specs.Worlds.{mirrored}
use Rattle.protocol_ledger.specs.Ledgers.{commits_of, told_at, told_by, tells, is_send, sends, commit_named, commit_by, alone_by, pair_by, received_by}
use Rattle.protocol_ledger.specs.Kept.{Linked}
use Rattle.protocol_ledger.proofs.RowLemmas.{row_eq-refl, row_eq-true, row_cases, put, put_same, put_other, IsAbsent, IsOnce}

-- OPTIONS

pub cases_Option : {A : Type 0} (o : Option A) → (o ≡ None) ⊎ ((a : A) × (o ≡ Some a))
cases_Option None = inl refl
cases_Option (Some a) = inr (a, refl)

pub some_parts : {A : Type 0} (o : Option A) → is_some o ≡ true → (a : A) × (o ≡ Some a)
some_parts None h = absurd (false≢true h)
some_parts (Some a) h = (a, refl)

pub none_from : {A : Type 0} (o : Option A) → is_some o ≡ false → o ≡ None
none_from None h = refl
none_from (Some a) h = absurd (false≢true (sym h))

pub some_inj : {A : Type 0} (a b : A) → Some a ≡ Some b → a ≡ b
some_inj a b h = cc

pub some_is_some : {A : Type 0} (o : Option A) (a : A) → o ≡ Some a → is_some o ≡ true
some_is_some o a h = rw h refl

-- WHO NAMES WHOM

pub record IsNaming (o : Option Joined) (x : Row) : Type 0 where
  pub way : Joined
  pub place : Row × ℕ
  pub is : o ≡ Some way
  pub partner : way.partner ≡ Some place
  pub row : place.0 ≡ x

pub partner_parts : (o : Option (Row × ℕ)) (x : Row) → is_partner o x ≡ true → (p : Row × ℕ) × (o ≡ Some p) × (p.0 ≡ x)
partner_parts None x h = absurd (false≢true h)
partner_parts (Some p) x h = (p, refl, row_eq-true p.0 x h)

pub naming : (o : Option Joined) (x : Row) → names o x ≡ true → IsNaming o x
naming None x h = absurd (false≢true h)
naming (Some j) x h =
    let p = partner_parts j.partner x h in
    record { way = j; place = p.0; is = refl; partner = p.1; row = p.2 }

pub names_from : (o : Option Joined) (j : Joined) (p : Row × ℕ) → o ≡ Some j → j.partner ≡ Some p → names o p.0 ≡ true
names_from o j p h k = ap (λ (v : Option Joined). names v p.0) h ∙ ap (λ (v : Option (Row × ℕ)). is_partner v p.0) k ∙ row_eq-refl p.0

pub fresh_not_joined : (c : Cell) (j : Joined) → joined_of c ≡ Some j → is_fresh c ≡ false
fresh_not_joined Fresh j h = cc
fresh_not_joined Waiting j h = refl
fresh_not_joined Claimed j h = refl
fresh_not_joined (Synched k) j h = refl
fresh_not_joined (Taken k) j h = refl

pub taken_joined : (c : Cell) → is_taken c ≡ true → is_some (joined_of c) ≡ true
taken_joined Fresh h = absurd (false≢true h)
taken_joined Waiting h = absurd (false≢true h)
taken_joined Claimed h = absurd (false≢true h)
taken_joined (Synched j) h = absurd (false≢true h)
taken_joined (Taken j) h = refl

pub taken_open : (c : Cell) → is_taken c ≡ true → is_fresh c ≡ false
taken_open Fresh h = absurd (false≢true h)
taken_open Waiting h = refl
taken_open Claimed h = refl
taken_open (Synched j) h = refl
taken_open (Taken j) h = refl

-- SUMS OVER ROWS

same_sum : (f g : Row → ℕ) (x : Row) (rs : List Row) → IsAbsent x rs → ((r : Row) → row_eq r x ≡ false → g r ≡ f r) → sum_by g rs ≡ sum_by f rs
same_sum f g x [] a h = refl
same_sum f g x (r ∷ rs) a h = sum_by-cons g r rs ∙ (λ i. h r a.0 i + same_sum f g x rs a.1 h i) ∙ sym (sum_by-cons f r rs)

pub sum_change : (f g : Row → ℕ) (x : Row) (rs : List Row) → IsOnce x rs → ((r : Row) → row_eq r x ≡ false → g r ≡ f r) → sum_by g rs + f x ≡ sum_by f rs + g x
sum_change f g x rs o h =
    let front = same_sum f g x o.front o.before h in
    let back = same_sum f g x o.back o.behind h in
    let left : sum_by g rs ≡ sum_by g o.front + (g x + sum_by g o.back) =
    ap (sum_by g) o.is ∙ sum_by-append g o.front (x ∷ o.back) ∙ ap (λ n. sum_by g o.front + n) (sum_by-cons g x o.back) in
    let right : sum_by f rs ≡ sum_by f o.front + (f x + sum_by f o.back) =
    ap (sum_by f) o.is ∙ sum_by-append f o.front (x ∷ o.back) ∙ ap (λ n. sum_by f o.front + n) (sum_by-cons f x o.back) in
    omega arith

-- changes at two rows
pub sum_change_two : (f g : Row → ℕ) (x y : Row) (rs : List Row) → IsOnce x rs → IsOnce y rs → row_eq y x ≡ false → ((r : Row) → row_eq r x ≡ false → row_eq r y ≡ false → g r ≡ f r) → sum_by g rs + (f x + f y) ≡ sum_by f rs + (g x + g y)
sum_change_two f g x y rs o p n h =
    let mid : Row → ℕ = put f x (g x) in
    let first = sum_change f mid x rs o (λ r k. put_other f x (g x) r k) in
    let at_x : mid x ≡ g x = put_same f x (g x) in
    let at_y : mid y ≡ f y = put_other f x (g x) y n in
    let second = sum_change mid g y rs p (λ r k. ⊎_elim
    (λ (e : r ≡ x). ap g e ∙ sym (ap mid e ∙ put_same f x (g x)))
    (λ (e : row_eq r x ≡ false). h r e k ∙ sym (put_other f x (g x) r e))
    (row_cases r x)) in
    omega arith

-- WHO IS NAMED

-- a named row is claimed or joined
pub named_row : {marks : Marks} (threads rows : ℕ) (cell : Row → Cell) (offer : Row → ℕ → Option Offer) (q x : Row) → Linked threads rows cell offer marks → names (joined_of (cell q)) x ≡ true → (cell x ≡ Claimed) ⊎ (is_some (joined_of (cell x)) ≡ true)
named_row threads rows cell offer q x l h =
    let n = naming (joined_of (cell q)) x h in
    let s = l.sides q n.way n.place n.is n.partner in
    let P : Row → Type 0 = λ y. (cell y ≡ Claimed) ⊎ (is_some (joined_of (cell y)) ≡ true) in
    subst P n.row (⊎_elim (λ (e : cell n.place.0 ≡ Claimed). inl e) (λ (e : joined_of (cell n.place.0) ≡ Some (mirrored q n.way n.place.1)). inr (some_is_some _ _ e)) s.back)

-- so a row that is neither is not named
pub unnamed_idle : {marks : Marks} (threads rows : ℕ) (cell : Row → Cell) (offer : Row → ℕ → Option Offer) (x : Row) → Linked threads rows cell offer marks → cell x ≢ Claimed → joined_of (cell x) ≡ None → (q : Row) → names (joined_of (cell q)) x ≡ false
unnamed_idle threads rows cell offer x l c j q =
    ⊎_elim
    (λ (h : names (joined_of (cell q)) x ≡ true). ⊎_elim
    (λ (e : cell x ≡ Claimed). absurd (c e))
    (λ (e : is_some (joined_of (cell x)) ≡ true). absurd (false≢true (sym (ap (λ (o : Option Joined). is_some o) j) ∙ e)))
    (named_row threads rows cell offer q x l h))
    (λ (h : names (joined_of (cell q)) x ≡ false). h)
    (cases_Bool (names (joined_of (cell q)) x))

-- the partner of a joined row is open
pub partner_open : {marks : Marks} (threads rows : ℕ) (cell : Row → Cell) (offer : Row → ℕ → Option Offer) (r : Row) (j : Joined) (p : Row × ℕ) → Linked threads rows cell offer marks → joined_of (cell r) ≡ Some j → j.partner ≡ Some p → is_fresh (cell p.0) ≡ false
partner_open threads rows cell offer r j p l h k =
    ⊎_elim
    (λ (e : cell p.0 ≡ Claimed). ap is_fresh e)
    (λ (e : joined_of (cell p.0) ≡ Some (mirrored r j p.1)). fresh_not_joined (cell p.0) _ e)
    (l.sides r j p h k).back

-- WHICH COMMITS ARE TOLD

abbrev told_via : Row → Joined → (Row → Option Joined) → (Row → ℕ → Option Offer) → Option (Row × ℕ) → Option Offer → Option Commit
told_via r j joined offer partner own = cond (tells joined own partner) (commit_by offer r j partner own) None

same_via : (r : Row) (j : Joined) (joined joined' : Row → Option Joined) (offer offer' : Row → ℕ → Option Offer) (partner : Option (Row × ℕ)) (own : Option Offer) → ((p : Row × ℕ) → partner ≡ Some p → (joined' p.0 ≡ joined p.0) × (offer' p.0 ≡ offer p.0)) → told_via r j joined' offer' partner own ≡ told_via r j joined offer partner own
same_via r j joined joined' offer offer' None None k = refl
same_via r j joined joined' offer offer' None (Some o) k = refl
same_via r j joined joined' offer offer' (Some p) None k = λ i. cond (false || is_none ((k p refl).0 i)) None None
same_via r j joined joined' offer offer' (Some p) (Some o) k =
    λ i. cond (sends o.base || is_none ((k p refl).0 i)) (pair_by r j p o.base ((k p refl).1 i p.1)) None

-- what is told of a row depends on how it is joined, on whether its partner is, and on their offers
told_by_same : (joined joined' : Row → Option Joined) (offer offer' : Row → ℕ → Option Offer) (r : Row) (o : Option Joined) → ((j : Joined) → o ≡ Some j → offer' r ≡ offer r) → ((j : Joined) (p : Row × ℕ) → o ≡ Some j → j.partner ≡ Some p → (joined' p.0 ≡ joined p.0) × (offer' p.0 ≡ offer p.0)) → told_by joined' offer' r o ≡ told_by joined offer r o
unfolding commit_named
told_by_same joined joined' offer offer' r None h k = refl
told_by_same joined joined' offer offer' r (Some j) h k =
    ap (λ (f : ℕ → Option Offer). told_via r j joined' offer' j.partner (f j.own)) (h j refl)
    ∙ same_via r j joined joined' offer offer' j.partner (offer r j.own) (λ p e. k j p refl e)

pub told_same : (joined joined' : Row → Option Joined) (offer offer' : Row → ℕ → Option Offer) (r : Row) → joined' r ≡ joined r → ((j : Joined) → joined r ≡ Some j → offer' r ≡ offer r) → ((j : Joined) (p : Row × ℕ) → joined r ≡ Some j → j.partner ≡ Some p → (joined' p.0 ≡ joined p.0) × (offer' p.0 ≡ offer p.0)) → told_at joined' offer' r ≡ told_at joined offer r
unfolding told_at
told_same joined joined' offer offer' r e h k =
    ap (λ (o : Option Joined). told_by joined' offer' r o) e ∙ told_by_same joined joined' offer offer' r (joined r) h k

-- how many commits a row tells
abbrev pub told_count : (Row → Option Joined) → (Row → ℕ → Option Offer) → Row → ℕ
told_count joined offer r = length (option_to_list (told_at joined offer r))

pub count_of_commits : (rs : List Row) (joined : Row → Option Joined) (offer : Row → ℕ → Option Offer) → length (commits_of rs joined offer) ≡ sum_by (told_count joined offer) rs
count_of_commits rs joined offer = length-flat_map (λ r. option_to_list (told_at joined offer r)) rs

-- the commit of a pair is told of either side
pair_is_some : (r : Row) (j : Joined) (p : Row × ℕ) (a b : Option Offer) → offers_meet a b ≡ true → (c : Commit) × (o : Offer) × (a ≡ Some o) × (pair_by r j p o.base b ≡ Some c)
pair_is_some r j p None b h = absurd (false≢true h)
pair_is_some r j p (Some a) None h = absurd (false≢true h)
pair_is_some r j p (Some a) (Some b) h =
    let found = by_bases r j p a.base b h in
    (found.0, a, refl, found.1)
  where
    by_bases : (r : Row) (j : Joined) (p : Row × ℕ) (a : Base) (b : Offer) → bases_meet a b.base ≡ true → (c : Commit) × (pair_by r j p a (Some b) ≡ Some c)
    by_bases r j p (Send c m) b h = (_, refl)
    by_bases r j p (Recv c) b h = by_other b.base h
      where
        by_other : (other : Base) → bases_meet (Recv c) other ≡ true → (d : Commit) × (received_by r j p other ≡ Some d)
        by_other (Send d m) h = (_, refl)
        by_other (Recv d) h = absurd (false≢true h)
        by_other (Always m) h = absurd (false≢true h)
        by_other (OnNack n) h = absurd (false≢true h)
        by_other (OnEnd x) h = absurd (false≢true h)
        by_other Never h = absurd (false≢true h)
    by_bases r j p (Always m) b h = absurd (false≢true h)
    by_bases r j p (OnNack n) b h = absurd (false≢true h)
    by_bases r j p (OnEnd x) b h = absurd (false≢true h)
    by_bases r j p Never b h = absurd (false≢true h)

pub named_some : (offer : Row → ℕ → Option Offer) (r : Row) (j : Joined) (p : Row × ℕ) → j.partner ≡ Some p → offers_meet (offer r j.own) (offer p.0 p.1) ≡ true → (c : Commit) × (commit_named offer r j ≡ Some c)
unfolding commit_named
named_some offer r j p e h =
    let found = pair_is_some r j p (offer r j.own) (offer p.0 p.1) h in
    (found.0, ap (λ (v : Option (Row × ℕ)). commit_by offer r j v (offer r j.own)) e ∙ ap (commit_by offer r j (Some p)) found.2 ∙ found.3)

-- an offer that stands alone names a commit
pub alone_there : (a : Option Offer) → stands_alone a ≡ true → (o : Offer) × (a ≡ Some o)
alone_there None h = absurd (false≢true h)
alone_there (Some a) h = (a, refl)

pub named_alone : (offer : Row → ℕ → Option Offer) (r : Row) (j : Joined) → j.partner ≡ None → stands_alone (offer r j.own) ≡ true → (c : Commit) × (commit_named offer r j ≡ Some c)
unfolding commit_named
named_alone offer r j e h =
    let o = alone_there (offer r j.own) h in
    let found = by_base o.0.base (sym (ap stands_alone o.1) ∙ h) in
    (found.0, ap (λ (v : Option (Row × ℕ)). commit_by offer r j v (offer r j.own)) e ∙ ap (commit_by offer r j None) o.1 ∙ found.1)
  where
    by_base : (b : Base) → needs_none b ≡ true → (c : Commit) × (alone_by r j b ≡ Some c)
    by_base (Send c m) h = absurd (false≢true h)
    by_base (Recv c) h = absurd (false≢true h)
    by_base (Always m) h = (_, refl)
    by_base (OnNack n) h = (_, refl)
    by_base (OnEnd x) h = (_, refl)
    by_base Never h = absurd (false≢true h)

eqb_swapped : (c d : ℕ) → eqb c d ≡ eqb d c
eqb_swapped c d = ⊎_elim (λ (e : c ≡ d). rw e refl) (λ (n : c ≡ d → ⊥). ne_eqb c d n ∙ sym (ne_eqb d c (λ e. n (sym e)))) (cases_eq c d)

meets_swapped : (a b : Base) → bases_meet a b ≡ bases_meet b a
meets_swapped (Send c m) (Send d n) = refl
meets_swapped (Send c m) (Recv d) = eqb_swapped c d
meets_swapped (Send c m) (Always n) = refl
meets_swapped (Send c m) (OnNack n) = refl
meets_swapped (Send c m) (OnEnd x) = refl
meets_swapped (Send c m) Never = refl
meets_swapped (Recv c) (Send d n) = eqb_swapped c d
meets_swapped (Recv c) (Recv d) = refl
meets_swapped (Recv c) (Always n) = refl
meets_swapped (Recv c) (OnNack n) = refl
meets_swapped (Recv c) (OnEnd x) = refl
meets_swapped (Recv c) Never = refl
meets_swapped (Always m) (Send d n) = refl
meets_swapped (Always m) (Recv d) = refl
meets_swapped (Always m) (Always n) = refl
meets_swapped (Always m) (OnNack n) = refl
meets_swapped (Always m) (OnEnd x) = refl
meets_swapped (Always m) Never = refl
meets_swapped (OnNack m) (Send d n) = refl
meets_swapped (OnNack m) (Recv d) = refl
meets_swapped (OnNack m) (Always n) = refl
meets_swapped (OnNack m) (OnNack n) = refl
meets_swapped (OnNack m) (OnEnd x) = refl
meets_swapped (OnNack m) Never = refl
meets_swapped (OnEnd x) (Send d n) = refl
meets_swapped Never (Send d n) = refl
meets_swapped (OnEnd x) (Recv d) = refl
meets_swapped Never (Recv d) = refl
meets_swapped (OnEnd x) (Always n) = refl
meets_swapped Never (Always n) = refl
meets_swapped (OnEnd x) (OnNack n) = refl
meets_swapped (OnEnd x) (OnEnd y) = refl
meets_swapped Never (OnNack n) = refl
meets_swapped Never (OnEnd x) = refl
meets_swapped (OnEnd x) Never = refl
meets_swapped Never Never = refl

pub offers_swapped : (a b : Option Offer) → offers_meet a b ≡ true → offers_meet b a ≡ true
offers_swapped None b h = absurd (false≢true h)
offers_swapped (Some a) None h = absurd (false≢true h)
offers_swapped (Some a) (Some b) h = meets_swapped b.base a.base ∙ h

-- of two offers that meet, one sends
one_sends : (a b : Base) → bases_meet a b ≡ true → ((sends a ≡ true) × (sends b ≡ false)) ⊎ ((sends a ≡ false) × (sends b ≡ true))
one_sends (Send c m) (Send d n) h = absurd (false≢true h)
one_sends (Send c m) (Recv d) h = inl (refl, refl)
one_sends (Send c m) (Always n) h = absurd (false≢true h)
one_sends (Send c m) (OnNack n) h = absurd (false≢true h)
one_sends (Send c m) (OnEnd x) h = absurd (false≢true h)
one_sends (Send c m) Never h = absurd (false≢true h)
one_sends (Recv c) (Send d n) h = inr (refl, refl)
one_sends (Recv c) (Recv d) h = absurd (false≢true h)
one_sends (Recv c) (Always n) h = absurd (false≢true h)
one_sends (Recv c) (OnNack n) h = absurd (false≢true h)
one_sends (Recv c) (OnEnd x) h = absurd (false≢true h)
one_sends (Recv c) Never h = absurd (false≢true h)
one_sends (Always m) b h = absurd (false≢true h)
one_sends (OnNack m) b h = absurd (false≢true h)
one_sends (OnEnd x) b h = absurd (false≢true h)
one_sends Never b h = absurd (false≢true h)

pub one_offer_sends : (a b : Option Offer) → offers_meet a b ≡ true → ((is_send a ≡ true) × (is_send b ≡ false)) ⊎ ((is_send a ≡ false) × (is_send b ≡ true))
one_offer_sends None b h = absurd (false≢true h)
one_offer_sends (Some a) None h = absurd (false≢true h)
one_offer_sends (Some a) (Some b) h = one_sends a.base b.base h
