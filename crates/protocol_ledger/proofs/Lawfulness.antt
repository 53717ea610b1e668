-- What all steps keep makes a ledger lawful.
use Rattle.std.proofs.Common.{◌≡◌, ◌≢◌, ℕ, zero, suc, ◌+◌, ◌<◌, ◌≤◌, true, false, length, Option, Some, None, sym, refl, ap, ◌∙◌, subst, ◌⊎◌, inl, inr, ⊎_elim, arith, is_some, max}
use Rattle.std.proofs.lemmas.Bool.{cases_eq, cases_lt, false≢true, eqb-true}
use Rattle.protocol_values.specs.declared.Message.{Message}
use Rattle.protocol_values.specs.declared.NackName.{NackName}
use Rattle.protocol_values.specs.declared.Binding.{Binding}
use Rattle.protocol_values.specs.declared.Base.{Base}
use Rattle.protocol_values.specs.declared.Base.TheVariants.{Send, Recv, Always, OnNack, OnEnd, Never}
use Rattle.protocol_values.specs.declared.Row.{Row}
use Rattle.protocol_values.specs.declared.Joined.{Joined}
use Rattle.protocol_values.specs.declared.Offer.{Offer}
use Rattle.protocol_values.specs.declared.Commit.{Commit}
use Rattle.protocol_values.specs.declared.Cause.TheVariants as cause
use Rattle.protocol_values.specs.declared.Commit.TheVariants.{Pair, Alone}
use Rattle.protocol_values.specs.declared.Cell.{Cell}
use Rattle.protocol_values.specs.declared.Cell.TheVariants.{Claimed}
use Rattle.protocol_values.specs.Commits.{stamp_of}
use Rattle.protocol_values.specs.declared.Course.{Course}
use Rattle.protocol_values.specs.declared.Course.TheVariants.{Ended}
use Rattle.protocol_ledger.specs.Tables.{Marks, start_of, all_rows, is_fresh, names, is_partner, offers_meet, stands_alone, encloses, bound_row, cause_of, last_stamp, row_stamp}
use Rattle.protocol_values.specs.Values.{joined_of, bases_meet}
use Rattle.protocol_ledger.specs.Worlds.{mirrored}
use Rattle.protocol_ledger.specs.Ledgers.{CountsThread, LivesAt, IsIn, IsCarriedBy, IsEnabled, Involves, CausedBy, Offers, Fits, Enables, CountsFor, Lawful, commit_named, commit_by, alone_by, pair_by, received_by, commits_of}
use Rattle.protocol_ledger.specs.Kept.{joined_by, IsSideOf, IsAlone, Linked}
use Rattle.protocol_ledger.proofs.Linking.{cases_Option, some_parts, some_inj, some_is_some, names_from, partner_parts, fresh_not_joined, taken_joined, partner_open, alone_there, named_some, named_alone}
use Rattle.protocol_ledger.proofs.Causes.{IsEnabledAt, IsEnabledByRow, IsEnding, IsAlways, IsOnEnabled, IsOnEnded, cause_is, cause_alone, last_behind}
use Rattle.protocol_ledger.proofs.StepLemmas.{ended_joined}
use Rattle.protocol_ledger.proofs.CommitLemmas.{named_rows}

-- WHAT A PAIR'S COMMIT IS, seen from row r, joined as j with partner p

pub record IsSent (offer : Row → ℕ → Option Offer) (sender receiver : Row × ℕ) (stamp : ℕ) (c : Commit) : Type 0 where
  pub chan : ℕ
  pub msg : Message
  pub is : c ≡ Pair sender receiver chan msg stamp
  pub sends : Offers offer sender (Send chan msg)
  pub receives : Offers offer receiver (Recv chan)

abbrev pub IsPairOf : (Row → ℕ → Option Offer) → Row → Joined → Row × ℕ → Commit → Type 0
IsPairOf offer r j p c = IsSent offer (r, j.own) p j.stamp c ⊎ IsSent offer p (r, j.own) j.stamp c

by_bases : (offer : Row → ℕ → Option Offer) (r : Row) (j : Joined) (p : Row × ℕ) (a b : Offer) (s t : Base) (c : Commit) → offer r j.own ≡ Some a → offer p.0 p.1 ≡ Some b → a.base ≡ s → b.base ≡ t → bases_meet s t ≡ true → pair_by r j p s (Some b) ≡ Some c → IsPairOf offer r j p c
by_bases offer r j p a b (Send d m) (Send e n) c x y u v h k = absurd (false≢true h)
by_bases offer r j p a b (Send d m) (Recv e) c x y u v h k =
    inl (record {
      chan = d;
      msg = m;
      is = sym (some_inj _ c k);
      sends = (a, x, u);
      receives = (b, y, v ∙ ap Recv (sym (eqb-true d e h)));
    })
by_bases offer r j p a b (Send d m) (Always n) c x y u v h k = absurd (false≢true h)
by_bases offer r j p a b (Send d m) (OnNack n) c x y u v h k = absurd (false≢true h)
by_bases offer r j p a b (Send d m) (OnEnd n) c x y u v h k = absurd (false≢true h)
by_bases offer r j p a b (Send d m) Never c x y u v h k = absurd (false≢true h)
by_bases offer r j p a b (Recv d) (Send e n) c x y u v h k =
    inr (record {
      chan = e;
      msg = n;
      is = sym (some_inj _ c (sym (ap (received_by r j p) v) ∙ k));
      sends = (b, y, v);
      receives = (a, x, u ∙ ap Recv (eqb-true d e h));
    })
by_bases offer r j p a b (Recv d) (Recv e) c x y u v h k = absurd (false≢true h)
by_bases offer r j p a b (Recv d) (Always n) c x y u v h k = absurd (false≢true h)
by_bases offer r j p a b (Recv d) (OnNack n) c x y u v h k = absurd (false≢true h)
by_bases offer r j p a b (Recv d) (OnEnd n) c x y u v h k = absurd (false≢true h)
by_bases offer r j p a b (Recv d) Never c x y u v h k = absurd (false≢true h)
by_bases offer r j p a b (Always m) t c x y u v h k = absurd (false≢true h)
by_bases offer r j p a b (OnNack m) t c x y u v h k = absurd (false≢true h)
by_bases offer r j p a b (OnEnd n) t c x y u v h k = absurd (false≢true h)
by_bases offer r j p a b Never t c x y u v h k = absurd (false≢true h)

pub both_offers : (a b : Option Offer) → offers_meet a b ≡ true → (x : Offer) × (y : Offer) × (a ≡ Some x) × (b ≡ Some y) × (bases_meet x.base y.base ≡ true)
both_offers None b h = absurd (false≢true h)
both_offers (Some x) None h = absurd (false≢true h)
both_offers (Some x) (Some y) h = (x, y, refl, refl, h)

-- the offer by which a row is committed is there
pub chosen_there : {marks : Marks} (threads rows : ℕ) (cell : Row → Cell) (offer : Row → ℕ → Option Offer) (r : Row) (j : Joined) → Linked threads rows cell offer marks → joined_of (cell r) ≡ Some j → (o : Offer) × (offer r j.own ≡ Some o)
chosen_there {marks} threads rows cell offer r j l e = ⊎_elim
    (λ (n : j.partner ≡ None).
    let a = l.alone r j e n in
    alone_there (offer r j.own) (cause_alone (joined_by cell) offer marks (offer r j.own) a.cause a.is))
    (λ (p : (p : Row × ℕ) × (j.partner ≡ Some p)). let b = both_offers (offer r j.own) (offer p.0.0 p.0.1) (l.sides r j p.0 e p.1).meets in (b.0, b.2))
    (cases_Option j.partner)

pair_of_named : (offer : Row → ℕ → Option Offer) (r : Row) (j : Joined) (p : Row × ℕ) (c : Commit) → j.partner ≡ Some p → offers_meet (offer r j.own) (offer p.0 p.1) ≡ true → commit_named offer r j ≡ Some c → IsPairOf offer r j p c
unfolding commit_named
pair_of_named offer r j p c e h k =
    let both = both_offers (offer r j.own) (offer p.0 p.1) h in
    let named : pair_by r j p both.0.base (Some both.1) ≡ Some c =
    (λ i. pair_by r j p both.0.base (sym both.3 i))
    ∙ sym (ap (commit_by offer r j (Some p)) both.2)
    ∙ sym (ap (λ (v : Option (Row × ℕ)). commit_by offer r j v (offer r j.own)) e)
    ∙ k in
    by_bases offer r j p both.0 both.1 both.0.base both.1.base c both.2 both.3 refl refl both.4 named

-- from its partner's side a pair is the same commit
same_by_bases : (q : Row) (j : Joined) (r : Row) (n : ℕ) (a b : Offer) (s t : Base) → a.base ≡ s → b.base ≡ t → bases_meet s t ≡ true → pair_by r (mirrored q j n) (q, j.own) t (Some a) ≡ pair_by q j (r, n) s (Some b)
same_by_bases q j r n a b (Send d m) (Send e x) u v h = absurd (false≢true h)
same_by_bases q j r n a b (Send d m) (Recv e) u v h = ap (received_by r (mirrored q j n) (q, j.own)) u
same_by_bases q j r n a b (Send d m) (Always x) u v h = absurd (false≢true h)
same_by_bases q j r n a b (Send d m) (OnNack x) u v h = absurd (false≢true h)
same_by_bases q j r n a b (Send d m) (OnEnd x) u v h = absurd (false≢true h)
same_by_bases q j r n a b (Send d m) Never u v h = absurd (false≢true h)
same_by_bases q j r n a b (Recv d) (Send e x) u v h = sym (ap (received_by q j (r, n)) v)
same_by_bases q j r n a b (Recv d) (Recv e) u v h = absurd (false≢true h)
same_by_bases q j r n a b (Recv d) (Always x) u v h = absurd (false≢true h)
same_by_bases q j r n a b (Recv d) (OnNack x) u v h = absurd (false≢true h)
same_by_bases q j r n a b (Recv d) (OnEnd x) u v h = absurd (false≢true h)
same_by_bases q j r n a b (Recv d) Never u v h = absurd (false≢true h)
same_by_bases q j r n a b (Always m) t u v h = absurd (false≢true h)
same_by_bases q j r n a b (OnNack m) t u v h = absurd (false≢true h)
same_by_bases q j r n a b (OnEnd x) t u v h = absurd (false≢true h)
same_by_bases q j r n a b Never t u v h = absurd (false≢true h)

pub same_commit : (offer : Row → ℕ → Option Offer) (q : Row) (j : Joined) (r : Row) (n : ℕ) → j.partner ≡ Some (r, n) → offers_meet (offer q j.own) (offer r n) ≡ true → commit_named offer r (mirrored q j n) ≡ commit_named offer q j
unfolding commit_named
same_commit offer q j r n e h =
    let both = both_offers (offer q j.own) (offer r n) h in
    let w : Joined = mirrored q j n in
    ap (commit_by offer r w (Some (q, j.own))) both.3
    ∙ ap (pair_by r w (q, j.own) both.1.base) both.2
    ∙ same_by_bases q j r n both.0 both.1 both.0.base both.1.base refl refl both.4
    ∙ sym (ap (pair_by q j (r, n) both.0.base) both.3)
    ∙ sym (ap (commit_by offer q j (Some (r, n))) both.2)
    ∙ sym (ap (λ (v : Option (Row × ℕ)). commit_by offer q j v (offer q j.own)) e)

-- a commit that stands alone, by what was offered
alone_named : (offer : Row → ℕ → Option Offer) (r : Row) (j : Joined) (c : Commit) (o : Offer) (b : Base) → j.partner ≡ None → offer r j.own ≡ Some o → o.base ≡ b → commit_named offer r j ≡ Some c → alone_by r j b ≡ Some c
unfolding commit_named
alone_named offer r j c o b n e f h =
    ap (alone_by r j) (sym f)
    ∙ sym (ap (commit_by offer r j None) e)
    ∙ sym (ap (λ (v : Option (Row × ℕ)). commit_by offer r j v (offer r j.own)) n)
    ∙ h

-- the start of a thread of a commit counts for it
pub counts_own : (c : Commit) (r : Row) → Involves c r → CountsThread c r.thread
counts_own (Pair sender receiver chan msg stamp) r (n, inl e) = inl (ap (λ (z : Row × ℕ). z.0.thread) e)
counts_own (Pair sender receiver chan msg stamp) r (n, inr e) = inr (ap (λ (z : Row × ℕ). z.0.thread) e)
counts_own (Alone at why stamp) r (n, e) = inl (ap (λ (z : Row × ℕ). z.0.thread) e)

abbrev row_at : ℕ → ℕ → Row
row_at t g = record { thread = t; sync = g }

module _ (threads rows : ℕ) (cell : Row → Cell) (offer : Row → ℕ → Option Offer) (marks : Marks)
    (l : Linked threads rows cell offer marks) where
  -- a row alone has a cause
  stands : (r : Row) (j : Joined) → IsAlone cell offer marks r j → stands_alone (offer r j.own) ≡ true
  stands r j a = cause_alone (joined_by cell) offer marks (offer r j.own) a.cause a.is

  -- the commit that a joined row names
  pub commit_of_joined : (r : Row) (j : Joined) → joined_of (cell r) ≡ Some j → (c : Commit) × (commit_named offer r j ≡ Some c)
  commit_of_joined r j e = ⊎_elim
      (λ (n : j.partner ≡ None). named_alone offer r j n (stands r j (l.alone r j e n)))
      (λ (p : (p : Row × ℕ) × (j.partner ≡ Some p)). named_some offer r j p.0 p.1 (l.sides r j p.0 e p.1).meets)
      (cases_Option j.partner)

  pub in_of_joined : (r : Row) (j : Joined) (e : joined_of (cell r) ≡ Some j) → IsIn (joined_by cell) offer (commit_of_joined r j e).0
  in_of_joined r j e = record { row = r; way = j; is_joined = e; is_named = (commit_of_joined r j e).1 }

  pub involves_own : (r : Row) (j : Joined) (e : joined_of (cell r) ≡ Some j) → Involves (commit_of_joined r j e).0 r
  involves_own r j e = (j.own, (named_rows offer r j (commit_of_joined r j e).0 (commit_of_joined r j e).1).own)

  pub stamp_own : (r : Row) (j : Joined) (e : joined_of (cell r) ≡ Some j) → stamp_of (commit_of_joined r j e).0 ≡ j.stamp
  stamp_own r j e = (named_rows offer r j (commit_of_joined r j e).0 (commit_of_joined r j e).1).stamp

  -- a row in a commit is the one that names it, or its partner
  rows_in : (c : Commit) (x : Row) (h : IsIn (joined_by cell) offer c) → Involves c x → (h.row ≡ x) ⊎ ((p : Row × ℕ) × (h.way.partner ≡ Some p) × (p.0 ≡ x))
  rows_in c x h v = ⊎_elim
      (λ (e : h.row ≡ x). inl e)
      (λ (e : is_partner h.way.partner x ≡ true). inr (partner_parts h.way.partner x e))
      ((named_rows offer h.row h.way c h.is_named).rows x v)

  -- each row in a commit is open
  open_of : (c : Commit) (x : Row) → IsIn (joined_by cell) offer c → Involves c x → is_fresh (cell x) ≡ false
  open_of c x h v = ⊎_elim
      (λ (e : h.row ≡ x). ap (λ (y : Row). is_fresh (cell y)) (sym e) ∙ fresh_not_joined (cell h.row) h.way h.is_joined)
      (λ (p : (p : Row × ℕ) × (h.way.partner ≡ Some p) × (p.0 ≡ x)).
      ap (λ (y : Row). is_fresh (cell y)) (sym p.2) ∙ partner_open threads rows cell offer h.row h.way p.0 l h.is_joined p.1)
      (rows_in c x h v)

  -- the commit that a row names is the one that any row names in which it is
  same_named : (r : Row) (j : Joined) (c : Commit) → joined_of (cell r) ≡ Some j → (h : IsIn (joined_by cell) offer c) → Involves c r → commit_named offer r j ≡ Some c
  same_named r j c e h v = ⊎_elim
      (λ (x : h.row ≡ r).
      let same : h.way ≡ j = some_inj h.way j (sym h.is_joined ∙ ap (λ (y : Row). joined_of (cell y)) x ∙ e) in
      (λ i. commit_named offer (sym x i) (sym same i)) ∙ h.is_named)
      (λ (x : (p : Row × ℕ) × (h.way.partner ≡ Some p) × (p.0 ≡ r)).
      let p : Row × ℕ = x.0 in
      let side : IsSideOf cell offer marks h.row h.way p = l.sides h.row h.way p h.is_joined x.1 in
      ⊎_elim
      (λ (k : cell p.0 ≡ Claimed).
      let bad : None ≡ Some j = sym (ap joined_of (ap cell (sym x.2) ∙ k)) ∙ e in
      cc)
      (λ (k : joined_of (cell p.0) ≡ Some (mirrored h.row h.way p.1)).
      let same : mirrored h.row h.way p.1 ≡ j = some_inj _ j (sym k ∙ ap (λ (y : Row). joined_of (cell y)) x.2 ∙ e) in
      (λ i. commit_named offer (sym x.2 i) (sym same i))
      ∙ same_commit offer h.row h.way p.0 p.1 x.1 side.meets
      ∙ h.is_named)
      side.back)
      (rows_in c r h v)

  stamp_in : (r : Row) (j : Joined) (e : joined_of (cell r) ≡ Some j) (d : Commit) → IsIn (joined_by cell) offer d → Involves d r → stamp_of d ≡ j.stamp
  stamp_in r j e d k v =
      ap stamp_of (some_inj d (commit_of_joined r j e).0 (sym (same_named r j d e k v) ∙ (commit_of_joined r j e).1)) ∙ stamp_own r j e

  once_in : (r : Row) (c d : Commit) → IsIn (joined_by cell) offer c → IsIn (joined_by cell) offer d → Involves c r → Involves d r → c ≡ d
  once_in r c d h k v w = ⊎_elim
      (λ (x : h.row ≡ r). some_inj c d (sym h.is_named ∙ same_named h.row h.way d h.is_joined k (subst (Involves d) (sym x) w)))
      (λ (x : (p : Row × ℕ) × (h.way.partner ≡ Some p) × (p.0 ≡ r)). ⊎_elim
      (λ (y : k.row ≡ r). sym (some_inj d c (sym k.is_named ∙ same_named k.row k.way c k.is_joined h (subst (Involves c) (sym y) v))))
      (λ (y : (p : Row × ℕ) × (k.way.partner ≡ Some p) × (p.0 ≡ r)).
      let a : names (joined_of (cell h.row)) r ≡ true = ap (names (joined_of (cell h.row))) (sym x.2) ∙ names_from (joined_of (cell h.row)) h.way x.0 h.is_joined x.1 in
      let b : names (joined_of (cell k.row)) r ≡ true = ap (names (joined_of (cell k.row))) (sym y.2) ∙ names_from (joined_of (cell k.row)) k.way y.0 k.is_joined y.1 in
      let same : h.row ≡ k.row = l.once h.row k.row r a b in
      let ways : h.way ≡ k.way = some_inj h.way k.way (sym h.is_joined ∙ ap (λ (z : Row). joined_of (cell z)) same ∙ k.is_joined) in
      some_inj c d (sym h.is_named ∙ (λ i. commit_named offer (same i) (ways i)) ∙ k.is_named))
      (rows_in d r k w))
      (rows_in c r h v)

  fits_pair : (q : Row × ℕ) (p : Row × ℕ) (s : ℕ) (c : Commit) → q.0.thread ≢ p.0.thread → IsSent offer q p s c → Fits (joined_by cell) offer marks c
  fits_pair q p s c n x = subst (Fits (joined_by cell) offer marks) (sym x.is) (n, x.sends, x.receives)

  -- A COMMIT THAT STANDS ALONE: by an always, by a nack that is enabled, or by the end of a thread

  pub record IsByNack (c : Commit) (r : Row) (j : Joined) (s : ℕ) : Type 0 where
    pub name : NackName
    pub enabled : IsEnabledAt (joined_by cell) offer marks name s
    pub offers : Offers offer (r, j.own) (OnNack name)
    pub is : c ≡ Alone (r, j.own) (cause.Nack name) j.stamp

  pub record IsByAlways (c : Commit) (r : Row) (j : Joined) (s : ℕ) : Type 0 where
    pub msg : Message
    pub offers : Offers offer (r, j.own) (Always msg)
    pub is : c ≡ Alone (r, j.own) (cause.Always msg) j.stamp
    pub stamp : s ≡ 0

  pub record IsByEnd (c : Commit) (r : Row) (j : Joined) (s : ℕ) : Type 0 where
    pub thread : ℕ
    pub ending : IsEnding (joined_by cell) marks thread s
    pub offers : Offers offer (r, j.own) (OnEnd thread)
    pub is : c ≡ Alone (r, j.own) (cause.End thread) j.stamp

  abbrev IsBy : Commit → Row → Joined → ℕ → Type 0
  IsBy c r j s = IsByAlways c r j s ⊎ (IsByNack c r j s ⊎ IsByEnd c r j s)

  lone : (c : Commit) (r : Row) (j : Joined) (s : ℕ) → j.partner ≡ None → cause_of (joined_by cell) offer marks (offer r j.own) ≡ Some s → commit_named offer r j ≡ Some c → IsBy c r j s
  lone c r j s n h k = ⊎_elim
      (λ (a : IsAlways (offer r j.own) s).
      inl (record {
        msg = a.0;
        offers = (a.1, a.2, a.3);
        is = sym (some_inj _ c (alone_named offer r j c a.1 (Always a.0) n a.2 a.3 k));
        stamp = a.4;
      }))
      (⊎_elim
      (λ (a : IsOnEnabled (joined_by cell) offer marks (offer r j.own) s).
      inr (inl (record {
        name = a.0;
        enabled = a.4;
        offers = (a.1, a.2, a.3);
        is = sym (some_inj _ c (alone_named offer r j c a.1 (OnNack a.0) n a.2 a.3 k));
      })))
      (λ (a : IsOnEnded (joined_by cell) marks (offer r j.own) s).
      inr (inr (record {
        thread = a.0;
        ending = a.4;
        offers = (a.1, a.2, a.3);
        is = sym (some_inj _ c (alone_named offer r j c a.1 (OnEnd a.0) n a.2 a.3 k));
      }))))
      (cause_is (joined_by cell) offer marks (offer r j.own) s h)

  lone_in : (c : Commit) (h : IsIn (joined_by cell) offer c) (n : h.way.partner ≡ None) → IsBy c h.row h.way (l.alone h.row h.way h.is_joined n).cause
  lone_in c h n = let a = l.alone h.row h.way h.is_joined n in lone c h.row h.way a.cause n a.is h.is_named

  -- by the commit of the row that enabled it, or in an earlier table
  enabled_in : (n : NackName) (s : ℕ) → IsEnabledAt (joined_by cell) offer marks n s → IsEnabled (joined_by cell) offer marks n
  enabled_in n s (inl e) =
      let binding : Binding = e.enabled.binding in
      let row : Row = bound_row n binding in
      inl (record {
        binding = binding;
        is_bound = e.enabled.is_bound;
        commit = (commit_of_joined row e.by e.enabled.is_joined).0;
        inside = in_of_joined row e.by e.enabled.is_joined;
        chosen = e.by.own;
        takes = (named_rows offer row e.by (commit_of_joined row e.by e.enabled.is_joined).0 (commit_of_joined row e.by e.enabled.is_joined).1).own;
        outside = λ o h. sym (ap (encloses binding.scope) h) ∙ e.enabled.outside;
      })
  enabled_in n s (inr e) = inr (s, e.0, e.1)

  fits_in : (c : Commit) → IsIn (joined_by cell) offer c → Fits (joined_by cell) offer marks c
  fits_in c h = ⊎_elim
      (λ (n : h.way.partner ≡ None). ⊎_elim
      (λ (a : IsByAlways c h.row h.way (l.alone h.row h.way h.is_joined n).cause). subst (Fits (joined_by cell) offer marks) (sym a.is) a.offers)
      (⊎_elim
      (λ (a : IsByNack c h.row h.way (l.alone h.row h.way h.is_joined n).cause). subst (Fits (joined_by cell) offer marks) (sym a.is) (a.offers, enabled_in a.name _ a.enabled))
      (λ (a : IsByEnd c h.row h.way (l.alone h.row h.way h.is_joined n).cause). subst (Fits (joined_by cell) offer marks) (sym a.is) (a.offers, (a.ending.start, a.ending.sync, a.ending.ended))))
      (lone_in c h n))
      (λ (p : (p : Row × ℕ) × (h.way.partner ≡ Some p)).
      let side : IsSideOf cell offer marks h.row h.way p.0 = l.sides h.row h.way p.0 h.is_joined p.1 in
      ⊎_elim
      (λ (s : IsSent offer (h.row, h.way.own) p.0 h.way.stamp c). fits_pair _ _ h.way.stamp c side.apart s)
      (λ (s : IsSent offer p.0 (h.row, h.way.own) h.way.stamp c). fits_pair _ _ h.way.stamp c (λ e. side.apart (sym e)) s)
      (pair_of_named offer h.row h.way p.0 c p.1 side.meets h.is_named))
      (cases_Option h.way.partner)

  -- the rows before an open row are taken, with rising stamps
  open_suc : (t g : ℕ) → is_fresh (cell (row_at t (suc g))) ≡ false → is_some (joined_of (cell (row_at t g))) ≡ true
  open_suc t g f = taken_joined (cell (row_at t g)) (l.in_turn t g (ap (λ n. is_fresh (cell (row_at t n))) (omega arith) ∙ f))

  last_suc : (t g : ℕ) → last_stamp marks (joined_by cell) (row_at t (suc g)) ≡ row_stamp (joined_of (cell (row_at t g)))
  last_suc t g = last_behind marks (joined_by cell) t g

  stamp_above : (r : Row) (j : Joined) → joined_of (cell r) ≡ Some j → last_stamp marks (joined_by cell) r < j.stamp
  stamp_above r j e = ⊎_elim
      (λ (n : j.partner ≡ None). let s = (l.alone r j e n).stamp in omega arith)
      (λ (p : (p : Row × ℕ) × (j.partner ≡ Some p)). let s = (l.sides r j p.0 e p.1).stamp in omega arith)
      (cases_Option j.partner)

  -- the row before a place is joined: before an open row, and before an end
  abbrev IsBehind : ℕ → ℕ → Type 0
  IsBehind t g = (n : ℕ) → g ≡ suc n → is_some (joined_of (cell (row_at t n))) ≡ true

  behind_open : (t g : ℕ) → is_fresh (cell (row_at t g)) ≡ false → IsBehind t g
  behind_open t g f n e = open_suc t n (ap (λ m. is_fresh (cell (row_at t m))) (sym e) ∙ f)

  behind_end : (t start sync : ℕ) → marks.course t ≡ Ended start sync → IsBehind t sync
  behind_end t start sync is n e = ended_joined threads rows cell offer l t start n (is ∙ ap (Ended start) (e ∙ omega arith))

  behind_suc : (t g : ℕ) → IsBehind t (suc g) → IsBehind t g
  behind_suc t g before =
      let j = some_parts _ (before g refl) in
      behind_open t g (fresh_not_joined (cell (row_at t g)) j.0 j.1)

  joined_before : (t g h : ℕ) → IsBehind t g → h < g → is_some (joined_of (cell (row_at t h))) ≡ true
  joined_before t zero h before b = absurd (omega arith)
  joined_before t (suc g) h before b = ⊎_elim
      (λ (e : h ≡ g). ap (λ n. is_some (joined_of (cell (row_at t n)))) e ∙ before g refl)
      (λ (n : h ≡ g → ⊥). joined_before t g h (behind_suc t g before) (omega (arith, n)))
      (cases_eq h g)

  -- so the stamps of a thread rise, from that of its start on
  stamp_suc : (t g : ℕ) → IsBehind t (suc g) → last_stamp marks (joined_by cell) (row_at t g) < last_stamp marks (joined_by cell) (row_at t (suc g))
  stamp_suc t g before =
      let last = last_suc t g in
      let j = some_parts _ (before g refl) in
      let above = stamp_above (row_at t g) j.0 j.1 in
      let is : row_stamp (joined_of (cell (row_at t g))) ≡ j.0.stamp = ap row_stamp j.1 in
      omega arith

  rising : (t g h : ℕ) → IsBehind t g → h < g → row_stamp (joined_of (cell (row_at t h))) ≤ last_stamp marks (joined_by cell) (row_at t g)
  rising t zero h before b = absurd (omega arith)
  rising t (suc g) h before b =
      let last = last_suc t g in
      ⊎_elim
      (λ (e : h ≡ g).
      let same : row_stamp (joined_of (cell (row_at t h))) ≡ row_stamp (joined_of (cell (row_at t g))) = ap (λ n. row_stamp (joined_of (cell (row_at t n)))) e in
      omega arith)
      (λ (n : h ≡ g → ⊥).
      let under = rising t g h (behind_suc t g before) (omega (arith, n)) in
      let up = stamp_suc t g before in
      omega arith)
      (cases_eq h g)

  rising_start : (t g : ℕ) → IsBehind t g → start_of (marks.course t) ≤ last_stamp marks (joined_by cell) (row_at t g)
  rising_start t zero before = omega arith
  rising_start t (suc g) before =
      let under = rising_start t g (behind_suc t g before) in
      let up = stamp_suc t g before in
      omega arith

  -- the stamp of a commit that an open row is in is above its last stamp
  stamp_over : (c : Commit) (x : Row) → (h : IsIn (joined_by cell) offer c) → Involves c x → last_stamp marks (joined_by cell) x < stamp_of c
  stamp_over c x h v =
      let is = (named_rows offer h.row h.way c h.is_named).stamp in
      ⊎_elim
      (λ (e : h.row ≡ x).
      let above = stamp_above h.row h.way h.is_joined in
      let at : last_stamp marks (joined_by cell) h.row ≡ last_stamp marks (joined_by cell) x = ap (last_stamp marks (joined_by cell)) e in
      omega arith)
      (λ (p : (p : Row × ℕ) × (h.way.partner ≡ Some p) × (p.0 ≡ x)).
      let s = (l.sides h.row h.way p.0 h.is_joined p.1).stamp in
      let at : last_stamp marks (joined_by cell) p.0.0 ≡ last_stamp marks (joined_by cell) x = ap (last_stamp marks (joined_by cell)) p.2 in
      omega arith)
      (rows_in c x h v)

  lives_below : (c : Course) (start sync g : ℕ) → c ≡ Ended start sync → LivesAt c g → g < sync
  lives_below c start sync g e h = subst (λ (x : Course). LivesAt x g) e h

  -- the commit that enabled another has a lower stamp
  enabler_below : (c d : Commit) → IsIn (joined_by cell) offer c → IsIn (joined_by cell) offer d → Enables marks d c → stamp_of d < stamp_of c
  enabler_below c d h k e = ⊎_elim
      (λ (n : h.way.partner ≡ None).
      let alone = l.alone h.row h.way h.is_joined n in
      let is = (named_rows offer h.row h.way c h.is_named).stamp in
      ⊎_elim
      (λ (a : IsByAlways c h.row h.way alone.cause). absurd (subst (Enables marks d) a.is e))
      (⊎_elim
      (λ (a : IsByNack c h.row h.way alone.cause).
      let by = subst (Enables marks d) a.is e in
      ⊎_elim
      (λ (x : IsEnabledByRow (joined_by cell) offer marks a.name alone.cause).
      let same : by.0 ≡ x.enabled.binding = some_inj by.0 x.enabled.binding (sym by.1 ∙ x.enabled.is_bound) in
      let row : Row = bound_row a.name x.enabled.binding in
      let stamp = stamp_in row x.by x.enabled.is_joined d k (subst (λ (b : Binding). Involves d (bound_row a.name b)) same by.2) in
      let due = alone.stamp in
      let caused : alone.cause ≡ x.by.stamp = x.stamp in
      omega arith)
      (λ (x : (1 ≤ alone.cause) × (marks.carried a.name ≡ Some alone.cause)).
      let bad : None ≡ Some alone.cause = sym (l.settled a.name by.0 by.1) ∙ x.1 in
      cc)
      a.enabled)
      (λ (a : IsByEnd c h.row h.way alone.cause).
      let by = subst (Enables marks d) a.is e in
      let row : Row = row_at a.thread by.0 in
      let below = lives_below (marks.course a.thread) a.ending.start a.ending.sync by.0 a.ending.ended (l.lived row (open_of d row k by.1)) in
      let behind = behind_end a.thread a.ending.start a.ending.sync a.ending.ended in
      let j = some_parts _ (joined_before a.thread a.ending.sync by.0 behind below) in
      let up = rising a.thread a.ending.sync by.0 behind below in
      let stamp : stamp_of d ≡ row_stamp (joined_of (cell row)) = stamp_in row j.0 j.1 d k by.1 ∙ sym (ap row_stamp j.1) in
      let due = alone.stamp in
      let caused = a.ending.stamp in
      omega arith))
      (lone_in c h n))
      (λ (p : (p : Row × ℕ) × (h.way.partner ≡ Some p)).
      let side : IsSideOf cell offer marks h.row h.way p.0 = l.sides h.row h.way p.0 h.is_joined p.1 in
      ⊎_elim
      (λ (s : IsSent offer (h.row, h.way.own) p.0 h.way.stamp c). absurd (subst (Enables marks d) s.is e))
      (λ (s : IsSent offer p.0 (h.row, h.way.own) h.way.stamp c). absurd (subst (Enables marks d) s.is e))
      (pair_of_named offer h.row h.way p.0 c p.1 side.meets h.is_named))
      (cases_Option h.way.partner)

  above_in : (c : Commit) → (h : IsIn (joined_by cell) offer c) → (d : Commit) → IsIn (joined_by cell) offer d → CountsFor marks d c → stamp_of d < stamp_of c
  above_in c h d k (inl e) =
      let t : ℕ = e.0 in
      let g : ℕ = e.1 in
      let b : ℕ = e.2 in
      let behind = behind_open t g (open_of c (row_at t g) h e.5) in
      let j = some_parts _ (joined_before t g b behind e.3) in
      let stamp = stamp_in (row_at t b) j.0 j.1 d k e.4 in
      let is : row_stamp (joined_of (cell (row_at t b))) ≡ j.0.stamp = ap row_stamp j.1 in
      let up = rising t g b behind e.3 in
      let over = stamp_over c (row_at t g) h e.5 in
      omega arith
  above_in c h d k (inr e) = enabler_below c d h k e

  -- WHAT A STAMP COUNTS: a commit, a start, or a nack that an earlier table settled
  abbrev IsDue : Commit → ℕ → Type 0
  IsDue c a =
      ((d : Commit) × IsIn (joined_by cell) offer d × CountsFor marks d c × (stamp_of d ≡ a))
      ⊎ (((t : ℕ) × CountsThread c t × (start_of (marks.course t) ≡ a))
      ⊎ IsCarriedBy marks c a)

  -- the last stamp at a place of a thread, where its start counts, and so does a commit of the row before
  last_due : (c : Commit) (t g : ℕ) → CountsThread c t → ((n : ℕ) (d : Commit) → g ≡ suc n → Involves d (row_at t n) → CountsFor marks d c) → 0 < last_stamp marks (joined_by cell) (row_at t g) → IsDue c (last_stamp marks (joined_by cell) (row_at t g))
  last_due c t zero counts before b = inr (inl (t, counts, refl))
  last_due c t (suc n) counts before b =
      let last = last_suc t n in
      ⊎_elim
      (λ (z : joined_of (cell (row_at t n)) ≡ None). let none : row_stamp (joined_of (cell (row_at t n))) ≡ 0 = ap row_stamp z in absurd (omega arith))
      (λ (j : (j : Joined) × (joined_of (cell (row_at t n)) ≡ Some j)).
      inl (
        (commit_of_joined (row_at t n) j.0 j.1).0,
        in_of_joined (row_at t n) j.0 j.1,
        before n (commit_of_joined (row_at t n) j.0 j.1).0 refl (involves_own (row_at t n) j.0 j.1),
        stamp_own (row_at t n) j.0 j.1 ∙ sym (ap row_stamp j.1) ∙ sym last,
      ))
      (cases_Option (joined_of (cell (row_at t n))))

  -- of a row of the commit
  own_due : (c : Commit) (r : Row) → Involves c r → 0 < last_stamp marks (joined_by cell) r → IsDue c (last_stamp marks (joined_by cell) r)
  own_due c r v b =
      last_due c r.thread r.sync (counts_own c r v) (λ n d e w. inl (r.thread, r.sync, n, omega (arith, e), w, v)) b

  -- the commit that enabled the nack, or what counts at an end, where the cause has a stamp
  cause_due : (c : Commit) (r : Row) (j : Joined) (s : ℕ) → IsBy c r j s → 0 < s → IsDue c s
  cause_due c r j s (inl a) b = let z : s ≡ 0 = a.stamp in absurd (omega arith)
  cause_due c r j s (inr (inl a)) b = ⊎_elim
      (λ (x : IsEnabledByRow (joined_by cell) offer marks a.name s).
      let row : Row = bound_row a.name x.enabled.binding in
      let by : CausedBy marks (commit_of_joined row x.by x.enabled.is_joined).0 (cause.Nack a.name) = (x.enabled.binding, x.enabled.is_bound, involves_own row x.by x.enabled.is_joined) in
      inl (
        (commit_of_joined row x.by x.enabled.is_joined).0,
        in_of_joined row x.by x.enabled.is_joined,
        inr (subst (Enables marks (commit_of_joined row x.by x.enabled.is_joined).0) (sym a.is) by),
        stamp_own row x.by x.enabled.is_joined ∙ sym x.stamp,
      ))
      (λ (x : (1 ≤ s) × (marks.carried a.name ≡ Some s)). inr (inr (subst (λ (y : Commit). IsCarriedBy marks y s) (sym a.is) x.1)))
      a.enabled
  cause_due c r j s (inr (inr a)) b =
      subst (IsDue c) (sym a.ending.stamp) (
      last_due c a.thread a.ending.sync (subst (λ (x : Commit). CountsThread x a.thread) (sym a.is) (inr refl))
      (λ n d e w. inr (subst (Enables marks d) (sym a.is) (n, w)))
      (subst (λ n. 0 < n) a.ending.stamp b))

  next_in : (c : Commit) → IsIn (joined_by cell) offer c → (stamp_of c ≡ 1) ⊎ ((d : Commit) × IsIn (joined_by cell) offer d × CountsFor marks d c × (stamp_of c ≡ stamp_of d + 1)) ⊎ ((t : ℕ) × CountsThread c t × (stamp_of c ≡ start_of (marks.course t) + 1)) ⊎ ((s : ℕ) × IsCarriedBy marks c s × (stamp_of c ≡ s + 1))
  next_in c h =
      let at = named_rows offer h.row h.way c h.is_named in
      ⊎_elim
      (λ (n : h.way.partner ≡ None).
      let alone = l.alone h.row h.way h.is_joined n in
      pick (last_stamp marks (joined_by cell) h.row) alone.cause (at.stamp ∙ alone.stamp) (own_due c h.row (h.way.own, at.own)) (cause_due c h.row h.way alone.cause (lone_in c h n)))
      (λ (p : (p : Row × ℕ) × (h.way.partner ≡ Some p)).
      let s = (l.sides h.row h.way p.0 h.is_joined p.1).stamp in
      pick (last_stamp marks (joined_by cell) h.row) (last_stamp marks (joined_by cell) p.0.0) (at.stamp ∙ s) (own_due c h.row (h.way.own, at.own)) (own_due c p.0.0 (p.0.1, at.other p.0 p.1)))
      (cases_Option h.way.partner)
    where
      follows : (a : ℕ) → stamp_of c ≡ 1 + a → IsDue c a → (stamp_of c ≡ 1) ⊎ ((d : Commit) × IsIn (joined_by cell) offer d × CountsFor marks d c × (stamp_of c ≡ stamp_of d + 1)) ⊎ ((t : ℕ) × CountsThread c t × (stamp_of c ≡ start_of (marks.course t) + 1)) ⊎ ((s : ℕ) × IsCarriedBy marks c s × (stamp_of c ≡ s + 1))
      follows a s (inl d) = let at : stamp_of d.0 ≡ a = d.3 in inr (inl (d.0, d.1, d.2, omega arith))
      follows a s (inr (inl t)) = let at : start_of (marks.course t.0) ≡ a = t.2 in inr (inr (inl (t.0, t.1, omega arith)))
      follows a s (inr (inr x)) = inr (inr (inr (a, x, omega arith)))

      pick : (a b : ℕ) → stamp_of c ≡ 1 + max a b → (0 < a → IsDue c a) → (0 < b → IsDue c b) → (stamp_of c ≡ 1) ⊎ ((d : Commit) × IsIn (joined_by cell) offer d × CountsFor marks d c × (stamp_of c ≡ stamp_of d + 1)) ⊎ ((t : ℕ) × CountsThread c t × (stamp_of c ≡ start_of (marks.course t) + 1)) ⊎ ((s : ℕ) × IsCarriedBy marks c s × (stamp_of c ≡ s + 1))
      pick a b s f g = ⊎_elim
          (λ (lt : a < b). follows b (omega arith) (g (omega arith)))
          (λ (le : b ≤ a). ⊎_elim
          (λ (z : a ≡ 0). inl (omega arith))
          (λ (z : a ≡ 0 → ⊥). follows a (omega arith) (f (omega (arith, z))))
          (cases_eq a 0))
          (cases_lt a b)

  -- A COMMIT'S STAMP IS ABOVE THE STARTS that count for it
  own_start : (c : Commit) (r : Row) → IsIn (joined_by cell) offer c → Involves c r → start_of (marks.course r.thread) < stamp_of c
  own_start c r h v =
      let from = rising_start r.thread r.sync (behind_open r.thread r.sync (open_of c r h v)) in
      let over = stamp_over c r h v in
      omega arith

  start_of_row : (c : Commit) (r : Row) (t : ℕ) → IsIn (joined_by cell) offer c → Involves c r → r.thread ≡ t → start_of (marks.course t) < stamp_of c
  start_of_row c r t h v e = subst (λ (z : ℕ). start_of (marks.course z) < stamp_of c) e (own_start c r h v)

  start_below : (c : Commit) (t : ℕ) → IsIn (joined_by cell) offer c → CountsThread c t → start_of (marks.course t) < stamp_of c
  start_below c t h counts =
      let at = named_rows offer h.row h.way c h.is_named in
      let own : Involves c h.row = (h.way.own, at.own) in
      ⊎_elim
      (λ (n : h.way.partner ≡ None).
      let alone = l.alone h.row h.way h.is_joined n in
      ⊎_elim
      (λ (a : IsByAlways c h.row h.way alone.cause). ⊎_elim (λ (e : h.row.thread ≡ t). start_of_row c h.row t h own e) absurd_of (subst (λ (x : Commit). CountsThread x t) a.is counts))
      (⊎_elim
      (λ (a : IsByNack c h.row h.way alone.cause). ⊎_elim (λ (e : h.row.thread ≡ t). start_of_row c h.row t h own e) absurd_of (subst (λ (x : Commit). CountsThread x t) a.is counts))
      (λ (a : IsByEnd c h.row h.way alone.cause). ⊎_elim
      (λ (e : h.row.thread ≡ t). start_of_row c h.row t h own e)
      (λ (e : a.thread ≡ t).
      let from = rising_start a.thread a.ending.sync (behind_end a.thread a.ending.start a.ending.sync a.ending.ended) in
      let is = a.ending.stamp in
      let due = at.stamp ∙ alone.stamp in
      subst (λ (z : ℕ). start_of (marks.course z) < stamp_of c) e (omega arith))
      (subst (λ (x : Commit). CountsThread x t) a.is counts)))
      (lone_in c h n))
      (λ (p : (p : Row × ℕ) × (h.way.partner ≡ Some p)).
      let side : IsSideOf cell offer marks h.row h.way p.0 = l.sides h.row h.way p.0 h.is_joined p.1 in
      let other : Involves c p.0.0 = (p.0.1, at.other p.0 p.1) in
      ⊎_elim
      (λ (s : IsSent offer (h.row, h.way.own) p.0 h.way.stamp c). ⊎_elim
      (λ (e : h.row.thread ≡ t). start_of_row c h.row t h own e)
      (λ (e : p.0.0.thread ≡ t). start_of_row c p.0.0 t h other e)
      (subst (λ (x : Commit). CountsThread x t) s.is counts))
      (λ (s : IsSent offer p.0 (h.row, h.way.own) h.way.stamp c). ⊎_elim
      (λ (e : p.0.0.thread ≡ t). start_of_row c p.0.0 t h other e)
      (λ (e : h.row.thread ≡ t). start_of_row c h.row t h own e)
      (subst (λ (x : Commit). CountsThread x t) s.is counts))
      (pair_of_named offer h.row h.way p.0 c p.1 side.meets h.is_named))
      (cases_Option h.way.partner)
    where
      absurd_of : ⊥ → start_of (marks.course t) < stamp_of c
      absurd_of x = absurd x

  -- and above that of a nack that an earlier table settled
  carried_below : (c : Commit) (s : ℕ) → IsIn (joined_by cell) offer c → IsCarriedBy marks c s → s < stamp_of c
  carried_below c s h by =
      let at = named_rows offer h.row h.way c h.is_named in
      ⊎_elim
      (λ (n : h.way.partner ≡ None).
      let alone = l.alone h.row h.way h.is_joined n in
      ⊎_elim
      (λ (a : IsByAlways c h.row h.way alone.cause). absurd (subst (λ (x : Commit). IsCarriedBy marks x s) a.is by))
      (⊎_elim
      (λ (a : IsByNack c h.row h.way alone.cause).
      let carried = subst (λ (x : Commit). IsCarriedBy marks x s) a.is by in
      ⊎_elim
      (λ (x : IsEnabledByRow (joined_by cell) offer marks a.name alone.cause). let bad : None ≡ Some s = sym x.uncarried ∙ carried in cc)
      (λ (x : (1 ≤ alone.cause) × (marks.carried a.name ≡ Some alone.cause)).
      let same : s ≡ alone.cause = some_inj s alone.cause (sym carried ∙ x.1) in
      let due = at.stamp ∙ alone.stamp in
      omega arith)
      a.enabled)
      (λ (a : IsByEnd c h.row h.way alone.cause). absurd (subst (λ (x : Commit). IsCarriedBy marks x s) a.is by)))
      (lone_in c h n))
      (λ (p : (p : Row × ℕ) × (h.way.partner ≡ Some p)).
      let side : IsSideOf cell offer marks h.row h.way p.0 = l.sides h.row h.way p.0 h.is_joined p.1 in
      ⊎_elim
      (λ (x : IsSent offer (h.row, h.way.own) p.0 h.way.stamp c). absurd (subst (λ (y : Commit). IsCarriedBy marks y s) x.is by))
      (λ (x : IsSent offer p.0 (h.row, h.way.own) h.way.stamp c). absurd (subst (λ (y : Commit). IsCarriedBy marks y s) x.is by))
      (pair_of_named offer h.row h.way p.0 c p.1 side.meets h.is_named))
      (cases_Option h.way.partner)

  pub lawful_linked : Lawful (all_rows threads rows) (joined_by cell) offer marks
  lawful_linked = record {
    named = λ r j e. let c = commit_of_joined r j e in some_is_some (commit_named offer r j) c.0 c.1;
    once = once_in;
    fits = fits_in;
    in_turn = λ c t g b h v lt.
        let j = some_parts _ (joined_before t g b (behind_open t g (open_of c (row_at t g) h v)) lt) in
        ((commit_of_joined (row_at t b) j.0 j.1).0, in_of_joined (row_at t b) j.0 j.1, involves_own (row_at t b) j.0 j.1);
    stamps = λ c h. record { above = above_in c h; after_start = λ t counts. start_below c t h counts; after_carried = λ s by. carried_below c s h by; next = next_in c h };
    bounded = λ c h. subst (λ n. n ≤ marks.opening + length (commits_of (all_rows threads rows) (joined_by cell) offer)) (sym (named_rows offer h.row h.way c h.is_named).stamp) (l.bounded h.row h.way h.is_joined);
    starts = l.starts;
    carried = l.carried;
    lived = λ c r h v. l.lived r (open_of c r h v);
  }
