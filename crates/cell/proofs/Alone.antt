-- What a pass knows of a row that it grants or takes.
use Rattle.std.proofs.Common.{rules, ◌⊎◌, ◌≡◌, ◌≢◌, ℕ, ◌≤◌, ◌<◌, ◌^◌, List, sym, refl, ap, ◌∙◌, subst, inl, inr, arith, Some, None}
use Rattle.protocol_values.specs.Words.{IsJoinedInRange}
use Rattle.protocol_values.specs.declared.Base.{Base}
use Rattle.protocol_values.specs.declared.Base.TheVariants.{Send, Recv, Always, OnNack, OnEnd, Never}
use Rattle.protocol_values.specs.declared.Binding.{Binding}
use Rattle.protocol_values.specs.declared.NackName.{NackName}
use Rattle.protocol_values.specs.declared.Offer.{Offer}
use Rattle.protocol_values.specs.declared.Row.{Row}
use Rattle.protocol_values.specs.declared.Joined.{Joined}
use Rattle.protocol_values.specs.declared.Cell.{Cell}
use Rattle.protocol_values.specs.declared.Cell.TheVariants.{Fresh, Waiting, Claimed, Synched, Taken}
use Rattle.protocol_ledger.proofs.Linking.{some_inj}
use Rattle.cell_table.specs.declared.view.View.{View}
use Rattle.cell_table.specs.declared.view.Stage.TheVariants.{Resting}
use Rattle.cell.specs.declared.granting.Grant.TheVariants.{Given, Late}
use Rattle.cell_table.specs.Told.{Agrees, settled}
use Rattle.cell_table.specs.Views.{did, saw}
use Rattle.protocol_values.specs.declared.Step.TheVariants.{Grant}
use Rattle.protocol_ledger.specs.Tables.{bound_row}
use Rattle.protocol_values.specs.Values.{joined_of}
use Rattle.cell_table.specs.declared.view.Seen.{Seen}
use Rattle.cell_table.specs.Sight.{Has, HaveOffer, HasSeenLast, Learns, LearnsOf, IsBefore, SawCommitted, SeesOffer, next_stamp, see_cell, see_opened}
use Rattle.cell_table.specs.Nacks.{CanGrant, IsCauseRow, IsReadyAlone, SawCause, SawEnabled}
use Rattle.cell.proofs.Learning.{learns_look, learns_then, learns_wider, lives_wider, nacks_wider}
use Rattle.cell.specs.Attempts.{Granted, IsLifeOf, IsNackOf, IsNearGrant}
use Rattle.cell_table.proofs.Offers.{few, have_more, sees_more}
use Rattle.cell.proofs.Meeting.{claim_found, last_more}

-- WHAT LETS A ROW STAND ALONE stays known
pub enabled_more : {Nacks : NackName → Type 0} {Lives : ℕ → Type 0} (About : Row → Type 0) (s t : Seen) (n : NackName) (j : Joined) → LearnsOf About Nacks Lives s t → SawEnabled s n j → SawEnabled t n j
enabled_more About s t n j l e = record {
  binding = e.binding;
  bound = l.bound.0 (n, e.binding) e.bound;
  joined = l.joined.0 (bound_row n e.binding, j) e.joined;
  offer = e.offer;
  chosen = sees_more About s t (bound_row n e.binding) j.own e.offer l e.chosen;
  outside = e.outside;
}

pub cause_more : {Nacks : NackName → Type 0} {Lives : ℕ → Type 0} (About : Row → Type 0) (s t : Seen) (b : Base) (stamp : ℕ) → LearnsOf About Nacks Lives s t → SawCause s b stamp → SawCause t b stamp
cause_more About s t (Send c m) stamp l h = absurd h
cause_more About s t (Recv c) stamp l h = absurd h
cause_more About s t (Always m) stamp l h = h
cause_more About s t (OnNack n) stamp l (inl h) = inl (h.0, enabled_more About s t n h.0 l h.1, h.2)
cause_more About s t (OnNack n) stamp l (inr h) = inr (l.carried.0 (n, stamp) h.0, h.1)
cause_more About s t (OnEnd p) stamp l h = (h.0, l.ended.0 (p, h.0) h.1, last_more s t (record { thread = p; sync = h.0 }) stamp l.joined.0 l.started.0 h.2)
cause_more About s t Never stamp l h = absurd h

-- and so it does where the stamp is not asked for
pub ready_more : {Nacks : NackName → Type 0} {Lives : ℕ → Type 0} (About : Row → Type 0) (s t : Seen) (b : Base) → LearnsOf About Nacks Lives s t → IsReadyAlone s b → IsReadyAlone t b
ready_more About s t (Send c m) l h = absurd h
ready_more About s t (Recv c) l h = absurd h
ready_more About s t (Always m) l h = h
ready_more About s t (OnNack n) l (inl h) = inl (h.0, enabled_more About s t n h.0 l h.1)
ready_more About s t (OnNack n) l (inr h) = inr (h.0, (l.carried.0 (n, h.0) h.1.0, h.1.1))
ready_more About s t (OnEnd p) l h = (h.0, l.ended.0 (p, h.0) h.1)
ready_more About s t Never l h = absurd h

pub ready_from : (s : Seen) (b : Base) (stamp : ℕ) → SawCause s b stamp → IsReadyAlone s b
ready_from s (Send c m) stamp h = absurd h
ready_from s (Recv c) stamp h = absurd h
ready_from s (Always m) stamp h = tt
ready_from s (OnNack n) stamp (inl h) = inl (h.0, h.1)
ready_from s (OnNack n) stamp (inr h) = inr (stamp, h)
ready_from s (OnEnd p) stamp h = (h.0, h.1)
ready_from s Never stamp h = absurd h

-- the row at which a cause is read stays one
cause_row_more : {Nacks : NackName → Type 0} {Lives : ℕ → Type 0} {About : Row → Type 0} (s t : Seen) (b : Base) (q : Row) → LearnsOf About Nacks Lives s t → IsCauseRow s b q → IsCauseRow t b q
cause_row_more s t b q l (inl h) = inl (h.0, h.1, h.2, l.bound.0 (h.0, h.1) h.3, h.4)
cause_row_more s t b q l (inr h) = inr (h.0, h.1, h.2, l.ended.0 (h.0, h.1) h.3, h.4)

can_more : {Nacks : NackName → Type 0} {Lives : ℕ → Type 0} (About : Row → Type 0) (s t : Seen) (r : Row) (n : ℕ) (j : Joined) → LearnsOf About Nacks Lives s t → CanGrant s r n j → CanGrant t r n j
can_more About s t r n j l can = record {
  offer = can.offer;
  read = have_more s.words t.words r n can.offer l.words.0 can.read;
  cause = can.cause;
  caused = cause_more About s t can.offer.base can.cause l can.caused;
  last = can.last;
  seen_last = last_more s t r can.last l.joined.0 l.started.0 can.seen_last;
  is = can.is;
}

-- the offer was read in s, its cause was seen in t, and the last stamp in u
pub can_grant : {Nacks : NackName → Type 0} {Lives : ℕ → Type 0} (About : Row → Type 0) (s t u : Seen) (r : Row) (n last cause : ℕ) (o : Offer) → LearnsOf About Nacks Lives s t → LearnsOf (IsBefore r) (λ m. ⊥) (λ p. p ≡ r.thread) t u → HaveOffer s.words r n o → SawCause t o.base cause → HasSeenLast u r last
    → CanGrant u r n (record { own = n; partner = None; stamp = next_stamp last cause })
can_grant About s t u r n last cause o l m have caused seen = record {
  offer = o;
  read = have_more t.words u.words r n o m.words.0 (have_more s.words t.words r n o l.words.0 have);
  cause = cause;
  caused = cause_more (IsBefore r) t u o.base cause m caused;
  last = last;
  seen_last = seen;
  is = refl;
}

pub grant_ranged : (words : List (Row × ℕ × ℕ)) (r : Row) (n last cause : ℕ) (o : Offer) → HaveOffer words r n o → IsJoinedInRange (record { own = n; partner = None; stamp = next_stamp last cause })
grant_ranged words r n last cause o have = record {
  own = few have.count n have.below;
  partner = tt;
  stamp_low = at_least last cause;
  stamp_high = at_most last cause;
}
  where
    at_least : (a b : ℕ) → 1 ≤ next_stamp a b
    at_least a b = omega arith

    at_most : (a b : ℕ) → next_stamp a b < 2 ^ 32
    at_most a b = omega arith

learns_open : (r : Row) (s : Seen) → Learns (λ q. q ≡ r) s (see_opened r s)
learns_open r s = search rules

-- a nack is looked at, and then twice the row to which it is bound
pub bound_then : (nack : NackName) (row : Row) (s t u v : Seen) (b : Binding) → row ≡ bound_row nack b → Has v.bound (nack, b)
    → LearnsOf (λ q. ⊥) (λ m. m ≡ nack) (λ p. ⊥) s t → Learns (λ q. q ≡ row) t u → Learns (λ q. q ≡ row) u v
    → LearnsOf (λ q. (x : Binding) × Has v.bound (nack, x) × (q ≡ bound_row nack x)) (λ m. m ≡ nack) (λ p. ⊥) s v
bound_then nack row s t u v b is bound f g h =
    let About : Row → Type 0 = λ q. (x : Binding) × Has v.bound (nack, x) × (q ≡ bound_row nack x) in
    let near : (q : Row) → q ≡ row → About q = λ q e. (b, bound, e ∙ is) in
    learns_then About s t v
    (learns_wider (λ q. ⊥) About s t (λ q e. absurd e) f)
    (learns_then About t u v
    (nacks_wider About (λ m. ⊥) (λ m. m ≡ nack) t u (λ m e. absurd e) (learns_wider (λ q. q ≡ row) About t u near g))
    (nacks_wider About (λ m. ⊥) (λ m. m ≡ nack) u v (λ m e. absurd e) (learns_wider (λ q. q ≡ row) About u v near h)))

-- THE ROWS AND NACKS that a grant looks at, where the offer was read in s
pub near_offer : (before s t : Seen) (r : Row) (n : ℕ) → Learns (λ q. q ≡ r) before s → LearnsOf (IsNearGrant t r n) (IsNackOf t r n) (IsLifeOf t r n) before s
near_offer before s t r n l =
    lives_wider (IsNearGrant t r n) (λ p. ⊥) (IsLifeOf t r n) before s (λ p h. absurd h)
    (nacks_wider (IsNearGrant t r n) (λ m. ⊥) (IsNackOf t r n) before s (λ m h. absurd h)
    (learns_wider (λ q. q ≡ r) (IsNearGrant t r n) before s (λ q e. inl e) l))

pub near_cause : {A : Row → Type 0} {B : NackName → Type 0} {C : ℕ → Type 0} (s u t : Seen) (r : Row) (n : ℕ) (o : Offer) → HaveOffer s.words r n o → LearnsOf (IsCauseRow u o.base) (λ m. o.base ≡ OnNack m) (λ p. o.base ≡ OnEnd p) s u → LearnsOf A B C u t → LearnsOf (IsNearGrant t r n) (IsNackOf t r n) (IsLifeOf t r n) s u
near_cause {A} s u t r n o have l k =
    let sees : SeesOffer t r n o = sees_more A u t r n o k (inl (have_more s.words u.words r n o l.words.0 have)) in
    lives_wider (IsNearGrant t r n) (λ p. o.base ≡ OnEnd p) (IsLifeOf t r n) s u (λ p e. inr (o, sees, e))
    (nacks_wider (IsNearGrant t r n) (λ m. o.base ≡ OnNack m) (IsNackOf t r n) s u (λ m e. (o, sees, e))
    (learns_wider (IsCauseRow u o.base) (IsNearGrant t r n) s u (λ q h. inr (inr (o, sees, cause_row_more u t o.base q k h))) l))

pub near_last : (s u t : Seen) (r : Row) (n : ℕ) → LearnsOf (IsBefore r) (λ m. ⊥) (λ p. p ≡ r.thread) s u → LearnsOf (IsNearGrant t r n) (IsNackOf t r n) (IsLifeOf t r n) s u
near_last s u t r n l =
    lives_wider (IsNearGrant t r n) (λ p. p ≡ r.thread) (IsLifeOf t r n) s u (λ p e. inl e)
    (nacks_wider (IsNearGrant t r n) (λ m. ⊥) (IsNackOf t r n) s u (λ m h. absurd h)
    (learns_wider (IsBefore r) (IsNearGrant t r n) s u (λ q e. inr (inl e)) l))

module _ {M : Type 0} where
  -- A GRANT BEFORE ITS STEP: the offer was read in s, what lets it commit its row in u, and the last stamp in the view v
  pub record IsReady (before s u : Seen) (v : View M) (r : Row) (n : ℕ) (o : Offer) (cause last : ℕ) : Type 0 where
    pub offer : Learns (λ q. q ≡ r) before s
    pub same : (p : Offer) → SeesOffer before r n p → o ≡ p
    pub opened : Has s.opened r
    pub have : HaveOffer s.words r n o
    pub nack : LearnsOf (IsCauseRow u o.base) (λ m. o.base ≡ OnNack m) (λ p. o.base ≡ OnEnd p) s u
    pub caused : SawCause u o.base cause
    pub before_row : LearnsOf (IsBefore r) (λ m. ⊥) (λ p. p ≡ r.thread) u v.seen
    pub seen_last : HasSeenLast v.seen r last

  module _ (before s u : Seen) (v w : View M) (r : Row) (n : ℕ) (o : Offer) (cause last : ℕ) (ready : IsReady before s u v r n o cause last) where
    abbrev pub alone_as : Joined
    alone_as = record { own = n; partner = None; stamp = next_stamp last cause }

    pub can : CanGrant v.seen r n alone_as × IsJoinedInRange alone_as
    can = (
      can_grant (IsCauseRow u o.base) s u v.seen r n last cause o ready.nack ready.before_row ready.have ready.caused ready.seen_last,
      grant_ranged s.words r n last cause o ready.have,
    )

    -- what is learnt up to the step, and by it
    pub learns_near : Learns (λ q. q ≡ r) v.seen w.seen → LearnsOf (IsNearGrant w.seen r n) (IsNackOf w.seen r n) (IsLifeOf w.seen r n) before w.seen
    learns_near step =
        let later : LearnsOf (λ q. IsBefore r q ⊎ (q ≡ r)) (λ m. ⊥) (λ p. p ≡ r.thread) u w.seen = learns_then (λ q. IsBefore r q ⊎ (q ≡ r)) u v.seen w.seen
        (learns_wider (IsBefore r) (λ q. IsBefore r q ⊎ (q ≡ r)) u v.seen (λ q e. inl e) ready.before_row)
        (lives_wider (λ q. IsBefore r q ⊎ (q ≡ r)) (λ p. ⊥) (λ p. p ≡ r.thread) v.seen w.seen (λ p h. absurd h) (learns_wider (λ q. q ≡ r) (λ q. IsBefore r q ⊎ (q ≡ r)) v.seen w.seen (λ q e. inr e) step)) in
        learns_then (IsNearGrant w.seen r n) before s w.seen
        (near_offer before s w.seen r n ready.offer)
        (learns_then (IsNearGrant w.seen r n) s u w.seen
        (near_cause s u w.seen r n o ready.have ready.nack later)
        (learns_then (IsNearGrant w.seen r n) u v.seen w.seen
        (near_last u v.seen w.seen r n ready.before_row)
        (near_offer v.seen w.seen w.seen r n step)))

    seen_before : (i : Joined) → Has before.joined (r, i) → Has v.seen.joined (r, i)
    seen_before i h = ready.before_row.joined.0 (r, i) (ready.nack.joined.0 (r, i) (ready.offer.joined.0 (r, i) h))

    given_learns : w ≡ did (Grant r n) (settled r alone_as v) → Learns (λ q. q ≡ r) v.seen w.seen
    given_learns e = subst (λ (x : View M). Learns (λ q. q ≡ r) v.seen x.seen) (sym e)
        (learns_then (λ q. q ≡ r) v.seen (see_opened r v.seen) _ (learns_open r v.seen) (learns_look r (Synched alone_as) (see_opened r v.seen)))

    late_learns : (c : Cell) → w ≡ saw r c v → Learns (λ q. q ≡ r) v.seen w.seen
    late_learns c e = subst (λ (x : View M). Learns (λ q. q ≡ r) v.seen x.seen) (sym e) (learns_look r c v.seen)

    pub given_is : w ≡ did (Grant r n) (settled r alone_as v) → Agrees v r Waiting → Granted before w.seen r n Given × LearnsOf (IsNearGrant w.seen r n) (IsNackOf w.seen r n) (IsLifeOf w.seen r n) before w.seen
    unfolding can can_more can_grant
    given_is e agree = (
      (
        (λ c. let bad : None ≡ Some c.0 = agree.0.joined c.0 (seen_before c.0 c.1) in cc),
        (
          alone_as,
          can_more (λ q. q ≡ r) v.seen w.seen r n alone_as (given_learns e) can.0,
          subst (λ (x : View M). Has x.seen.joined (r, alone_as)) (sym e) (inl refl),
          ready.same,
        ),
      ),
      learns_near (given_learns e),
    )

    pub late_is : (c : Cell) → v.stage ≡ Resting → c ≢ Waiting → w ≡ saw r c v → Agrees v r c → Granted before w.seen r n Late × LearnsOf (IsNearGrant w.seen r n) (IsNackOf w.seen r n) (IsLifeOf w.seen r n) before w.seen
    late_is c resting not_waiting e agree =
        let later = can_more (λ q. q ≡ r) v.seen w.seen r n alone_as (late_learns c e) can.0 in
        let opened : Has v.seen.opened r = ready.before_row.opened.0 r (ready.nack.opened.0 r ready.opened) in
        let held : v.seen.held ≡ before.held = ready.before_row.held ∙ ready.nack.held ∙ ready.offer.held in (
          (
            (later.offer, inl later.read, ready_from w.seen later.offer.base later.cause later.caused),
            λ h. subst (λ (x : View M). SawCommitted x.seen r) (sym e) (claim_found v r c (subst (λ (rows : List Row). Has rows r) (sym held) h) opened resting not_waiting agree),
          ),
          learns_near (late_learns c e),
        )

  -- WHAT A TAKE FINDS: the row was Synched, and is not any more
  pub taken_found : (v : View M) (r : Row) (j : Joined) (c : Cell) → Has v.seen.joined (r, j) → c ≢ Synched j → Agrees v r c → Has (see_cell r c v.seen).taken r
  taken_found v r j c has other agree = by_cell c other (agree.0.joined j has)
    where
      by_cell : (c : Cell) → c ≢ Synched j → joined_of c ≡ Some j → Has (see_cell r c v.seen).taken r
      by_cell Fresh n e = let bad : None ≡ Some j = e in cc
      by_cell Waiting n e = let bad : None ≡ Some j = e in cc
      by_cell Claimed n e = let bad : None ≡ Some j = e in cc
      by_cell (Synched i) n e = absurd (n (ap Synched (some_inj i j e)))
      by_cell (Taken i) n e = inl refl
