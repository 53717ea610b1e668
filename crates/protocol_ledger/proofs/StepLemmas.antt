-- One lemma for each kind of step: the cells and offers stay linked.
use Rattle.std.proofs.Common.{◌≡◌, ◌≢◌, ℕ, ◌+◌, ◌-◌, ◌<◌, ◌≤◌, Bool, true, false, cond, eqb, ◌||◌, List, length, Option, Some, None, sym, refl, ap, ◌∙◌, subst, ◌⊎◌, inl, inr, ⊎_elim, arith, is_some, max}
use Rattle.std.specs.Prelude.{is_none, option_to_list}
use Rattle.std.specs.List.{sum_by}
use Rattle.std.proofs.lemmas.Bool.{cases_eq, false≢true}
use Rattle.protocol_values.specs.declared.NackName.{NackName}
use Rattle.protocol_values.specs.declared.Binding.{Binding}
use Rattle.protocol_values.specs.declared.Row.{Row}
use Rattle.protocol_values.specs.declared.Joined.{Joined}
use Rattle.protocol_values.specs.declared.Offer.{Offer}
use Rattle.protocol_values.specs.declared.Commit.{Commit}
use Rattle.protocol_values.specs.declared.Cell.{Cell}
use Rattle.protocol_values.specs.declared.Cell.TheVariants.{Waiting, Claimed, Synched}
use Rattle.protocol_values.specs.declared.Course.TheVariants.{Ended}
use Rattle.protocol_ledger.specs.Tables.{Marks, start_of, row_eq, all_rows, is_fresh, is_taken, names, is_partner, offers_meet, last_stamp, row_stamp, bound_row, cause_of}
use Rattle.protocol_values.specs.Values.{joined_of}
use Rattle.protocol_ledger.specs.Worlds.{mirrored}
use Rattle.protocol_ledger.specs.Ledgers.{LivesAt, commits_of, told_at, told_by, tells, is_send, commit_named}
use Rattle.protocol_ledger.specs.Kept.{joined_by, IsSideOf, IsAlone, Linked}
use Rattle.protocol_ledger.proofs.RowLemmas.{row_eq-true, row_eq-false, row_cases, row_ne, put, put_same, put_other, once_all}
use Rattle.protocol_ledger.proofs.Causes.{IsAlways, IsEnabledByRow, IsOnEnabled, IsOnEnded, cause_is, cause_alone, cause_kept}
use Rattle.protocol_ledger.proofs.Linking.{cases_Option, some_inj, naming, names_from, fresh_not_joined, taken_joined, named_alone, sum_change, sum_change_two, unnamed_idle, partner_open, told_same, told_count, count_of_commits, named_some, offers_swapped, one_offer_sends}

-- the row before
abbrev before : Row → Row
before r = record { thread = r.thread; sync = r.sync - 1 }

-- The row before an open row is joined, so a row that is not joined is not before it.
before_ne : {marks : Marks} (threads rows : ℕ) (cell : Row → Cell) (offer : Row → ℕ → Option Offer) (x r : Row) → Linked threads rows cell offer marks → joined_of (cell x) ≡ None → is_fresh (cell r) ≡ false → (r.sync ≡ 0 → ⊥) → row_eq (before r) x ≡ false
before_ne threads rows cell offer x r l j f n =
    row_ne (before r) x (λ e.
    let here : is_fresh (cell (record { thread = r.thread; sync = r.sync - 1 + 1 })) ≡ false =
    ap (λ k. is_fresh (cell (record { thread = r.thread; sync = k }))) (omega arith) ∙ f in
    let some : is_some (joined_of (cell (before r))) ≡ true = taken_joined (cell (before r)) (l.in_turn r.thread (r.sync - 1) here) in
    false≢true (sym (ap (λ (o : Option Joined). is_some o) (ap (λ (y : Row). joined_of (cell y)) e ∙ j)) ∙ some))

-- so the last stamp of an open row stays where such a row is joined
last_kept : {marks : Marks} (threads rows : ℕ) (cell : Row → Cell) (offer : Row → ℕ → Option Offer) (x r : Row) (c : Cell) → Linked threads rows cell offer marks → joined_of (cell x) ≡ None → is_fresh (cell r) ≡ false → last_stamp marks (joined_by (put cell x c)) r ≡ last_stamp marks (joined_by cell) r
last_kept {marks} threads rows cell offer x r c l j f =
    ⊎_elim
    (λ (z : r.sync ≡ 0).
    let P : ℕ → Type 0 = λ k. cond (eqb k 0) (start_of (marks.course r.thread)) (row_stamp (joined_of (put cell x c (before r)))) ≡ cond (eqb k 0) (start_of (marks.course r.thread)) (row_stamp (joined_of (cell (before r)))) in
    subst P (sym z) refl)
    (λ (n : r.sync ≡ 0 → ⊥).
    ap (λ (d : Cell). cond (eqb r.sync 0) (start_of (marks.course r.thread)) (row_stamp (joined_of d))) (put_other cell x c (before r) (before_ne threads rows cell offer x r l j f n)))
    (cases_eq r.sync 0)

-- a row before an end is joined
pub ended_joined : {marks : Marks} (threads rows : ℕ) (cell : Row → Cell) (offer : Row → ℕ → Option Offer) → Linked threads rows cell offer marks → (thread start sync : ℕ) → marks.course thread ≡ Ended start (sync + 1) → is_some (joined_of (cell (record { thread = thread; sync = sync }))) ≡ true
ended_joined threads rows cell offer l thread start sync e = taken_joined (cell (record { thread = thread; sync = sync })) (l.ended thread start sync e)

-- a step that joins nothing anew: open, claim, yield and take

-- a row may be open where the row before it was taken, and its thread has started and not ended
pub record HasTurn (threads rows : ℕ) (cell : Row → Cell) (marks : Marks) (x : Row) : Type 0 where
  pub inside : (x.thread < threads) × (x.sync < rows)
  pub turn : (sync : ℕ) → x.sync ≡ sync + 1 → is_taken (cell (record { thread = x.thread; sync = sync })) ≡ true
  pub lives : LivesAt (marks.course x.thread) x.sync

module _ {marks : Marks} (threads rows : ℕ) (cell : Row → Cell) (offer offer' : Row → ℕ → Option Offer) (x : Row) (c : Cell)
    (l : Linked threads rows cell offer marks)
    (same : joined_of c ≡ joined_of (cell x))
    (takes : is_taken (cell x) ≡ true → is_taken c ≡ true)
    (unclaimed : (q : Row) → names (joined_of (cell q)) x ≡ true → cell x ≢ Claimed)
    (turn : is_fresh c ≡ false → HasTurn threads rows cell marks x)
    (offers : (r : Row) → is_fresh (cell r) ≡ false → offer' r ≡ offer r) where
  joined_same : (r : Row) → joined_of (put cell x c r) ≡ joined_of (cell r)
  joined_same r = ⊎_elim
      (λ (e : r ≡ x). ap (λ (y : Row). joined_of (put cell x c y)) e ∙ ap joined_of (put_same cell x c) ∙ same ∙ ap (λ (y : Row). joined_of (cell y)) (sym e))
      (λ (e : row_eq r x ≡ false). ap joined_of (put_other cell x c r e))
      (row_cases r x)

  taken_stays : (r : Row) → is_taken (cell r) ≡ true → is_taken (put cell x c r) ≡ true
  taken_stays r h = ⊎_elim
      (λ (e : r ≡ x). ap (λ (y : Row). is_taken (put cell x c y)) e ∙ ap is_taken (put_same cell x c) ∙ takes (ap (λ (y : Row). is_taken (cell y)) (sym e) ∙ h))
      (λ (e : row_eq r x ≡ false). ap is_taken (put_other cell x c r e) ∙ h)
      (row_cases r x)

  last_same : (r : Row) → last_stamp marks (joined_by (put cell x c)) r ≡ last_stamp marks (joined_by cell) r
  last_same r = λ i. last_stamp marks (λ (y : Row). joined_same y i) r

  claimed_stays : (r p : Row) → names (joined_of (cell r)) p ≡ true → cell p ≡ Claimed → put cell x c p ≡ Claimed
  claimed_stays r p h k =
      put_other cell x c p (row_ne p x (λ e. unclaimed r (ap (names (joined_of (cell r))) (sym e) ∙ h) (ap cell (sym e) ∙ k))) ∙ k

  plain_side : (r : Row) (j : Joined) (p : Row × ℕ) → joined_of (cell r) ≡ Some j → j.partner ≡ Some p → IsSideOf (put cell x c) offer' marks r j p
  plain_side r j p h k =
      let old = l.sides r j p h k in
      let open_p : is_fresh (cell p.0) ≡ false = partner_open threads rows cell offer r j p l h k in
      let open_r : is_fresh (cell r) ≡ false = fresh_not_joined (cell r) j h in
      record {
        apart = old.apart;
        meets = (λ i. offers_meet (offers r open_r i j.own) (offers p.0 open_p i p.1)) ∙ old.meets;
        back = ⊎_elim
            (λ (e : cell p.0 ≡ Claimed). inl (claimed_stays r p.0 (names_from (joined_of (cell r)) j p h k) e))
            (λ (e : joined_of (cell p.0) ≡ Some (mirrored r j p.1)). inr (joined_same p.0 ∙ e))
            old.back;
        stamp = old.stamp ∙ (λ i. 1 + max (sym (last_same r) i) (sym (last_same p.0) i));
      }

  plain_alone : (r : Row) (j : Joined) → joined_of (cell r) ≡ Some j → j.partner ≡ None → IsAlone (put cell x c) offer' marks r j
  plain_alone r j h k =
      let old = l.alone r j h k in
      record {
        cause = old.cause;
        is = (λ i. cause_of (joined_by (put cell x c)) offer' marks (offers r (fresh_not_joined (cell r) j h) i j.own))
            ∙ cause_kept (joined_by cell) (joined_by (put cell x c)) offer offer' marks marks (λ q w e. joined_same q ∙ e) (λ q w e. offers q (fresh_not_joined (cell q) w e)) (λ n b e. e) (λ n. refl) (λ p a b e. e) (ended_joined threads rows cell offer l) (offer r j.own) old.cause old.is;
        stamp = old.stamp ∙ ap (λ n. 1 + max n old.cause) (sym (last_same r));
      }

  plain_count : length (commits_of (all_rows threads rows) (joined_by (put cell x c)) offer') ≡ length (commits_of (all_rows threads rows) (joined_by cell) offer)
  plain_count =
      ap (λ (f : Row → Option Commit). length (Rattle.std.specs.List.flat_map (λ r. option_to_list (f r)) (all_rows threads rows)))
      (λ i r. told_same (joined_by cell) (joined_by (put cell x c)) offer offer' r (joined_same r)
      (λ j h. offers r (fresh_not_joined (cell r) j h))
      (λ j p h k. (joined_same p.0, offers p.0 (partner_open threads rows cell offer r j p l h k))) i)

  pub linked_plain : Linked threads rows (put cell x c) offer' marks
  linked_plain = record {
    inside = λ r h. ⊎_elim
        (λ (e : r ≡ x).
        let at : is_fresh c ≡ false = sym (ap is_fresh (ap (put cell x c) e ∙ put_same cell x c)) ∙ h in
        subst (λ (y : Row). (y.thread < threads) × (y.sync < rows)) (sym e) (turn at).inside)
        (λ (e : row_eq r x ≡ false). l.inside r (sym (ap is_fresh (put_other cell x c r e)) ∙ h))
        (row_cases r x);
    in_turn = λ thread sync h.
        let here : Row = record { thread = thread; sync = sync + 1 } in
        let prior : Row = record { thread = thread; sync = sync } in
        taken_stays prior (⊎_elim
        (λ (e : here ≡ x).
        let at : is_fresh c ≡ false = sym (ap is_fresh (ap (put cell x c) e ∙ put_same cell x c)) ∙ h in
        let t : x.thread ≡ thread = ap (λ (y : Row). y.thread) (sym e) in
        let had = (turn at).turn sync (ap (λ (y : Row). y.sync) (sym e)) in
        subst (λ (n : ℕ). is_taken (cell (record { thread = n; sync = sync })) ≡ true) t had)
        (λ (e : row_eq here x ≡ false). l.in_turn thread sync (sym (ap is_fresh (put_other cell x c here e)) ∙ h))
        (row_cases here x));
    alone = λ r j h k. plain_alone r j (sym (joined_same r) ∙ h) k;
    sides = λ r j p h k. plain_side r j p (sym (joined_same r) ∙ h) k;
    once = λ q r p h k. l.once q r p (ap (λ (o : Option Joined). names o p) (sym (joined_same q)) ∙ h) (ap (λ (o : Option Joined). names o p) (sym (joined_same r)) ∙ k);
    bounded = λ r j h. subst (λ (n : ℕ). j.stamp ≤ marks.opening + n) (sym plain_count) (l.bounded r j (sym (joined_same r) ∙ h));
    lived = λ r h. ⊎_elim
        (λ (e : r ≡ x).
        let at : is_fresh c ≡ false = sym (ap is_fresh (ap (put cell x c) e ∙ put_same cell x c)) ∙ h in
        subst (λ (y : Row). LivesAt (marks.course y.thread) y.sync) (sym e) (turn at).lives)
        (λ (e : row_eq r x ≡ false). l.lived r (sym (ap is_fresh (put_other cell x c r e)) ∙ h))
        (row_cases r x);
    ended = λ thread start sync h. taken_stays (record { thread = thread; sync = sync }) (l.ended thread start sync h);
    starts = λ thread. subst (λ (n : ℕ). start_of (marks.course thread) ≤ marks.opening + n) (sym plain_count) (l.starts thread);
    carried = l.carried;
    settled = l.settled;
  }

-- WHAT ONE ROW TELLS

pub none_told : (joined : Row → Option Joined) (offer : Row → ℕ → Option Offer) (r : Row) → joined r ≡ None → told_count joined offer r ≡ 0
unfolding told_at
none_told joined offer r e = ap (λ (v : Option Joined). length (option_to_list (told_by joined offer r v))) e

one_told : (joined : Row → Option Joined) (offer : Row → ℕ → Option Offer) (r : Row) (w : Joined) (c : Commit) → joined r ≡ Some w → tells joined (offer r w.own) w.partner ≡ true → commit_named offer r w ≡ Some c → told_count joined offer r ≡ 1
unfolding told_at
one_told joined offer r w c e t d =
    ap (λ (v : Option Joined). length (option_to_list (told_by joined offer r v))) e
    ∙ (λ x. length (option_to_list (cond (t x) (d x) None)))

left_told : (joined : Row → Option Joined) (offer : Row → ℕ → Option Offer) (r : Row) (w : Joined) → joined r ≡ Some w → tells joined (offer r w.own) w.partner ≡ false → told_count joined offer r ≡ 0
unfolding told_at
left_told joined offer r w e t =
    ap (λ (v : Option Joined). length (option_to_list (told_by joined offer r v))) e
    ∙ (λ x. length (option_to_list (cond (t x) (commit_named offer r w) None)))

or_true : (b : Bool) → (b || true) ≡ true
or_true true = refl
or_true false = refl

-- A ROW THAT IS COMMITTED

apart_rows : (r s : Row) → (r.thread ≡ s.thread → ⊥) → row_eq r s ≡ false
apart_rows r s h = row_ne r s (λ e. h (ap (λ (y : Row). y.thread) e))

-- no last stamp exceeds what went before by more than the number of commits
pub last_bounded : {marks : Marks} (threads rows : ℕ) (cell : Row → Cell) (offer : Row → ℕ → Option Offer) (r : Row) → Linked threads rows cell offer marks → last_stamp marks (joined_by cell) r ≤ marks.opening + length (commits_of (all_rows threads rows) (joined_by cell) offer)
last_bounded {marks} threads rows cell offer r l =
    let n : ℕ = marks.opening + length (commits_of (all_rows threads rows) (joined_by cell) offer) in
    let stamped : row_stamp (joined_of (cell (before r))) ≤ n =
    ⊎_elim
    (λ (e : joined_of (cell (before r)) ≡ None). let z : row_stamp (joined_of (cell (before r))) ≡ 0 = ap row_stamp e in omega arith)
    (λ (w : (j : Joined) × (joined_of (cell (before r)) ≡ Some j)).
    let z : row_stamp (joined_of (cell (before r))) ≡ w.0.stamp = ap row_stamp w.1 in
    let b : w.0.stamp ≤ n = l.bounded (before r) w.0 w.1 in
    omega arith)
    (cases_Option (joined_of (cell (before r)))) in
    ⊎_elim
    (λ (z : r.sync ≡ 0).
    let P : ℕ → Type 0 = λ k. cond (eqb k 0) (start_of (marks.course r.thread)) (row_stamp (joined_of (cell (before r)))) ≤ n in
    subst P (sym z) (l.starts r.thread))
    (λ (z : r.sync ≡ 0 → ⊥).
    let P : Bool → Type 0 = λ b. cond b (start_of (marks.course r.thread)) (row_stamp (joined_of (cell (before r)))) ≤ n in
    subst P (sym (Rattle.std.proofs.lemmas.Bool.ne_eqb r.sync 0 z)) stamped)
    (cases_eq r.sync 0)

-- a row that is neither joined nor Fresh is committed: rows stay inside and in turn, and a row alone stays so
module _ {marks : Marks} (threads rows : ℕ) (cell : Row → Cell) (offer : Row → ℕ → Option Offer) (x : Row) (j : Joined)
    (l : Linked threads rows cell offer marks)
    (not_joined : joined_of (cell x) ≡ None)
    (opened : is_fresh (cell x) ≡ false) where
  inside_kept : (r : Row) → is_fresh (put cell x (Synched j) r) ≡ false → (r.thread < threads) × (r.sync < rows)
  inside_kept r h = ⊎_elim
      (λ (e : r ≡ x). subst (λ (y : Row). (y.thread < threads) × (y.sync < rows)) (sym e) (l.inside x opened))
      (λ (e : row_eq r x ≡ false). l.inside r (sym (ap is_fresh (put_other cell x (Synched j) r e)) ∙ h))
      (row_cases r x)

  -- a row that is not joined was not taken, so what was taken stays so
  taken_kept : (prior : Row) → is_taken (cell prior) ≡ true → is_taken (put cell x (Synched j) prior) ≡ true
  taken_kept prior taken =
      let other : row_eq prior x ≡ false = row_ne prior x (λ e.
      false≢true (sym (ap (λ (o : Option Joined). is_some o) (ap (λ (y : Row). joined_of (cell y)) e ∙ not_joined)) ∙ taken_joined (cell prior) taken)) in
      ap is_taken (put_other cell x (Synched j) prior other) ∙ taken

  turn_kept : (thread sync : ℕ) → is_fresh (put cell x (Synched j) (record { thread = thread; sync = sync + 1 })) ≡ false → is_taken (put cell x (Synched j) (record { thread = thread; sync = sync })) ≡ true
  turn_kept thread sync h =
      let here : Row = record { thread = thread; sync = sync + 1 } in
      let prior : Row = record { thread = thread; sync = sync } in
      let was : is_fresh (cell here) ≡ false = ⊎_elim
      (λ (e : here ≡ x). ap (λ (y : Row). is_fresh (cell y)) e ∙ opened)
      (λ (e : row_eq here x ≡ false). sym (ap is_fresh (put_other cell x (Synched j) here e)) ∙ h)
      (row_cases here x) in
      taken_kept prior (l.in_turn thread sync was)

  lived_kept : (r : Row) → is_fresh (put cell x (Synched j) r) ≡ false → LivesAt (marks.course r.thread) r.sync
  lived_kept r h = ⊎_elim
      (λ (e : r ≡ x). subst (λ (y : Row). LivesAt (marks.course y.thread) y.sync) (sym e) (l.lived x opened))
      (λ (e : row_eq r x ≡ false). l.lived r (sym (ap is_fresh (put_other cell x (Synched j) r e)) ∙ h))
      (row_cases r x)

  ended_kept : (thread start sync : ℕ) → marks.course thread ≡ Ended start (sync + 1) → is_taken (put cell x (Synched j) (record { thread = thread; sync = sync })) ≡ true
  ended_kept thread start sync h = taken_kept (record { thread = thread; sync = sync }) (l.ended thread start sync h)

  last_after : (r : Row) → is_fresh (cell r) ≡ false → last_stamp marks (joined_by (put cell x (Synched j))) r ≡ last_stamp marks (joined_by cell) r
  last_after r f = last_kept threads rows cell offer x r (Synched j) l not_joined f

  -- what is joined stays so
  joined_stays : (r : Row) (w : Joined) → joined_of (cell r) ≡ Some w → joined_of (put cell x (Synched j) r) ≡ Some w
  joined_stays r w h = ⊎_elim
      (λ (e : r ≡ x). let bad : None ≡ Some w = sym not_joined ∙ ap (λ (y : Row). joined_of (cell y)) (sym e) ∙ h in cc)
      (λ (e : row_eq r x ≡ false). ap joined_of (put_other cell x (Synched j) r e) ∙ h)
      (row_cases r x)

  cause_after : (o : Option Offer) (s : ℕ) → cause_of (joined_by cell) offer marks o ≡ Some s → cause_of (joined_by (put cell x (Synched j))) offer marks o ≡ Some s
  cause_after = cause_kept (joined_by cell) (joined_by (put cell x (Synched j))) offer offer marks marks joined_stays (λ r w e. refl) (λ n b e. e) (λ n. refl) (λ p a b e. e) (ended_joined threads rows cell offer l)

  alone_kept : (r : Row) (w : Joined) → joined_of (cell r) ≡ Some w → w.partner ≡ None → IsAlone (put cell x (Synched j)) offer marks r w
  alone_kept r w h k =
      let old = l.alone r w h k in
      record {
        cause = old.cause;
        is = cause_after (offer r w.own) old.cause old.is;
        stamp = old.stamp ∙ ap (λ n. 1 + max n old.cause) (sym (last_after r (fresh_not_joined (cell r) w h)));
      }

-- how the row is joined then, and that every other is as before
same_way : (cell : Row → Cell) (x : Row) (j : Joined) (r : Row) (w : Joined) → r ≡ x → joined_of (put cell x (Synched j) r) ≡ Some w → j ≡ w
same_way cell x j r w e h =
    some_inj j w (sym (ap joined_of (put_same cell x (Synched j))) ∙ ap (λ (y : Row). joined_of (put cell x (Synched j) y)) (sym e) ∙ h)

was_joined : (cell : Row → Cell) (x : Row) (j : Joined) (r : Row) (w : Joined) → row_eq r x ≡ false → joined_of (put cell x (Synched j) r) ≡ Some w → joined_of (cell r) ≡ Some w
was_joined cell x j r w e h = sym (ap joined_of (put_other cell x (Synched j) r e)) ∙ h

-- A WAITING ROW, by a join or a grant: it names nobody whom another row names, and tells its commit
module _ {marks : Marks} (threads rows : ℕ) (cell : Row → Cell) (offer : Row → ℕ → Option Offer) (o : Row) (j : Joined) (commit : Commit)
    (l : Linked threads rows cell offer marks)
    (waits : cell o ≡ Waiting)
    (free : (q p : Row) → is_partner j.partner p ≡ true → names (joined_of (cell q)) p ≡ false)
    (named : commit_named offer o j ≡ Some commit)
    (told : tells (joined_by (put cell o (Synched j))) (offer o j.own) j.partner ≡ true)
    (low : j.stamp ≤ marks.opening + length (commits_of (all_rows threads rows) (joined_by cell) offer) + 1)
    (side : (p : Row × ℕ) → j.partner ≡ Some p → IsSideOf (put cell o (Synched j)) offer marks o j p)
    (alone : j.partner ≡ None → IsAlone (put cell o (Synched j)) offer marks o j) where
  not_joined : joined_of (cell o) ≡ None
  not_joined = ap joined_of waits

  opened : is_fresh (cell o) ≡ false
  opened = ap is_fresh waits

  nobody_names : (q : Row) → names (joined_of (cell q)) o ≡ false
  nobody_names = unnamed_idle threads rows cell offer o l (λ e. let bad : Waiting ≡ Claimed = sym waits ∙ e in cc) not_joined

  joined_now : joined_of (put cell o (Synched j) o) ≡ Some j
  joined_now = ap joined_of (put_same cell o (Synched j))

  named_other : (r p : Row) → names (joined_of (cell r)) p ≡ true → row_eq p o ≡ false
  named_other r p h = row_ne p o (λ e. false≢true (sym (nobody_names r) ∙ ap (names (joined_of (cell r))) (sym e) ∙ h))

  old_side : (r : Row) (w : Joined) (p : Row × ℕ) → joined_of (cell r) ≡ Some w → w.partner ≡ Some p → IsSideOf (put cell o (Synched j)) offer marks r w p
  old_side r w p h e =
      let old = l.sides r w p h e in
      let open_p : is_fresh (cell p.0) ≡ false = partner_open threads rows cell offer r w p l h e in
      let open_r : is_fresh (cell r) ≡ false = fresh_not_joined (cell r) w h in
      let stays : put cell o (Synched j) p.0 ≡ cell p.0 = put_other cell o (Synched j) p.0 (named_other r p.0 (names_from (joined_of (cell r)) w p h e)) in
      record {
        apart = old.apart;
        meets = old.meets;
        back = ⊎_elim
            (λ (c : cell p.0 ≡ Claimed). inl (stays ∙ c))
            (λ (c : joined_of (cell p.0) ≡ Some (mirrored r w p.1)). inr (ap joined_of stays ∙ c))
            old.back;
        stamp = old.stamp ∙ (λ i. 1 + max (sym (last_after threads rows cell offer o j l not_joined opened r open_r) i) (sym (last_after threads rows cell offer o j l not_joined opened p.0 open_p) i));
      }

  -- one commit more is told
  one_more : length (commits_of (all_rows threads rows) (joined_by (put cell o (Synched j))) offer) ≡ length (commits_of (all_rows threads rows) (joined_by cell) offer) + 1
  one_more =
      let rs : List Row = all_rows threads rows in
      let in_table = l.inside o opened in
      let f : Row → ℕ = told_count (joined_by cell) offer in
      let g : Row → ℕ = told_count (joined_by (put cell o (Synched j))) offer in
      let change : sum_by g rs + f o ≡ sum_by f rs + g o =
      sum_change f g o rs (once_all threads rows o in_table.0 in_table.1) (λ r e.
      ap (λ (c : Option Commit). length (option_to_list c))
      (told_same (joined_by cell) (joined_by (put cell o (Synched j))) offer offer r (ap joined_of (put_other cell o (Synched j) r e)) (λ w h. refl)
      (λ w p h c. (ap joined_of (put_other cell o (Synched j) p.0 (named_other r p.0 (names_from (joined_of (cell r)) w p h c))), refl)))) in
      let before_none : f o ≡ 0 = none_told (joined_by cell) offer o not_joined in
      let after_one : g o ≡ 1 = one_told (joined_by (put cell o (Synched j))) offer o j commit joined_now told named in
      let left = count_of_commits rs (joined_by (put cell o (Synched j))) offer in
      let right = count_of_commits rs (joined_by cell) offer in
      omega arith

  pub linked_synched : Linked threads rows (put cell o (Synched j)) offer marks
  linked_synched = record {
    inside = inside_kept threads rows cell offer o j l not_joined opened;
    in_turn = turn_kept threads rows cell offer o j l not_joined opened;
    alone = λ r w h c. ⊎_elim
        (λ (e : r ≡ o).
        let same : j ≡ w = same_way cell o j r w e h in
        subst (λ (z : Row × Joined). IsAlone (put cell o (Synched j)) offer marks z.0 z.1) (λ x. (sym e x, same x)) (alone (ap (λ (v : Joined). v.partner) same ∙ c)))
        (λ (e : row_eq r o ≡ false). alone_kept threads rows cell offer o j l not_joined opened r w (was_joined cell o j r w e h) c)
        (row_cases r o);
    sides = λ r w p h c. ⊎_elim
        (λ (e : r ≡ o).
        let same : j ≡ w = same_way cell o j r w e h in
        subst (λ (z : Row × Joined). IsSideOf (put cell o (Synched j)) offer marks z.0 z.1 p) (λ x. (sym e x, same x)) (side p (ap (λ (v : Joined). v.partner) same ∙ c)))
        (λ (e : row_eq r o ≡ false). old_side r w p (was_joined cell o j r w e h) c)
        (row_cases r o);
    once = λ q r p h c. both q r p h c (row_cases q o) (row_cases r o);
    bounded = λ r w h. ⊎_elim
        (λ (e : r ≡ o).
        let s : w.stamp ≡ j.stamp = ap (λ (v : Joined). v.stamp) (sym (same_way cell o j r w e h)) in
        let n = one_more in
        omega (arith, low))
        (λ (e : row_eq r o ≡ false).
        let b = l.bounded r w (was_joined cell o j r w e h) in
        let n = one_more in
        omega arith)
        (row_cases r o);
    lived = lived_kept threads rows cell offer o j l not_joined opened;
    ended = ended_kept threads rows cell offer o j l not_joined opened;
    starts = λ thread. let b = l.starts thread in let n = one_more in omega arith;
    carried = l.carried;
    settled = l.settled;
  }
    where
      was_named : (q p : Row) → names (joined_of (put cell o (Synched j) q)) p ≡ true → row_eq q o ≡ false → names (joined_of (cell q)) p ≡ true
      was_named q p h e = ap (λ (c : Cell). names (joined_of c) p) (sym (put_other cell o (Synched j) q e)) ∙ h

      names_partner : (q p : Row) → names (joined_of (put cell o (Synched j) q)) p ≡ true → q ≡ o → is_partner j.partner p ≡ true
      names_partner q p h e =
          sym (ap (λ (v : Option Joined). names v p) joined_now)
          ∙ ap (λ (y : Row). names (joined_of (put cell o (Synched j) y)) p) (sym e)
          ∙ h

      clash : (q p : Row) → is_partner j.partner p ≡ true → names (joined_of (cell q)) p ≡ true → ⊥
      clash q p e h = false≢true (sym (free q p e) ∙ h)

      both : (q r p : Row) → names (joined_of (put cell o (Synched j) q)) p ≡ true → names (joined_of (put cell o (Synched j) r)) p ≡ true → (q ≡ o) ⊎ (row_eq q o ≡ false) → (r ≡ o) ⊎ (row_eq r o ≡ false) → q ≡ r
      both q r p h c (inl e) (inl f) = e ∙ sym f
      both q r p h c (inl e) (inr f) = absurd (clash r p (names_partner q p h e) (was_named r p c f))
      both q r p h c (inr e) (inl f) = absurd (clash q p (names_partner r p c f) (was_named q p h e))
      both q r p h c (inr e) (inr f) = l.once q r p (was_named q p h e) (was_named r p c f)

-- THE JOIN

module _ {marks : Marks} (threads rows : ℕ) (cell : Row → Cell) (offer : Row → ℕ → Option Offer) (m : Row) (i : ℕ) (o : Row) (k : ℕ) (j : Joined)
    (l : Linked threads rows cell offer marks)
    (mine : cell m ≡ Claimed)
    (unnamed : (q : Row) → names (joined_of (cell q)) m ≡ false)
    (other : cell o ≡ Waiting)
    (apart : m.thread ≢ o.thread)
    (meets : offers_meet (offer m i) (offer o k) ≡ true)
    (way : j ≡ record { own = k; partner = Some (m, i); stamp = 1 + max (last_stamp marks (joined_by cell) m) (last_stamp marks (joined_by cell) o) }) where
  partner_is : j.partner ≡ Some (m, i)
  partner_is = ap (λ (w : Joined). w.partner) way

  mine_stays : put cell o (Synched j) m ≡ cell m
  mine_stays = put_other cell o (Synched j) m (apart_rows m o apart)

  last_join : (r : Row) → is_fresh (cell r) ≡ false → last_stamp marks (joined_by (put cell o (Synched j))) r ≡ last_stamp marks (joined_by cell) r
  last_join = last_after threads rows cell offer o j l (ap joined_of other) (ap is_fresh other)

  joined_side : IsSideOf (put cell o (Synched j)) offer marks o j (m, i)
  joined_side =
      let own : j.own ≡ k = ap (λ (w : Joined). w.own) way in
      record {
        apart = λ e. apart (sym e);
        meets = ap (λ (n : ℕ). offers_meet (offer o n) (offer m i)) own ∙ offers_swapped (offer m i) (offer o k) meets;
        back = inl (mine_stays ∙ mine);
        stamp =
            let s : j.stamp ≡ 1 + max (last_stamp marks (joined_by cell) m) (last_stamp marks (joined_by cell) o) = ap (λ (w : Joined). w.stamp) way in
            let a = last_join o (ap is_fresh other) in
            let b = last_join m (ap is_fresh mine) in
            s ∙ (λ x. 1 + max (sym b x) (sym a x)) ∙ swapped (last_stamp marks (joined_by (put cell o (Synched j))) m) (last_stamp marks (joined_by (put cell o (Synched j))) o);
      }
    where
      swapped : (a b : ℕ) → 1 + max a b ≡ 1 + max b a
      swapped a b = omega arith

  pub linked_join : Linked threads rows (put cell o (Synched j)) offer marks
  linked_join =
      let found = named_some offer o j (m, i) partner_is joined_side.meets in
      linked_synched threads rows cell offer o j found.0 l other
      (λ q p e. ap (names (joined_of (cell q))) (sym (row_eq-true m p (sym (ap (λ (v : Option (Row × ℕ)). is_partner v p) partner_is) ∙ e))) ∙ unnamed q)
      found.1
      (ap (tells (joined_by (put cell o (Synched j))) (offer o j.own)) partner_is ∙ ap (λ (v : Option Joined). is_send (offer o j.own) || is_none v) (ap joined_of (mine_stays ∙ mine)) ∙ or_true (is_send (offer o j.own)))
      (let s : j.stamp ≡ 1 + max (last_stamp marks (joined_by cell) m) (last_stamp marks (joined_by cell) o) = ap (λ (v : Joined). v.stamp) way in
      let a = last_bounded threads rows cell offer m l in
      let b = last_bounded threads rows cell offer o l in
      omega arith)
      (λ p e. subst (λ (z : Row × ℕ). IsSideOf (put cell o (Synched j)) offer marks o j z) (some_inj (m, i) p (sym partner_is ∙ e)) joined_side)
      (λ e. let bad : Some (m, i) ≡ None = sym partner_is ∙ e in cc)

-- THE GRANT

-- nor does a cause
pub cause_bounded : {marks : Marks} (threads rows : ℕ) (cell : Row → Cell) (offer : Row → ℕ → Option Offer) (o : Option Offer) (s : ℕ) → Linked threads rows cell offer marks → cause_of (joined_by cell) offer marks o ≡ Some s → s ≤ marks.opening + length (commits_of (all_rows threads rows) (joined_by cell) offer)
cause_bounded {marks} threads rows cell offer o s l h = ⊎_elim
    (λ (a : IsAlways o s). let z : s ≡ 0 = a.4 in omega arith)
    (⊎_elim
    (λ (n : IsOnEnabled (joined_by cell) offer marks o s). ⊎_elim
    (λ (e : IsEnabledByRow (joined_by cell) offer marks n.0 s).
    let b = l.bounded (bound_row n.0 e.enabled.binding) e.by e.enabled.is_joined in
    let z = e.stamp in
    omega arith)
    (λ (e : (1 ≤ s) × (marks.carried n.0 ≡ Some s)). let b = l.carried n.0 s e.1 in omega arith)
    n.4)
    (λ (e : IsOnEnded (joined_by cell) marks o s).
    let b = last_bounded threads rows cell offer (record { thread = e.0; sync = e.4.sync }) l in
    let z = e.4.stamp in
    omega arith))
    (cause_is (joined_by cell) offer marks o s h)

module _ {marks : Marks} (threads rows : ℕ) (cell : Row → Cell) (offer : Row → ℕ → Option Offer) (o : Row) (k : ℕ) (s : ℕ) (j : Joined)
    (l : Linked threads rows cell offer marks)
    (waits : cell o ≡ Waiting)
    (caused : cause_of (joined_by cell) offer marks (offer o k) ≡ Some s)
    (way : j ≡ record { own = k; partner = None; stamp = 1 + max (last_stamp marks (joined_by cell) o) s }) where
  own_is : j.own ≡ k
  own_is = ap (λ (w : Joined). w.own) way

  nobody : j.partner ≡ None
  nobody = ap (λ (w : Joined). w.partner) way

  stamp_is : j.stamp ≡ 1 + max (last_stamp marks (joined_by cell) o) s
  stamp_is = ap (λ (w : Joined). w.stamp) way

  chosen : cause_of (joined_by cell) offer marks (offer o j.own) ≡ Some s
  chosen = ap (λ n. cause_of (joined_by cell) offer marks (offer o n)) own_is ∙ caused

  pub linked_grant : Linked threads rows (put cell o (Synched j)) offer marks
  linked_grant =
      let found = named_alone offer o j nobody (cause_alone (joined_by cell) offer marks (offer o j.own) s chosen) in
      linked_synched threads rows cell offer o j found.0 l waits
      (λ q p e. absurd (false≢true (sym (ap (λ (v : Option (Row × ℕ)). is_partner v p) nobody) ∙ e)))
      found.1
      (ap (tells (joined_by (put cell o (Synched j))) (offer o j.own)) nobody)
      (let a = last_bounded threads rows cell offer o l in
      let b = cause_bounded threads rows cell offer (offer o j.own) s l chosen in
      omega (arith, stamp_is))
      (λ p e. let bad : None ≡ Some p = sym nobody ∙ e in cc)
      (λ e. record {
        cause = s;
        is = cause_after threads rows cell offer o j l (ap joined_of waits) (ap is_fresh waits) (offer o j.own) s chosen;
        stamp = stamp_is ∙ ap (λ n. 1 + max n s) (sym (last_after threads rows cell offer o j l (ap joined_of waits) (ap is_fresh waits) o (ap is_fresh waits)));
      })

-- A STEP THAT CHANGES THE MARKS: a bind, a start, a finish. What is bound stays so, what went before is as it was, an end stays,
-- the starts of opened rows stay, and rows, ends and starts are where they may be
module _ (marks marks' : Marks) (threads rows : ℕ) (cell : Row → Cell) (offer : Row → ℕ → Option Offer)
    (l : Linked threads rows cell offer marks)
    (binds : (n : NackName) (b : Binding) → marks.bound n ≡ Some b → marks'.bound n ≡ Some b)
    (settled : (n : NackName) (b : Binding) → marks'.bound n ≡ Some b → marks'.carried n ≡ None)
    (carries : (n : NackName) → marks'.carried n ≡ marks.carried n)
    (opening : marks'.opening ≡ marks.opening)
    (ends : (p start sync : ℕ) → marks.course p ≡ Ended start sync → marks'.course p ≡ Ended start sync)
    (opens : (r : Row) → is_fresh (cell r) ≡ false → start_of (marks'.course r.thread) ≡ start_of (marks.course r.thread))
    (lived : (r : Row) → is_fresh (cell r) ≡ false → LivesAt (marks'.course r.thread) r.sync)
    (ended : (thread start sync : ℕ) → marks'.course thread ≡ Ended start (sync + 1) → is_taken (cell (record { thread = thread; sync = sync })) ≡ true)
    (starts : (thread : ℕ) → start_of (marks'.course thread) ≤ marks.opening + length (commits_of (all_rows threads rows) (joined_by cell) offer)) where
  last_marks : (r : Row) → is_fresh (cell r) ≡ false → last_stamp marks (joined_by cell) r ≡ last_stamp marks' (joined_by cell) r
  last_marks r f = λ i. cond (eqb r.sync 0) (sym (opens r f) i) (row_stamp (joined_of (cell (before r))))

  pub linked_marks : Linked threads rows cell offer marks'
  linked_marks = record {
    inside = l.inside;
    in_turn = l.in_turn;
    alone = λ r j h e.
        let old = l.alone r j h e in
        record {
          cause = old.cause;
          is = cause_kept (joined_by cell) (joined_by cell) offer offer marks marks' (λ q w x. x) (λ q w x. refl) binds carries ends (ended_joined threads rows cell offer l) (offer r j.own) old.cause old.is;
          stamp = old.stamp ∙ ap (λ n. 1 + max n old.cause) (last_marks r (fresh_not_joined (cell r) j h));
        };
    sides = λ r j p h e.
        let old = l.sides r j p h e in
        record {
          apart = old.apart;
          meets = old.meets;
          back = old.back;
          stamp = old.stamp ∙ (λ i. 1 + max (last_marks r (fresh_not_joined (cell r) j h) i) (last_marks p.0 (partner_open threads rows cell offer r j p l h e) i));
        };
    once = l.once;
    bounded = λ r j h. let b = l.bounded r j h in omega (arith, opening);
    lived = lived;
    ended = ended;
    starts = λ thread. let b = starts thread in omega (arith, opening);
    carried = λ n stamp e. let b = l.carried n stamp (sym (carries n) ∙ e) in omega (arith, opening);
    settled = settled;
  }

-- THE SEAL

module _ {marks : Marks} (threads rows : ℕ) (cell : Row → Cell) (offer : Row → ℕ → Option Offer) (m o : Row) (j w : Joined) (i : ℕ)
    (l : Linked threads rows cell offer marks)
    (mine : cell m ≡ Claimed)
    (other : joined_of (cell o) ≡ Some j)
    (partner : j.partner ≡ Some (m, i))
    (way : w ≡ mirrored o j i) where
  side : IsSideOf cell offer marks o j (m, i)
  side = l.sides o j (m, i) other partner

  unjoined : joined_of (cell m) ≡ None
  unjoined = ap joined_of mine

  open_m : is_fresh (cell m) ≡ false
  open_m = ap is_fresh mine

  open_o : is_fresh (cell o) ≡ false
  open_o = fresh_not_joined (cell o) j other

  other_stays : put cell m (Synched w) o ≡ cell o
  other_stays = put_other cell m (Synched w) o (apart_rows o m side.apart)

  joined_m : joined_of (put cell m (Synched w) m) ≡ Some w
  joined_m = ap joined_of (put_same cell m (Synched w))

  partner_m : w.partner ≡ Some (o, j.own)
  partner_m = ap (λ (v : Joined). v.partner) way

  -- only o names m
  names_m : (r : Row) → names (joined_of (cell r)) m ≡ true → r ≡ o
  names_m r h = l.once r o m h (names_from (joined_of (cell o)) j (m, i) other partner)

  -- nobody named o before
  pub names_o : (r : Row) → names (joined_of (cell r)) o ≡ true → ⊥
  names_o r h =
      let n = naming (joined_of (cell r)) o h in
      let s = l.sides r n.way n.place n.is n.partner in
      let back = subst (λ (y : Row). (cell y ≡ Claimed) ⊎ (joined_of (cell y) ≡ Some (mirrored r n.way n.place.1))) n.row s.back in
      ⊎_elim
      (λ (e : cell o ≡ Claimed). let bad : None ≡ Some j = sym (ap joined_of e) ∙ other in cc)
      (λ (e : joined_of (cell o) ≡ Some (mirrored r n.way n.place.1)).
      let same : j ≡ mirrored r n.way n.place.1 = some_inj _ _ (sym other ∙ e) in
      let at : (m, i) ≡ (r, n.way.own) = some_inj (m, i) (r, n.way.own) (sym partner ∙ ap (λ (v : Joined). v.partner) same) in
      let is_m : m ≡ r = ap (λ (p : Row × ℕ). p.0) at in
      let bad : None ≡ Some n.way = sym unjoined ∙ ap (λ (y : Row). joined_of (cell y)) is_m ∙ n.is in
      cc)
      back

  last_stays : (r : Row) → is_fresh (cell r) ≡ false → last_stamp marks (joined_by (put cell m (Synched w))) r ≡ last_stamp marks (joined_by cell) r
  last_stays = last_after threads rows cell offer m w l unjoined open_m

  -- o, whose partner is joined now
  side_o : IsSideOf (put cell m (Synched w)) offer marks o j (m, i)
  side_o = record {
    apart = side.apart;
    meets = side.meets;
    back = inr (joined_m ∙ ap (λ (v : Joined). Some v) way);
    stamp = side.stamp ∙ (λ x. 1 + max (sym (last_stays o open_o) x) (sym (last_stays m open_m) x));
  }

  side_m : IsSideOf (put cell m (Synched w)) offer marks m w (o, j.own)
  side_m = record {
    apart = λ e. side.apart (sym e);
    meets = ap (λ (v : Joined). offers_meet (offer m v.own) (offer o j.own)) way ∙ offers_swapped (offer o j.own) (offer m i) side.meets;
    back = inr (ap joined_of other_stays ∙ other ∙ ap (λ (v : Joined). Some v) (λ x. record { own = j.own; partner = (partner ∙ ap (λ (v : Joined). Some (m, v.own)) (sym way)) x; stamp = (ap (λ (v : Joined). v.stamp) (sym way)) x }));
    stamp =
        let s : w.stamp ≡ j.stamp = ap (λ (v : Joined). v.stamp) way in
        let old : j.stamp ≡ 1 + max (last_stamp marks (joined_by cell) o) (last_stamp marks (joined_by cell) m) = side.stamp in
        let a = last_stays o open_o in
        let b = last_stays m open_m in
        s ∙ old ∙ (λ x. 1 + max (sym a x) (sym b x)) ∙ max_swapped (last_stamp marks (joined_by (put cell m (Synched w))) o) (last_stamp marks (joined_by (put cell m (Synched w))) m);
  }
    where
      max_swapped : (a b : ℕ) → 1 + max a b ≡ 1 + max b a
      max_swapped a b = omega arith

  -- a row other than o and m
  side_other : (r : Row) (v : Joined) (p : Row × ℕ) → (r ≡ o → ⊥) → joined_of (cell r) ≡ Some v → v.partner ≡ Some p → IsSideOf (put cell m (Synched w)) offer marks r v p
  side_other r v p n h e =
      let old = l.sides r v p h e in
      let open_p : is_fresh (cell p.0) ≡ false = partner_open threads rows cell offer r v p l h e in
      let open_r : is_fresh (cell r) ≡ false = fresh_not_joined (cell r) v h in
      let stays : put cell m (Synched w) p.0 ≡ cell p.0 =
      put_other cell m (Synched w) p.0 (row_ne p.0 m (λ c. n (names_m r (ap (names (joined_of (cell r))) (sym c) ∙ names_from (joined_of (cell r)) v p h e)))) in
      record {
        apart = old.apart;
        meets = old.meets;
        back = ⊎_elim
            (λ (c : cell p.0 ≡ Claimed). inl (stays ∙ c))
            (λ (c : joined_of (cell p.0) ≡ Some (mirrored r v p.1)). inr (ap joined_of stays ∙ c))
            old.back;
        stamp = old.stamp ∙ (λ x. 1 + max (sym (last_stays r open_r) x) (sym (last_stays p.0 open_p) x));
      }

  -- the seal tells the same number of commits
  seal_count : length (commits_of (all_rows threads rows) (joined_by (put cell m (Synched w))) offer) ≡ length (commits_of (all_rows threads rows) (joined_by cell) offer)
  seal_count =
      let rs : List Row = all_rows threads rows in
      let in_m = l.inside m open_m in
      let in_o = l.inside o open_o in
      let f : Row → ℕ = told_count (joined_by cell) offer in
      let g : Row → ℕ = told_count (joined_by (put cell m (Synched w))) offer in
      let change : sum_by g rs + (f m + f o) ≡ sum_by f rs + (g m + g o) =
      sum_change_two f g m o rs (once_all threads rows m in_m.0 in_m.1) (once_all threads rows o in_o.0 in_o.1) (apart_rows o m side.apart) (λ r e n.
      ap (λ (c : Option Commit). length (option_to_list c))
      (told_same (joined_by cell) (joined_by (put cell m (Synched w))) offer offer r (ap joined_of (put_other cell m (Synched w) r e)) (λ v h. refl)
      (λ v p h c. (ap joined_of (put_other cell m (Synched w) p.0 (row_ne p.0 m (λ z. row_eq-false r o n (names_m r (ap (names (joined_of (cell r))) (sym z) ∙ names_from (joined_of (cell r)) v p h c))))), refl)))) in
      let before_m : f m ≡ 0 = none_told (joined_by cell) offer m unjoined in
      let found_o = named_some offer o j (m, i) partner side.meets in
      let found_m = named_some offer m w (o, j.own) partner_m side_m.meets in
      let before_o : f o ≡ 1 = one_told (joined_by cell) offer o j found_o.0 other (ap (tells (joined_by cell) (offer o j.own)) partner ∙ ap (λ (v : Option Joined). is_send (offer o j.own) || is_none v) unjoined ∙ or_true (is_send (offer o j.own))) found_o.1 in
      let joined_o : joined_of (put cell m (Synched w) o) ≡ Some j = ap joined_of other_stays ∙ other in
      let sum : g m + g o ≡ 1 = ⊎_elim
      (λ (s : (is_send (offer o j.own) ≡ true) × (is_send (offer m w.own) ≡ false)).
      let at_o : g o ≡ 1 = one_told (joined_by (put cell m (Synched w))) offer o j found_o.0 joined_o (ap (tells (joined_by (put cell m (Synched w))) (offer o j.own)) partner ∙ ap (λ b. b || is_none (joined_of (put cell m (Synched w) m))) s.0) found_o.1 in
      let at_m : g m ≡ 0 = left_told (joined_by (put cell m (Synched w))) offer m w joined_m (ap (tells (joined_by (put cell m (Synched w))) (offer m w.own)) partner_m ∙ (λ x. s.1 x || is_none (joined_o x))) in
      omega arith)
      (λ (s : (is_send (offer o j.own) ≡ false) × (is_send (offer m w.own) ≡ true)).
      let at_m : g m ≡ 1 = one_told (joined_by (put cell m (Synched w))) offer m w found_m.0 joined_m (ap (tells (joined_by (put cell m (Synched w))) (offer m w.own)) partner_m ∙ ap (λ b. b || is_none (joined_of (put cell m (Synched w) o))) s.1) found_m.1 in
      let at_o : g o ≡ 0 = left_told (joined_by (put cell m (Synched w))) offer o j joined_o (ap (tells (joined_by (put cell m (Synched w))) (offer o j.own)) partner ∙ (λ x. s.0 x || is_none (joined_m x))) in
      omega arith)
      (one_offer_sends (offer o j.own) (offer m w.own) (ap (λ (v : Joined). offers_meet (offer o j.own) (offer m v.own)) way ∙ side.meets)) in
      let left = count_of_commits rs (joined_by (put cell m (Synched w))) offer in
      let right = count_of_commits rs (joined_by cell) offer in
      omega arith

  all_sides : (r : Row) (v : Joined) (p : Row × ℕ) → joined_of (put cell m (Synched w) r) ≡ Some v → v.partner ≡ Some p → (r ≡ m) ⊎ (row_eq r m ≡ false) → IsSideOf (put cell m (Synched w)) offer marks r v p
  all_sides r v p h c (inl e) =
      let same : w ≡ v = same_way cell m w r v e h in
      let at : (o, j.own) ≡ p = some_inj (o, j.own) p (sym partner_m ∙ ap (λ (u : Joined). u.partner) same ∙ c) in
      subst (λ (z : Row × Joined × (Row × ℕ)). IsSideOf (put cell m (Synched w)) offer marks z.0 z.1 z.2) (λ x. (sym e x, same x, at x)) side_m
  all_sides r v p h c (inr n) = ⊎_elim
      (λ (e : r ≡ o).
      let same : j ≡ v = some_inj j v (sym other ∙ ap (λ (y : Row). joined_of (cell y)) (sym e) ∙ was_joined cell m w r v n h) in
      let at : (m, i) ≡ p = some_inj (m, i) p (sym partner ∙ ap (λ (u : Joined). u.partner) same ∙ c) in
      subst (λ (z : Row × Joined × (Row × ℕ)). IsSideOf (put cell m (Synched w)) offer marks z.0 z.1 z.2) (λ x. (sym e x, same x, at x)) side_o)
      (λ (e : row_eq r o ≡ false). side_other r v p (row_eq-false r o e) (was_joined cell m w r v n h) c)
      (row_cases r o)

  pub linked_seal : Linked threads rows (put cell m (Synched w)) offer marks
  linked_seal = record {
    inside = inside_kept threads rows cell offer m w l unjoined open_m;
    in_turn = turn_kept threads rows cell offer m w l unjoined open_m;
    alone = λ r v h c. ⊎_elim
        (λ (e : r ≡ m). let bad : Some (o, j.own) ≡ None = sym partner_m ∙ ap (λ (u : Joined). u.partner) (same_way cell m w r v e h) ∙ c in cc)
        (λ (e : row_eq r m ≡ false). alone_kept threads rows cell offer m w l unjoined open_m r v (was_joined cell m w r v e h) c)
        (row_cases r m);
    sides = λ r v p h c. all_sides r v p h c (row_cases r m);
    once = λ q r p h c. both q r p h c (row_cases q m) (row_cases r m);
    bounded = λ r v h. ⊎_elim
        (λ (e : r ≡ m).
        let s : v.stamp ≡ j.stamp = ap (λ (u : Joined). u.stamp) (sym (same_way cell m w r v e h) ∙ way) in
        let b = l.bounded o j other in
        let n = seal_count in
        omega arith)
        (λ (e : row_eq r m ≡ false). let b = l.bounded r v (was_joined cell m w r v e h) in let n = seal_count in omega arith)
        (row_cases r m);
    lived = lived_kept threads rows cell offer m w l unjoined open_m;
    ended = ended_kept threads rows cell offer m w l unjoined open_m;
    starts = λ thread. let b = l.starts thread in let n = seal_count in omega arith;
    carried = l.carried;
    settled = l.settled;
  }
    where
      was_named : (q p : Row) → names (joined_of (put cell m (Synched w) q)) p ≡ true → row_eq q m ≡ false → names (joined_of (cell q)) p ≡ true
      was_named q p h e = ap (λ (c : Cell). names (joined_of c) p) (sym (put_other cell m (Synched w) q e)) ∙ h

      names_other : (q p : Row) → names (joined_of (put cell m (Synched w) q)) p ≡ true → q ≡ m → o ≡ p
      names_other q p h e =
          row_eq-true o p (
          sym (ap (λ (v : Option Joined). names v p) joined_m ∙ ap (λ (v : Option (Row × ℕ)). is_partner v p) partner_m)
          ∙ ap (λ (y : Row). names (joined_of (put cell m (Synched w) y)) p) (sym e)
          ∙ h)

      clash : (q p : Row) → o ≡ p → names (joined_of (cell q)) p ≡ true → ⊥
      clash q p e h = names_o q (ap (names (joined_of (cell q))) e ∙ h)

      both : (q r p : Row) → names (joined_of (put cell m (Synched w) q)) p ≡ true → names (joined_of (put cell m (Synched w) r)) p ≡ true → (q ≡ m) ⊎ (row_eq q m ≡ false) → (r ≡ m) ⊎ (row_eq r m ≡ false) → q ≡ r
      both q r p h c (inl e) (inl f) = e ∙ sym f
      both q r p h c (inl e) (inr f) = absurd (clash r p (names_other q p h e) (was_named r p c f))
      both q r p h c (inr e) (inl f) = absurd (clash q p (names_other r p c f) (was_named q p h e))
      both q r p h c (inr e) (inr f) = l.once q r p (was_named q p h e) (was_named r p c f)
