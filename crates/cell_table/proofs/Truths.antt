-- What a pass has seen is true of the world, and so agrees with itself and with what it finds.
use Rattle.std.proofs.Common.{◌≡◌, ◌≢◌, ℕ, ◌+◌, ◌*◌, ◌-◌, ◌<◌, ◌≤◌, Bool, true, false, List, sym, refl, ap, ◌∙◌, subst, inl, inr, ◌⊎◌, ⊎_elim, arith, unwrap_or, Option, Some, None, eqb, cond, max, length, slice_get}
use Rattle.std.proofs.lemmas.Bool.{cases_Bool, lt-ltb, ne_eqb, true≢false}
use Rattle.protocol_values.specs.Words.{count_of, head_of, offer_of, is_word_for}
use Rattle.protocol_values.specs.declared.Direction.{Direction}
use Rattle.protocol_values.specs.declared.Offer.{Offer}
use Rattle.protocol_values.specs.declared.NackName.{NackName}
use Rattle.protocol_values.specs.declared.Row.{Row}
use Rattle.protocol_values.specs.declared.Joined.{Joined}
use Rattle.protocol_values.specs.declared.Cell.{Cell}
use Rattle.protocol_ledger.specs.Tables.{Table, course_at, marks_at, start_of, is_fresh, cell_at, joined_at, offers_meet, offer_at, count_at, row_stamp, last_stamp, word_at, stands_alone, is_nack, bound_row, carried_at, carried_by, encloses, nack_by, cause_by, cause_of, cause_at, end_by, end_via, is_taken}
use Rattle.protocol_values.specs.Values.{joined_of}
use Rattle.protocol_values.specs.declared.Base.{Base}
use Rattle.protocol_values.specs.declared.Base.TheVariants.{Send, Recv, Always, OnNack, OnEnd, Never}
use Rattle.protocol_values.specs.declared.Cell.TheVariants.{Fresh}
use Rattle.protocol_values.specs.declared.Course.{Course}
use Rattle.protocol_values.specs.declared.Course.TheVariants.{Unstarted, Running, Ended}
use Rattle.protocol_ledger.specs.Short.{HasWords}
use Rattle.protocol_ledger.specs.Worlds.{World, joined_with, granted_by}
use Rattle.protocol_ledger.specs.Kept.{IsFormed, Kept, IsSideOf}
use Rattle.protocol_ledger.proofs.Readings.{count_open, row_of_open, offer_none, joined_ranged, nack_of_bound, binding_ranged, bound_uncarried, carried_is, says_outside}
use Rattle.protocol_ledger.proofs.Places.{nack_inside, row_inside}
use Rattle.protocol_ledger.proofs.Causes.{cause_alone, enabled_at_from}
use Rattle.protocol_ledger.proofs.Linking.{fresh_not_joined, some_inj, naming, partner_open, cases_Option}
use Rattle.protocol_ledger.proofs.Lawfulness.{chosen_there}
use Rattle.protocol_ledger.proofs.Keeping.{IsUnjoined, next_cause, next_last, taken_before, held_row, granted_is}
use Rattle.cell_table.specs.declared.view.View.{View}
use Rattle.cell_table.specs.declared.view.Seen.{Seen}
use Rattle.protocol_ledger.specs.declared.layout.Layout.{Layout}
use Rattle.cell_table.specs.Sight.{OpenHaveWords, Has, HaveDirection, HaveOffer, HasSeenLast, CanJoin, IsDraft, SawChosen, SeesNoOffer, SeesOffer, Coherent, next_stamp}
use Rattle.protocol_ledger.specs.Acting.{EndsAt}
use Rattle.cell_table.specs.Nacks.{CanGrant, SawCause, SawEnabled}
use Rattle.cell_table.specs.Views.{Knows, behind_last}
use Rattle.cell_table.specs.Told.{Agrees, AgreesWithItself}
use Rattle.cell_table.proofs.Courses.{ended_within, fresh_is, has_ended, has_started, one_end_of, opened_before, taken_below}
use Rattle.protocol_ledger.proofs.Acting.{start_is}
use Rattle.cell_table.proofs.Following.{place_behind, place_last}
use Rattle.cell_table.proofs.Directions.{GoesIn, offer_headed, offers_meet_as}
use Rattle.cell_table.proofs.Offers.{atom_place, few, same_read}

-- what was seen open, or read, has words
pub opened_words : (y : Layout) (s : Seen) (r : Row) → OpenHaveWords y s → Has s.opened r → HasWords y r
unfolding OpenHaveWords
opened_words y s r words h = words r (inl h)

pub read_words : (y : Layout) (s : Seen) (r : Row) (p x : ℕ) → OpenHaveWords y s → Has s.words (r, p, x) → HasWords y r
unfolding OpenHaveWords
read_words y s r p x words h = words r (inr (p, x, h))

-- WORDS OF AN OPEN ROW

count_there : (t : Table) (r : Row) (count : ℕ) → is_fresh (cell_at t r) ≡ false → word_at t r 1 ≡ count → count_at t r ≡ unwrap_or (count_of count) 0
count_there t r count open_r is = count_open t r open_r ∙ ap (λ (x : ℕ). unwrap_or (count_of x) 0) is

pub offer_there : (t : Table) (words : List (Row × ℕ × ℕ)) (r : Row) (n : ℕ) (o : Offer) → IsFormed t → ((p x : ℕ) → Has words (r, p, x) → word_at t r p ≡ x)
    → is_fresh (cell_at t r) ≡ false → HaveOffer words r n o → offer_at t r n ≡ Some o
unfolding offer_at
offer_there t words r n o formed there open_r h =
    let counted = count_there t r h.count open_r (there 1 h.count h.counted) in
    let low : n < 8 = few h.count n h.below in
    let row = row_of_open t r open_r in
    ap (λ (y : Bool). cond y (offer_of (word_at t r (2 + 4 * n)) (word_at t r (3 + 4 * n)) (word_at t r (4 + 4 * n)) (word_at t r (5 + 4 * n))) None) (lt-ltb n (count_at t r) (subst (λ (x : ℕ). n < x) (sym counted) h.below))
    ∙ same_read h.head h.first h.second h.third (word_at t r (2 + 4 * n)) (word_at t r (3 + 4 * n)) (word_at t r (4 + 4 * n)) (word_at t r (5 + 4 * n)) o h.is
    (sym (there (2 + 4 * n) h.head h.has_head)) (λ m. sym (there (3 + 4 * n) h.first (h.has_first m))) (λ m. sym (there (4 + 4 * n) h.second (h.has_second m))) (λ m. sym (there (5 + 4 * n) h.third (h.has_third m))) (
      sym (atom_place 1 n (word_at t r (3 + 4 * n)) (omega arith) (omega arith)) ∙ formed.rows r (3 + 4 * n) row (omega arith),
      sym (atom_place 2 n (word_at t r (4 + 4 * n)) (omega arith) (omega arith)) ∙ formed.rows r (4 + 4 * n) row (omega arith),
      sym (atom_place 3 n (word_at t r (5 + 4 * n)) (omega arith) (omega arith)) ∙ formed.rows r (5 + 4 * n) row (omega arith),
    )

-- the row has an offer in the direction of the head
direction_there : (t : Table) (words : List (Row × ℕ × ℕ)) (r : Row) (n : ℕ) (d : Direction) → IsFormed t → ((p x : ℕ) → Has words (r, p, x) → word_at t r p ≡ x)
    → is_fresh (cell_at t r) ≡ false → HaveDirection words r n d → (o : Offer) × (offer_at t r n ≡ Some o) × GoesIn d o
unfolding offer_at
direction_there t words r n d formed there open_r h =
    let counted = count_there t r h.count open_r (there 1 h.count h.counted) in
    let low : n < 8 = few h.count n h.below in
    let row = row_of_open t r open_r in
    let told = offer_headed (word_at t r (2 + 4 * n)) (word_at t r (3 + 4 * n)) (word_at t r (4 + 4 * n)) (word_at t r (5 + 4 * n)) (record { direction = d; scopes = h.scopes })
    (ap head_of (there (2 + 4 * n) h.head h.has_head) ∙ h.is)
    (sym (atom_place 1 n (word_at t r (3 + 4 * n)) (omega arith) (omega arith)) ∙ formed.rows r (3 + 4 * n) row (omega arith))
    (sym (atom_place 2 n (word_at t r (4 + 4 * n)) (omega arith) (omega arith)) ∙ formed.rows r (4 + 4 * n) row (omega arith))
    (sym (atom_place 3 n (word_at t r (5 + 4 * n)) (omega arith) (omega arith)) ∙ formed.rows r (5 + 4 * n) row (omega arith)) in (
      told.0,
      ap (λ (y : Bool). cond y (offer_of (word_at t r (2 + 4 * n)) (word_at t r (3 + 4 * n)) (word_at t r (4 + 4 * n)) (word_at t r (5 + 4 * n))) None) (lt-ltb n (count_at t r) (subst (λ (x : ℕ). n < x) (sym counted) h.below))
          ∙ told.1,
      told.2,
    )

-- an offer that is there stands below the number of offers
below_count : (t : Table) (r : Row) (n : ℕ) (o : Offer) → offer_at t r n ≡ Some o → n < count_at t r
below_count t r n o is = Rattle.std.proofs.Math.Nat.lt_of_not-le (λ h. let bad : None ≡ Some o = sym (offer_none t r n h) ∙ is in cc)

-- a carried nack is one of the table
pub nack_of_carried : (t : Table) (n : NackName) (stamp : ℕ) → carried_at t n ≡ Some stamp → is_nack t n ≡ true
nack_of_carried t n stamp h = ⊎_elim
    (λ (e : is_nack t n ≡ true). e)
    (λ (e : is_nack t n ≡ false). let bad : None ≡ Some stamp = sym (carried_is t n ∙ ap carried_by (says_outside t n e)) ∙ h in cc)
    (cases_Bool (is_nack t n))

pub meeting_other : (a b : Option Offer) → offers_meet a b ≡ true → (o : Offer) × (b ≡ Some o)
meeting_other None b h = absurd (true≢false (sym h))
meeting_other (Some a) None h = absurd (true≢false (sym h))
meeting_other (Some a) (Some o) h = (o, refl)

module _ {M : Type 0} where
  -- A PASS THAT KNOWS THE WORLD
  module _ (w : World) (owner : Row → ℕ) (id : ℕ) (v : View M) (k : Knows w owner id v) (kept : Kept w) where
    pub offer_known : (r : Row) (n : ℕ) (o : Offer) → HaveOffer v.seen.words r n o → offer_at w.table r n ≡ Some o
    offer_known r n o have = offer_there w.table v.seen.words r n o kept.formed (λ p x h. (k.read r p x h).3) (k.read r 1 have.count have.counted).0 have

    direction_known : (r : Row) (n : ℕ) (d : Direction) → HaveDirection v.seen.words r n d → (o : Offer) × (offer_at w.table r n ≡ Some o) × GoesIn d o
    direction_known r n d have = direction_there w.table v.seen.words r n d kept.formed (λ p x h. (k.read r p x h).3) (k.read r 1 have.count have.counted).0 have

    pub offers_known : (m : Row) (i : ℕ) (o : Row) (n : ℕ) (j : Joined) → CanJoin v.seen m i o n j → offers_meet (offer_at w.table m i) (offer_at w.table o n) ≡ true
    offers_known m i o n j can =
        let a = direction_known m i can.my_direction can.read_mine in
        let b = direction_known o n can.their_direction can.read_theirs in
        (λ x. offers_meet (a.1 x) (b.1 x))
        ∙ offers_meet_as can.my_direction can.their_direction a.0 b.0 a.2 b.2
        ∙ can.meet

    pub last_known : (r : Row) (stamp : ℕ) → HasSeenLast v.seen r stamp → last_stamp (marks_at w.table) (joined_at w.table) r ≡ stamp
    last_known r stamp (inl h) =
        ap (λ (n : ℕ). cond (eqb n 0) (start_of (course_at w.table r.thread)) (row_stamp (joined_at w.table (record { thread = r.thread; sync = n - 1 })))) h.0
        ∙ start_is (course_at w.table r.thread) stamp (k.started r.thread stamp h.1)
    last_known r stamp (inr h) =
        ap (λ (y : Bool). cond y (start_of (course_at w.table r.thread)) (row_stamp (joined_at w.table (record { thread = r.thread; sync = r.sync - 1 })))) (ne_eqb r.sync 0 h.1)
        ∙ ap row_stamp (k.joined (record { thread = r.thread; sync = r.sync - 1 }) h.0 h.2) ∙ sym h.3

    -- the stamp of a row that waits has room in its word
    next_is : (a b : ℕ) → a < 4294967295 → b < 4294967295 → 1 + max a b ≡ next_stamp a b
    next_is a b h i = omega arith

    pub joined_known : (m : Row) (i : ℕ) (o : Row) (n : ℕ) (j : Joined) → CanJoin v.seen m i o n j → IsUnjoined w o → joined_with w.table m i o n ≡ j
    unfolding joined_with
    joined_known m i o n j can free =
        let a = last_known m can.my_last can.seen_mine in
        let b = last_known o can.their_last can.seen_theirs in
        let low = subst (λ (s : ℕ). s < 4294967295) a (next_last w o m kept free) in
        let high = subst (λ (s : ℕ). s < 4294967295) b (next_last w o o kept free) in
        (λ x. record { own = n; partner = Some (m, i); stamp = 1 + max (a x) (b x) })
        ∙ (λ x. record { own = n; partner = Some (m, i); stamp = next_is can.my_last can.their_last low high x })
        ∙ sym can.is

    -- an offer that was seen, read or drafted
    pub chosen_known : (r : Row) (n : ℕ) (o : Offer) → SeesOffer v.seen r n o → offer_at w.table r n ≡ Some o
    chosen_known r n o (inl h) = offer_known r n o h
    chosen_known r n o (inr h) = offer_there w.table v.seen.drafts r n o kept.formed (λ p x d. (k.drafted r p x d).4) (k.opened r h.0) h.1

    enabled_known : (n : NackName) (j : Joined) → SawEnabled v.seen n j → nack_by (joined_at w.table) (offer_at w.table) (marks_at w.table) n ≡ Some j.stamp
    enabled_known n j e = enabled_at_from (joined_at w.table) (offer_at w.table) (marks_at w.table) n j.stamp (inl (record {
      by = j;
      uncarried = bound_uncarried w.table n e.binding (k.bound n e.binding e.bound);
      enabled = record {
        binding = e.binding;
        is_bound = k.bound n e.binding e.bound;
        is_joined = k.joined (bound_row n e.binding) j e.joined;
        outside = ap (encloses e.binding.scope) (chosen_known (bound_row n e.binding) j.own e.offer e.chosen) ∙ e.outside;
      };
      stamp = refl;
    }))

    end_known : (p g s : ℕ) → EndsAt (course_at w.table p) g → last_stamp (marks_at w.table) (joined_at w.table) (record { thread = p; sync = g }) ≡ s → end_by (marks_at w.table) (joined_at w.table) p ≡ Some s
    unfolding end_by
    end_known p g s at last = by (course_at w.table p) at
      where
        by : (c : Course) → EndsAt c g → end_via (marks_at w.table) (joined_at w.table) p c ≡ Some s
        by Unstarted h = absurd h
        by (Running start) h = absurd h
        by (Ended start sync) h = ap (λ (n : ℕ). Some (last_stamp (marks_at w.table) (joined_at w.table) (record { thread = p; sync = n }))) h ∙ ap (λ (n : ℕ). Some n) last

    cause_known : (b : Base) (s : ℕ) → SawCause v.seen b s → cause_by (joined_at w.table) (offer_at w.table) (marks_at w.table) b ≡ Some s
    cause_known (Send c m) s h = absurd h
    cause_known (Recv c) s h = absurd h
    cause_known (Always m) s h = ap (λ (x : ℕ). Some x) (sym h)
    cause_known (OnNack n) s (inl h) = enabled_known n h.0 h.1 ∙ ap (λ (x : ℕ). Some x) (sym h.2)
    cause_known (OnNack n) s (inr h) = enabled_at_from (joined_at w.table) (offer_at w.table) (marks_at w.table) n s (inr (h.1, k.carried n s h.0))
    cause_known (OnEnd p) s h = end_known p h.0 s (k.ended p h.0 h.1) (last_known (record { thread = p; sync = h.0 }) s h.2)
    cause_known Never s h = absurd h

    pub granted_known : (r : Row) (n : ℕ) (j : Joined) (can : CanGrant v.seen r n j) → IsUnjoined w r → (cause_at w.table r n ≡ Some can.cause) × (granted_by w.table r n ≡ j)
    granted_known r n j can free =
        let a = last_known r can.last can.seen_last in
        let has : cause_at w.table r n ≡ Some can.cause = ap (cause_of (joined_at w.table) (offer_at w.table) (marks_at w.table)) (offer_known r n can.offer can.read) ∙ cause_known can.offer.base can.cause can.caused in
        let low = subst (λ (s : ℕ). s < 4294967295) a (next_last w r r kept free) in
        let cause = next_cause w r (offer_at w.table r n) can.cause kept free has in (
          has,
          granted_is w.table r n can.cause has
              ∙ (λ x. record { own = n; partner = None; stamp = 1 + max (a x) can.cause })
              ∙ (λ x. record { own = n; partner = None; stamp = next_is can.last can.cause low cause x })
              ∙ sym can.is,
        )

    side : (r : Row) (j : Joined) (p : Row × ℕ) → Has v.seen.joined (r, j) → j.partner ≡ Some p → IsSideOf (cell_at w.table) (offer_at w.table) (marks_at w.table) r j p
    side r j p has e = kept.linked.sides r j p (k.joined r j has) e

    open_partner : (r : Row) (j : Joined) (p : Row × ℕ) → Has v.seen.joined (r, j) → j.partner ≡ Some p → is_fresh (cell_at w.table p.0) ≡ false
    open_partner r j p has e = partner_open w.table.threads w.table.rows (cell_at w.table) (offer_at w.table) r j p kept.linked (k.joined r j has) e

    -- a commit's offer is below the number of offers that was read
    chosen_below : (r : Row) (n count : ℕ) → SawChosen v.seen r n → Has v.seen.words (r, 1, count) → n < unwrap_or (count_of count) 0
    chosen_below r n count chose has =
        let read = k.read r 1 count has in
        subst (λ (x : ℕ). n < x) (count_there w.table r count read.0 read.3) (taken chose)
      where
        taken : SawChosen v.seen r n → n < count_at w.table r
        taken (inl c) = subst (λ (x : ℕ). x < count_at w.table r) c.2 (let o = chosen_there w.table.threads w.table.rows (cell_at w.table) (offer_at w.table) r c.0 kept.linked (k.joined r c.0 c.1) in below_count w.table r c.0.own o.0 o.1)
        taken (inr c) = let o = meeting_other _ _ (side c.0 c.1 (r, n) c.2 c.3).meets in below_count w.table r n o.0 o.1

    -- a row that is held is one of the table's
    bound_inside : (r : Row) → Rattle.protocol_ledger.specs.Worlds.holder_at w r ≢ None → Rattle.protocol_ledger.specs.Tables.is_row w.table r ≡ true
    bound_inside r held = ⊎_elim
        (λ (e : Rattle.protocol_ledger.specs.Worlds.holder_at w r ≡ None). absurd (held e))
        (λ (e : (seat : ℕ) × (Rattle.protocol_ledger.specs.Worlds.holder_at w r ≡ Some seat)). held_row w r e.0 e.1)
        (cases_Option (Rattle.protocol_ledger.specs.Worlds.holder_at w r))

    fresh_past : (r : Row) (g : ℕ) → EndsAt (course_at w.table r.thread) g → g ≤ r.sync → cell_at w.table r ≡ Fresh
    fresh_past r g e past = ⊎_elim
        (λ (f : is_fresh (cell_at w.table r) ≡ true). fresh_is (cell_at w.table r) f)
        (λ (o : is_fresh (cell_at w.table r) ≡ false). let before = opened_before w r g kept o e in absurd (omega (arith, past, before)))
        (cases_Bool (is_fresh (cell_at w.table r)))

    pub coherent : Coherent v.threads v.rows v.seen
    coherent = record {
      formed = λ r p x h. let a = k.read r p x h in ap (is_word_for p) (sym a.3) ∙ kept.formed.rows r p (row_of_open w.table r a.0) a.1;
      one_word = λ r p x y g h. sym (k.read r p x g).3 ∙ (k.read r p y h).3;
      one_draft = λ r p x y g h. sym (k.drafted r p x g).4 ∙ (k.drafted r p y h).4;
      as_drafted = λ r p x y g h. sym (k.drafted r p x g).4 ∙ (k.read r p y h).3;
      one_joined = λ r i j g h. some_inj i j (sym (k.joined r i g) ∙ k.joined r j h);
      in_range = λ r j h. joined_ranged w.table r j (k.joined r j h);
      alone = λ r j mine h e a.
          let was = kept.linked.alone r j (k.joined r j h) e in
          ap stands_alone (sym (offer_known r j.own mine a)) ∙ cause_alone (joined_at w.table) (offer_at w.table) (marks_at w.table) (offer_at w.table r j.own) was.cause was.is;
      inside = λ r j p h e.
          let i = kept.linked.inside p.0 (open_partner r j p h e) in
          subst (λ (z : ℕ × ℕ). (p.0.thread < z.0) × (p.0.sync < z.1)) (λ i. (sym k.threads i, sym k.rows i)) i;
      chosen = λ r n count c h. chosen_below r n count c h;
      meet = λ r j p mine theirs h e a b.
          let m = offer_known r j.own mine a in
          let t = offer_known p.0 p.1 theirs b in
          (λ x. offers_meet (sym m x) (sym t x)) ∙ (side r j p h e).meets;
      one_bound = λ n a b g h. some_inj a b (sym (k.bound n a g) ∙ k.bound n b h);
      one_carried = λ n a b g h. some_inj a b (sym (k.carried n a g) ∙ k.carried n b h);
      apart = λ n b stamp g h. let bad : None ≡ Some stamp = sym (bound_uncarried w.table n b (k.bound n b g)) ∙ k.carried n stamp h in cc;
      one_start = λ t a b g h. sym (start_is (course_at w.table t) a (k.started t a g)) ∙ start_is (course_at w.table t) b (k.started t b h);
      started = λ t s h.
          let low = has_started w.table t s (k.started t s h) in
          let threads : w.table.threads ≡ v.threads = sym k.threads in
          omega (arith, low, threads);
      one_end = λ t a b g h. one_end_of (course_at w.table t) a b (k.ended t a g) (k.ended t b h);
      ended = λ t g h.
          let low = has_ended w.table t g (k.ended t g h) in
          let threads : w.table.threads ≡ v.threads = sym k.threads in
          let rows : w.table.rows ≡ v.rows = sym k.rows in
          let within = ended_within w t g kept (k.ended t g h) in
          (omega (arith, low, threads), omega (arith, within, rows));
      bound = λ n b h.
          let e = k.bound n b h in
          let i = nack_inside w.table n (nack_of_bound w.table n b e) in
          let q = row_inside w.table (bound_row n b) (bound_inside (bound_row n b) (kept.bound n b e)) in
          let rows : w.table.rows ≡ v.rows = sym k.rows in
          let threads : w.table.threads ≡ v.threads = sym k.threads in
          (omega (arith, i.0), i.1, omega (arith, q.1), (binding_ranged w.table n b e).scope);
      carried = λ n stamp h.
          let e = k.carried n stamp h in
          let i = nack_inside w.table n (nack_of_carried w.table n stamp e) in
          let threads : w.table.threads ≡ v.threads = sym k.threads in
          (omega (arith, i.0), i.1);
    }

    pub with_itself : ((r : Row) → is_fresh (cell_at w.table r) ≡ false → HasWords v.layout r) → AgreesWithItself v
    unfolding OpenHaveWords
    with_itself words = (
      coherent,
      λ n stamp h. k.settled n stamp (k.carried n stamp h),
      λ r open_r. ⊎_elim (λ (h : Has v.seen.opened r). words r (k.opened r h)) (λ (h : (p : ℕ) × (x : ℕ) × Has v.seen.words (r, p, x)). words r (k.read r h.0 h.1 h.2).0) open_r,
    )

    -- what a pass has seen of a row agrees with the row's cell
    pub agrees : (r : Row) (c : Cell) → cell_at w.table r ≡ c → Agrees v r c
    agrees r c e = (
      record {
        opened = λ o. ap is_fresh (sym e) ∙ k.opened r o;
        fresh = λ h n. sym e ∙ k.fresh r h n;
        joined = λ j h. ap joined_of (sym e) ∙ k.joined r j h;
        taken = λ t. ap is_taken (sym e) ∙ k.taken r t;
        read = λ p x h. ap is_fresh (sym e) ∙ (k.read r p x h).0;
        named = λ q j h n.
            let a = naming (Some j) r n in
            let same = some_inj j a.way a.is in
            ap is_fresh (sym e) ∙ ap (λ (y : Row). is_fresh (cell_at w.table y)) (sym a.row) ∙ open_partner q j a.place h (ap (λ (y : Joined). y.partner) same ∙ a.partner);
        below_end = λ g h below. ap is_taken (sym e) ∙ taken_below w r g kept (k.ended r.thread g h) below;
        past_end = λ g h past. sym e ∙ fresh_past r g (k.ended r.thread g h) past;
        in_turn = λ q same below h. ap is_taken (sym e) ∙ taken_before w kept r q same below (⊎_elim
            (λ (o : Has v.seen.opened q). inl (k.opened q o))
            (λ (o : Has v.seen.held q). inr (v.seat, (k.mine q o).1))
            h);
      },
      (λ h claimed_now. k.calm r h (e ∙ claimed_now)),
      λ last below. ap is_taken (sym e) ∙ place_behind w r (behind_last w.table.rows r.thread) kept refl (let rows : v.rows ≡ w.table.rows = k.rows in omega (arith, below, rows)) (place_last w owner id v k r.thread last),
    )

  -- OFFERS THAT WERE SEEN are those of the table, and those that were seen to lack are not there
  pub sees_known : (w : World) (owner : Row → ℕ) (id : ℕ) (v : View M) (r : Row) (n : ℕ) (o : Offer) → Knows w owner id v → Kept w → SeesOffer v.seen r n o → offer_at w.table r n ≡ Some o
  sees_known w owner id v r n o k kept h = chosen_known w owner id v k kept r n o h

  pub lacks_known : (w : World) (owner : Row → ℕ) (id : ℕ) (v : View M) (r : Row) (n : ℕ) → Knows w owner id v → SeesNoOffer v.seen r n → offer_at w.table r n ≡ None
  lacks_known w owner id v r n k (inl (count, has, above)) =
      let a = k.read r 1 count has in
      offer_none w.table r n (subst (λ (m : ℕ). m ≤ n) (sym (count_there w.table r count a.0 a.3)) above)
  lacks_known w owner id v r n k (inr (opened, lack)) =
      offer_none w.table r n (subst (λ (m : ℕ). m ≤ n) (sym (count_there w.table r lack.0 (k.opened r opened) (k.drafted r 1 lack.0 lack.1).4)) lack.2)

pub few_counted : (count n : ℕ) → n < unwrap_or (count_of count) 0 → n < count
unfolding count_of
few_counted count n h = by_case (Rattle.std.proofs.Math.Dec.leb count 8) h
  where
    by_case : (b : Bool) → n < unwrap_or (cond b (Some count) None) 0 → n < count
    by_case true h = h
    by_case false h = absurd (omega arith)

module _ {M : Type 0} where
  -- A COMMITTED ROW CHOSE AMONG THE OFFERS THAT ITS PASS DRAFTED
  pub own_chose : (w : World) (owner : Row → ℕ) (id : ℕ) (v : View M) (r : Row) (j : Joined) (offers : List Offer) → Knows w owner id v → Kept w → IsDraft v.seen r offers → joined_at w.table r ≡ Some j
      → (j.own < length offers) × (offer_at w.table r j.own ≡ slice_get offers j.own)
  own_chose w owner id v r j offers k kept draft e =
      let o = chosen_there w.table.threads w.table.rows (cell_at w.table) (offer_at w.table) r j kept.linked e in
      let open_r = fresh_not_joined (cell_at w.table r) j e in
      let counted = count_there w.table r (length offers) open_r (k.drafted r 1 (length offers) draft.0).4 in
      let below = few_counted (length offers) j.own (subst (λ (n : ℕ). j.own < n) counted (below_count w.table r j.own o.0 o.1)) in
      let some = there (slice_get offers j.own) refl (Rattle.std.proofs.lemmas.Option.slice_get_cases offers j.own).1 below in
      (below, offer_there w.table v.seen.drafts r j.own some.0 kept.formed (λ p x h. (k.drafted r p x h).4) open_r (draft.1 j.own some.0 some.1) ∙ sym some.1)
    where
      there : (x : Option Offer) → slice_get offers j.own ≡ x → ((o : Offer) × (j.own < length offers) × (slice_get offers j.own ≡ Some o) × (Rattle.std.proofs.Common.get_or offers j.own o ≡ o)) ⊎ ((length offers ≤ j.own) × (slice_get offers j.own ≡ None))
          → j.own < length offers → (o : Offer) × (slice_get offers j.own ≡ Some o)
      there x e (inl h) below = (h.0, h.2)
      there x e (inr h) below = absurd (omega (arith, h.0))
