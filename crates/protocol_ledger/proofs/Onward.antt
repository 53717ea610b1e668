-- Whatever step is made, what is opened, committed and bound stays so.
use Rattle.std.proofs.Common.{◌⊎◌, ◌≡◌, ℕ, ◌<◌, true, false, List, [], ◌∷◌, Option, Some, None, is_some, sym, refl, ap, ◌∙◌, subst, arith, inl, inr, ⊎_elim}
use Rattle.std.proofs.lemmas.Bool.{cases_eq, true≢false}
use Rattle.protocol_values.specs.Words.{IsCellInRange, IsCourseInRange, cell_word}
use Rattle.protocol_values.specs.declared.Binding.{Binding}
use Rattle.protocol_values.specs.declared.Cell.{Cell}
use Rattle.protocol_values.specs.declared.Cell.TheVariants.{Fresh, Waiting, Claimed, Synched, Taken}
use Rattle.protocol_values.specs.declared.Commit.{Commit}
use Rattle.protocol_values.specs.declared.Course.{Course}
use Rattle.protocol_values.specs.declared.Course.TheVariants.{Unstarted, Running, Ended}
use Rattle.protocol_values.specs.declared.Joined.{Joined}
use Rattle.protocol_values.specs.declared.NackName.{NackName}
use Rattle.protocol_values.specs.declared.Offer.{Offer}
use Rattle.protocol_values.specs.declared.Row.{Row}
use Rattle.protocol_values.specs.declared.Seat.{Seat}
use Rattle.protocol_values.specs.declared.Step.{Step}
use Rattle.protocol_values.specs.declared.Step.TheVariants.{Draft, Open, Look, Read, Claim, Yield, Join, Seal, Grant, Take, Bind, Start, Finish}
use Rattle.protocol_ledger.specs.Growing.{CommitsStay, GoesOn, GrowsTo, TablesGrow}
use Rattle.protocol_ledger.specs.Kept.{Kept}
use Rattle.protocol_ledger.specs.Ledgers.{HasCommit, commit_by, commit_named, pair_by, ledger_of}
use Rattle.protocol_ledger.specs.Tables.{Table, course_at, last_stamp, marks_at, all_rows, binding_at, bound_row, cause_at, cell_at, is_fresh, is_row, is_taken, joined_at, offer_at, row_eq, synched_of}
use Rattle.protocol_values.specs.Values.{joined_of}
use Rattle.protocol_ledger.specs.Worlds.{Allowed, Condition, HasEnded, ended_at, with_course, Plays, World, after_step, granted_by, joined_with, mirrored, nack_of_row, namer_at, sealed_by, with_cell, with_nack, with_seal, with_take, with_word}
use Rattle.protocol_ledger.proofs.Keeping.{end_in_range, opening_lived, rows_lived, waits_unjoined, stamp_in_range, stands_inside, threads_lived, bind_in_range, grant_in_range, held_row, join_in_range, kept_schedule, kept_step, nack_of_thread, seal_in_range, sealed_is, sealing, synched_is}
use Rattle.protocol_ledger.proofs.LedgerLemmas.{kept_opening}
use Rattle.protocol_ledger.proofs.LedgerReadings.{commits_from_table, commits_in_table}
use Rattle.protocol_ledger.proofs.Linking.{fresh_not_joined, some_parts}
use Rattle.protocol_ledger.proofs.Naming.{namer_names}
use Rattle.protocol_ledger.proofs.Readings.{binding_after_life, carried_after_bind, carried_after_cell, carried_after_life, carried_after_word, cell_after_life, course_after_bind, course_after_word, course_lived, course_lived_other, offer_after_life, binding_after_cell, binding_after_word, binding_kept, binding_was, cell_after_bind, cell_after_cell, cell_after_word, joined_ranged, offer_after_bind, offer_after_cell, offer_after_draft, row_of_open}
use Rattle.protocol_ledger.proofs.RowLemmas.{put, put_other, put_same, row_cases}

goes-same : (c : Course) → GoesOn c c
goes-same Unstarted = tt
goes-same (Running start) = inl refl
goes-same (Ended start sync) = refl

goes-chain : (a b c : Course) → GoesOn a b → GoesOn b c → GoesOn a c
goes-chain Unstarted b c x y = tt
goes-chain (Running start) b c (inl x) y = subst (λ (z : Course). GoesOn z c) x y
goes-chain (Running start) b c (inr x) y = inr (x.0, subst (λ (z : Course). GoesOn z c) x.1 y)
goes-chain (Ended start sync) b c x y = subst (λ (z : Course). GoesOn z c) x y

goes-equal : (t u : Table) → course_at u ≡ course_at t → (p : ℕ) → GoesOn (course_at t p) (course_at u p)
goes-equal t u e p = subst (λ (f : ℕ → Course). GoesOn (course_at t p) (f p)) (sym e) (goes-same (course_at t p))

grows-same : (t : Table) → GrowsTo t t
grows-same t = record {
  threads = refl;
  rows = refl;
  opened = λ r h. h;
  offers = λ r n h. refl;
  joined = λ r j h. h;
  bound = λ n b h. h;
  unbound = λ n b h e. e;
  courses = λ p. goes-same (course_at t p);
  opening = refl;
  carried = λ n. refl;
}

grows-chain : (t u v : Table) → GrowsTo t u → GrowsTo u v → GrowsTo t v
grows-chain t u v one two = record {
  threads = two.threads ∙ one.threads;
  rows = two.rows ∙ one.rows;
  opened = λ r h. two.opened r (one.opened r h);
  offers = λ r n h. two.offers r n (one.opened r h) ∙ one.offers r n h;
  joined = λ r j h. two.joined r j (one.joined r j h);
  bound = λ n b h. two.bound n b (one.bound n b h);
  unbound = λ n b h e. one.unbound n b h (two.unbound n b (one.opened (bound_row n b) h) e);
  courses = λ p. goes-chain (course_at t p) (course_at u p) (course_at v p) (one.courses p) (two.courses p);
  opening = two.opening ∙ one.opening;
  carried = λ n. two.carried n ∙ one.carried n;
}

-- the cell of a row is written, which was joined in the same way or not at all
module _ (w : World) (x : Row) (c : Cell) (k : Kept w) (row : is_row w.table x ≡ true) (range : IsCellInRange c) (open_c : is_fresh c ≡ false)
    (was : (j : Joined) → joined_at w.table x ≡ Some j → joined_of c ≡ Some j) where
  cells : cell_at (with_cell w.table x c) ≡ put (cell_at w.table) x c
  cells = cell_after_cell w.table x c k.sized row range

  at_x : (r : Row) → r ≡ x → cell_at (with_cell w.table x c) r ≡ c
  at_x r e = ap (λ (f : Row → Cell). f r) cells ∙ ap (put (cell_at w.table) x c) e ∙ put_same (cell_at w.table) x c

  elsewhere : (r : Row) → row_eq r x ≡ false → cell_at (with_cell w.table x c) r ≡ cell_at w.table r
  elsewhere r e = ap (λ (f : Row → Cell). f r) cells ∙ put_other (cell_at w.table) x c r e

  opened-cell : (r : Row) → is_fresh (cell_at w.table r) ≡ false → is_fresh (cell_at (with_cell w.table x c) r) ≡ false
  opened-cell r h = ⊎_elim
      (λ (e : r ≡ x). ap is_fresh (at_x r e) ∙ open_c)
      (λ (e : row_eq r x ≡ false). ap is_fresh (elsewhere r e) ∙ h)
      (row_cases r x)

  grows-cell : GrowsTo w.table (with_cell w.table x c)
  unfolding with_cell
  grows-cell = record {
    threads = refl;
    rows = refl;
    opened = opened-cell;
    offers = λ r n h. offer_after_cell w.table x r n c row (opened-cell r h ∙ sym h);
    joined = λ r j h. ⊎_elim
        (λ (e : r ≡ x). ap joined_of (at_x r e) ∙ was j (ap (joined_at w.table) (sym e) ∙ h))
        (λ (e : row_eq r x ≡ false). ap joined_of (elsewhere r e) ∙ h)
        (row_cases r x);
    bound = λ n b e. ap (λ (f : NackName → Option Binding). f n) (binding_after_cell w.table x c row) ∙ e;
    unbound = λ n b h e. ap (λ (f : NackName → Option Binding). f n) (sym (binding_after_cell w.table x c row)) ∙ e;
    courses = goes-equal w.table (with_cell w.table x c) (course_after_word w.table x 0 (cell_word c) row (omega arith));
    opening = refl;
    carried = λ n. ap (λ (f : NackName → Option ℕ). f n) (carried_after_cell w.table x c row);
  }

-- a row that was not joined
grows-unjoined : (w : World) (x : Row) (c : Cell) → Kept w → is_row w.table x ≡ true → IsCellInRange c → is_fresh c ≡ false → joined_of (cell_at w.table x) ≡ None → GrowsTo w.table (with_cell w.table x c)
grows-unjoined w x c k row range open_c none = grows-cell w x c k row range open_c (λ j e. let bad : None ≡ Some j = sym none ∙ e in cc)

grows-draft : (w : World) (x : Row) (p v seat : ℕ) → Kept w → Condition w (record { 0 = seat }) (Draft x p v) → GrowsTo w.table (with_word w.table x p v)
grows-draft w x p v seat k (h, f, alive, a, b, g) =
    let row = held_row w x seat h in
    let below : p < 34 = omega arith in
    record {
      threads = refl;
      rows = refl;
      opened = λ r e. ap is_fresh (cell_after_word w.table x r p v row a below) ∙ e;
      offers = λ r n e. offer_after_draft w.table x r n p v row a below (ap is_fresh f);
      joined = λ r j e. ap joined_of (cell_after_word w.table x r p v row a below) ∙ e;
      bound = λ n c e. ap (λ (q : NackName → Option Binding). q n) (binding_after_word w.table x p v row below) ∙ e;
      unbound = λ n c h e. ap (λ (q : NackName → Option Binding). q n) (sym (binding_after_word w.table x p v row below)) ∙ e;
      courses = goes-equal w.table (with_word w.table x p v) (course_after_word w.table x p v row below);
      opening = refl;
      carried = λ n. ap (λ (f : NackName → Option ℕ). f n) (carried_after_word w.table x p v row below);
    }

grows-bind : (w : World) (x : Row) (k scope seat : ℕ) → Kept w → Condition w (record { 0 = seat }) (Bind k x scope) → GrowsTo w.table (with_nack w.table (nack_of_row x k) (record { sync = x.sync; scope = scope }))
unfolding with_nack
grows-bind w x k scope seat kept (h, f, alive, b, c, free) =
    let row = held_row w x seat h in
    let m : NackName = nack_of_row x k in
    let bound : Binding = record { sync = x.sync; scope = scope } in
    let nack = nack_of_thread w.table x k row b in
    let range = bind_in_range w x scope kept row c in
    record {
      threads = refl;
      rows = refl;
      opened = λ r e. ap is_fresh (cell_after_bind w.table m bound r nack) ∙ e;
      offers = λ r n e. offer_after_bind w.table m bound r n nack;
      joined = λ r j e. ap joined_of (cell_after_bind w.table m bound r nack) ∙ e;
      bound = binding_kept w.table m bound nack free;
      -- the row to which it is bound is Fresh
      unbound = λ n d open_row e. ⊎_elim
          (λ (old : binding_at w.table n ≡ Some d). old)
          (λ (new : (m ≡ n) × (bound ≡ d)).
          let here : bound_row n d ≡ x = λ i. bound_row (sym new.0 i) (sym new.1 i) in
          absurd (true≢false (sym (ap is_fresh f) ∙ ap (λ (y : Row). is_fresh (cell_at w.table y)) (sym here) ∙ open_row)))
          (binding_was w.table m bound kept.sized nack range n d e);
      courses = goes-equal w.table (with_nack w.table m bound) (course_after_bind w.table m bound nack);
      opening = refl;
      carried = λ n. ap (λ (f : NackName → Option ℕ). f n) (carried_after_bind w.table m bound kept.sized nack range free);
    }

-- a life is written: a start, or an end
grows-life : (w : World) (p : ℕ) (c : Course) → Kept w → p < w.table.threads → IsCourseInRange c → GoesOn (course_at w.table p) c → GrowsTo w.table (with_course w.table p c)
grows-life w p c k below range goes = record {
  threads = threads_lived w.table p c;
  rows = rows_lived w.table p c;
  opened = λ r h. ap is_fresh (cell_after_life w.table p c r) ∙ h;
  offers = λ r n h. offer_after_life w.table p c r n;
  joined = λ r j h. ap joined_of (cell_after_life w.table p c r) ∙ h;
  bound = λ n b h. ap (λ (f : NackName → Option Binding). f n) (binding_after_life w.table p c) ∙ h;
  unbound = λ n b h e. ap (λ (f : NackName → Option Binding). f n) (sym (binding_after_life w.table p c)) ∙ e;
  courses = λ q. ⊎_elim
      (λ (same : q ≡ p). subst (λ (n : ℕ). GoesOn (course_at w.table n) (course_at (with_course w.table p c) n)) (sym same) (subst (GoesOn (course_at w.table p)) (sym (course_lived w.table p c k.sized below range)) goes))
      (λ (other : q ≡ p → ⊥). subst (GoesOn (course_at w.table q)) (sym (course_lived_other w.table p q c other)) (goes-same (course_at w.table q)))
      (cases_eq q p);
  opening = opening_lived w.table p c;
  carried = λ n. ap (λ (f : NackName → Option ℕ). f n) (carried_after_life w.table p c);
}

goes-start : (c d : Course) → c ≡ Unstarted → GoesOn c d
goes-start c d e = subst (λ (x : Course). GoesOn x d) (sym e) tt

goes-end : (c : Course) (sync : ℕ) → (HasEnded c → ⊥) → GoesOn c (ended_at c sync)
goes-end Unstarted sync alive = tt
goes-end (Running start) sync alive = inr (sync, refl)
goes-end (Ended start g) sync alive = absurd (alive tt)

grows-seal : (w : World) (x : Row) → Kept w → cell_at w.table x ≡ Claimed → is_some (namer_at w x) ≡ true → GrowsTo w.table (with_seal w.table x (sealed_by w.table (namer_at w x)))
grows-seal w x k f h =
    let q = some_parts (namer_at w x) h in
    let s = sealing w.table x q.0 (namer_names (all_rows w.table.threads w.table.rows) (joined_at w.table) x q.0 q.1) in
    subst (λ (o : Option Joined). GrowsTo w.table (with_seal w.table x o)) (sym (sealed_is w.table x q.0 (namer_at w x) s q.1))
    (grows-unjoined w x (Synched (mirrored q.0 s.way s.offer)) k (row_of_open w.table x (ap is_fresh f)) (seal_in_range w x q.0 s k) refl (ap joined_of f))

grows-take : (w : World) (x : Row) → Kept w → is_some (synched_of (cell_at w.table x)) ≡ true → GrowsTo w.table (with_take w.table x (synched_of (cell_at w.table x)))
grows-take w x k h =
    let j = some_parts (synched_of (cell_at w.table x)) h in
    let is = synched_is (cell_at w.table x) j.0 j.1 in
    subst (λ (o : Option Joined). GrowsTo w.table (with_take w.table x o)) (sym j.1)
    (grows-cell w x (Taken j.0) k (row_of_open w.table x (ap is_fresh is)) (joined_ranged w.table x j.0 (ap joined_of is)) refl (λ i e. sym (ap joined_of is) ∙ e))

grows-condition : (w : World) (seat : Seat) (step : Step) → Kept w → Condition w seat step → GrowsTo w.table (after_step w seat step).table
grows-condition w seat (Draft row place value) k a = grows-draft w row place value seat.0 k a
grows-condition w seat (Open row) k a = grows-unjoined w row Waiting k (held_row w row seat.0 a.0) tt refl (ap joined_of a.1)
grows-condition w seat (Look row) k a = grows-same w.table
grows-condition w seat (Read row place) k a = grows-same w.table
grows-condition w seat (Claim row) k a = grows-unjoined w row Claimed k (held_row w row seat.0 a.0) tt refl (ap joined_of a.1)
grows-condition w seat (Yield row) k a = grows-unjoined w row Waiting k (held_row w row seat.0 a.0) tt refl (ap joined_of a.1)
grows-condition w seat (Join mine own other partner) k a =
    grows-unjoined w other (Synched (joined_with w.table mine own other partner)) k (row_of_open w.table other (ap is_fresh a.3))
    (join_in_range w mine own other partner k (waits_unjoined w other a.3) (held_row w mine seat.0 a.0) a.5) refl (ap joined_of a.3)
grows-condition w seat (Seal row) k a = grows-seal w row k a.1 a.2
grows-condition w seat (Grant row n) k a =
    let s = some_parts (cause_at w.table row n) a.1 in
    grows-unjoined w row (Synched (granted_by w.table row n)) k (row_of_open w.table row (ap is_fresh a.0)) (grant_in_range w row n s.0 k (waits_unjoined w row a.0) s.1) refl (ap joined_of a.0)
grows-condition w seat (Take row) k a = grows-take w row k a
grows-condition w seat (Bind n row scope) k a = grows-bind w row n scope seat.0 k a
grows-condition w seat (Start row thread) k a =
    grows-life w thread (Running (last_stamp (marks_at w.table) (joined_at w.table) row)) k a.2 (stamp_in_range w row k) (goes-start _ _ a.4)
grows-condition w seat (Finish row) k a =
    grows-life w row.thread (ended_at (course_at w.table row.thread) row.sync) k (stands_inside w seat row a.0).0 (end_in_range w seat row k a.0) (goes-end (course_at w.table row.thread) row.sync a.1)

-- A STEP, and any schedule
pub grows-step : (w : World) (seat : Seat) (step : Step) → Kept w → Allowed w seat step → GrowsTo w.table (after_step w seat step).table
grows-step w seat step k a = grows-condition w seat step k a.1

pub grows-schedule : (w v : World) (steps : List (Seat × Step)) → Kept w → Plays w steps v → GrowsTo w.table v.table
grows-schedule w v [] k p = subst (λ (z : World). GrowsTo w.table z.table) (sym p) (grows-same w.table)
grows-schedule w v (s ∷ ss) k p =
    grows-chain w.table (after_step w s.0 s.1).table v.table (grows-step w s.0 s.1 k p.0) (grows-schedule (after_step w s.0 s.1) v ss (kept_step w s.0 s.1 k p.0) p.1)

pub tables-grow : TablesGrow
tables-grow o rows seats steps more b w v opens few begins before after =
    grows-schedule w v more (kept_schedule b w steps (kept_opening o rows seats b opens few begins) before) after

-- COMMITS STAY
same-commit : (f g : Row → ℕ → Option Offer) (r : Row) (j : Joined) (o : Option (Row × ℕ)) (own : Option Offer) → ((p : Row × ℕ) → o ≡ Some p → g p.0 p.1 ≡ f p.0 p.1) → commit_by g r j o own ≡ commit_by f r j o own
same-commit f g r j o None h = refl
same-commit f g r j None (Some own) h = refl
same-commit f g r j (Some p) (Some own) h = ap (pair_by r j p own.base) (h p refl)

named-stays : (w : World) (u : Table) (r : Row) (j : Joined) (c : Commit) → Kept w → GrowsTo w.table u → joined_at w.table r ≡ Some j → commit_named (offer_at w.table) r j ≡ Some c → commit_named (offer_at u) r j ≡ Some c
unfolding commit_named
named-stays w u r j c k g is named =
    let open_r : is_fresh (cell_at w.table r) ≡ false = fresh_not_joined (cell_at w.table r) j is in
    ap (commit_by (offer_at u) r j j.partner) (g.offers r j.own open_r)
    ∙ same-commit (offer_at w.table) (offer_at u) r j j.partner (offer_at w.table r j.own) (λ p e. g.offers p.0 p.1 (open-partner p (k.linked.sides r j p is e).back))
    ∙ named
  where
    open-partner : (p : Row × ℕ) → (cell_at w.table p.0 ≡ Claimed) ⊎ (joined_of (cell_at w.table p.0) ≡ Some (mirrored r j p.1)) → is_fresh (cell_at w.table p.0) ≡ false
    open-partner p h = ⊎_elim
        (λ (e : cell_at w.table p.0 ≡ Claimed). ap is_fresh e)
        (λ (e : joined_of (cell_at w.table p.0) ≡ Some (mirrored r j p.1)). fresh_not_joined (cell_at w.table p.0) (mirrored r j p.1) e)
        h

pub commit-stays : (w : World) (u : Table) (c : Commit) → Kept w → GrowsTo w.table u → HasCommit (ledger_of w.table) c → HasCommit (ledger_of u) c
commit-stays w u c k g h =
    let in_w = commits_from_table w.table c h in
    commits_in_table u c (record {
      row = in_w.row;
      way = in_w.way;
      is_joined = g.joined in_w.row in_w.way in_w.is_joined;
      is_named = named-stays w u in_w.row in_w.way c k g in_w.is_joined in_w.is_named;
    })

pub commits-stay : CommitsStay
commits-stay o rows seats steps more b w v c opens few begins before after h =
    let k = kept_schedule b w steps (kept_opening o rows seats b opens few begins) before in
    commit-stays w v.table c k (grows-schedule w v more k after) h

-- ONLY AN OPEN OPENS
abbrev WasOpen : World → Row → Type 0
WasOpen w r = is_fresh (cell_at w.table r) ≡ false

cell-opens : (w : World) (x : Row) (c : Cell) → Kept w → is_row w.table x ≡ true → IsCellInRange c → (r : Row) → is_fresh (cell_at (with_cell w.table x c) r) ≡ false → WasOpen w r ⊎ (x ≡ r)
cell-opens w x c k row range r h = ⊎_elim
    (λ (e : r ≡ x). inr (sym e))
    (λ (e : row_eq r x ≡ false). inl (ap is_fresh (sym (put_other (cell_at w.table) x c r e)) ∙ ap (λ (f : Row → Cell). is_fresh (f r)) (sym (cell_after_cell w.table x c k.sized row range)) ∙ h))
    (row_cases r x)

-- where the row was opened before
cell-reopens : (w : World) (x : Row) (c : Cell) → Kept w → IsCellInRange c → WasOpen w x → (r : Row) → is_fresh (cell_at (with_cell w.table x c) r) ≡ false → WasOpen w r
cell-reopens w x c k range was r h = ⊎_elim
    (λ (old : WasOpen w r). old)
    (λ (e : x ≡ r). subst (WasOpen w) e was)
    (cell-opens w x c k (row_of_open w.table x was) range r h)

seal-opens : (w : World) (x : Row) → Kept w → cell_at w.table x ≡ Claimed → is_some (namer_at w x) ≡ true → (r : Row) → is_fresh (cell_at (with_seal w.table x (sealed_by w.table (namer_at w x))) r) ≡ false → WasOpen w r
seal-opens w x k f h r =
    let q = some_parts (namer_at w x) h in
    let s = sealing w.table x q.0 (namer_names (all_rows w.table.threads w.table.rows) (joined_at w.table) x q.0 q.1) in
    subst (λ (o : Option Joined). is_fresh (cell_at (with_seal w.table x o) r) ≡ false → WasOpen w r) (sym (sealed_is w.table x q.0 (namer_at w x) s q.1))
    (cell-reopens w x (Synched (mirrored q.0 s.way s.offer)) k (seal_in_range w x q.0 s k) (ap is_fresh f) r)

take-opens : (w : World) (x : Row) → Kept w → is_some (synched_of (cell_at w.table x)) ≡ true → (r : Row) → is_fresh (cell_at (with_take w.table x (synched_of (cell_at w.table x))) r) ≡ false → WasOpen w r
take-opens w x k h r =
    let j = some_parts (synched_of (cell_at w.table x)) h in
    let is = synched_is (cell_at w.table x) j.0 j.1 in
    subst (λ (o : Option Joined). is_fresh (cell_at (with_take w.table x o) r) ≡ false → WasOpen w r) (sym j.1)
    (cell-reopens w x (Taken j.0) k (joined_ranged w.table x j.0 (ap joined_of is)) (ap is_fresh is) r)

opens-condition : (w : World) (seat : Seat) (step : Step) → Kept w → Condition w seat step → (r : Row) → is_fresh (cell_at (after_step w seat step).table r) ≡ false → WasOpen w r ⊎ (step ≡ Open r)
opens-condition w seat (Draft x p v) k (held, f, alive, a, b, g) r h = inl (ap is_fresh (sym (cell_after_word w.table x r p v (held_row w x seat.0 held) a (omega arith))) ∙ h)
opens-condition w seat (Open x) k a r h = ⊎_elim
    (λ (old : WasOpen w r). inl old)
    (λ (e : x ≡ r). inr (ap Open e))
    (cell-opens w x Waiting k (held_row w x seat.0 a.0) tt r h)
opens-condition w seat (Look x) k a r h = inl h
opens-condition w seat (Read x p) k a r h = inl h
opens-condition w seat (Claim x) k a r h = inl (cell-reopens w x Claimed k tt (ap is_fresh a.1) r h)
opens-condition w seat (Yield x) k a r h = inl (cell-reopens w x Waiting k tt (ap is_fresh a.1) r h)
opens-condition w seat (Join mine own other partner) k a r h =
    inl (cell-reopens w other (Synched (joined_with w.table mine own other partner)) k (join_in_range w mine own other partner k (waits_unjoined w other a.3) (held_row w mine seat.0 a.0) a.5) (ap is_fresh a.3) r h)
opens-condition w seat (Seal x) k a r h = inl (seal-opens w x k a.1 a.2 r h)
opens-condition w seat (Grant x n) k a r h =
    let s = some_parts (cause_at w.table x n) a.1 in
    inl (cell-reopens w x (Synched (granted_by w.table x n)) k (grant_in_range w x n s.0 k (waits_unjoined w x a.0) s.1) (ap is_fresh a.0) r h)
opens-condition w seat (Take x) k a r h = inl (take-opens w x k a r h)
opens-condition w seat (Bind n x scope) k a r h = inl (ap is_fresh (sym (cell_after_bind w.table (nack_of_row x n) (record { sync = x.sync; scope = scope }) r (nack_of_thread w.table x n (held_row w x seat.0 a.0) a.3))) ∙ h)
opens-condition w seat (Start x thread) k a r h = inl (ap is_fresh (sym (cell_after_life w.table thread (Running (last_stamp (marks_at w.table) (joined_at w.table) x)) r)) ∙ h)
opens-condition w seat (Finish x) k a r h = inl (ap is_fresh (sym (cell_after_life w.table x.thread (ended_at (course_at w.table x.thread) x.sync) r)) ∙ h)

-- a row that is opened after a step was opened before it, or the step opens it
pub opens-step : (w : World) (seat : Seat) (step : Step) → Kept w → Allowed w seat step → (r : Row) → is_fresh (cell_at (after_step w seat step).table r) ≡ false → (is_fresh (cell_at w.table r) ≡ false) ⊎ (step ≡ Open r)
opens-step w seat step k a r h = opens-condition w seat step k a.1 r h

-- WHAT IS TAKEN STAYS TAKEN
abbrev WasTaken : World → Row → Type 0
WasTaken w r = is_taken (cell_at w.table r) ≡ true

cell-taken : (w : World) (x : Row) (c : Cell) → Kept w → is_row w.table x ≡ true → IsCellInRange c → (WasTaken w x → is_taken c ≡ true) → (r : Row) → WasTaken w r → is_taken (cell_at (with_cell w.table x c) r) ≡ true
cell-taken w x c k row range stays r h =
    let cells : cell_at (with_cell w.table x c) r ≡ put (cell_at w.table) x c r = ap (λ (f : Row → Cell). f r) (cell_after_cell w.table x c k.sized row range) in
    ⊎_elim
    (λ (e : r ≡ x). ap is_taken (cells ∙ ap (put (cell_at w.table) x c) e ∙ put_same (cell_at w.table) x c) ∙ stays (subst (WasTaken w) e h))
    (λ (e : row_eq r x ≡ false). ap is_taken (cells ∙ put_other (cell_at w.table) x c r e) ∙ h)
    (row_cases r x)

untaken-cell : (w : World) (x : Row) (c d : Cell) → cell_at w.table x ≡ c → is_taken c ≡ false → WasTaken w x → is_taken d ≡ true
untaken-cell w x c d is none h = absurd (true≢false (sym h ∙ ap is_taken is ∙ none))

seal-taken : (w : World) (x : Row) → Kept w → cell_at w.table x ≡ Claimed → is_some (namer_at w x) ≡ true → (r : Row) → WasTaken w r → is_taken (cell_at (with_seal w.table x (sealed_by w.table (namer_at w x))) r) ≡ true
seal-taken w x k f h r =
    let q = some_parts (namer_at w x) h in
    let s = sealing w.table x q.0 (namer_names (all_rows w.table.threads w.table.rows) (joined_at w.table) x q.0 q.1) in
    subst (λ (o : Option Joined). WasTaken w r → is_taken (cell_at (with_seal w.table x o) r) ≡ true) (sym (sealed_is w.table x q.0 (namer_at w x) s q.1))
    (cell-taken w x (Synched (mirrored q.0 s.way s.offer)) k (row_of_open w.table x (ap is_fresh f)) (seal_in_range w x q.0 s k) (untaken-cell w x Claimed (Synched (mirrored q.0 s.way s.offer)) f refl) r)

take-taken : (w : World) (x : Row) → Kept w → is_some (synched_of (cell_at w.table x)) ≡ true → (r : Row) → WasTaken w r → is_taken (cell_at (with_take w.table x (synched_of (cell_at w.table x))) r) ≡ true
take-taken w x k h r =
    let j = some_parts (synched_of (cell_at w.table x)) h in
    let is = synched_is (cell_at w.table x) j.0 j.1 in
    subst (λ (o : Option Joined). WasTaken w r → is_taken (cell_at (with_take w.table x o) r) ≡ true) (sym j.1)
    (cell-taken w x (Taken j.0) k (row_of_open w.table x (ap is_fresh is)) (joined_ranged w.table x j.0 (ap joined_of is)) (λ e. refl) r)

taken-condition : (w : World) (seat : Seat) (step : Step) → Kept w → Condition w seat step → (r : Row) → WasTaken w r → is_taken (cell_at (after_step w seat step).table r) ≡ true
taken-condition w seat (Draft x p v) k (held, f, alive, a, b, g) r h = ap is_taken (cell_after_word w.table x r p v (held_row w x seat.0 held) a (omega arith)) ∙ h
taken-condition w seat (Open x) k a r h = cell-taken w x Waiting k (held_row w x seat.0 a.0) tt (untaken-cell w x Fresh Waiting a.1 refl) r h
taken-condition w seat (Look x) k a r h = h
taken-condition w seat (Read x p) k a r h = h
taken-condition w seat (Claim x) k a r h = cell-taken w x Claimed k (held_row w x seat.0 a.0) tt (untaken-cell w x Waiting Claimed a.1 refl) r h
taken-condition w seat (Yield x) k a r h = cell-taken w x Waiting k (held_row w x seat.0 a.0) tt (untaken-cell w x Claimed Waiting a.1 refl) r h
taken-condition w seat (Join mine own other partner) k a r h =
    cell-taken w other (Synched (joined_with w.table mine own other partner)) k (row_of_open w.table other (ap is_fresh a.3)) (join_in_range w mine own other partner k (waits_unjoined w other a.3) (held_row w mine seat.0 a.0) a.5) (untaken-cell w other Waiting (Synched (joined_with w.table mine own other partner)) a.3 refl) r h
taken-condition w seat (Seal x) k a r h = seal-taken w x k a.1 a.2 r h
taken-condition w seat (Grant x n) k a r h =
    let s = some_parts (cause_at w.table x n) a.1 in
    cell-taken w x (Synched (granted_by w.table x n)) k (row_of_open w.table x (ap is_fresh a.0)) (grant_in_range w x n s.0 k (waits_unjoined w x a.0) s.1) (untaken-cell w x Waiting (Synched (granted_by w.table x n)) a.0 refl) r h
taken-condition w seat (Take x) k a r h = take-taken w x k a r h
taken-condition w seat (Bind n x scope) k a r h = ap is_taken (cell_after_bind w.table (nack_of_row x n) (record { sync = x.sync; scope = scope }) r (nack_of_thread w.table x n (held_row w x seat.0 a.0) a.3)) ∙ h
taken-condition w seat (Start x thread) k a r h = ap is_taken (cell_after_life w.table thread (Running (last_stamp (marks_at w.table) (joined_at w.table) x)) r) ∙ h
taken-condition w seat (Finish x) k a r h = ap is_taken (cell_after_life w.table x.thread (ended_at (course_at w.table x.thread) x.sync) r) ∙ h

pub taken-step : (w : World) (seat : Seat) (step : Step) → Kept w → Allowed w seat step → (r : Row) → is_taken (cell_at w.table r) ≡ true → is_taken (cell_at (after_step w seat step).table r) ≡ true
taken-step w seat step k a r h = taken-condition w seat step k a.1 r h
