-- The list of who names whom, after each kind of step.
use Rattle.std.proofs.Common.{◌≡◌, ℕ, ◌*◌, ◌≤◌, true, false, ltb, ◌&&◌, List, length, get_or, set, sym, refl, ap, ◌∙◌, ⊎_elim, arith, Option, Some, None}
use Rattle.std.specs.List.{find}
use Rattle.std.proofs.lemmas.Bool.{cases_Bool, false≢true}
use Rattle.std.proofs.lemmas.List.{get_or-set_same, get_or-set_other}
use Rattle.protocol_values.specs.declared.Row.{Row}
use Rattle.protocol_values.specs.declared.NackName.{NackName}
use Rattle.protocol_values.specs.declared.Binding.{Binding}
use Rattle.protocol_values.specs.declared.Course.{Course}
use Rattle.protocol_values.specs.declared.Joined.{Joined}
use Rattle.protocol_values.specs.declared.Cell.{Cell}
use Rattle.protocol_values.specs.declared.Cell.TheVariants.{Waiting, Claimed, Synched}
use Rattle.protocol_ledger.specs.Tables.{Table, is_row, is_nack, row_eq, all_rows, number_of, cell_at, is_fresh, joined_at, offer_at, offers_meet, names, is_partner, namer_of, cause_at}
use Rattle.protocol_values.specs.Values.{joined_of}
use Rattle.protocol_ledger.specs.Worlds.{World, namer_at, with_word, with_cell, with_table, joined_with, mirrored, granted_by, with_course, with_nack}
use Rattle.protocol_ledger.specs.Kept.{Kept, joined_by}
use Rattle.protocol.specs.States.{Tells}
use Rattle.protocol_ledger.proofs.RowLemmas.{row_eq-refl, row_eq-false, row_cases, row_ne, put, put_same, put_other}
use Rattle.protocol_ledger.proofs.Linking.{fresh_not_joined}
use Rattle.protocol_ledger.proofs.StepLemmas.{names_o}
use Rattle.protocol_ledger.proofs.Places.{row_inside, block_inside}
use Rattle.protocol_ledger.proofs.Readings.{cell_after_word, cell_after_cell, cell_after_bind, cell_after_life, row_of_open}
use Rattle.protocol_ledger.proofs.Naming.{namer_is}
use Rattle.protocol_ledger.proofs.Keeping.{unnamed_row, join_in_range, IsSealing, seal_in_range, same_number, grant_in_range, waits_unjoined}

-- where nobody names anybody anew, the list stays
pub tells_same : (w : World) (t : Table) (namers : List (Option Row)) → t.threads ≡ w.table.threads → t.rows ≡ w.table.rows → ((q r : Row) → names (joined_at t q) r ≡ names (joined_at w.table q) r) → Tells w namers → Tells (with_table w t) namers
unfolding is_row
tells_same w t namers a b j tells r h =
    ap (λ n. get_or namers (number_of n r) None) b
    ∙ tells r ((λ i. ltb r.thread (sym a i) && ltb r.sync (sym b i)) ∙ h)
    ∙ (λ i. find (λ (q : Row). sym (j q r) i) (all_rows (sym a i) (sym b i)))

-- where one row is joined anew, which names a row that nobody named, the list has it there
tells_put : (w : World) (t : Table) (namers : List (Option Row)) (x p : Row) (j : Joined) → t.threads ≡ w.table.threads → t.rows ≡ w.table.rows → joined_at t ≡ put (joined_at w.table) x (Some j) → joined_at w.table x ≡ None → is_row w.table x ≡ true → is_row w.table p ≡ true → ((r : Row) → is_partner j.partner r ≡ row_eq p r) → ((q : Row) → names (joined_at w.table q) p ≡ false) → length namers ≡ w.table.threads * w.table.rows → Tells w namers → Tells (with_table w t) (set namers (number_of w.table.rows p) (Some x))
unfolding is_row
tells_put w t namers x p j a b e none in_x in_p named unnamed sized tells r h =
    let here : is_row w.table r ≡ true = (λ i. ltb r.thread (sym a i) && ltb r.sync (sym b i)) ∙ h in
    let place_p = row_inside w.table p in_p in
    let place_x = row_inside w.table x in_x in
    let below = block_inside p.thread w.table.threads p.sync w.table.rows place_p.0 place_p.1 in
    let joined' : Row → Option Joined = put (joined_at w.table) x (Some j) in
    let back : namer_of (all_rows w.table.threads w.table.rows) joined' r ≡ namer_of (all_rows t.threads t.rows) (joined_at t) r = λ i. namer_of (all_rows (sym a i) (sym b i)) (sym e i) r in
    ap (λ n. get_or (set namers (number_of w.table.rows p) (Some x)) (number_of n r) None) b
    ∙ ⊎_elim
    (λ (c : r ≡ p).
    ap (λ (y : Row). get_or (set namers (number_of w.table.rows p) (Some x)) (number_of w.table.rows y) None) c
    ∙ get_or-set_same namers (number_of w.table.rows p) (Some x) None (omega arith)
    ∙ sym (ap (namer_of (all_rows w.table.threads w.table.rows) joined') c
    ∙ namer_is w.table.threads w.table.rows joined' p x place_x.0 place_x.1 (ap (λ (o : Option Joined). names o p) (put_same (joined_at w.table) x (Some j)) ∙ named p ∙ row_eq-refl p)
    (λ q d. ⊎_elim
    (λ (f : q ≡ x). f)
    (λ (f : row_eq q x ≡ false). absurd (false≢true (sym (unnamed q) ∙ sym (ap (λ (o : Option Joined). names o p) (put_other (joined_at w.table) x (Some j) q f)) ∙ d)))
    (row_cases q x))))
    (λ (c : row_eq r p ≡ false).
    get_or-set_other namers (number_of w.table.rows p) (number_of w.table.rows r) (Some x) None (λ d. row_eq-false r p c (same_number w.table r p here in_p d))
    ∙ tells r here
    ∙ (λ i. find (λ q. sym (same_test q c) i) (all_rows w.table.threads w.table.rows)))
    (row_cases r p)
    ∙ back
  where
    same_test : (q : Row) → row_eq r p ≡ false → names (put (joined_at w.table) x (Some j) q) r ≡ names (joined_at w.table q) r
    same_test q c = ⊎_elim
        (λ (f : q ≡ x).
        ap (λ (y : Row). names (put (joined_at w.table) x (Some j) y) r) f
        ∙ ap (λ (o : Option Joined). names o r) (put_same (joined_at w.table) x (Some j))
        ∙ named r
        ∙ row_ne p r (λ d. row_eq-false r p c (sym d))
        ∙ sym (ap (λ (y : Row). names (joined_at w.table y) r) f ∙ ap (λ (o : Option Joined). names o r) none))
        (λ (f : row_eq q x ≡ false). ap (λ (o : Option Joined). names o r) (put_other (joined_at w.table) x (Some j) q f))
        (row_cases q x)

-- EACH KIND

pub tells_draft : (w : World) (x : Row) (p v : ℕ) (namers : List (Option Row)) → is_row w.table x ≡ true → 1 ≤ p → p ≤ 33 → Tells w namers → Tells (with_table w (with_word w.table x p v)) namers
tells_draft w x p v namers h a b =
    tells_same w (with_word w.table x p v) namers refl refl (λ q r. ap (λ (c : Cell). names (joined_of c) r) (cell_after_word w.table x q p v h a (omega arith)))

pub tells_plain : (w : World) (x : Row) (c : Cell) (namers : List (Option Row)) → Kept w → is_row w.table x ≡ true → Rattle.protocol_values.specs.Words.IsCellInRange c → ((r : Row) → names (joined_of c) r ≡ names (joined_of (cell_at w.table x)) r) → Tells w namers → Tells (with_table w (with_cell w.table x c)) namers
unfolding with_cell
tells_plain w x c namers k h g same = tells_same w (with_cell w.table x c) namers refl refl (λ q r. after q r ∙ at q r)
  where
    after : (q r : Row) → names (joined_at (with_cell w.table x c) q) r ≡ names (joined_of (put (cell_at w.table) x c q)) r
    after q r = ap (λ (f : Row → Cell). names (joined_of (f q)) r) (cell_after_cell w.table x c k.sized h g)

    at : (q r : Row) → names (joined_of (put (cell_at w.table) x c q)) r ≡ names (joined_of (cell_at w.table q)) r
    at q r = ⊎_elim
        (λ (e : q ≡ x). ap (λ (y : Row). names (joined_of (put (cell_at w.table) x c y)) r) e ∙ ap (λ (d : Cell). names (joined_of d) r) (put_same (cell_at w.table) x c) ∙ same r ∙ ap (λ (y : Row). names (joined_of (cell_at w.table y)) r) (sym e))
        (λ (e : row_eq q x ≡ false). ap (λ (d : Cell). names (joined_of d) r) (put_other (cell_at w.table) x c q e))
        (row_cases q x)

joined_put : (cell : Row → Cell) (x : Row) (j : Joined) → (λ r. joined_of (put cell x (Synched j) r)) ≡ put (joined_by cell) x (Some j)
joined_put cell x j = λ i r. at r i
  where
    at : (r : Row) → joined_of (put cell x (Synched j) r) ≡ put (joined_by cell) x (Some j) r
    at r = ⊎_elim
        (λ (e : r ≡ x). ap (λ (y : Row). joined_of (put cell x (Synched j) y)) e ∙ ap joined_of (put_same cell x (Synched j)) ∙ sym (ap (put (joined_by cell) x (Some j)) e ∙ put_same (joined_by cell) x (Some j)))
        (λ (e : row_eq r x ≡ false). ap joined_of (put_other cell x (Synched j) r e) ∙ sym (put_other (joined_by cell) x (Some j) r e))
        (row_cases r x)

pub tells_join : (w : World) (m : Row) (i : ℕ) (o : Row) (n : ℕ) (namers : List (Option Row)) → Kept w → cell_at w.table m ≡ Claimed → namer_at w m ≡ None → cell_at w.table o ≡ Waiting → offers_meet (offer_at w.table m i) (offer_at w.table o n) ≡ true → length namers ≡ w.table.threads * w.table.rows → Tells w namers → Tells (with_table w (with_cell w.table o (Synched (joined_with w.table m i o n)))) (set namers (number_of w.table.rows m) (Some o))
unfolding with_cell joined_with
tells_join w m i o n namers k mine none other meets sized tells =
    let in_m = row_of_open w.table m (ap is_fresh mine) in
    let in_o = row_of_open w.table o (ap is_fresh other) in
    let j : Joined = joined_with w.table m i o n in
    let is : joined_at (with_cell w.table o (Synched j)) ≡ put (joined_at w.table) o (Some j) =
    (λ x r. joined_of (cell_after_cell w.table o (Synched j) k.sized in_o (join_in_range w m i o n k (waits_unjoined w o other) in_m meets) x r)) ∙ joined_put (cell_at w.table) o j in
    tells_put w (with_cell w.table o (Synched j)) namers o m j refl refl is (ap joined_of other) in_o in_m (λ r. refl) (unnamed_row w m none) sized tells

pub tells_seal : (w : World) (m q : Row) (s : IsSealing w.table m q) (namers : List (Option Row)) → Kept w → cell_at w.table m ≡ Claimed → length namers ≡ w.table.threads * w.table.rows → Tells w namers → Tells (with_table w (with_cell w.table m (Synched (mirrored q s.way s.offer)))) (set namers (number_of w.table.rows q) (Some m))
unfolding with_cell
tells_seal w m q s namers k mine sized tells =
    let in_m = row_of_open w.table m (ap is_fresh mine) in
    let in_q = row_of_open w.table q (fresh_not_joined (cell_at w.table q) s.way s.is) in
    let j : Joined = mirrored q s.way s.offer in
    let is : joined_at (with_cell w.table m (Synched j)) ≡ put (joined_at w.table) m (Some j) =
    (λ x r. joined_of (cell_after_cell w.table m (Synched j) k.sized in_m (seal_in_range w m q s k) x r)) ∙ joined_put (cell_at w.table) m j in
    tells_put w (with_cell w.table m (Synched j)) namers m q j refl refl is (ap joined_of mine) in_m in_q (λ r. refl)
    (λ x. ⊎_elim
    (λ (e : names (joined_at w.table x) q ≡ true). absurd (names_o w.table.threads w.table.rows (cell_at w.table) (offer_at w.table) m q s.way j s.offer k.linked mine s.is s.partner refl x e))
    (λ (e : names (joined_at w.table x) q ≡ false). e)
    (cases_Bool (names (joined_at w.table x) q)))
    sized
    tells

-- a grant names nobody
pub tells_grant : (w : World) (o : Row) (n s : ℕ) (namers : List (Option Row)) → Kept w → cell_at w.table o ≡ Waiting → cause_at w.table o n ≡ Some s → Tells w namers → Tells (with_table w (with_cell w.table o (Synched (granted_by w.table o n)))) namers
unfolding granted_by
tells_grant w o n s namers k waits caused =
    tells_plain w o (Synched (granted_by w.table o n)) namers k (row_of_open w.table o (ap is_fresh waits)) (grant_in_range w o n s k (waits_unjoined w o waits) caused)
    (λ r. ap (λ (c : Cell). names (joined_of c) r) (sym waits))

-- a bind changes no row
pub tells_bind : (w : World) (m : NackName) (b : Binding) (namers : List (Option Row)) → is_nack w.table m ≡ true → Tells w namers → Tells (with_table w (with_nack w.table m b)) namers
unfolding with_nack
tells_bind w m b namers h = tells_same w (with_nack w.table m b) namers refl refl (λ q r. ap (λ (c : Cell). names (joined_of c) r) (cell_after_bind w.table m b q h))

pub tells_life : (w : World) (p : ℕ) (c : Course) (namers : List (Option Row)) → Tells w namers → Tells (with_table w (with_course w.table p c)) namers
unfolding with_course
tells_life w p c namers = tells_same w (with_course w.table p c) namers refl refl (λ q r. ap (λ (d : Cell). names (joined_of d) r) (cell_after_life w.table p c q))
