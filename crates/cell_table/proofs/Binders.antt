-- A nack that is bound was bound by a pass of the table: only a bind binds.
use Rattle.std.proofs.Common.{◌⊎◌, ◌≡◌, ◌≤◌, ℕ, Bool, true, false, cond, List, [], ◌∷◌, length, sym, refl, ap, ◌∙◌, subst, inl, inr, ⊎_elim, arith, Option, Some, None, eqb}
use mathlib.Core.Option.{some}
use lib.ListN.{get_elem?}
use Rattle.protocol_values.specs.declared.Binding.{Binding}
use Rattle.protocol_values.specs.declared.Cell.{Cell}
use Rattle.protocol_values.specs.declared.Cell.TheVariants.{Synched, Taken, Waiting, Claimed}
use Rattle.protocol_values.specs.declared.Joined.{Joined}
use Rattle.protocol_values.specs.declared.NackName.{NackName}
use Rattle.protocol_values.specs.declared.Row.{Row}
use Rattle.protocol_values.specs.declared.Seat.{Seat}
use Rattle.protocol_values.specs.declared.Step.{Step}
use Rattle.protocol_values.specs.declared.Step.TheVariants.{Draft, Open, Look, Read, Claim, Yield, Join, Seal, Grant, Take, Bind, Start, Finish}
use Rattle.protocol_ledger.specs.Kept.{Kept}
use Rattle.protocol_ledger.specs.Tables.{Table, binding_at, is_fresh, is_row, synched_of}
use Rattle.protocol_ledger.specs.Worlds.{Allowed, Plays, World, after_step, nack_of_row, namer_at, sealed_by, with_cell, with_seal, with_take}
use Rattle.protocol_ledger.proofs.Keeping.{bind_in_range, held_row, kept_schedule}
use Rattle.protocol_ledger.proofs.Places.{row_inside}
use Rattle.protocol_ledger.proofs.Readings.{binding_after_cell, binding_after_life, binding_after_word, binding_was, row_of_open}
use Rattle.cell_table.specs.declared.view.View.{View}
use Rattle.cell_table.specs.Rule.{Interleaves, Move, at_seat, in_order, steps_by}
use Rattle.cell_table.specs.Sight.{Has}
use Rattle.cell_table.specs.Views.{bind_of}
use Rattle.cell_table.proofs.Binding.{nack_from}
use Rattle.cell_table.proofs.Once.{last_played, synched_is, view_there}

-- ONLY A BIND BINDS
cell_binds : (t : Table) (x : Row) (c : Cell) (n : NackName) (b : Binding) → is_row t x ≡ true → binding_at (with_cell t x c) n ≡ Some b → binding_at t n ≡ Some b
cell_binds t x c n b row e = ap (λ (f : NackName → Option Binding). f n) (sym (binding_after_cell t x c row)) ∙ e

seal_binds : (t : Table) (x : Row) (o : Option Joined) (n : NackName) (b : Binding) → is_row t x ≡ true → binding_at (with_seal t x o) n ≡ Some b → binding_at t n ≡ Some b
seal_binds t x None n b row e = e
seal_binds t x (Some j) n b row e = cell_binds t x (Synched j) n b row e

take_binds : (t : Table) (x : Row) (o : Option Joined) (n : NackName) (b : Binding) → is_row t x ≡ true → binding_at (with_take t x o) n ≡ Some b → binding_at t n ≡ Some b
take_binds t x None n b row e = e
take_binds t x (Some j) n b row e = cell_binds t x (Taken j) n b row e

step_binds : (w : World) (seat : Seat) (step : Step) (n : NackName) (b : Binding) → Kept w → Allowed w seat step → binding_at (after_step w seat step).table n ≡ Some b → (binding_at w.table n ≡ Some b) ⊎ (step ≡ bind_of n b)
step_binds w seat (Draft x p v) n b k a e = let high = a.1.4 in inl (ap (λ (f : NackName → Option Binding). f n) (sym (binding_after_word w.table x p v (held_row w x seat.0 a.1.0) (omega arith))) ∙ e)
step_binds w seat (Open x) n b k a e = inl (cell_binds w.table x Waiting n b (held_row w x seat.0 a.1.0) e)
step_binds w seat (Look x) n b k a e = inl e
step_binds w seat (Read x p) n b k a e = inl e
step_binds w seat (Claim x) n b k a e = inl (cell_binds w.table x Claimed n b (held_row w x seat.0 a.1.0) e)
step_binds w seat (Yield x) n b k a e = inl (cell_binds w.table x Waiting n b (held_row w x seat.0 a.1.0) e)
step_binds w seat (Join m i o p) n b k a e = inl (cell_binds w.table o _ n b (row_of_open w.table o (ap is_fresh a.1.3)) e)
step_binds w seat (Seal x) n b k a e = inl (seal_binds w.table x (sealed_by w.table (namer_at w x)) n b (held_row w x seat.0 a.1.0) e)
step_binds w seat (Grant x m) n b k a e = inl (cell_binds w.table x _ n b (row_of_open w.table x (ap is_fresh a.1.0)) e)
step_binds w seat (Take x) n b k a e = inl (take_binds w.table x (synched_of (Rattle.protocol_ledger.specs.Tables.cell_at w.table x)) n b (row_of_open w.table x (ap is_fresh (synched_is _ a.1).1)) e)
step_binds w seat (Bind m x scope) n b k a e =
    let row = held_row w x seat.0 a.1.0 in
    ⊎_elim
    (λ (old : binding_at w.table n ≡ Some b). inl old)
    (λ (new : (nack_of_row x m ≡ n) × (record { sync = x.sync; scope = scope } ≡ b)). inr (λ i. bind_of (new.0 i) (new.1 i)))
    (binding_was w.table (nack_of_row x m) (record { sync = x.sync; scope = scope }) k.sized (nack_from w.table (nack_of_row x m) (row_inside w.table x row).0 a.1.3) (bind_in_range w x scope k row a.1.4) n b e)
step_binds w seat (Start x thread) n b k a e = inl (ap (λ (f : NackName → Option Binding). f n) (sym (binding_after_life w.table thread _)) ∙ e)
step_binds w seat (Finish x) n b k a e = inl (ap (λ (f : NackName → Option Binding). f n) (sym (binding_after_life w.table x.thread _)) ∙ e)

-- A HISTORY: what is bound after it, and was not before, was bound by a move
move_binds : (w v : World) (moves : List Move) (n : NackName) (b : Binding) → Kept w → Plays w (in_order moves) v → binding_at v.table n ≡ Some b → (binding_at w.table n ≡ Some b) ⊎ ((m : Move) × Has moves m × (m.step ≡ bind_of n b))
move_binds w v [] n b k p e = inl (ap (λ (u : World). binding_at u.table n) (sym p) ∙ e)
move_binds w v (m ∷ moves) n b k p e =
    let l = last_played w v (in_order moves) (m.seat, m.step) p in
    ⊎_elim
    (λ (before : binding_at l.0.table n ≡ Some b). ⊎_elim
    (λ (first : binding_at w.table n ≡ Some b). inl first)
    (λ (o : (m : Move) × Has moves m × (m.step ≡ bind_of n b)). inr (o.0, inr o.1, o.2))
    (move_binds w l.0 moves n b k l.1 before))
    (λ (now : m.step ≡ bind_of n b). inr (m, inl refl, now))
    (step_binds l.0 m.seat m.step n b (kept_schedule w l.0 (in_order moves) k l.1) l.2 (ap (λ (u : World). binding_at u.table n) (sym l.3) ∙ e))

-- a move of the history is among the steps that its pass made
case_by : (m x : Move) (moves : List Move) (b : Bool) → eqb m.pass x.pass ≡ b → (m ≡ x) ⊎ Has (steps_by x.pass moves) (x.seat, x.step) → Has (cond b ((m.seat, m.step) ∷ steps_by x.pass moves) (steps_by x.pass moves)) (x.seat, x.step)
case_by m x moves true e (inl same) = inl (ap (λ (z : Move). (z.seat, z.step)) same)
case_by m x moves true e (inr h) = inr h
case_by m x moves false e (inl same) = absurd (Rattle.std.proofs.lemmas.Bool.true≢false (sym (Rattle.std.proofs.lemmas.Bool.eq-eqb m.pass x.pass (ap (λ (z : Move). z.pass) same)) ∙ e))
case_by m x moves false e (inr h) = h

has_by : (moves : List Move) (x : Move) → Has moves x → Has (steps_by x.pass moves) (x.seat, x.step)
has_by [] x h = absurd h
has_by (m ∷ moves) x h = case_by m x moves (eqb m.pass x.pass) refl (⊎_elim (λ (e : m ≡ x). inl e) (λ (o : Has moves x). inr (has_by moves x o)) h)

has_made : (seat : ℕ) (made : List Step) (s : Seat × Step) → Has (at_seat seat made) s → Has made s.1
has_made seat [] s h = absurd h
has_made seat (step ∷ made) s (inl e) = inl (ap (λ (z : Seat × Step). z.1) e)
has_made seat (step ∷ made) s (inr h) = inr (has_made seat made s h)

module _ {M : Type 0} where
  -- whoever made a step of the history is among the passes
  pub maker_of : (moves : List Move) (views : List (View M)) → Interleaves moves views → (m : Move) (step : Step) → Has moves m → m.step ≡ step → (id : ℕ) × (u : View M) × (get_elem? views id ≡ some u) × Has u.made step
  maker_of moves views history m step has is = of_move (has_by moves m has) (view_there views m.pass)
    where
      of_move : Has (steps_by m.pass moves) (m.seat, m.step) → ((u : View M) × (get_elem? views m.pass ≡ some u)) ⊎ (length views ≤ m.pass) → (id : ℕ) × (u : View M) × (get_elem? views id ≡ some u) × Has u.made step
      of_move h (inl there) = (m.pass, there.0, there.1, subst (Has there.0.made) is (has_made there.0.seat there.0.made (m.seat, m.step) (subst (λ (l : List (Seat × Step)). Has l (m.seat, m.step)) (history.made m.pass there.0 there.1) h)))
      of_move h (inr past) = absurd (subst (λ (l : List (Seat × Step)). Has l (m.seat, m.step)) (history.no_others m.pass past) h)

  -- and so is whoever bound a nack
  pub bound_by : (w v : World) (moves : List Move) (views : List (View M)) → Kept w → Plays w (in_order moves) v → Interleaves moves views → (n : NackName) (b : Binding) → binding_at w.table n ≡ None → binding_at v.table n ≡ Some b
      → (id : ℕ) × (u : View M) × (get_elem? views id ≡ some u) × Has u.made (bind_of n b)
  bound_by w v moves views k p history n b none e = ⊎_elim
      (λ (first : binding_at w.table n ≡ Some b). let bad : None ≡ Some b = sym none ∙ first in cc)
      (λ (o : (m : Move) × Has moves m × (m.step ≡ bind_of n b)). maker_of moves views history o.0 (bind_of n b) o.1 o.2)
      (move_binds w v moves n b k p e)
