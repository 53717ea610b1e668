-- Where all passes of a table are here, each step of its history was made by one of them.
use Rattle.std.proofs.Common.{◌⊎◌, ◌≡◌, ◌≢◌, ◌+◌, ◌<◌, ◌≤◌, ℕ, suc, Bool, true, false, cond, ◌||◌, eqb, List, [], ◌∷◌, length, sym, refl, ap, ◌∙◌, subst, inl, inr, ⊎_elim, arith}
use Rattle.std.specs.List.{AllByRecursion, IsDistinct, list_any}
use Rattle.std.proofs.lemmas.Bool.{cases_Bool, cases_eq, eqb-true, false≢true, ne_eqb}
use Rattle.std.proofs.lemmas.Map.Steps.{length-le_from_distinct_below}
use mathlib.Core.Option.{some}
use lib.ListN.{get_elem?}
use Rattle.protocol_values.specs.declared.Row.{Row}
use Rattle.protocol_values.specs.declared.Seat.{Seat}
use Rattle.protocol_values.specs.declared.Step.{Step}
use Rattle.protocol_values.specs.declared.Step.TheVariants.{Open, Take}
use Rattle.protocol_ledger.specs.Kept.{Kept}
use Rattle.protocol_ledger.specs.Tables.{cell_at, is_fresh, is_taken}
use Rattle.protocol_ledger.specs.Worlds.{Allowed, Plays, World, after_step}
use Rattle.protocol_ledger.proofs.Keeping.{kept_schedule}
use Rattle.protocol_ledger.proofs.Onward.{grows-step, opens-step}
use Rattle.cell_table.specs.declared.view.Stage.TheVariants.{Aside, Left, Resting}
use Rattle.cell_table.specs.declared.view.View.{View}
use Rattle.cell_table.specs.Closings.{MadeBy}
use Rattle.cell_table.specs.Rule.{AreDistinct, Gathers, Interleaves, Move, Seated, at_seat, in_order, steps_by}
use Rattle.cell_table.specs.Sight.{Has}
use Rattle.cell_table.specs.Views.{Knows}
use Rattle.cell_table.proofs.Binders.{maker_of}
use Rattle.cell_table.proofs.Once.{last_played}
use Rattle.cell_table.proofs.Seating.{acts, stays_of}
use Rattle.cell_table.proofs.Takings.{opened_waits, takes_step}

-- COUNTING SEATS
abbrev seats_of : List (ℕ × List Step) → List ℕ
seats_of [] = []
seats_of (x ∷ xs) = x.0 ∷ seats_of xs

all_apart : (seat : ℕ) (xs : List (ℕ × List Step)) → ((steps : List Step) → Has xs (seat, steps) → ⊥) → AllByRecursion (λ y. eqb seat y ≡ false) (seats_of xs)
all_apart seat [] none = tt
all_apart seat (y ∷ xs) none = (ne_eqb seat y.0 (λ e. none y.1 (inl (λ i. (sym e i, y.1)))), all_apart seat xs (λ steps h. none steps (inr h)))

distinct_seats : (xs : List (ℕ × List Step)) → AreDistinct xs → IsDistinct eqb (seats_of xs)
unfolding IsDistinct
distinct_seats [] d = tt
distinct_seats (x ∷ xs) d = (all_apart x.0 xs d.0, distinct_seats xs d.1)

seat_there : (xs : List (ℕ × List Step)) (seat : ℕ) → list_any (eqb seat) (seats_of xs) ≡ true → (steps : List Step) × Has xs (seat, steps)
seat_there [] seat e = absurd (false≢true e)
seat_there (x ∷ xs) seat e = ⊎_elim
    (λ (here : eqb seat x.0 ≡ true). (x.1, inl (λ i. (sym (eqb-true seat x.0 here) i, x.1))))
    (λ (not_here : eqb seat x.0 ≡ false). let h = seat_there xs seat (ap (λ (b : Bool). b || list_any (eqb seat) (seats_of xs)) (sym not_here) ∙ e) in (h.0, inr h.1))
    (cases_Bool (eqb seat x.0))

length_seats : (xs : List (ℕ × List Step)) → length (seats_of xs) ≡ length xs
length_seats [] = refl
length_seats (x ∷ xs) = ap suc (length_seats xs)

-- there are no more than all
few_seats : (xs : List (ℕ × List Step)) (n : ℕ) → AreDistinct xs → ((seat : ℕ) (steps : List Step) → Has xs (seat, steps) → seat < n) → length xs ≤ n
few_seats xs n distinct below =
    let few = length-le_from_distinct_below (seats_of xs) n (distinct_seats xs distinct) (λ q e. let h = seat_there xs q e in below q h.0 h.1) in
    let same = length_seats xs in
    omega (arith, few, same)

is_there : (xs : List (ℕ × List Step)) (seat : ℕ) → ((steps : List Step) × Has xs (seat, steps)) ⊎ ((steps : List Step) → Has xs (seat, steps) → ⊥)
is_there [] seat = inr (λ steps h. h)
is_there (x ∷ xs) seat = ⊎_elim
    (λ (here : x.0 ≡ seat). inl (x.1, inl (λ i. (here i, x.1))))
    (λ (other : x.0 ≡ seat → ⊥). ⊎_elim
    (λ (h : (steps : List Step) × Has xs (seat, steps)). inl (h.0, inr h.1))
    (λ (none : (steps : List Step) → Has xs (seat, steps) → ⊥). inr (λ steps h. ⊎_elim (λ e. other (ap (λ (z : ℕ × List Step). z.0) e)) (λ i. none steps i) h))
    (is_there xs seat))
    (cases_eq x.0 seat)

-- where there are as many as all, each is there
each_there : (xs : List (ℕ × List Step)) (n : ℕ) → AreDistinct xs → ((seat : ℕ) (steps : List Step) → Has xs (seat, steps) → seat < n) → n ≤ length xs → (seat : ℕ) → seat < n → (steps : List Step) × Has xs (seat, steps)
each_there xs n distinct below all seat low = ⊎_elim
    (λ (h : (steps : List Step) × Has xs (seat, steps)). h)
    (λ (none : (steps : List Step) → Has xs (seat, steps) → ⊥).
    let few = few_seats ((seat, []) ∷ xs) n (none, distinct) (λ s steps h. ⊎_elim (λ e. subst (λ (k : ℕ). k < n) (ap (λ (z : ℕ × List Step). z.0) e) low) (λ i. below s steps i) h) in
    absurd (omega (arith, few, all)))
    (is_there xs seat)

-- THE HISTORY
abbrev Moved : List Move → Step → Type 0
Moved moves step = (m : Move) × Has moves m × (m.step ≡ step)

move_case : (m : Move) (moves : List Move) (id : ℕ) (at : Seat) (step : Step) → (Has (steps_by id moves) (at, step) → Moved moves step) → (b : Bool) → Has (cond b ((m.seat, m.step) ∷ steps_by id moves) (steps_by id moves)) (at, step) → Moved (m ∷ moves) step
move_case m moves id at step rest true (inl e) = (m, inl refl, ap (λ (z : Seat × Step). z.1) e)
move_case m moves id at step rest true (inr i) = let o = rest i in (o.0, inr o.1, o.2)
move_case m moves id at step rest false i = let o = rest i in (o.0, inr o.1, o.2)

move_of : (moves : List Move) (id : ℕ) (at : Seat) (step : Step) → Has (steps_by id moves) (at, step) → Moved moves step
move_of [] id at step h = absurd h
move_of (m ∷ moves) id at step h = move_case m moves id at step (λ i. move_of moves id at step i) (eqb m.pass id) h

has_at : (seat : ℕ) (made : List Step) (step : Step) → Has made step → Has (at_seat seat made) (record { 0 = seat }, step)
has_at seat [] step h = absurd h
has_at seat (s ∷ made) step (inl e) = inl (ap (λ (z : Step). (record { 0 = seat }, z)) e)
has_at seat (s ∷ made) step (inr h) = inr (has_at seat made step h)

-- a row that a pass opened is opened
opened_then : (w v : World) (moves : List Move) (m : Move) (r : Row) → Kept w → Plays w (in_order moves) v → Has moves m → m.step ≡ Open r → is_fresh (cell_at v.table r) ≡ false
opened_then w v [] m r k p h is = absurd h
opened_then w v (x ∷ moves) m r k p (inl e) is =
    let l = last_played w v (in_order moves) (x.seat, x.step) p in
    let opens : x.step ≡ Open r = ap (λ (z : Move). z.step) e ∙ is in
    ap (λ (u : World). is_fresh (cell_at u.table r)) (l.3 ∙ ap (after_step l.0 x.seat) opens)
    ∙ ap is_fresh (opened_waits l.0 x.seat r (kept_schedule w l.0 (in_order moves) k l.1) (subst (Allowed l.0 x.seat) opens l.2))
opened_then w v (x ∷ moves) m r k p (inr h) is =
    let l = last_played w v (in_order moves) (x.seat, x.step) p in
    ap (λ (u : World). is_fresh (cell_at u.table r)) l.3
    ∙ (grows-step l.0 x.seat x.step (kept_schedule w l.0 (in_order moves) k l.1) l.2).opened r (opened_then w l.0 moves m r k l.1 h is)

-- what is so at the end, and was not before such a step, was made so by one
module _ (Done : World → Type 0) (step : Step) (does : (w : World) (seat : Seat) (s : Step) → Kept w → Allowed w seat s → Done (after_step w seat s) → Done w ⊎ (s ≡ step)) where
  move_does : (w v : World) (moves : List Move) → Kept w → Plays w (in_order moves) v → Done v → Done w ⊎ ((m : Move) × Has moves m × (m.step ≡ step))
  move_does w v [] k p e = inl (subst Done p e)
  move_does w v (m ∷ moves) k p e =
      let l = last_played w v (in_order moves) (m.seat, m.step) p in
      ⊎_elim
      (λ (before : Done l.0). ⊎_elim
      (λ (first : Done w). inl first)
      (λ (o : (m : Move) × Has moves m × (m.step ≡ step)). inr (o.0, inr o.1, o.2))
      (move_does w l.0 moves k l.1 before))
      (λ (now : m.step ≡ step). inr (m, inl refl, now))
      (does l.0 m.seat m.step (kept_schedule w l.0 (in_order moves) k l.1) l.2 (subst Done l.3 e))

module _ {M : Type 0} where
  -- a row that a pass opened is opened, whatever was done since
  pub made_open : (w v : World) (moves : List Move) (views : List (View M)) → Kept w → Plays w (in_order moves) v → Interleaves moves views → (id : ℕ) (u : View M) (r : Row) → get_elem? views id ≡ some u → Has u.made (Open r) → is_fresh (cell_at v.table r) ≡ false
  made_open w v moves views k p history id u r view h =
      let o = move_of moves id (record { 0 = u.seat }) (Open r) (subst (λ (l : List (Seat × Step)). Has l (record { 0 = u.seat }, Open r)) (sym (history.made id u view)) (has_at u.seat u.made (Open r) h)) in
      opened_then w v moves o.0 r k p o.1 o.2

  abbrev Maker : List (View M) → Step → Type 0
  Maker views step = (id : ℕ) × (u : View M) × (get_elem? views id ≡ some u) × Has u.made step

  -- whoever opened a row, or took it
  pub opener : (w v : World) (moves : List Move) (views : List (View M)) → Kept w → Plays w (in_order moves) v → Interleaves moves views → (r : Row) → is_fresh (cell_at w.table r) ≡ true → is_fresh (cell_at v.table r) ≡ false → Maker views (Open r)
  opener w v moves views k p history r first e = ⊎_elim
      (λ (was : is_fresh (cell_at w.table r) ≡ false). absurd (false≢true (sym was ∙ first)))
      (λ (o : (m : Move) × Has moves m × (m.step ≡ Open r)). maker_of moves views history o.0 (Open r) o.1 o.2)
      (move_does (λ (u : World). is_fresh (cell_at u.table r) ≡ false) (Open r) (λ u seat s kept allowed. opens-step u seat s kept allowed r) w v moves k p e)

  pub taker : (w v : World) (moves : List Move) (views : List (View M)) → Kept w → Plays w (in_order moves) v → Interleaves moves views → (r : Row) → is_taken (cell_at w.table r) ≡ false → is_taken (cell_at v.table r) ≡ true → Maker views (Take r)
  taker w v moves views k p history r first e = ⊎_elim
      (λ (was : is_taken (cell_at w.table r) ≡ true). absurd (false≢true (sym first ∙ was)))
      (λ (o : (m : Move) × Has moves m × (m.step ≡ Take r)). maker_of moves views history o.0 (Take r) o.1 o.2)
      (move_does (λ (u : World). is_taken (cell_at u.table r) ≡ true) (Take r) (λ u seat s kept allowed. takes_step u seat s kept allowed r) w v moves k p e)

  -- ALL PASSES are the one that closes the table and those that left to it
  module _ (world : World) (owner : Row → ℕ) (views : List (View M)) (id : ℕ) (v : View M) (view : get_elem? views id ≡ some v) (at_table : 0 < v.threads) (seated : Seated views) (gathers : Gathers views)
      (knows : (j : ℕ) (u : View M) → get_elem? views j ≡ some u → 0 < u.threads → Knows world owner j u) (rests : v.stage ≡ Resting) where
    acts_here : v.stage ≢ Aside
    acts_here e = let bad : Resting ≡ Aside = sym rests ∙ e in cc

    left_acts : (u : View M) → u.stage ≡ Left → u.stage ≢ Aside
    left_acts u e f = let bad : Left ≡ Aside = sym e ∙ f in cc

    same_view : (i j : ℕ) (a b : View M) → get_elem? views i ≡ some a → get_elem? views j ≡ some b → i ≡ j → a ≡ b
    same_view i j a b e f same = mathlib.Core.Option.some-injective a b (sym e ∙ ap (get_elem? views) same ∙ f)

    below : (seat : ℕ) (steps : List Step) → Has ((v.seat, v.made) ∷ v.gathered) (seat, steps) → seat < world.seats
    below seat steps h = ⊎_elim
        (λ e. subst (λ (k : ℕ). k < world.seats) (ap (λ (z : ℕ × List Step). z.0) e) (knows id v view at_table).seat)
        (λ (g : Has v.gathered (seat, steps)). let o = gathers.left id v seat steps view g in subst (λ (k : ℕ). k < world.seats) o.5 (knows o.0 o.1 o.2 o.3).seat)
        h

    not_own : (steps : List Step) → Has v.gathered (v.seat, steps) → ⊥
    not_own steps g =
        let o = gathers.left id v v.seat steps view g in
        let same = seated.one_seat o.0 id o.1 v o.2 view o.3 at_table (left_acts o.1 o.4) acts_here o.5 in
        let bad : Resting ≡ Left = sym rests ∙ ap (λ (z : View M). z.stage) (sym (same_view o.0 id o.1 v o.2 view same)) ∙ o.4 in cc

    -- they are no more than the table has
    pub few_gathered : length v.gathered + 1 ≤ v.passes
    few_gathered =
        let few = few_seats ((v.seat, v.made) ∷ v.gathered) world.seats (not_own, gathers.distinct id v view) below in
        let same = (knows id v view at_table).passes in
        omega (arith, few, same)

    -- so where they are as many, one of them made each step
    pub made_by_all : v.passes ≤ length v.gathered + 1 → (step : Step) → Maker views step → (steps : List Step) × MadeBy v steps × Has steps step
    made_by_all all step o =
        let made : Has o.1.made step = o.3 in
        let of : 0 < o.1.threads = stays_of step views o.0 o.1 seated o.2 made in
        let acting : o.1.stage ≢ Aside = acts views o.0 o.1 seated o.2 (inl (λ (none : o.1.made ≡ []). subst (λ (l : List Step). Has l step) none made)) in
        let same = (knows id v view at_table).passes in
        let there = each_there ((v.seat, v.made) ∷ v.gathered) world.seats (not_own, gathers.distinct id v view) below (omega (arith, all, same)) o.1.seat (knows o.0 o.1 o.2 of).seat in
        ⊎_elim
        (λ e.
        let one = seated.one_seat id o.0 v o.1 view o.2 at_table of acts_here acting (ap (λ (z : ℕ × List Step). z.0) e) in
        (v.made, inl refl, subst (λ (z : View M). Has z.made step) (sym (same_view id o.0 v o.1 view o.2 one)) made))
        (λ (g : Has v.gathered (o.1.seat, there.0)).
        let l = gathers.left id v o.1.seat there.0 view g in
        let one = seated.one_seat l.0 o.0 l.1 o.1 l.2 o.2 l.3 of (left_acts l.1 l.4) acting l.5 in
        (there.0, inr (o.1.seat, g), subst (λ (l : List Step). Has l step) (ap (λ (z : View M). z.made) (sym (same_view l.0 o.0 l.1 o.1 l.2 o.2 one)) ∙ l.6) made))
        there.1
