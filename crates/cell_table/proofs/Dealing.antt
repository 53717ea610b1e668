-- The rule holds at the start, and while the first pass deals the rows.
use Rattle.std.proofs.Common.{slice_set, ◌≡◌, ◌≢◌, ℕ, zero, suc, ◌+◌, ◌%◌, ◌<◌, ◌≤◌, Bool, true, false, cond, eqb, ◌&&◌, List, [], ◌∷◌, ◌++◌, map, length, replicate, Option, sym, refl, ap, ◌∙◌, subst, ◌⊎◌, inl, inr, ⊎_elim, arith, Some, None, slice_get, unwrap_or}
use Rattle.std.proofs.lemmas.Bool.{true≢false, cases_Bool, lt-ltb, ltb-true, eq-eqb, eqb-true, ne_eqb, and_parts, and_from}
use Rattle.std.proofs.Math.Bool.{and-false}
use Rattle.std.proofs.Math.Dec.{ltb}
use Rattle.std.proofs.lemmas.List.{length-append, length-set}
use Rattle.std.proofs.Math.Nat.{mod-lt}
use mathlib.Core.Option.{some}
use lib.ListN.{get_elem?}
use Rattle.atomic_table.specs.Table.{State, Splits, opening}
use Rattle.atomic_table.proofs.Lists.{at_set}
use Rattle.protocol_values.specs.declared.NackName.{NackName}
use Rattle.protocol_values.specs.declared.Binding.{Binding}
use Rattle.protocol_values.specs.declared.Course.{Course}
use Rattle.protocol_values.specs.declared.Course.TheVariants.{Ended, Unstarted}
use Rattle.protocol_values.specs.declared.Row.{Row}
use Rattle.protocol_values.specs.declared.Cell.TheVariants.{Fresh, Claimed}
use Rattle.protocol_ledger.specs.declared.opening.Life.{Life}
use Rattle.protocol_ledger.specs.declared.opening.Life.TheVariants as life
use Rattle.protocol_values.specs.Words.{count_of}
use Rattle.protocol_ledger.specs.declared.layout.Layout.{Layout}
use Rattle.protocol_ledger.specs.Short.{Fits, words_below}
use Rattle.protocol_ledger.specs.Openings.{AreFirstWords, Begins, HadEnded, HadStarted, IsOpening, Opening, course_for, greatest, held_first, is_running, thread_in}
use Rattle.protocol_ledger.specs.Tables.{all_rows, course_at, cell_at, word_at, binding_at, bound_row, carried_at, is_fresh, is_row}
use Rattle.protocol_ledger.specs.Worlds.{World, holder_at, first_row}
use Rattle.protocol_ledger.proofs.Beginning.{first_binding, first_carried, first_cell, first_course}
use Rattle.protocol_ledger.proofs.Linking.{some_inj}
use Rattle.protocol_ledger.proofs.FirstWords.{next_begins}
use Rattle.protocol_ledger.proofs.Places.{row_from}
use Rattle.protocol_ledger.proofs.RowLemmas.{same_row}
use Rattle.protocol_ledger.specs.Standing.{AreResults, Result, Stands}
use Rattle.protocol_ledger.specs.Ledgers.{ledger_of}
use Rattle.protocol_ledger.proofs.Acting.{ends-begin, starts-begin}
use Rattle.cell_table.specs.declared.view.View.{View}
use Rattle.cell_table.specs.declared.view.Shape.{Shape}
use Rattle.cell_table.specs.declared.view.Stage.TheVariants.{Aside, Resting}
use Rattle.cell_table.specs.Sight.{OpenHaveWords, Coherent, Has, WasSettled}
use Rattle.protocol_ledger.specs.Acting.{EndsAt, acts_in}
use Rattle.cell_table.specs.Closings.{words_of}
use Rattle.cell_table.specs.Views.{Knows, RunsIn, behind_last, opening_in}
use Rattle.cell_table.specs.Rule.{AreMachines, Housed, Interleaves, IsToBegin, Keeps, Move, Seated, Waits, at_seat, beginning, dealer, dealt_from, dealt_pass, falls_to, no_offers, seen_nothing, steps_by}
use Rattle.cell_table.proofs.Following.{knows_owned}
use Rattle.cell_table.proofs.Truths.{nack_of_carried}
use Rattle.cell_table.proofs.Housing.{housed_more, housed_view}
use Rattle.cell_table.proofs.Leaving.{gathers_more, gathers_set, gathers_start}
use Rattle.cell_table.proofs.Seating.{at_end, seated_more, seated_set, seated_start}
use Rattle.cell_table.proofs.Turning.{firsts_with, same_made, world_kept}

module _ {M : Type 0} where
  -- a pass that has seen nothing
  knows_nothing : (w : World) (owner : Row → ℕ) (id : ℕ) (shape : Shape M) (k : ℕ) → shape.threads ≡ w.table.threads → shape.rows ≡ w.table.rows → shape.passes ≡ w.seats → 0 < w.seats
      → ((t : ℕ) → t < w.table.threads → RunsIn (opening_in shape) t → k ≤ t % w.seats → (owner (first_row t) ≡ id) × (holder_at w (first_row t) ≡ Some (t % w.seats)) × (cell_at w.table (first_row t) ≡ Fresh) × (word_at w.table (first_row t) 1 ≡ 0) × ((n : NackName) (b : Binding) → binding_at w.table n ≡ Some b → bound_row n b ≢ first_row t) × ((g : ℕ) → EndsAt (course_at w.table t) g → ⊥))
      → ((n : NackName) (stamp : ℕ) → carried_at w.table n ≡ Some stamp → WasSettled (opening_in shape) n stamp) → Knows {M = M} w owner id (dealer shape k)
  knows_nothing w owner id shape k threads rows passes one_seat undealt settled = record {
    threads = threads;
    rows = rows;
    passes = passes;
    seat = one_seat;
    undealt = λ t h at_once d. let u = undealt t h at_once d in (u.0, u.1, (λ n. u.2), (λ n. u.3), (λ n b e same. absurd (u.4 n b e same)), λ n g e. absurd (u.5 g e));
    mine = λ r h. absurd h;
    calm = λ r h e. absurd h;
    staged = tt;
    fresh = λ r h n. absurd h;
    drafted = λ r p x h. absurd h;
    opened = λ r h. absurd h;
    read = λ r p x h. absurd h;
    joined = λ r j h. absurd h;
    taken = λ r h. absurd h;
    bound = λ n b h. absurd h;
    carried = λ n stamp h. absurd h;
    settled = settled;
    started = λ t s h. absurd h;
    ended = λ t g h. absurd h;
    lasts = λ t h. absurd h;
    lively = λ r h n. absurd h;
    binds = λ n b e h. absurd h;
  }

-- LIVES of an opening
running_alive : (l : Life) → is_running l ≡ true → l ≢ life.Ended
running_alive life.Unstarted h e = let bad : life.Unstarted ≡ life.Ended = e in cc
running_alive life.Running h e = let bad : life.Running ≡ life.Ended = e in cc
running_alive life.Ended h e = true≢false (sym h)

unstarted_alive : (l : Life) (stamp : ℕ) → course_for l stamp ≡ Unstarted → l ≢ life.Ended
unstarted_alive life.Unstarted stamp h e = let bad : life.Unstarted ≡ life.Ended = e in cc
unstarted_alive life.Running stamp h e = let bad : life.Running ≡ life.Ended = e in cc
unstarted_alive life.Ended stamp h e = let bad : Ended stamp 0 ≡ Unstarted = h in cc

running_unended : (l : Life) (stamp g : ℕ) → is_running l ≡ true → EndsAt (course_for l stamp) g → ⊥
running_unended life.Unstarted stamp g h e = e
running_unended life.Running stamp g h e = e
running_unended life.Ended stamp g h e = true≢false (sym h)

-- where there are machines, there is a place for each thread
pub machines_full : {M : Type 0} (o : Opening) (first : List (Option M)) → AreMachines o first → 0 < length first → length first ≡ length o.threads
machines_full o first (inl none) filled = absurd (let z : length first ≡ 0 = ap (λ (l : List (Option _)). length l) none in omega arith)
machines_full o first (inr all) filled = all.0

-- what lies in a slot at first
lies : {A : Type 0} (xs : List A) (t : ℕ) (y : A) → slice_get xs t ≡ Some y → get_elem? (map some xs) t ≡ some (some y)
lies [] t y e = let bad : None ≡ Some y = e in cc
lies (x ∷ xs) zero y e = ap (λ z. some (some z)) (some_inj x y e)
lies (x ∷ xs) (suc t) y e = lies xs t y e

lay : {A : Type 0} (xs : List A) (t : ℕ) (y : A) → get_elem? (map some xs) t ≡ some (some y) → slice_get xs t ≡ Some y
lay [] t y e = absurd (mathlib.Core.Option.some-ne-none (some y) (sym e))
lay (x ∷ xs) zero y e = ap Some (mathlib.Core.Option.some-injective _ _ (mathlib.Core.Option.some-injective _ _ e))
lay (x ∷ xs) (suc t) y e = lay xs t y e

-- the word of no offers
none_told : (most : ℕ) → unwrap_or (count_of 0) 0 ≤ most
unfolding count_of
none_told most = omega arith

module _ {M : Type 0} (stands : Stands M) where
  -- THE START
  module _ (shape : Shape M) (ws : List ℕ) (xs : List (Option M)) (slots : xs ≡ shape.first.value.items) (machines : AreMachines (opening_in shape) shape.first.value.items)
      (size : shape.threads ≡ length (opening_in shape).threads) (opens : IsOpening (opening_in shape) shape.rows) (one_row : 1 ≤ shape.rows) (few_rows : shape.rows ≤ 1024) (one_pass : 1 ≤ shape.passes) (fits : Fits shape.layout shape.rows) (sized : length ws ≡ words_below shape.layout shape.threads)
      (words : AreFirstWords (opening_in shape) (words_of shape ws)) where
    abbrev o : Opening
    o = opening_in shape

    abbrev begun : World
    begun = record { table = words_of shape ws; seats = shape.passes; holders = map (held_first o shape.passes) (all_rows shape.threads shape.rows); lasts = replicate shape.threads None }

    begins : Begins o shape.rows shape.passes begun
    begins = next_begins o shape.rows shape.passes begun size refl refl refl words refl refl

    low : greatest o ≤ 4294967295
    low = let r = opens.room in omega arith

    fresh_there : (r : Row) → cell_at begun.table r ≡ Fresh
    fresh_there = first_cell o begun.table words low

    -- a row that is first in its thread
    row_there : (t : ℕ) → t < shape.threads → is_row begun.table (first_row t) ≡ true
    row_there t h = row_from begun.table (first_row t) h one_row

    -- of a thread that runs
    its_holder : (t : ℕ) → t < shape.threads → RunsIn o t → holder_at begun (first_row t) ≡ Some (t % shape.passes)
    its_holder t h runs = begins.held (first_row t) (row_there t h) ∙ ap (λ (b : Bool). cond b (Some (t % shape.passes)) None) runs

    its_course : (t g : ℕ) → t < shape.threads → RunsIn o t → EndsAt (course_at begun.table t) g → ⊥
    its_course t g h runs e = running_unended (thread_in o t).0 (thread_in o t).1 g runs (subst (λ (c : Course). EndsAt c g) (first_course o begun.table words low t h) e)

    first_there : (id : ℕ) (v : View M) → get_elem? (dealer shape 0 ∷ []) id ≡ some v → beginning v ≡ (shape.first.value.items, o, shape.layout)
    first_there zero v e = ap (λ (u : View M). beginning u) (sym (mathlib.Core.Option.some-injective _ _ e))
    first_there (suc id) v e = absurd (mathlib.Core.Option.some-ne-none v (sym e))

    -- what stands for a thread that has not ended
    machine : 0 < length shape.first.value.items → (t : ℕ) → t < shape.threads → (thread_in o t).0 ≢ life.Ended → (value : M) × (slice_get shape.first.value.items t ≡ Some (Some value))
    machine some_first t h alive = ⊎_elim
        (λ (none : shape.first.value.items ≡ []). absurd (let z : length shape.first.value.items ≡ 0 = ap (λ (l : List (Option M)). length l) none in omega arith))
        (λ all. all.1 t (omega arith) alive)
        machines

    house : 0 < length shape.first.value.items → Housed stands shape.first.value.items begun (map some xs) (dealer shape 0 ∷ [])
    house some_first = record {
      rows = λ r open_r. absurd (true≢false (sym (ap is_fresh (fresh_there r)) ∙ open_r));
      at_home = λ r open_r untaken. absurd (true≢false (sym (ap is_fresh (fresh_there r)) ∙ open_r));
      waiting = λ id v r e t b. lies_waiting id v r e b;
      asleep = λ t below e. waits_at (first_row t) below (unstarted_alive (thread_in o t).0 (thread_in o t).1 (sym (first_course o begun.table words low t below) ∙ e));
      lies = λ t value home. inl (ap is_fresh (fresh_there (first_row t)), sym (ap (λ (ys : List (Option M)). slice_get ys t) slots) ∙ lay xs t (Some value) home);
    }
      where
        waits_at : (r : Row) → r.thread < shape.threads → (thread_in o r.thread).0 ≢ life.Ended → Waits shape.first.value.items begun (map some xs) r
        waits_at r below alive =
            let there = machine some_first r.thread below alive in
            record {
              fresh = ap is_fresh (fresh_there r);
              value = there.0;
              is_first = there.1;
              home = lies xs r.thread (Some there.0) (ap (λ (ys : List (Option M)). slice_get ys r.thread) slots ∙ there.1);
            }

        lies_waiting : (id : ℕ) (v : View M) (r : Row) → get_elem? (dealer shape 0 ∷ []) id ≡ some v → IsToBegin v r → Waits shape.first.value.items begun (map some xs) r
        lies_waiting zero v r e b = ⊎_elim
            (λ (h : ⊥). absurd h)
            (λ (d : (r.thread < shape.threads) × RunsIn o r.thread × (0 ≤ r.thread % shape.passes)). waits_at r d.0 (running_alive (thread_in o r.thread).0 d.1))
            (subst (λ (u : View M). IsToBegin u r) (sym (mathlib.Core.Option.some-injective _ _ e)) b).1
        lies_waiting (suc id) v r e b = absurd (mathlib.Core.Option.some-ne-none v (sym e))

    no_results : (id : ℕ) (v : View M) (t : ℕ) (rs : List Result) → get_elem? (dealer shape 0 ∷ []) id ≡ some v → Has v.results (t, rs) → AreResults (ledger_of begun.table) t rs
    no_results zero v t rs e h = absurd (subst (λ (u : View M). Has u.results (t, rs)) (sym (mathlib.Core.Option.some-injective _ _ e)) h)
    no_results (suc id) v t rs e h = absurd (mathlib.Core.Option.some-ne-none v (sym e))

    one_view : (id : ℕ) (v : View M) → get_elem? (dealer shape 0 ∷ []) id ≡ some v → steps_by id [] ≡ at_seat v.seat v.made
    one_view zero v e = ap (λ (u : View M). at_seat u.seat u.made) (mathlib.Core.Option.some-injective _ _ e)
    one_view (suc id) v e = absurd (mathlib.Core.Option.some-ne-none v (sym e))

    settled_there : (n : NackName) (stamp : ℕ) → carried_at begun.table n ≡ Some stamp → WasSettled o n stamp
    settled_there n stamp h = sym (first_carried o begun.table words low n (nack_of_carried begun.table n stamp h)) ∙ h

    first : Knows {M = M} begun (λ r. 0) 0 (dealer shape 0)
    first = knows_nothing begun (λ r. 0) 0 shape 0 refl refl refl one_pass
        (λ t h runs d. (
          refl,
          its_holder t h runs,
          fresh_there (first_row t),
          words.blank (first_row t) 1 (row_there t h) (omega arith),
          (λ n b e same. let bad : None ≡ Some b = sym (first_binding o begun.table words low n) ∙ e in cc),
          λ g e. its_course t g h runs e,
        ))
        settled_there

    knows_at : (id : ℕ) (v : View M) → get_elem? (dealer shape 0 ∷ []) id ≡ some v → 0 < v.threads → Knows begun (λ r. 0) id v
    knows_at zero v e t = subst (λ (u : View M). Knows begun (λ r. 0) 0 u) (mathlib.Core.Option.some-injective _ _ e) first
    knows_at (suc id) v e t = absurd (mathlib.Core.Option.some-ne-none v (sym e))

    pub keeps_start : Keeps stands shape (opening ws xs (dealer shape 0))
    keeps_start = record {
      opens = opens;
      few_rows = few_rows;
      fits = fits;
      sized = sized;
      counts = λ r row. subst (λ (n : ℕ). unwrap_or (count_of n) 0 ≤ shape.layout.offers) (sym (words.blank r 1 row (omega arith))) (none_told shape.layout.offers);
      moves = [];
      interleaved = record { made = λ id v e. one_view id v e; no_others = λ id h. refl };
      start = begun;
      begins = begins;
      world = begun;
      played = refl;
      table = refl;
      owner = λ r. 0;
      knows = knows_at;
      seated = seated_start shape;
      gathers = gathers_start (dealer shape 0) refl;
      firsts = λ id v e t. first_there id v e;
      started = λ some_first. starts-begin o shape.rows shape.passes begun low begins (HadStarted o) (acts_in stands shape.first.value.items).starts (λ t stamp h. h);
      ended = λ some_first. ends-begin o shape.rows shape.passes begun low begins (HadEnded o) (acts_in stands shape.first.value.items).ends (λ t h. h);
      housed = house;
      results = no_results;
    }

-- THE ROWS OF ONE SEAT
abbrev IsDealt : Opening → ℕ → ℕ → ℕ → Row → Type 0
IsDealt o n passes k r = (r.sync ≡ 0) × (r.thread < n) × (falls_to o passes k r.thread ≡ true)

has_one : (o : Opening) (t passes k : ℕ) (r : Row) (rs : List Row) (b : Bool) → falls_to o passes k t ≡ b → (Has rs r → IsDealt o t passes k r) → Has (cond b (first_row t ∷ rs) rs) r → IsDealt o (suc t) passes k r
has_one o t passes k r rs true e rest (inl f) =
    (ap (λ (y : Row). y.sync) (sym f), (let same : t ≡ r.thread = ap (λ (y : Row). y.thread) f in omega arith), ap (λ (y : Row). falls_to o passes k y.thread) (sym f) ∙ e)
has_one o t passes k r rs true e rest (inr g) = let i = rest g in (i.0, omega arith, i.2)
has_one o t passes k r rs false e rest g = let i = rest g in (i.0, omega arith, i.2)

pub has_dealt : (o : Opening) (n passes k : ℕ) (r : Row) → Has (dealt_from o n passes k) r → IsDealt o n passes k r
has_dealt o zero passes k r h = absurd h
has_dealt o (suc t) passes k r h = has_one o t passes k r (dealt_from o t passes k) (falls_to o passes k t) refl (λ g. has_dealt o t passes k r g) h

one_has : (o : Opening) (t passes k : ℕ) (r : Row) (rs : List Row) (b : Bool) → falls_to o passes k t ≡ b → IsDealt o (suc t) passes k r → (IsDealt o t passes k r → Has rs r) → Has (cond b (first_row t ∷ rs) rs) r
one_has o t passes k r rs true e d rest = ⊎_elim
    (λ (h : r.thread ≡ t). inl (same_row (first_row t) r (sym h) (sym d.0)))
    (λ (h : r.thread < t). inr (rest (d.0, h, d.2)))
    (Rattle.std.proofs.Math.Nat.eq-or-lt_of_le (let l = d.1 in let m : r.thread ≤ t = omega arith in m))
one_has o t passes k r rs false e d rest = ⊎_elim
    (λ (h : r.thread ≡ t). let bad : true ≡ false = sym d.2 ∙ ap (falls_to o passes k) h ∙ e in cc)
    (λ (h : r.thread < t). rest (d.0, h, d.2))
    (Rattle.std.proofs.Math.Nat.eq-or-lt_of_le (let l = d.1 in let m : r.thread ≤ t = omega arith in m))

pub dealt_has : (o : Opening) (n passes k : ℕ) (r : Row) → IsDealt o n passes k r → Has (dealt_from o n passes k) r
dealt_has o zero passes k r d = let l = d.1 in absurd (omega arith)
dealt_has o (suc t) passes k r d = one_has o t passes k r (dealt_from o t passes k) (falls_to o passes k t) refl d (λ e. dealt_has o t passes k r e)

-- one thread more
pub dealt_more : (o : Opening) (t passes k : ℕ) (b : Bool) → falls_to o passes k t ≡ b → dealt_from o (t + 1) passes k ≡ cond b (first_row t ∷ dealt_from o t passes k) (dealt_from o t passes k)
dealt_more o t passes k b e = ap (λ (n : ℕ). dealt_from o n passes k) (let next : t + 1 ≡ suc t = omega arith in next) ∙ ap (λ (c : Bool). cond c (first_row t ∷ dealt_from o t passes k) (dealt_from o t passes k)) e

-- a thread that falls to the seat
pub falls : (o : Opening) (passes k t : ℕ) → falls_to o passes k t ≡ true → RunsIn o t × (t % passes ≡ k)
falls o passes k t e =
    let a = and_parts (is_running (thread_in o t).0) (eqb (t % passes) k) e in
    (a.0, eqb-true (t % passes) k a.1)

pub falls_from : (o : Opening) (passes k t : ℕ) → RunsIn o t → t % passes ≡ k → falls_to o passes k t ≡ true
falls_from o passes k t runs is = and_from (is_running (thread_in o t).0) (eqb (t % passes) k) runs (eq-eqb (t % passes) k is)

-- what stands at first in the drafts of a pass
no_offers_of : (rows : List Row) (r : Row) (p x : ℕ) → Has (no_offers rows) (r, p, x) → Has rows r × (p ≡ 1) × (x ≡ 0)
no_offers_of [] r p x h = absurd h
no_offers_of (q ∷ rows) r p x (inl e) = (inl (ap (λ (z : Row × ℕ × ℕ). z.0) e), ap (λ (z : Row × ℕ × ℕ). z.1) (sym e), ap (λ (z : Row × ℕ × ℕ). z.2) (sym e))
no_offers_of (q ∷ rows) r p x (inr h) = let n = no_offers_of rows r p x h in (inr n.0, n.1, n.2)

pub nothing_open : (y : Layout) (held : List Row) → OpenHaveWords y (seen_nothing held)
unfolding OpenHaveWords
nothing_open y held r h = ⊎_elim (λ (opened : ⊥). absurd opened) (λ (read : (p : ℕ) × (x : ℕ) × ⊥). absurd read.2) h

-- and it agrees with itself
pub nothing_agrees : (threads rows : ℕ) (held : List Row) → Coherent threads rows (seen_nothing held)
nothing_agrees threads rows held = record {
  formed = λ r p x h. absurd h;
  one_word = λ r p x y h. absurd h;
  one_draft = λ r p x y g h. (no_offers_of held r p x g).2 ∙ sym (no_offers_of held r p y h).2;
  as_drafted = λ r p x y g h. absurd h;
  one_joined = λ r i j h. absurd h;
  in_range = λ r j h. absurd h;
  alone = λ r j mine h. absurd h;
  inside = λ r j p h. absurd h;
  chosen = λ r n count c h. absurd h;
  meet = λ r j p mine theirs h. absurd h;
  one_bound = λ n a b h. absurd h;
  one_carried = λ n a b h. absurd h;
  apart = λ n b stamp h. absurd h;
  one_start = λ t a b h. absurd h;
  started = λ t s h. absurd h;
  one_end = λ t a b h. absurd h;
  ended = λ t g h. absurd h;
  bound = λ n b h. absurd h;
  carried = λ n stamp h. absurd h;
}

module _ {M : Type 0} where
  -- a new pass has made nothing yet
  pub one_more_pass : (moves : List Move) (vs : List (View M)) (v : View M) → Interleaves moves vs → v.made ≡ [] → Interleaves moves (vs ++ v ∷ [])
  one_more_pass moves vs v before nothing = record {
    made = λ j u e. ⊎_elim
        (λ (old : get_elem? vs j ≡ some u). before.made j u old)
        (λ (new : (j ≡ length vs) × (v ≡ u)).
        let past : length vs ≤ j = let h = new.0 in omega arith in
        before.no_others j past ∙ ap (at_seat v.seat) (sym nothing) ∙ ap (λ (z : View M). at_seat z.seat z.made) new.1)
        (at_end vs v u j e);
    no_others = λ j h.
        let size : length (vs ++ v ∷ []) ≡ length vs + 1 = length-append vs (v ∷ []) in
        before.no_others j (omega arith);
  }

module _ {M : Type 0} (stands : Stands M) where
  module _ (shape : Shape M) (id k : ℕ) (below : k < shape.passes) (some_threads : 0 < shape.threads) (s : State (Option M) (View M)) (h : Keeps stands shape s) (view : get_elem? s.views id ≡ some (dealer shape k)) where
    was : Knows {M = M} h.world h.owner id (dealer shape k)
    was = h.knows id (dealer shape k) view some_threads

    abbrev new : ℕ
    new = length s.views

    abbrev is_dealt : Row → Bool
    is_dealt r = eqb r.sync 0 && (ltb r.thread shape.threads && falls_to (opening_in shape) shape.passes k r.thread)

    abbrev owner' : Row → ℕ
    owner' r = cond (is_dealt r) new (h.owner r)

    mod_seats : (t : ℕ) → t % h.world.seats ≡ t % shape.passes
    mod_seats t = ap (λ (n : ℕ). t % n) (sym was.passes)

    -- the rows that are dealt were the dealer's
    dealt_his : (r : Row) → is_dealt r ≡ true → h.owner r ≡ id
    dealt_his r e =
        let a = and_parts (eqb r.sync 0) _ e in
        let b = and_parts (ltb r.thread shape.threads) (falls_to (opening_in shape) shape.passes k r.thread) a.1 in
        let f = falls (opening_in shape) shape.passes k r.thread b.1 in
        let m : k ≡ r.thread % h.world.seats = sym (mod_seats r.thread ∙ f.1) in
        let u = was.undealt r.thread (subst (λ (n : ℕ). r.thread < n) was.threads (ltb-true _ _ b.0)) f.0 (omega arith) in
        ap h.owner (same_row r (first_row r.thread) refl (eqb-true r.sync 0 a.0)) ∙ u.0

    kept_owner : (j : ℕ) → j ≢ id → (r : Row) → h.owner r ≡ j → owner' r ≡ j
    kept_owner j n r e = ⊎_elim
        (λ (d : is_dealt r ≡ true). absurd (n (sym e ∙ dealt_his r d)))
        (λ (d : is_dealt r ≡ false). ap (λ (b : Bool). cond b new (h.owner r)) d ∙ e)
        (cases_Bool (is_dealt r))

    some_seats : 0 < h.world.seats
    some_seats = was.seat

    left : Knows {M = M} h.world owner' id (dealer shape (k + 1))
    left = knows_nothing h.world owner' id shape (k + 1) was.threads was.rows was.passes some_seats (λ t i at_once d.
        let u = was.undealt t i at_once (omega arith) in
        let m = mod_seats t in
        (ap (λ (b : Bool). cond b new (h.owner (first_row t))) (ap (λ (b : Bool). ltb t shape.threads && (is_running (thread_in (opening_in shape) t).0 && b)) (ne_eqb (t % shape.passes) k (λ e. omega arith)) ∙ ap (λ (b : Bool). ltb t shape.threads && b) (and-false (is_running (thread_in (opening_in shape) t).0)) ∙ and-false (ltb t shape.threads)) ∙ u.0, u.1, u.2 (λ z. z), u.3 (λ l. l.1), u.4, u.5 (λ z. z)))
        was.settled

    dealt_row : (r : Row) → Has (dealt_from (opening_in shape) shape.threads shape.passes k) r → (owner' r ≡ new) × (holder_at h.world r ≡ Some k) × (cell_at h.world.table r ≡ Fresh) × (word_at h.world.table r 1 ≡ 0) × ((n : NackName) (b : Binding) → binding_at h.world.table n ≡ Some b → bound_row n b ≢ r) × ((g : ℕ) → EndsAt (course_at h.world.table r.thread) g → ⊥)
    dealt_row r i =
        let d = has_dealt (opening_in shape) shape.threads shape.passes k r i in
        let f = falls (opening_in shape) shape.passes k r.thread d.2 in
        let m : r.thread % h.world.seats ≡ k = mod_seats r.thread ∙ f.1 in
        let same : first_row r.thread ≡ r = same_row (first_row r.thread) r refl (sym d.0) in
        let u = was.undealt r.thread (subst (λ (n : ℕ). r.thread < n) was.threads d.1) f.0 (omega arith) in (
          ap (λ (b : Bool). cond b new (h.owner r)) (and_from _ _ (eq-eqb r.sync 0 d.0) (and_from _ _ (lt-ltb r.thread shape.threads d.1) d.2)),
          ap (holder_at h.world) (sym same) ∙ u.1 ∙ ap Some m,
          ap (cell_at h.world.table) (sym same) ∙ u.2 (λ z. z),
          ap (λ (q : Row). word_at h.world.table q 1) (sym same) ∙ u.3 (λ l. l.1),
          (λ n b e is. u.4 n b e (is ∙ sym same)),
          u.5 (λ z. z),
        )

    its_pass : Knows {M = M} h.world owner' new (dealt_pass (dealer shape k))
    its_pass = record {
      threads = was.threads;
      rows = was.rows;
      passes = was.passes;
      seat = subst (λ (n : ℕ). k < n) was.passes below;
      undealt = λ t i at_once d. let m = mod-lt t some_seats in let p = was.passes in absurd (omega arith);
      mine = λ r i. let g = dealt_row r i in (g.0, g.1);
      calm = λ r i e. let g = dealt_row r i in let bad : Fresh ≡ Claimed = sym g.2 ∙ e in cc;
      staged = tt;
      fresh = λ r i n. (dealt_row r i).2;
      drafted = λ r p x i.
          let n = no_offers_of (dealt_from (opening_in shape) shape.threads shape.passes k) r p x i in
          let g = dealt_row r n.0 in
          let q = n.1 in
          (g.0, (omega arith), (omega arith), g.1, ap (word_at h.world.table r) n.1 ∙ g.3 ∙ sym n.2);
      opened = λ r i. absurd i;
      read = λ r p x i. absurd i;
      joined = λ r j i. absurd i;
      taken = λ r i. absurd i;
      bound = λ n b i. absurd i;
      carried = λ n stamp i. absurd i;
      settled = was.settled;
      started = λ t s i. absurd i;
      ended = λ t g i. absurd i;
      lasts = λ t i. absurd i;
      lively = λ r i n g e. absurd ((dealt_row r i).5 g e);
      binds = λ n b e i. absurd ((dealt_row (bound_row n b) i).4 n b e refl);
    }

    -- the rows of the new pass were the dealer's to deal
    was_to_deal : (r : Row) → Has (dealt_from (opening_in shape) shape.threads shape.passes k) r ⊎ ((r.thread < shape.threads) × RunsIn (opening_in shape) r.thread × (shape.passes ≤ r.thread % shape.passes))
        → (r.thread < shape.threads) × RunsIn (opening_in shape) r.thread × (k ≤ r.thread % shape.passes)
    was_to_deal r (inl held) =
        let d = has_dealt (opening_in shape) shape.threads shape.passes k r held in
        let f = falls (opening_in shape) shape.passes k r.thread d.2 in
        (d.1, f.0, let e = f.1 in omega arith)
    was_to_deal r (inr d) = let one_pass : 0 < shape.passes = omega arith in let m = mod-lt r.thread one_pass in let far = d.2 in absurd (omega arith)

    at_old : (j : ℕ) (u : View M) → get_elem? (slice_set s.views id (dealer shape (k + 1))) j ≡ some u → 0 < u.threads → Knows h.world owner' j u
    at_old j u e t = ⊎_elim
        (λ (a : (j ≡ id) × (dealer shape (k + 1) ≡ u)). subst (λ (z : ℕ × (View M)). Knows h.world owner' z.0 z.1) (λ i. (sym a.0 i, a.1 i)) left)
        (λ (a : (j ≢ id) × (get_elem? s.views j ≡ some u)). knows_owned h.world h.owner owner' j u (world_kept stands shape s h) (λ r held o. kept_owner j a.0 r o) (λ t last o. kept_owner j a.0 (behind_last h.world.table.rows t) o) (h.knows j u a.1 t))
        (at_set s.views id j (dealer shape (k + 1)) u e)

    -- the dealer stands aside, and the new pass has a seat that nobody has
    dealer_on : Seated (slice_set s.views id (dealer shape (k + 1)))
    dealer_on = seated_set s.views id (dealer shape k) (dealer shape (k + 1)) view (record {
      acts = λ t moves. absurd (moves refl);
      deals = λ t d. (t, below, omega arith);
      well = record { aside = λ e. (refl, refl); gone = λ e. refl; binders = λ n r scope no. absurd no; begun = λ r no. absurd no };
    }) h.seated

    -- those seats are below it
    dealing : (id ≡ 0) × ((j : ℕ) (u : View M) → get_elem? s.views j ≡ some u → 0 < u.threads → u.stage ≢ Aside → u.seat < k)
    dealing = h.seated.dealing id (dealer shape k) view some_threads below

    acting : (j : ℕ) (u : View M) → get_elem? (slice_set s.views id (dealer shape (k + 1))) j ≡ some u → 0 < u.threads → u.stage ≢ Aside → u.seat < k
    acting j u e t moves = ⊎_elim
        (λ (a : (j ≡ id) × (dealer shape (k + 1) ≡ u)). absurd (moves (ap (λ (z : View M). z.stage) (sym a.1))))
        (λ (a : (j ≢ id) × (get_elem? s.views j ≡ some u)). dealing.1 j u a.1 t moves)
        (at_set s.views id j (dealer shape (k + 1)) u e)

    still_dealing : (i : ℕ) (u : View M) → get_elem? (slice_set s.views id (dealer shape (k + 1))) i ≡ some u → 0 < u.threads → u.dealt < u.passes → k < u.dealt
    still_dealing i u e t d = ⊎_elim
        (λ (a : (i ≡ id) × (dealer shape (k + 1) ≡ u)). let one : k + 1 ≡ u.dealt = ap (λ (z : View M). z.dealt) a.1 in omega arith)
        (λ (a : (i ≢ id) × (get_elem? s.views i ≡ some u)). absurd (a.0 ((h.seated.dealing i u a.1 t d).0 ∙ sym dealing.0)))
        (at_set s.views id i (dealer shape (k + 1)) u e)

    new_seat : Seated (slice_set s.views id (dealer shape (k + 1)) ++ dealt_pass (dealer shape k) ∷ [])
    new_seat = seated_more (slice_set s.views id (dealer shape (k + 1))) (dealt_pass (dealer shape k))
        (record { aside = λ e. let bad : Resting ≡ Aside = e in cc; gone = λ e. refl; binders = λ n r scope no. absurd no; begun = λ r no. absurd no })
        (λ d. omega arith)
        (λ t moves j u e s q same. let low = acting j u e s q in absurd (omega (arith, low, same)))
        (λ t moves i u e s d. still_dealing i u e s d)
        dealer_on

    deals : Keeps stands shape (record { words = s.words; homes = s.homes; views = slice_set s.views id (dealer shape (k + 1)) ++ dealt_pass (dealer shape k) ∷ [] })
    deals = record {
      opens = h.opens;
      few_rows = h.few_rows;
      fits = h.fits;
      sized = h.sized;
      counts = h.counts;
      moves = h.moves;
      interleaved = one_more_pass h.moves (slice_set s.views id (dealer shape (k + 1))) (dealt_pass (dealer shape k))
          (same_made h.moves s.views id (dealer shape k) (dealer shape (k + 1)) view h.interleaved refl) refl;
      start = h.start;
      begins = h.begins;
      world = h.world;
      played = h.played;
      table = h.table;
      owner = owner';
      knows = λ j u e t. ⊎_elim (λ old. at_old j u old t) (λ now. subst (λ (z : ℕ × (View M)). Knows h.world owner' z.0 z.1) (λ i. (sym (now.0 ∙ length-set s.views id (dealer shape (k + 1))) i, now.1 i)) its_pass) (at_end (slice_set s.views id (dealer shape (k + 1))) (dealt_pass (dealer shape k)) u j e);
      seated = new_seat;
      gathers = gathers_more (slice_set s.views id (dealer shape (k + 1))) (dealt_pass (dealer shape k)) refl (gathers_set s.views id (dealer shape k) (dealer shape (k + 1)) view refl (λ e. (refl, e, refl, refl)) h.gathers);
      firsts = λ j u e t. ⊎_elim
          (λ old. firsts_with s.views id (dealer shape k) (dealer shape (k + 1)) (shape.first.value.items, opening_in shape, shape.layout) view refl some_threads h.firsts j u old t)
          (λ now. ap (λ (z : View M). beginning z) (sym now.1))
          (at_end (slice_set s.views id (dealer shape (k + 1))) (dealt_pass (dealer shape k)) u j e);
      started = h.started;
      ended = h.ended;
      housed = λ some_first.
          let before = h.housed some_first in
          housed_more stands shape.first.value.items h.world s.homes (slice_set s.views id (dealer shape (k + 1))) (dealt_pass (dealer shape k))
          (housed_view stands shape.first.value.items h.world s.homes s.views id (dealer shape k) (dealer shape (k + 1)) view some_threads (λ r b. (b.0, ⊎_elim (λ (no : ⊥). absurd no) (λ (d : (r.thread < shape.threads) × RunsIn (opening_in shape) r.thread × (k + 1 ≤ r.thread % shape.passes)). inr (d.0, d.1, (let far = d.2 in omega arith))) b.1, b.2)) before)
          (λ r b. before.waiting id (dealer shape k) r view some_threads (b.0, inr (was_to_deal r b.1), λ no. no));
      results = λ j u t rs e i. ⊎_elim
          (λ old. ⊎_elim
          (λ (a : (j ≡ id) × (dealer shape (k + 1) ≡ u)). absurd (subst (λ (z : View M). Has z.results (t, rs)) (sym a.1) i))
          (λ (a : (j ≢ id) × (get_elem? s.views j ≡ some u)). h.results j u t rs a.1 i)
          (at_set s.views id j (dealer shape (k + 1)) u old))
          (λ now. absurd (subst (λ (z : View M). Has z.results (t, rs)) (sym now.1) i))
          (at_end (slice_set s.views id (dealer shape (k + 1))) (dealt_pass (dealer shape k)) u j e);
    }

  pub deal_allowed : (shape : Shape M) (id k : ℕ) → k < shape.passes → 0 < shape.threads → Splits {S = Option M} (Keeps stands shape) id (dealer shape k) (dealer shape (k + 1)) (dealt_pass (dealer shape k))
  deal_allowed shape id k below some_threads s h view = deals shape id k below some_threads s h view

-- a table has some words
pub some_words : (y : Layout) (threads : ℕ) → 1 ≤ threads → 0 < words_below y threads
some_words y zero h = absurd (omega arith)
some_words y (suc t) h = omega arith

-- one more in a list that is read by number
pub each_more : {A : Type 0} (P : ℕ → A → Type 0) (xs ys : List A) (x : A) (n : ℕ) → length xs ≡ n → ys ≡ xs ++ x ∷ [] → P n x → ((k : ℕ) (y : A) → slice_get xs k ≡ Some y → P k y) → (k : ℕ) (y : A) → slice_get ys k ≡ Some y → P k y
each_more P xs ys x n len is last before k y e = ⊎_elim
    (λ (h : slice_get xs k ≡ Some y). before k y h)
    (λ (h : (k ≡ length xs) × (x ≡ y)). subst (λ (z : ℕ × _). P z.0 z.1) (λ i. (sym (h.0 ∙ len) i, h.1 i)) last)
    (get_end xs x y k (ap (λ (l : List _). slice_get l k) (sym is) ∙ e))
  where
    get_end : {A : Type 0} (l : List A) (a b : A) (j : ℕ) → slice_get (l ++ a ∷ []) j ≡ Some b → (slice_get l j ≡ Some b) ⊎ ((j ≡ length l) × (a ≡ b))
    get_end [] a b zero e = inr (refl, Rattle.protocol_ledger.proofs.Linking.some_inj a b e)
    get_end [] a b (suc j) e = let bad : None ≡ Some b = e in cc
    get_end (x ∷ xs) a b zero e = inl e
    get_end (x ∷ xs) a b (suc j) e = ⊎_elim (λ h. inl h) (λ h. inr (ap suc h.0, h.1)) (get_end xs a b j e)
