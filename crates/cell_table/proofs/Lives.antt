-- A look at a thread's life is admitted by the rule.
use Rattle.protocol_ledger.specs.Openings.{greatest}
use Rattle.std.proofs.Common.{◌≡◌, ◌≢◌, ◌<◌, ℕ, inl, inr, Option, slice_index, sym, refl, ap, ◌∙◌, subst, ⊎_elim, arith, List, slice_set}
use Rattle.std.proofs.lemmas.List.{set-get_or}
use mathlib.Core.Option.{none}
use Rattle.atomic_table.specs.Table.{Me, Allows, step, keeps, State}
use Rattle.protocol_values.specs.declared.Course.{Course}
use Rattle.protocol_values.specs.declared.Course.TheVariants.{Unstarted, Running, Ended}
use Rattle.protocol_values.specs.declared.Row.{Row}
use Rattle.protocol_ledger.specs.Kept.{Kept}
use Rattle.protocol_ledger.specs.Ledgers.{LivesAt}
use Rattle.protocol_ledger.specs.Standing.{Stands}
use Rattle.protocol_ledger.specs.Tables.{Table, course_at, course_place}
use Rattle.protocol_ledger.specs.Worlds.{World}
use Rattle.protocol_ledger.specs.Short.{short_course_place, wide_table, widen}
use Rattle.protocol_ledger.proofs.Short.{set_course, short_course}
use Rattle.cell_table.proofs.Shortness.{same_short_course}
use Rattle.protocol_ledger.proofs.Readings.{course_inside}
use Rattle.cell_table.specs.declared.view.View.{View}
use Rattle.cell_table.specs.declared.view.Shape.{Shape}
use Rattle.cell_table.specs.Sight.{Has, IsStand}
use Rattle.protocol_ledger.specs.Acting.{EndsAt}
use Rattle.cell_table.specs.Rule.{IsToBegin, Keeps}
use Rattle.cell_table.specs.Told.{AgreesLife, course_read, looked_life}
use Rattle.cell_table.specs.Views.{Knows, saw_course, opening_in}
use Rattle.cell_table.proofs.Following.{some_last, some_seat, stand_ends}
use Rattle.cell_table.proofs.Others.{learn_course}
use Rattle.cell_table.proofs.Seating.{Stays}
use Rattle.cell_table.proofs.Truths.{with_itself}
use Rattle.cell_table.proofs.Turning.{keeps_view, open_words, world_kept}

module _ {M : Type 0} where
  pub saw_stays : (p : ℕ) (c : Course) (v : View M) → Stays v (saw_course p c v)
  saw_stays p Unstarted v = (refl, refl, refl, refl, refl, λ q h. inl h)
  saw_stays p (Running start) v = (refl, refl, refl, refl, refl, λ q h. inl h)
  saw_stays p (Ended start sync) v = (refl, refl, refl, refl, refl, λ q h. inl h)

  pub saw_begins : (p : ℕ) (c : Course) (v : View M) (r : Row) → IsToBegin (saw_course p c v) r → IsToBegin v r
  saw_begins p Unstarted v r h = h
  saw_begins p (Running start) v r h = h
  saw_begins p (Ended start sync) v r h = h

  -- whose row a pass holds, or saw opened, has started
  pub agrees_life : (w : World) (owner : Row → ℕ) (id : ℕ) (v : View M) → Knows w owner id v → Kept w → (p : ℕ) → AgreesLife v p (course_at w.table p)
  agrees_life w owner id v k kept p = record {
    started = λ stamp h. k.started p stamp h;
    ended = λ g h. k.ended p g h;
    begun = λ r same seen. ⊎_elim
        (λ (held : Has v.seen.held r). subst (λ (t : ℕ). course_at w.table t ≢ Unstarted) same (kept.begun r (some_seat w r v.seat (k.mine r held).1)))
        (λ (opened : Has v.seen.opened r). λ e. subst (λ (c : Course). LivesAt c r.sync) (ap (course_at w.table) same ∙ e) (kept.linked.lived r (k.opened r opened)))
        seen;
    stands = λ r same stand. (
      subst (λ (t : ℕ). course_at w.table t ≢ Unstarted) same (stand_begun r stand),
      λ g e. subst (λ (t : ℕ). Has v.seen.ended (t, g)) same (stand_ends w owner id v k r stand g (subst (λ (t : ℕ). EndsAt (course_at w.table t) g) (sym same) e)),
    );
  }
    where
      stand_begun : (r : Row) → IsStand v.rows v.seen r → course_at w.table r.thread ≢ Unstarted
      stand_begun r (inl h) = kept.begun r (some_seat w r v.seat (k.mine r h.0).1)
      stand_begun r (inr h) = kept.begun_last r.thread (some_last w r.thread v.seat (k.lasts r.thread h.1).1)

module _ {M : Type 0} (stands : Stands M) where
  module _ (shape : Shape M) (slots id place : ℕ) (me : Me (Option M) (View M)) (p : ℕ)
      (threads : me.0.threads ≡ shape.threads) (rows : me.0.rows ≡ shape.rows) (wide : me.0.layout ≡ shape.layout) (inside : p < shape.threads) where
    pub look_life_allowed : place ≡ short_course_place shape.layout p → Allows (Keeps stands shape) slots id me place (λ n. n) (looked_life (step slots place 0 0 none) me)
    look_life_allowed here s k homes view range =
        let at_table : 0 < me.0.threads = omega (arith, threads, inside) in
        let known : Knows k.world k.owner id me.0 = k.knows id me.0 view at_table in
        let kept : Kept k.world = world_kept stands shape s k in
        let its : p < k.world.table.threads = subst (λ (n : ℕ). p < n) (sym (ap (λ (t : Table). t.threads) k.table)) inside in
        let word : slice_index k.world.table.words (course_place k.world.table.rows p) ≡ slice_index s.words place =
        ap (λ (t : Table). slice_index t.words (course_place t.rows p)) k.table ∙ short_course shape.layout shape.rows k.fits shape.threads s.words k.sized p inside ∙ ap (slice_index s.words) (sym here) in
        let c = course_read (slice_index s.words place) in
        let is : course_at k.world.table p ≡ c = course_inside k.world.table p its ∙ ap course_read word in
        let sees : Knows k.world k.owner id (saw_course p c me.0) = learn_course k.world k.owner id me.0 p c known is in (
          saw_course p c me.0,
          keeps,
          tt,
          keeps_view stands shape s k id me.0 (saw_course p c me.0) _ view at_table refl refl refl refl (saw_stays p c me.0) (λ r h. saw_begins p c me.0 r h) (set-get_or s.words place 0) sees,
          λ q at.
              let same : p ≡ q = same_short_course shape.layout p q (sym here ∙ at.1 ∙ (λ i. short_course_place (wide i) q)) in (
                ap (λ (n : ℕ). (saw_course n c me.0, me.1)) same,
                subst (λ (z : ℕ × Course). AgreesLife me.0 z.0 z.1) (λ i. (same i, is i)) (agrees_life k.world k.owner id me.0 known kept p),
                with_itself k.world k.owner id (saw_course p c me.0) sees kept (open_words stands shape s k wide),
              ),
        )

  -- the word of a thread's life is written where it stands
  pub wrote_life : (shape : Shape M) (s : State (Option M) (View M)) (k : Keeps stands shape s) (place t d : ℕ) → t < shape.threads → place ≡ short_course_place shape.layout t
      → ◌≡◌ {A = Table} (record { threads = shape.threads; rows = shape.rows; words = slice_set (widen shape.layout shape.rows shape.threads s.words) (course_place shape.rows t) d; opening = greatest (opening_in shape) })
      (wide_table shape.layout (record { threads = shape.threads; rows = shape.rows; words = slice_set s.words place d; opening = greatest (opening_in shape) }))
  wrote_life shape s k place t d inside here =
      ap (λ (ws : List ℕ). record { threads = shape.threads; rows = shape.rows; words = ws; opening = greatest (opening_in shape) })
      (sym (set_course shape.layout shape.rows k.fits shape.threads s.words k.sized t d inside) ∙ ap (λ (n : ℕ). widen shape.layout shape.rows shape.threads (slice_set s.words n d)) (sym here))
