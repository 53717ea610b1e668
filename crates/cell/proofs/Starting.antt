-- What a pass has seen once it has started a thread, or found it started.
use Rattle.std.proofs.Common.{◌≡◌, ◌≢◌, ◌⊎◌, ◌∙◌, ℕ, true, false, List, sym, refl, ap, subst, inl, inr, ⊎_elim}
use Rattle.protocol_values.specs.declared.Course.{Course}
use Rattle.protocol_values.specs.declared.Course.TheVariants.{Unstarted, Running, Ended}
use Rattle.protocol_values.specs.declared.Row.{Row}
use Rattle.protocol_ledger.specs.Acting.{EndsAt}
use Rattle.cell.specs.Attempts.{LearnsLast, Started}
use Rattle.cell_table.specs.declared.board.Board.{Board}
use Rattle.cell_table.specs.declared.view.View.{View}
use Rattle.cell_table.specs.Told.{AgreesLife}
use Rattle.cell_table.specs.declared.view.Seen.{Seen}
use Rattle.cell_table.specs.Sight.{Has, HasSeenLast, IsBefore, IsExpectedCourse, IsStand, IsUnseen, Learns, LearnsOf, SawEnded, see_course, see_start}
use Rattle.cell.proofs.Learning.{learns_course, learns_then, learns_wider, lives_wider}

-- what was not seen then was not seen before
unseen_before : {Nacks : _} {Lives : ℕ → Type 0} (About : Row → Type 0) (s t : Seen) (p : ℕ) → LearnsOf About Nacks Lives s t → IsUnseen t p → IsUnseen s p
unseen_before About s t p l u = record {
  held = λ r h. u.held r (subst (λ (rs : List Row). Has rs r) (sym l.held) h);
  opened = λ r h. u.opened r (l.opened.0 r h);
  begun = λ r h. u.begun r (subst (λ (rs : List Row). Has rs r) (sym l.begun) h);
  lasts = λ h. u.lasts (subst (λ (ts : List ℕ). Has ts p) (sym l.lasts) h);
  bound = λ n b h. u.bound n b (l.bound.0 (n, b) h);
  started = λ stamp h. u.started stamp (l.started.0 (p, stamp) h);
  ended = λ h. u.ended (h.0, l.ended.0 (p, h.0) h.1);
}

-- a course that has begun was seen so
pub course_begun : (p : ℕ) (c : Course) (s : Seen) → c ≢ Unstarted → (stamp : ℕ) × Has (see_course p c s).started (p, stamp)
course_begun p Unstarted s n = absurd (n refl)
course_begun p (Running start) s n = (start, inl refl)
course_begun p (Ended start sync) s n = (start, inl refl)

module _ (before stood u after : Seen) (r : Row) (p start stamp : ℕ) (turned : stood ≡ see_course r.thread (Running start) before) (learns : Learns (IsBefore r) stood u) (last : HasSeenLast u r stamp) (going : ¬ SawEnded before r.thread) (other : r.thread ≢ p) where
  learns_last : LearnsLast r before u
  learns_last =
      learns_then (IsBefore r) before stood u
      (learns_wider (λ q. ⊥) (IsBefore r) before stood (λ q h. absurd h) (subst (λ (s : Seen). LearnsOf (λ q. ⊥) (λ n. ⊥) (λ t. t ≡ r.thread) before s) (sym turned) (learns_course r.thread (Running start) before)))
      (lives_wider (IsBefore r) (λ t. ⊥) (λ t. t ≡ r.thread) stood u (λ t h. absurd h) learns)

  -- nothing was learnt of an end
  still : ¬ SawEnded u r.thread
  still h = ⊎_elim
      (λ (old : Has stood.ended (r.thread, h.0)). going (h.0, subst (λ (s : Seen). Has s.ended (r.thread, h.0)) turned old))
      (λ (none : ⊥). none)
      (learns.ended.1 (r.thread, h.0) h.1)

  still_course : (c : Course) → ¬ SawEnded (see_course p c u) r.thread
  still_course Unstarted h = still h
  still_course (Running s) h = still h
  still_course (Ended s g) h = ⊎_elim
      (λ (e : (p, g) ≡ (r.thread, h.0)). other (sym (ap (λ (z : ℕ × ℕ). z.0) e)))
      (λ (old : Has u.ended (r.thread, h.0)). still (h.0, old))
      h.1

  pub started_now : after ≡ see_start p stamp u → IsUnseen u p → Started before after r p true
  started_now is unseen = (u, stamp, learns_last, last, is, unseen_before (IsBefore r) before u p learns_last unseen, subst (λ (s : Seen). ¬ SawEnded s r.thread) (sym is) still)

  -- where the pass holds a row of the other thread that is not opened, it has learnt nothing of that one's end
  still_going : (rows : ℕ) (c : Course) → IsExpectedCourse rows u p c → (q : Row) → q.thread ≡ p → Has before.held q → ¬ Has before.opened q → SawEnded (see_course p c u) p → SawEnded before p
  still_going rows c expected q same held fresh ended = back (seen_then c expected ended)
    where
      stand : IsStand rows u q
      stand = inl (
        subst (λ (l : List Row). Has l q) (sym learns_last.held) held,
        λ o. ⊎_elim (λ (old : Has before.opened q). fresh old) (λ (b : IsBefore r q). other (sym b.0 ∙ same)) (learns_last.opened.1 q o),
      )

      seen_then : (d : Course) → IsExpectedCourse rows u p d → SawEnded (see_course p d u) p → SawEnded u p
      seen_then Unstarted e h = h
      seen_then (Running s) e h = h
      seen_then (Ended s g) e h = ⊎_elim
          (λ (new : (p, g) ≡ (p, h.0)). (g, (e.stands q same stand).1 g refl))
          (λ (old : Has u.ended (p, h.0)). (h.0, old))
          h.1

      back : SawEnded u p → SawEnded before p
      back h = ⊎_elim
          (λ (old : Has before.ended (p, h.0)). (h.0, old))
          (λ (life : p ≡ r.thread). absurd (other (sym life)))
          (learns_last.ended.1 (p, h.0) h.1)

  pub started_before : (rows : ℕ) (c : Course) → c ≢ Unstarted → IsExpectedCourse rows u p c → after ≡ see_course p c u → Started before after r p false
  started_before rows c begun expected is = (
    learns_then (IsBefore r) before u after
        (lives_wider (IsBefore r) (λ t. t ≡ r.thread) (λ t. (t ≡ r.thread) ⊎ (t ≡ p)) before u (λ t e. inl e) learns_last)
        (subst (λ (s : Seen). LearnsOf (IsBefore r) (λ n. ⊥) (λ t. (t ≡ r.thread) ⊎ (t ≡ p)) u s) (sym is)
        (lives_wider (IsBefore r) (λ t. t ≡ p) (λ t. (t ≡ r.thread) ⊎ (t ≡ p)) u (see_course p c u) (λ t e. inr e)
        (learns_wider (λ q. ⊥) (IsBefore r) u (see_course p c u) (λ q h. absurd h) (learns_course p c u)))),
    subst (λ (s : Seen). (stamp : ℕ) × Has s.started (p, stamp)) (sym is) (course_begun p c u begun),
    subst (λ (s : Seen). ¬ SawEnded s r.thread) (sym is) (still_course c),
    λ q same held fresh ended. still_going rows c expected q same held fresh (subst (λ (s : Seen). SawEnded s p) is ended),
  )

-- a pass stands at a place of a thread that has started, and of which it would have seen the end
pub never_here : {M : Type 0} (b : Board M) (v : View M) (r : Row) (c : Course) → v.rows ≡ b.shape.rows → IsStand b.shape.rows v.seen r → (¬ SawEnded v.seen r.thread) → AgreesLife v r.thread c
    → (c ≡ Unstarted) ⊎ ((start : ℕ) × (sync : ℕ) × (c ≡ Ended start sync)) → ⊥
never_here b v r c rows stand going agrees is =
    let stands = agrees.stands r refl (subst (λ (n : ℕ). IsStand n v.seen r) (sym rows) stand) in ⊎_elim
    (λ (none : c ≡ Unstarted). stands.0 none)
    (λ (over : (start : ℕ) × (sync : ℕ) × (c ≡ Ended start sync)). going (over.1, stands.1 over.1 (subst (λ (d : Course). EndsAt d over.1) (sym over.2) refl)))
    is
