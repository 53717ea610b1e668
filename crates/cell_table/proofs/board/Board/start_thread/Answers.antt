use Rattle.std.proofs.Common.{rules, ◌≡◌, ◌≢◌, ◌<◌, length, ◌∙◌, refl, subst, sym, ap, eqb, ⊎_elim, ℕ}
use Rattle.std.proofs.lemmas.Bool.{cases_eq, eq-eqb, eqb-true, true≢false}
use mathlib.Core.Option.{none}
use prog.Atomic.{either}
use Rattle.atomic_table.specs.Table.{Allows, step}
use Rattle.protocol_values.specs.declared.Row.{Row}
use Rattle.protocol_values.specs.declared.Course.TheVariants.{Unstarted}
use Rattle.protocol_values.specs.Words.{course_word}
use Rattle.cell_table.specs.declared.view.Shape.{Shape}
use Rattle.cell_table.specs.Rule.{IsStarting, Keeps}
use Rattle.cell_table.specs.Sight.{HasSeenLast, IsExpectedCourse, IsUnseen}
use Rattle.cell_table.specs.declared.view.View.{View}
use Rattle.cell_table.specs.Seats.{StaysSeated}
use Rattle.cell_table.specs.Told.{AgreesLife, AgreesWithItself, course_read, tried_start}
use Rattle.cell_table.specs.Views.{saw_course, started_thread}
use Rattle.cell_table.proofs.Allowing.{sits_still}
use Rattle.cell_table.proofs.Starts.{start_allowed}
use Rattle.cell_table.proofs.board.Board.start_thread.Goals as goal

pub compare_exchange-found-requires : goal.compare_exchange-found-requires
compare_exchange-found-requires g c = (
  search rules,
  search rules,
  subst (λ (z : Shape g.row.M.Denot × ℕ × ℕ). Allows (Keeps g.M.Resident.stands z.0) c.args.self.now.words.shared.table_id.slots c.args.seat.now.id c.args.seat.now.me c.life_place.result (λ n. either (eqb n z.1) z.2 n) (tried_start (step c.args.self.now.words.shared.table_id.slots c.life_place.result z.1 z.2 none) c.args.seat.now.me)) (λ i. (sym c.args.self.now.keyed i, sym c.pack_course-unstarted.ensures i, sym c.pack_course-started.ensures i))
      (start_allowed g.M.Resident.stands c.args.self.now.shape c.args.self.now.words.shared.table_id.slots c.args.seat.now.id c.life_place.result c.args.seat.now.me c.args.thread (search rules) (search rules) (search rules) (search rules) (search rules)
      (subst (λ (r : Row). 0 < length c.args.self.now.shape.first.value.items → IsStarting g.M.Resident.stands c.args.self.now.shape.first.value.items c.args.seat.now.me.0.results r c.args.thread) (sym c.requires.stands.0) c.requires.starting) (search rules) c.requires.resting (search rules) (search rules) (search rules) (search rules) c.args.stamp (subst (λ (r : Row). HasSeenLast c.args.seat.now.me.0.seen r c.args.stamp) (sym c.requires.stands.0) c.requires.stamp) (search rules)),
)

-- what the step told the pass
told : (g : _) (c : goal.After-compare_exchange-found g)
    → (c.compare_exchange-found.result ≡ course_word Unstarted → (c.compare_exchange-found.new.seat.me ≡ (started_thread c.args.thread c.args.stamp c.args.seat.now.me.0, c.args.seat.now.me.1)) × IsUnseen c.args.seat.now.me.0.seen c.args.thread)
    × (c.compare_exchange-found.result ≢ course_word Unstarted → (c.compare_exchange-found.new.seat.me ≡ (saw_course c.args.thread (course_read c.compare_exchange-found.result) c.args.seat.now.me.0, c.args.seat.now.me.1)) × (course_read c.compare_exchange-found.result ≢ Unstarted) × AgreesLife c.args.seat.now.me.0 c.args.thread (course_read c.compare_exchange-found.result))
    × AgreesWithItself c.compare_exchange-found.new.seat.me.0
told g c = c.compare_exchange-found.ensures.2 c.args.thread c.args.stamp (search rules) (search rules) c.pack_course-started.ensures

pub returns-clause-sits : goal.returns-clause-sits
returns-clause-sits g c = ⊎_elim
    (λ (e : c.compare_exchange-found.result ≡ course_word Unstarted). sits _ ((told g c).0 e).0 refl refl refl refl refl refl)
    (λ (e : c.compare_exchange-found.result ≡ course_word Unstarted → ⊥). sits _ ((told g c).1 e).0 refl refl refl refl refl refl)
    (cases_eq c.compare_exchange-found.result (course_word Unstarted))
  where
    sits : (v : View g.row.M.Denot) → c.compare_exchange-found.new.seat.me ≡ (v, c.args.seat.now.me.1) → v.threads ≡ c.args.seat.now.me.0.threads → v.rows ≡ c.args.seat.now.me.0.rows → v.layout ≡ c.args.seat.now.me.0.layout → v.first ≡ c.args.seat.now.me.0.first
        → v.lives ≡ c.args.seat.now.me.0.lives → v.nacks ≡ c.args.seat.now.me.0.nacks → StaysSeated c.args.self.now c.args.seat.now c.compare_exchange-found.new.seat
    sits v is threads rows wide first lives nacks = ((search rules), sits_still c.args.self.now c.args.seat.now c.compare_exchange-found.new.seat (search rules) (search rules) (ap (λ z. z.0.threads) is ∙ threads) (ap (λ z. z.0.rows) is ∙ rows) (ap (λ z. z.0.layout) is ∙ wide) (ap (λ z. z.0.first) is ∙ first) (ap (λ z. z.0.lives) is ∙ lives) (ap (λ z. z.0.nacks) is ∙ nacks) (told g c).2, ap (λ z. z.1) is)

pub returns-clause-started : goal.returns-clause-started
returns-clause-started g c made =
    let t = (told g c).0 (eqb-true _ _ made ∙ c.pack_course-unstarted.ensures) in
    (ap (λ z. z.0) t.0, t.1)

pub returns-clause-found : goal.returns-clause-found
returns-clause-found g c lost =
    let other : c.compare_exchange-found.result ≢ course_word Unstarted = λ e. true≢false (sym (eq-eqb _ _ (e ∙ sym c.pack_course-unstarted.ensures)) ∙ lost) in
    let t = (told g c).1 other in
    (course_read c.compare_exchange-found.result, t.1, ap (λ z. z.0) t.0, subst (λ (rows : ℕ). IsExpectedCourse rows c.args.seat.now.me.0.seen c.args.thread (course_read c.compare_exchange-found.result)) (search rules) t.2)
