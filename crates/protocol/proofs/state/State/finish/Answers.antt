use Rattle.std.proofs.Common.{arith, ◌≡◌, ap, sym, subst, refl, ◌∙◌}
use Rattle.protocol_values.specs.declared.Course.{Course}
use Rattle.protocol_values.specs.declared.Course.TheVariants.{Ended}
use Rattle.protocol_values.specs.declared.Step.TheVariants.{Finish}
use Rattle.protocol_values.specs.Words.{IsCourseInRange}
use Rattle.protocol_ledger.specs.Tables.{course_at, start_of}
use Rattle.protocol_ledger.specs.Worlds.{IsAlive, StandsAt, ended_at, with_course}
use Rattle.protocol_ledger.specs.Sheets.{table_of}
use Rattle.protocol.specs.States.{world_of}
use Rattle.protocol_ledger.proofs.Keeping.{end_in_range, kept_condition, stands_inside}
use Rattle.protocol.proofs.Telling.{tells_life}
use Rattle.protocol.proofs.Soundness.{sound_state}
use Rattle.protocol.proofs.state.State.finish.Goals as goal

pub overflow_cast-row : goal.overflow_cast-row
overflow_cast-row c =
    let w = world_of c.args.self.now in
    let inside = (stands_inside w c.args.seat c.args.row (c.stands_at.ensures.0 c.if-not-stands_at.false)).1 in
    let few = c.requires.kept.few_rows in
    omega arith

pub set_course-requires-clause-thread : goal.set_course-requires-clause-thread
set_course-requires-clause-thread c = (stands_inside (world_of c.args.self.now) c.args.seat c.args.row (c.stands_at.ensures.0 c.if-not-stands_at.false)).0

pub set_course-requires-clause-range : goal.set_course-requires-clause-range
set_course-requires-clause-range c =
    let w = world_of c.args.self.now in
    let stands : StandsAt w c.args.seat c.args.row = c.stands_at.ensures.0 c.if-not-stands_at.false in
    subst (λ n. IsCourseInRange (Ended n c.args.row.sync)) (sym (c.start_of-start.ensures ∙ ap start_of c.course.ensures)) (end_in_range w c.args.seat c.args.row c.requires.kept stands)

pub returns-clause-sound : goal.returns-clause-sound
returns-clause-sound c =
    let w = world_of c.args.self.now in
    let stands : StandsAt w c.args.seat c.args.row = c.stands_at.ensures.0 c.if-not-stands_at.false in
    let alive : IsAlive w c.args.row.thread = c.is_alive.ensures.0 c.if-not-is_alive.false in
    let ends : Course = ended_at (course_at w.table c.args.row.thread) c.args.row.sync in
    let written : table_of c.set_course.new.self ≡ with_course w.table c.args.row.thread ends =
    c.set_course.ensures.written ∙ ap (λ n. with_course w.table c.args.row.thread (Ended n c.args.row.sync)) (c.start_of-start.ensures ∙ ap start_of c.course.ensures) in
    sound_state _ w (with_course w.table c.args.row.thread ends) written refl refl refl
    (kept_condition w c.args.seat (Finish c.args.row) c.requires.kept (stands, alive))
    (tells_life w c.args.row.thread ends c.args.self.now.namers.items c.requires.told)
