use Rattle.std.proofs.Common.{◌≡◌, ◌<◌, ℕ, List, Option, set, Some, ap, sym, subst, refl, ◌∙◌, arith}
use Rattle.protocol_values.specs.declared.Course.TheVariants.{Running}
use Rattle.protocol_values.specs.declared.Row.{Row}
use Rattle.protocol_values.specs.declared.Seat.{Seat}
use Rattle.protocol_values.specs.declared.Step.TheVariants.{Start}
use Rattle.protocol_values.specs.Words.{IsCourseInRange}
use Rattle.protocol_ledger.specs.Kept.{Kept}
use Rattle.protocol_ledger.specs.Tables.{joined_at, last_stamp, marks_at, number_of}
use Rattle.protocol_ledger.specs.Worlds.{Condition, IsAlive, StandsAt, World, after_step, begun, first_row, with_course}
use Rattle.protocol_ledger.specs.Sheets.{table_of}
use Rattle.protocol.specs.States.{world_of, Tells}
use Rattle.protocol_ledger.proofs.Keeping.{kept_condition, stamp_in_range}
use Rattle.protocol_ledger.proofs.Places.{row_from}
use Rattle.protocol.proofs.Telling.{tells_life}
use Rattle.protocol.proofs.state.State.start_thread.Goals as goal

pub number-at-requires : goal.number-at-requires
number-at-requires c =
    let s = c.args.self.now.sheet in
    let below : c.args.thread < s.threads = omega (arith, c.from.ensures, c.if-from-self.false) in
    row_from (table_of s) (first_row c.args.thread) below (omega (arith, c.args.self.now.some_rows))

pub set_course-requires-clause-range : goal.set_course-requires-clause-range
set_course-requires-clause-range c = subst (λ n. IsCourseInRange (Running n)) (sym c.last_stamp-stamp.ensures) (stamp_in_range (world_of c.args.self.now) c.args.row c.requires.kept)

-- the world after the step
begun_world : (w v : World) (seat : Seat) (r : Row) (p at stamp : ℕ) → v.table ≡ with_course w.table p (Running stamp) → v.seats ≡ w.seats → v.holders ≡ set w.holders at (Some seat.0) → v.lasts ≡ w.lasts → at ≡ number_of w.table.rows (first_row p) → stamp ≡ last_stamp (marks_at w.table) (joined_at w.table) r → v ≡ after_step w seat (Start r p)
unfolding begun
begun_world w v seat r p at stamp a b d e f g =
    λ i. record {
      table = (a ∙ ap (λ n. with_course w.table p (Running n)) g) i;
      seats = b i;
      holders = (d ∙ ap (λ n. set w.holders n (Some seat.0)) f) i;
      lasts = e i;
    }

begun_sound : (w v : World) (seat : Seat) (r : Row) (p : ℕ) (namers : List (Option Row)) → Kept w → Tells w namers → Condition w seat (Start r p) → v ≡ after_step w seat (Start r p) → Kept v × Tells v namers
begun_sound w v seat r p namers k told may is = (
  subst Kept (sym is) (kept_condition w seat (Start r p) k may),
  subst (λ (u : World). Tells u namers) (sym is) (tells_life w p (Running (last_stamp (marks_at w.table) (joined_at w.table) r)) namers told),
)

pub returns-clause-tried : goal.returns-clause-tried
returns-clause-tried c =
    let w = world_of c.args.self.now in
    let stands : StandsAt w c.args.seat c.args.row = c.stands_at.ensures.0 c.if-not-stands_at.false in
    let alive : IsAlive w c.args.row.thread = c.is_alive.ensures.0 c.if-not-is_alive.false in
    let below : c.args.thread < w.table.threads = omega (arith, c.from.ensures, c.if-from-self.false) in (
      (stands, alive, below, c.if-row-thread.false, sym c.in-Unstarted.ensures),
      begun_world w _ c.args.seat c.args.row c.args.thread c.number-at.result c.last_stamp-stamp.result c.set_course.ensures.written refl refl refl c.number-at.ensures.value c.last_stamp-stamp.ensures,
    )

pub returns-clause-sound : goal.returns-clause-sound
returns-clause-sound c =
    let w = world_of c.args.self.now in
    let stands : StandsAt w c.args.seat c.args.row = c.stands_at.ensures.0 c.if-not-stands_at.false in
    let alive : IsAlive w c.args.row.thread = c.is_alive.ensures.0 c.if-not-is_alive.false in
    let below : c.args.thread < w.table.threads = omega (arith, c.from.ensures, c.if-from-self.false) in
    let sound = begun_sound w _ c.args.seat c.args.row c.args.thread c.args.self.now.namers.items c.requires.kept c.requires.told
    (stands, alive, below, c.if-row-thread.false, sym c.in-Unstarted.ensures)
    (begun_world w _ c.args.seat c.args.row c.args.thread c.number-at.result c.last_stamp-stamp.result c.set_course.ensures.written refl refl refl c.number-at.ensures.value c.last_stamp-stamp.ensures) in
    record { kept = sound.0; told = sound.1 }
