use Rattle.cell.proofs.Starting.{never_here}
use Rattle.std.proofs.Common.{rules, ◌≡◌, true, false, sym, subst, ap, ⊎_elim}
use Rattle.std.proofs.lemmas.Bool.{cases_Bool}
use Rattle.cell.specs.Attempts.{Started}
use Rattle.cell_table.specs.Sight.{see_course}
use Rattle.protocol_values.specs.declared.Course.TheVariants.{Running}
use Rattle.cell.proofs.Starting.{started_before, started_now}
use Rattle.cell.proofs.lives.start_from.Goals as goal

pub returns-clause-started : goal.returns-clause-started
returns-clause-started g c =
    let before = c.args.seat.now.me.0.seen in
    let u = c.last_at-last.new.seat.me.0.seen in
    let after = c.start_thread.new.seat.me.0.seen in
    let turned : c.stand.new.seat.me.0.seen ≡ see_course c.args.row.thread (Running c.in-Running.start) before = (search rules) in
    ⊎_elim
    (λ (made : c.start_thread.result ≡ true).
    let t = c.start_thread.ensures.started made in
    subst (Started before after c.args.row c.args.thread) (sym made) (started_now before _ u after c.args.row c.args.thread _ c.last_at-last.result turned c.last_at-last.ensures.learns c.last_at-last.ensures.last c.requires.stands.1 c.requires.other.1 (ap (λ v. v.seen) t.0) t.1))
    (λ (lost : c.start_thread.result ≡ false).
    let t = c.start_thread.ensures.found lost in
    subst (Started before after c.args.row c.args.thread) (sym lost) (started_before before _ u after c.args.row c.args.thread _ c.last_at-last.result turned c.last_at-last.ensures.learns c.last_at-last.ensures.last c.requires.stands.1 c.requires.other.1 _ t.0 t.1 t.3 (ap (λ v. v.seen) t.2)))
    (cases_Bool c.start_thread.result)

pub unreachable-requires : goal.unreachable-requires
unreachable-requires g c = never_here c.args.board.now c.args.seat.now.me.0 c.args.row c.stand.result c.requires.sits.0.2 c.requires.stands.0 c.requires.stands.1 c.stand.ensures.agrees c.in-Unstarted.is
