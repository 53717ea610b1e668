use Rattle.std.proofs.Common.{rules, ◌≡◌, ℕ, None, ap, subst}
use Rattle.protocol_values.specs.declared.Joined.{Joined}
use Rattle.protocol_values.specs.Words.{IsJoinedInRange}
use Rattle.cell.specs.declared.attempt.Attempt.TheVariants.{Unfit}
use Rattle.cell.specs.Attempts.{Attempted, CanMeet, IsNear}
use Rattle.cell_table.specs.Sight.{CanJoin}
use Rattle.cell.proofs.Learning.{learns_then}
use Rattle.cell.proofs.Meeting.{attempted_before, can_meet, fits_as, from_none, from_some, offers_fit}
use Rattle.cell.proofs.attempt.attempt_rows.Goals as goal

-- src/attempt.rt:54:5
pub returns-in-Some-clause-learns : goal.returns-in-Some-clause-learns
returns-in-Some-clause-learns g c = learns_then (IsNear c.args.mine.0 c.args.other.0) _ _ _ c.fit.ensures.learns c.meet.ensures.learns

pub returns-in-Some-clause-fits : goal.returns-in-Some-clause-fits
returns-in-Some-clause-fits g c =
    let can = from_some c.fit.result (λ j. CanJoin c.fit.new.seat.me.0.seen c.args.mine.0 c.args.mine.1 c.args.other.0 c.args.other.1 j × IsJoinedInRange j) c.in-Some.joined c.fit.ensures.can (search rules) in
    fits_as c.meet.new.seat.me.0.seen c.args.mine.0 c.args.other.0 c.args.mine.1 c.args.other.1 c.meet.result c.meet.ensures.attempted.1
    (can_meet (IsNear c.args.mine.0 c.args.other.0) _ _ c.args.mine.0 c.args.other.0 c.args.mine.1 c.args.other.1 c.in-Some.joined c.meet.ensures.learns can.0)

pub returns-in-Some-clause-offers : goal.returns-in-Some-clause-offers
returns-in-Some-clause-offers g c =
    offers_fit c.args.board.now.shape.threads c.args.board.now.shape.rows c.meet.new.seat.me.0.seen c.args.mine.0 c.args.other.0 c.args.mine.1 c.args.other.1 c.meet.result c.meet.ensures.sits.1.3 (returns-in-Some-clause-fits g c)

pub returns-in-None-clause-offers : goal.returns-in-None-clause-offers
returns-in-None-clause-offers g c =
    let unfit : c.fit.result ≡ None = (search rules) in
    offers_fit c.args.board.now.shape.threads c.args.board.now.shape.rows c.fit.new.seat.me.0.seen c.args.mine.0 c.args.other.0 c.args.mine.1 c.args.other.1 Unfit c.fit.ensures.sits.1.3
    (from_none c.fit.result (¬ CanMeet c.fit.new.seat.me.0.seen c.args.mine.0 c.args.mine.1 c.args.other.0 c.args.other.1) c.fit.ensures.unfit unfit)

pub returns-in-Some-clause-attempted : goal.returns-in-Some-clause-attempted
returns-in-Some-clause-attempted g c =
    let can = from_some c.fit.result (λ j. CanJoin c.fit.new.seat.me.0.seen c.args.mine.0 c.args.mine.1 c.args.other.0 c.args.other.1 j × IsJoinedInRange j) c.in-Some.joined c.fit.ensures.can (search rules) in
    attempted_before (IsNear c.args.mine.0 c.args.other.0) c.args.seat.now.me.0.seen c.fit.new.seat.me.0.seen c.meet.new.seat.me.0.seen c.args.mine.0 c.args.mine.1 c.args.other.0 c.args.other.1 c.meet.result c.fit.ensures.learns
    (subst (λ (n : ℕ). Attempted c.fit.new.seat.me.0.seen c.meet.new.seat.me.0.seen c.args.mine.0 c.args.mine.1 c.args.other.0 n c.meet.result) (ap (λ (j : Joined). j.own) can.0.is) c.meet.ensures.attempted.0)
