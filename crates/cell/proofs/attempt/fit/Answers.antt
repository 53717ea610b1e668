use Rattle.std.proofs.Common.{rules, ◌≡◌, ◌+◌, ℕ, true, false, Some, None, inl, inr, sym, ◌∙◌, ap, subst, min}
use Rattle.protocol_values.specs.declared.Direction.{Direction}
use Rattle.protocol_values.specs.declared.Row.{Row}
use Rattle.std.specs.Prelude.{Option}
use Rattle.protocol_values.specs.Words.{IsJoinedInRange}
use Rattle.protocol_ledger.proofs.Linking.{some_inj}
use Rattle.cell_table.specs.declared.view.Seen.{Seen}
use Rattle.cell_table.specs.Sight.{Has, HaveDirection, IsBefore, SeesDirection, CanJoin, next_stamp}
use Rattle.protocol_values.specs.Values.{directions_meet}
use Rattle.cell.specs.Attempts.{CanMeet, IsLifeNear, IsNear}
use Rattle.cell_table.proofs.Directions.{sees_direction_apart}
use Rattle.cell_table.proofs.Offers.{if_none}
use Rattle.cell.proofs.Meeting.{from_some, can_join, join_ranged}
use Rattle.cell.proofs.Learning.{learns_then, learns_wider, lives_wider}
use Rattle.cell.proofs.attempt.fit.Goals as goal

-- no direction is seen where none was found
unseen : (found : Option Direction) (s : Seen) (r : Row) (n : ℕ) (d : Direction) → found ≡ None → ((d : Direction) → SeesDirection s r n d → found ≡ Some d) → ¬ SeesDirection s r n d
unseen found s r n d none same sees = let bad : None ≡ Some d = sym none ∙ same d sees in cc

-- the row has no such offer, or the other has none
pub returns-in_err-my_direction-clause-unfit : goal.returns-in_err-my_direction-clause-unfit
returns-in_err-my_direction-clause-unfit g c =
    let none : c.opened_direction.result ≡ None = (search rules) in
    if_none c.from_residual.result (¬ CanMeet c.opened_direction.new.seat.me.0.seen c.args.mine.0 c.args.mine.1 c.args.other.0 c.args.other.1)
    (λ e can. unseen c.opened_direction.result c.opened_direction.new.seat.me.0.seen c.args.mine.0 c.args.mine.1 can.1 none c.opened_direction.ensures.same can.3)

pub returns-in_err-direction-clause-unfit : goal.returns-in_err-direction-clause-unfit
returns-in_err-direction-clause-unfit g c =
    let none : c.direction_of.result ≡ None = (search rules) in
    if_none c.from_residual-in_err-direction.result (¬ CanMeet c.direction_of.new.seat.me.0.seen c.args.mine.0 c.args.mine.1 c.args.other.0 c.args.other.1)
    (λ e can. unseen c.direction_of.result c.direction_of.new.seat.me.0.seen c.args.other.0 c.args.other.1 can.2 none c.direction_of.ensures.same can.4)

pub returns-then-not-meets-clause-unfit : goal.returns-then-not-meets-clause-unfit
returns-then-not-meets-clause-unfit g c (apart, a, b, sees_mine, sees_theirs, meet) =
    let found_mine = c.opened_direction.ensures.same a (sees_direction_apart (λ q. q ≡ c.args.other.0) _ _ c.args.mine.0 c.args.mine.1 a c.direction_of.ensures.learns (λ e. apart (ap (λ (r : Row). r.thread) e)) sees_mine) in
    let found_theirs = c.direction_of.ensures.same b sees_theirs in
    let some_mine : c.opened_direction.result ≡ Some c.in_ok-my_direction.my_direction = (search rules) in
    let some_theirs : c.direction_of.result ≡ Some c.in_ok-direction.direction = (search rules) in
    let mine = some_inj _ _ (sym some_mine ∙ found_mine) in
    let theirs = some_inj _ _ (sym some_theirs ∙ found_theirs) in
    let found : c.meets.result ≡ true = c.meets.ensures ∙ (λ i. directions_meet (mine i) (theirs i)) ∙ meet in
    let not_found : c.meets.result ≡ false = (search rules) in
    let bad : true ≡ false = sym found ∙ not_found in
    cc

pub returns-clause-can : goal.returns-clause-can
returns-clause-can g c =
    let found : c.meets.result ≡ true = (search rules) in
    let meet : directions_meet c.in_ok-my_direction.my_direction c.in_ok-direction.direction ≡ true = sym c.meets.ensures ∙ found in
    let some_mine : c.opened_direction.result ≡ Some c.in_ok-my_direction.my_direction = (search rules) in
    let some_theirs : c.direction_of.result ≡ Some c.in_ok-direction.direction = (search rules) in
    let have_mine : HaveDirection c.opened_direction.new.seat.me.0.seen.words c.args.mine.0 c.args.mine.1 c.in_ok-my_direction.my_direction =
    (from_some c.opened_direction.result (λ d. Has c.opened_direction.new.seat.me.0.seen.opened c.args.mine.0 × HaveDirection c.opened_direction.new.seat.me.0.seen.words c.args.mine.0 c.args.mine.1 d) c.in_ok-my_direction.my_direction c.opened_direction.ensures.some some_mine).1 in
    let have_theirs : HaveDirection c.direction_of.new.seat.me.0.seen.words c.args.other.0 c.args.other.1 c.in_ok-direction.direction =
    (from_some c.direction_of.result (λ d. Has c.direction_of.new.seat.me.0.seen.opened c.args.other.0 × HaveDirection c.direction_of.new.seat.me.0.seen.words c.args.other.0 c.args.other.1 d) c.in_ok-direction.direction c.direction_of.ensures.some some_theirs).1 in
    let higher : c.saturating_add.result ≡ next_stamp c.last_stamp-my_last.result c.last_stamp-last.result = c.saturating_add.ensures ∙ ap (λ n. min (n + 1) 4294967295) c.max.ensures in
    subst (λ (n : ℕ). CanJoin c.last_stamp-last.new.seat.me.0.seen c.args.mine.0 c.args.mine.1 c.args.other.0 c.args.other.1 (record { own = c.args.other.1; partner = Some c.args.mine; stamp = n }) × IsJoinedInRange (record { own = c.args.other.1; partner = Some c.args.mine; stamp = n })) (sym higher) (
      can_join _ _ _ _ _ _ _ c.args.mine.0 c.args.other.0 c.args.mine.1 c.args.other.1 _ _ c.in_ok-my_direction.my_direction c.in_ok-direction.direction
          c.direction_of.ensures.learns c.last_stamp-my_last.ensures.learns c.last_stamp-last.ensures.learns
          c.if-my_row-row.false have_mine have_theirs meet
          c.last_stamp-my_last.ensures.last c.last_stamp-last.ensures.last,
      join_ranged c.args.board.now.shape.threads c.args.board.now.shape.rows _ _ c.args.mine.0 c.args.other.0 c.args.mine.1 c.args.other.1 _ _ c.in_ok-my_direction.my_direction c.in_ok-direction.direction
          c.args.board.now.small.1 c.args.board.now.small.3 c.requires.sits.1 have_mine have_theirs,
    )

-- the two rows are read, and then the rows before them
pub returns-clause-learns : goal.returns-clause-learns
returns-clause-learns g c =
    let Near : Row → Type 0 = IsNear c.args.mine.0 c.args.other.0 in
    let Lives : ℕ → Type 0 = IsLifeNear c.args.mine.0 c.args.other.0 in
    let s = c.args.seat.now.me.0.seen in
    let t = c.opened_direction.new.seat.me.0.seen in
    let u = c.direction_of.new.seat.me.0.seen in
    let v = c.last_stamp-my_last.new.seat.me.0.seen in
    let w = c.last_stamp-last.new.seat.me.0.seen in
    learns_then Near s t w
    (lives_wider Near (λ p. ⊥) Lives s t (λ p h. absurd h) (learns_wider (λ q. q ≡ c.args.mine.0) Near s t (λ q e. inl e) c.opened_direction.ensures.learns))
    (learns_then Near t u w
    (lives_wider Near (λ p. ⊥) Lives t u (λ p h. absurd h) (learns_wider (λ q. q ≡ c.args.other.0) Near t u (λ q e. inr (inl e)) c.direction_of.ensures.learns))
    (learns_then Near u v w
    (lives_wider Near (λ p. p ≡ c.args.mine.0.thread) Lives u v (λ p e. inl e) (learns_wider (IsBefore c.args.mine.0) Near u v (λ q e. inr (inr (inl e))) c.last_stamp-my_last.ensures.learns))
    (lives_wider Near (λ p. p ≡ c.args.other.0.thread) Lives v w (λ p e. inr e) (learns_wider (IsBefore c.args.other.0) Near v w (λ q e. inr (inr (inr e))) c.last_stamp-last.ensures.learns))))
