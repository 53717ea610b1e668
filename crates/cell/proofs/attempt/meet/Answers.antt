use Rattle.std.proofs.Common.{rules, ◌≡◌, ◌≢◌, ◌⊎◌, sym, subst, ap, ◌∙◌, inl, inr}
use Rattle.protocol_values.specs.declared.Cell.{Cell}
use Rattle.protocol_values.specs.declared.Cell.TheVariants.{Fresh, Waiting, Claimed, Synched, Taken}
use Rattle.protocol_values.specs.declared.Joined.{Joined}
use Rattle.cell_table.specs.declared.view.View.{View}
use Rattle.cell_table.specs.declared.view.Stage.TheVariants.{Resting, Claims}
use Rattle.cell.specs.Attempts.{IsLifeNear, IsNear}
use Rattle.cell_table.specs.Sight.{CanJoin, LearnsOf, SawCommitted}
use Rattle.cell_table.specs.Told.{Agrees, joining, settled}
use Rattle.protocol_values.specs.declared.Step.TheVariants.{Claim, Seal, Yield}
use Rattle.protocol_ledger.specs.Worlds.{mirrored}
use Rattle.cell_table.specs.Views.{did, saw, turned}
use Rattle.cell.proofs.Meeting.{can_join_opened, claim_found, join_found, err_case, learns_met, learns_yield}
use Rattle.cell.proofs.Learning.{learns_look, learns_wider, lives_wider}
use Rattle.cell_table.proofs.Truths.{opened_words, read_words}
use Rattle.cell.proofs.attempt.meet.Goals as goal

unclaimed : (c : Cell) → (c ≡ Fresh) ⊎ ((c ≡ Waiting) ⊎ (((j : Joined) × (c ≡ Synched j)) ⊎ ((j : Joined) × (c ≡ Taken j)))) → c ≢ Claimed
unclaimed c (inl h) e = let bad : Fresh ≡ Claimed = sym h ∙ e in cc
unclaimed c (inr (inl h)) e = let bad : Waiting ≡ Claimed = sym h ∙ e in cc
unclaimed c (inr (inr (inl h))) e = let bad : Synched h.0 ≡ Claimed = sym h.1 ∙ e in cc
unclaimed c (inr (inr (inr h))) e = let bad : Taken h.0 ≡ Claimed = sym h.1 ∙ e in cc

pub returns-then-is_err-clause-attempted : goal.returns-then-is_err-clause-attempted
returns-then-is_err-clause-attempted g c =
    let found = err_case c.claim.result (λ cell. (cell ≢ Waiting) × (c.claim.new.seat.me.0 ≡ saw c.args.mine.0 cell c.args.seat.now.me.0) × Agrees c.args.seat.now.me.0 c.args.mine.0 cell) (search rules) c.claim.ensures.found in (
      subst (λ (v : View _). SawCommitted v.seen c.args.mine.0) (sym found.1.1)
          (claim_found c.args.seat.now.me.0 c.args.mine.0 found.0 c.requires.held.0 c.requires.held.1 c.requires.held.2 found.1.0 found.1.2),
      (λ e. cc),
    )

pub returns-then-is_err-clause-learns : goal.returns-then-is_err-clause-learns
returns-then-is_err-clause-learns g c =
    let found = err_case c.claim.result (λ cell. (cell ≢ Waiting) × (c.claim.new.seat.me.0 ≡ saw c.args.mine.0 cell c.args.seat.now.me.0) × Agrees c.args.seat.now.me.0 c.args.mine.0 cell) (search rules) c.claim.ensures.found in
    subst (λ (v : View _). LearnsOf (IsNear c.args.mine.0 c.args.other) (λ n. ⊥) (IsLifeNear c.args.mine.0 c.args.other) c.args.seat.now.me.0.seen v.seen) (sym found.1.1)
    (lives_wider (IsNear c.args.mine.0 c.args.other) (λ p. ⊥) (IsLifeNear c.args.mine.0 c.args.other) _ _ (λ p h. absurd h)
    (learns_wider (λ q. q ≡ c.args.mine.0) (IsNear c.args.mine.0 c.args.other) _ _ (λ q e. inl e) (learns_look c.args.mine.0 found.0 c.args.seat.now.me.0.seen)))

pub join-requires-clause-can : goal.join-requires-clause-can
join-requires-clause-can g c =
    let claimed : c.claim.new.seat.me.0 ≡ did (Claim c.args.mine.0) (turned (Claims c.args.mine.0) c.args.mine.0 c.args.seat.now.me.0) = (search rules) in
    (subst (λ (v : View _). CanJoin v.seen c.args.mine.0 c.args.mine.1 c.args.other c.args.joined.own c.args.joined) (sym claimed) (can_join_opened _ _ _ _ _ _ _ c.requires.can.0), c.requires.can.1)

pub claim-requires-clause-words : goal.claim-requires-clause-words
claim-requires-clause-words g c = opened_words c.args.board.now.shape.layout c.args.seat.now.me.0.seen c.args.mine.0 c.requires.sits.0.9 c.requires.held.1

pub seal-requires-clause-words : goal.seal-requires-clause-words
seal-requires-clause-words g c = opened_words c.args.board.now.shape.layout c.args.seat.now.me.0.seen c.args.mine.0 c.requires.sits.0.9 c.requires.held.1

pub give_up-requires-clause-words : goal.give_up-requires-clause-words
give_up-requires-clause-words g c = opened_words c.args.board.now.shape.layout c.args.seat.now.me.0.seen c.args.mine.0 c.requires.sits.0.9 c.requires.held.1

-- of the other row a word was read, so it has words
pub join-requires-clause-words : goal.join-requires-clause-words
join-requires-clause-words g c =
    let claimed : c.claim.new.seat.me.0 ≡ did (Claim c.args.mine.0) (turned (Claims c.args.mine.0) c.args.mine.0 c.args.seat.now.me.0) = (search rules) in
    let can : CanJoin c.claim.new.seat.me.0.seen c.args.mine.0 c.args.mine.1 c.args.other c.args.joined.own c.args.joined =
    subst (λ (v : View _). CanJoin v.seen c.args.mine.0 c.args.mine.1 c.args.other c.args.joined.own c.args.joined) (sym claimed) (can_join_opened _ _ _ _ _ _ _ c.requires.can.0) in
    read_words c.args.board.now.shape.layout c.claim.new.seat.me.0.seen c.args.other 1 can.read_theirs.count c.claim.ensures.sits.1.9 can.read_theirs.counted

pub returns-in-Ok-clause-learns : goal.returns-in-Ok-clause-learns
returns-in-Ok-clause-learns g c =
    let mine = c.args.mine.0 in
    let way = mirrored c.args.other c.args.joined c.args.mine.1 in
    let claimed : c.claim.new.seat.me.0 ≡ did (Claim mine) (turned (Claims mine) mine c.args.seat.now.me.0) = (search rules) in
    let joined : c.join.new.seat.me.0 ≡ joining mine c.args.mine.1 c.args.other c.args.joined c.claim.new.seat.me.0 = (search rules) in
    let after = c.seal.ensures.sealed ∙ ap (λ (v : View _). did (Seal mine) (settled mine way v)) (joined ∙ ap (joining mine c.args.mine.1 c.args.other c.args.joined) claimed) in
    subst (λ (v : View _). LearnsOf (IsNear mine c.args.other) (λ n. ⊥) (IsLifeNear mine c.args.other) c.args.seat.now.me.0.seen v.seen) (sym after) (learns_met mine c.args.other way c.args.joined c.args.seat.now.me.0.seen)

pub returns-in-Claimed-clause-learns : goal.returns-in-Claimed-clause-learns
returns-in-Claimed-clause-learns g c =
    let mine = c.args.mine.0 in
    let claimed : c.claim.new.seat.me.0 ≡ did (Claim mine) (turned (Claims mine) mine c.args.seat.now.me.0) = (search rules) in
    let found : c.join.new.seat.me.0 ≡ saw c.args.other c.in-Err.found c.claim.new.seat.me.0 = (search rules) in
    let after = c.give_up.ensures.waits ∙ ap (λ (v : View _). did (Yield mine) (turned Resting mine v)) (found ∙ ap (saw c.args.other c.in-Err.found) claimed) in
    subst (λ (v : View _). LearnsOf (IsNear mine c.args.other) (λ n. ⊥) (IsLifeNear mine c.args.other) c.args.seat.now.me.0.seen v.seen) (sym after) (learns_yield mine c.args.other c.in-Err.found c.args.seat.now.me.0.seen)

-- the other row was found neither Waiting nor Claimed, and one's own was given up
pub returns-in-Fresh : goal.returns-in-Fresh
returns-in-Fresh g c =
    let claimed : c.claim.new.seat.me.0 ≡ did (Claim c.args.mine.0) (turned (Claims c.args.mine.0) c.args.mine.0 c.args.seat.now.me.0) = (search rules) in
    let can : CanJoin c.claim.new.seat.me.0.seen c.args.mine.0 c.args.mine.1 c.args.other c.args.joined.own c.args.joined =
    subst (λ (v : View _). CanJoin v.seen c.args.mine.0 c.args.mine.1 c.args.other c.args.joined.own c.args.joined) (sym claimed) (can_join_opened _ _ _ _ _ _ _ c.requires.can.0) in
    let found : c.join.new.seat.me.0 ≡ saw c.args.other c.in-Err.found c.claim.new.seat.me.0 = (search rules) in
    let agree : Agrees c.claim.new.seat.me.0 c.args.other c.in-Err.found = (search rules) in
    let not_waiting : c.in-Err.found ≢ Waiting = (search rules) in
    let committed = join_found c.claim.new.seat.me.0 c.args.mine.0 c.args.other c.args.mine.1 c.args.joined.own c.args.joined c.in-Err.found can not_waiting (unclaimed c.in-Err.found c.in-Fresh.is) agree in
    let after : c.give_up.new.seat.me.0 ≡ did (Yield c.args.mine.0) (turned Resting c.args.mine.0 (saw c.args.other c.in-Err.found (did (Claim c.args.mine.0) (turned (Claims c.args.mine.0) c.args.mine.0 c.args.seat.now.me.0)))) =
    c.give_up.ensures.waits ∙ ap (λ (v : View _). did (Yield c.args.mine.0) (turned Resting c.args.mine.0 v)) (found ∙ ap (saw c.args.other c.in-Err.found) claimed) in
    record {
      sits = (search rules);
      stays = (search rules);
      learns = subst (λ (v : View _). LearnsOf (IsNear c.args.mine.0 c.args.other) (λ n. ⊥) (IsLifeNear c.args.mine.0 c.args.other) c.args.seat.now.me.0.seen v.seen) (sym after)
          (learns_yield c.args.mine.0 c.args.other c.in-Err.found c.args.seat.now.me.0.seen);
      attempted = (
        subst (λ (v : View _). SawCommitted v.seen c.args.other) (sym (c.give_up.ensures.waits ∙ ap (λ (v : View _). did (Yield c.args.mine.0) (turned Resting c.args.mine.0 v)) found)) committed,
        (λ e. cc),
      );
    }
