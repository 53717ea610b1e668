-- A loop that takes one more turn.
use Rattle.std.proofs.Common.{◌≡◌, ℕ, suc, ◌+◌, ◌<◌, List, [], ◌∷◌, ◌++◌, sym, ap, ◌∙◌, subst, arith}
use Rattle.thread_code.specs.declared.Code.{Code}
use Rattle.thread.specs.declared.stack.Frame.{Frame}
use Rattle.thread.specs.declared.stack.Frame.TheVariants.{Times, Endless}
use Rattle.thread.specs.declared.stack.Offered.{Offered}
use Rattle.thread.specs.Standing.{State}
use Rattle.thread.specs.Fitting.{FramesFit, HasSync, IsOffered}
use Rattle.thread.specs.Reaches.{frames_reach, loop_reach, offered_reach}
use Rattle.thread.specs.Resolving.{Lists}
use Rattle.thread.specs.Stacks.{frames_on, reopened_on, others, sync_at, turn_on}
use Rattle.thread.proofs.Beginning.{begun, offered_begins, offered_fits, others_all, reach_of}
use Rattle.thread.proofs.Going.{bind_each}
use Rattle.thread.proofs.Stacking.{with_frame_on}
use Rattle.thread.proofs.Turning.{endless_more, times_more}

module _ (c : Code) (whole below again : List Frame) (plan : ℕ) (l : Lists) (o : Offered) (begins : o ≡ begun plan l) where
  pub times_goes : (n left : ℕ) (s : State) → whole ≡ below ++ Times n plan ∷ [] → again ≡ below ++ Times left plan ∷ [] → n ≡ suc left → reopened_on c o (frames_on c again) l s ≡ frames_on c whole l s
  times_goes n left s is put more =
      ap (λ o. reopened_on c o (frames_on c again) l s) begins
      ∙ offered_begins c plan (frames_on c again) l s
      ∙ bind_each (turn_on (sync_at c plan) s) _ _ (λ t. with_frame_on c again below (Times left plan) l t put)
      ∙ sym (times_more (sync_at c plan) n left s (frames_on c below l) more)
      ∙ sym (with_frame_on c whole below (Times n plan) l s is)

  pub endless_goes : (s : State) → whole ≡ below ++ Endless plan ∷ [] → again ≡ below ++ Endless plan ∷ [] → reopened_on c o (frames_on c again) l s ≡ frames_on c whole l s
  endless_goes s is put =
      ap (λ o. reopened_on c o (frames_on c again) l s) begins
      ∙ offered_begins c plan (frames_on c again) l s
      ∙ bind_each (turn_on (sync_at c plan) s) _ _ (λ t. with_frame_on c again below (Endless plan) l t put)
      ∙ sym (endless_more (sync_at c plan) s (frames_on c below l))
      ∙ sym (with_frame_on c whole below (Endless plan) l s is)

  pub loop_falls : frames_reach c whole ≡ loop_reach c plan + frames_reach c below → offered_reach c o < frames_reach c whole
  loop_falls is = omega (arith, is, ap (offered_reach c) begins, reach_of 0 0 (sync_at c plan).event)

  -- the frame goes on as it was, or with one turn less
  pub loop_fits : (f : Frame) → again ≡ below ++ f ∷ [] → HasSync c plan → (FramesFit c below l → FramesFit c again l) → FramesFit c below l → IsOffered c l o × FramesFit c again (others o l)
  loop_fits f put sync goes h = (
    subst (IsOffered c l) (sym begins) (offered_fits c plan l sync),
    subst (FramesFit c again) (sym (ap (λ o. others o l) begins ∙ others_all plan l)) (goes h),
  )
