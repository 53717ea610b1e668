-- What is left to do fits its code, and the lists of offers and nacks.
use Rattle.std.specs.Prelude.{◌≡◌, ℕ, ◌+◌, ◌≤◌, List, [], ◌∷◌, length, map, take, Some, slice_get, ⊤}
use Rattle.thread_code.specs.Codes.{HasPlan}
use Rattle.thread_code.specs.Stages.{Stage, Offered, Performed, Made, stages}
use Rattle.thread_code.specs.declared.Code.{Code}
use Rattle.thread_code.specs.declared.Place.{Place}
use Rattle.thread.specs.declared.stack.Frame.{Frame}
use Rattle.thread.specs.declared.stack.Frame.TheVariants.{Rest, Times, Endless, Event}
use Rattle.thread.specs.declared.stack.Offered.{Offered as OfferedSync}
use Rattle.thread.specs.declared.stack.Stack.{Stack}
use Rattle.thread.specs.declared.stack.Now.{Now}
use Rattle.thread.specs.declared.stack.Now.TheVariants.{At, Open, Back}
use Rattle.thread.specs.declared.stack.Stop.{Stop}
use Rattle.thread.specs.declared.stack.Stop.TheVariants.{Offering, Ended, Faulted}
use Rattle.thread.specs.declared.stack.Step.{Step}
use Rattle.thread.specs.declared.stack.Step.TheVariants.{On, To}
use Rattle.thread.specs.Resolving.{Lists}
use Rattle.thread.specs.Stacks.{lists_of, others, own, stacked, sync_at}

-- the code has the place, or the plan
pub record HasPlace (c : Code) (at : ℕ) : Type 0 where
  pub place : Place
  pub there : slice_get c.places.items at ≡ Some place

abbrev pub HasSync : Code → ℕ → Type 0
HasSync c number = HasPlan c number (sync_at c number).line (sync_at c number).names (sync_at c number).event (sync_at c number).rest

-- the masks of the offers that stages make, and how many nacks they make
abbrev pub masks : List Stage → List ℕ
masks [] = []
masks (Offered event scopes ∷ more) = scopes ∷ masks more
masks (Performed body ∷ more) = masks more
masks (Made name ∷ more) = masks more

abbrev pub nacks_made : List Stage → ℕ
nacks_made [] = 0
nacks_made (Offered event scopes ∷ more) = nacks_made more
nacks_made (Performed body ∷ more) = nacks_made more
nacks_made (Made name ∷ more) = 1 + nacks_made more

-- a sync's own offers and nacks are what its stages so far made
pub record IsOffered (c : Code) (l : Lists) (o : OfferedSync) : Type 0 where
  pub sync : HasSync c o.plan
  pub stage : o.stage ≤ length (stages 0 0 (sync_at c o.plan).event)
  pub first_offer : o.offers ≤ length l.offers
  pub first_nack : o.nacks ≤ length l.nacks
  pub masks : map (λ offer. offer.scopes) (own o l).offers ≡ masks (take o.stage (stages 0 0 (sync_at c o.plan).event))
  pub nacks : length (own o l).nacks ≡ nacks_made (take o.stage (stages 0 0 (sync_at c o.plan).event))

abbrev pub FrameFits : Code → Frame → (Lists → Type 0) → Lists → Type 0
FrameFits c (Rest at) Below l = HasPlace c at × Below l
FrameFits c (Times left plan) Below l = HasSync c plan × Below l
FrameFits c (Endless plan) Below l = HasSync c plan × Below l
FrameFits c (Event o) Below l = IsOffered c l o × Below (others o l)

abbrev pub FramesFit : Code → List Frame → Lists → Type 0
FramesFit c frames = stacked (FrameFits c) (λ l. ⊤) frames

abbrev pub NowFits : Code → Stack → Now → Type 0
NowFits c stack (At at) = HasPlace c at × FramesFit c stack.frames.items (lists_of stack)
NowFits c stack (Open o) = IsOffered c (lists_of stack) o × FramesFit c stack.frames.items (others o (lists_of stack))
NowFits c stack Back = FramesFit c stack.frames.items (lists_of stack)

-- the event of an open sync is resolved
abbrev pub StopFits : Code → Stack → Stop → Type 0
StopFits c stack (Offering o) =
    IsOffered c (lists_of stack) o
    × ((o.stage ≡ length (stages 0 0 (sync_at c o.plan).event))
    × FramesFit c stack.frames.items (others o (lists_of stack)))
StopFits c stack Ended = ⊤
StopFits c stack (Faulted fault) = ⊤

abbrev pub StepFits : Code → Stack → Step → Type 0
StepFits c stack (On now) = NowFits c stack now
StepFits c stack (To stop) = StopFits c stack stop
