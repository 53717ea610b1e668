-- Frames that are put onto a stack, and places and plans of a linked code.
use Rattle.std.proofs.Common.{◌≡◌, ℕ, ◌+◌, List, [], ◌∷◌, ◌++◌, Option, Some, None, length, take, set, get_or, slice_get, refl, sym, ap, ◌∙◌, subst, arith}
use Rattle.std.proofs.Math.Seq.{take-length}
use Rattle.std.proofs.lemmas.List.{length-set, take_more, take_more_set}
use Rattle.std.proofs.lemmas.Option.{none-some}
use Rattle.std.specs.Option.{option_map}
use Rattle.thread_code.specs.Codes.{BlockLeads, HasPlan, IsAt, IsLinked, StmtLeads}
use Rattle.thread_code.specs.declared.Code.{Code}
use Rattle.thread_code.specs.declared.Place.{Place}
use Rattle.script_tree.specs.Lined.{Block, Runs, Stmt, Event, LoopBody, block_of}
use Rattle.thread.specs.declared.stack.Frame.{Frame}
use Rattle.thread.specs.Fitting.{FrameFits, FramesFit, HasPlace, HasSync}
use Rattle.thread.specs.Reaches.{frame_reach, frames_reach}
use Rattle.thread.specs.Resolving.{Lists}
use Rattle.thread.specs.Standing.{State}
use Rattle.thread.specs.Stacks.{frame_on, frames_on, or_stops, place_block, planned, stacked, sync_at}

-- FRAMES

pub stacked_push {ℓ} : {K : Type ℓ} (on : Frame → K → K) (below : K) (frames : List Frame) (f : Frame) → stacked on below (frames ++ f ∷ []) ≡ on f (stacked on below frames)
stacked_push on below [] f = refl
stacked_push on below (g ∷ frames) f = stacked_push on (on g below) frames f

pub on_pushed : (c : Code) (new old : List Frame) (f : Frame) → new ≡ old ++ f ∷ [] → frames_on c new ≡ frame_on c f (frames_on c old)
on_pushed c new old f is = ap (frames_on c) is ∙ stacked_push (frame_on c) _ old f

pub fits_pushed : (c : Code) (new old : List Frame) (f : Frame) → new ≡ old ++ f ∷ [] → FramesFit c new ≡ FrameFits c f (FramesFit c old)
fits_pushed c new old f is = ap (FramesFit c) is ∙ stacked_push (FrameFits c) _ old f

pub reach_pushed : (c : Code) (new old : List Frame) (f : Frame) → new ≡ old ++ f ∷ [] → frames_reach c new ≡ frame_reach c f (frames_reach c old)
reach_pushed c new old f is = ap (frames_reach c) is ∙ stacked_push (frame_reach c) 1 old f

-- the innermost frame, by its number
pub innermost : (whole below : List Frame) (last : ℕ) (f g : Frame) → length whole ≡ last + 1 → f ≡ get_or whole last f → below ≡ take last whole → f ≡ g → whole ≡ below ++ g ∷ []
innermost whole below last f g long is others named =
    sym (take-length whole) ∙ ap (λ k. take k whole) long ∙ take_more whole last f (omega (arith, long))
    ∙ ap (λ (h : Frame). take last whole ++ h ∷ []) (sym is ∙ named) ∙ ap (λ l. l ++ g ∷ []) (sym others)

-- another one in its place
pub innermost_set : (whole : List Frame) (last : ℕ) (f : Frame) → length whole ≡ last + 1 → set whole last f ≡ take last whole ++ f ∷ []
innermost_set whole last f long =
    sym (take-length (set whole last f)) ∙ ap (λ k. take k (set whole last f)) (length-set whole last f ∙ long) ∙ take_more_set whole last f (omega (arith, long))

-- PLACES AND PLANS

pub place_is : (c : Code) (at : ℕ) (p : Place) → slice_get c.places.items at ≡ Some p → place_block c at ≡ block_of p.block.value
place_is c at p there = ap (λ x. or_stops (option_map (λ (q : Place). block_of q.block.value) x)) there

pub at_is : (c : Code) (at : ℕ) (block : Block) → IsAt c at block → place_block c at ≡ block
at_is c at block h = ap or_stops h

has_place : (c : Code) (at : ℕ) (block : Block) (x : Option Place) → slice_get c.places.items at ≡ x → option_map (λ (q : Place). block_of q.block.value) x ≡ Some block → HasPlace c at
has_place c at block (Some p) is h = record { place = p; there = is }
has_place c at block None is h = absurd (none-some block h)

pub at_there : (c : Code) (at : ℕ) (block : Block) → IsAt c at block → HasPlace c at
at_there c at block h = has_place c at block (slice_get c.places.items at) refl h

pub sync_is : (c : Code) (number line : ℕ) (names : Option (List ℕ)) (event : Event) (rest : Block) → HasPlan c number line names event rest → sync_at c number ≡ record { line = line; names = names; event = event; rest = rest }
sync_is c number line names event rest h =
    ap (planned c) h.there ∙ rw (h.is.line_is, h.is.names, h.is.event, at_is c h.plan.then rest h.is.then) refl

pub has_sync : (c : Code) (number line : ℕ) (names : Option (List ℕ)) (event : Event) (rest : Block) → HasPlan c number line names event rest → HasSync c number
has_sync c number line names event rest h =
    subst (λ (t : LoopBody). HasPlan c number t.line t.names t.event t.rest) (sym (sync_is c number line names event rest h)) h

-- what a place of a linked code leads to
pub leads_at : (c : Code) (at : ℕ) (p : Place) (stmt : Stmt) (line : ℕ) (rest : Block) → IsLinked c → slice_get c.places.items at ≡ Some p → block_of p.block.value ≡ Runs stmt line rest → IsAt c p.next rest × StmtLeads c p line stmt rest
leads_at c at p stmt line rest linked there is = subst (BlockLeads c p) is (linked at p there)

-- GOING BACK TO A FRAME, OR PUTTING ONE ON

pub with_frame_on : (c : Code) (new old : List Frame) (f : Frame) (l : Lists) (s : State) → new ≡ old ++ f ∷ [] → frames_on c new l s ≡ frame_on c f (frames_on c old) l s
with_frame_on c new old f l s is = ap (λ k. k l s) (on_pushed c new old f is)

pub frame_off : (c : Code) (new old : List Frame) (f : Frame) (l : Lists) → new ≡ old ++ f ∷ [] → FramesFit c new l → FrameFits c f (FramesFit c old) l
frame_off c new old f l is h = subst (λ k. k l) (fits_pushed c new old f is) h

pub frame_put : (c : Code) (new old : List Frame) (f : Frame) (l : Lists) → new ≡ old ++ f ∷ [] → FrameFits c f (FramesFit c old) l → FramesFit c new l
frame_put c new old f l is h = subst (λ k. k l) (sym (fits_pushed c new old f is)) h
