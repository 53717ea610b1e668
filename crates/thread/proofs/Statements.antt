-- The first statement at a place of a linked code.
use Rattle.std.proofs.Common.{◌≡◌, ℕ, ◌+◌, ◌<◌, List, [], ◌∷◌, ◌++◌, Option, Some, Result, Ok, Err, IfOk, true, false, slice_get, sym, ap, ◌∙◌, subst, arith}
use Rattle.std.specs.Prelude.{if◌then◌else◌}
use Rattle.thread_code.specs.Codes.{HasPlan, IsAt, IsLinked}
use Rattle.thread_code.specs.declared.Code.{Code}
use Rattle.thread_code.specs.declared.Place.{Place}
use Rattle.script_tree.specs.Trees.{Test}
use Rattle.script_tree.specs.Lined.{Block, Runs, Stmt, Syncs, Branches, Loops, LoopsForever, Event, block_of}
use Rattle.thread.specs.declared.stack.Frame.{Frame}
use Rattle.thread.specs.declared.stack.Frame.TheVariants.{Rest, Times, Endless}
use Rattle.thread.specs.declared.stack.Offered.{Offered}
use Rattle.thread.specs.declared.stack.Stack.{Stack}
use Rattle.thread.specs.Standing.{at_line, Outcome, State, Goes, ◌>>=◌, endless, given, run_block, run_stmt, times}
use Rattle.thread.specs.Fitting.{FramesFit, HasPlace, IsOffered}
use Rattle.thread.specs.Reaches.{event_reach, frame_reach, frames_reach, offered_reach, stmt_reach, stmts_reach}
use Rattle.thread.specs.Resolving.{Lists}
use Rattle.thread.specs.Stacks.{Further, frame_on, frames_on, lists_of, reopened_on, others, place_block, sync_at, turn_on}
use Rattle.thread.specs.Values.{test_value}
use Rattle.thread.proofs.Beginning.{begun, offered_begins, offered_fits, others_all, reach_of}
use Rattle.thread.proofs.Going.{bind_assoc, bind_each}
use Rattle.thread.proofs.Stacking.{at_is, at_there, frame_put, has_sync, leads_at, place_is, reach_pushed, sync_is, with_frame_on}

module _ (c : Code) (at : ℕ) (p : Place) (stmt : Stmt) (line : ℕ) (rest : Block) (linked : IsLinked c) (there : slice_get c.places.items at ≡ Some p) (runs : block_of p.block.value ≡ Runs stmt line rest) where
  here : place_block c at ≡ Runs stmt line rest
  here = place_is c at p there ∙ runs

  next : IsAt c p.next rest
  next = (leads_at c at p stmt line rest linked there runs).0

  pub next_there : HasPlace c p.next
  next_there = at_there c p.next rest next

  -- a statement that is done at once
  pub step_does : (s t : State) (below : State → Outcome State) → run_stmt line stmt (at_line line s) ≡ Goes t → (run_block (place_block c p.next) t >>= below) ≡ (run_block (place_block c at) s >>= below)
  step_does s t below goes =
      ap (λ b. run_block b t >>= below) (at_is c p.next rest next)
      ∙ ap (λ x. x >>= run_block rest >>= below) (sym goes)
      ∙ ap (λ b. run_block b s >>= below) (sym here)

  -- a block that runs first, which the statement comes to
  module _ (new old : List Frame) (l : Lists) (is : new ≡ old ++ Rest p.next ∷ []) where
    behind : (s : State) → frames_on c new l s ≡ (run_block rest s >>= frames_on c old l)
    behind s = with_frame_on c new old (Rest p.next) l s is ∙ ap (λ b. run_block b s >>= frames_on c old l) (at_is c p.next rest next)

    pub branch_does : (q : ℕ) (block : Block) (s : State) → IsAt c q block → run_stmt line stmt (at_line line s) ≡ run_block block (at_line line s) → (run_block (place_block c q) (at_line line s) >>= frames_on c new l) ≡ (run_block (place_block c at) s >>= frames_on c old l)
    branch_does q block s led same =
        ap (λ b. run_block b (at_line line s) >>= frames_on c new l) (at_is c q block led)
        ∙ bind_each (run_block block (at_line line s)) _ _ behind
        ∙ sym (bind_assoc (run_block block (at_line line s)) (run_block rest) (frames_on c old l))
        ∙ ap (λ x. x >>= run_block rest >>= frames_on c old l) (sym same)
        ∙ ap (λ b. run_block b s >>= frames_on c old l) (sym here)

    pub branch_falls : (q : ℕ) (block : Block) → IsAt c q block → stmts_reach block < stmt_reach stmt → stmts_reach (place_block c q) + frames_reach c new < stmts_reach (place_block c at) + frames_reach c old
    branch_falls q block led less =
        omega (arith, ap stmts_reach (at_is c q block led), reach_pushed c new old (Rest p.next) is, ap stmts_reach (at_is c p.next rest next), ap stmts_reach here, less)

    pub branch_fits : FramesFit c old l → FramesFit c new l
    branch_fits h = frame_put c new old (Rest p.next) l is (next_there, h)

    -- a loop, which is a frame of its own
    module _ (newer : List Frame) (f : Frame) (put : newer ≡ new ++ f ∷ []) where
      pub loop_does : (s : State) → ((below : Further) → frame_on c f below l (at_line line s) ≡ (run_stmt line stmt (at_line line s) >>= below l)) → frames_on c newer l (at_line line s) ≡ (run_block (place_block c at) s >>= frames_on c old l)
      loop_does s same =
          with_frame_on c newer new f l (at_line line s) put
          ∙ same (frames_on c new)
          ∙ bind_each (run_stmt line stmt (at_line line s)) _ _ behind
          ∙ sym (bind_assoc (run_stmt line stmt (at_line line s)) (run_block rest) (frames_on c old l))
          ∙ ap (λ b. run_block b s >>= frames_on c old l) (sym here)

      pub loop_steps : ((r : ℕ) → frame_reach c f r < stmt_reach stmt + r) → frames_reach c newer < stmts_reach (place_block c at) + frames_reach c old
      loop_steps less =
          omega (arith, reach_pushed c newer new f put, less (frames_reach c new), reach_pushed c new old (Rest p.next) is, ap stmts_reach (at_is c p.next rest next), ap stmts_reach here)

-- a sync
module _ (c : Code) (at : ℕ) (p : Place) (line : ℕ) (names : Option (List ℕ)) (event : Event) (rest : Block) (linked : IsLinked c) (there : slice_get c.places.items at ≡ Some p) (runs : block_of p.block.value ≡ Runs (Syncs names event) line rest) (l : Lists) (o : Offered) (begins : o ≡ begun p.first l) where
  plan : HasPlan c p.first line names event rest
  plan = (leads_at c at p (Syncs names event) line rest linked there runs).1

  pub sync_does : (below : Further) (s : State) → reopened_on c o below l (at_line line s) ≡ (run_block (place_block c at) s >>= below l)
  sync_does below s =
      ap (λ o. reopened_on c o below l (at_line line s)) begins
      ∙ offered_begins c p.first below l (at_line line s)
      ∙ ap (λ t. turn_on t (at_line line s) >>= below l) (sync_is c p.first line names event rest plan)
      ∙ ap (λ b. run_block b s >>= below l) (sym (place_is c at p there ∙ runs))

  pub sync_falls : (r : ℕ) → offered_reach c o < stmts_reach (place_block c at) + r
  sync_falls r =
      omega (arith, ap (offered_reach c) begins, reach_of 0 0 (sync_at c p.first).event, ap (λ t. event_reach t.event) (sync_is c p.first line names event rest plan), ap stmts_reach (place_is c at p there ∙ runs))

  pub sync_fits : (frames : List Frame) → FramesFit c frames l → IsOffered c l o × FramesFit c frames (others o l)
  sync_fits frames h = (
    subst (IsOffered c l) (sym begins) (offered_fits c p.first l (has_sync c p.first line names event rest plan)),
    subst (FramesFit c frames) (sym (ap (λ o. others o l) begins ∙ others_all p.first l)) h,
  )

-- the block that a test chooses
pub branch_true : (line : ℕ) (test : Test) (first second : Block) (s : State) → test_value s.store test ≡ Ok true → run_stmt line (Branches test first second) s ≡ run_block first s
branch_true line test first second s is = ap (λ v. given s v >>= λ holds. if holds then run_block first s else run_block second s) is

pub branch_false : (line : ℕ) (test : Test) (first second : Block) (s : State) → test_value s.store test ≡ Ok false → run_stmt line (Branches test first second) s ≡ run_block second s
branch_false line test first second s is = ap (λ v. given s v >>= λ holds. if holds then run_block first s else run_block second s) is

-- the sync of a loop
module _ (c : Code) (plan at line : ℕ) (names : Option (List ℕ)) (event : Event) (body : Block) (has : HasPlan c plan line names event body) (below : Further) (l : Lists) (s : State) where
  pub times_on : (n : ℕ) → frame_on c (Times n plan) below l s ≡ (run_stmt at (Loops n line names event body) s >>= below l)
  times_on n = ap (λ t. times n (turn_on t) s >>= below l) (sync_is c plan line names event body has)

  pub endless_on : frame_on c (Endless plan) below l s ≡ (run_stmt at (LoopsForever line names event body) s >>= below l)
  endless_on = ap (λ t. endless (turn_on t) s >>= below l) (sync_is c plan line names event body has)

-- a result that is handed on
pub if_both : {X E : Type 0} (r : Result X E) (P Q R : X → Type 0) → ((x : X) → P x → Q x → R x) → IfOk r P → IfOk r Q → IfOk r R
if_both (Ok x) P Q R f p q = f x p q
if_both (Err _) P Q R f p q = tt

pub lists_same : (s t : Stack) → s.offers ≡ t.offers → s.nacks ≡ t.nacks → lists_of s ≡ lists_of t
lists_same s t o n = ap (λ v. lists_of (record { frames = s.frames; offers = v; nacks = s.nacks })) o ∙ ap (λ v. lists_of (record { frames = t.frames; offers = t.offers; nacks = v })) n
