-- How many steps there are at most to the next stop. What stands behind a sync does not count.
use Rattle.std.specs.Prelude.{ℕ, ◌+◌, ◌<◌, List, [], ◌∷◌, drop, ⊤}
use Rattle.thread_code.specs.Stages.{Stage, Offered, Performed, Made, stages}
use Rattle.thread_code.specs.declared.Code.{Code}
use Rattle.script_tree.specs.Lined.{Event, Sends, Receives, IsReady, IsNever, IsCancelled, IsJoined, Chooses, Wraps, Guards, Nacks, Events, NoMembers, Members, Stmt, Lets, Prints, Syncs, Branches, Loops, LoopsForever, Ends, Spawns, Block, Stops, Runs}
use Rattle.thread.specs.declared.stack.Frame.{Frame}
use Rattle.thread.specs.declared.stack.Frame.TheVariants as frame
use Rattle.thread.specs.declared.stack.Offered.{Offered as OfferedSync}
use Rattle.thread.specs.declared.stack.Stack.{Stack}
use Rattle.thread.specs.declared.stack.Now.{Now}
use Rattle.thread.specs.declared.stack.Now.TheVariants.{At, Open, Back}
use Rattle.thread.specs.declared.stack.Step.{Step}
use Rattle.thread.specs.declared.stack.Step.TheVariants.{On, To}
use Rattle.thread.specs.Stacks.{place_block, stacked, sync_at}

abbrev mutual
  pub event_reach : Event → ℕ
  event_reach (Sends channel list) = 1
  event_reach (Receives channel) = 1
  event_reach (IsReady list) = 1
  event_reach IsNever = 1
  event_reach (IsCancelled nack) = 1
  event_reach (IsJoined process) = 1
  event_reach (Chooses members) = members_reach members
  event_reach (Wraps event names list) = event_reach event
  event_reach (Guards body event) = 2 + stmts_reach body + event_reach event
  event_reach (Nacks name body event) = 3 + stmts_reach body + event_reach event

  pub members_reach : Events → ℕ
  members_reach NoMembers = 0
  members_reach (Members event others) = event_reach event + members_reach others

  pub stmt_reach : Stmt → ℕ
  stmt_reach (Lets name value) = 0
  stmt_reach (Prints value) = 0
  stmt_reach (Syncs names event) = 1 + event_reach event
  stmt_reach (Branches test first second) = 1 + stmts_reach first + stmts_reach second
  stmt_reach (Loops number at names event rest) = 4 + event_reach event
  stmt_reach (LoopsForever at names event rest) = 4 + event_reach event
  stmt_reach Ends = 0
  stmt_reach (Spawns process) = 0

  pub stmts_reach : Block → ℕ
  stmts_reach Stops = 1
  stmts_reach (Runs stmt line rest) = 1 + stmt_reach stmt + stmts_reach rest

abbrev pub stages_reach : List Stage → ℕ
stages_reach [] = 0
stages_reach (Offered event scopes ∷ more) = 1 + stages_reach more
stages_reach (Performed body ∷ more) = 2 + stmts_reach body + stages_reach more
stages_reach (Made name ∷ more) = 1 + stages_reach more

abbrev pub offered_reach : Code → OfferedSync → ℕ
offered_reach c o = 1 + stages_reach (drop o.stage (stages 0 0 (sync_at c o.plan).event))

abbrev pub loop_reach : Code → ℕ → ℕ
loop_reach c plan = 2 + event_reach (sync_at c plan).event

abbrev pub frame_reach : Code → Frame → ℕ → ℕ
frame_reach c (frame.Rest at) below = 1 + stmts_reach (place_block c at) + below
frame_reach c (frame.Times left plan) below = loop_reach c plan + below
frame_reach c (frame.Endless plan) below = loop_reach c plan + below
frame_reach c (frame.Event o) below = 1 + offered_reach c o

abbrev pub frames_reach : Code → List Frame → ℕ
frames_reach c frames = stacked (frame_reach c) 1 frames

abbrev pub now_reach : Code → Stack → Now → ℕ
now_reach c stack (At at) = stmts_reach (place_block c at) + frames_reach c stack.frames.items
now_reach c stack (Open o) = offered_reach c o
now_reach c stack Back = frames_reach c stack.frames.items

-- the step stops, or leads to where fewer steps are left
abbrev pub Falls : Code → ℕ → Stack → Step → Type 0
Falls c reach stack (On now) = now_reach c stack now < reach
Falls c reach stack (To stop) = ⊤

abbrev pub step_reach : Code → Stack → Step → ℕ
step_reach c stack (On now) = 1 + now_reach c stack now
step_reach c stack (To stop) = 0
