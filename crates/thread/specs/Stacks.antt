-- What is left to do, as numbers of a code: what the thread comes to that does it.
use Rattle.std.specs.Prelude.{ℕ, List, [], ◌∷◌, drop, take, Option, None, Some, Result, Ok, Err, slice_get}
use Rattle.std.specs.Option.{option_map}
use Rattle.thread_code.specs.Codes.{block_at}
use Rattle.thread_code.specs.Stages.{stages}
use Rattle.thread_code.specs.declared.Code.{Code}
use Rattle.thread_code.specs.declared.Plan.{Plan}
use Rattle.script_tree.specs.Trees.{names_of}
use Rattle.script_tree.specs.Lined.{Block, Stops, IsNever, LoopBody, event_of}
use Rattle.protocol_values.specs.declared.Message.{Message}
use Rattle.thread.specs.declared.Fault.{Fault}
use Rattle.thread.specs.declared.memory.Memory.{Memory}
use Rattle.thread.specs.declared.stack.Frame.{Frame}
use Rattle.thread.specs.declared.stack.Frame.TheVariants.{Rest, Times, Endless, Event}
use Rattle.thread.specs.declared.stack.Offered.{Offered}
use Rattle.thread.specs.declared.stack.Stack.{Stack}
use Rattle.thread.specs.declared.stack.Now.{Now}
use Rattle.thread.specs.declared.stack.Now.TheVariants.{At, Open, Back}
use Rattle.thread.specs.declared.stack.Stop.{Stop}
use Rattle.thread.specs.declared.stack.Stop.TheVariants.{Offering, Ended, Faulted}
use Rattle.thread.specs.declared.stack.Step.{Step}
use Rattle.thread.specs.declared.stack.Step.TheVariants.{On, To}
use Rattle.thread.specs.After.{Said, Chosen}
use Rattle.thread.specs.Standing.{at_line, State, Outcome, Goes, Fails, ◌>>=◌, Having, synced, times, endless, run_block, resolve, finished}
use Rattle.thread.specs.Resolving.{Lists, Listed, formed_as, run_stages}

-- THREADS

-- what it told
abbrev pub said_by : Memory → Said
said_by m = record { printed = m.printed.items; spawned = m.spawned.items }

-- the thread with this memory, and these results to come
abbrev pub state_of : Memory → List Chosen → State
state_of m left = record { thread = m.thread; store = m.variables.items; nacks = m.nacks; said = said_by m; left = left; line = m.line }

-- the thread after names were set, or the fault
abbrev pub state_after : {A : Type 0} → Result A Fault → Memory → List Chosen → Outcome State
state_after (Ok done) m left = Goes (state_of m left)
state_after (Err fault) m left = Fails fault (state_of m left)

-- the message after wraps were applied, or the fault
abbrev pub message_after : Result Message Fault → Memory → List Chosen → Outcome Having
message_after (Ok message) m left = Goes (record { message = message; state = state_of m left })
message_after (Err fault) m left = Fails fault (state_of m left)

-- PLACES AND PLANS

abbrev pub or_stops : Option Block → Block
or_stops (Some block) = block
or_stops None = Stops

-- what stands at a place of the code
abbrev pub place_block : Code → ℕ → Block
place_block c at = or_stops (block_at c at)

-- a sync at its line, and what stands behind it: a loop's turn is no more than that
abbrev pub planned : Code → Option Plan → LoopBody
planned c (Some plan) = record { line = plan.line; names = option_map names_of plan.names; event = event_of plan.event.value; rest = place_block c plan.then }
planned c None = record { line = 0; names = None; event = IsNever; rest = Stops }

abbrev pub sync_at : Code → ℕ → LoopBody
sync_at c number = planned c (slice_get c.plans.items number)

abbrev pub turn_on : LoopBody → State → Outcome State
turn_on turn s = resolve turn.line turn.event [] (at_line turn.line s) >>= synced turn.names >>= run_block turn.rest

-- FRAMES

-- each frame on what is below it
abbrev pub stacked {ℓ} : {K : Type ℓ} → (Frame → K → K) → K → List Frame → K
stacked on below [] = below
stacked on below (f ∷ frames) = stacked on (on f below) frames

-- the lists of a sync that has begun, and those of what it stands in
abbrev pub own : Offered → Lists → Lists
own o l = record { offers = drop o.offers l.offers; nacks = drop o.nacks l.nacks }

abbrev pub others : Offered → Lists → Lists
others o l = record { offers = take o.offers l.offers; nacks = take o.nacks l.nacks }

abbrev pub Further : Type 0
Further = Lists → State → Outcome State

-- a resolved sync takes the next result, or offers its event
abbrev pub offered : LoopBody → Listed → Outcome State
offered sync r = synced sync.names (formed_as sync.event r.lists r.state) >>= run_block sync.rest

abbrev pub offered_on : Code → Offered → Further → Further
offered_on c o below l s =
    run_stages (sync_at c o.plan).line (drop o.stage (stages 0 0 (sync_at c o.plan).event)) (own o l) s >>= offered (sync_at c o.plan) >>= below (others o l)

-- which goes on at its line
abbrev pub reopened_on : Code → Offered → Further → Further
reopened_on c o below l s = offered_on c o below l (at_line (sync_at c o.plan).line s)

abbrev pub frame_on : Code → Frame → Further → Further
frame_on c (Rest at) below l s = run_block (place_block c at) s >>= below l
frame_on c (Times left plan) below l s = times left (turn_on (sync_at c plan)) s >>= below l
frame_on c (Endless plan) below l s = endless (turn_on (sync_at c plan)) s >>= below l
frame_on c (Event o) below l s = reopened_on c o below l s

abbrev pub frames_on : Code → List Frame → Further
frames_on c frames = stacked (frame_on c) (λ l s. finished s) frames

-- STEPS

abbrev pub lists_of : Stack → Lists
lists_of stack = record { offers = stack.offers.items; nacks = stack.nacks.items }

abbrev pub now_on : Code → Stack → Now → State → Outcome State
now_on c stack (At at) s = run_block (place_block c at) s >>= frames_on c stack.frames.items (lists_of stack)
now_on c stack (Open o) s = reopened_on c o (frames_on c stack.frames.items) (lists_of stack) s
now_on c stack Back s = frames_on c stack.frames.items (lists_of stack) s

abbrev pub stop_on : Code → Stack → Stop → State → Outcome State
stop_on c stack (Offering o) s =
    offered (sync_at c o.plan) (record { lists = own o (lists_of stack); state = s }) >>= frames_on c stack.frames.items (others o (lists_of stack))
stop_on c stack Ended s = finished s
stop_on c stack (Faulted fault) s = Fails fault s

abbrev pub step_on : Code → Stack → Step → State → Outcome State
step_on c stack (On now) s = now_on c stack now s
step_on c stack (To stop) s = stop_on c stack stop s

-- on at a place, or to a fault
abbrev pub step_of : Result ℕ Fault → Step
step_of (Ok at) = On (At at)
step_of (Err fault) = To (Faulted fault)
