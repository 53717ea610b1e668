-- For what a text waits besides messages.
use Rattle.std.specs.Prelude.{Bool, true, false, ◌||◌, not}
use Rattle.script_tree.specs.Trees.{Event, Sends, Receives, IsReady, IsNever, IsCancelled, IsJoined, Chooses, Wraps, Guards, Nacks, Events, NoMembers, Members, Stmt, Lets, Prints, Syncs, Branches, Loops, LoopsForever, Ends, Spawns, Block, Stops, Runs, LoopBody}
use Rattle.runtime_run.specs.declared.waits.Awaited.{Awaited}
use Rattle.runtime_run.specs.declared.waits.Awaited.TheVariants as awaited

-- whether this is awaited where a nack is, or else where the end of a process is
abbrev pub awaits : Awaited → Bool → Bool
awaits awaited.Nack nack = nack
awaits awaited.End nack = not nack

-- whether some sync of the block, or of any block within it, waits for this
abbrev mutual
  pub waits_block : Awaited → Block → Bool
  waits_block what Stops = false
  waits_block what (Runs stmt rest) = waits_stmt what stmt || waits_block what rest

  pub waits_stmt : Awaited → Stmt → Bool
  waits_stmt what (Lets name value) = false
  waits_stmt what (Prints value) = false
  waits_stmt what (Syncs names event) = waits_event what event
  waits_stmt what (Branches test first second) = waits_block what first || waits_block what second
  waits_stmt what (Loops times names event rest) = waits_event what event || waits_block what rest
  waits_stmt what (LoopsForever names event rest) = waits_event what event || waits_block what rest
  waits_stmt what Ends = false
  waits_stmt what (Spawns process) = false

  pub waits_event : Awaited → Event → Bool
  waits_event what (Sends channel list) = false
  waits_event what (Receives channel) = false
  waits_event what (IsReady list) = false
  waits_event what IsNever = false
  waits_event what (IsCancelled nack) = awaits what true
  waits_event what (IsJoined process) = awaits what false
  waits_event what (Chooses members) = waits_members what members
  waits_event what (Wraps event names list) = waits_event what event
  waits_event what (Guards body event) = waits_block what body || waits_event what event
  waits_event what (Nacks name body event) = waits_block what body || waits_event what event

  pub waits_members : Awaited → Events → Bool
  waits_members what NoMembers = false
  waits_members what (Members event others) = waits_event what event || waits_members what others

-- the turn of a loop
abbrev pub waits_turn : Awaited → LoopBody → Bool
waits_turn what turn = waits_event what turn.event || waits_block what turn.rest
