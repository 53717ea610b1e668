-- Which processes a text spawns.
use Rattle.std.specs.Prelude.{◌≡◌, ◌+◌, ◌<◌, ℕ, Bool, true, false, ◌==◌, ◌||◌, if◌then◌else◌, List, [], ◌∷◌, Option, Some, None, slice_get}
use Rattle.std.specs.Int.{bit_at}
use Rattle.script_tree.specs.Processes.{Proc}
use Rattle.script_tree.specs.Trees.{Event, Sends, Receives, IsReady, IsNever, IsCancelled, IsJoined, Chooses, Wraps, Guards, Nacks, Events, NoMembers, Members, Stmt, Lets, Prints, Syncs, Branches, Loops, LoopsForever, Ends, Spawns, Block, Stops, Runs, LoopBody}

-- bit t of the mask
abbrev pub has_bit : ℕ → ℕ → Bool
has_bit mask t = bit_at mask t == 1

-- whether a statement of the block, or of any block within it, spawns the process
abbrev mutual
  pub spawns_block : ℕ → Block → Bool
  spawns_block t Stops = false
  spawns_block t (Runs stmt rest) = spawns_stmt t stmt || spawns_block t rest

  pub spawns_stmt : ℕ → Stmt → Bool
  spawns_stmt t (Lets name value) = false
  spawns_stmt t (Prints value) = false
  spawns_stmt t (Syncs names event) = spawns_event t event
  spawns_stmt t (Branches test first second) = spawns_block t first || spawns_block t second
  spawns_stmt t (Loops times names event rest) = spawns_event t event || spawns_block t rest
  spawns_stmt t (LoopsForever names event rest) = spawns_event t event || spawns_block t rest
  spawns_stmt t Ends = false
  spawns_stmt t (Spawns process) = process == t

  pub spawns_event : ℕ → Event → Bool
  spawns_event t (Sends channel list) = false
  spawns_event t (Receives channel) = false
  spawns_event t (IsReady list) = false
  spawns_event t IsNever = false
  spawns_event t (IsCancelled nack) = false
  spawns_event t (IsJoined process) = false
  spawns_event t (Chooses members) = spawns_members t members
  spawns_event t (Wraps event names list) = spawns_event t event
  spawns_event t (Guards body event) = spawns_block t body || spawns_event t event
  spawns_event t (Nacks name body event) = spawns_block t body || spawns_event t event

  pub spawns_members : ℕ → Events → Bool
  spawns_members t NoMembers = false
  spawns_members t (Members event others) = spawns_event t event || spawns_members t others

-- the turn of a loop
abbrev pub spawns_turn : ℕ → LoopBody → Bool
spawns_turn t turn = spawns_event t turn.event || spawns_block t turn.rest

-- the first process, from number s on, whose text spawns this one
abbrev pub spawner_from : ℕ → ℕ → List Proc → Option ℕ
spawner_from t s [] = None
spawner_from t s (p ∷ ps) = if spawns_block t p.body then Some s else spawner_from t (s + 1) ps

abbrev pub spawner : List Proc → ℕ → Option ℕ
spawner ps t = spawner_from t 0 ps

-- a spawner stands behind those that it spawns
abbrev pub IsPlaced : List Proc → Type 0
IsPlaced ps = (t s : ℕ) → spawner ps t ≡ Some s → t < s

-- and no two texts spawn one process
abbrev pub AreSpawnedOnce : List Proc → Type 0
AreSpawnedOnce ps =
    (t s u : ℕ) (p q : Proc) → slice_get ps s ≡ Some p → slice_get ps u ≡ Some q → spawns_block t p.body ≡ true →
    spawns_block t q.body ≡ true → s ≡ u
