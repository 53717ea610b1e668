-- What is done to resolve an event, in the order of its text.
use Rattle.std.specs.Prelude.{ℕ, ◌+◌, ◌^◌, List, [], ◌∷◌, ◌++◌, bit_or}
use Rattle.script_tree.specs.Lined.{nack_count, Block, Event, Sends, Receives, IsReady, IsNever, IsCancelled, IsJoined, Chooses, Wraps, Guards, Nacks, Events, NoMembers, Members}

-- a base event is evaluated, and offered within the scopes of this mask; a block runs; or the next nack is made, and
-- set to this variable
pub data Stage : Type 0 where
  Offered : (event : Event) (scopes : ℕ) → Stage
  Performed : (body : Block) → Stage
  Made : (name : ℕ) → Stage

-- of an event, which lies in the scopes of the mask `around` and whose first scope has the number `next`
abbrev mutual
  pub stages : ℕ → ℕ → Event → List Stage
  stages around next (Sends channel list) = Offered (Sends channel list) around ∷ []
  stages around next (Receives channel) = Offered (Receives channel) around ∷ []
  stages around next (IsReady list) = Offered (IsReady list) around ∷ []
  stages around next IsNever = Offered IsNever around ∷ []
  stages around next (IsCancelled nack) = Offered (IsCancelled nack) around ∷ []
  stages around next (IsJoined process) = Offered (IsJoined process) around ∷ []
  stages around next (Chooses members) = stages_of_all around next members
  stages around next (Wraps event names list) = stages around next event
  stages around next (Guards body event) = Performed body ∷ stages around next event
  stages around next (Nacks name body event) = Made name ∷ Performed body ∷ stages (bit_or around (2 ^ next)) (next + 1) event

  pub stages_of_all : ℕ → ℕ → Events → List Stage
  stages_of_all around next NoMembers = []
  stages_of_all around next (Members event others) =
      stages around next event ++ stages_of_all around (next + nack_count event) others
