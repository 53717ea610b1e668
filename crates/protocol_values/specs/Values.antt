-- One small fact of each value: which row comes next, what a cell is joined with, which bases and directions meet, and
-- on which side of a channel a base stands.
use Rattle.std.specs.Prelude.{ℕ, ◌+◌, ◌==◌, Bool, false, Option, Some, None}
use Rattle.protocol_values.specs.declared.Base.{Base}
use Rattle.protocol_values.specs.declared.Base.TheVariants.{Send, Recv}
use Rattle.protocol_values.specs.declared.Cell.{Cell}
use Rattle.protocol_values.specs.declared.Cell.TheVariants.{Fresh, Waiting, Claimed, Synched, Taken}
use Rattle.protocol_values.specs.declared.Direction.{Direction}
use Rattle.protocol_values.specs.declared.Direction.TheVariants as direction
use Rattle.protocol_values.specs.declared.Joined.{Joined}
use Rattle.protocol_values.specs.declared.Row.{Row}
use Rattle.protocol_values.specs.declared.Side.{Side}
use Rattle.protocol_values.specs.declared.Side.TheVariants.{Sends, Receives}

abbrev pub next_row : Row → Row
next_row r = record { thread = r.thread; sync = r.sync + 1 }

abbrev pub joined_of : Cell → Option Joined
joined_of Fresh = None
joined_of Waiting = None
joined_of Claimed = None
joined_of (Synched j) = Some j
joined_of (Taken j) = Some j

-- a send and a receive on one channel
abbrev pub bases_meet : Base → Base → Bool
bases_meet (Send c m) (Recv d) = c == d
bases_meet (Recv c) (Send d m) = c == d
bases_meet a b = false

abbrev pub directions_meet : Direction → Direction → Bool
directions_meet (direction.Send c m) (direction.Recv d) = c == d
directions_meet (direction.Recv c) (direction.Send d m) = c == d
directions_meet a b = false

abbrev pub is_on : Side → ℕ → Base → Bool
is_on Sends chan (Send c m) = c == chan
is_on Receives chan (Recv c) = c == chan
is_on side chan base = false
