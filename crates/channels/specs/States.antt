-- What a channel is, and what it promises.
use Rattle.std.specs.Prelude.{◌≡◌, Bool, true, false, List}
use Rattle.channels.specs.declared.waiting.Side.{Side}
use Rattle.channels.specs.declared.waiting.Side.TheVariants.{Send, Receive}
use Rattle.channels.specs.declared.waiting.StandFault.{StandFault}
use Rattle.channels.specs.declared.waiting.StandFault.TheVariants.{Ready, Closed, Memory}
use Rattle.channels.specs.declared.waiting.Waiting.{Waiting}
use Rattle.channels.specs.Lines.{IsIn, has_other, opposite}

-- who waits on each side, the oldest first
pub record State : Type 0 where
  pub sends : List Waiting
  pub receives : List Waiting
  pub closed : Bool

-- the line of a side
abbrev pub line : Side → State → List Waiting
line Send s = s.sends
line Receive s = s.receives

-- the channel with another line on this side
abbrev pub with_line : Side → State → List Waiting → State
with_line Send s waiting = record { sends = waiting; receives = s.receives; closed = s.closed }
with_line Receive s waiting = record { sends = s.sends; receives = waiting; closed = s.closed }

-- THE PROMISE. No two that stand in the lines could meet: whoever stands to send and whoever stands to receive are of one ticket.
pub record Promise (s : State) : Type 0 where
  pub apart : (sender receiver : Waiting) → IsIn s.sends sender → IsIn s.receives receiver → sender.ticket ≡ receiver.ticket

-- the channel is open, and nobody of another ticket stands on the other side
pub record CanStand (s : State) (side : Side) (waiting : Waiting) : Type 0 where
  pub unclosed : s.closed ≡ false
  pub alone : has_other waiting.ticket (line (opposite side) s) ≡ false

-- why somebody cannot stand on this side
abbrev pub Refuses : State → Side → Waiting → StandFault → Type 0
Refuses s side waiting Closed = s.closed ≡ true
Refuses s side waiting Ready = (s.closed ≡ false) × (has_other waiting.ticket (line (opposite side) s) ≡ true)
Refuses s side waiting Memory = CanStand s side waiting

-- why somebody cannot stand opposite this line
abbrev pub StopsAt : List Waiting → Waiting → StandFault → Type 0
StopsAt others waiting Closed = ⊥
StopsAt others waiting Ready = has_other waiting.ticket others ≡ true
StopsAt others waiting Memory = has_other waiting.ticket others ≡ false
