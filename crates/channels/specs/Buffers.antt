-- A channel that holds messages, and those who wait to be told of them.
use Rattle.std.specs.Prelude.{◌≡◌, ◌≢◌, ◌==◌, ◌≤◌, ◌&&◌, ◌||◌, ℕ, Bool, true, false, not, List, [], ◌∷◌, ◌++◌, Option, Some, None, length, nat_lt, slice_get, slice_set, take}
use Rattle.std.specs.List.{list_any}
use Rattle.channels.specs.declared.buffered.HoldFault.{HoldFault}
use Rattle.channels.specs.declared.buffered.HoldFault.TheVariants as hold
use Rattle.channels.specs.declared.buffered.TakeFault.{TakeFault}
use Rattle.channels.specs.declared.buffered.TakeFault.TheVariants as take_fault
use Rattle.channels.specs.declared.pulls.Pull.{Pull}
use Rattle.channels.specs.declared.waiting.Side.{Side}
use Rattle.channels.specs.declared.waiting.Side.TheVariants.{Send, Receive}
use Rattle.channels.specs.declared.waiting.StandFault.{StandFault}
use Rattle.channels.specs.declared.waiting.StandFault.TheVariants as stand
use Rattle.channels.specs.declared.waiting.Waiting.{Waiting}
use Rattle.channels.specs.Lines.{IsIn, has_other}
use Rattle.channels.specs.States.{Promise, State}

-- messages by their numbers, the oldest first, and for how many there is room
pub record Store : Type 0 where
  pub values : List ℕ
  pub room : ℕ

-- who stands in the lines, what is held, and who waits to be told
pub record Buffer : Type 0 where
  pub lines : State
  pub held : Store
  pub pulls : List Pull

abbrev pub has_room : Store → Bool
has_room h = nat_lt (length h.values) h.room

-- THE PROMISE. No two that stand in the lines could meet. Whoever stands to send found no room, and whoever stands to receive found
-- nothing held.
pub record Promises (b : Buffer) : Type 0 where
  pub lines : Promise b.lines
  pub within : length b.held.values ≤ b.held.room
  pub full : (w : Waiting) → IsIn b.lines.sends w → has_room b.held ≡ false
  pub empty : (w : Waiting) → IsIn b.lines.receives w → b.held.values ≡ []

-- HOLDING AND TAKING

-- why a message is not held
abbrev pub RefusesHold : Buffer → HoldFault → Type 0
RefusesHold b hold.Closed = b.lines.closed ≡ true
RefusesHold b hold.Ready = (b.lines.closed ≡ false) × (b.lines.receives ≢ [])
RefusesHold b hold.Full = (b.lines.closed ≡ false) × (b.lines.receives ≡ []) × (has_room b.held ≡ false)
RefusesHold b hold.Memory = (b.lines.closed ≡ false) × (b.lines.receives ≡ []) × (has_room b.held ≡ true)

-- the message is held, behind all others
abbrev pub Holds : Buffer → Buffer → ℕ → Type 0
Holds old new value =
    (old.lines.closed ≡ false) × (old.lines.receives ≡ []) × (has_room old.held ≡ true)
    × (new ≡ record old { held = record old.held { values = old.held.values ++ value ∷ [] } })

-- why no message is taken
abbrev pub RefusesTake : Buffer → Option ℕ → TakeFault → Type 0
RefusesTake b next take_fault.Empty = b.held.values ≡ []
RefusesTake b next take_fault.Ready = (b.held.values ≢ []) × (next ≡ None) × (b.lines.sends ≢ [])

-- messages, and behind them another one, if there is one
abbrev pub and_next : List ℕ → Option ℕ → List ℕ
and_next values None = values
and_next values (Some next) = values ++ next ∷ []

-- the oldest message is taken, and the next one, if there is one, is held behind all others
pub record Takes (old new : Buffer) (next : Option ℕ) (value : ℕ) : Type 0 where
  pub rest : List ℕ
  pub oldest : old.held.values ≡ value ∷ rest
  pub asked : next ≡ None → old.lines.sends ≡ []
  pub now : new ≡ record old { held = record old.held { values = and_next rest next } }

-- STANDING

-- whether somebody would find on the other side what he looks for: room or a message, or somebody of another ticket
abbrev pub is_ready : Buffer → Side → Waiting → Bool
is_ready b Send w = has_room b.held || has_other w.ticket b.lines.receives
is_ready b Receive w = not (length b.held.values == 0) || has_other w.ticket b.lines.sends

abbrev pub RefusesStand : Buffer → Side → Waiting → StandFault → Type 0
RefusesStand b side w stand.Closed = b.lines.closed ≡ true
RefusesStand b side w stand.Ready = (b.lines.closed ≡ false) × (is_ready b side w ≡ true)
RefusesStand b side w stand.Memory = (b.lines.closed ≡ false) × (is_ready b side w ≡ false)

-- TELLING

-- whether something is there that this one could take
abbrev pub is_missed : Buffer → Pull → Bool
is_missed b p = not p.told && is_ready b Receive p.waiting

abbrev pub is_reached : Buffer → Pull → Bool
is_reached b p = p.told && is_ready b Receive p.waiting

-- THE PROMISE OF TELLING. If something is there for somebody who was not told, one was told for whom something is there.
abbrev pub IsServed : Buffer → Type 0
IsServed b = list_any (is_missed b) b.pulls ≡ true → list_any (is_reached b) b.pulls ≡ true

-- the oldest for whom something is there is told, where nobody was told for whom something is there
pub record TellsOldest (old new : Buffer) (told : Waiting) : Type 0 where
  pub index : ℕ
  pub before : list_any (is_missed old) (take index old.pulls) ≡ false
  pub at : slice_get old.pulls index ≡ Some (record { waiting = told; told = false })
  pub there : is_ready old Receive told ≡ true
  pub nobody : list_any (is_reached old) old.pulls ≡ false
  pub now : new ≡ record old { pulls = slice_set old.pulls index (record { waiting = told; told = true }) }

abbrev pub Tells : Buffer → Buffer → Option Waiting → Type 0
Tells old new None = new ≡ old
Tells old new (Some told) = TellsOldest old new told

-- it is not of this ticket
abbrev pub is_other_pull : ℕ → Pull → Bool
is_other_pull ticket p = not (p.waiting.ticket == ticket)

-- the same one, if it is of this ticket not told
abbrev pub untold : ℕ → Pull → Pull
untold ticket p = record { waiting = p.waiting; told = p.told && is_other_pull ticket p }
