-- How each process stands, with what it printed or what it offers.
use Rattle.std.specs.Prelude.{◌≡◌, ℕ, Bool, true, false, if◌then◌else◌, List, [], ◌++◌, length, slice_get, Option, Some, None}
use Rattle.protocol_values.specs.declared.Offer.{Offer}
use Rattle.journal_text.specs.Endings.{printed_text}
use Rattle.journal_text.specs.Names.{Naming}
use Rattle.thread.specs.Ends.{end_text, is_ended, is_waiting}
use Rattle.journal_replay.specs.Replays.{TellsEnd, TellsOpen, TellsOutput, thread_count}
use Rattle.journal_replay.specs.declared.state.State.{State}
use Rattle.pcml_chart_layout.specs.Most.{most_below}
use Rattle.pcml_chart_layout.specs.Places.{is_own}
use Rattle.pcml_chart_layout.specs.declared.foot.Foot.{Foot}

-- a process as the state has it
pub record TellsFoot (state : State) (t : ℕ) (f : Foot) : Type 0 where
  pub end : TellsEnd state t f.end
  pub printed : TellsOutput state t f.printed.now
  pub nacks : List ℕ
  pub offers : TellsOpen state t f.offers.now nacks

-- one for each process of the state, in their order
pub record AreFeet (state : State) (feet : List Foot) : Type 0 where
  pub count : length feet ≡ thread_count state
  pub each : (t : ℕ) (f : Foot) → slice_get feet t ≡ Some f → TellsFoot state t f

-- THE TEXT

-- how the process stands, and behind it what it printed where it ended
abbrev pub stand_text : Naming → Foot → List ℕ
stand_text names f = end_text f.end ++ (if is_ended f.end then printed_text names f.printed.now else [])

-- what the process offers where it waits
abbrev pub offers_of : Foot → List Offer
offers_of f = if is_waiting f.end then f.offers.now else []

-- HOW MANY LINES

abbrev pub offers_at : Option Foot → ℕ
offers_at None = 0
offers_at (Some f) = length (offers_of f)

abbrev pub offers_below : List Bool → List Foot → ℕ → ℕ
offers_below own feet t = if is_own own t then offers_at (slice_get feet t) else 0

-- how many lines stand below a foot at most
abbrev pub lines_below : List Bool → List Foot → ℕ
lines_below own feet = most_below (length own) (offers_below own feet)
