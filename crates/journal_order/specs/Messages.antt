-- The messages of a thread on a channel: those that it sent, and those that were received from it.
use Rattle.std.specs.Prelude.{◌==◌, ◌&&◌, ℕ, if◌then◌else◌, List, [], ◌∷◌, ◌++◌, length, Option, Some, None, slice_get}
use Rattle.std.specs.List.{flat_map}
use Rattle.std.specs.Option.{option_map}
use Rattle.event.specs.Tree.{bases}
use Rattle.script_tree.specs.Processes.{Proc}
use Rattle.thread.specs.After.{Chosen, State, Outcome, Goes, Offers, Finishes, Fails, Strays, after}
use Rattle.protocol_values.specs.declared.Base.{Base}
use Rattle.protocol_values.specs.declared.Base.TheVariants.{Send, Recv, Always, OnNack, OnEnd, Never}
use Rattle.protocol_values.specs.declared.Commit.{Commit}
use Rattle.protocol_values.specs.declared.Commit.TheVariants.{Pair, Alone}
use Rattle.protocol_values.specs.declared.Message.{Message}
use Rattle.protocol_values.specs.declared.Row.{Row}
use Rattle.journal_replay.specs.Runs.{Config, config_of}

-- SENT: by the results of the one thread alone, in their order

-- the base event that stands under this number in an event that is offered
abbrev pub base_in : Outcome State → ℕ → Option Base
base_in (Goes value) n = None
base_in (Offers event said) n = option_map (λ b. b.base) (slice_get (bases event) n)
base_in (Finishes said left) n = None
base_in (Fails fault said left) n = None
base_in Strays n = None

-- the base event that the process chose by this result, the next after those before
abbrev pub chosen_base : Proc → ℕ → List Chosen → Chosen → Option Base
chosen_base p t before result = base_in (after p.body (length p.variables) t before) result.0

-- the message of a send on the channel
abbrev pub sent_by : ℕ → Option Base → List Message
sent_by chan None = []
sent_by chan (Some (Send c m)) = if c == chan then m ∷ [] else []
sent_by chan (Some (Recv c)) = []
sent_by chan (Some (Always m)) = []
sent_by chan (Some (OnNack n)) = []
sent_by chan (Some (OnEnd t)) = []
sent_by chan (Some Never) = []

-- of the later results, after those before
abbrev pub sent_behind : Proc → ℕ → ℕ → List Chosen → List Chosen → List Message
sent_behind p t chan before [] = []
sent_behind p t chan before (result ∷ later) =
    sent_by chan (chosen_base p t before result) ++ sent_behind p t chan (before ++ result ∷ []) later

abbrev pub sent_of : Option Proc → ℕ → ℕ → List Chosen → List Message
sent_of None t chan results = []
sent_of (Some p) t chan results = sent_behind p t chan [] results

-- what thread t sent on the channel, where these are its results
abbrev pub sent : List Proc → ℕ → ℕ → List Chosen → List Message
sent ps t chan results = sent_of (slice_get ps t) t chan results

-- RECEIVED: in the journal's order, what the receivers got in the pairs on the channel that have this sender

abbrev pub message_of : Option Chosen → List Message
message_of None = []
message_of (Some result) = result.1 ∷ []

-- what the row's thread got at that sync
abbrev pub got_at : Config → Row → List Message
got_at config row = message_of (slice_get (config row.thread) row.sync)

abbrev pub received_in : Config → ℕ → ℕ → Commit → List Message
received_in config t chan (Pair sender receiver c msg stamp) = if (sender.0.thread == t) && (c == chan) then got_at config receiver.0 else []
received_in config t chan (Alone at why stamp) = []

abbrev pub received : ℕ → ℕ → List Commit → List Message
received t chan journal = flat_map (received_in (config_of journal) t chan) journal

-- IN THE COMMITS: the messages that these pairs name
abbrev pub named_in : ℕ → ℕ → Commit → List Message
named_in t chan (Pair sender receiver c msg stamp) = if (sender.0.thread == t) && (c == chan) then msg ∷ [] else []
named_in t chan (Alone at why stamp) = []

abbrev pub named : ℕ → ℕ → List Commit → List Message
named t chan commits = flat_map (named_in t chan) commits
