-- An event resolved stage by stage: its offers and its nacks are put one behind another.
use Rattle.std.specs.Prelude.{ℕ, List, [], ◌∷◌, ◌++◌, map, Result, Ok}
use Rattle.thread_code.specs.Stages.{Stage, Offered, Performed, Made}
use Rattle.event.specs.Tree.{Tree}
use Rattle.script_tree.specs.Lined.{Event, Sends, Receives, IsReady, IsCancelled, IsJoined}
use Rattle.protocol_values.specs.declared.Base.{Base}
use Rattle.protocol_values.specs.declared.Base.TheVariants.{Never, OnEnd}
use Rattle.protocol_values.specs.declared.Offer.{Offer}
use Rattle.thread.specs.declared.Fault.{Fault}
use Rattle.thread.specs.Values.{Store}
use Rattle.thread.specs.After.{send_value, recv_value, always_value, cancelled_value}
use Rattle.thread.specs.Standing.{set_line, State, Outcome, Goes, ◌>>=◌, Formed, given, with_nack, run_block}
use Rattle.thread.specs.Shapes.{tree_with, wraps_in}

-- the offers and the nacks of a sync so far
pub record Lists : Type 0 where
  pub offers : List Offer
  pub nacks : List ℕ

abbrev pub no_lists : Lists
no_lists = record { offers = []; nacks = [] }

abbrev pub with_offer : Base → ℕ → Lists → Lists
with_offer base scopes l = record l { offers = l.offers ++ record { base = base; scopes = scopes } ∷ [] }

abbrev pub with_scope : ℕ → Lists → Lists
with_scope nack l = record l { nacks = l.nacks ++ nack ∷ [] }

-- the lists, and the thread that has them
pub record Listed : Type 0 where
  pub lists : Lists
  pub state : State

-- what a base event comes to; no other event is asked for
abbrev pub base_value : Store → Event → Result Base Fault
base_value store (Sends channel list) = send_value store channel list
base_value store (Receives channel) = recv_value store channel
base_value store (IsReady list) = always_value store list
base_value store (IsCancelled nack) = cancelled_value store nack
base_value store (IsJoined process) = Ok (OnEnd process)
base_value store event = Ok Never

-- of a sync at this line
abbrev pub run_stage : ℕ → Stage → Lists → State → Outcome Listed
run_stage line (Offered event scopes) l s = given s (base_value s.store event) >>= λ base. Goes (record { lists = with_offer base scopes l; state = s })
run_stage line (Performed body) l s = run_block body s >>= set_line line >>= λ t. Goes (record { lists = l; state = t })
run_stage line (Made name) l s = with_nack name s >>= λ t. Goes (record { lists = with_scope s.nacks l; state = t })

abbrev pub run_stages : ℕ → List Stage → Lists → State → Outcome Listed
run_stages line [] l s = Goes (record { lists = l; state = s })
run_stages line (stage ∷ more) l s = run_stage line stage l s >>= λ r. run_stages line more r.lists r.state

-- the tree that the lists stand for
abbrev pub tree_as : Event → Lists → Tree
tree_as event l = tree_with 0 event (map (λ o. o.base) l.offers) l.nacks

abbrev pub formed_as : Event → Lists → State → Formed
formed_as event l s = record { tree = tree_as event l; wraps = wraps_in event; state = s }
