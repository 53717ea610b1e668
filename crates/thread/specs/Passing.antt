-- A message on its way out of an event, from one of its base events through the wraps round that.
use Rattle.std.specs.Prelude.{ℕ, zero, suc, Some}
use Rattle.script_tree.specs.Lined.{Event, Sends, Receives, IsReady, IsNever, IsCancelled, IsJoined, Chooses, Wraps, Guards, Nacks, Events, NoMembers, Members}
use Rattle.protocol_values.specs.declared.Message.{Message}
use Rattle.thread.specs.After.{Wrapping}
use Rattle.thread.specs.Standing.{State, Outcome, Goes, ◌>>=◌, Having, wrapped_once}

-- it came through; or the base event lies so many behind this event
pub data Passage : Type 0 where
  Through : (having : Outcome Having) → Passage
  Past : (left : ℕ) → Passage

abbrev pub passed : ℕ → Message → State → Passage
passed zero message s = Through (Goes (record { message = message; state = s }))
passed (suc n) message s = Past n

abbrev pub wrapped_in : Wrapping → Passage → Passage
wrapped_in w (Through having) = Through (having >>= λ h. wrapped_once (Some w) h.message h.state)
wrapped_in w (Past left) = Past left

abbrev pub or_else : Passage → (ℕ → Passage) → Passage
or_else (Through having) others = Through having
or_else (Past left) others = others left

-- from base event n, counted from the left
abbrev mutual
  pub pass : Event → ℕ → Message → State → Passage
  pass (Sends channel list) n message s = passed n message s
  pass (Receives channel) n message s = passed n message s
  pass (IsReady list) n message s = passed n message s
  pass IsNever n message s = passed n message s
  pass (IsCancelled nack) n message s = passed n message s
  pass (IsJoined process) n message s = passed n message s
  pass (Chooses members) n message s = pass_all members n message s
  pass (Wraps event names list) n message s = wrapped_in (record { names = names; list = list }) (pass event n message s)
  pass (Guards body event) n message s = pass event n message s
  pass (Nacks name body event) n message s = pass event n message s

  pub pass_all : Events → ℕ → Message → State → Passage
  pass_all NoMembers n message s = Past n
  pass_all (Members event others) n message s = or_else (pass event n message s) (λ left. pass_all others left message s)
