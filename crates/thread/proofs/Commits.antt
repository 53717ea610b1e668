-- What a wrap does.
use Rattle.std.proofs.Common.{◌≡◌, List, Result, Ok, Err, Some, refl, sym, ap, ◌∙◌}
use Rattle.protocol_values.specs.declared.Message.{Message}
use Rattle.thread.specs.declared.Fault.{Fault}
use Rattle.thread.specs.declared.memory.Memory.{Memory}
use Rattle.thread.specs.Values.{list_value}
use Rattle.thread.specs.After.{Chosen, Wrapping}
use Rattle.thread.specs.Standing.{State, Goes, Fails, ◌>>=◌, given, received, wrapped_once}
use Rattle.thread.specs.Stacks.{state_of, message_after}

-- the list is evaluated once the names are set
list_after : (r : Result Message Fault) (m : Memory) (rs : List Chosen) → (given (state_of m rs) r >>= λ changed. Goes (record { message = changed; state = state_of m rs })) ≡ message_after r m rs
list_after (Ok message) m rs = refl
list_after (Err fault) m rs = refl

pub wrap_gives : (w : Wrapping) (message : Message) (s : State) (m : Memory) (rs : List Chosen) (r : Result Message Fault) → received w.names message s ≡ Goes (state_of m rs) → r ≡ list_value m.variables.items w.list → wrapped_once (Some w) message s ≡ message_after r m rs
wrap_gives w message s m rs r set is =
    ap (λ x. x >>= λ t. given t (list_value t.store w.list) >>= λ changed. Goes (record { message = changed; state = t })) set
    ∙ ap (λ q. given (state_of m rs) q >>= λ changed. Goes (record { message = changed; state = state_of m rs })) (sym is)
    ∙ list_after r m rs

pub wrap_fails : (w : Wrapping) (message : Message) (s : State) (fault : Fault) (t : State) → received w.names message s ≡ Fails fault t → wrapped_once (Some w) message s ≡ Fails fault t
wrap_fails w message s fault t set =
    ap (λ x. x >>= λ t. given t (list_value t.store w.list) >>= λ changed. Goes (record { message = changed; state = t })) set
