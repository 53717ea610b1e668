-- How far a message has come on its way out of an event.
use Rattle.std.specs.Prelude.{◌≡◌, ℕ, List, Result, Ok, Err}
use Rattle.script_tree.specs.Lined.{Event}
use Rattle.protocol_values.specs.declared.Message.{Message}
use Rattle.thread.specs.declared.Fault.{Fault}
use Rattle.thread.specs.declared.commit.Passage.{Passage}
use Rattle.thread.specs.declared.commit.Passage.TheVariants.{Through, Past}
use Rattle.thread.specs.declared.memory.Memory.{Memory}
use Rattle.thread.specs.After.{Chosen}
use Rattle.thread.specs.Passing as out
use Rattle.thread.specs.Passing.{pass}
use Rattle.thread.specs.Stacks.{message_after, state_of}

-- It came through, or it met a fault on its way; or it is to be looked for behind the event, and nothing was done.
abbrev pub Passes : Event → ℕ → Message → Memory → Memory → Result Passage Fault → Type 0
Passes event n message old new (Ok (Through changed)) =
    (rs : List Chosen) → pass event n message (state_of old rs) ≡ out.Through (message_after (Ok changed) new rs)
Passes event n message old new (Err fault) =
    (rs : List Chosen) → pass event n message (state_of old rs) ≡ out.Through (message_after (Err fault) new rs)
Passes event n message old new (Ok (Past left)) =
    (new ≡ old) × ((rs : List Chosen) → pass event n message (state_of old rs) ≡ out.Past left)
