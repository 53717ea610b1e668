-- What commits give a thread.
use Rattle.std.specs.Prelude.{◌≡◌, ℕ, List}
use Rattle.thread.specs.After.{Chosen}
use Rattle.journal_replay.specs.Runs.{Config}

-- what a configuration has of the thread becomes, by a step, what the next one has
abbrev pub Gives : ℕ → (Config → Config) → List Chosen → List Chosen → Type 0
Gives thread step old new = (config : Config) → old ≡ config thread → new ≡ step config thread
