-- A memory whose variables were written, and one in which more was spawned.
use Rattle.std.specs.Prelude.{◌≡◌, ◌++◌, ℕ, List, Contains}
use Rattle.thread.specs.declared.memory.Memory.{Memory}
use Rattle.thread.specs.Values.{Store}

-- the new memory has these variables, and else what the old one had
pub record HasStore (old new : Memory) (store : Store) : Type 0 where
  pub thread : new.thread ≡ old.thread
  pub nacks : new.nacks ≡ old.nacks
  pub line : new.line ≡ old.line
  pub printed : new.printed ≡ old.printed
  pub spawned : new.spawned ≡ old.spawned
  pub variables : new.variables.items ≡ store

-- the list goes on with what it did not have
abbrev pub AddsNew : List ℕ → List ℕ → Type 0
AddsNew old new = (more : List ℕ) × (new ≡ old ++ more) × ((x : ℕ) → Contains more x → Contains old x → ⊥)

-- what was spawned stays so, in its order, and what is spawned then was not before
abbrev pub SpawnsOn : Memory → Memory → Type 0
SpawnsOn old new = AddsNew old.spawned.items new.spawned.items
