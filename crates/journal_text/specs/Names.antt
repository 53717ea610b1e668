-- How the threads and the channels of a text are named.
use Rattle.std.specs.Prelude.{ℕ, ◌≤◌, List, [], map, length, get_or}
use Rattle.std.specs.Fmt.{decimal}
use Rattle.script.specs.Sources.{Script}

-- the names by their numbers
pub record Naming : Type 0 where
  pub thread : ℕ → List ℕ
  pub channel : ℕ → List ℕ

-- the numbers themselves
abbrev pub numbers : Naming
numbers = record { thread = decimal; channel = decimal }

-- the names that a script declares
pub record Declared : Type 0 where
  pub threads : List (List ℕ)
  pub channels : List (List ℕ)

abbrev pub names_of : Script → Declared
names_of s = record { threads = map (λ p. p.name) s.processes; channels = s.channels }

abbrev pub naming : Declared → Naming
naming d = record { thread = λ t. get_or d.threads t []; channel = λ c. get_or d.channels c [] }

-- how a script names its threads and channels
abbrev pub named : Script → Naming
named s = naming (names_of s)

-- none of the names is longer
abbrev pub AreWithin : ℕ → List (List ℕ) → Type 0
AreWithin longest names = (k : ℕ) → length (get_or names k []) ≤ longest
