-- Scripts without where they lie in memory, and the tokens of a text.
use Rattle.std.specs.Prelude.{ℕ, ◌≤◌, List, map, length}
use Rattle.script_token.specs.Tokens.{Token}
use Rattle.script_token.specs.Lexemes.{placed_tokens}
use Rattle.script_tree.specs.Processes.{Proc, ShareChannels}
use Rattle.script_tree.specs.Spawning.{AreSpawnedOnce, IsPlaced}
use Rattle.script.specs.Spawned.{AreInOrder}

-- the names of the channels by their numbers, and the processes
pub record Script : Type 0 where
  pub channels : List (List ℕ)
  pub processes : List Proc

-- what each script has, besides what its processes have
pub record IsScript (s : Script) : Type 0 where
  pub channels : length s.channels ≤ 256
  pub processes : length s.processes ≤ 64
  pub shared : ShareChannels (length s.channels) s.processes
  pub order : AreInOrder s.processes
  pub placed : IsPlaced s.processes
  pub once : AreSpawnedOnce s.processes

-- the tokens of a text
abbrev pub tokens_of : List ℕ → List Token
tokens_of bytes = map (λ p. p.0) (placed_tokens bytes)
