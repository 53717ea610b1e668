-- What a text spells: the grammar, apart from how it is read.
use Rattle.std.specs.Prelude.{◌≡◌, ℕ, ◌≤◌, List, [], Option, Some}
use Rattle.script_grammar.specs.Written as written
use Rattle.script_grammar.specs.Written.{script_tokens}
use Rattle.script_grammar.specs.Depths.{script_depth}
use Rattle.script_grammar.specs.Meaning.{◌>>=◌, channels_meaning, processes_meaning}
use Rattle.script.specs.Sources.{Script, tokens_of}
use Rattle.script.specs.declared.fault.ScriptFault.{ScriptFault}
use Rattle.script.specs.declared.fault.ScriptFault.TheVariants as faults

-- the names of the channels by their numbers, and the processes
unfoldable pub script_meaning : written.Script → Option Script
script_meaning w = do
  channels ← channels_meaning [] w.channels
  processes ← processes_meaning channels [] [] w.processes
  Some (record { channels = channels; processes = processes })

-- the bytes are a text of something written that means s, of which no token lies deeper than 48
pub record Spells (bytes : List ℕ) (s : Script) : Type 0 where
  pub written : written.Script
  pub tokens : tokens_of bytes ≡ script_tokens written
  pub depth : script_depth written ≤ 48
  pub meaning : script_meaning written ≡ Some s

-- some text spells the script
abbrev pub IsSpelled : Script → Type 0
IsSpelled s = ∥ ((bytes : List ℕ) × Spells bytes s) ∥₁

pub IsSpelled-prop : (s : Script) → IsProp (IsSpelled s)
IsSpelled-prop s = squash₁

-- no bytes spell two scripts
abbrev pub SpellsOnlyOne : Type 0
SpellsOnlyOne = (bytes : List ℕ) (s t : Script) → Spells bytes s → Spells bytes t → s ≡ t

abbrev pub SpellsNothing : List ℕ → Type 0
SpellsNothing bytes = (s : Script) → Spells bytes s → ⊥

-- what a fault with a line says of the text: it spells nothing
abbrev pub Refuses : List ℕ → ScriptFault → Type 0
Refuses bytes faults.Memory = Unit {0}
Refuses bytes faults.TooLong = Unit {0}
Refuses bytes (faults.Syntax line) = SpellsNothing bytes
Refuses bytes (faults.UnknownName line) = SpellsNothing bytes
Refuses bytes (faults.Twice line) = SpellsNothing bytes
Refuses bytes (faults.TooMany line) = SpellsNothing bytes
Refuses bytes (faults.LoopWithoutSync line) = SpellsNothing bytes
