-- Processes, without where their parts lie in memory.
use Rattle.std.specs.Prelude.{◌≡◌, ℕ, List, map, length}
use Rattle.std.specs.List.{AllByRecursion, AllByRecursion-prop}
use Rattle.std.specs.Coded.{Coded-set, coded_ℕ}
use Rattle.std.specs.String.{string_bytes}
use Rattle.std.specs.declared.string.String.{String}
use Rattle.script_tree.specs.Trees.{Block, block_of}
use Rattle.script_tree.specs.Limits.{Known, KeepsLimits}
use Rattle.script_tree.specs.declared.process.Proc.{Proc as SeenProc}
use Rattle.script_tree.specs.declared.tree.Block.{Block as SeenBlock}

-- the bytes of each text
abbrev pub string_texts : {Z : Type 0} → List (String Z) → List (List ℕ)
string_texts texts = map string_bytes texts

-- a process: its name, its statements, the names of its variables by their numbers, how many channels there are, and
-- how many processes stand before it
pub record Proc : Type 0 where
  pub name : List ℕ
  pub body : Block
  pub variables : List (List ℕ)
  pub channels : ℕ
  pub earlier : ℕ

abbrev pub known_in : Proc → Known
known_in p = record { channels = p.channels; variables = length p.variables; processes = p.earlier }

abbrev pub IsProc : Proc → Type 0
IsProc p = KeepsLimits (known_in p) p.body

abbrev pub proc_of : SeenProc → Proc
proc_of p = record { name = string_bytes p.name; body = block_of p.body.value; variables = string_texts p.variables.items; channels = p.channels; earlier = p.earlier }

-- the tree of its statements, where it lies in memory and with its lines
abbrev pub tree_of : SeenProc → SeenBlock
tree_of p = p.body.value

-- processes of a script with so many channels
abbrev pub ShareChannels : ℕ → List Proc → Type 0
ShareChannels count processes = AllByRecursion (λ p. p.channels ≡ count) processes

pub ShareChannels-prop : (count : ℕ) (processes : List Proc) → IsProp (ShareChannels count processes)
ShareChannels-prop count processes = AllByRecursion-prop (λ p. p.channels ≡ count) (λ p. Coded-set coded_ℕ p.channels count) processes
