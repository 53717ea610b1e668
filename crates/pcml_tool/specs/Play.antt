-- What playing a schedule prints, and what its faults say.
use Rattle.std.specs.Prelude.{◌≡◌, ℕ, ◌+◌, ◌-◌, ◌^◌, Option, Some, None, List, [], ◌∷◌, ◌++◌, length, codes, IsPermutation}
use Rattle.std.specs.Fmt.{decimal}
use Rattle.protocol_values.specs.declared.Commit.{Commit}
use Rattle.protocol_values.specs.Commits.{IsInOrder}
use Rattle.protocol_ledger.specs.Worlds.{World, Plays, IsRefused, start_world}
use Rattle.protocol_ledger.specs.Ledgers.{Ledger, ledger_of, commits_in, pending_in}
use Rattle.protocol.specs.declared.schedule.ReadFault.{ReadFault}
use Rattle.protocol.specs.declared.schedule.ReadFault.TheVariants as reading
use Rattle.protocol.specs.declared.schedule.Size.{Size}
use Rattle.pcml_tool.specs.declared.play.PlayFault.{PlayFault}
use Rattle.pcml_tool.specs.declared.play.PlayFault.TheVariants.{Memory, BadStep, NotAllowed}
use Rattle.protocol.specs.Schedule.{Plan, Spells, IsFirstBadLine}
use Rattle.journal_text.specs.Names.{numbers}
use Rattle.journal_text.specs.Texts.{commits_text}

-- the last line: how many commits there are, and how many of their pairs are not sealed yet
abbrev pub counts_line : ℕ → ℕ → List ℕ
counts_line commits pending = codes "commits " ++ decimal commits ++ codes " pending " ++ decimal pending ++ 10 ∷ []

-- the ledger's commits, each once, in the journal's order
pub record AreCommitsOf (l : Ledger) (cs : List Commit) : Type 0 where
  pub all : IsPermutation (commits_in l) cs
  pub in_order : IsInOrder cs

-- the text tells the ledger's commits in order, and then how many there are and how many are pending
pub record Reports (l : Ledger) (text : List ℕ) : Type 0 where
  pub commits : List Commit
  pub are : AreCommitsOf l commits
  pub is : text ≡ commits_text numbers commits ++ counts_line (length commits) (pending_in l)

-- the mask of the threads that wait to be started: none, or those from n on
abbrev pub later_of : Option ℕ → ℕ
later_of None = 0
later_of (Some n) = 2 ^ 64 - 2 ^ n

-- the world in which a schedule begins
abbrev pub start_of : Size → World
start_of w = start_world w.threads w.rows w.seats (later_of w.started)

-- The bytes spell a schedule each of whose steps is allowed in turn, and the text tells the ledger of the world that
-- they lead to.
pub record IsPlayed (bytes text : List ℕ) : Type 0 where
  pub plan : Plan
  pub spells : Spells bytes plan
  pub world : World
  pub plays : Plays (start_of plan.size) plan.steps world
  pub reports : Reports (ledger_of world.table) text

-- The bytes spell a schedule, and step k of it, from 1, is the first that is not allowed.
pub record IsFirstRefused (bytes : List ℕ) (k : ℕ) : Type 0 where
  pub plan : Plan
  pub spells : Spells bytes plan
  pub index : ℕ
  pub from_one : k ≡ index + 1
  pub refused : IsRefused (start_of plan.size) plan.steps index

-- a fault of reading, as a fault of playing
abbrev pub comes_from : ReadFault → PlayFault
comes_from reading.Memory = Memory
comes_from (reading.BadStep line) = BadStep line

abbrev pub ExplainsPlay : List ℕ → PlayFault → Type 0
ExplainsPlay bytes Memory = Unit {0}
ExplainsPlay bytes (BadStep line) = IsFirstBadLine bytes line
ExplainsPlay bytes (NotAllowed step) = IsFirstRefused bytes step

-- LAWS

-- bytes that are played have no bad line, and no step that is refused
abbrev pub IsPlayedOrFaulty : Type 0
IsPlayedOrFaulty = (bytes text : List ℕ) (k : ℕ) → IsPlayed bytes text → (IsFirstBadLine bytes k → ⊥) × (IsFirstRefused bytes k → ⊥)

-- at most one step is the first that is refused, and then no line is bad
abbrev pub HasOneFirstRefused : Type 0
HasOneFirstRefused = (bytes : List ℕ) (j k : ℕ) → IsFirstRefused bytes j → (IsFirstBadLine bytes k → ⊥) × (IsFirstRefused bytes k → j ≡ k)
