-- Which files hold what they held before.
use Rattle.std.proofs.Common.{ℕ, List, Option, Some, None}
use Rattle.pcml_tool.specs.Command.{Files, HoldsJournal, KeepsAsked}

-- what files held before the script was read they held at first
pub kept_on : (Holds Read Keeps : Files) (name lines : Option (List ℕ)) → ((file bytes : List ℕ) → Read file bytes → Holds file bytes) → KeepsAsked Read Keeps name lines → KeepsAsked Holds Keeps name lines
kept_on Holds Read Keeps (Some name) (Some lines) before kept = kept
kept_on Holds Read Keeps (Some name) None before kept = λ file bytes keeps. before file bytes (kept file bytes keeps)
kept_on Holds Read Keeps None lines before kept = λ file bytes keeps. before file bytes (kept file bytes keeps)

-- and so of a journal
pub journal_on : (Holds Read : Files) (name : Option (List ℕ)) (read : List ℕ) → ((file bytes : List ℕ) → Read file bytes → Holds file bytes) → HoldsJournal Read name read → HoldsJournal Holds name read
journal_on Holds Read (Some name) read before has = before name read has
journal_on Holds Read None read before has = has
