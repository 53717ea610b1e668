-- What is told of the commits that may come next behind a journal.
use Rattle.std.specs.Prelude.{◌↔◌, ℕ, List, Contains}
use Rattle.protocol_values.specs.Commits.{IsInOrder}
use Rattle.protocol_values.specs.declared.Commit.{Commit}
use Rattle.script.specs.Sources.{Script}
use Rattle.journal_text.specs.Journals.{Spells}
use Rattle.journal_replay.specs.Runs.{Follows, IsRun}
use Rattle.pcml_texts.specs.Replay.{IsNoRun}
use Rattle.pcml_texts.specs.declared.replay.Replayed.{Replayed}
use Rattle.pcml_texts.specs.declared.replay.Replayed.TheVariants.{Lawful, Unlawful}

-- The bytes are a journal in the names of the script, and its commits are a run of the script's processes, of so many rows each.
-- The text is that of the commits that may come next, each of them and no other, in the journal's order.
pub record IsNext (s : Script) (rows : ℕ) (bytes text : List ℕ) : Type 0 where
  pub commits : List Commit
  pub spells : Spells s bytes commits
  pub run : IsRun s.processes rows commits
  pub told : List Commit
  pub each : (c : Commit) → Contains told c ↔ Follows s.processes rows commits c
  pub ordered : IsInOrder told
  pub lines : Spells s text told

abbrev pub TellsNextOf : Script → ℕ → List ℕ → Replayed → Type 0
TellsNextOf s rows bytes (Lawful text) = IsNext s rows bytes text.items
TellsNextOf s rows bytes (Unlawful text) = IsNoRun s rows bytes text.items
