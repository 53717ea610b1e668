-- What is told of how often processes and channels took part in a journal.
use Rattle.std.specs.Prelude.{◌≡◌, ℕ, List}
use Rattle.protocol_values.specs.declared.Commit.{Commit}
use Rattle.script.specs.Sources.{Script}
use Rattle.journal_text.specs.Journals.{Spells}
use Rattle.journal_text.specs.Names.{named}
use Rattle.journal_replay.specs.Runs.{IsRun}
use Rattle.pcml_answers.specs.Stats.{stats_text}
use Rattle.pcml_texts.specs.Replay.{IsNoRun}
use Rattle.pcml_texts.specs.declared.replay.Replayed.{Replayed}
use Rattle.pcml_texts.specs.declared.replay.Replayed.TheVariants.{Lawful, Unlawful}

-- The bytes are a journal in the names of the script, and its commits are a run of the script's processes, of so many rows each.
-- The text tells how often each process and each channel took part in it.
pub record IsCounted (s : Script) (rows : ℕ) (bytes text : List ℕ) : Type 0 where
  pub commits : List Commit
  pub spells : Spells s bytes commits
  pub run : IsRun s.processes rows commits
  pub is : text ≡ stats_text (named s) s commits

abbrev pub TellsStats : Script → ℕ → List ℕ → Replayed → Type 0
TellsStats s rows bytes (Lawful text) = IsCounted s rows bytes text.items
TellsStats s rows bytes (Unlawful text) = IsNoRun s rows bytes text.items
