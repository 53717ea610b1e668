-- What is told of the commits that may come next.
use Rattle.std.specs.Prelude.{ℕ, List}
use Rattle.protocol_values.specs.declared.Commit.{Commit}
use Rattle.script.specs.Sources.{Script}
use Rattle.journal_text.specs.Journals.{Spells}
use Rattle.journal_replay.specs.Nexting.{TellsNext}

-- the text of the commits that may come next where the journal leads
pub record TellsComing (s : Script) (rows : ℕ) (journal : List Commit) (text : List ℕ) : Type 0 where
  pub told : List Commit
  pub next : TellsNext s.processes rows journal told
  pub spells : Spells s text told
