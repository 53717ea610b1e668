-- What is told of where the processes stand after a journal, or of why it is no run.
use Rattle.std.specs.Prelude.{◌≡◌, ℕ, ◌+◌, List, ◌++◌, ⊤}
use Rattle.protocol_values.specs.declared.Commit.{Commit}
use Rattle.script.specs.Sources.{Script}
use Rattle.script_tree.specs.declared.tree.Block.{Block as Tree}
use Rattle.journal_text.specs.Journals.{Spells}
use Rattle.journal_text.specs.Names.{named}
use Rattle.journal_replay.specs.Lines.{trees_in}
use Rattle.journal_replay.specs.Replays.{StandsAfter}
use Rattle.journal_replay.specs.Runs.{BreaksOffAt}
use Rattle.journal_replay.specs.declared.state.State.{State}
use Rattle.pcml_why.specs.Whys.{IsWhy}
use Rattle.pcml_answers.specs.Reasons.{IsReasonAt}
use Rattle.pcml_answers.specs.Texts.{reason_text}
use Rattle.pcml_answers.specs.declared.reason.Reason.{Reason}
use Rattle.pcml_texts.specs.Replay.{unlawful_line}
use Rattle.pcml_texts.specs.declared.reach.Reached.{Reached}
use Rattle.pcml_texts.specs.declared.reach.Reached.TheVariants.{Run, NoRun}
use Rattle.pcml_texts.specs.declared.replay.Replayed.{Replayed}
use Rattle.pcml_texts.specs.declared.replay.Replayed.TheVariants.{Lawful, Unlawful}

-- the state of a journal that is a run runs these trees
abbrev pub RunsTrees : List Tree → Reached → Type 0
RunsTrees trees (Run commits state) = trees_in state ≡ trees
RunsTrees trees (NoRun broken) = ⊤

-- The commits are a run of the script's processes, of so many rows each, which a state stands after that runs these trees. The told
-- text says where the processes stand, at the lines of the trees.
pub record IsWhyOf (s : Script) (trees : List Tree) (source : List ℕ) (rows : ℕ) (commits : List Commit) (told : List ℕ) : Type 0 where
  pub state : State
  pub stands : StandsAfter s.processes rows commits state
  pub runs : trees_in state ≡ trees
  pub is : IsWhy s state commits source rows told

-- the bytes are a journal in the names of the script, and the text says so of its commits
pub record IsTold (s : Script) (trees : List Tree) (source : List ℕ) (rows : ℕ) (bytes told : List ℕ) : Type 0 where
  pub commits : List Commit
  pub spells : Spells s bytes commits
  pub why : IsWhyOf s trees source rows commits told

-- the text tells the line of the commit with this number, and behind it why that commit may not come next
pub record TellsReason (s : Script) (rows : ℕ) (commits : List Commit) (index : ℕ) (text : List ℕ) : Type 0 where
  pub reason : Reason
  pub is_reason : IsReasonAt s.processes rows commits index reason
  pub is : text ≡ unlawful_line (index + 1) ++ reason_text (named s) rows reason

-- The bytes are a journal in the names of the script, of which the text tells the first line with which it is no run, and why.
pub record IsRefused (s : Script) (rows : ℕ) (bytes text : List ℕ) : Type 0 where
  pub commits : List Commit
  pub spells : Spells s bytes commits
  pub index : ℕ
  pub breaks : BreaksOffAt s.processes rows commits index
  pub told : TellsReason s rows commits index text

abbrev pub TellsWhy : Script → List Tree → List ℕ → ℕ → List ℕ → Replayed → Type 0
TellsWhy s trees source rows bytes (Lawful text) = IsTold s trees source rows bytes text.items
TellsWhy s trees source rows bytes (Unlawful text) = IsRefused s rows bytes text.items
