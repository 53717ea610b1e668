-- What the chart of a journal is, and why there is none.
use Rattle.std.specs.Prelude.{◌≡◌, ℕ, Bool, List, Option, None}
use Rattle.protocol_values.specs.declared.Commit.{Commit}
use Rattle.script.specs.Sources.{Script}
use Rattle.journal_text.specs.Answers.{Explains}
use Rattle.journal_text.specs.Journals.{Spells}
use Rattle.journal_replay.specs.Replays.{StandsAfter}
use Rattle.journal_replay.specs.declared.state.State.{State}
use Rattle.pcml_chart.specs.Chart.{IsChart}
use Rattle.pcml_chart.specs.Mermaid.{IsMermaid}
use Rattle.pcml_answers.specs.Needs.{MisnamesAny, named_or_all, unnamed_of}
use Rattle.pcml_answers.specs.declared.need.NamesFault.{NamesFault}
use Rattle.pcml_answers.specs.declared.need.NamesFault.TheVariants as names
use Rattle.pcml_request.specs.declared.request.Form.{Form}
use Rattle.pcml_request.specs.declared.request.Form.TheVariants.{Mermaid, Svg}
use Rattle.pcml_texts.specs.Replay.{IsNoRun, unlawful_line}
use Rattle.pcml_texts.specs.declared.chart.ChartFault.{ChartFault}
use Rattle.journal_text.specs.declared.JournalFault.{JournalFault}
use Rattle.journal_text.specs.declared.JournalFault.TheVariants as journals
use Rattle.pcml_texts.specs.declared.chart.ChartFault.TheVariants.{Memory, BadLine, NoRun, Unnamed}

-- what a chart of this form is
abbrev pub Draws : Form → Script → State → List Bool → List Commit → ℕ → ℕ → List ℕ → Type 0
Draws Svg s state own commits from to text = IsChart s state own commits from to text
Draws Mermaid s state own commits from to text = IsMermaid s state own commits from to text

-- The bytes are a journal in the names of the script, and its commits are a run of the script's processes, of so many rows each,
-- which the state stands after. Each name is a process's. The text is the chart of those with a stamp from `from` to `to`, in this form.
pub record IsCharted (s : Script) (rows : ℕ) (bytes : List ℕ) (only : Option (List ℕ)) (from to : ℕ) (form : Form) (text : List ℕ) : Type 0 where
  pub commits : List Commit
  pub spells : Spells s bytes commits
  pub state : State
  pub stands : StandsAfter s.processes rows commits state
  pub named : unnamed_of s only ≡ None
  pub is : Draws form s state (named_or_all s only) commits from to text

-- the fault of reading a journal as one of drawing it
abbrev pub of_journal : JournalFault → ChartFault
of_journal journals.Memory = Memory
of_journal (journals.BadLine line) = BadLine line

-- that of names too
abbrev pub of_names : NamesFault → ChartFault
of_names names.Memory = Memory
of_names (names.Unnamed name) = Unnamed name

abbrev pub ExplainsChart : Script → ℕ → List ℕ → Option (List ℕ) → ChartFault → Type 0
ExplainsChart s rows bytes only Memory = Explains s bytes journals.Memory
ExplainsChart s rows bytes only (BadLine line) = Explains s bytes (journals.BadLine line)
ExplainsChart s rows bytes only (NoRun line) = IsNoRun s rows bytes (unlawful_line line)
ExplainsChart s rows bytes only (Unnamed name) = MisnamesAny s only (names.Unnamed name)
