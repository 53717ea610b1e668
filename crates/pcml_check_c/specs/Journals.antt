-- What is told of a journal.
use Rattle.std.specs.Prelude.{◌≡◌, ◌≤◌, ◌+◌, ℕ, true, false, List, []}
use Rattle.std.specs.Str.{IsUtf8}
use Rattle.script.specs.FirstFaults.{Tells}
use Rattle.script.specs.Sources.{Script}
use Rattle.script.specs.Spelling.{Spells}
use Rattle.journal_text.specs.Journals.{IsFirstBadLine}
use Rattle.pcml_answers.specs.Needs.{MisnamesAny}
use Rattle.pcml_answers.specs.declared.need.NamesFault.TheVariants as names
use Rattle.pcml_request.specs.declared.request.Form.{Form}
use Rattle.pcml_request.specs.declared.request.Form.TheVariants.{Mermaid, Svg}
use Rattle.pcml_texts.specs.Chart.{IsCharted}
use Rattle.pcml_texts.specs.Replay.{IsNoRun, IsReplayed, unlawful_line}
use Rattle.pcml_check_c.specs.Names.{given}
use Rattle.pcml_check_c.specs.declared.told.Code.{Code}
use Rattle.pcml_check_c.specs.declared.told.Code.TheVariants.{Done, Open, Unlawful}
use Rattle.pcml_check_c.specs.declared.told.Told.{Told}
use Rattle.pcml_check_c.specs.declared.refusal.Refusal.{Refusal}
use Rattle.pcml_check_c.specs.declared.refusal.Refusal.TheVariants as refusals
use Rattle.protocol_values.specs.Commits.{most_rows}

-- as many rows as a process can have, in all seasons
abbrev pub AreRows : ℕ → Type 0
AreRows rows = (1 ≤ rows) × (rows ≤ most_rows)

-- a run that no commit may follow; one that some commit may; or the first line with which it is none
abbrev pub Judges : Script → ℕ → List ℕ → Code → ℕ → List ℕ → Type 0
Judges s rows journal Done line text = (line ≡ 0) × (replayed : IsReplayed s rows journal text) × (replayed.maximal ≡ true)
Judges s rows journal Open line text = (line ≡ 0) × (replayed : IsReplayed s rows journal text) × (replayed.maximal ≡ false)
Judges s rows journal Unlawful line text = (no_run : IsNoRun s rows journal text) × (line ≡ no_run.index + 1)
Judges s rows journal code line text = ⊥

-- of the script that the bytes spell
pub record IsJudged (script journal : List ℕ) (rows : ℕ) (told : Told) : Type 0 where
  pub in_range : AreRows rows
  pub s : Script
  pub spells : Spells script s
  pub judges : Judges s rows journal told.code told.line told.text.items

-- a bad number of rows comes first, then a fault of the script, then one of the journal
abbrev pub RefusesJournal : List ℕ → List ℕ → ℕ → Refusal → Type 0
RefusesJournal script journal rows refusals.Rows = ¬ AreRows rows
RefusesJournal script journal rows refusals.Memory = AreRows rows
RefusesJournal script journal rows (refusals.Script fault) = AreRows rows × Tells script fault
RefusesJournal script journal rows (refusals.BadLine line) = AreRows rows × (s : Script) × Spells script s × IsFirstBadLine s journal line
RefusesJournal script journal rows refusal = ⊥

-- CHARTS

abbrev pub IsForm : ℕ → Form → Type 0
IsForm number Svg = number ≡ 0
IsForm number Mermaid = number ≡ 1

-- the chart; or the first line with which the journal is no run, and no text
abbrev pub Draws : Script → ℕ → List ℕ → List ℕ → ℕ → ℕ → Form → Code → ℕ → List ℕ → Type 0
Draws s rows journal only from to form Done line text = (line ≡ 0) × IsCharted s rows journal (given only) from to form text
Draws s rows journal only from to form Unlawful line text = IsNoRun s rows journal (unlawful_line line) × (text ≡ [])
Draws s rows journal only from to form code line text = ⊥

pub record IsDrawn (script journal : List ℕ) (rows : ℕ) (only : List ℕ) (from to number : ℕ) (told : Told) : Type 0 where
  pub in_range : AreRows rows
  pub form : Form
  pub is_form : IsForm number form
  pub s : Script
  pub spells : Spells script s
  pub draws : Draws s rows journal only from to form told.code told.line told.text.items

-- the numbers of rows and of a form
abbrev pub AreDrawable : ℕ → ℕ → Type 0
AreDrawable rows number = AreRows rows × (number ≤ 1)

-- bad numbers come first, then names that are no text, a fault of the script, one of the journal, and a name of no process
abbrev pub RefusesChart : List ℕ → List ℕ → ℕ → List ℕ → ℕ → Refusal → Type 0
RefusesChart script journal rows only number refusals.Rows = ¬ AreRows rows
RefusesChart script journal rows only number refusals.Form = AreRows rows × (2 ≤ number)
RefusesChart script journal rows only number refusals.NoText = AreDrawable rows number × (¬ IsUtf8 only)
RefusesChart script journal rows only number refusals.Memory = AreDrawable rows number
RefusesChart script journal rows only number (refusals.Script fault) = AreDrawable rows number × Tells script fault
RefusesChart script journal rows only number (refusals.BadLine line) = AreDrawable rows number × (s : Script) × Spells script s × IsFirstBadLine s journal line
RefusesChart script journal rows only number (refusals.Unnamed name) = AreDrawable rows number × (s : Script) × Spells script s × MisnamesAny s (given only) (names.Unnamed name)
RefusesChart script journal rows only number refusal = ⊥
