-- What a finding says of all runs, whether they end or not, where something is sought in them.
use Rattle.std.specs.Prelude.{◌≡◌, ℕ, Bool, List, Contains, Some}
use Rattle.protocol_values.specs.declared.Commit.{Commit}
use Rattle.script.specs.Sources.{Script}
use Rattle.journal_text.specs.Journals.{Spells}
use Rattle.reachable.specs.Faults.{IsFaultBehind, NobodyFaults}
use Rattle.reachable.specs.Left.{EachCanEnd, IsLeftBehind}
use Rattle.reachable.specs.Printed.{IsPrintedBehind, NeverPrints}
use Rattle.reachable.specs.declared.faults.FirstFault.{FirstFault}
use Rattle.reachable.specs.declared.left.LeftBehind.{LeftBehind}
use Rattle.pcml_answers.specs.declared.prints.Print.{Print}
use Rattle.pcml_outcomes.specs.Faults.{TellsFaults}
use Rattle.pcml_outcomes.specs.Left.{TellsLeft}
use Rattle.pcml_outcomes.specs.Printed.{TellsPrints}
use Rattle.pcml_outcomes.specs.Told.{bytes_of}
use Rattle.pcml_outcomes.specs.declared.finding.Finding.TheVariants.{Clear, Stuck}
use Rattle.pcml_outcomes.specs.declared.sought.SoughtText.{SoughtText}

-- the journal that is kept is spelled by the text's
abbrev pub Keeps : Script → SoughtText → List Commit → Type 0
Keeps s t journal = (lines : List ℕ) × (bytes_of t.journal ≡ Some lines) × Spells s lines journal

-- wherever a run leads, each of those that are asked about can still end
abbrev pub ClearAllCanEnd : Type 0
ClearAllCanEnd = (s : Script) (limit : ℕ) (marks : List Bool) (t : SoughtText) → TellsLeft s limit marks t → t.finding ≡ Clear → EachCanEnd s.processes marks

-- the journal leads to where one of them never ends any more
abbrev pub StuckIsLeftBehind : Type 0
StuckIsLeftBehind = (s : Script) (limit : ℕ) (marks : List Bool) (t : SoughtText) → TellsLeft s limit marks t → t.finding ≡ Stuck → (left : LeftBehind) × IsLeftBehind s.processes marks left × Keeps s t left.journal.items

-- no run leads to where a process has faulted
abbrev pub ClearNeverFaults : Type 0
ClearNeverFaults = (s : Script) (limit : ℕ) (t : SoughtText) → TellsFaults s limit t → t.finding ≡ Clear → NobodyFaults s.processes

-- the journal leads to where one has
abbrev pub StuckHasFaulted : Type 0
StuckHasFaulted = (s : Script) (limit : ℕ) (t : SoughtText) → TellsFaults s limit t → t.finding ≡ Stuck → (fault : FirstFault) × IsFaultBehind s.processes fault × Keeps s t fault.journal.items

-- no run leads to where a process has printed its value
abbrev pub ClearNeverPrints : Type 0
ClearNeverPrints =
    (s : Script) (limit : ℕ) (prints : List Print) (t : SoughtText) → TellsPrints s limit prints t → t.finding ≡ Clear →
    (print : Print) → Contains prints print → NeverPrints s.processes print.process print.value

-- one of them has printed its value, and the journal leads to where it has
pub record HasPrintedOne (s : Script) (prints : List Print) (t : SoughtText) : Type 0 where
  pub print : Print
  pub among : Contains prints print
  pub journal : List Commit
  pub behind : IsPrintedBehind s.processes print.process print.value journal
  pub kept : Keeps s t journal

abbrev pub StuckHasPrinted : Type 0
StuckHasPrinted = (s : Script) (limit : ℕ) (prints : List Print) (t : SoughtText) → TellsPrints s limit prints t → t.finding ≡ Stuck → HasPrintedOne s prints t
