-- What is told of what is sought in all runs.
use Rattle.std.specs.Prelude.{◌≡◌, ℕ, Bool, List, [], ◌∷◌}
use Rattle.std.specs.Str.{IsUtf8}
use Rattle.script.specs.FirstFaults.{Tells}
use Rattle.script.specs.Sources.{Script}
use Rattle.script.specs.Spelling.{Spells}
use Rattle.pcml_answers.specs.Needs.{Misnames, Names}
use Rattle.pcml_answers.specs.Prints.{MisnamesPrints, NamePrints}
use Rattle.pcml_answers.specs.declared.need.NamesFault.TheVariants as names
use Rattle.pcml_answers.specs.declared.prints.Print.{Print}
use Rattle.pcml_answers.specs.declared.prints.PrintsFault.TheVariants as prints
use Rattle.pcml_outcomes.specs.Faults.{TellsFaults}
use Rattle.pcml_outcomes.specs.Left.{TellsLeft}
use Rattle.pcml_outcomes.specs.Printed.{TellsPrints}
use Rattle.pcml_outcomes.specs.declared.finding.Finding.{Finding}
use Rattle.pcml_outcomes.specs.declared.finding.Finding.TheVariants as findings
use Rattle.pcml_outcomes.specs.declared.sought.SoughtText.{SoughtText}
use Rattle.pcml_check_c.specs.Outcomes.{IsLimit}
use Rattle.pcml_check_c.specs.declared.told.Code.{Code}
use Rattle.pcml_check_c.specs.declared.told.Code.TheVariants.{Done, Found, Open}
use Rattle.pcml_check_c.specs.declared.told.Told.{Told}
use Rattle.pcml_check_c.specs.declared.refusal.Refusal.{Refusal}
use Rattle.pcml_check_c.specs.declared.refusal.Refusal.TheVariants as refusals

abbrev pub code_of_sought : Finding → Code
code_of_sought findings.Clear = Done
code_of_sought findings.Stuck = Found
code_of_sought findings.Stranded = Found
code_of_sought findings.Open = Open

-- the same text, and the code of what was found
pub record Shows (sought : SoughtText) (told : Told) : Type 0 where
  pub code : told.code ≡ code_of_sought sought.finding
  pub line : told.line ≡ 0
  pub text : told.text.items ≡ sought.text.items

-- what was sought in the script that the bytes spell
pub record IsSought (Tells : Script → SoughtText → Type 0) (script : List ℕ) (limit : ℕ) (told : Told) : Type 0 where
  pub number : IsLimit limit
  pub s : Script
  pub spells : Spells script s
  pub sought : SoughtText
  pub tells : Tells s sought
  pub shows : Shows sought told

abbrev pub IsLeftSought : List ℕ → ℕ → List ℕ → Told → Type 0
IsLeftSought script limit names told = IsSought (λ s sought. (marks : List Bool) × Names s names marks × TellsLeft s limit marks sought) script limit told

abbrev pub IsFaultSought : List ℕ → ℕ → Told → Type 0
IsFaultSought script limit told = IsSought (λ s sought. TellsFaults s limit sought) script limit told

abbrev pub IsPrintSought : List ℕ → ℕ → List ℕ → Told → Type 0
IsPrintSought script limit print told = IsSought (λ s sought. (prints : List Print) × NamePrints s (print ∷ []) prints × TellsPrints s limit prints sought) script limit told

-- a bad number comes first, then what is no text, and a fault of the script
abbrev pub RefusesFaults : List ℕ → ℕ → Refusal → Type 0
RefusesFaults script limit refusals.Limit = ¬ IsLimit limit
RefusesFaults script limit refusals.Memory = IsLimit limit
RefusesFaults script limit (refusals.Script fault) = IsLimit limit × Tells script fault
RefusesFaults script limit refusal = ⊥

-- last a name that no process of the script has
abbrev pub RefusesLeft : List ℕ → ℕ → List ℕ → Refusal → Type 0
RefusesLeft script limit text refusals.NoText = IsLimit limit × (¬ IsUtf8 text)
RefusesLeft script limit text (refusals.Unnamed name) = IsLimit limit × (s : Script) × Spells script s × Misnames s text (names.Unnamed name)
RefusesLeft script limit text refusal = RefusesFaults script limit refusal

-- or the text that names no process and value of it
abbrev pub RefusesPrint : List ℕ → ℕ → List ℕ → Refusal → Type 0
RefusesPrint script limit print refusals.NoText = IsLimit limit × (¬ IsUtf8 print)
RefusesPrint script limit print (refusals.Unprinted text) = IsLimit limit × (s : Script) × Spells script s × MisnamesPrints s (print ∷ []) (prints.Unprinted text)
RefusesPrint script limit print refusal = RefusesFaults script limit refusal
