-- What is told of all that a script can come to.
use Rattle.std.specs.Prelude.{◌≡◌, ◌⊎◌, ◌≤◌, ◌==◌, if◌then◌else◌, ℕ, false, List, Option, None, Some}
use Rattle.std.specs.Str.{IsUtf8}
use Rattle.script.specs.FirstFaults.{Tells}
use Rattle.script.specs.Sources.{Script}
use Rattle.script.specs.Spelling.{Spells}
use Rattle.journal_text.specs.Names.{named}
use Rattle.outcomes.specs.declared.asked.Asked.{Asked}
use Rattle.outcomes.specs.declared.Outcomes.{Outcomes}
use Rattle.reachable.specs.declared.stranded.AllStranded.{AllStranded}
use Rattle.pcml_answers.specs.declared.need.NamesFault.{NamesFault}
use Rattle.pcml_answers.specs.declared.need.NamesFault.TheVariants as names
use Rattle.pcml_request.specs.declared.request.Wanted.{Wanted}
use Rattle.pcml_outcomes.specs.Stranding.{AreLostIn, judged}
use Rattle.pcml_outcomes.specs.Told.{AreFoundIn, NamesNeeded, finding, looks, outcomes_text}
use Rattle.pcml_outcomes.specs.declared.finding.Finding.{Finding}
use Rattle.pcml_outcomes.specs.declared.finding.Finding.TheVariants as findings
use Rattle.pcml_outcomes.specs.Searching.{IsAskedOf, MisnamesAsked}
use Rattle.pcml_check_c.specs.Names.{Wants, given}
use Rattle.pcml_check_c.specs.declared.told.Code.{Code}
use Rattle.pcml_check_c.specs.declared.told.Code.TheVariants.{Done, Open, Stranded, Stuck}
use Rattle.pcml_check_c.specs.declared.told.Told.{Told}
use Rattle.pcml_check_c.specs.declared.refusal.Refusal.{Refusal}
use Rattle.pcml_check_c.specs.declared.refusal.Refusal.TheVariants as refusals

-- the rows of one season, or 0, which is any number
abbrev pub AreRows : ℕ → Type 0
AreRows rows = rows ≤ 1024

abbrev pub rows_of : ℕ → Option ℕ
rows_of rows = if rows == 0 then None else Some rows

abbrev pub IsLimit : ℕ → Type 0
IsLimit limit = (1 ≤ limit) × (limit ≤ 4194304)

abbrev pub AreNumbers : ℕ → ℕ → Type 0
AreNumbers rows limit = AreRows rows × IsLimit limit

abbrev pub code_of_finding : Finding → Code
code_of_finding findings.Clear = Done
code_of_finding findings.Stuck = Stuck
code_of_finding findings.Stranded = Stranded
code_of_finding findings.Open = Open

-- what was found of the script that the bytes spell, of what was asked for
pub record IsSearched (script : List ℕ) (rows limit : ℕ) (need only : List ℕ) (told : Told) : Type 0 where
  pub numbers : AreNumbers rows limit
  pub s : Script
  pub spells : Spells script s
  pub wanted : Wanted
  pub wants : Wants (given need) wanted
  pub asked : Asked
  pub asks : IsAskedOf s wanted (given only) false asked
  pub needed : NamesNeeded asked
  pub found : Outcomes
  pub are : AreFoundIn s (rows_of rows) limit asked found
  pub stranded : Option AllStranded
  pub lost : AreLostIn s limit asked (looks (rows_of rows) asked found) stranded
  pub code : told.code ≡ code_of_finding (judged asked.told (finding asked found) stranded)
  pub line : told.line ≡ 0
  pub text : told.text.items ≡ outcomes_text (named s) (rows_of rows) asked found stranded

-- a name that no process of the script has, of those that are needed or of the others
pub record Misnames (script need only : List ℕ) (fault : NamesFault) : Type 0 where
  pub s : Script
  pub spells : Spells script s
  pub wanted : Wanted
  pub wants : Wants (given need) wanted
  pub misnames : MisnamesAsked s wanted (given only) fault

-- bad numbers come first, then names that are no text, a fault of the script, and a name of no process
abbrev pub RefusesOutcomes : List ℕ → ℕ → ℕ → List ℕ → List ℕ → Refusal → Type 0
RefusesOutcomes script rows limit need only refusals.Rows = ¬ AreRows rows
RefusesOutcomes script rows limit need only refusals.Limit = AreRows rows × (¬ IsLimit limit)
RefusesOutcomes script rows limit need only refusals.NoText = AreNumbers rows limit × ((¬ IsUtf8 need) ⊎ (¬ IsUtf8 only))
RefusesOutcomes script rows limit need only refusals.Memory = AreNumbers rows limit
RefusesOutcomes script rows limit need only (refusals.Script fault) = AreNumbers rows limit × Tells script fault
RefusesOutcomes script rows limit need only (refusals.Unnamed name) = AreNumbers rows limit × Misnames script need only (names.Unnamed name)
RefusesOutcomes script rows limit need only refusal = ⊥
