-- What is told of a text that is to be a script.
use Rattle.std.specs.Prelude.{◌≡◌, ℕ, List, None, Some, codes}
use Rattle.script.specs.FirstFaults.{Tells}
use Rattle.pcml_texts.specs.Check.{IsChecked}
use Rattle.script_mistakes.specs.Telling.{TellsWhyNot}
use Rattle.pcml_check_c.specs.declared.told.Code.{Code}
use Rattle.pcml_check_c.specs.declared.told.Code.TheVariants.{Done, NoScript}
use Rattle.pcml_check_c.specs.declared.told.Told.{Told}
use Rattle.pcml_check_c.specs.declared.refusal.Refusal.{Refusal}
use Rattle.pcml_check_c.specs.declared.refusal.Refusal.TheVariants.{Memory, Script}

-- it is a script, and the text tells how large it is
pub record IsCounted (script : List ℕ) (told : Told) : Type 0 where
  pub code : told.code ≡ Done
  pub line : told.line ≡ 0
  pub is : IsChecked script told.text.items

-- want of memory, or the first fault of the text
abbrev pub RefusesScript : List ℕ → Refusal → Type 0
RefusesScript script (Script fault) = Tells script fault
RefusesScript script refusal = ⊥

-- of a script that it is one, and of another text why it is none
abbrev pub Explains : List ℕ → Code → List ℕ → Type 0
Explains script Done text = TellsWhyNot script None × (text ≡ codes "this is a script\n")
Explains script NoScript text = TellsWhyNot script (Some text)
Explains script code text = ⊥

pub record IsExplained (script : List ℕ) (told : Told) : Type 0 where
  pub line : told.line ≡ 0
  pub is : Explains script told.code told.text.items

abbrev pub RefusesMemory : Refusal → Type 0
RefusesMemory Memory = Unit {0}
RefusesMemory refusal = ⊥
