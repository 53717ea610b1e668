-- Which processes and which values texts name.
use Rattle.std.specs.Prelude.{◌≡◌, ◌<◌, ℕ, List, [], ◌∷◌, ◌++◌, Option, None, Some, codes, length, map, slice_get, take}
use Rattle.std.specs.List.{AllByRecursion}
use Rattle.std.specs.String.{string_bytes}
use Rattle.script.specs.Sources.{Script}
use Rattle.protocol_values.specs.declared.Message.TheVariants.{One}
use Rattle.protocol_values.specs.declared.Cause.TheVariants as causes
use Rattle.protocol_values.specs.declared.Commit.{Commit}
use Rattle.protocol_values.specs.declared.Commit.TheVariants.{Alone}
use Rattle.journal_text.specs.Journals.{HasAtom}
use Rattle.journal_text.specs.Names.{Naming, named, names_of}
use Rattle.journal_text.specs.Texts.{atom_text}
use Rattle.pcml_answers.specs.declared.prints.Print.{Print}
use Rattle.pcml_answers.specs.declared.prints.PrintsFault.{PrintsFault}
use Rattle.pcml_answers.specs.declared.prints.PrintsFault.TheVariants.{Memory, Unprinted}

-- the process is one of the script's
abbrev pub IsProcess : Script → Print → Type 0
IsProcess s print = print.process < length s.processes

-- its name and the value, as they are printed
abbrev pub print_text : Naming → Print → List ℕ
print_text names print = names.thread print.process ++ codes "=" ++ atom_text names print.value

-- the text is that of the process and the value
abbrev pub NamesPrint : Script → List ℕ → Print → Type 0
NamesPrint s text print = IsProcess s print × (print_text (named s) print ≡ text)

-- no process and no value that the script can come to have this text
abbrev pub NamesNone : Script → List ℕ → Type 0
NamesNone s text = (print : Print) → HasAtom (names_of s) print.value → NamesPrint s text print → ⊥

-- each text is that of the process and the value in its place
abbrev pub NamePrints : Script → List (List ℕ) → List Print → Type 0
NamePrints s texts prints = AllByRecursion (IsProcess s) prints × (map (print_text (named s)) prints ≡ texts)

-- it is the first of the texts that names none
pub record NamesNoneFirst (s : Script) (texts : List (List ℕ)) (its : List ℕ) : Type 0 where
  pub place : ℕ
  pub there : slice_get texts place ≡ Some its
  pub before : List Print
  pub named : NamePrints s (take place texts) before
  pub none : NamesNone s its

-- what a fault says
abbrev pub MisnamesPrints : Script → List (List ℕ) → PrintsFault → Type 0
MisnamesPrints s texts Memory = Unit {0}
MisnamesPrints s texts (Unprinted its) = NamesNoneFirst s texts (string_bytes its)

-- AS A JOURNAL HAS IT

-- the line in which the process of a name takes a value alone
abbrev pub value_line : List ℕ → List ℕ → List ℕ
value_line name value = codes "1 " ++ name ++ codes ".0.0 always (" ++ value ++ codes ")\n"

abbrev pub only_value : List Commit → Option Print
only_value (Alone at (causes.Always (One value)) stamp ∷ []) = Some (record { process = at.0.thread; value = value })
only_value commits = None

-- the process has the name, and the value that text
pub record HasWords (s : Script) (name value : List ℕ) (print : Print) : Type 0 where
  pub process : IsProcess s print
  pub atom : HasAtom (names_of s) print.value
  pub name_is : (named s).thread print.process ≡ name
  pub value_is : atom_text (named s) print.value ≡ value
