-- The variables of a process, and what went wrong in one that faulted.
use Rattle.std.specs.Prelude.{ℕ, zero, suc, ◌==◌, Bool, true, false, if◌then◌else◌, List, [], ◌∷◌, ◌++◌, Option, Some, None, codes, get_or, length, slice_get, take}
use Rattle.std.specs.Fmt.{decimal}
use Rattle.std.specs.List.{list_any}
use Rattle.script_tree.specs.declared.tree.Name.{Name}
use Rattle.script_tree.specs.declared.tree.Name.TheVariants.{Variable, Channel}
use Rattle.protocol_values.specs.declared.Atom.{Atom}
use Rattle.journal_text.specs.Names.{Naming}
use Rattle.journal_text.specs.Texts.{atom_text}
use Rattle.thread.specs.declared.Fault.{Fault}
use Rattle.thread.specs.declared.Fault.TheVariants.{Unset as UnsetFault, Kind as KindFault, Range, Shape}
use Rattle.pcml_why_sites.specs.declared.trouble.Kind.{Kind}
use Rattle.pcml_why_sites.specs.declared.trouble.Kind.TheVariants as kind
use Rattle.pcml_why_sites.specs.declared.trouble.Trouble.{Trouble}
use Rattle.pcml_why_sites.specs.declared.trouble.Trouble.TheVariants.{Unset, NotOfKind, Below, Above, Nacks, Count}
use Rattle.pcml_why_sites.specs.declared.stand.Stand.{Stand}
use Rattle.pcml_why_sites.specs.declared.stand.Stand.TheVariants.{Fails}

-- VARIABLES

abbrev pub is_set : Option Atom → Bool
is_set None = false
is_set (Some atom) = true

abbrev pub some_set : List (Option Atom) → Bool
some_set store = list_any is_set store

-- what stands before a variable: the first that is set begins the line
abbrev pub lead : Bool → List ℕ
lead true = codes ", "
lead false = codes "  "

-- a variable that is set, and its value
abbrev pub variable_text : Naming → List (List ℕ) → Bool → ℕ → Option (Option Atom) → List ℕ
variable_text names variables behind v (Some (Some atom)) = lead behind ++ get_or variables v [] ++ codes " = " ++ atom_text names atom
variable_text names variables behind v (Some None) = []
variable_text names variables behind v None = []

-- of the first so many variables those that are set
abbrev pub variables_below : Naming → List (List ℕ) → List (Option Atom) → ℕ → List ℕ
variables_below names variables store zero = []
variables_below names variables store (suc v) =
    variables_below names variables store v ++ variable_text names variables (some_set (take v store)) v (slice_get store v)

-- a line of those that are set, where some are
abbrev pub variables_text : Naming → List (List ℕ) → List (Option Atom) → List ℕ
variables_text names variables store = if some_set store then variables_below names variables store (length store) ++ 10 ∷ [] else []

-- TROUBLES

abbrev pub kind_word : Kind → List ℕ
kind_word kind.Number = codes "number"
kind_word kind.Channel = codes "channel"
kind_word kind.Nack = codes "nack"

-- a value that a variable held is told with the variable
abbrev pub not_of_kind : Naming → List (List ℕ) → Option Name → Atom → Kind → List ℕ
not_of_kind names variables (Some (Variable v)) value wanted = get_or variables v [] ++ codes " is " ++ atom_text names value ++ codes " and no " ++ kind_word wanted
not_of_kind names variables (Some (Channel c)) value wanted = atom_text names value ++ codes " is no " ++ kind_word wanted
not_of_kind names variables None value wanted = atom_text names value ++ codes " is no " ++ kind_word wanted

abbrev pub counted : ℕ → List ℕ → List ℕ
counted n word = decimal n ++ word ++ (if n == 1 then [] else codes "s")

unfoldable pub below_words : List ℕ
below_words = codes " is below 0"

unfoldable pub above_words : List ℕ
above_words = codes " is above 4294967295"

unfoldable pub nacks_words : List ℕ
nacks_words = codes "a process has 64 nacks"

abbrev pub trouble_text : Naming → List (List ℕ) → Trouble → List ℕ
trouble_text names variables (Unset v) = get_or variables v [] ++ codes " is not set"
trouble_text names variables (NotOfKind name value wanted) = not_of_kind names variables name value wanted
trouble_text names variables (Below left right) = decimal left ++ codes " - " ++ decimal right ++ below_words
trouble_text names variables (Above left right) = decimal left ++ codes " + " ++ decimal right ++ above_words
trouble_text names variables Nacks = nacks_words
trouble_text names variables (Count values called) = counted values (codes " value") ++ codes " for " ++ counted called (codes " name")

-- a fault in general words, where no more is known of it
abbrev pub fault_text : Fault → List ℕ
fault_text UnsetFault = codes "a name is read that is not set"
fault_text KindFault = codes "a value is not of the kind that is wanted"
fault_text Range = codes "a number or a nack is out of range"
fault_text Shape = codes "a message has more or fewer values than there are names"

abbrev pub wrong_text : Naming → List (List ℕ) → Fault → Stand → List ℕ
wrong_text names variables fault (Fails store trouble) = trouble_text names variables trouble
wrong_text names variables fault stand = fault_text fault
