-- Which processes names stand for.
use Rattle.std.specs.Prelude.{◌≡◌, ◌==◌, ℕ, Bool, true, not, List, [], ◌∷◌, ◌++◌, Option, None, Some, if◌then◌else◌, codes, length, map, replicate}
use Rattle.std.specs.List.{find, list_any}
use Rattle.std.specs.Str.Lossy.{utf8_lossy}
use Rattle.std.specs.String.{string_bytes}
use Rattle.script_token.specs.Tokens.{same}
use Rattle.script.specs.Sources.{Script}
use Rattle.pcml_answers.specs.declared.need.NamesFault.{NamesFault}
use Rattle.pcml_answers.specs.declared.need.NamesFault.TheVariants.{Memory, Unnamed}

-- the names between the commas of a text, where this stands before it
abbrev pub names_from : List ℕ → List ℕ → List (List ℕ)
names_from before [] = before ∷ []
names_from before (b ∷ bs) = if b == 44 then before ∷ names_from [] bs else names_from (before ++ b ∷ []) bs

abbrev pub names_in : List ℕ → List (List ℕ)
names_in text = names_from [] text

-- `all`, alone, stands for all processes
abbrev pub names_all : List ℕ → Bool
names_all text = same text (codes "all")

abbrev pub is_process : Script → List ℕ → Bool
is_process s name = list_any (λ p. same p.name name) s.processes

-- the first of the names that no process has
abbrev pub unnamed_in : Script → List ℕ → Option (List ℕ)
unnamed_in s text = find (λ name. not (is_process s name)) (names_in text)

abbrev pub first_unnamed : Script → List ℕ → Option (List ℕ)
first_unnamed s text = if names_all text then None else unnamed_in s text

abbrev pub is_in : List ℕ → List ℕ → Bool
is_in name text = list_any (λ n. same n name) (names_in text)

-- of each process whether its name is one of those of a text
abbrev pub are_in : Script → List ℕ → List Bool
are_in s text = map (λ p. is_in p.name text) s.processes

-- of each process whether the text stands for it
abbrev pub named_by : Script → List ℕ → List Bool
named_by s text = if names_all text then replicate (length s.processes) true else are_in s text

-- each name is a process's, and these marks are those of the text
abbrev pub Names : Script → List ℕ → List Bool → Type 0
Names s text marks = (first_unnamed s text ≡ None) × (marks ≡ named_by s text)

-- what a fault says: the first of the names that no process has
abbrev pub Misnames : Script → List ℕ → NamesFault → Type 0
Misnames s text Memory = Unit {0}
Misnames s text (Unnamed name) = (first : List ℕ) × (first_unnamed s text ≡ Some first) × (string_bytes name ≡ utf8_lossy first)

-- WHERE NAMES NEED NOT BE GIVEN: else all processes are meant

abbrev pub unnamed_of : Script → Option (List ℕ) → Option (List ℕ)
unnamed_of s None = None
unnamed_of s (Some text) = first_unnamed s text

abbrev pub named_or_all : Script → Option (List ℕ) → List Bool
named_or_all s None = replicate (length s.processes) true
named_or_all s (Some text) = named_by s text

abbrev pub NamesOrAll : Script → Option (List ℕ) → List Bool → Type 0
NamesOrAll s names marks = (unnamed_of s names ≡ None) × (marks ≡ named_or_all s names)

abbrev pub MisnamesAny : Script → Option (List ℕ) → NamesFault → Type 0
MisnamesAny s None Memory = Unit {0}
MisnamesAny s None (Unnamed name) = ⊥
MisnamesAny s (Some text) fault = Misnames s text fault
