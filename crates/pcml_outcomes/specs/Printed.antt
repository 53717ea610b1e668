-- What is told of whether a process prints a value, and of several values.
use Rattle.std.specs.Prelude.{◌≡◌, ◌≤◌, ℕ, List, [], ◌∷◌, ◌++◌, codes, Option, None, Some, map}
use Rattle.std.specs.Fmt.{decimal}
use Rattle.std.specs.List.{flat_map}
use Rattle.std.specs.Global.{Vec}
use Rattle.protocol_values.specs.declared.Commit.{Commit}
use Rattle.script.specs.Sources.{Script}
use Rattle.journal_text.specs.Names.{Naming, named}
use Rattle.journal_text.specs.Texts.{atom_text}
use Rattle.reachable.specs.Printed.{IsPrintedBehind, NeverPrints}
use Rattle.reachable.specs.declared.printed.AllPrinted.{AllPrinted}
use Rattle.reachable.specs.declared.printed.Printed.{Printed}
use Rattle.reachable.specs.declared.printed.Printed.TheVariants.{Behind, Never, Unknown}
use Rattle.pcml_answers.specs.declared.prints.Print.{Print}
use Rattle.pcml_outcomes.specs.Told.{SpellsKept, bytes_of}
use Rattle.pcml_outcomes.specs.declared.finding.Finding.{Finding}
use Rattle.pcml_outcomes.specs.declared.finding.Finding.TheVariants.{Clear, Open, Stranded, Stuck}
use Rattle.pcml_outcomes.specs.declared.sought.SoughtText.{SoughtText}

abbrev pub word_of : Printed → List ℕ
word_of (Behind journal) = codes "printed "
word_of printed = codes "never "

abbrev pub end_of : Printed → List ℕ
end_of (Behind journal) = codes "\n"
end_of Never = codes " all\n"
end_of Unknown = codes " cut\n"

-- that the process prints the value, or never does, or that it is not known that it does; and how many states were seen
abbrev pub printed_line : Naming → Print → Printed → ℕ → List ℕ
printed_line names print printed visited = word_of printed ++ names.thread print.process ++ codes " " ++ atom_text names print.value ++ codes " states " ++ decimal visited ++ end_of printed

-- the run to where it has
abbrev pub printed_run : Printed → Option (List Commit)
printed_run (Behind journal) = Some journal.items
printed_run printed = None

abbrev pub printed_finding : Printed → Finding
printed_finding (Behind journal) = Stuck
printed_finding Never = Clear
printed_finding Unknown = Open

-- Where it is said that the process prints the value, it has where the run leads. Where it never does, no run leads to where it has.
-- Else as many states were seen as may be.
pub record IsPrinted (s : Script) (limit : ℕ) (print : Print) (found : AllPrinted) : Type 0 where
  pub told : (journal : Vec Commit) → found.printed ≡ Behind journal → IsPrintedBehind s.processes print.process print.value journal.items
  pub never : found.printed ≡ Never → NeverPrints s.processes print.process print.value
  pub cut : found.printed ≡ Unknown → found.visited ≡ limit
  pub few : found.visited ≤ limit

pub record TellsPrinted (s : Script) (limit : ℕ) (print : Print) (t : SoughtText) : Type 0 where
  pub found : AllPrinted
  pub are : IsPrinted s limit print found
  pub is : t.text.items ≡ printed_line (named s) print found.printed found.visited
  pub kept : SpellsKept s (printed_run found.printed) (bytes_of t.journal)
  pub so : t.finding ≡ printed_finding found.printed

-- SEVERAL

-- the graver of two: what was found before what is not known, and that before nothing
abbrev pub graver : Finding → Finding → Finding
graver Clear other = other
graver Open Clear = Open
graver Open other = other
graver Stranded other = Stranded
graver Stuck other = Stuck

abbrev pub gravest : List Finding → Finding
gravest [] = Clear
gravest (first ∷ others) = graver first (gravest others)

abbrev pub first_of : List (Option (List ℕ)) → Option (List ℕ)
first_of [] = None
first_of (None ∷ others) = first_of others
first_of (Some lines ∷ others) = Some lines

-- of each in its place
abbrev pub TellEach : Script → ℕ → List Print → List SoughtText → Type 0
TellEach s limit [] [] = Unit {0}
TellEach s limit (print ∷ prints) (part ∷ parts) = TellsPrinted s limit print part × TellEach s limit prints parts
TellEach s limit prints parts = ⊥

-- what was told, and behind it what is told of one more
pub record IsWithPart (before part after : SoughtText) : Type 0 where
  pub text : after.text.items ≡ before.text.items ++ part.text.items
  pub journal : bytes_of after.journal ≡ first_of (bytes_of before.journal ∷ bytes_of part.journal ∷ [])
  pub finding : after.finding ≡ graver before.finding part.finding

-- a line for each, the journal of the first that is printed, and the gravest of what was found
pub record TellsPrints (s : Script) (limit : ℕ) (prints : List Print) (t : SoughtText) : Type 0 where
  pub parts : List SoughtText
  pub each : TellEach s limit prints parts
  pub is : t.text.items ≡ flat_map (λ part. part.text.items) parts
  pub kept : bytes_of t.journal ≡ first_of (map (λ part. bytes_of part.journal) parts)
  pub so : t.finding ≡ gravest (map (λ part. part.finding) parts)
