-- What is told of who may be stranded.
use Rattle.std.specs.Prelude.{◌≡◌, ◌<◌, ◌≤◌, ◌==◌, ◌&&◌, ◌||◌, not, if◌then◌else◌, ℕ, Bool, true, false, List, [], ◌∷◌, ◌++◌, codes, length, nat_le, Option, None, Some, slice_get}
use Rattle.std.specs.Fmt.{decimal}
use Rattle.std.specs.List.{AllByRecursion, flat_map}
use Rattle.script.specs.Sources.{Script}
use Rattle.journal_text.specs.Journals.{HasLine}
use Rattle.journal_text.specs.Names.{Naming, names_of}
use Rattle.outcomes.specs.declared.Ending.{Ending}
use Rattle.outcomes.specs.declared.Ending.TheVariants.{ForEver}
use Rattle.outcomes.specs.declared.Extent.{Extent}
use Rattle.outcomes.specs.declared.Extent.TheVariants.{Cut, Whole}
use Rattle.outcomes.specs.declared.asked.Asked.{Asked}
use Rattle.outcomes.specs.declared.asked.Told.{Told}
use Rattle.outcomes.specs.declared.asked.Told.TheVariants.{Each, Lacking, Waiting as TheWaiting}
use Rattle.reachable.specs.Left.{AreSeen}
use Rattle.reachable.specs.Stranded.{AreInTurn, AreStrandedBehind, TellAllLost}
use Rattle.reachable.specs.declared.stranded.AllStranded.{AllStranded}
use Rattle.reachable.specs.declared.stranded.Stranded.{Stranded}
use Rattle.pcml_outcomes.specs.declared.finding.Finding.{Finding}
use Rattle.pcml_outcomes.specs.declared.finding.Finding.TheVariants.{Clear, Open, Stranded as SomeStranded, Stuck}

-- WHETHER IT IS LOOKED FOR

-- Who is stranded is looked for in runs of any length, where all was seen and some of them go on for ever; and for those that have to end
-- where the search was cut, and found none of them stuck.
abbrev pub looks_on : Option ℕ → Told → Extent → Ending → Finding → Bool
looks_on None told Whole (ForEver round) first = true
looks_on None (Lacking needed) Cut ending Open = true
looks_on rows told extent ending first = false

-- of whom: of those that have to end, and else of those that are named
abbrev pub sought : Told → List Bool → List Bool
sought (Lacking needed) named = needed.items
sought told named = named

abbrev pub asks_who_waits : Told → Bool
asks_who_waits TheWaiting = true
asks_who_waits told = false

-- Who is told is one of these, and a run leads to where it is stranded, and where that is asked waits for ever; each stands once. Where all
-- was seen, nobody else of them may be. So many different configurations were seen.
pub record AreLost (s : Script) (limit : ℕ) (asked : Asked) (all : AllStranded) : Type 0 where
  pub told : AreStrandedBehind (asks_who_waits asked.told) s.processes (sought asked.told asked.named.items) all.stranded.items
  pub in_turn : AreInTurn all.stranded.items
  pub whole : all.is_whole ≡ true → TellAllLost (asks_who_waits asked.told) s.processes (sought asked.told asked.named.items) all.stranded.items
  pub seen : AreSeen s.processes all.is_whole all.visited
  pub cut : all.is_whole ≡ false → all.visited ≡ limit
  pub few : all.visited ≤ limit

-- where it is looked for, it is told
abbrev pub AreLostIn : Script → ℕ → Asked → Bool → Option AllStranded → Type 0
AreLostIn s limit asked looks None = looks ≡ false
AreLostIn s limit asked looks (Some all) = (looks ≡ true) × AreLost s limit asked all

-- THE TEXT

-- those with which the run goes on; or all, where no outcome is told
abbrev pub is_told : Bool → Stranded → Bool
is_told alone s = s.goes_on || alone

abbrev pub stranded_line : Naming → Stranded → List ℕ
stranded_line names s = codes "stranded " ++ names.thread s.process ++ codes " after " ++ decimal (length s.journal.items) ++ codes " commits\n"

-- of two the one whose run is shorter, and else the first
abbrev pub nearer : Stranded → Option Stranded → Option Stranded
nearer one None = Some one
nearer one (Some other) = if nat_le (length one.journal.items) (length other.journal.items) then Some one else Some other

abbrev pub sooner : Bool → Stranded → Option Stranded → Option Stranded
sooner alone one other = if is_told alone one then nearer one other else other

-- of those that are told the one whose run is the shortest, of several the first
abbrev pub soonest : Bool → List Stranded → Option Stranded
soonest alone [] = None
soonest alone (one ∷ more) = sooner alone one (soonest alone more)

abbrev pub needed_line : Naming → ℕ → Option Stranded → List ℕ
needed_line names visited None = []
needed_line names visited (Some s) = codes "stranded " ++ names.thread s.process ++ codes " states " ++ decimal visited ++ 10 ∷ []

abbrev pub line_told : Naming → Bool → Stranded → List ℕ
line_told names alone one = if is_told alone one then stranded_line names one else []

abbrev pub told_lines : Naming → Bool → List Stranded → List ℕ
told_lines names alone stranded = flat_map (line_told names alone) stranded

-- each is one of the script's processes
abbrev pub AreTold : Script → List Stranded → Type 0
AreTold s stranded = (k : ℕ) (one : Stranded) → slice_get stranded k ≡ Some one → one.process < length s.processes

-- and its journal has lines in the script's names
abbrev pub HaveRuns : Script → List Stranded → Type 0
HaveRuns s stranded = (k : ℕ) (one : Stranded) → slice_get stranded k ≡ Some one → AllByRecursion (HasLine (names_of s)) one.journal.items

-- a line for each that is told; of those that have to end one, with how many configurations were seen
abbrev pub lines_of : Naming → Told → Bool → AllStranded → List ℕ
lines_of names (Lacking needed) alone all = needed_line names all.visited (soonest alone all.stranded.items)
lines_of names told alone all = told_lines names alone all.stranded.items

abbrev pub stranded_lines : Naming → Told → Bool → Option AllStranded → List ℕ
stranded_lines names told alone None = []
stranded_lines names told alone (Some all) = lines_of names told alone all

abbrev pub soonest_in : Bool → Option AllStranded → Option Stranded
soonest_in alone None = None
soonest_in alone (Some all) = soonest alone all.stranded.items

-- WHAT IT SAYS

abbrev pub nobody : AllStranded → Bool
nobody all = length all.stranded.items == 0

-- What the outcomes said stays where some process is stuck in one, and where it was not looked for who is stranded. Else, of those that have
-- to end, it is said that one is stranded, or where all was seen that none is, though the outcomes were cut; and of those that wait what
-- the outcomes said stays only where all was seen, and nobody is.
abbrev pub judged : Told → Finding → Option AllStranded → Finding
judged told Stuck stranded = Stuck
judged told first None = first
judged Each first (Some all) = first
judged TheWaiting first (Some all) = if all.is_whole && nobody all then first else Open
judged (Lacking needed) first (Some all) = if nobody all then (if all.is_whole then Clear else Open) else SomeStranded

-- whether not all was seen where it was looked for
abbrev pub is_unlooked : Option AllStranded → Bool
is_unlooked None = false
is_unlooked (Some all) = not all.is_whole
