-- What is told of the outcomes that were found.
use Rattle.std.specs.Prelude.{◌≡◌, ◌≢◌, ◌⊎◌, ◌<◌, ◌≤◌, ◌+◌, ◌-◌, ◌==◌, ◌&&◌, not, if◌then◌else◌, ℕ, Bool, true, false, List, [], ◌∷◌, ◌++◌, length, map, codes, Contains, Option, None, Some, IfSome, slice_get, ⊤}
use Rattle.std.specs.Fmt.{decimal}
use Rattle.std.specs.List.{AllByRecursion, enumerate_from, filter, find, flat_map, list_any, zip}
use Rattle.std.specs.Global.{Vec}
use Rattle.std.specs.Option.{option_map}
use Rattle.protocol_values.specs.declared.Atom.{Atom}
use Rattle.protocol_values.specs.declared.Commit.{Commit}
use Rattle.script.specs.Sources.{Script}
use Rattle.journal_text.specs.Journals.{HasLine, Spells}
use Rattle.journal_text.specs.Names.{Naming, named, names_of}
use Rattle.thread.specs.declared.end.End.{End}
use Rattle.thread.specs.declared.end.End.TheVariants.{Ended, Spent, Waiting}
use Rattle.configurations.specs.Taking.{heard_by}
use Rattle.outcomes.specs.Asking.{is_told, marked}
use Rattle.outcomes.specs.Outcomes.{AreAll, AreDifferent, AreOutcomes, AreVisited, CanSpend, LeadsTo, StopsAtFirst, ends_in, ends_of_all, outputs_in}
use Rattle.outcomes.specs.States.{AreAllFree, AreFreeOutcomes, AreRests, AreStates, ComesRound, EndsWithin, GoesOnForEver, LeadsFreelyTo}
use Rattle.outcomes.specs.declared.Ending.{Ending}
use Rattle.outcomes.specs.declared.Ending.TheVariants.{ForEver, Unknown, Within}
use Rattle.outcomes.specs.declared.Extent.{Extent}
use Rattle.outcomes.specs.declared.Extent.TheVariants.{Cut, First, Whole}
use Rattle.outcomes.specs.declared.asked.Asked.{Asked}
use Rattle.outcomes.specs.declared.asked.Told.{Told}
use Rattle.outcomes.specs.declared.asked.Told.TheVariants.{Each, Lacking, Waiting as TheWaiting}
use Rattle.outcomes.specs.declared.Outcome.{Outcome}
use Rattle.outcomes.specs.declared.Outcomes.{Outcomes}
use Rattle.outcomes.specs.declared.Round.{Round}
use Rattle.reachable.specs.declared.stranded.AllStranded.{AllStranded}
use Rattle.reachable.specs.declared.stranded.Stranded.{Stranded}
use Rattle.pcml_outcomes.specs.Stranding.{AreLostIn, AreTold, HaveRuns, is_unlooked, judged, looks_on, soonest_in, stranded_lines}
use Rattle.pcml_answers.specs.Standings.{Standing, process_lines}
use Rattle.pcml_outcomes.specs.declared.finding.Finding.{Finding}
use Rattle.pcml_outcomes.specs.declared.finding.Finding.TheVariants.{Clear, Open, Stuck}
use Rattle.pcml_outcomes.specs.declared.listing.OutcomesText.{OutcomesText}

-- WHICH OUTCOMES

abbrev pub is_shown : Asked → Outcome → Bool
is_shown asked o = is_told asked (ends_in o)

-- those that are told, with their numbers among all, from 1
abbrev pub shown : Asked → List Outcome → List (ℕ × Outcome)
shown asked outcomes = filter (λ n. is_shown asked n.1) (enumerate_from 1 outcomes)

-- THEIR TEXT

abbrev pub outcome_line : ℕ → List ℕ
outcome_line number = codes "outcome " ++ decimal number ++ 10 ∷ []

-- the processes with these ends and outputs, in their order
abbrev pub standings : List End → List (List Atom) → List Standing
standings ends outputs = map (λ p. record { thread = p.0; end = p.1.0; printed = p.1.1 }) (enumerate_from 0 (zip ends outputs))

-- the number of an outcome, and a line for each process that is named
abbrev pub outcome_text : Naming → List Bool → ℕ × Outcome → List ℕ
outcome_text names marks n = outcome_line n.0 ++ process_lines names (marked marks (standings (ends_in n.1) (outputs_in n.1)))

-- what was counted: configurations, or the states of runs of any length, all or those that were followed
abbrev pub seen_word : Option ℕ → Bool → List ℕ
seen_word (Some rows) followed = codes "configurations"
seen_word None true = codes "states followed"
seen_word None false = codes "states"

-- whether that is all there is, and within how many syncs a process where some had none left
abbrev pub extent_text : Option ℕ → Extent → Bool → List ℕ
extent_text rows First bounded = codes "first"
extent_text rows Cut bounded = codes "cut"
extent_text None Whole bounded = codes "all"
extent_text (Some rows) Whole false = codes "all"
extent_text (Some rows) Whole true = codes "all within " ++ decimal rows ++ codes " syncs"

-- how runs end is told of runs of any length alone, where all was seen
abbrev pub ending_of : Option ℕ → Extent → Ending → Option Ending
ending_of None Whole ending = Some ending
ending_of rows extent ending = None

abbrev pub told_ending : Option ℕ → Outcomes → Option Ending
told_ending rows found = ending_of rows found.extent found.ending

abbrev pub ending_text : Option Ending → List ℕ
ending_text (Some (Within most)) = codes ", every run ends within " ++ decimal most ++ codes " commits"
ending_text (Some (ForEver round)) = codes ", some runs go on for ever"
ending_text ending = []

-- how many outcomes are told, how many configurations or states were seen, whether that is all, and how runs end
abbrev pub last_line : Option ℕ → ℕ → Outcomes → List ℕ
last_line rows told found =
    codes "outcomes " ++ decimal told ++ codes " " ++ seen_word rows found.followed ++ codes " " ++ decimal found.visited ++ codes " " ++ extent_text rows found.extent found.is_bounded
    ++ ending_text (told_ending rows found) ++ 10 ∷ []

-- whether no outcome is told
abbrev pub is_alone : Asked → Outcomes → Bool
is_alone asked found = length (shown asked found.outcomes.items) == 0

-- the outcomes that are told, who may be stranded, and the counts
abbrev pub outcomes_text : Naming → Option ℕ → Asked → Outcomes → Option AllStranded → List ℕ
outcomes_text names rows asked found stranded =
    flat_map (outcome_text names asked.named.items) (shown asked found.outcomes.items)
    ++ stranded_lines names asked.told (is_alone asked found) stranded
    ++ last_line rows (length (shown asked found.outcomes.items)) found

-- THE JOURNAL THAT IS KEPT

-- a number from 1 on, where one is named
abbrev pub IsNumber : Option ℕ → Type 0
IsNumber of = IfSome of (λ number. 1 ≤ number)

-- the outcome of a number, or where none is named the first that is told
abbrev pub asked_for : Option ℕ → Asked → List Outcome → Option Outcome
asked_for (Some number) asked outcomes = slice_get outcomes (number - 1)
asked_for None asked outcomes = find (is_shown asked) outcomes

-- a run that comes round, where runs go on for ever
abbrev pub round_in : Option Ending → Option Round
round_in (Some (ForEver round)) = round
round_in ending = None

-- where no outcome is asked for by its number, and there is none
abbrev pub stranded_for : Option ℕ → Option Outcome → Option Stranded → Option Stranded
stranded_for None None stranded = stranded
stranded_for of outcome stranded = None

abbrev pub kept_stranded : Option ℕ → Asked → Outcomes → Option AllStranded → Option Stranded
kept_stranded of asked found stranded = stranded_for of (asked_for of asked found.outcomes.items) (soonest_in (is_alone asked found) stranded)

-- nor one that is stranded
abbrev pub round_for : Option ℕ → Option Outcome → Option Stranded → Option Round → Option Round
round_for None None None round = round
round_for of outcome stranded round = None

abbrev pub kept_round : Option ℕ → Option ℕ → Asked → Outcomes → Option AllStranded → Option Round
kept_round rows of asked found stranded = round_for of (asked_for of asked found.outcomes.items) (kept_stranded of asked found stranded) (round_in (told_ending rows found))

abbrev pub run_of : Option Outcome → Option Stranded → Option Round → Option (List Commit)
run_of (Some o) stranded round = Some o.journal.items
run_of None (Some s) round = Some s.journal.items
run_of None None (Some r) = Some r.journal.items
run_of None None None = None

-- The run that leads to the outcome that is asked for; where no number is named and no outcome is told, one to where somebody is
-- stranded, or else one that comes round.
abbrev pub kept_run : Option ℕ → Option ℕ → Asked → Outcomes → Option AllStranded → Option (List Commit)
kept_run rows of asked found stranded = run_of (asked_for of asked found.outcomes.items) (kept_stranded of asked found stranded) (kept_round rows of asked found stranded)

-- the text of the run, where there is one, and else none
abbrev pub SpellsKept : Script → Option (List Commit) → Option (List ℕ) → Type 0
SpellsKept s (Some run) (Some text) = Spells s text run
SpellsKept s None None = ⊤
SpellsKept s run text = ⊥

-- the number of the commit with which the circle begins, from 1, as the lines of the journal count
abbrev pub circle_of : Option Round → Option ℕ
circle_of round = option_map (λ r. r.from + 1) round

-- the bytes of a text, where there is one
abbrev pub bytes_of : Option (Vec ℕ) → Option (List ℕ)
bytes_of text = option_map (λ v. v.items) text

-- WHAT WAS FOUND

-- The outcomes are some that the script's processes can come to, of so many rows each, and no two are alike in what is named. They are
-- all where that is said; else so many configurations were seen as may be, or the first was found that is told. As many different
-- configurations were seen as it says. And a process is said to be spent only where one can be, and where all was seen wherever one
-- can.
pub record AreFound (s : Script) (rows limit : ℕ) (asked : Asked) (found : Outcomes) : Type 0 where
  pub outcomes : AreOutcomes s.processes rows found.outcomes.items
  pub different : AreDifferent asked.named.items found.outcomes.items
  pub all : found.extent ≡ Whole → AreAll s.processes rows asked.named.items found.outcomes.items
  pub visited : AreVisited s.processes rows found.extent found.outcomes.items found.visited
  pub few : found.visited ≤ limit
  pub cut : found.extent ≡ Cut → found.visited ≡ limit
  pub first : StopsAtFirst asked found.extent (ends_of_all found.outcomes.items)
  pub bounded : found.is_bounded ≡ true → CanSpend s.processes rows
  pub unbounded : found.extent ≡ Whole → found.is_bounded ≡ false → CanSpend s.processes rows → ⊥

-- The same in runs of any length: the outcomes are those of runs that can go no further, however many syncs there may be, and no
-- process is said to be spent. So many states were seen: configurations that differ by what is left to do, or by what was printed by a
-- process that is named. Where all was seen it is known whether runs end.
pub record AreFoundFreely (s : Script) (limit : ℕ) (asked : Asked) (found : Outcomes) : Type 0 where
  pub outcomes : AreFreeOutcomes s.processes found.outcomes.items
  pub different : AreDifferent asked.named.items found.outcomes.items
  pub all : found.extent ≡ Whole → AreAllFree s.processes asked.named.items found.outcomes.items
  pub visited : AreStates s.processes asked.named.items found.extent found.followed found.outcomes.items found.visited
  pub few : found.visited ≤ limit
  pub cut : found.extent ≡ Cut → found.visited ≡ limit
  pub first : StopsAtFirst asked found.extent (ends_of_all found.outcomes.items)
  pub unspent : found.is_bounded ≡ false
  pub ends : (most : ℕ) → found.ending ≡ Within most → EndsWithin s.processes most
  pub goes_on : (round : Option Round) → found.ending ≡ ForEver round → GoesOnForEver s.processes
  pub round : (round : Round) → found.ending ≡ ForEver (Some round) → ComesRound (heard_by asked.named.items) s.processes round
  pub known : found.extent ≡ Whole → found.ending ≢ Unknown
  pub rests : found.extent ≡ Whole → AreRests s.processes asked.named.items found.outcomes.items

-- of so many rows each, or where no number is named in runs of any length
abbrev pub AreFoundIn : Script → Option ℕ → ℕ → Asked → Outcomes → Type 0
AreFoundIn s (Some rows) limit asked found = AreFound s rows limit asked found
AreFoundIn s None limit asked found = AreFoundFreely s limit asked found

-- WHAT IT SAYS of what was asked

-- such a process stands where it will never end: it waits, faulted or was never started
abbrev pub is_stuck : End → Bool
is_stuck Ended = false
is_stuck Spent = false
is_stuck end = true

-- whether some process that has to end stands so
abbrev pub has_stuck : Told → Outcome → Bool
has_stuck (Lacking needed) o = list_any (λ p. p.1 && is_stuck p.0) (zip (ends_in o) needed.items)
has_stuck told o = false

abbrev pub is_whole : Extent → Bool
is_whole Whole = true
is_whole extent = false

-- whether all was seen, and nothing is told; and where what waits was asked for, no process is spent either
abbrev pub clears : Told → Bool → Bool → Bool
clears Each nothing bounded = true
clears TheWaiting nothing bounded = nothing && not bounded
clears (Lacking needed) nothing bounded = nothing

abbrev pub is_clear : Asked → Outcomes → Bool
is_clear asked found = clears asked.told (is_whole found.extent && (length (shown asked found.outcomes.items) == 0)) found.is_bounded

abbrev pub is_cut : Extent → Bool
is_cut Cut = true
is_cut extent = false

abbrev pub finding : Asked → Outcomes → Finding
finding asked found =
    if list_any (has_stuck asked.told) found.outcomes.items then Stuck
    else (if is_clear asked found then Clear else Open)

-- whether it is looked for who is stranded
abbrev pub looks : Option ℕ → Asked → Outcomes → Bool
looks rows asked found = looks_on rows asked.told found.extent found.ending (finding asked found)

-- the text of what was found, and of the journal that is kept
pub record IsListed (s : Script) (rows : Option ℕ) (asked : Asked) (of : Option ℕ) (found : Outcomes) (stranded : Option AllStranded) (t : OutcomesText) : Type 0 where
  pub text : t.text.items ≡ outcomes_text (named s) rows asked found stranded
  pub journal : SpellsKept s (kept_run rows of asked found stranded) (bytes_of t.journal)
  pub goes_on : t.goes_on ≡ circle_of (kept_round rows of asked found stranded)
  pub finding_is : t.finding ≡ judged asked.told (finding asked found) stranded
  pub cut : t.is_cut ≡ is_cut found.extent
  pub unlooked : t.is_unlooked ≡ is_unlooked stranded

-- the text of something that was found
pub record TellsOutcomes (s : Script) (rows : Option ℕ) (limit : ℕ) (asked : Asked) (of : Option ℕ) (t : OutcomesText) : Type 0 where
  pub found : Outcomes
  pub are : AreFoundIn s rows limit asked found
  pub stranded : Option AllStranded
  pub lost : AreLostIn s limit asked (looks rows asked found) stranded
  pub is : IsListed s rows asked of found stranded t

-- OUTCOMES OF A SCRIPT

-- an end and an output for each process
pub record IsOf (s : Script) (o : Outcome) : Type 0 where
  pub ends : length (ends_in o) ≡ length s.processes
  pub outputs : length (outputs_in o) ≡ length s.processes

abbrev pub AreOf : Script → List Outcome → Type 0
AreOf s outcomes = (k : ℕ) (o : Outcome) → slice_get outcomes k ≡ Some o → IsOf s o

-- the journal of each has lines in the script's names
abbrev pub HaveLines : Script → List Outcome → Type 0
HaveLines s outcomes = (k : ℕ) (o : Outcome) → slice_get outcomes k ≡ Some o → AllByRecursion (HasLine (names_of s)) o.journal.items

-- the journal of a run that comes round has such lines, and the circle begins before its end
pub record IsRoundOf (s : Script) (r : Round) : Type 0 where
  pub lines : AllByRecursion (HasLine (names_of s)) r.journal.items
  pub on : r.from < length r.journal.items

-- who is stranded is one of the script's processes
abbrev pub AreToldIn : Script → Option AllStranded → Type 0
AreToldIn s None = ⊤
AreToldIn s (Some all) = AreTold s all.stranded.items

-- and its journal has such lines
abbrev pub HaveRunsIn : Script → Option AllStranded → Type 0
HaveRunsIn s None = ⊤
HaveRunsIn s (Some all) = HaveRuns s all.stranded.items

abbrev pub HasRoundOf : Script → Option Ending → Type 0
HasRoundOf s ending = (r : Round) → round_in ending ≡ Some r → IsRoundOf s r

-- LAWS

-- of the process of this number these marks say yes
abbrev pub IsMarked : List Bool → ℕ → Type 0
IsMarked marks t = slice_get marks t ≡ Some true

-- every process that has to end is named
abbrev pub NamesNeeded : Asked → Type 0
NamesNeeded asked = (needed : Vec Bool) → asked.told ≡ Lacking needed → (t : ℕ) → IsMarked needed.items t → IsMarked asked.named.items t

-- where what waits was asked for and that is clear, no maximal run leaves a named process waiting, or any process spent
abbrev pub ClearNeverWaits : Type 0
ClearNeverWaits =
    (s : Script) (rows limit : ℕ) (asked : Asked) (found : Outcomes) → AreFound s rows limit asked found → asked.told ≡ TheWaiting → finding asked found ≡ Clear
    → (journal : List Commit) (ends : List End) (outputs : List (List Atom)) → LeadsTo s.processes rows journal ends outputs
    → ((t : ℕ) → IsMarked asked.named.items t → slice_get ends t ≢ Some Waiting) × (Contains ends Spent → ⊥)

-- where processes have to end and that is clear, they have ended behind every maximal run
abbrev pub ClearAlwaysEnds : Type 0
ClearAlwaysEnds =
    (s : Script) (rows limit : ℕ) (asked : Asked) (found : Outcomes) (needed : Vec Bool) → AreFound s rows limit asked found → asked.told ≡ Lacking needed → NamesNeeded asked → finding asked found ≡ Clear
    → (journal : List Commit) (ends : List End) (outputs : List (List Atom)) → LeadsTo s.processes rows journal ends outputs
    → (t : ℕ) (end : End) → IsMarked needed.items t → slice_get ends t ≡ Some end → end ≡ Ended

-- a maximal run leaves a process that has to end stuck
pub record LeavesStuck (s : Script) (rows : ℕ) (needed : List Bool) : Type 0 where
  pub journal : List Commit
  pub ends : List End
  pub outputs : List (List Atom)
  pub leads : LeadsTo s.processes rows journal ends outputs
  pub thread : ℕ
  pub end : End
  pub needed_is : IsMarked needed thread
  pub ends_so : slice_get ends thread ≡ Some end
  pub stuck : is_stuck end ≡ true

-- where a process that has to end is said to be stuck, some maximal run leaves it so
abbrev pub StuckIsLeft : Type 0
StuckIsLeft =
    (s : Script) (rows limit : ℕ) (asked : Asked) (found : Outcomes) (needed : Vec Bool) → AreFound s rows limit asked found → asked.told ≡ Lacking needed → finding asked found ≡ Stuck
    → LeavesStuck s rows needed.items

-- LAWS OF RUNS OF ANY LENGTH. They speak of runs that can go no further; a run that goes on without end is none.

-- no run leaves a process spent
abbrev pub FreeNeverSpends : Type 0
FreeNeverSpends =
    (s : Script) (journal : List Commit) (ends : List End) (outputs : List (List Atom)) → LeadsFreelyTo s.processes journal ends outputs → Contains ends Spent → ⊥

-- where what waits was asked for and that is clear, no run leaves a named process waiting
abbrev pub FreeClearNeverWaits : Type 0
FreeClearNeverWaits =
    (s : Script) (limit : ℕ) (asked : Asked) (found : Outcomes) → AreFoundFreely s limit asked found → asked.told ≡ TheWaiting → finding asked found ≡ Clear
    → (journal : List Commit) (ends : List End) (outputs : List (List Atom)) → LeadsFreelyTo s.processes journal ends outputs
    → (t : ℕ) → IsMarked asked.named.items t → slice_get ends t ≢ Some Waiting

-- where processes have to end and that is clear, they have ended behind every run
abbrev pub FreeClearAlwaysEnds : Type 0
FreeClearAlwaysEnds =
    (s : Script) (limit : ℕ) (asked : Asked) (found : Outcomes) (needed : Vec Bool) → AreFoundFreely s limit asked found → asked.told ≡ Lacking needed → NamesNeeded asked → finding asked found ≡ Clear
    → (journal : List Commit) (ends : List End) (outputs : List (List Atom)) → LeadsFreelyTo s.processes journal ends outputs
    → (t : ℕ) (end : End) → IsMarked needed.items t → slice_get ends t ≡ Some end → end ≡ Ended

-- a run leaves a process that has to end stuck
pub record FreeLeavesStuck (s : Script) (needed : List Bool) : Type 0 where
  pub journal : List Commit
  pub ends : List End
  pub outputs : List (List Atom)
  pub leads : LeadsFreelyTo s.processes journal ends outputs
  pub thread : ℕ
  pub end : End
  pub needed_is : IsMarked needed thread
  pub ends_so : slice_get ends thread ≡ Some end
  pub stuck : is_stuck end ≡ true

-- where a process that has to end is said to be stuck, some run leaves it so
abbrev pub FreeStuckIsLeft : Type 0
FreeStuckIsLeft =
    (s : Script) (limit : ℕ) (asked : Asked) (found : Outcomes) (needed : Vec Bool) → AreFoundFreely s limit asked found → asked.told ≡ Lacking needed → finding asked found ≡ Stuck
    → FreeLeavesStuck s needed.items

-- where all was seen, the last line says whether runs end, and within how many commits, and so it is
abbrev pub AllSaysWhetherRunsEnd : Type 0
AllSaysWhetherRunsEnd =
    (s : Script) (limit : ℕ) (asked : Asked) (found : Outcomes) → AreFoundFreely s limit asked found → found.extent ≡ Whole →
    ((most : ℕ) × (ending_text (told_ending None found) ≡ codes ", every run ends within " ++ decimal most ++ codes " commits") × EndsWithin s.processes most)
    ⊎ ((ending_text (told_ending None found) ≡ codes ", some runs go on for ever") × GoesOnForEver s.processes)
