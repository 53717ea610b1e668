-- What is told of who is left behind.
use Rattle.std.specs.Prelude.{◌≡◌, ◌≤◌, ℕ, Bool, List, [], ◌∷◌, ◌++◌, codes, Option, None, Some}
use Rattle.std.specs.Fmt.{decimal}
use Rattle.protocol_values.specs.declared.Commit.{Commit}
use Rattle.script.specs.Sources.{Script}
use Rattle.journal_text.specs.Names.{Naming, named}
use Rattle.reachable.specs.Left.{EachCanEnd, IsLeftBehind}
use Rattle.reachable.specs.declared.left.AllLeft.{AllLeft}
use Rattle.reachable.specs.declared.left.Left.{Left}
use Rattle.reachable.specs.declared.left.Left.TheVariants.{Behind, Nobody, Unknown}
use Rattle.reachable.specs.declared.left.LeftBehind.{LeftBehind}
use Rattle.pcml_outcomes.specs.Told.{SpellsKept, bytes_of}
use Rattle.pcml_outcomes.specs.declared.finding.Finding.{Finding}
use Rattle.pcml_outcomes.specs.declared.finding.Finding.TheVariants.{Clear, Open, Stuck}
use Rattle.pcml_outcomes.specs.declared.sought.SoughtText.{SoughtText}

-- who is left behind, or that nobody is, or that it is not known; and how many states were seen
abbrev pub left_line : Naming → Left → ℕ → List ℕ
left_line names (Behind left) visited = codes "left " ++ names.thread left.process ++ codes " states " ++ decimal visited ++ 10 ∷ []
left_line names Nobody visited = codes "left none states " ++ decimal visited ++ codes " all\n"
left_line names Unknown visited = codes "left unknown states " ++ decimal visited ++ codes " cut\n"

-- the run from where it never ends
abbrev pub left_run : Left → Option (List Commit)
left_run (Behind left) = Some left.journal.items
left_run left = None

abbrev pub left_finding : Left → Finding
left_finding (Behind left) = Stuck
left_finding Nobody = Clear
left_finding Unknown = Open

-- Who is said to be left behind is one of those that are asked about, and never ends from where its run leads. Where nobody is, each of
-- them can still end from wherever a run leads. Else as many states were seen as may be.
pub record AreLeft (s : Script) (limit : ℕ) (marks : List Bool) (found : AllLeft) : Type 0 where
  pub behind : (left : LeftBehind) → found.left ≡ Behind left → IsLeftBehind s.processes marks left
  pub nobody : found.left ≡ Nobody → EachCanEnd s.processes marks
  pub cut : found.left ≡ Unknown → found.visited ≡ limit
  pub few : found.visited ≤ limit

pub record TellsLeft (s : Script) (limit : ℕ) (marks : List Bool) (t : SoughtText) : Type 0 where
  pub found : AllLeft
  pub are : AreLeft s limit marks found
  pub is : t.text.items ≡ left_line (named s) found.left found.visited
  pub kept : SpellsKept s (left_run found.left) (bytes_of t.journal)
  pub so : t.finding ≡ left_finding found.left
