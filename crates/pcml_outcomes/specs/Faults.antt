-- What is told of who faults.
use Rattle.std.specs.Prelude.{◌≡◌, ◌≤◌, ℕ, List, [], ◌∷◌, ◌++◌, codes, Option, None, Some}
use Rattle.std.specs.Fmt.{decimal}
use Rattle.protocol_values.specs.declared.Commit.{Commit}
use Rattle.script.specs.Sources.{Script}
use Rattle.journal_text.specs.Names.{Naming, named}
use Rattle.reachable.specs.Faults.{IsFaultBehind, NobodyFaults}
use Rattle.reachable.specs.declared.faults.AllFaults.{AllFaults}
use Rattle.reachable.specs.declared.faults.Faults.{Faults}
use Rattle.reachable.specs.declared.faults.Faults.TheVariants.{First, Nobody, Unknown}
use Rattle.reachable.specs.declared.faults.FirstFault.{FirstFault}
use Rattle.pcml_outcomes.specs.Told.{SpellsKept, bytes_of}
use Rattle.pcml_outcomes.specs.declared.finding.Finding.{Finding}
use Rattle.pcml_outcomes.specs.declared.finding.Finding.TheVariants.{Clear, Open, Stuck}
use Rattle.pcml_outcomes.specs.declared.sought.SoughtText.{SoughtText}

-- who faults, or that nobody does, or that it is not known; and how many states were seen
abbrev pub fault_line : Naming → Faults → ℕ → List ℕ
fault_line names (First fault) visited = codes "fault " ++ names.thread fault.process ++ codes " states " ++ decimal visited ++ 10 ∷ []
fault_line names Nobody visited = codes "fault none states " ++ decimal visited ++ codes " all\n"
fault_line names Unknown visited = codes "fault unknown states " ++ decimal visited ++ codes " cut\n"

-- the run to the fault
abbrev pub fault_run : Faults → Option (List Commit)
fault_run (First fault) = Some fault.journal.items
fault_run faults = None

abbrev pub fault_finding : Faults → Finding
fault_finding (First fault) = Stuck
fault_finding Nobody = Clear
fault_finding Unknown = Open

-- Who is said to fault has faulted where its run leads. Where nobody does, no process has faulted wherever a run leads. Else as many
-- states were seen as may be.
pub record AreFaults (s : Script) (limit : ℕ) (found : AllFaults) : Type 0 where
  pub told : (fault : FirstFault) → found.faults ≡ First fault → IsFaultBehind s.processes fault
  pub nobody : found.faults ≡ Nobody → NobodyFaults s.processes
  pub cut : found.faults ≡ Unknown → found.visited ≡ limit
  pub few : found.visited ≤ limit

pub record TellsFaults (s : Script) (limit : ℕ) (t : SoughtText) : Type 0 where
  pub found : AllFaults
  pub are : AreFaults s limit found
  pub is : t.text.items ≡ fault_line (named s) found.faults found.visited
  pub kept : SpellsKept s (fault_run found.faults) (bytes_of t.journal)
  pub so : t.finding ≡ fault_finding found.faults
