-- What is said of who may be stranded means this of all runs, of any length, whether they end or not.
use Rattle.std.specs.Prelude.{◌≡◌, ◌⊎◌, ◌<◌, ℕ, Bool, true, List, Option, None, length}
use Rattle.std.specs.Global.{Vec}
use Rattle.protocol_values.specs.declared.Commit.{Commit}
use Rattle.script.specs.Sources.{Script}
use Rattle.journal_replay.specs.Runs.{IsRun, config_of}
use Rattle.outcomes.specs.declared.asked.Asked.{Asked}
use Rattle.outcomes.specs.declared.asked.Told.TheVariants.{Lacking, Waiting as TheWaiting}
use Rattle.outcomes.specs.declared.Outcomes.{Outcomes}
use Rattle.reachable.specs.Stranded.{IsLost, IsStranded}
use Rattle.reachable.specs.declared.stranded.AllStranded.{AllStranded}
use Rattle.pcml_outcomes.specs.declared.finding.Finding.TheVariants.{Clear, Stranded, Stuck}
use Rattle.pcml_outcomes.specs.Stranding.{AreLostIn, judged}
use Rattle.pcml_outcomes.specs.Told.{AreFoundFreely, IsMarked, NamesNeeded, finding, looks}

-- where processes have to end and that is clear, none of them is stranded where a run leads
abbrev pub ClearNeverStrands : Type 0
ClearNeverStrands =
    (s : Script) (limit : ℕ) (asked : Asked) (found : Outcomes) (stranded : Option AllStranded) (needed : Vec Bool) → AreFoundFreely s limit asked found → AreLostIn s limit asked (looks None asked found) stranded
    → asked.told ≡ Lacking needed → NamesNeeded asked → judged asked.told (finding asked found) stranded ≡ Clear
    → (rows : ℕ) (journal : List Commit) → IsRun s.processes rows journal
    → (t : ℕ) → t < length s.processes → IsMarked needed.items t → IsStranded s.processes t (config_of journal) → ⊥

-- a run leads to where a process that has to end is stranded
pub record LeadsToStranded (s : Script) (needed : List Bool) : Type 0 where
  pub rows : ℕ
  pub journal : List Commit
  pub run : IsRun s.processes rows journal
  pub thread : ℕ
  pub needed_is : IsMarked needed thread
  pub stranded : IsStranded s.processes thread (config_of journal)

-- where one is said to be stuck or stranded, a run leads to where it is
abbrev pub StuckIsStranded : Type 0
StuckIsStranded =
    (s : Script) (limit : ℕ) (asked : Asked) (found : Outcomes) (stranded : Option AllStranded) (needed : Vec Bool) → AreFoundFreely s limit asked found → AreLostIn s limit asked (looks None asked found) stranded
    → asked.told ≡ Lacking needed → (judged asked.told (finding asked found) stranded ≡ Stuck) ⊎ (judged asked.told (finding asked found) stranded ≡ Stranded)
    → LeadsToStranded s needed.items

-- where what waits was asked for and that is clear, no named process waits for ever where a run leads
abbrev pub ClearNeverWaitsForEver : Type 0
ClearNeverWaitsForEver =
    (s : Script) (limit : ℕ) (asked : Asked) (found : Outcomes) (stranded : Option AllStranded) → AreFoundFreely s limit asked found → AreLostIn s limit asked (looks None asked found) stranded
    → asked.told ≡ TheWaiting → judged asked.told (finding asked found) stranded ≡ Clear
    → (rows : ℕ) (journal : List Commit) → IsRun s.processes rows journal
    → (t : ℕ) → IsMarked asked.named.items t → IsLost true s.processes t (config_of journal) → ⊥
