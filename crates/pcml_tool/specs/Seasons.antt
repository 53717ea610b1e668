-- What a search of runs of any length says of a run in seasons.
use Rattle.std.specs.Prelude.{List, Bool, map}
use Rattle.script_tree.specs.Processes.{Proc}
use Rattle.journal.specs.declared.record.Record.{Record}
use Rattle.runtime_run.specs.Headline.{TellsFreeRun}
use Rattle.outcomes.specs.declared.Outcome.{Outcome}
use Rattle.outcomes.specs.Outcomes.{Has}
use Rattle.outcomes.specs.States.{AreAllFree}

-- a run in seasons that ends comes to one of the outcomes, where all are told
abbrev pub SeasonsAreTold : Type 0
SeasonsAreTold =
    (ps : List Proc) (named : List Bool) (told : List Outcome) (r : Record) → AreAllFree ps named told → TellsFreeRun ps r → Has named told r.ends.items (map (λ v. v.items) r.outputs.items)
