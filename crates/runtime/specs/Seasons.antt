-- What the seasons of a run come to, and which of them it asks for.
use Rattle.std.specs.Prelude.{◌*◌, ⊤, ℕ, List, Option, None, Some, Vec}
use Rattle.std.specs.Global.{Global}
use Rattle.script_tree.specs.Processes.{Proc}
use Rattle.protocol_values.specs.declared.Commit.{Commit}
use Rattle.journal.specs.Records.{CompletesRun}
use Rattle.journal.specs.declared.record.Record.{Record}
use Rattle.runtime.specs.Played.{ArePlayedWithin, HasSpent, NeedsOneMore}
use Rattle.runtime.specs.Season.{EndsRun}
use Rattle.runtime.specs.declared.season.AtEnd.{AtEnd}
use Rattle.runtime.specs.declared.seasons.SeasonFault.{SeasonFault}
use Rattle.runtime.specs.declared.seasons.SeasonFault.TheVariants.{Memory, NoWorker, Seasons}

-- The workers' seasons ended: these are their commits, and this is known of where they lead. Or one more was needed than so many.
abbrev pub EndSeasons : List Proc → ℕ → ℕ → Option (Vec Commit Global × Option AtEnd) → Type 0
EndSeasons ps rows seasons None = NeedsOneMore ps rows seasons
EndSeasons ps rows seasons (Some (commits, standing)) = EndsRun ps (seasons * rows) commits.items standing × ArePlayedWithin ps rows seasons commits.items

-- what stops the workers of a season
abbrev pub IsHalt : SeasonFault → Type 0
IsHalt Memory = ⊤
IsHalt NoWorker = ⊤
IsHalt fault = ⊥

-- what it says that these commits, which are a run, have no free run: want of memory, or that somebody wants more rows
abbrev pub RefusesCommits : List Proc → ℕ → List Commit → SeasonFault → Type 0
RefusesCommits ps rows commits Memory = ⊤
RefusesCommits ps rows commits Seasons = (r : Record) × CompletesRun ps rows commits r × HasSpent r.ends.items
RefusesCommits ps rows commits fault = ⊥
