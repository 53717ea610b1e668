use Rattle.std.proofs.Common.{◌≡◌, ◌-◌, ◌<◌}
use Rattle.script.specs.Scripts.{script_of}
use Rattle.script.specs.Lines.{trees_of_script}
use Rattle.runtime.specs.Season.{IsSeason, SeasonRuns}
use Rattle.runtime.proofs.seasons.work_seasons.Given as goal

abbrev pub invariant-loop-closed : goal.invariant-loop-closed
invariant-loop-closed g l = IsSeason (script_of l.script).processes l.season × (l.season.done < l.seasons) × (l.season.cells.rows ≡ l.used) × SeasonRuns (trees_of_script l.script) l.season

abbrev pub decreases-loop-closed : goal.decreases-loop-closed
decreases-loop-closed g l = l.seasons - l.season.done
