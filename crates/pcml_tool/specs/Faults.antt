-- With which number and which status a fault is told.
use Rattle.std.specs.Prelude.{ℕ, None, Option, Some}
use Rattle.journal_text.specs.declared.JournalFault.TheVariants as journals
use Rattle.pcml_answers.specs.declared.need.NamesFault.TheVariants as names
use Rattle.pcml_answers.specs.declared.prints.PrintsFault.TheVariants as prints
use Rattle.pcml_files.specs.declared.source.SourceFault.{SourceFault}
use Rattle.pcml_files.specs.declared.source.SourceFault.TheVariants as files
use Rattle.pcml_texts.specs.declared.chart.ChartFault.TheVariants as charts
use Rattle.pcml_tool.specs.declared.fault.Fault.{Fault}
use Rattle.pcml_tool.specs.declared.fault.Fault.TheVariants as faults
use Rattle.pcml_tool.specs.declared.meeting.MeetFault.TheVariants as meets
use Rattle.pcml_tool.specs.declared.play.PlayFault.TheVariants as plays
use Rattle.runtime.specs.declared.seasons.SeasonFault.{SeasonFault}
use Rattle.runtime.specs.declared.seasons.SeasonFault.TheVariants as seasons
use Rattle.runtime_run.specs.declared.fault.RunFault.{RunFault}
use Rattle.runtime_run.specs.declared.fault.RunFault.TheVariants as runs
use Rattle.script.specs.declared.fault.ScriptFault.{ScriptFault}
use Rattle.script.specs.declared.fault.ScriptFault.TheVariants as scripts

abbrev pub number_of_file : SourceFault → ℕ
number_of_file files.Memory = 1
number_of_file files.Unread = 31
number_of_file files.Unwritten = 32

abbrev pub number_of_script : ScriptFault → ℕ
number_of_script scripts.Memory = 1
number_of_script (scripts.Syntax line) = 11
number_of_script (scripts.UnknownName line) = 12
number_of_script (scripts.Twice line) = 13
number_of_script (scripts.TooMany line) = 14
number_of_script (scripts.LoopWithoutSync line) = 15
number_of_script scripts.TooLong = 16

abbrev pub number_of_run : RunFault → ℕ
number_of_run runs.Memory = 1
number_of_run runs.Workers = 2
number_of_run runs.Rows = 3
number_of_run runs.NoWorker = 6

abbrev pub number_of_seasons : SeasonFault → ℕ
number_of_seasons seasons.Memory = 1
number_of_seasons seasons.Workers = 2
number_of_seasons seasons.Rows = 3
number_of_seasons seasons.Lost = 4
number_of_seasons seasons.Unlawful = 5
number_of_seasons seasons.NoWorker = 6
number_of_seasons seasons.Seasons = 7
number_of_seasons seasons.SeasonCount = 8

-- none where a name is no process's, or with no value, and where a journal of which a chart is wanted is no run
abbrev pub number_of : Fault → Option ℕ
number_of faults.Memory = Some 1
number_of faults.TooLarge = Some 23
number_of (faults.File fault) = Some (number_of_file fault)
number_of (faults.Script fault) = Some (number_of_script fault)
number_of (faults.Journal journals.Memory) = Some 1
number_of (faults.Journal (journals.BadLine line)) = Some 21
number_of (faults.Chart charts.Memory) = Some 1
number_of (faults.Chart (charts.BadLine line)) = Some 21
number_of (faults.Chart (charts.NoRun line)) = None
number_of (faults.Chart (charts.Unnamed name)) = None
number_of (faults.Names names.Memory) = Some 1
number_of (faults.Names (names.Unnamed name)) = None
number_of (faults.Prints prints.Memory) = Some 1
number_of (faults.Prints (prints.Unprinted text)) = None
number_of (faults.Meet meets.Memory) = Some 1
number_of (faults.Meet meets.NoThread) = Some 6
number_of (faults.Play plays.Memory) = Some 1
number_of (faults.Play (plays.NotAllowed step)) = Some 2
number_of (faults.Play (plays.BadStep line)) = Some 22
number_of (faults.Run fault) = Some (number_of_run fault)
number_of (faults.Seasons fault) = Some (number_of_seasons fault)

-- that of words that are not understood where a name is no process's, or with no value, and else 1
abbrev pub status_of : Fault → ℕ
status_of (faults.Names (names.Unnamed name)) = 2
status_of (faults.Chart (charts.Unnamed name)) = 2
status_of (faults.Prints (prints.Unprinted text)) = 2
status_of fault = 1
