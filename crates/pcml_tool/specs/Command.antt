-- What the program prints for what is asked, and what its faults say.
use Rattle.std.specs.Prelude.{◌≡◌, ◌≢◌, ◌⊎◌, ℕ, Bool, true, false, List, [], ◌++◌, map, Option, None, Some, IfSome, take, ⊤, is_some, if◌then◌else◌, codes}
use Rattle.std.specs.Io.KnownBytes.{Appends}
use Rattle.std.specs.Global.{Vec}
use Rattle.std.specs.Option.{option_copied, option_map}
use Rattle.pcml_request.specs.declared.request.Request.{Request}
use Rattle.pcml_request.specs.declared.request.Request.TheVariants.{Meet, Outcomes, Play, Check, Explain, Run, Seek, Version, WhyScript, WhyShort}
use Rattle.pcml_request.specs.declared.request.Request.TheVariants as request
use Rattle.pcml_request.specs.declared.request.Drawing.{Drawing}
use Rattle.pcml_request.specs.declared.request.OfJournal.{OfJournal}
use Rattle.pcml_request.specs.declared.request.Question.{Question}
use Rattle.pcml_request.specs.declared.request.Question.TheVariants as question
use Rattle.pcml_request.specs.declared.request.Running.{Running}
use Rattle.pcml_request.specs.declared.request.OutcomesAsked.{OutcomesAsked}
use Rattle.pcml_request.specs.declared.request.Seeking.{Seeking}
use Rattle.pcml_request.specs.declared.request.Sought.{Sought}
use Rattle.pcml_request.specs.declared.request.Sought.TheVariants as sought
use Rattle.pcml_request.specs.Requests.{all_rows}
use Rattle.pcml_explain.specs.Topics as topics
use Rattle.pcml_outcomes.specs.Faults.{TellsFaults}
use Rattle.pcml_outcomes.specs.Left.{TellsLeft}
use Rattle.pcml_outcomes.specs.Printed.{TellsPrints}
use Rattle.pcml_answers.specs.Needs.{MisnamesAny, Names}
use Rattle.pcml_answers.specs.Prints.{MisnamesPrints, NamePrints}
use Rattle.pcml_answers.specs.declared.prints.Print.{Print}
use Rattle.pcml_files.specs.Files.{Fits, IsTooLarge}
use Rattle.pcml_files.specs.declared.source.SourceFault.{SourceFault}
use Rattle.pcml_files.specs.declared.source.SourceFault.TheVariants as files
use Rattle.pcml_tool.specs.Meet.{PrintsMeeting}
use Rattle.pcml_tool.specs.declared.fault.Fault.{Fault}
use Rattle.pcml_tool.specs.declared.fault.Fault.TheVariants as faults
use Rattle.pcml_tool.specs.declared.meeting.MeetFault.{MeetFault}
use Rattle.pcml_tool.specs.Play.{ExplainsPlay, IsPlayed}
use Rattle.pcml_texts.specs.Check.{IsChecked}
use Rattle.runtime.specs.Played.{NeedsSeasons}
use Rattle.runtime_run.specs.Limits.{AreRows, AreSeasons, AreWorkers}
use Rattle.runtime.specs.declared.seasons.SeasonFault.{SeasonFault}
use Rattle.runtime.specs.declared.seasons.SeasonFault.TheVariants as seasons
use Rattle.runtime_run.specs.declared.fault.RunFault.{RunFault}
use Rattle.runtime_run.specs.declared.fault.RunFault.TheVariants as runs
use Rattle.pcml_texts.specs.Replay.{TellsReplayed}
use Rattle.pcml_texts.specs.Chart.{ExplainsChart, IsCharted}
use Rattle.pcml_texts.specs.Why.{IsWhyOf, TellsWhy}
use Rattle.protocol_values.specs.declared.Commit.{Commit}
use Rattle.pcml_texts.specs.Next.{TellsNextOf}
use Rattle.pcml_tool.specs.Run.{TellsAsked}
use Rattle.pcml_texts.specs.Stats.{TellsStats}
use Rattle.pcml_tool.specs.Version.{version_line}
use Rattle.thread.specs.declared.end.End.{End}
use Rattle.pcml_texts.specs.declared.replay.Replayed.{Replayed}
use Rattle.pcml_texts.specs.declared.replay.Replayed.TheVariants as replays
use Rattle.pcml_tool.specs.declared.answer.Verdict.{Verdict}
use Rattle.pcml_tool.specs.declared.answer.Verdict.TheVariants.{Denied, Done, Lacking, Unlawful}
use Rattle.journal_text.specs.Answers.{Explains}
use Rattle.journal_text.specs.Names.{named}
use Rattle.outcomes.specs.declared.Outcomes.{Outcomes as Found}
use Rattle.outcomes.specs.declared.asked.Asked.{Asked}
use Rattle.outcomes.specs.Asking.{has_unended}
use Rattle.reachable.specs.declared.stranded.AllStranded.{AllStranded}
use Rattle.pcml_outcomes.specs.Stranding.{AreLostIn, judged}
use Rattle.pcml_outcomes.specs.Told.{AreFoundIn, NamesNeeded, SpellsKept, bytes_of, finding, kept_run, looks, outcomes_text}
use Rattle.pcml_outcomes.specs.declared.sought.SoughtText.{SoughtText}
use Rattle.pcml_tool.specs.Searching.{FailsAsked, IsAskedBy, verdict_of}
use Rattle.script_mistakes.specs.Short.{TellsWhyShort}
use Rattle.script_mistakes.specs.Telling.{TellsWhyNot}
use Rattle.script.specs.Sources.{Script}
use Rattle.script.specs.Spelling.{Spells}
use Rattle.script.specs.FirstFaults.{Tells}
use Rattle.script.specs.Lines.{AreLined}
use Rattle.script_tree.specs.Trees.{block_of}
use Rattle.script_tree.specs.declared.tree.Block.{Block as Tree}
use Rattle.script.specs.declared.fault.ScriptFault.{ScriptFault}

-- Which bytes the file of a name holds. No contract says more of it than the source of the files does.
abbrev pub Files : Type 1
Files = List ℕ → List ℕ → Type 0

-- a schedule that is not too large
abbrev pub OfSchedule : Files → List ℕ → (List ℕ → Type 0) → Type 0
OfSchedule Holds name Says = (bytes : List ℕ) × Holds name bytes × Fits bytes × Says bytes

-- of the script that the file spells
abbrev pub OfScript : Files → List ℕ → (Script → Type 0) → Type 0
OfScript Holds script Says = (bytes : List ℕ) × Holds script bytes × (s : Script) × Spells bytes s × Says s

-- the bytes of the journal in a file, and none where no file is named
abbrev pub HoldsJournal : Files → Option (List ℕ) → List ℕ → Type 0
HoldsJournal Holds (Some name) read = Holds name read
HoldsJournal Holds None read = read ≡ []

-- of the script that the one file spells, and the journal that the other holds
abbrev pub OfFiles : Files → List ℕ → Option (List ℕ) → (Script → List ℕ → Type 0) → Type 0
OfFiles Holds script journal Says = (bytes : List ℕ) × Holds script bytes × (s : Script) × Spells bytes s × (read : List ℕ) × HoldsJournal Holds journal read × Says s read

-- a text of a journal, with its verdict
abbrev pub IsJudged : Replayed → Verdict → List ℕ → Type 0
IsJudged (replays.Lawful text) verdict told = (verdict ≡ Done) × (told ≡ text.items)
IsJudged (replays.Unlawful text) verdict told = (verdict ≡ Unlawful) × (told ≡ text.items)

-- what is printed of the two parts of a run: where it is quiet, not the journal
abbrev pub printed : Bool → List ℕ → List ℕ → List ℕ
printed true lines rest = rest
printed false lines rest = lines ++ rest

-- what is printed of an answer with a journal: where it is asked for alone, its lines, or nothing where there is none
abbrev pub printed_of : Bool → Option (List ℕ) → List ℕ → List ℕ
printed_of true (Some lines) text = lines
printed_of true None text = []
printed_of false lines text = text

-- the trees of the script that the source spells, with the lines of its text
pub record AreTreesOf (source : List ℕ) (s : Script) (trees : List Tree) : Type 0 where
  pub same : map block_of trees ≡ map (λ p. p.body) s.processes
  pub lined : AreLined source trees

-- a chart, in the form that is asked for
abbrev pub TellsChart : Drawing → Script → ℕ → List ℕ → Replayed → Type 0
TellsChart d s rows read (replays.Lawful text) = IsCharted s rows read (option_copied d.only) d.from d.to d.form text.items
TellsChart d s rows read (replays.Unlawful text) = ⊥

-- what is told of the script's text, the script and the journal, by what is asked: where the journal leads, why the processes stand there
-- or why it is no run, its chart, what may come next, and how often each took part
abbrev pub TellsOf : Question → Script → List ℕ → ℕ → List ℕ → Replayed → Type 0
TellsOf question.Replay s source rows read told = TellsReplayed s rows read told
TellsOf question.Why s source rows read told = (trees : List Tree) × AreTreesOf source s trees × TellsWhy s trees source rows read told
TellsOf (question.Chart d) s source rows read told = TellsChart d s rows read told
TellsOf question.Next s source rows read told = TellsNextOf s rows read told
TellsOf question.Stats s source rows read told = TellsStats s rows read told

-- of the script that the one file spells, and the journal that the other holds
abbrev pub AnswersJournal : Files → OfJournal → Verdict → List ℕ → Type 0
AnswersJournal Holds asked verdict text = (source : List ℕ) × Holds asked.script.now source × (s : Script) × Spells source s
    × (read : List ℕ) × HoldsJournal Holds (option_copied asked.journal) read × Fits read
    × (told : Replayed) × TellsOf asked.question s source (all_rows asked.rows asked.seasons) read told × IsJudged told verdict text

-- what is printed where this is told of why a text is no script: of a script that it is one
abbrev pub IsToldWhyNot : Option (List ℕ) → Verdict → List ℕ → Type 0
IsToldWhyNot None verdict text = (verdict ≡ Done) × (text ≡ codes "this is a script\n")
IsToldWhyNot (Some told) verdict text = (verdict ≡ Denied) × (text ≡ told)

-- why the text in a file is no script
abbrev pub AnswersWhyScript : Files → List ℕ → Verdict → List ℕ → Type 0
AnswersWhyScript Holds name verdict text = (bytes : List ℕ) × Holds name bytes × (told : Option (List ℕ)) × TellsWhyNot bytes told × IsToldWhyNot told verdict text

-- the same in one line: nothing of a text that is a script
abbrev pub IsToldShort : Option (List ℕ) → Verdict → List ℕ → Type 0
IsToldShort None verdict text = (verdict ≡ Done) × (text ≡ [])
IsToldShort (Some told) verdict text = (verdict ≡ Denied) × (text ≡ told)

abbrev pub AnswersWhyShort : Files → List ℕ → Verdict → List ℕ → Type 0
AnswersWhyShort Holds name verdict text = (bytes : List ℕ) × Holds name bytes × (told : Option (List ℕ)) × TellsWhyShort name bytes told × IsToldShort told verdict text

-- The journal that is asked for is kept in the file that is named; where none is named, or there is no such journal, no file holds
-- what it did not.
abbrev pub KeepsAsked : Files → Files → Option (List ℕ) → Option (List ℕ) → Type 0
KeepsAsked Holds Keeps (Some name) (Some lines) = Keeps name lines
KeepsAsked Holds Keeps name lines = (file bytes : List ℕ) → Keeps file bytes → Holds file bytes

-- the text of outcomes that were found of a script, and the journal that is kept of it, in a file where one is named
pub record AnswersOutcomes (Holds Keeps : Files) (search : OutcomesAsked) (verdict : Verdict) (text : List ℕ) : Type 0 where
  pub source : List ℕ
  pub holds : Holds search.script.now source
  pub s : Script
  pub spells : Spells source s
  pub asked : Asked
  pub asks : IsAskedBy s search asked
  pub needed : NamesNeeded asked
  pub found : Found
  pub are : AreFoundIn s search.rows search.limit asked found
  pub stranded : Option AllStranded
  pub lost : AreLostIn s search.limit asked (looks search.rows asked found) stranded
  pub lines : Option (List ℕ)
  pub is_kept : SpellsKept s (kept_run search.rows search.of asked found stranded) lines
  pub kept : KeepsAsked Holds Keeps (option_copied search.journal) lines
  pub so : verdict ≡ verdict_of (judged asked.told (finding asked found) stranded) (is_some search.of) (is_some lines)
  pub is : text ≡ printed_of search.alone lines (outcomes_text (named s) search.rows asked found stranded)

-- what is told of what is sought: who of the processes that are named is left behind, who faults, or whether values are printed
abbrev pub TellsSought : Script → ℕ → Sought → SoughtText → Type 0
TellsSought s limit (sought.Left names) told = (marks : List Bool) × Names s names.now marks × TellsLeft s limit marks told
TellsSought s limit sought.Fault told = TellsFaults s limit told
TellsSought s limit (sought.Printed texts) told = (prints : List Print) × NamePrints s (map (λ t. t.now) texts.items) prints × TellsPrints s limit prints told

-- its text, and the journal that leads there, in a file where one is named
pub record AnswersSought (Holds Keeps : Files) (seeking : Seeking) (verdict : Verdict) (text : List ℕ) : Type 0 where
  pub source : List ℕ
  pub holds : Holds seeking.script.now source
  pub s : Script
  pub spells : Spells source s
  pub told : SoughtText
  pub tells : TellsSought s seeking.limit seeking.sought told
  pub kept : KeepsAsked Holds Keeps (option_copied seeking.journal) (bytes_of told.journal)
  pub so : verdict ≡ verdict_of told.finding false (is_some (bytes_of told.journal))
  pub is : text ≡ printed_of seeking.alone (bytes_of told.journal) told.text.items

-- of each process whether it has to end, where names are needed
abbrev pub AreNeeded : Script → Option (List ℕ) → Option (List Bool) → Type 0
AreNeeded s None None = ⊤
AreNeeded s (Some names) (Some marks) = Names s names marks
AreNeeded s need marks = ⊥

abbrev pub marks_of : Option (Vec Bool) → Option (List Bool)
marks_of marks = option_map (λ v. v.items) marks

-- whether what has to end has ended
abbrev pub verdict_by : Option (List Bool) → List End → Verdict
verdict_by None ends = Done
verdict_by (Some marks) ends = if has_unended marks ends then Lacking else Done

-- why the processes stand where the commits lead, at the lines of the script's trees, where that is asked for
abbrev pub TellsWhyAsked : Bool → Script → List ℕ → ℕ → List Commit → List ℕ → Type 0
TellsWhyAsked true s source rows commits told = (trees : List Tree) × AreTreesOf source s trees × IsWhyOf s trees source rows commits told
TellsWhyAsked false s source rows commits told = told ≡ []

-- What a run of the script that a file spells prints, in its lines and the rest; the lines are kept in the file that is named. Where
-- names are needed it is done where the processes of these names have ended. Behind it stands why the processes stand so, where that
-- is asked for.
pub record AnswersRun (Holds Keeps : Files) (asked : Running) (verdict : Verdict) (text : List ℕ) : Type 0 where
  pub source : List ℕ
  pub holds : Holds asked.script.now source
  pub s : Script
  pub spells : Spells source s
  pub journal : List Commit
  pub ends : List End
  pub lines : List ℕ
  pub rest : List ℕ
  pub tells : TellsAsked s asked.rows asked.seasons journal ends lines rest
  pub kept : IfSome asked.journal (λ name. Keeps name.now lines)
  pub needed : Option (List Bool)
  pub are_needed : AreNeeded s (option_copied asked.need) needed
  pub so : verdict ≡ verdict_by needed ends
  pub why : List ℕ
  pub told : TellsWhyAsked asked.why s source (all_rows asked.rows asked.seasons) journal why
  pub is : text ≡ printed_of asked.alone (Some lines) (printed asked.quiet lines rest ++ why)

-- The line of the one pair (or none), what comes of the schedule, the script or the run that is asked for, what is asked of a script and
-- a journal, why a text is no script, what the script can come to or what some run of it leads to, what a fault means, or the version. Where the journal of a run is to
-- go to a file, the file keeps its lines at the end.
abbrev pub Answers : Files → Files → Request → Verdict → List ℕ → Type 0
Answers Holds Keeps (request.OfJournal asked) verdict text = AnswersJournal Holds asked verdict text
Answers Holds Keeps (WhyScript name) verdict text = AnswersWhyScript Holds name.now verdict text
Answers Holds Keeps (WhyShort name) verdict text = AnswersWhyShort Holds name.now verdict text
Answers Holds Keeps (Outcomes search) verdict text = AnswersOutcomes Holds Keeps search verdict text
Answers Holds Keeps (Seek seeking) verdict text = AnswersSought Holds Keeps seeking verdict text
Answers Holds Keeps (Meet value) Done text = PrintsMeeting value text
Answers Holds Keeps (Play name) Done text = OfSchedule Holds name.now (λ bytes. IsPlayed bytes text)
Answers Holds Keeps (Check name) Done text = (bytes : List ℕ) × Holds name.now bytes × IsChecked bytes text
Answers Holds Keeps (Run asked) verdict text = AnswersRun Holds Keeps asked verdict text
Answers Holds Keeps (Explain topic) Done text = topics.Explains topic text
Answers Holds Keeps Version Done text = text ≡ version_line
Answers Holds Keeps asked verdict text = ⊥

-- what a fault of a script says: the file's text has it as its first
abbrev pub FailsScript : Files → List ℕ → ScriptFault → Type 0
FailsScript Holds name fault = (bytes : List ℕ) × Holds name bytes × Tells bytes fault

-- of a file that was to be read nothing else is told than that it was not, or that memory lacked
abbrev pub IsOfReading : SourceFault → Type 0
IsOfReading files.Unwritten = ⊥
IsOfReading fault = ⊤

-- of files where a script is read, and a journal may be written into one that is named
abbrev pub FailsFile : {A : Type 0} → Option A → SourceFault → Type 0
FailsFile name files.Unwritten = name ≢ None
FailsFile name fault = ⊤

-- of a journal that was to be kept in a file, where one is named, that it was not written, or that memory lacked
abbrev pub IsOfKeeping : {A : Type 0} → Option A → Fault → Type 0
IsOfKeeping name faults.Memory = ⊤
IsOfKeeping name (faults.File files.Memory) = ⊤
IsOfKeeping name (faults.File files.Unwritten) = name ≢ None
IsOfKeeping name fault = ⊥

-- what a fault of reading a script says
abbrev pub FailsParse : Files → List ℕ → Fault → Type 0
FailsParse Holds name (faults.File fault) = IsOfReading fault
FailsParse Holds name (faults.Script fault) = FailsScript Holds name fault
FailsParse Holds name fault = ⊥

-- what a fault of reading a schedule or a journal says of what its file holds
abbrev pub FailsRead : (List ℕ → Type 0) → Fault → Type 0
FailsRead Holds (faults.File fault) = IsOfReading fault
FailsRead Holds faults.TooLarge = (bytes : List ℕ) × Holds bytes × IsTooLarge bytes
FailsRead Holds fault = ⊥

-- what a fault of telling why a text is no script says
abbrev pub FailsWhyScript : Fault → Type 0
FailsWhyScript faults.Memory = ⊤
FailsWhyScript (faults.File fault) = IsOfReading fault
FailsWhyScript fault = ⊥

-- what a fault of playing the schedule in a file says
abbrev pub FailsPlay : Files → List ℕ → Fault → Type 0
FailsPlay Holds name (faults.Play fault) = OfSchedule Holds name (λ bytes. ExplainsPlay bytes fault)
FailsPlay Holds name fault = FailsRead (Holds name) fault

-- where a chart is asked for
abbrev pub OfChart : Question → (Drawing → Type 0) → Type 0
OfChart (question.Chart d) Says = Says d
OfChart asked Says = ⊥

-- what a fault says of the script and the journal that were read
abbrev pub FailsOf : Question → Script → ℕ → List ℕ → Fault → Type 0
FailsOf asked s rows read (faults.Journal fault) = Explains s read fault
FailsOf asked s rows read (faults.Chart fault) = OfChart asked (λ d. ExplainsChart s rows read (option_copied d.only) fault)
FailsOf asked s rows read fault = ⊥

-- what it says of their files
abbrev pub FailsAsOf : Files → OfJournal → Fault → Type 0
FailsAsOf Holds asked fault = OfFiles Holds asked.script.now (option_copied asked.journal) (λ s read. Fits read × FailsOf asked.question s (all_rows asked.rows asked.seasons) read fault)

abbrev pub FailsJournal : Files → OfJournal → Fault → Type 0
FailsJournal Holds asked (faults.File fault) = IsOfReading fault
FailsJournal Holds asked (faults.Script fault) = FailsScript Holds asked.script.now fault
FailsJournal Holds asked faults.TooLarge = OfFiles Holds asked.script.now (option_copied asked.journal) (λ s read. IsTooLarge read)
FailsJournal Holds asked fault = FailsAsOf Holds asked fault

-- want of memory, or the first name that no process has
abbrev pub FailsNamed : Script → Option (List ℕ) → Fault → Type 0
FailsNamed s need (faults.Names fault) = MisnamesAny s need fault
FailsNamed s need fault = ⊥

-- what a fault of a run of the script says of what was asked for
abbrev pub FailsOnce : ℕ → ℕ → RunFault → Type 0
FailsOnce workers rows runs.Memory = ⊤
FailsOnce workers rows runs.NoWorker = ⊤
FailsOnce workers rows runs.Workers = ¬ AreWorkers workers
FailsOnce workers rows runs.Rows = ¬ AreRows rows

-- the same of a run in so many seasons
abbrev pub FailsInSeasons : Script → ℕ → ℕ → ℕ → SeasonFault → Type 0
FailsInSeasons s workers rows count seasons.Memory = ⊤
FailsInSeasons s workers rows count seasons.NoWorker = ⊤
FailsInSeasons s workers rows count seasons.Workers = ¬ AreWorkers workers
FailsInSeasons s workers rows count seasons.Rows = ¬ AreRows rows
FailsInSeasons s workers rows count seasons.SeasonCount = ¬ AreSeasons count
FailsInSeasons s workers rows count seasons.Seasons = NeedsSeasons s.processes rows count
FailsInSeasons s workers rows count seasons.Lost = ⊥
FailsInSeasons s workers rows count seasons.Unlawful = ⊥

abbrev pub FailsRun : Script → ℕ → ℕ → Option ℕ → Fault → Type 0
FailsRun s workers rows None (faults.Run fault) = FailsOnce workers rows fault
FailsRun s workers rows (Some count) (faults.Seasons fault) = FailsInSeasons s workers rows count fault
FailsRun s workers rows seasons fault = ⊥

-- what a fault says of a run of a script: that of the script, of a name that is needed, of the run, or that the journal's file was not written
abbrev pub FailsRunning : Files → Running → Fault → Type 0
FailsRunning Holds asked faults.Memory = ⊤
FailsRunning Holds asked (faults.File fault) = FailsFile asked.journal fault
FailsRunning Holds asked (faults.Script fault) = FailsScript Holds asked.script.now fault
FailsRunning Holds asked (faults.Names fault) = OfScript Holds asked.script.now (λ s. FailsNamed s (option_copied asked.need) (faults.Names fault))
FailsRunning Holds asked fault = OfScript Holds asked.script.now (λ s. FailsRun s asked.workers asked.rows asked.seasons fault)

-- what a fault says of a search: that of the script, of a name, or that the journal's file was not written
abbrev pub FailsOutcomes : Files → OutcomesAsked → Fault → Type 0
FailsOutcomes Holds search faults.Memory = ⊤
FailsOutcomes Holds search (faults.File fault) = FailsFile search.journal fault
FailsOutcomes Holds search (faults.Script fault) = FailsScript Holds search.script.now fault
FailsOutcomes Holds search (faults.Names fault) = OfScript Holds search.script.now (λ s. FailsAsked s search (faults.Names fault))
FailsOutcomes Holds search fault = ⊥

-- what a fault says of what is sought in a script: that of a name, or that one of the texts names no process and value
abbrev pub FailsSoughtIn : Script → Sought → Fault → Type 0
FailsSoughtIn s sought faults.Memory = ⊤
FailsSoughtIn s (sought.Left names) (faults.Names fault) = FailsNamed s (Some names.now) (faults.Names fault)
FailsSoughtIn s (sought.Printed texts) (faults.Prints fault) = MisnamesPrints s (map (λ t. t.now) texts.items) fault
FailsSoughtIn s sought fault = ⊥

-- what a fault says where something is sought: that of the script, of a name, or that the journal's file was not written
abbrev pub FailsSought : Files → Seeking → Fault → Type 0
FailsSought Holds seeking faults.Memory = ⊤
FailsSought Holds seeking (faults.File fault) = FailsFile seeking.journal fault
FailsSought Holds seeking (faults.Script fault) = FailsScript Holds seeking.script.now fault
FailsSought Holds seeking (faults.Names fault) = OfScript Holds seeking.script.now (λ s. FailsSoughtIn s seeking.sought (faults.Names fault))
FailsSought Holds seeking (faults.Prints fault) = OfScript Holds seeking.script.now (λ s. FailsSoughtIn s seeking.sought (faults.Prints fault))
FailsSought Holds seeking fault = ⊥

-- what a fault says of the request
abbrev pub Fails : Files → Request → Fault → Type 0
Fails Holds (Meet value) fault = (meeting : MeetFault) × (fault ≡ faults.Meet meeting)
Fails Holds (Play name) fault = FailsPlay Holds name.now fault
Fails Holds (Check name) fault = FailsParse Holds name.now fault
Fails Holds (Explain topic) fault = fault ≡ faults.Memory
Fails Holds (request.OfJournal asked) fault = FailsJournal Holds asked fault
Fails Holds (WhyScript name) fault = FailsWhyScript fault
Fails Holds (WhyShort name) fault = FailsWhyScript fault
Fails Holds (Outcomes search) fault = FailsOutcomes Holds search fault
Fails Holds (Seek seeking) fault = FailsSought Holds seeking fault
Fails Holds (Run asked) fault = FailsRunning Holds asked fault
Fails Holds Version fault = fault ≡ faults.Memory

-- The output has grown by the first n bytes of a text, and where there is one byte at least, the text answers the request.
abbrev pub Began : Files → Files → Request → Option (List ℕ) → Option (List ℕ) → Type 0
Began Holds Keeps asked old new = (n : ℕ) × (verdict : Verdict) × (text : List ℕ) × ((n ≡ 0) ⊎ Answers Holds Keeps asked verdict text) × Appends old new (take n text)
