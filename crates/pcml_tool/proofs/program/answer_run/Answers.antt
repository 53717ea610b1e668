use Rattle.std.proofs.Common.{◌++◌, ℕ, List, Option, None, Some, ap, subst, sym, ◌∙◌}
use Rattle.std.proofs.lemmas.Result.{err_from_is_err_and}
use Rattle.script.specs.Scripts.{script_of}
use Rattle.journal_replay.specs.Replays.{StandsAfter}
use Rattle.pcml_answers.specs.declared.need.NamesFault.{NamesFault}
use Rattle.pcml_files.specs.declared.source.SourceFault.{SourceFault}
use Rattle.pcml_request.specs.declared.request.Running.{Running}
use Rattle.pcml_tool.specs.Command.{FailsRun, FailsRunning, Files, TellsWhyAsked, marks_of, printed, printed_of, verdict_by}
use Rattle.pcml_tool.specs.declared.fault.Fault.{Fault}
use Rattle.pcml_tool.specs.declared.fault.Fault.TheVariants as faults
use Rattle.script.specs.Sources.{Script}
use Rattle.script.specs.Spelling.{Spells}
use Rattle.script.specs.declared.fault.ScriptFault.{ScriptFault}
use Rattle.pcml_tool.proofs.program.answer_run.Goals as goal

-- a fault of a run is none of a file, of a script or of names
no_file : (s : Script) (workers rows : ℕ) (seasons : Option ℕ) (its : SourceFault) → FailsRun s workers rows seasons (faults.File its) → ⊥
no_file s workers rows None its says = says
no_file s workers rows (Some count) its says = says

no_script : (s : Script) (workers rows : ℕ) (seasons : Option ℕ) (its : ScriptFault) → FailsRun s workers rows seasons (faults.Script its) → ⊥
no_script s workers rows None its says = says
no_script s workers rows (Some count) its says = says

no_names : (s : Script) (workers rows : ℕ) (seasons : Option ℕ) (its : NamesFault) → FailsRun s workers rows seasons (faults.Names its) → ⊥
no_names s workers rows None its says = says
no_names s workers rows (Some count) its says = says

-- a fault of the run of a script that was read is one of the request
fails_running : (Holds : Files) (asked : Running) (source : List ℕ) (s : Script) → Holds asked.script.now source → Spells source s →
    (fault : Fault) → FailsRun s asked.workers asked.rows asked.seasons fault → FailsRunning Holds asked fault
fails_running Holds asked source s holds spells faults.Memory says = tt
fails_running Holds asked source s holds spells (faults.File its) says = absurd (no_file s asked.workers asked.rows asked.seasons its says)
fails_running Holds asked source s holds spells (faults.Script its) says = absurd (no_script s asked.workers asked.rows asked.seasons its says)
fails_running Holds asked source s holds spells (faults.Names its) says = absurd (no_names s asked.workers asked.rows asked.seasons its says)
fails_running Holds asked source s holds spells faults.TooLarge says = (source, holds, s, spells, says)
fails_running Holds asked source s holds spells (faults.Journal its) says = (source, holds, s, spells, says)
fails_running Holds asked source s holds spells (faults.Chart its) says = (source, holds, s, spells, says)
fails_running Holds asked source s holds spells (faults.Prints its) says = (source, holds, s, spells, says)
fails_running Holds asked source s holds spells (faults.Meet its) says = (source, holds, s, spells, says)
fails_running Holds asked source s holds spells (faults.Play its) says = (source, holds, s, spells, says)
fails_running Holds asked source s holds spells (faults.Run its) says = (source, holds, s, spells, says)
fails_running Holds asked source s holds spells (faults.Seasons its) says = (source, holds, s, spells, says)

pub why_asked-requires-clause-stands : goal.why_asked-requires-clause-stands
why_asked-requires-clause-stands g c =
    subst (λ (rows : ℕ). StandsAfter (script_of c.in_ok-source_text.script).processes rows c.in_ok-ran.ran.commits.items c.in_ok-ran.ran.state) (sym c.all_rows-rows.ensures.value) c.in_ok-ran.ensures.leads.0

pub returns-clause-done : goal.returns-clause-done
returns-clause-done g c =
    let asked = c.args.asked in
    let ran = c.in_ok-ran.ran in
    let s = script_of c.in_ok-source_text.script in
    let source : List ℕ = c.in_ok-source_text.source_text.items in
    let why : List ℕ = c.in_ok-why.why.items in
    record {
      source = source;
      holds = c.in_ok-source_text.ensures.read.0;
      s = s;
      spells = c.in_ok-source_text.ensures.read.1;
      journal = ran.commits.items;
      ends = ran.ends.items;
      lines = ran.lines.items;
      rest = ran.rest.items;
      tells = c.in_ok-ran.ensures.ran;
      kept = c.in_ok-text.ensures.kept;
      needed = marks_of c.in_ok-needed.needed;
      are_needed = c.in_ok-needed.ensures.needed;
      so = c.verdict_by-verdict.ensures ∙ ap (verdict_by (marks_of c.in_ok-needed.needed)) c.deref.ensures.value;
      why = why;
      told = subst (λ (z : List ℕ × ℕ). TellsWhyAsked asked.why s z.0 z.1 ran.commits.items why) (λ i. (c.deref-2.ensures.value i, c.all_rows-rows.ensures.value i)) c.in_ok-why.ensures.told;
      is = c.in_ok-text.ensures.printed ∙ ap (λ (w : List ℕ). printed_of asked.alone (Some ran.lines.items) (printed asked.quiet ran.lines.items ran.rest.items ++ w)) c.deref-4.ensures.value;
    }

pub returns-in_err-ran-clause-fault : goal.returns-in_err-ran-clause-fault
returns-in_err-ran-clause-fault g c =
    let found = c.in_ok-source_text.ensures.read in
    let fails = fails_running (g.S.Source.holds c.args.source.now) c.args.asked c.in_ok-source_text.source_text.items (script_of c.in_ok-source_text.script) found.0 found.1 in
    let p = err_from_is_err_and c.from_residual-in_err-ran.result c.from_residual-in_err-ran.ensures.1 in
    rw (p.1, p.2) (fails c.in_err-ran.field-0.0 c.in_err-ran.ensures.fault)
