-- The trees of a script that was read, and what a fault says of a script and a journal.
use Rattle.std.proofs.Common.{◌≡◌, ℕ, List, [], ◌∷◌, map, ap, refl}
use Rattle.script.specs.Lines.{AreLined, trees_of_script}
use Rattle.script.specs.Scripts.{script_of}
use Rattle.script.specs.Sources.{Script}
use Rattle.script.specs.Spelling.{Spells}
use Rattle.script.specs.declared.script.Script.{Script as SeenScript}
use Rattle.script_tree.specs.Processes.{Proc, proc_of, tree_of}
use Rattle.script_tree.specs.Trees.{Block, block_of}
use Rattle.script_tree.specs.declared.process.Proc.{Proc as SeenProc}
use Rattle.pcml_files.specs.Files.{Fits}
use Rattle.pcml_request.specs.Requests.{all_rows}
use Rattle.pcml_request.specs.declared.request.OfJournal.{OfJournal}
use Rattle.std.specs.Option.{option_copied}
use Rattle.pcml_tool.specs.Command.{AreTreesOf, FailsJournal, FailsOf, Files, HoldsJournal}
use Rattle.pcml_tool.specs.declared.fault.Fault.{Fault}
use Rattle.pcml_tool.specs.declared.fault.Fault.TheVariants as faults

bodies_seen : (processes : List SeenProc) → map block_of (map tree_of processes) ≡ map (λ (p : Proc). p.body) (map proc_of processes)
bodies_seen [] = refl
bodies_seen (p ∷ processes) = ap (λ (l : List Block). block_of (tree_of p) ∷ l) (bodies_seen processes)

pub are_trees : (source : List ℕ) (script : SeenScript) → AreLined source (trees_of_script script) → AreTreesOf source (script_of script) (trees_of_script script)
are_trees source script lined = record { same = bodies_seen script.processes.items; lined = lined }

-- a fault of what was read is one of the request
pub fails_journal : (Holds : Files) (asked : OfJournal) (source read : List ℕ) (s : Script) → Holds asked.script.now source → Spells source s → HoldsJournal Holds (option_copied asked.journal) read → Fits read →
    (fault : Fault) → FailsOf asked.question s (all_rows asked.rows asked.seasons) read fault → FailsJournal Holds asked fault
fails_journal Holds asked source read s holds spells has fits (faults.Journal its) says = (source, holds, s, spells, read, has, (fits, says))
fails_journal Holds asked source read s holds spells has fits (faults.Chart its) says = (source, holds, s, spells, read, has, (fits, says))
fails_journal Holds asked source read s holds spells has fits faults.Memory says = absurd says
fails_journal Holds asked source read s holds spells has fits faults.TooLarge says = absurd says
fails_journal Holds asked source read s holds spells has fits (faults.File its) says = absurd says
fails_journal Holds asked source read s holds spells has fits (faults.Script its) says = absurd says
fails_journal Holds asked source read s holds spells has fits (faults.Names its) says = absurd says
fails_journal Holds asked source read s holds spells has fits (faults.Prints its) says = absurd says
fails_journal Holds asked source read s holds spells has fits (faults.Meet its) says = absurd says
fails_journal Holds asked source read s holds spells has fits (faults.Play its) says = absurd says
fails_journal Holds asked source read s holds spells has fits (faults.Run its) says = absurd says
fails_journal Holds asked source read s holds spells has fits (faults.Seasons its) says = absurd says
