use Rattle.std.proofs.Common.{◌≡◌, ◌++◌, get_or}
use Rattle.std.specs.String.{string_bytes}
use Rattle.script.specs.Scripts.{script_of}
use Rattle.journal_text.specs.Names.{named}
use Rattle.pcml_answers.specs.Stats.{each_below}
use Rattle.pcml_answers.specs.Tallies.{nothing, process_text}
use Rattle.pcml_answers.proofs.stats_lines.push_processes.Given as goal

abbrev pub invariant-loop-thread : goal.invariant-loop-thread
invariant-loop-thread l = string_bytes l.out ≡ string_bytes l.fn.out ++ each_below l.thread (λ t. process_text (named (script_of l.script)) t (get_or l.tallies t nothing))
