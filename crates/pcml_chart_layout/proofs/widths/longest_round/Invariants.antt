use Rattle.std.proofs.Common.{◌≡◌, ◌+◌, length}
use Rattle.script.specs.Scripts.{script_of}
use Rattle.journal_text.specs.Names.{named}
use Rattle.pcml_chart_layout.specs.Places.{owners}
use Rattle.pcml_chart_layout.specs.Most.{most_below}
use Rattle.pcml_chart_layout.specs.Widths.{Lists, process_length}
use Rattle.pcml_chart_layout.proofs.widths.longest_round.Given as goal

abbrev pub invariant-loop-thread : goal.invariant-loop-thread
invariant-loop-thread l =
    (length l.lengths.items ≡ owners l.columns.own.now + 2) × Lists (λ k. most_below l.thread (process_length (named (script_of l.script)) l.columns.own.now l.feet k)) l.lengths.items
