use Rattle.std.proofs.Common.{◌≡◌, ◌+◌, length, map, take}
use Rattle.std.specs.String.{string_bytes}
use Rattle.script.specs.Scripts.{script_of}
use Rattle.journal_text.specs.Names.{named}
use Rattle.pcml_chart_layout.specs.Labels.{label_text}
use Rattle.pcml_chart_layout.specs.Places.{owners}
use Rattle.pcml_chart_layout.specs.Widths.{Lists, longest_in}
use Rattle.pcml_chart_layout.proofs.widths.longest_in.Given as goal

abbrev pub invariant-loop-commit : goal.invariant-loop-commit
invariant-loop-commit l = record {
  long : length l.lengths.items ≡ owners l.columns.own.now + 2;
  lengths : Lists (longest_in (named (script_of l.script)) l.columns.own.now (take l.commit-index l.commits)) l.lengths.items;
  labels : map string_bytes l.labels.items ≡ map (label_text (named (script_of l.script)) l.columns.own.now) (take l.commit-index l.commits);
}
