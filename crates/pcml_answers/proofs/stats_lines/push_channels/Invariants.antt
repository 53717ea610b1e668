use Rattle.std.proofs.Common.{◌≡◌, ◌++◌, get_or}
use Rattle.std.specs.String.{string_bytes}
use Rattle.script.specs.Scripts.{script_of}
use Rattle.journal_text.specs.Names.{named}
use Rattle.pcml_answers.specs.Stats.{each_below}
use Rattle.pcml_answers.specs.Tallies.{channel_text}
use Rattle.pcml_answers.proofs.stats_lines.push_channels.Given as goal

abbrev pub invariant-loop-chan : goal.invariant-loop-chan
invariant-loop-chan l = string_bytes l.out ≡ string_bytes l.fn.out ++ each_below l.chan (λ c. channel_text (named (script_of l.script)) c (get_or l.uses c 0))
