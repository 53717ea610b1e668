use Rattle.std.proofs.Common.{◌≡◌, ◌-◌, length}
use Rattle.script_reader.specs.Places.{texts}
use Rattle.script_reader.specs.Steps.{bare, repeated}
use Rattle.script.specs.Scripts.{channel_step, channels_at}
use Rattle.script.proofs.reading.channels.Given as goal

abbrev pub invariant-loop-turn : goal.invariant-loop-turn
invariant-loop-turn l = record {
  same : repeated channel_step (length (bare l.tokens) - l._turn) (texts l.table.names.items, bare l.rest) ≡ channels_at (bare l.tokens);
  count : l.count ≡ length (bare l.tokens);
}
