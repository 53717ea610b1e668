use Rattle.std.proofs.Common.{◌≡◌, ◌-◌, length}
use Rattle.script_reader.specs.Places.{texts}
use Rattle.script_reader.specs.Steps.{bare, repeated}
use Rattle.script.specs.Lining.{IsLined}
use Rattle.script.specs.Scripts.{drawn, process_step, processes_at}
use Rattle.script.proofs.reading.processes.Given as goal

abbrev pub invariant-loop-turn : goal.invariant-loop-turn
invariant-loop-turn l = record {
  same : repeated process_step (length (bare l.tokens) - l._turn) (drawn l.draft (bare l.rest)) ≡ processes_at (texts l.fn.channels.names.items) (bare l.tokens);
  count : l.count ≡ length (bare l.tokens);
  lined : IsLined l.lines l.draft;
}
