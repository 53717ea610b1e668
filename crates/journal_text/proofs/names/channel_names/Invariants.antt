use Rattle.std.proofs.Common.{◌≡◌, take}
use Rattle.script_reader.specs.Places.{texts}
use Rattle.script.specs.Scripts.{script_of}
use Rattle.journal_text.proofs.names.channel_names.Given as goal

abbrev pub invariant-loop-c : goal.invariant-loop-c
invariant-loop-c l = texts l.names.items ≡ take l.c (script_of l.script).channels
