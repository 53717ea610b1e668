use Rattle.std.proofs.Common.{◌≡◌, ◌++◌, take}
use Rattle.std.specs.String.{string_bytes}
use Rattle.script.specs.Scripts.{script_of}
use Rattle.script_writer.specs.Texts.{channels_text}
use Rattle.script_writer.proofs.writing.put_channels.Given as goal

abbrev pub invariant-loop-channel : goal.invariant-loop-channel
invariant-loop-channel l = string_bytes l.out ≡ string_bytes l.fn.out ++ channels_text (take l.channel (script_of l.script).channels)
