use Rattle.std.proofs.Common.{◌≡◌, ◌++◌, take}
use Rattle.std.specs.String.{string_bytes}
use Rattle.script.specs.Scripts.{script_of}
use Rattle.journal_text.specs.Endings.{printed_text}
use Rattle.journal_text.specs.Names.{named}
use Rattle.journal_text.proofs.ending.push_printed.Given as goal

abbrev pub invariant-loop-atom : goal.invariant-loop-atom
invariant-loop-atom l = string_bytes l.out ≡ string_bytes l.fn.out ++ printed_text (named (script_of l.script)) (take l.atom-index l.printed)
