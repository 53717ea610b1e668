use Rattle.std.proofs.Common.{◌≡◌, ◌++◌, take}
use Rattle.std.specs.String.{string_bytes}
use Rattle.script.specs.Scripts.{script_of}
use Rattle.pcml_why.specs.Whys.{listed}
use Rattle.journal_text.specs.Names.{named}
use Rattle.pcml_why.proofs.text.push_listed.Given as goal

abbrev pub invariant-loop-thread : goal.invariant-loop-thread
invariant-loop-thread l = string_bytes l.out ≡ string_bytes l.fn.out ++ listed (named (script_of l.script)) (take l.thread-index l.threads)
