use Rattle.std.proofs.Common.{◌≡◌, ◌++◌}
use Rattle.std.specs.String.{string_bytes}
use Rattle.script.specs.Scripts.{script_of}
use Rattle.journal_text.specs.Names.{named}
use Rattle.pcml_why.specs.Faults.{fault_line}
use Rattle.pcml_why.specs.Whys.{texts_of}
use Rattle.pcml_why.proofs.faults.push_sites.Given as goal

abbrev pub invariant-loop-thread : goal.invariant-loop-thread
invariant-loop-thread l = string_bytes l.out ≡ string_bytes l.fn.out ++ texts_of (fault_line (named (script_of l.script)) (script_of l.script).processes) l.sites l.thread
