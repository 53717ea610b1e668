use Rattle.std.proofs.Common.{◌≡◌, take}
use Rattle.script_reader.specs.Places.{texts}
use Rattle.script_tree.specs.Processes.{string_texts}
use Rattle.script.proofs.reading.owned.Given as goal

abbrev pub invariant-loop-name : goal.invariant-loop-name
invariant-loop-name l = string_texts l.owned.items ≡ texts (take l.name-index l.name-items)
