use Rattle.std.proofs.Common.{map, take}
use Rattle.script.specs.Scripts.{script_of}
use Rattle.pcml_answers.specs.Prints.{NamePrints}
use Rattle.pcml_answers.proofs.prints.named_prints.Given as goal

abbrev pub invariant-loop-text : goal.invariant-loop-text
invariant-loop-text l = NamePrints (script_of l.script) (map (λ t. t.now) (take l.text-index l.texts)) l.prints.items
