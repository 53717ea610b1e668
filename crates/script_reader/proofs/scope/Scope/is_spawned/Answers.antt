use Rattle.std.proofs.Common.{ℕ, List, eqb, ap, ◌∙◌}
use Rattle.std.specs.List.{list_any}
use Rattle.script_reader.proofs.Among.{any_among}
use Rattle.script_reader.proofs.scope.Scope.is_spawned.Goals as goal

pub returns : goal.returns
returns c = c.contains.ensures.value ∙ ap (λ (xs : List ℕ). list_any (λ y. eqb y c.args.process) xs) c.deref.ensures.value ∙ any_among c.args.self.now.spawned.items c.args.process
