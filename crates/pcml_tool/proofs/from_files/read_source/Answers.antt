use Rattle.std.proofs.Common.{ℕ, List, subst}
use Rattle.script.specs.Lines.{AreLined, trees_of_script}
use Rattle.pcml_tool.proofs.Whys.{are_trees}
use Rattle.pcml_tool.proofs.from_files.read_source.Goals as goal

pub returns-clause-trees : goal.returns-clause-trees
returns-clause-trees g c =
    let script = c.in_ok-script.script in
    are_trees c.in_ok-bytes.bytes.items script (subst (λ (bytes : List ℕ). AreLined bytes (trees_of_script script)) c.as_slice.ensures.value c.in_ok-script.ensures.lined)
