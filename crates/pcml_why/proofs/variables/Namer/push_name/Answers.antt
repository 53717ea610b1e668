use Rattle.std.proofs.Common.{ℕ, List, ◌++◌, ap, sym, ◌∙◌, append-nil}
use Rattle.std.specs.String.{string_bytes}
use Rattle.script_tree.specs.Processes.{proc_of}
use Rattle.pcml_why.proofs.Sites.{no-name}
use Rattle.pcml_why.proofs.variables.Namer.push_name.Goals as goal

pub returns-in-None : goal.returns-in-None
returns-in-None c =
    let old = string_bytes c.args.out.now in
    sym (append-nil old) ∙ ap (λ (text : List ℕ). old ++ text) (no-name (proc_of c.args.self.now.process.now).variables c.args.variable c.in-None.ensures)
