use Rattle.std.proofs.Common.{None, length, replicate, ap, ap₂, subst, ◌∙◌}
use Rattle.script_tree.specs.Processes.{proc_of}
use Rattle.script_tree.specs.Trees.{block_of}
use Rattle.thread.specs.Values.{Store}
use Rattle.pcml_why_sites.specs.WalkEnds.{IsTold}
use Rattle.pcml_why_sites.specs.Walks.{View, walk_block}
use Rattle.pcml_why_sites.proofs.Seeing.{walk_told}
use Rattle.pcml_why_sites.proofs.stand.stand_of.Goals as goal

pub returns : goal.returns
returns c =
    let p = proc_of c.args.process.now in
    let body = ap block_of c.deref.ensures ∙ c.body.ensures.value in
    let store = c.in_ok-unset.ensures ∙ ap (λ n. replicate n None) c.variables.ensures in
    let from : Store → View = λ s. record { thread = c.args.thread; store = s; nacks = 0; left = c.args.results.now } in
    walk_told p.body (length p.variables) c.args.thread c.args.results.now c.told.result
    (subst (λ w. IsTold w c.told.result) (c.run-end.ensures ∙ ap₂ (λ b s. walk_block b (from s)) body store) c.told.ensures)
