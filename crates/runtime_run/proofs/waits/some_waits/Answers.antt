use Rattle.std.proofs.Common.{◌≡◌, ◌<◌, ℕ, true, ap, map, sym, subst, ◌∙◌, get_or}
use Rattle.std.proofs.lemmas.List.{get_or-map, length-map}
use Rattle.std.proofs.lemmas.List.Folds.{list_any_at}
use Rattle.script_tree.specs.Processes.{Proc, proc_of}
use Rattle.script_tree.specs.Trees.{Block, block_of}
use Rattle.runtime_run.specs.Waiting.{waits_block}
use Rattle.runtime_run.proofs.waits.some_waits.Goals as goal

pub returns-then-block_waits : goal.returns-then-block_waits
returns-then-block_waits c =
    let serves = λ (p : Proc). waits_block c.args.what p.body in
    let i = c.loop-process.process-index in
    let item = c.process-item.result in
    let body : block_of c.deref.result.now ≡ block_of item.body.value = ap block_of c.deref.ensures ∙ c.body.ensures.value in
    let here : serves (proc_of item) ≡ true = ap (λ (b : Block). waits_block c.args.what b) (sym body) ∙ sym c.block_waits.ensures ∙ c.if-block_waits.true in
    let is : get_or (map proc_of c.args.processes.now) i (proc_of item) ≡ proc_of item =
    get_or-map proc_of c.args.processes.now i item (proc_of item) c.loop-process-test.true ∙ ap proc_of (sym c.process-item.is) in
    sym (list_any_at serves (map proc_of c.args.processes.now) i (proc_of item) (subst (λ (n : ℕ). i < n) (sym (length-map c.args.processes.now proc_of)) c.loop-process-test.true) (ap serves is ∙ here))
