use Rattle.std.proofs.Common.{rules, ◌≡◌, ◌+◌, ℕ, List, [], ◌∷◌, ◌++◌, map, length, slice_get, Some, ap, ◌∙◌, sym, subst}
use Rattle.std.specs.Option.{option_map}
use Rattle.std.proofs.lemmas.List.{length-map}
use Rattle.std.proofs.lemmas.Option.{slice_get-get_or, slice_get-map}
use Rattle.script_tree.specs.Processes.{Proc, proc_of, tree_of}
use Rattle.script_tree.specs.declared.tree.Block.{Block as Tree}
use Rattle.thread.specs.Machines.{StartsAs, Thread}
use Rattle.runtime_worker.specs.declared.resident.Suspended.{Suspended}
use Rattle.runtime_worker.proofs.Machines.{first_all, first_more}
use Rattle.runtime_run.proofs.Trees.{RunFirst, first_one_more, first_run}
use Rattle.runtime_run.proofs.running.first_machines.Goals as goal

pub loop-thread-preserved : goal.loop-thread-preserved
loop-thread-preserved c =
    let m : Suspended = record { machine = c.in_ok-new.field-0 } in
    let pushed : c.push.new.self.items ≡ c.loop-thread.first.items ++ m ∷ [] = c.in_ok-push.ensures.items in
    let value : c.in_ok-new.field-0.value ≡ c.in_ok-machine.machine = (search rules) in
    let starts : StartsAs (proc_of c.index-processes-thread.result) c.loop-thread.thread m.machine.value = subst (λ (x : Thread). StartsAs (proc_of c.index-processes-thread.result) c.loop-thread.thread x) (sym value) c.in_ok-machine.ensures.starts in
    let got : slice_get c.args.processes.now c.loop-thread.thread ≡ Some c.index-processes-thread.result = (search (rules, slice_get-get_or)) in
    let there : slice_get (map proc_of c.args.processes.now) c.loop-thread.thread ≡ Some (proc_of c.index-processes-thread.result) = slice_get-map proc_of c.args.processes.now c.loop-thread.thread ∙ ap (option_map proc_of) got in
    let i = c.loop-thread.invariant in
    let more =
    subst (λ (l : List Suspended). (length l ≡ c.loop-thread.thread + 1) × ((i : ℕ) (n : Suspended) → slice_get l i ≡ Some n → (q : Proc) × (slice_get (map proc_of c.args.processes.now) i ≡ Some q) × StartsAs q i n.machine.value)) (sym pushed)
    (first_more (map proc_of c.args.processes.now) c.loop-thread.first.items c.loop-thread.thread (proc_of c.index-processes-thread.result) m (i.0, i.1) there starts) in
    let tree : slice_get (map tree_of c.args.processes.now) (length c.loop-thread.first.items) ≡ Some m.machine.value.body =
    ap (slice_get (map tree_of c.args.processes.now)) i.0 ∙ slice_get-map tree_of c.args.processes.now c.loop-thread.thread ∙ ap (option_map tree_of) got
    ∙ ap (λ (b : Tree). Some b) (sym c.in_ok-machine.ensures.tree) ∙ ap (λ (x : Thread). Some x.body) (sym value) in
    (more.0, more.1, subst (RunFirst (map tree_of c.args.processes.now)) (sym pushed) (first_one_more (map tree_of c.args.processes.now) c.loop-thread.first.items m i.2 tree))

-- what lies in the slots at first
pub returns-clause-trees : goal.returns-clause-trees
returns-clause-trees c = first_run (map tree_of c.args.processes.now) c.loop-thread.first.items c.loop-thread.invariant.2

pub returns-clause-new : goal.returns-clause-new
returns-clause-new c = first_all (map proc_of c.args.processes.now) c.loop-thread.first.items (c.loop-thread.invariant.0 ∙ (search rules) ∙ sym (length-map c.args.processes.now proc_of), c.loop-thread.invariant.1)
