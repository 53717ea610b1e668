use Rattle.std.proofs.Common.{◌≡◌, ◌<◌, ◌∷◌, ◌∙◌, [], ℕ, List, Option, Some, ap, arith, get_or, length, map, refl, IfSome, slice_get, subst, sym}
use Rattle.std.specs.Option.{option_map}
use Rattle.std.proofs.lemmas.List.{length-append}
use Rattle.std.proofs.lemmas.Option.{slice_get-get_or, slice_get-map, slice_get_read, slice_get_within}
use Rattle.script_tree.specs.Processes.{Proc, proc_of, tree_of}
use Rattle.journal.specs.Concluding.{RunTrees}
use Rattle.runtime_run.specs.Machines.{machine_in}
use Rattle.runtime.proofs.Keeping.{go_on_trees}
use Rattle.thread.specs.Machines.{Thread}
use Rattle.protocol_ledger.specs.declared.opening.Life.{Life}
use Rattle.protocol_ledger.specs.declared.opening.Life.TheVariants as life
use Rattle.runtime_worker.specs.declared.resident.Suspended.{Suspended}
use Rattle.runtime.specs.declared.between.NextThread.{NextThread}
use Rattle.runtime.specs.Between.{GoOnBelow, GoesOnFrom}
use Rattle.runtime.proofs.GoingOn.{at_next, go_on_more, whole_next}
use Rattle.runtime.proofs.between.go_on_all.Goals as goal

pub loop-machine-preserved : goal.loop-machine-preserved
loop-machine-preserved c =
    let i = c.loop-machine.invariant in
    let ps : List Proc = map proc_of c.args.processes.now in
    let lives : List (Life × ℕ) = c.args.lives.now in
    let n : ℕ = length c.loop-machine.yielded in
    let whole = whole_next c.args.machines.items c.loop-machine.yielded c.loop-machine.machine-iterator.rest.items c.next.new.self.rest.items c.in-Some.machine i.whole c.in-Some.ensures.steps.0 in
    let there = at_next c.args.machines.items c.loop-machine.yielded c.next.new.self.rest.items c.in-Some.machine whole in
    let within : n < length c.args.processes.now = (let low = slice_get_within c.args.machines.items n c.in-Some.machine there in let counts = c.requires.count.1 in omega (arith, low, counts)) in
    let thread : c.len-thread.result ≡ n = (let places = i.goes.machines_are in omega (arith, c.len-thread.ensures, places, c.loop-machine.first.ok)) in
    let process : slice_get c.args.processes.now n ≡ Some c.index-processes-thread.result =
    ap (slice_get c.args.processes.now) (sym thread) ∙ slice_get_read c.args.processes.now (length c.args.processes.now) c.len-thread.result c.index-processes-thread.result refl (omega (arith, thread, within)) c.index-processes-thread.is in
    let was : Life × ℕ = get_or lives c.len-thread.result (life.Unstarted, 0) in
    let lived : slice_get lives n ≡ Some was = ap (slice_get lives) (sym thread) ∙ slice_get-get_or lives c.len-thread.result (life.Unstarted, 0) (let counts = c.requires.count.0 in omega (arith, thread, within, counts)) in
    let goes = go_on_more ps lives c.args.machines.items n c.loop-machine.threads.items c.loop-machine.first.items c.loop-machine.ended.items (proc_of c.index-processes-thread.result) was c.in-Some.machine c.in-Some-2.next.life c.in-Some-2.next.first c.in-Some-2.next.ended
    i.goes
    (slice_get-map proc_of c.args.processes.now n ∙ ap (option_map proc_of) process)
    lived
    there
    (subst (λ (t : ℕ). GoesOnFrom (proc_of c.index-processes-thread.result) t was c.in-Some.machine c.in-Some-2.next.life c.in-Some-2.next.first c.in-Some-2.next.ended) thread (subst (λ (o : Option NextThread). IfSome o (λ n. GoesOnFrom (proc_of c.index-processes-thread.result) c.len-thread.result was c.in-Some.machine n.life n.first n.ended)) c.in-Some-2.is c.in_ok-next.ensures.goes)) in
    record {
      whole = whole;
      trees = λ run.
          let tree = subst (λ (o : Option NextThread). IfSome o (λ n. IfSome c.in-Some.machine (λ m. m.body ≡ tree_of c.index-processes-thread.result)
          → IfSome n.first (λ s. s.machine.value.body ≡ tree_of c.index-processes-thread.result) × IfSome n.ended (λ m. m.body ≡ tree_of c.index-processes-thread.result))) c.in-Some-2.is c.in_ok-next.ensures.tree in
          subst (λ (z : List (Option Suspended) × List (Option Thread)). RunTrees (map tree_of c.args.processes.now) (map machine_in z.0) × RunTrees (map tree_of c.args.processes.now) z.1)
          (λ j. (sym c.in_ok-push-2.ensures.items j, sym c.in_ok-push-3.ensures.items j))
          (go_on_trees (map tree_of c.args.processes.now) c.args.machines.items c.loop-machine.first.items c.loop-machine.ended.items n (tree_of c.index-processes-thread.result) c.in-Some.machine c.in-Some-2.next.first c.in-Some-2.next.ended
          i.goes.machines_are i.goes.ended_are (slice_get-map tree_of c.args.processes.now n ∙ ap (option_map tree_of) process) there run (i.trees run) tree);
      goes = subst (λ (z : ℕ × List (Life × ℕ) × List (Option Suspended) × List (Option Thread)). GoOnBelow ps lives c.args.machines.items z.0 z.1 z.2 z.3)
          (λ j. (sym (length-append c.loop-machine.yielded (c.in-Some.machine ∷ [])) j, sym c.in_ok-push.ensures.items j, sym c.in_ok-push-2.ensures.items j, sym c.in_ok-push-3.ensures.items j))
          goes;
    }
