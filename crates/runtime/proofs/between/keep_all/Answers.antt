use Rattle.std.proofs.Common.{length, slice_get, sym, ap, ◌∙◌, subst, arith, ⊎_elim}
use Rattle.std.proofs.lemmas.List.{length_push}
use Rattle.std.proofs.lemmas.Option.{slice_get_within}
use Rattle.runtime.specs.Between.{AreKept}
use Rattle.runtime.proofs.GoingOn.{at_next, whole_next}
use Rattle.runtime.proofs.Keeping.{kept_none, kept_put}
use Rattle.runtime.proofs.between.keep_all.Goals as goal

pub loop-machine-init : goal.loop-machine-init
loop-machine-init c = record { whole = sym c.into_iter-machine-iterator.ensures.into_iter_gives.0; kept = kept_none c.args.kept.now.items c.args.machines.items; thread = λ i. 0 }

pub loop-machine-preserved : goal.loop-machine-preserved
loop-machine-preserved c =
    let i = c.loop-machine.invariant in
    let old = c.args.kept.now.items in
    let machines = c.args.machines.items in
    let yielded = c.loop-machine.yielded in
    let whole = whole_next machines yielded c.loop-machine.machine-iterator.rest.items c.next.new.self.rest.items c.in-Some.machine i.whole c.in-Some.ensures.steps.0 in
    let there = at_next machines yielded c.next.new.self.rest.items c.in-Some.machine whole in
    record {
      whole = whole;
      kept = ⊎_elim
          (λ same. subst (AreKept old machines) (sym same) i.kept)
          (λ put. subst (AreKept old machines) (sym put.1) (kept_put old machines c.loop-machine.kept.items c.loop-machine.thread c.in-Some.machine i.kept (ap (slice_get machines) i.thread ∙ there) put.0))
          c.keep.ensures;
      thread = (let low = slice_get_within machines (length yielded) c.in-Some.machine there in
          omega (arith, c.saturating_add-thread.ensures, i.thread, length_push yielded c.in-Some.machine, low, c.args.machines.ok));
    }
