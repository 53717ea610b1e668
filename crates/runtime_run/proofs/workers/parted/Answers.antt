use Rattle.std.proofs.Common.{◌≡◌, ◌∷◌, [], ◌++◌, ◌∙◌, List, append-nil, append_assoc, ap, arith, subst, sym}
use Rattle.cell.specs.Calls.{PassOf}
use Rattle.runtime_worker.specs.declared.resident.Rest.{Rest}
use Rattle.runtime_worker.specs.declared.resident.Suspended.{Suspended}
use Rattle.runtime_worker.specs.declared.worker.Leavings.{Leavings}
use Rattle.runtime_run.specs.Workers.{AreParted}
use Rattle.runtime_run.proofs.Resting.{nothing_left, parted_more, parted_none}
use Rattle.runtime_run.proofs.workers.parted.Goals as goal

pub loop-pass-init : goal.loop-pass-init
loop-pass-init c = record {
  whole = sym c.into_iter-pass-iterator.ensures.into_iter_gives.0;
  parted = subst (λ (z : List (PassOf Suspended) × List Rest). AreParted [] z.0 z.1) (λ i. (sym c.in_ok-passes.ensures.items i, sym c.new-rests.ensures.items i)) parted_none;
}

pub loop-pass-preserved : goal.loop-pass-preserved
loop-pass-preserved c =
    let i = c.loop-pass.invariant in
    let l : Leavings = c.in-Some.field-0 in
    record {
      whole = i.whole ∙ ap (λ (xs : List Leavings). c.loop-pass.yielded ++ xs) c.in-Some.ensures.steps.0 ∙ sym (append_assoc c.loop-pass.yielded (l ∷ []) c.next.new.self.rest.items);
      parted = subst (λ (z : List (PassOf Suspended) × List Rest). AreParted (c.loop-pass.yielded ++ l ∷ []) z.0 z.1) (λ k. (sym c.in_ok-push.ensures.items k, sym c.in_ok-append.ensures.items k))
          (parted_more c.loop-pass.yielded c.loop-pass.passes.items c.loop-pass.rests.items l i.parted);
    }

pub returns : goal.returns
returns c =
    let i = c.loop-pass.invariant in
    let rest = c.loop-pass.pass-iterator.rest.items in
    let none : rest ≡ [] = nothing_left rest (omega (arith, c.in-None.ensures.steps.0, c.loop-pass.pass-iterator.rest.ok)) in
    let whole : c.args.left.items ≡ c.loop-pass.yielded = i.whole ∙ ap (λ (xs : List Leavings). c.loop-pass.yielded ++ xs) none ∙ append-nil c.loop-pass.yielded in
    subst (λ (ls : List Leavings). AreParted ls c.loop-pass.passes.items c.loop-pass.rests.items) (sym whole) i.parted
