use Rattle.std.proofs.Common.{◌≡◌, ◌<◌, ◌∷◌, [], ◌++◌, ◌∙◌, ℕ, List, Some, append-nil, append_assoc, ap, arith, length, set, subst, sym}
use Rattle.std.proofs.lemmas.List.{nil_from_length}
use Rattle.thread.specs.Machines.{Thread}
use Rattle.runtime_worker.specs.declared.resident.Rest.{Rest}
use Rattle.runtime_run.specs.Machines.{AreLeft}
use Rattle.runtime_run.proofs.Resting.{left_home, left_more, left_put}
use Rattle.runtime_run.proofs.leaving.machines_of.Goals as goal

next_whole : (rests yielded rest left : List Rest) (part : Rest) → rests ≡ yielded ++ rest → rest ≡ part ∷ left → rests ≡ (yielded ++ part ∷ []) ++ left
next_whole rests yielded rest left part whole is = whole ∙ ap (λ (xs : List Rest). yielded ++ xs) is ∙ sym (append_assoc yielded (part ∷ []) left)

pub loop-rest-init : goal.loop-rest-init
loop-rest-init c = record {
  whole = sym c.into_iter-rest-iterator.ensures.into_iter_gives.0;
  left = left_home c.args.homes.items c.in_ok-machines.machines.items c.in_ok-machines.ensures;
}

pub loop-rest-preserved-then-thread-len : goal.loop-rest-preserved-then-thread-len
loop-rest-preserved-then-thread-len c =
    let i = c.loop-rest.invariant in
    let r : Rest = c.in-Some.rest in
    let lt : r.thread < length c.loop-rest.machines.items = omega (arith, c.if-thread-len.true, c.from-thread.ensures, c.len.ensures, c.loop-rest.machines.ok) in
    record {
      whole = next_whole c.args.rests.items c.loop-rest.yielded c.loop-rest.rest-iterator.rest.items c.next.new.self.rest.items r i.whole c.in-Some.ensures.steps.0;
      left = subst (λ (z : ℕ × Thread). AreLeft c.args.homes.items (c.loop-rest.yielded ++ r ∷ []) (set c.loop-rest.machines.items z.0 (Some z.1))) (λ k. (sym c.from-thread.ensures k, sym c.into_inner.ensures k))
          (left_put c.args.homes.items c.loop-rest.yielded r c.loop-rest.machines.items i.left lt);
    }

pub loop-rest-preserved-then-thread-len-2 : goal.loop-rest-preserved-then-thread-len-2
loop-rest-preserved-then-thread-len-2 c =
    let i = c.loop-rest.invariant in
    let r : Rest = c.in-Some.rest in
    let lt : r.thread < length c.loop-rest.machines.items = omega (arith, c.if-thread-len.true, c.from-thread.ensures, c.len.ensures, c.loop-rest.machines.ok) in
    record {
      whole = next_whole c.args.rests.items c.loop-rest.yielded c.loop-rest.rest-iterator.rest.items c.next.new.self.rest.items r i.whole c.in-Some.ensures.steps.0;
      left = subst (λ (z : ℕ × Thread). AreLeft c.args.homes.items (c.loop-rest.yielded ++ r ∷ []) (set c.loop-rest.machines.items z.0 (Some z.1))) (λ k. (sym c.from-thread.ensures k, sym c.into_inner.ensures k))
          (left_put c.args.homes.items c.loop-rest.yielded r c.loop-rest.machines.items i.left lt);
    }

pub loop-rest-preserved-then-thread-len-3 : goal.loop-rest-preserved-then-thread-len-3
loop-rest-preserved-then-thread-len-3 c =
    let i = c.loop-rest.invariant in
    let r : Rest = c.in-Some.rest in
    let lt : r.thread < length c.loop-rest.machines.items = omega (arith, c.if-thread-len.true, c.from-thread.ensures, c.len.ensures, c.loop-rest.machines.ok) in
    record {
      whole = next_whole c.args.rests.items c.loop-rest.yielded c.loop-rest.rest-iterator.rest.items c.next.new.self.rest.items r i.whole c.in-Some.ensures.steps.0;
      left = subst (λ (z : ℕ × Thread). AreLeft c.args.homes.items (c.loop-rest.yielded ++ r ∷ []) (set c.loop-rest.machines.items z.0 (Some z.1))) (λ k. (sym c.from-thread.ensures k, sym c.into_inner.ensures k))
          (left_put c.args.homes.items c.loop-rest.yielded r c.loop-rest.machines.items i.left lt);
    }

pub loop-rest-preserved : goal.loop-rest-preserved
loop-rest-preserved c =
    let i = c.loop-rest.invariant in
    record {
      whole = next_whole c.args.rests.items c.loop-rest.yielded c.loop-rest.rest-iterator.rest.items c.next.new.self.rest.items c.in-Some.rest i.whole c.in-Some.ensures.steps.0;
      left = left_more c.args.homes.items c.loop-rest.yielded c.in-Some.rest c.loop-rest.machines.items i.left;
    }

-- nothing is left to be put
pub returns : goal.returns
returns c =
    let i = c.loop-rest.invariant in
    let left = c.loop-rest.rest-iterator.rest in
    let yielded : List Rest = c.loop-rest.yielded in
    let nothing : left.items ≡ [] = nil_from_length left.items (omega (arith, c.in-None.ensures.steps.0, left.ok.0)) in
    subst (λ (rests : List Rest). AreLeft c.args.homes.items rests c.loop-rest.machines.items)
    (sym (i.whole ∙ ap (λ (xs : List Rest). yielded ++ xs) nothing ∙ append-nil yielded))
    i.left
