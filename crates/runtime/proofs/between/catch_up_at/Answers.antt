use Rattle.std.proofs.Common.{◌<◌, ℕ, Option, Some, length, sym, ap, subst, ◌∙◌, arith}
use Rattle.std.specs.List.{slice_get, slice_set}
use Rattle.std.proofs.lemmas.Option.{slice_get-get_or}
use Rattle.std.proofs.lemmas.Result.{IfOk-weaker}
use Rattle.thread.specs.Machines.{Thread}
use Rattle.runtime.specs.Between.{CatchesUp}
use Rattle.runtime.proofs.between.catch_up_at.Goals as goal

pub returns-in-Some : goal.returns-in-Some
returns-in-Some c =
    let machines = c.args.machines.now.items in
    let below : c.from-place.result < length machines = omega (arith, c.if-place-len.false, c.len.ensures, c.args.machines.now.ok.0) in
    IfOk-weaker c.catch_up.result _ _ (λ done caught. λ yes. record {
      before = c.in-Some.machine;
      behind = c.catch_up.new.machine;
      was = ap (λ (n : ℕ). slice_get machines n) (sym c.from-place.ensures) ∙ slice_get-get_or machines c.from-place.result _ below ∙ ap (λ (x : Option Thread). Some x) (sym c.index_mut.ensures.value ∙ c.in-Some.is);
      catches = subst (λ (n : ℕ). CatchesUp n c.args.given.at.0.sync (c.args.given.at.1, c.args.given.message) c.in-Some.machine c.catch_up.new.machine) c.had_by.ensures (caught yes);
      is = ap (λ (n : ℕ). slice_set machines n (Some c.catch_up.new.machine)) c.from-place.ensures;
    }) c.catch_up.ensures
