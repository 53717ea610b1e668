use Rattle.std.proofs.Common.{◌≡◌, ◌≤◌, ℕ, map, length, slice_get, Some, refl, sym, ap, subst, ◌∙◌, arith, ⊎_elim}
use Rattle.std.specs.Option.{option_map}
use Rattle.std.proofs.lemmas.Bool.{cases_eq}
use Rattle.std.proofs.lemmas.Grind.{common_steps}
use Rattle.std.proofs.lemmas.List.{length-map}
use Rattle.std.proofs.lemmas.Option.{same_Some, slice_get-map, slice_get_read, slice_get-get_or}
use Rattle.script_tree.specs.Processes.{Proc, known_in, proc_of}
use Rattle.script_tree.specs.Trees.{block_of}
use Rattle.runtime_worker.specs.Widths.{OffersAtMost}
use Rattle.runtime_worker.proofs.Widths.{limits_keep, width_of}
use Rattle.runtime_run.proofs.bound.offers_used.Goals as goal

-- by the limits that the process keeps
pub block_offers-requires : goal.block_offers-requires
block_offers-requires c =
    let body : block_of c.deref.result.now ≡ (proc_of c.process-item.result).body = ap block_of c.deref.ensures ∙ c.body.ensures.value in
    subst (OffersAtMost 8) (sym body) (limits_keep (known_in (proc_of c.process-item.result)) _ c.body.ensures.limits.names)

pub loop-process-init : goal.loop-process-init
loop-process-init c = record {
  range = search (arith);
  most = λ k some. (λ all. some, λ le s p below is. absurd (omega (arith, below)));
}

pub loop-process-preserved : goal.loop-process-preserved
loop-process-preserved c =
    let ps = c.args.processes.now in
    let n = c.loop-process.process-index in
    let process = proc_of c.process-item.result in
    let before = c.loop-process.invariant in
    let body : block_of c.deref.result.now ≡ process.body = ap block_of c.deref.ensures ∙ c.body.ensures.value in
    let there : slice_get (map proc_of ps) n ≡ Some process =
    slice_get-map proc_of ps n ∙ ap (option_map proc_of) (slice_get_read ps (length ps) n c.process-item.result refl c.loop-process-test.true c.process-item.is) in
    let here : (k : ℕ) → OffersAtMost k process.body → c.block_offers.result ≤ k = λ k h. (c.block_offers.ensures k).0 (subst (OffersAtMost k) (sym body) h) in
    let back : (k : ℕ) → c.block_offers.result ≤ k → OffersAtMost k process.body = λ k h. subst (OffersAtMost k) body ((c.block_offers.ensures k).1 h) in
    let left : c.loop-process.most ≤ c.max-most.result = grind (arith, common_steps, c.max-most.ensures) in
    let right : c.block_offers.result ≤ c.max-most.result = grind (arith, common_steps, c.max-most.ensures) in
    let both : (k : ℕ) → c.loop-process.most ≤ k → c.block_offers.result ≤ k → c.max-most.result ≤ k = λ k a b. grind (arith, common_steps, c.max-most.ensures, a, b) in
    record {
      range = (omega (arith, before.range.0, left), both 8 before.range.1 (here 8 (limits_keep (known_in process) process.body c.body.ensures.limits.names)));
      most = λ k some. (
        λ all. both k ((before.most k some).0 (λ s p below is. all s p (omega (arith, below)) is)) (here k (all n process (omega arith) there)),
        λ le s p below is. ⊎_elim
            (λ (same : s ≡ n).
            let one : process ≡ p = same_Some process p (sym there ∙ ap (slice_get (map proc_of ps)) (sym same) ∙ is) in
            subst (λ (q : Proc). OffersAtMost k q.body) one (back k (omega (arith, right, le))))
            (λ ne. (before.most k some).1 (omega (arith, left, le)) s p (omega (arith, below, ne)) is)
            (cases_eq s n),
      );
    }

pub returns : goal.returns
returns c =
    let ps = map proc_of c.args.processes.now in
    let done = c.loop-process.invariant in
    let within : length ps ≤ c.loop-process.process-index = omega (arith, length-map c.args.processes.now proc_of, c.loop-process-test.false) in
    record {
      range = done.range;
      enough = λ s d below. (done.most c.loop-process.most done.range.0).1 (omega arith) s _ (omega (arith, below, within)) (slice_get-get_or ps s d below);
      least = λ k some all. (done.most k some).0 (λ s p below is. width_of k ps s p all is);
    }
