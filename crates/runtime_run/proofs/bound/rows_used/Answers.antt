use Rattle.std.proofs.Common.{◌≡◌, ◌≤◌, ◌∙◌, Some, ap, arith, length, map, refl, slice_get, subst, sym, ⊎_elim}
use Rattle.std.specs.Option.{option_map}
use Rattle.std.proofs.lemmas.Bool.{cases_eq}
use Rattle.std.proofs.lemmas.Grind.{common_steps}
use Rattle.std.proofs.lemmas.List.{length-map}
use Rattle.std.proofs.lemmas.Option.{same_Some, slice_get-map, slice_get_read, slice_get_within}
use Rattle.script_tree.specs.Processes.{Proc, proc_of}
use Rattle.script_tree.specs.Trees.{block_of}
use Rattle.runtime_run.specs.Syncs.{BlockSyncsAtMost}
use Rattle.runtime_run.proofs.Syncs.{block_wider}
use Rattle.runtime_run.proofs.bound.rows_used.Goals as goal

pub loop-process-preserved : goal.loop-process-preserved
loop-process-preserved c s p low below is =
    let ps = c.args.processes.now in
    let n = c.loop-process.process-index in
    let process = proc_of c.process-item.result in
    let most = c.max-most.result in
    let body : block_of c.deref.result.now ≡ process.body = ap block_of c.deref.ensures ∙ c.body.ensures.value in
    let there : slice_get (map proc_of ps) n ≡ Some process =
    slice_get-map proc_of ps n ∙ ap (option_map proc_of) (slice_get_read ps (length ps) n c.process-item.result refl c.loop-process-test.true c.process-item.is) in
    let left : c.loop-process.most ≤ most = grind (arith, common_steps, c.max-most.ensures) in
    let right : c.block_syncs.result ≤ most = grind (arith, common_steps, c.max-most.ensures) in
    ⊎_elim
    (λ (same : s ≡ n).
    let one : process ≡ p = same_Some process p (sym there ∙ ap (slice_get (map proc_of ps)) (sym same) ∙ is) in
    let here : BlockSyncsAtMost c.block_syncs.result process.body = subst (BlockSyncsAtMost c.block_syncs.result) body (c.block_syncs.ensures (omega (arith, low, right))) in
    subst (λ (q : Proc). BlockSyncsAtMost most q.body) one (block_wider c.block_syncs.result most process.body right here))
    (λ ne. block_wider c.loop-process.most most p.body left (c.loop-process.invariant s p (omega (arith, low, left)) (omega (arith, below, ne)) is))
    (cases_eq s n)

pub returns-clause-enough : goal.returns-clause-enough
returns-clause-enough c less t process is =
    let within = slice_get_within (map proc_of c.args.processes.now) t process is in
    let size = length-map c.args.processes.now proc_of in
    let most : c.loop-process.most ≤ c.clamp.result = grind (arith, common_steps, c.clamp.ensures, c.from.ensures) in
    block_wider c.loop-process.most c.clamp.result process.body most
    (c.loop-process.invariant t process (omega (arith, most, less, c.ranges.stated.fits)) (omega (arith, within, size, c.loop-process-test.false)) is)
