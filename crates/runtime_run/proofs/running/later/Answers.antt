use Rattle.std.proofs.Common.{◌≡◌, ◌||◌, Bool, true, false, Some, length, map, slice_get, refl, sym, ap, ◌∙◌, arith, ⊎_elim}
use Rattle.std.specs.Option.{option_map}
use Rattle.std.proofs.lemmas.Bool.{cases_eq}
use Rattle.std.proofs.lemmas.List.{length-map}
use Rattle.std.proofs.lemmas.Option.{same_Some, slice_get-map, slice_get_read, slice_get_within}
use Rattle.script_tree.specs.Processes.{Proc, proc_of}
use Rattle.script_tree.specs.Spawning.{has_bit, spawns_block}
use Rattle.script_tree.specs.Trees.{block_of}
use Rattle.script_tree.proofs.Masks.{has_or}
use Rattle.runtime_run.proofs.running.later.Goals as goal

neither : (a b : Bool) → (a || b) ≡ false → (a ≡ false) × (b ≡ false)
neither true b e = let bad : true ≡ false = e in absurd cc
neither false b e = (refl, e)

pub loop-process-init : goal.loop-process-init
loop-process-init c = λ t s p low none before is. absurd (omega (arith, before))

pub loop-process-preserved : goal.loop-process-preserved
loop-process-preserved c = λ t s p low none before is.
    let ps = c.args.processes.now in
    let n = c.loop-process.process-index in
    let process = c.process-item.result in
    let both = neither (has_bit c.loop-process.later t) (has_bit c.spawned-later.result t) (sym (has_or c.loop-process.later c.spawned-later.result t) ∙ none) in
    ⊎_elim
    (λ (same : s ≡ n).
    let there : slice_get (map proc_of ps) n ≡ Some (proc_of process) =
    slice_get-map proc_of ps n ∙ ap (option_map proc_of) (slice_get_read ps (length ps) n process refl c.loop-process-test.true c.process-item.is) in
    let one : proc_of process ≡ p = same_Some (proc_of process) p (sym there ∙ ap (slice_get (map proc_of ps)) (sym same) ∙ is) in
    let body : block_of c.deref.result.now ≡ p.body = ap block_of c.deref.ensures ∙ c.body.ensures.value ∙ ap (λ (q : Proc). q.body) one in
    ap (spawns_block t) (sym body) ∙ sym (c.spawned-later.ensures t low) ∙ both.1)
    (λ ne. c.loop-process.invariant t s p low both.0 (omega (arith, before, ne)) is)
    (cases_eq s n)

pub returns : goal.returns
returns c = λ t s p low none is.
    let ps = c.args.processes.now in
    c.loop-process.invariant t s p low none
    (omega (arith, slice_get_within (map proc_of ps) s p is, length-map ps proc_of, c.loop-process-test.false)) is
