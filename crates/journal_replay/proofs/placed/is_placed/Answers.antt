use Rattle.std.proofs.Common.{◌≡◌, ◌∙◌, Some, ap, arith, length, map, refl, slice_get, sym, ⊎_elim}
use Rattle.std.specs.Option.{option_map}
use Rattle.std.proofs.lemmas.Bool.{cases_lt, false≢true}
use Rattle.std.proofs.lemmas.List.{length-map}
use Rattle.std.proofs.lemmas.Option.{same_Some, slice_get-map, slice_get_read, slice_get_within}
use Rattle.script_tree.specs.Processes.{Proc, proc_of}
use Rattle.script_tree.specs.Spawning.{spawns_block}
use Rattle.journal_replay.proofs.Placing.{not_placed, placed_each}
use Rattle.journal_replay.proofs.placed.is_placed.Goals as goal

pub loop-number-init : goal.loop-number-init
loop-number-init c = λ s p t below. absurd (omega (arith, below))

pub loop-number-preserved : goal.loop-number-preserved
loop-number-preserved c = λ s p t below is spawns. ⊎_elim (λ before. c.loop-number.invariant s p t before is spawns)
    (λ over.
    let ps = c.args.processes.now in
    let n = c.loop-number.number in
    let process = c.index-processes-number.result in
    let there : slice_get (map proc_of ps) n ≡ Some (proc_of process) = slice_get-map proc_of ps n ∙ ap (option_map proc_of) (slice_get_read ps (length ps) n process refl c.loop-number-test.true c.index-processes-number.is) in
    let last : s ≡ n = omega (arith, over, below) in
    let same : p ≡ proc_of process = same_Some p (proc_of process) (sym is ∙ ap (slice_get (map proc_of ps)) last ∙ there) in
    ⊎_elim (λ low. let at = last in omega (arith, low, at))
    (λ behind. absurd (false≢true (sym c.if-spawns_from.false ∙ c.spawns_from.ensures.1 (t, behind, ap (λ (q : Proc). spawns_block t q.body) (sym same) ∙ spawns))))
    (cases_lt t n))
    (cases_lt s c.loop-number.number)

pub returns-then-spawns_from : goal.returns-then-spawns_from
returns-then-spawns_from c =
    let ps = c.args.processes.now in
    let n = c.loop-number.number in
    let process = c.index-processes-number.result in
    let there : slice_get (map proc_of ps) n ≡ Some (proc_of process) = slice_get-map proc_of ps n ∙ ap (option_map proc_of) (slice_get_read ps (length ps) n process refl c.loop-number-test.true c.index-processes-number.is) in
    let some = c.spawns_from.ensures.0 c.if-spawns_from.true in
    (λ yes. absurd (false≢true yes), λ placed. absurd (not_placed (map proc_of ps) n some.0 (proc_of process) there some.2 some.1 placed))

pub returns : goal.returns
returns c =
    let ps = c.args.processes.now in
    let all = c.loop-number-test.false in
    let count = length-map ps proc_of in
    (λ yes. placed_each (map proc_of ps) c.loop-number.number (λ s p is. let low = slice_get_within (map proc_of ps) s p is in omega (arith, low, count, all)) c.loop-number.invariant, λ placed. refl)
