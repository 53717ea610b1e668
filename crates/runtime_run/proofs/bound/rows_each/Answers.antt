use Rattle.std.proofs.Common.{◌≡◌, ◌∙◌, ◌+◌, ◌<◌, ◌≤◌, Some, ap, arith, get_or, length, length-set, map, refl, slice_get, subst, sym}
use Rattle.std.specs.Option.{option_map}
use Rattle.std.proofs.lemmas.List.{get_or-replicate, length-map}
use Rattle.std.proofs.lemmas.Option.{slice_get-map, slice_get_read, slice_get_within}
use Rattle.script_tree.specs.Processes.{proc_of}
use Rattle.runtime_run.specs.Syncs.{BlockSyncsAtMost}
use Rattle.runtime_run.proofs.Rows.{enough_next, few_at_first, few_next, some_next}
use Rattle.runtime_run.proofs.bound.rows_each.Goals as goal

pub loop-thread-init : goal.loop-thread-init
loop-thread-init c = record {
  size = refl;
  some = λ t low. subst (λ n. 1 ≤ n) (sym (get_or-replicate 64 t c.args.stated 0 low)) c.requires.stated;
  few = few_at_first c.args.stated;
  enough = λ s p below is less. absurd (omega (arith, below));
}

-- the place is one of the list
pub bounds-rows-thread : goal.bounds-rows-thread
bounds-rows-thread c = let below = c.loop-thread-test.true in omega (arith, below, c.requires.few)

pub loop-thread-preserved : goal.loop-thread-preserved
loop-thread-preserved c =
    let inv = c.loop-thread.invariant in
    let ps = map proc_of c.args.processes.now in
    let n = c.loop-thread.thread in
    let process = proc_of c.index-processes-thread.result in
    let v = c.rows_for.result in
    let low : n < 64 = let below = c.loop-thread-test.true in omega (arith, below, c.requires.few) in
    let there : slice_get ps n ≡ Some process =
    slice_get-map proc_of c.args.processes.now n ∙ ap (option_map proc_of) (slice_get_read c.args.processes.now (length c.args.processes.now) n c.index-processes-thread.result refl c.loop-thread-test.true c.index-processes-thread.is) in
    let new : v < c.args.stated → BlockSyncsAtMost (get_or c.args.had.now n 0 + v) process.body =
    λ less. subst (λ m. BlockSyncsAtMost (m + v) process.body) c.made_before.ensures (c.rows_for.ensures.enough less) in
    record {
      size = length-set c.loop-thread.rows n v ∙ inv.size;
      some = some_next c.loop-thread.rows n v inv.size low c.rows_for.ensures.range.0 inv.some;
      few = few_next c.args.stated c.loop-thread.rows n v inv.size low c.rows_for.ensures.range.1 inv.few;
      enough = enough_next ps c.args.had.now c.args.stated c.loop-thread.rows n v process inv.size low there new inv.enough;
    }

pub returns : goal.returns
returns c = record {
  some = c.loop-thread.invariant.some;
  few = c.loop-thread.invariant.few;
  enough = λ t process is less.
      let within = slice_get_within (map proc_of c.args.processes.now) t process is in
      let size = length-map c.args.processes.now proc_of in
      c.loop-thread.invariant.enough t process (omega (arith, within, size, c.loop-thread-test.false)) is less;
}
