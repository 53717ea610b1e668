use Rattle.std.proofs.Common.{rules, ◌≡◌, ℕ, ◌+◌, List, Some, get_or, slice_get, subst, sym, ap, ◌∙◌, arith}
use Rattle.thread.specs.After.{Chosen}
use Rattle.thread.specs.Machines.{nacks_in, offers_in}
use Rattle.cell.specs.Attempts.{BoundBefore}
use Rattle.cell_table.specs.declared.view.Seen.{Seen}
use Rattle.cell_table.specs.Sight.{see_bound}
use Rattle.protocol_ledger.specs.Worlds.{nack_of_row}
use Rattle.runtime_worker.specs.Machines.{LeavesOthers, doings}
use Rattle.runtime_worker.proofs.Machines.{at_scope, binds, bound_more, is_housing, leaves_bound, leaves_then, nacks_rise, open_is}
use Rattle.thread.proofs.Rising.{rises_below}
use Rattle.runtime_worker.proofs.binding.bind_all.Goals as goal

pub bind-requires-clause-range : goal.bind-requires-clause-range
bind-requires-clause-range c =
    let phase = c.args.suspended.now.machine.value.phase in
    let items = c.nacks-k-items.result.now in
    let are : items ≡ nacks_in phase = (search rules) in
    let i = c.loop-k.k-index in
    let e : slice_get (nacks_in phase) i ≡ Some (get_or items i 0) = at_scope (nacks_in phase) items i are c.loop-k-test.true in
    let rise = nacks_rise c.args.cells.now c.requires.here.2 c.args.row.thread c.requires.stands.earlier c.args.suspended.now (offers_in phase) (nacks_in phase) (c.requires.stands.machine, open_is phase c.requires.open) in
    let same = c.loop-k.invariant.scope in
    let few = c.nacks-k-items.ensures.few in
    let below = c.loop-k-test.true in
    ((rises_below 0 64 (nacks_in phase) i (get_or items i 0) rise e).1, omega (arith, same, few, below))

-- the nack was not bound before, so it is bound now
pub loop-k-preserved : goal.loop-k-preserved
loop-k-preserved c =
    let phase = c.args.suspended.now.machine.value.phase in
    let items = c.nacks-k-items.result.now in
    let are : items ≡ nacks_in phase = (search rules) in
    let i = c.loop-k.k-index in
    let k : ℕ = get_or items i 0 in
    let row = c.args.row in
    let before = c.loop-k.invariant in
    let e : slice_get (nacks_in phase) c.loop-k.scope ≡ Some k =
    ap (slice_get (nacks_in phase)) before.scope ∙ at_scope (nacks_in phase) items i are c.loop-k-test.true in
    let now : c.bind.new.pass.seen ≡ see_bound (nack_of_row row k) (record { sync = row.sync; scope = c.loop-k.scope }) c.loop-k.pass.seen =
    binds c.args.cells.now c.args.pass.now row c.args.suspended.now c.loop-k.scope k c.loop-k.pass.seen c.bind.new.pass.seen c.bind.result c.requires.here.2 c.requires.stands (open_is phase c.requires.open) e c.requires.free before.bound
    c.bind.ensures.here.4.one_bound c.bind.ensures.here.8 c.bind.ensures.bound
    (λ no. subst (λ (told : List (ℕ × List Chosen)). BoundBefore doings c.args.cells.now.first told c.bind.new.pass.seen k row) before.only.results (c.bind.ensures.earlier no (is_housing c.args.cells.now c.requires.here.2))) in
    record {
      here = c.bind.ensures.here;
      only = record {
        held = ap (λ (s : Seen). s.held) now ∙ before.only.held;
        opened = ap (λ (s : Seen). s.opened) now ∙ before.only.opened;
        begun = ap (λ (s : Seen). s.begun) now ∙ before.only.begun;
        ended = ap (λ (s : Seen). s.ended) now ∙ before.only.ended;
        results = c.bind.ensures.results.0 ∙ before.only.results;
        out = c.bind.ensures.results.1 ∙ before.only.out;
      };
      others = leaves_then row.thread c.args.pass.now.seen c.loop-k.pass.seen c.bind.new.pass.seen before.others (subst (LeavesOthers row.thread c.loop-k.pass.seen) (sym now) (leaves_bound row k (record { sync = row.sync; scope = c.loop-k.scope }) c.loop-k.pass.seen));
      scope = ap (λ (n : ℕ). n + 1) before.scope;
      bound = bound_more row (nacks_in phase) c.loop-k.scope k c.args.pass.now.seen c.loop-k.pass.seen c.bind.new.pass.seen before.bound e now;
    }
