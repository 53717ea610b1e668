use Rattle.std.proofs.Common.{arith}
use Rattle.std.proofs.lemmas.Option.{slice_get_within}
use Rattle.engine.specs.declared.held.Offered.{Offered}
use Rattle.engine.specs.declared.places.Slot.{Slot}
use Rattle.engine.proofs.Kept.{free-slot}
use Rattle.engine.proofs.Results.{on-err}
use Rattle.engine.proofs.Sounding.{fill-same, grows-same, sits-begun}
use Rattle.engine.proofs.table.sit.Goals as goal

pub returns-in_err-index-clause-err : goal.returns-in_err-index-clause-err
returns-in_err-index-clause-err c = on-err _ _ (grows-same _ _ c.in_err-index.ensures.grows)

pub index_mut-requires : goal.index_mut-requires
index_mut-requires c = let free = c.in_ok-index.ensures.ok in let lt = slice_get_within c.free_place.new.self.slots.items c.in_ok-index.index free.slot free.at in omega arith

pub returns-in_err-fill-clause-err : goal.returns-in_err-fill-clause-err
returns-in_err-fill-clause-err c =
    let mid = c.free_place.new.self.slots.items in
    let r = c.index_mut.result.now in
    let free = free-slot mid c.in_ok-index.index r c.in_ok-index.ensures.ok c.index_mut.ensures.value in
    let now : Slot Offered = record { used = r.used; generation = r.generation; value = c.fill.new.self; next_free = r.next_free } in
    on-err _ _ (fill-same c.args.syncs.now.slots.items mid c.in_ok-index.index r now c.in_ok-index.ensures.grows free.0 free.1 free.1)

pub returns-clause-ok : goal.returns-clause-ok
returns-clause-ok c =
    let mid = c.free_place.new.self.slots.items in
    let r = c.index_mut.result.now in
    let free = free-slot mid c.in_ok-index.index r c.in_ok-index.ensures.ok c.index_mut.ensures.value in
    let now : Slot Offered = record { used = r.used; generation = r.generation; value = c.fill.new.self; next_free = r.next_free } in
    sits-begun c.args.syncs.now.slots.items mid c.begin.new.self.slots.items c.in_ok-index.index c.args.generation r now c.args.offers.now c.in_ok-index.ensures.grows free.0 free.1 free.1 c.in_ok-fill.ensures c.begin.ensures
