use Rattle.std.proofs.Common.{arith, sym, ◌∙◌, refl}
use Rattle.std.proofs.lemmas.List.{length-set}
use Rattle.std.specs.Vec.Iter.{into_iter_items}
use Rattle.pcml_cells.proofs.Filling.{filled_next, past_drop}
use Rattle.pcml_cells.proofs.tables.keep_all.Goals as goal

pub loop-n-init : goal.loop-n-init
loop-n-init c = (c.into_iter-rest.ensures.rest, omega (arith, c.into_iter-rest.ensures.len, c.args.boxes.ok), refl, λ k place low e. absurd (omega (arith, low)))

pub unreachable-requires : goal.unreachable-requires
unreachable-requires c = omega (arith, c.in_default.ensures.cases.0, c.loop-n.invariant.1, c.requires.count, c.loop-n-test.true)

pub loop-n-preserved : goal.loop-n-preserved
loop-n-preserved c =
    let boxes = c.args.boxes.items in
    let passes = c.loop-n.passes in
    let n = c.loop-n.n in
    let left = into_iter_items c.next.new.self in
    let steps = c.in-Some.ensures.cases in
    let rest = sym c.loop-n.invariant.0 ∙ steps.0 in (
      past_drop boxes n c.in-Some.kept left rest,
      omega (arith, steps.1, c.loop-n.invariant.1),
      length-set passes n c.keep.new.self ∙ c.loop-n.invariant.2,
      filled_next (λ b. b.value) boxes passes n c.in-Some.kept left c.keep.new.self (omega (arith, c.loop-n.invariant.2, c.loop-n-test.true)) rest c.keep.ensures c.loop-n.invariant.3,
    )
