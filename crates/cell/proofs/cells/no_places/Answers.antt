use Rattle.std.proofs.Common.{◌∙◌, ◌+◌, ◌∷◌, [], ℕ, List, None, Option, Some, ap, arith, length, slice_get, subst, sym}
use Rattle.std.proofs.lemmas.List.{length-append}
use Rattle.std.proofs.lemmas.Option.{none-some}
use Rattle.cell.specs.Calls.{HoldNothing}
use Rattle.cell.proofs.Handing.{nothing_more}
use Rattle.cell.proofs.cells.no_places.Goals as goal

pub loop-init : goal.loop-init
loop-init g c =
    let none = c.in_ok-places.ensures.items in
    (ap (λ (l : List (Option g.row.M.Denot)). length l) none, λ n value e. none-some (Some value) (sym (ap (λ (l : List (Option g.row.M.Denot)). slice_get l n) none) ∙ e))

pub loop-preserved : goal.loop-preserved
loop-preserved g c =
    let inv = c.loop.invariant in
    let items = c.in_ok-push.ensures.items in (
      ap (λ (l : List (Option g.row.M.Denot)). length l) items ∙ length-append c.loop.places.items (None ∷ []) ∙ ap (λ (n : ℕ). n + 1) inv.0,
      subst HoldNothing (sym items) (nothing_more c.loop.places.items inv.1),
    )

pub returns-clause-count : goal.returns-clause-count
returns-clause-count g c = let size = c.loop.invariant.0 in let end = c.loop-test.false in let within = c.loop.auto.counter-end in omega (arith, size, end, within)

pub returns-clause-nothing : goal.returns-clause-nothing
returns-clause-nothing g c = c.loop.invariant.1
