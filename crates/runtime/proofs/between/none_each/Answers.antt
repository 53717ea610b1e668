use Rattle.std.proofs.Common.{◌+◌, ℕ, List, Option, None, Some, length, slice_get, sym, ap, ◌∙◌, arith, ⊎_elim}
use Rattle.std.proofs.lemmas.List.{length_push}
use Rattle.std.proofs.lemmas.Option.{none-some}
use Rattle.thread.specs.Machines.{Thread}
use Rattle.journal_replay.proofs.Lists.{slice_get-more}
use Rattle.runtime.proofs.between.none_each.Goals as goal

pub loop-number-init : goal.loop-number-init
loop-number-init c = (ap (λ (xs : List (Option Thread)). length xs) c.in_ok-places.ensures.items, λ t m is. none-some (Some m) (sym (ap (λ (xs : List (Option Thread)). slice_get xs t) c.in_ok-places.ensures.items) ∙ is))

pub loop-number-preserved : goal.loop-number-preserved
loop-number-preserved c =
    let places = c.loop-number.places.items in
    let i = c.loop-number.invariant in
    let pushed = c.in_ok-push.ensures.items in (
      ap (λ (xs : List (Option Thread)). length xs) pushed ∙ length_push places None ∙ ap (λ (n : ℕ). n + 1) i.0,
      λ t m is. ⊎_elim
          (λ old. i.1 t m old.1)
          (λ new. none-some m new.1)
          (slice_get-more places None (Some m) t (sym (ap (λ (xs : List (Option Thread)). slice_get xs t) pushed) ∙ is)),
    )

pub returns : goal.returns
returns c = (c.loop-number.invariant.0 ∙ omega (arith, c.loop-number.auto.number-end, c.loop-number-test.false), c.loop-number.invariant.1)
