use Rattle.std.proofs.Common.{◌≡◌, ◌+◌, ◌-◌, ◌<◌, ℕ, Option, MatchOption, length, swap_remove, Contains, sym, ap, ◌∙◌, subst, arith}
use Rattle.protocol_values.specs.declared.Cause.{Cause}
use Rattle.protocol_values.specs.declared.Commit.{Commit}
use Rattle.protocol_values.specs.declared.Row.{Row}
use Rattle.journal_replay.specs.Searching.{Places, IsAlone, IsBrought, NoCause}
use Rattle.journal_replay.specs.Standing.{Finds, base_for}
use Rattle.journal_replay.proofs.Covering.{same-cause}
use Rattle.journal_replay.proofs.Removing.{Behind, contains-swapped, behind-swapped, behind-more, behind-all, length-swap}
use Rattle.journal_replay.proofs.waiters.Waiters.by_cause.Goals as goal

pub loop-index-preserved-in-None : goal.loop-index-preserved-in-None
loop-index-preserved-in-None c =
    let s = c.args.threads.now in
    let None : Row × ℕ → Type 0 = λ x. (why : Cause) → IsBrought why → Finds s.strands.items s.rows x (base_for why) → NoCause s.strands.items x why in
    let items = c.loop-index.self-inside.places.items in
    let i : ℕ = c.loop-index.index - 1 in
    let at : Row × ℕ = c.index-at.result.now in
    let d : Row × ℕ = c.swap_remove.result in
    let within : i < length items = omega (arith, c.loop-index-test.true, c.loop-index.invariant.within) in
    let next : c.loop-index.index ≡ i + 1 = omega (arith, c.loop-index-test.true) in
    let is : c.swap_remove.new.self.items ≡ swap_remove items i d = c.swap_remove.ensures.items in
    record {
      within = omega (arith, within, length-swap items i d, ap (λ (xs : Places). length xs) is);
      kept = λ x why brought finds there.
          subst (λ (xs : Places). Contains xs x) (sym is)
          (contains-swapped items i d at x within (c.loop-index.invariant.kept x why brought finds there)
          (λ same. c.in-None.ensures why brought (subst (λ (y : Row × ℕ). Finds s.strands.items s.rows y (base_for why)) (sym (c.index-at.ensures ∙ same)) finds)));
      none = subst (λ (xs : Places). Behind None xs i) (sym is)
          (behind-swapped None items i d within (subst (Behind None items) next c.loop-index.invariant.none));
    }

pub loop-index-preserved : goal.loop-index-preserved
loop-index-preserved c =
    let s = c.args.threads.now in
    let None : Row × ℕ → Type 0 = λ x. (why : Cause) → IsBrought why → Finds s.strands.items s.rows x (base_for why) → NoCause s.strands.items x why in
    let items = c.loop-index.self-inside.places.items in
    let i : ℕ = c.loop-index.index - 1 in
    let at : Row × ℕ = c.index-at.result.now in
    let next : c.loop-index.index ≡ i + 1 = omega (arith, c.loop-index-test.true) in
    let none : NoCause s.strands.items at c.in-Some.cause =
    subst (λ (o : Option Commit). MatchOption o (NoCause s.strands.items at c.in-Some.cause) (IsAlone s.strands.items at c.in-Some.cause)) c.in_default.is c.alone.ensures in
    record {
      within = omega (arith, c.loop-index.invariant.within);
      kept = c.loop-index.invariant.kept;
      none = behind-more None items i at
          (subst None c.index-at.ensures
          (λ why brought finds. subst (NoCause s.strands.items at) (same-cause s.strands.items s.rows at c.in-Some.cause why c.in-Some.ensures.1 finds) none))
          (subst (Behind None items) next c.loop-index.invariant.none);
    }

pub returns-clause-found : goal.returns-clause-found
returns-clause-found c = λ at why brought finds there.
    let s = c.args.threads.now in
    let None : Row × ℕ → Type 0 = λ x. (why : Cause) → IsBrought why → Finds s.strands.items s.rows x (base_for why) → NoCause s.strands.items x why in
    let items = c.loop-index.self-inside.places.items in
    behind-all None items at (subst (Behind None items) (omega (arith, c.loop-index-test.false)) c.loop-index.invariant.none)
    (c.loop-index.invariant.kept at why brought finds there) why brought finds
