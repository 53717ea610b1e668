use Rattle.std.proofs.Common.{rules, ◌≡◌, Some, refl, sym, ◌∙◌, arith}
use Rattle.std.proofs.lemmas.Bool.{true≢false}
use Rattle.std.proofs.lemmas.Option.{slice_get_within}
use Rattle.runtime.specs.Between.{had_by}
use Rattle.runtime.proofs.Spent.{by_parts, not_here, some_spent}
use Rattle.runtime.proofs.between.are_spent.Goals as goal

pub returns-then-has_spent : goal.returns-then-has_spent
returns-then-has_spent c =
    let had_is : c.unwrap_or-before.result ≡ had_by c.args.had.now c.loop-thread.thread = (search rules) in (
      λ t. some_spent c.args.had.now c.args.rows c.args.machines.now c.loop-thread.thread c.index-machines-thread.result c.unwrap_or-before.result c.loop-thread-test.true c.index-machines-thread.is had_is (c.has_spent.ensures.0 c.if-has_spent.true),
      λ h. refl,
    )

pub loop-thread-preserved : goal.loop-thread-preserved
loop-thread-preserved c = λ k m lt got spent.
    let had_is : c.unwrap_or-before.result ≡ had_by c.args.had.now c.loop-thread.thread = (search rules) in
    let here = not_here c.args.had.now c.args.rows c.args.machines.now c.loop-thread.thread c.index-machines-thread.result c.unwrap_or-before.result c.loop-thread-test.true c.index-machines-thread.is had_is (λ h. true≢false (sym (c.has_spent.ensures.1 h) ∙ c.if-has_spent.false)) in
    by_parts c.loop-thread.thread k lt (λ less. c.loop-thread.invariant k m less got spent) (λ same. here k m same got spent)

pub returns : goal.returns
returns c = (λ t. absurd (true≢false (sym t)), λ h. absurd (c.loop-thread.invariant h.0 h.1 (omega (arith, c.loop-thread-test.false, slice_get_within c.args.machines.now h.0 (Some h.1) h.2)) h.2 h.3))
