use Rattle.std.proofs.Common.{◌≡◌, ◌*◌, ◌++◌, ◌∷◌, [], ◌∙◌, arith, map, replicate, rules, sym, ap}
use Rattle.std.specs.List.{range_with_len}
use Rattle.std.proofs.lemmas.List.FromFn.{map-range_with_len_more}
use Rattle.protocol_ledger.specs.declared.opening.NackState.TheVariants.{Unbound}
use Rattle.protocol_ledger.specs.Openings.{first_life}
use Rattle.protocol_ledger.proofs.opening.Opening.first.Goals as goal

pub loop-thread-init : goal.loop-thread-init
loop-thread-init c = c.in_ok-lives.ensures.items

pub loop-thread-preserved : goal.loop-thread-preserved
loop-thread-preserved c =
    c.in_ok-push.ensures.items
    ∙ (λ i. c.loop-thread.invariant i ++ c.first_life.ensures i ∷ [])
    ∙ sym (map-range_with_len_more (first_life c.args.later) 0 c.loop-thread.thread c.loop-thread.thread (omega arith))

pub returns : goal.returns
returns c =
    let states : c.in_ok-vec.field-0.items ≡ replicate (c.args.threads * 64) Unbound = c.in_ok-vec.ensures.items_if_clones_equal (λ y h. search rules) ∙ ap (λ n. replicate (n * 64) Unbound) c.from-2.ensures in
    let all : c.loop-thread.thread ≡ c.args.threads = omega (arith, c.loop-thread.auto.thread-end, c.loop-thread-test.false) in
    λ i. record { threads = (c.loop-thread.invariant ∙ ap (λ n. map (first_life c.args.later) (range_with_len 0 n)) all) i; nacks = states i }
