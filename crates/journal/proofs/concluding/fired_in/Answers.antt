use Rattle.std.proofs.Common.{◌+◌, ◌<◌, arith, ap, get_or, refl, sym, subst, ◌∙◌}
use Rattle.protocol_ledger.specs.declared.opening.NackState.TheVariants.{Unbound}
use Rattle.journal_ledger.specs.Ledgers.{fired_as}
use Rattle.journal.proofs.Telling.{FiredSo, fired-all, fired-more, fired-none, unfired}
use Rattle.journal.proofs.concluding.fired_in.Goals as goal
use Rattle.journal.proofs.concluding.fired_in.Goals.{in-Enabled+in_ok-add, in_default}

pub loop-k-init : goal.loop-k-init
loop-k-init c = subst (FiredSo c.args.opening.now.nacks.items c.args.thread 0) (sym c.new-fired.ensures) (fired-none c.args.opening.now.nacks.items c.args.thread)

pub loop-k-preserved : goal.loop-k-preserved
loop-k-preserved c =
    let states = c.args.opening.now.nacks.items in
    let own = c.nacks_of-state-items.result.now in
    let t = c.args.thread in
    let k = c.loop-k.k in
    let fired = c.loop-k.fired in
    let low : k < 64 = omega (arith, c.nacks_of-state-items.ensures.few, c.loop-k-test.true) in
    elim c.match-state.branch [
      | in-Enabled+in_ok-add w ↦
          subst (FiredSo states t (k + 1)) (sym w.fired-is)
          (fired-more states own t k fired w.add.new.self c.loop-k.invariant low (c.nacks_of-state-items.ensures.states k low) (w.in_ok-add.ensures.here ∙ sym (ap fired_as w.in-Enabled.is)) w.in_ok-add.ensures.others)
      | in_default w ↦
          subst (FiredSo states t (k + 1)) (sym w.fired-is)
          (fired-more states own t k fired fired c.loop-k.invariant low (c.nacks_of-state-items.ensures.states k low) (c.loop-k.invariant.rest k (omega arith) ∙ sym (unfired (get_or own k Unbound) w.in_default.not-Enabled)) (λ n ne. refl))
    ]

pub returns : goal.returns
returns c = fired-all c.args.opening.now.nacks.items c.nacks_of-state-items.result.now c.args.thread c.loop-k.k c.loop-k.fired c.loop-k.invariant (omega (arith, c.loop-k-test.false)) c.nacks_of-state-items.ensures.states
