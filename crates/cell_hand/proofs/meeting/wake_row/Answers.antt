use Rattle.std.proofs.Common.{◌∙◌, ℕ, arith, ap}
use Rattle.protocol_values.specs.declared.Step.{Step}
use Rattle.protocol_values.specs.declared.Step.TheVariants.{Grant as GrantRow}
use Rattle.std.proofs.Common.{List, ◌∷◌}
use Rattle.cell_table.specs.Nacks.{CanStandAlone}
use Rattle.meet_scan.proofs.Growing.{grows_by, grows_then, stands_more}
use Rattle.cell_hand.proofs.Waking.{already_made, already_woken, below_next}
use Rattle.cell_hand.proofs.meeting.wake_row.Goals as goal

pub returns-in-Given-clause-made : goal.returns-in-Given-clause-made
returns-in-Given-clause-made c =
    (0, c.loop-n.n, c.in-Given.ensures.made ∙ ap (λ (steps : List Step). GrantRow c.args.row c.loop-n.n ∷ steps) c.loop-n.invariant.2)

pub returns-in-Late-clause-made : goal.returns-in-Late-clause-made
returns-in-Late-clause-made c =
    already_made c.args.row c.saw_committed.result c.is_already.result _ _ c.is_already.ensures (c.saw_committed.ensures.looks.0 ∙ c.in-Late.ensures.made ∙ c.loop-n.invariant.2)

pub returns-in-Late-clause-woken : goal.returns-in-Late-clause-woken
returns-in-Late-clause-woken c =
    already_woken c.args.pass.now.seen c.grant.new.pass.seen c.saw_committed.new.pass.seen c.args.row c.loop-n.n c.saw_committed.result c.is_already.result _ c.is_already.ensures
    c.saw_committed.ensures.grows c.in-Late.ensures.granted.0 c.saw_committed.ensures.committed

pub loop-n-preserved : goal.loop-n-preserved
loop-n-preserved c =
    let s = c.args.pass.now.seen in
    let t = c.loop-n.pass.seen in (
      c.in-NotEnabled.ensures.here,
      grows_then s t c.grant.new.pass.seen c.loop-n.invariant.1 (grows_by _ _ t c.grant.new.pass.seen c.grant.ensures.learns),
      c.in-NotEnabled.ensures.made ∙ c.loop-n.invariant.2,
      below_next (λ (k : ℕ). ¬ CanStandAlone s c.args.row k) c.loop-n.n c.loop-n.invariant.3
          (λ (can : CanStandAlone s c.args.row c.loop-n.n). c.in-NotEnabled.ensures.granted (stands_more s t c.args.row c.loop-n.n c.loop-n.invariant.1 can)),
    )

pub returns-clause-woken : goal.returns-clause-woken
returns-clause-woken c n low = c.loop-n.invariant.3 n (omega (arith, low, c.loop-n-test.false))
