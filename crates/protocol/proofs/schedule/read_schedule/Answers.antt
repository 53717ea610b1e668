use Rattle.std.proofs.Common.{◌≡◌, ◌≢◌, [], length, inl, refl, ap, arith, rules, tests}
use Rattle.protocol.proofs.Plans.{begun, goes_on, falls, breaks, no_world}
use Rattle.protocol.proofs.schedule.read_schedule.Goals as goal

pub returns-in_default-clause-fault : goal.returns-in_default-clause-fault
returns-in_default-clause-fault c = inl (refl, no_world c.args.bytes.now c.in_default.ensures)

pub loop-rest-init : goal.loop-rest-init
loop-rest-init c = rw c.new-steps.ensures.items (begun c.args.bytes.now c.in-Some.size c.in-Some.rest.now c.in-Some.ensures)

pub returns-in_default-step_line-clause-fault : goal.returns-in_default-step_line-clause-fault
returns-in_default-step_line-clause-fault c =
    let rest = c.loop-rest.rest.now in
    let more : rest ≢ [] = λ e. let none : length rest ≡ 0 = ap length e in grind (arith, tests) in
    let len : c.len.result ≡ length c.loop-rest.steps.items = search rules in
    rw len (breaks c.args.bytes.now c.in-Some.size c.loop-rest.steps.items rest c.loop-rest.invariant more c.in_default-step_line.ensures)

pub loop-rest-smaller : goal.loop-rest-smaller
loop-rest-smaller c = falls c.loop-rest.rest.now _ c.in-Some-step_line.after.now c.in-Some-step_line.ensures

pub loop-rest-preserved : goal.loop-rest-preserved
loop-rest-preserved c =
    rw c.in_ok-push.ensures.items (goes_on c.args.bytes.now c.in-Some.size c.loop-rest.steps.items c.loop-rest.rest.now c.in-Some-step_line.step c.in-Some-step_line.after.now c.loop-rest.invariant c.in-Some-step_line.ensures)
