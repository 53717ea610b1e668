use Rattle.std.proofs.Common.{◌≡◌, Some, arith, refl, slice_get, subst}
use Rattle.thread_code.proofs.Growing.{grows_by_plan, linked_by_plan, plan_there}
use Rattle.thread_code.proofs.compiling.add_plan.Goals as goal

pub returns-clause-grows : goal.returns-clause-grows
returns-clause-grows c = grows_by_plan c.args.code.now _ c.args.plan refl c.in_ok-push.ensures.items

pub returns-clause-linked : goal.returns-clause-linked
returns-clause-linked c = linked_by_plan c.args.code.now _ c.args.plan c.requires.linked refl c.in_ok-push.ensures.items

pub returns-clause-there : goal.returns-clause-there
returns-clause-there c =
    subst (λ number. slice_get c.push.new.self.items number ≡ Some c.args.plan) (omega (arith, c.in_ok-at.ensures, c.len.ensures, c.args.code.now.plans.ok.0)) (plan_there c.args.code.now (record { places = c.args.code.now.places; plans = c.push.new.self; start = c.args.code.now.start }) c.args.plan c.in_ok-push.ensures.items)
