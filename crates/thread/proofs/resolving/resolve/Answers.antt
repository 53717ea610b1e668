use Rattle.std.proofs.Common.{rules, ◌≡◌, ◌+◌, ◌∙◌, arith, Some, false, true, length, nat_le, refl, slice_get, sym, ap, ap₂}
use Rattle.std.proofs.lemmas.Bool.Decides.{nat_tests}
use Rattle.std.proofs.lemmas.Option.{slice_get_past, slice_get_read}
use Rattle.std.specs.Prelude.{if◌then◌else◌}
use Rattle.script_tree.specs.Lined.{event_of}
use Rattle.protocol_values.specs.declared.Atom.TheVariants.{Nack}
use Rattle.thread.specs.declared.Fault.TheVariants.{Range}
use Rattle.thread.specs.Standing.{at_line, Outcome, State, Goes, Fails, with_variable}
use Rattle.thread.specs.Resolving.{base_value, with_offer, with_scope}
use Rattle.thread.specs.Stacks.{frames_on, lists_of, offered_on, planned, state_of}
use Rattle.thread.proofs.Opening.{next, open_does, open_whole, offer_does, offer_fails, offer_falls, offer_fits, body_does, body_falls, body_fits, nack_does, nack_fails, nack_falls, nack_fits}
use Rattle.thread.proofs.resolving.resolve.Goals as goal

pub loop-stage-init : goal.loop-stage-init
loop-stage-init c =
    let same = sym (ap (λ p. (planned c.args.code.now p).line) c.plan_of-begun.ensures) in
    record {
      does = λ rs. ap (λ n. offered_on c.args.code.now c.args.offered (frames_on c.args.code.now c.args.stack.now.frames.items) (lists_of c.args.stack.now) (at_line n (state_of c.args.memory.now rs))) same;
      line = same;
      reach = omega arith;
      fits = c.requires.fits;
      spawned = refl;
    }

pub returns-in_default-clause-does : goal.returns-in_default-clause-does
returns-in_default-clause-does c = λ rs.
    let none = ap (λ l. slice_get l c.loop-stage.offered.stage) (sym c.deref.ensures.value) ∙ slice_get_past c.deref.result.now c.loop-stage.offered.stage c.in_default.ensures.lookup.3 in
    open_does c.args.code.now c.loop-stage.offered (lists_of c.loop-stage.stack) c.plan_of-plan.result.now c.loop-stage.invariant.fits.0 c.plan_of-plan.ensures (frames_on c.args.code.now c.loop-stage.stack.frames.items) (state_of c.loop-stage.memory rs) none
    ∙ c.loop-stage.invariant.does rs

pub returns-in_default-clause-fits : goal.returns-in_default-clause-fits
returns-in_default-clause-fits c =
    let none = ap (λ l. slice_get l c.loop-stage.offered.stage) (sym c.deref.ensures.value) ∙ slice_get_past c.deref.result.now c.loop-stage.offered.stage c.in_default.ensures.lookup.3 in
    (c.loop-stage.invariant.fits.0, (open_whole c.args.code.now c.loop-stage.offered (lists_of c.loop-stage.stack) c.plan_of-plan.result.now c.loop-stage.invariant.fits.0 c.plan_of-plan.ensures none, c.loop-stage.invariant.fits.1))

pub loop-stage-smaller : goal.loop-stage-smaller
loop-stage-smaller c =
    let found = c.in-Some.ensures.lookup in
    let at = ap (λ l. slice_get l c.loop-stage.offered.stage) (sym c.deref.ensures.value) ∙ slice_get_read c.deref.result.now (length c.deref.result.now) c.loop-stage.offered.stage c.in-Some.stage.now refl found.3.0 found.1 ∙ ap (λ s. Some s) c.in-Offer.is in
    let put : record { offers = c.push.new.self.items; nacks = c.loop-stage.stack.nacks.items } ≡ with_offer c.in-Ok.base c.in-Offer.scopes (lists_of c.loop-stage.stack) = ap (λ os. record { offers = os; nacks = c.loop-stage.stack.nacks.items }) c.in_ok-push-in-Ok.ensures.items in
    offer_falls c.args.code.now c.loop-stage.offered (lists_of c.loop-stage.stack) c.plan_of-plan.result.now c.loop-stage.invariant.fits.0 c.plan_of-plan.ensures c.in-Offer.event c.in-Offer.scopes at c.in-Ok.base (record { offers = c.push.new.self.items; nacks = c.loop-stage.stack.nacks.items }) put

pub loop-stage-preserved : goal.loop-stage-preserved
loop-stage-preserved c =
    let found = c.in-Some.ensures.lookup in
    let at = ap (λ l. slice_get l c.loop-stage.offered.stage) (sym c.deref.ensures.value) ∙ slice_get_read c.deref.result.now (length c.deref.result.now) c.loop-stage.offered.stage c.in-Some.stage.now refl found.3.0 found.1 ∙ ap (λ s. Some s) c.in-Offer.is in
    let value = ap₂ base_value (sym c.deref-in-Offer-2.ensures.value) (ap event_of (sym c.deref-in-Offer.ensures)) ∙ sym c.base_of.ensures ∙ c.in-Ok.is in
    let put : record { offers = c.push.new.self.items; nacks = c.loop-stage.stack.nacks.items } ≡ with_offer c.in-Ok.base c.in-Offer.scopes (lists_of c.loop-stage.stack) = ap (λ os. record { offers = os; nacks = c.loop-stage.stack.nacks.items }) c.in_ok-push-in-Ok.ensures.items in
    record {
      does = λ rs.
          offer_does c.args.code.now c.loop-stage.offered (lists_of c.loop-stage.stack) c.plan_of-plan.result.now c.loop-stage.invariant.fits.0 c.plan_of-plan.ensures c.in-Offer.event c.in-Offer.scopes at c.in-Ok.base (record { offers = c.push.new.self.items; nacks = c.loop-stage.stack.nacks.items }) put (frames_on c.args.code.now c.loop-stage.stack.frames.items) (state_of c.loop-stage.memory rs) value
          ∙ c.loop-stage.invariant.does rs;
      reach = omega (arith, offer_falls c.args.code.now c.loop-stage.offered (lists_of c.loop-stage.stack) c.plan_of-plan.result.now c.loop-stage.invariant.fits.0 c.plan_of-plan.ensures c.in-Offer.event c.in-Offer.scopes at c.in-Ok.base (record { offers = c.push.new.self.items; nacks = c.loop-stage.stack.nacks.items }) put, c.loop-stage.invariant.reach);
      fits = offer_fits c.args.code.now c.loop-stage.offered (lists_of c.loop-stage.stack) c.plan_of-plan.result.now c.loop-stage.invariant.fits.0 c.plan_of-plan.ensures c.in-Offer.event c.in-Offer.scopes at c.in-Ok.base (record { offers = c.push.new.self.items; nacks = c.loop-stage.stack.nacks.items }) put c.loop-stage.stack.frames.items c.loop-stage.invariant.fits.1;
      line = c.loop-stage.invariant.line;
      spawned = c.loop-stage.invariant.spawned;
    }

pub returns-in-Err-clause-does : goal.returns-in-Err-clause-does
returns-in-Err-clause-does c = λ rs.
    let found = c.in-Some.ensures.lookup in
    let at = ap (λ l. slice_get l c.loop-stage.offered.stage) (sym c.deref.ensures.value) ∙ slice_get_read c.deref.result.now (length c.deref.result.now) c.loop-stage.offered.stage c.in-Some.stage.now refl found.3.0 found.1 ∙ ap (λ s. Some s) c.in-Offer.is in
    let value = ap₂ base_value (sym c.deref-in-Offer-2.ensures.value) (ap event_of (sym c.deref-in-Offer.ensures)) ∙ sym c.base_of.ensures ∙ c.in-Err.is in
    offer_fails c.args.code.now c.loop-stage.offered (lists_of c.loop-stage.stack) c.plan_of-plan.result.now c.loop-stage.invariant.fits.0 c.plan_of-plan.ensures c.in-Offer.event c.in-Offer.scopes at (frames_on c.args.code.now c.loop-stage.stack.frames.items) (state_of c.loop-stage.memory rs) c.in-Err.fault value
    ∙ c.loop-stage.invariant.does rs

pub returns-in-Body-clause-does : goal.returns-in-Body-clause-does
returns-in-Body-clause-does c = λ rs.
    let found = c.in-Some.ensures.lookup in
    let at = ap (λ l. slice_get l c.loop-stage.offered.stage) (sym c.deref.ensures.value) ∙ slice_get_read c.deref.result.now (length c.deref.result.now) c.loop-stage.offered.stage c.in-Some.stage.now refl found.3.0 found.1 ∙ ap (λ s. Some s) c.in-Body.is in
    body_does c.args.code.now c.loop-stage.offered (lists_of c.loop-stage.stack) c.plan_of-plan.result.now c.loop-stage.invariant.fits.0 c.plan_of-plan.ensures c.in-Body.at at c.push-in-Body.new.self.items c.loop-stage.stack.frames.items c.in_ok-push-in-Body.ensures.items (state_of c.loop-stage.memory rs)
    ∙ c.loop-stage.invariant.does rs

pub returns-in-Body-clause-falls : goal.returns-in-Body-clause-falls
returns-in-Body-clause-falls c =
    let found = c.in-Some.ensures.lookup in
    let at = ap (λ l. slice_get l c.loop-stage.offered.stage) (sym c.deref.ensures.value) ∙ slice_get_read c.deref.result.now (length c.deref.result.now) c.loop-stage.offered.stage c.in-Some.stage.now refl found.3.0 found.1 ∙ ap (λ s. Some s) c.in-Body.is in
    omega (arith, body_falls c.args.code.now c.loop-stage.offered (lists_of c.loop-stage.stack) c.plan_of-plan.result.now c.loop-stage.invariant.fits.0 c.plan_of-plan.ensures c.in-Body.at at c.push-in-Body.new.self.items c.loop-stage.stack.frames.items c.in_ok-push-in-Body.ensures.items, c.loop-stage.invariant.reach)

pub returns-in-Body-clause-fits : goal.returns-in-Body-clause-fits
returns-in-Body-clause-fits c =
    let found = c.in-Some.ensures.lookup in
    let at = ap (λ l. slice_get l c.loop-stage.offered.stage) (sym c.deref.ensures.value) ∙ slice_get_read c.deref.result.now (length c.deref.result.now) c.loop-stage.offered.stage c.in-Some.stage.now refl found.3.0 found.1 ∙ ap (λ s. Some s) c.in-Body.is in
    body_fits c.args.code.now c.loop-stage.offered (lists_of c.loop-stage.stack) c.plan_of-plan.result.now c.loop-stage.invariant.fits.0 c.plan_of-plan.ensures c.in-Body.at at c.push-in-Body.new.self.items c.loop-stage.stack.frames.items c.in_ok-push-in-Body.ensures.items c.loop-stage.invariant.fits.1

pub returns-then-memory-ge64-clause-does : goal.returns-then-memory-ge64-clause-does
returns-then-memory-ge64-clause-does c = λ rs.
    let found = c.in-Some.ensures.lookup in
    let at = ap (λ l. slice_get l c.loop-stage.offered.stage) (sym c.deref.ensures.value) ∙ slice_get_read c.deref.result.now (length c.deref.result.now) c.loop-stage.offered.stage c.in-Some.stage.now refl found.3.0 found.1 ∙ ap (λ s. Some s) c.in-Nack.is in
    let made : Outcome State = Goes (with_variable c.in-Nack.name (Nack (record { thread = c.loop-stage.memory.thread; k = c.loop-stage.memory.nacks })) (record (state_of c.loop-stage.memory rs) { nacks = c.loop-stage.memory.nacks + 1 })) in
    let many : Outcome State = Fails Range (state_of c.loop-stage.memory rs) in
    let many_are : nat_le 64 c.loop-stage.memory.nacks ≡ true = search (rules, nat_tests) in
    nack_fails c.args.code.now c.loop-stage.offered (lists_of c.loop-stage.stack) c.plan_of-plan.result.now c.loop-stage.invariant.fits.0 c.plan_of-plan.ensures c.in-Nack.name at (frames_on c.args.code.now c.loop-stage.stack.frames.items) (state_of c.loop-stage.memory rs) Range (ap (λ b. if b then many else made) many_are)
    ∙ c.loop-stage.invariant.does rs

pub returns-in-Nack-clause-does : goal.returns-in-Nack-clause-does
returns-in-Nack-clause-does c = λ rs.
    let found = c.in-Some.ensures.lookup in
    let at = ap (λ l. slice_get l c.loop-stage.offered.stage) (sym c.deref.ensures.value) ∙ slice_get_read c.deref.result.now (length c.deref.result.now) c.loop-stage.offered.stage c.in-Some.stage.now refl found.3.0 found.1 ∙ ap (λ s. Some s) c.in-Nack.is in
    let made : Outcome State = Goes (with_variable c.in-Nack.name (Nack (record { thread = c.loop-stage.memory.thread; k = c.loop-stage.memory.nacks })) (record (state_of c.loop-stage.memory rs) { nacks = c.loop-stage.memory.nacks + 1 })) in
    let many : Outcome State = Fails Range (state_of c.loop-stage.memory rs) in
    let put : record { offers = c.loop-stage.stack.offers.items; nacks = c.push-in-Nack.new.self.items } ≡ with_scope c.loop-stage.memory.nacks (lists_of c.loop-stage.stack) = ap (λ ns. record { offers = c.loop-stage.stack.offers.items; nacks = ns }) c.in_ok-push-in-Nack.ensures.items in
    let few : nat_le 64 c.loop-stage.memory.nacks ≡ false = search (rules, nat_tests) in
    let set : made ≡ Goes (state_of c.set.new.self rs) = rw (c.set.ensures.thread, c.set.ensures.nacks, c.set.ensures.line, c.set.ensures.printed, c.set.ensures.spawned, c.set.ensures.variables) refl in
    let new : State = state_of c.set.new.self rs in
    let kept = c.set.ensures.line ∙ c.loop-stage.invariant.line in
    ap (λ n. offered_on c.args.code.now (next c.loop-stage.offered) (frames_on c.args.code.now c.loop-stage.stack.frames.items) (record { offers = c.loop-stage.stack.offers.items; nacks = c.push-in-Nack.new.self.items }) (at_line n new)) (sym kept)
    ∙ nack_does c.args.code.now c.loop-stage.offered (lists_of c.loop-stage.stack) c.plan_of-plan.result.now c.loop-stage.invariant.fits.0 c.plan_of-plan.ensures c.in-Nack.name at c.loop-stage.memory.nacks (record { offers = c.loop-stage.stack.offers.items; nacks = c.push-in-Nack.new.self.items }) put (frames_on c.args.code.now c.loop-stage.stack.frames.items) (state_of c.loop-stage.memory rs) (state_of c.set.new.self rs) refl (ap (λ b. if b then many else made) few ∙ set)
    ∙ c.loop-stage.invariant.does rs

pub returns-in-Nack-clause-falls : goal.returns-in-Nack-clause-falls
returns-in-Nack-clause-falls c =
    let found = c.in-Some.ensures.lookup in
    let at = ap (λ l. slice_get l c.loop-stage.offered.stage) (sym c.deref.ensures.value) ∙ slice_get_read c.deref.result.now (length c.deref.result.now) c.loop-stage.offered.stage c.in-Some.stage.now refl found.3.0 found.1 ∙ ap (λ s. Some s) c.in-Nack.is in
    let put : record { offers = c.loop-stage.stack.offers.items; nacks = c.push-in-Nack.new.self.items } ≡ with_scope c.loop-stage.memory.nacks (lists_of c.loop-stage.stack) = ap (λ ns. record { offers = c.loop-stage.stack.offers.items; nacks = ns }) c.in_ok-push-in-Nack.ensures.items in
    omega (arith, nack_falls c.args.code.now c.loop-stage.offered (lists_of c.loop-stage.stack) c.plan_of-plan.result.now c.loop-stage.invariant.fits.0 c.plan_of-plan.ensures c.in-Nack.name at c.loop-stage.memory.nacks (record { offers = c.loop-stage.stack.offers.items; nacks = c.push-in-Nack.new.self.items }) put, c.loop-stage.invariant.reach)

pub returns-in-Nack-clause-fits : goal.returns-in-Nack-clause-fits
returns-in-Nack-clause-fits c =
    let found = c.in-Some.ensures.lookup in
    let at = ap (λ l. slice_get l c.loop-stage.offered.stage) (sym c.deref.ensures.value) ∙ slice_get_read c.deref.result.now (length c.deref.result.now) c.loop-stage.offered.stage c.in-Some.stage.now refl found.3.0 found.1 ∙ ap (λ s. Some s) c.in-Nack.is in
    let put : record { offers = c.loop-stage.stack.offers.items; nacks = c.push-in-Nack.new.self.items } ≡ with_scope c.loop-stage.memory.nacks (lists_of c.loop-stage.stack) = ap (λ ns. record { offers = c.loop-stage.stack.offers.items; nacks = ns }) c.in_ok-push-in-Nack.ensures.items in
    nack_fits c.args.code.now c.loop-stage.offered (lists_of c.loop-stage.stack) c.plan_of-plan.result.now c.loop-stage.invariant.fits.0 c.plan_of-plan.ensures c.in-Nack.name at c.loop-stage.memory.nacks (record { offers = c.loop-stage.stack.offers.items; nacks = c.push-in-Nack.new.self.items }) put c.loop-stage.stack.frames.items c.loop-stage.invariant.fits.1
