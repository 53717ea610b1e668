use Rattle.std.proofs.Common.{◌≡◌, ◌+◌, ◌∙◌, length, set, take, refl, sym, ap, arith}
use Rattle.thread.specs.declared.stack.Frame.TheVariants.{Rest, Times, Endless, Event}
use Rattle.thread.specs.Standing.{◌>>=◌, times}
use Rattle.thread.specs.Stacks.{frames_on, lists_of, state_of, sync_at, turn_on}
use Rattle.thread.proofs.Looping.{endless_goes, loop_falls, loop_fits, times_goes}
use Rattle.thread.proofs.Stacking.{frame_off, frame_put, innermost, innermost_set, reach_pushed, with_frame_on}
use Rattle.thread.proofs.statement.back.Goals as goal

pub returns-in-Rest-clause-does : goal.returns-in-Rest-clause-does
returns-in-Rest-clause-does c = λ rs.
    let long : length c.args.stack.now.frames.items ≡ c.in-Some.last + 1 = omega (arith, c.len.ensures, c.in-Some.ensures, c.args.stack.now.frames.ok.0) in
    let is = innermost c.args.stack.now.frames.items c.truncate.new.self.items c.in-Some.last c.index.result.now (Rest c.in-Rest.at) long c.index.ensures c.truncate.ensures.items c.in-Rest.is in
    sym (with_frame_on c.args.code.now _ _ (Rest c.in-Rest.at) (lists_of c.args.stack.now) (state_of c.args.memory.now rs) is)

pub returns-in-Rest-clause-falls : goal.returns-in-Rest-clause-falls
returns-in-Rest-clause-falls c =
    let long : length c.args.stack.now.frames.items ≡ c.in-Some.last + 1 = omega (arith, c.len.ensures, c.in-Some.ensures, c.args.stack.now.frames.ok.0) in
    let is = innermost c.args.stack.now.frames.items c.truncate.new.self.items c.in-Some.last c.index.result.now (Rest c.in-Rest.at) long c.index.ensures c.truncate.ensures.items c.in-Rest.is in
    omega (arith, reach_pushed c.args.code.now _ _ (Rest c.in-Rest.at) is)

pub returns-in-Rest-clause-fits : goal.returns-in-Rest-clause-fits
returns-in-Rest-clause-fits c =
    let long : length c.args.stack.now.frames.items ≡ c.in-Some.last + 1 = omega (arith, c.len.ensures, c.in-Some.ensures, c.args.stack.now.frames.ok.0) in
    let is = innermost c.args.stack.now.frames.items c.truncate.new.self.items c.in-Some.last c.index.result.now (Rest c.in-Rest.at) long c.index.ensures c.truncate.ensures.items c.in-Rest.is in
    frame_off c.args.code.now _ _ (Rest c.in-Rest.at) (lists_of c.args.stack.now) is c.requires.fits

pub returns-in-Event-clause-does : goal.returns-in-Event-clause-does
returns-in-Event-clause-does c = λ rs.
    let long : length c.args.stack.now.frames.items ≡ c.in-Some.last + 1 = omega (arith, c.len.ensures, c.in-Some.ensures, c.args.stack.now.frames.ok.0) in
    let is = innermost c.args.stack.now.frames.items c.truncate-in-Event.new.self.items c.in-Some.last c.index.result.now (Event c.in-Event.offered) long c.index.ensures c.truncate-in-Event.ensures.items c.in-Event.is in
    sym (with_frame_on c.args.code.now _ _ (Event c.in-Event.offered) (lists_of c.args.stack.now) (state_of c.args.memory.now rs) is)

pub returns-in-Event-clause-falls : goal.returns-in-Event-clause-falls
returns-in-Event-clause-falls c =
    let long : length c.args.stack.now.frames.items ≡ c.in-Some.last + 1 = omega (arith, c.len.ensures, c.in-Some.ensures, c.args.stack.now.frames.ok.0) in
    let is = innermost c.args.stack.now.frames.items c.truncate-in-Event.new.self.items c.in-Some.last c.index.result.now (Event c.in-Event.offered) long c.index.ensures c.truncate-in-Event.ensures.items c.in-Event.is in
    omega (arith, reach_pushed c.args.code.now _ _ (Event c.in-Event.offered) is)

pub returns-in-Event-clause-fits : goal.returns-in-Event-clause-fits
returns-in-Event-clause-fits c =
    let long : length c.args.stack.now.frames.items ≡ c.in-Some.last + 1 = omega (arith, c.len.ensures, c.in-Some.ensures, c.args.stack.now.frames.ok.0) in
    let is = innermost c.args.stack.now.frames.items c.truncate-in-Event.new.self.items c.in-Some.last c.index.result.now (Event c.in-Event.offered) long c.index.ensures c.truncate-in-Event.ensures.items c.in-Event.is in
    frame_off c.args.code.now _ _ (Event c.in-Event.offered) (lists_of c.args.stack.now) is c.requires.fits

pub returns-in-None-clause-does : goal.returns-in-None-clause-does
returns-in-None-clause-does c = λ rs.
    let long : length c.args.stack.now.frames.items ≡ c.in-Some.last + 1 = omega (arith, c.len.ensures, c.in-Some.ensures, c.args.stack.now.frames.ok.0) in
    let is = innermost c.args.stack.now.frames.items c.truncate-in-None.new.self.items c.in-Some.last c.index.result.now (Times c.in-Times.times c.in-Times.plan) long c.index.ensures c.truncate-in-None.ensures.items c.in-Times.is in
    let none : c.in-Times.times ≡ 0 = omega (arith, c.in-None.ensures) in
    sym (with_frame_on c.args.code.now _ _ (Times c.in-Times.times c.in-Times.plan) (lists_of c.args.stack.now) (state_of c.args.memory.now rs) is
    ∙ ap (λ n. times n (turn_on (sync_at c.args.code.now c.in-Times.plan)) (state_of c.args.memory.now rs) >>= frames_on c.args.code.now c.truncate-in-None.new.self.items (lists_of c.args.stack.now)) none)

pub returns-in-None-clause-falls : goal.returns-in-None-clause-falls
returns-in-None-clause-falls c =
    let long : length c.args.stack.now.frames.items ≡ c.in-Some.last + 1 = omega (arith, c.len.ensures, c.in-Some.ensures, c.args.stack.now.frames.ok.0) in
    let is = innermost c.args.stack.now.frames.items c.truncate-in-None.new.self.items c.in-Some.last c.index.result.now (Times c.in-Times.times c.in-Times.plan) long c.index.ensures c.truncate-in-None.ensures.items c.in-Times.is in
    omega (arith, reach_pushed c.args.code.now _ _ (Times c.in-Times.times c.in-Times.plan) is)

pub returns-in-None-clause-fits : goal.returns-in-None-clause-fits
returns-in-None-clause-fits c =
    let long : length c.args.stack.now.frames.items ≡ c.in-Some.last + 1 = omega (arith, c.len.ensures, c.in-Some.ensures, c.args.stack.now.frames.ok.0) in
    let is = innermost c.args.stack.now.frames.items c.truncate-in-None.new.self.items c.in-Some.last c.index.result.now (Times c.in-Times.times c.in-Times.plan) long c.index.ensures c.truncate-in-None.ensures.items c.in-Times.is in
    (frame_off c.args.code.now _ _ (Times c.in-Times.times c.in-Times.plan) (lists_of c.args.stack.now) is c.requires.fits).1

pub returns-in-Some-checked_sub-clause-does : goal.returns-in-Some-checked_sub-clause-does
returns-in-Some-checked_sub-clause-does c = λ rs.
    let long : length c.args.stack.now.frames.items ≡ c.in-Some.last + 1 = omega (arith, c.len.ensures, c.in-Some.ensures, c.args.stack.now.frames.ok.0) in
    let is = innermost c.args.stack.now.frames.items (take c.in-Some.last c.args.stack.now.frames.items) c.in-Some.last c.index.result.now (Times c.in-Times.times c.in-Times.plan) long c.index.ensures refl c.in-Times.is in
    let put = innermost_set c.args.stack.now.frames.items c.in-Some.last (Times c.in-Some-checked_sub.left c.in-Times.plan) long in
    times_goes c.args.code.now c.args.stack.now.frames.items (take c.in-Some.last c.args.stack.now.frames.items) (set c.args.stack.now.frames.items c.in-Some.last (Times c.in-Some-checked_sub.left c.in-Times.plan)) c.in-Times.plan (lists_of c.args.stack.now) c.offered.result c.offered.ensures c.in-Times.times c.in-Some-checked_sub.left (state_of c.args.memory.now rs) is put (omega (arith, c.in-Some-checked_sub.ensures))

pub returns-in-Some-checked_sub-clause-falls : goal.returns-in-Some-checked_sub-clause-falls
returns-in-Some-checked_sub-clause-falls c =
    let long : length c.args.stack.now.frames.items ≡ c.in-Some.last + 1 = omega (arith, c.len.ensures, c.in-Some.ensures, c.args.stack.now.frames.ok.0) in
    let is = innermost c.args.stack.now.frames.items (take c.in-Some.last c.args.stack.now.frames.items) c.in-Some.last c.index.result.now (Times c.in-Times.times c.in-Times.plan) long c.index.ensures refl c.in-Times.is in
    loop_falls c.args.code.now c.args.stack.now.frames.items (take c.in-Some.last c.args.stack.now.frames.items) (set c.args.stack.now.frames.items c.in-Some.last (Times c.in-Some-checked_sub.left c.in-Times.plan)) c.in-Times.plan (lists_of c.args.stack.now) c.offered.result c.offered.ensures (reach_pushed c.args.code.now _ _ (Times c.in-Times.times c.in-Times.plan) is)

pub returns-in-Some-checked_sub-clause-fits : goal.returns-in-Some-checked_sub-clause-fits
returns-in-Some-checked_sub-clause-fits c =
    let long : length c.args.stack.now.frames.items ≡ c.in-Some.last + 1 = omega (arith, c.len.ensures, c.in-Some.ensures, c.args.stack.now.frames.ok.0) in
    let is = innermost c.args.stack.now.frames.items (take c.in-Some.last c.args.stack.now.frames.items) c.in-Some.last c.index.result.now (Times c.in-Times.times c.in-Times.plan) long c.index.ensures refl c.in-Times.is in
    let put = innermost_set c.args.stack.now.frames.items c.in-Some.last (Times c.in-Some-checked_sub.left c.in-Times.plan) long in
    let h = frame_off c.args.code.now _ _ (Times c.in-Times.times c.in-Times.plan) (lists_of c.args.stack.now) is c.requires.fits in
    loop_fits c.args.code.now c.args.stack.now.frames.items (take c.in-Some.last c.args.stack.now.frames.items) (set c.args.stack.now.frames.items c.in-Some.last (Times c.in-Some-checked_sub.left c.in-Times.plan)) c.in-Times.plan (lists_of c.args.stack.now) c.offered.result c.offered.ensures (Times c.in-Some-checked_sub.left c.in-Times.plan) put h.0 (λ below. frame_put c.args.code.now _ _ (Times c.in-Some-checked_sub.left c.in-Times.plan) (lists_of c.args.stack.now) put (h.0, below)) h.1

pub returns-in-Endless-clause-does : goal.returns-in-Endless-clause-does
returns-in-Endless-clause-does c = λ rs.
    let long : length c.args.stack.now.frames.items ≡ c.in-Some.last + 1 = omega (arith, c.len.ensures, c.in-Some.ensures, c.args.stack.now.frames.ok.0) in
    let is = innermost c.args.stack.now.frames.items (take c.in-Some.last c.args.stack.now.frames.items) c.in-Some.last c.index.result.now (Endless c.in-Endless.plan) long c.index.ensures refl c.in-Endless.is in
    endless_goes c.args.code.now c.args.stack.now.frames.items (take c.in-Some.last c.args.stack.now.frames.items) c.args.stack.now.frames.items c.in-Endless.plan (lists_of c.args.stack.now) c.offered-in-Endless.result c.offered-in-Endless.ensures (state_of c.args.memory.now rs) is is

pub returns-in-Endless-clause-falls : goal.returns-in-Endless-clause-falls
returns-in-Endless-clause-falls c =
    let long : length c.args.stack.now.frames.items ≡ c.in-Some.last + 1 = omega (arith, c.len.ensures, c.in-Some.ensures, c.args.stack.now.frames.ok.0) in
    let is = innermost c.args.stack.now.frames.items (take c.in-Some.last c.args.stack.now.frames.items) c.in-Some.last c.index.result.now (Endless c.in-Endless.plan) long c.index.ensures refl c.in-Endless.is in
    loop_falls c.args.code.now c.args.stack.now.frames.items (take c.in-Some.last c.args.stack.now.frames.items) c.args.stack.now.frames.items c.in-Endless.plan (lists_of c.args.stack.now) c.offered-in-Endless.result c.offered-in-Endless.ensures (reach_pushed c.args.code.now _ _ (Endless c.in-Endless.plan) is)

pub returns-in-Endless-clause-fits : goal.returns-in-Endless-clause-fits
returns-in-Endless-clause-fits c =
    let long : length c.args.stack.now.frames.items ≡ c.in-Some.last + 1 = omega (arith, c.len.ensures, c.in-Some.ensures, c.args.stack.now.frames.ok.0) in
    let is = innermost c.args.stack.now.frames.items (take c.in-Some.last c.args.stack.now.frames.items) c.in-Some.last c.index.result.now (Endless c.in-Endless.plan) long c.index.ensures refl c.in-Endless.is in
    let h = frame_off c.args.code.now _ _ (Endless c.in-Endless.plan) (lists_of c.args.stack.now) is c.requires.fits in
    loop_fits c.args.code.now c.args.stack.now.frames.items (take c.in-Some.last c.args.stack.now.frames.items) c.args.stack.now.frames.items c.in-Endless.plan (lists_of c.args.stack.now) c.offered-in-Endless.result c.offered-in-Endless.ensures (Endless c.in-Endless.plan) is h.0 (λ below. frame_put c.args.code.now _ _ (Endless c.in-Endless.plan) (lists_of c.args.stack.now) is (h.0, below)) h.1
