use Rattle.std.proofs.Common.{◌∙◌, sym, subst, ap}
use Rattle.engine.specs.Calls.{Comes}
use Rattle.engine.specs.States.{State, Waits}
use Rattle.engine.specs.Tables.{line_at, state_of}
use Rattle.engine.proofs.Promises.{known-same}
use Rattle.engine.proofs.Sounding.{left-state, waits-within}
use Rattle.engine.proofs.Tabling.{failed-keeps, failed-sound, sound-comes, without}
use Rattle.engine.proofs.table.Table.add.Goals as goal

pub stand_in_lines-requires-clause-known : goal.stand_in_lines-requires-clause-known
stand_in_lines-requires-clause-known c = λ own o at. known-same _ _ c.in_ok-sync.ensures.ok.comes.open_kept o (c.requires.taken.known own o at)

pub stand_in_lines-requires-clause-none : goal.stand_in_lines-requires-clause-none
stand_in_lines-requires-clause-none c = λ own o at. (c.requires.none own o at).needs

pub leave-requires : goal.leave-requires
leave-requires c =
    let sync = c.in_ok-sync.sync in
    waits-within c.stand_in_lines.new.self.syncs.slots.items sync.index (record { generation = sync.generation; offers = c.args.offers.now }) (subst (λ (s : State). Waits s sync c.args.offers.now) (sym c.in-Err.ensures.state) c.in_ok-sync.ensures.ok.comes.comes)

pub returns-in-Ok-clause-sound : goal.returns-in-Ok-clause-sound
returns-in-Ok-clause-sound c =
    sound-comes (state_of c.args.self.now) (state_of c.place.new.self) (state_of c.stand_in_lines.new.self) (line_at c.args.self.now) (line_at c.stand_in_lines.new.self) c.in_ok-sync.sync c.args.offers.now c.requires.sound
    c.requires.taken.known c.requires.none c.in_ok-sync.ensures.ok.comes c.in-Ok.ensures.state c.in-Ok.ensures.ok

pub returns-in-Ok-clause-ok : goal.returns-in-Ok-clause-ok
returns-in-Ok-clause-ok c = subst (λ (s : State). Comes (state_of c.args.self.now) s c.in_ok-sync.sync c.args.offers.now) (sym c.in-Ok.ensures.state) c.in_ok-sync.ensures.ok.comes

pub returns-in-Err-clause-sound : goal.returns-in-Err-clause-sound
returns-in-Err-clause-sound c =
    let sync = c.in_ok-sync.sync in
    let stood = c.stand_in_lines.new.self in
    let err = c.in-Err.ensures.err in
    failed-sound (state_of c.args.self.now) (state_of c.place.new.self) _ (line_at stood) sync c.args.offers.now err.0 c.requires.sound.promise c.in_ok-sync.ensures.ok.comes
    (left-state stood c.leave.new.self.slots.items sync.index c.leave.ensures ∙ ap (λ (s : State). without s sync.index) c.in-Err.ensures.state) err.1

pub returns-in-Err-clause-err : goal.returns-in-Err-clause-err
returns-in-Err-clause-err c =
    let sync = c.in_ok-sync.sync in
    let stood = c.stand_in_lines.new.self in
    failed-keeps (state_of c.args.self.now) (state_of c.place.new.self) _ sync c.args.offers.now c.requires.sound.promise c.in_ok-sync.ensures.ok.comes
    (left-state stood c.leave.new.self.slots.items sync.index c.leave.ensures ∙ ap (λ (s : State). without s sync.index) c.in-Err.ensures.state)
