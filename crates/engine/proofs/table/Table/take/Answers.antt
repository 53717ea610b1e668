use Rattle.std.proofs.Common.{sym, subst}
use Rattle.engine.specs.Lines.{WaitsAt}
use Rattle.engine.specs.States.{State, Sync}
use Rattle.engine.specs.Tables.{line_at, state_of}
use Rattle.engine.proofs.Listing.{lives-waits}
use Rattle.engine.proofs.Sounding.{left-state, waits-within}
use Rattle.engine.proofs.Tabling.{nobody-none, oldest-first, sound-none, sound-taken, taken-leaves}
use Rattle.engine.proofs.table.Table.take.Goals as goal

pub leave-requires : goal.leave-requires
leave-requires c =
    let waiting = c.in_ok-waiting.waiting in
    let w = lives-waits (state_of c.args.self.now).places waiting c.in_ok-waiting.ensures.pops.live in
    let sync : Sync = record { generation = waiting.ticket; offers = w.0 } in
    waits-within c.take_from_line.new.self.syncs.slots.items waiting.who.place sync (subst (λ (s : State). WaitsAt s.places waiting.who.place sync) (sym c.in_ok-waiting.ensures.same.state) w.1)

pub returns-in_err-waiting-clause-sound : goal.returns-in_err-waiting-clause-sound
returns-in_err-waiting-clause-sound c =
    let same = c.in_err-waiting.ensures.same in
    sound-none (state_of c.args.self.now) (state_of c.take_from_line.new.self) (line_at c.args.self.now) (line_at c.take_from_line.new.self) c.args.theirs same.state same.lines c.in_err-waiting.ensures.pops c.requires.sound

pub returns-in_err-waiting-clause-takes : goal.returns-in_err-waiting-clause-takes
returns-in_err-waiting-clause-takes c =
    rw c.from_residual.ensures
    (c.in_err-waiting.ensures.same.state, nobody-none (state_of c.args.self.now) (line_at c.args.self.now) (line_at c.take_from_line.new.self) c.args.theirs c.in_err-waiting.ensures.pops c.requires.sound)

pub returns-clause-sound : goal.returns-clause-sound
returns-clause-sound c =
    let same = c.in_ok-waiting.ensures.same in
    let mid = c.take_from_line.new.self in
    let waiting = c.in_ok-waiting.waiting in
    sound-taken (state_of c.args.self.now) (state_of mid) _ (line_at c.args.self.now) (line_at mid) c.args.theirs waiting same.state (left-state mid c.leave.new.self.slots.items waiting.who.place c.leave.ensures) same.lines
    c.in_ok-waiting.ensures.pops c.requires.sound

pub returns-clause-takes : goal.returns-clause-takes
returns-clause-takes c =
    let same = c.in_ok-waiting.ensures.same in
    let mid = c.take_from_line.new.self in
    let waiting = c.in_ok-waiting.waiting in (
      oldest-first (state_of c.args.self.now) (line_at c.args.self.now) c.args.theirs (line_at mid c.args.theirs) waiting c.requires.sound c.in_ok-waiting.ensures.pops,
      taken-leaves (state_of c.args.self.now) (state_of mid) _ (line_at c.args.self.now) (line_at mid) c.args.theirs waiting same.state (left-state mid c.leave.new.self.slots.items waiting.who.place c.leave.ensures)
          c.in_ok-waiting.ensures.pops c.requires.sound,
    )
