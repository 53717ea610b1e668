use Rattle.std.proofs.Common.{rules, ◌≡◌, ◌≢◌, sym, subst, refl, inl}
use Rattle.protocol_values.specs.declared.Cell.TheVariants.{Synched}
use Rattle.cell_table.specs.declared.view.View.{View}
use Rattle.cell_table.specs.Sight.{Has, Learns}
use Rattle.cell_table.specs.Told.{Agrees}
use Rattle.cell_table.specs.Views.{saw}
use Rattle.cell.proofs.Learning.{learns_then, learns_look}
use Rattle.cell.proofs.Alone.{taken_found}
use Rattle.cell_table.proofs.Standing.{comes_from}
use Rattle.cell_table.proofs.Truths.{opened_words}
use Rattle.cell.proofs.taking.take_row.Goals as goal

pub take_committed-requires-clause-range : goal.take_committed-requires-clause-range
take_committed-requires-clause-range g c =
    let saw_it : c.look.new.seat.me.0 ≡ saw c.args.row (Synched c.in-Synched.joined) c.args.seat.now.me.0 = (search rules) in
    c.look.ensures.sits.1.3.in_range c.args.row c.in-Synched.joined (subst (λ (v : View _). Has v.seen.joined (c.args.row, c.in-Synched.joined)) (sym saw_it) (inl refl))

pub returns-in-Err-clause-none : goal.returns-in-Err-clause-none
returns-in-Err-clause-none g c =
    let saw_it : c.look.new.seat.me.0 ≡ saw c.args.row (Synched c.in-Synched.joined) c.args.seat.now.me.0 = (search rules) in
    let found : c.take_committed.new.seat.me.0 ≡ saw c.args.row c.in-Err.field-0 c.look.new.seat.me.0 = (search rules) in
    let other : c.in-Err.field-0 ≢ Synched c.in-Synched.joined = (search rules) in
    let agree : Agrees c.look.new.seat.me.0 c.args.row c.in-Err.field-0 = (search rules) in
    let has : Has c.look.new.seat.me.0.seen.joined (c.args.row, c.in-Synched.joined) = subst (λ (v : View _). Has v.seen.joined (c.args.row, c.in-Synched.joined)) (sym saw_it) (inl refl) in (
      learns_then (λ q. q ≡ c.args.row) c.args.seat.now.me.0.seen c.look.new.seat.me.0.seen c.take_committed.new.seat.me.0.seen
          (subst (λ (v : View _). Learns (λ q. q ≡ c.args.row) c.args.seat.now.me.0.seen v.seen) (sym saw_it) (learns_look c.args.row (Synched c.in-Synched.joined) c.args.seat.now.me.0.seen))
          (subst (λ (v : View _). Learns (λ q. q ≡ c.args.row) c.look.new.seat.me.0.seen v.seen) (sym found) (learns_look c.args.row c.in-Err.field-0 c.look.new.seat.me.0.seen)),
      λ committed. subst (λ (v : View _). Has v.seen.taken c.args.row) (sym found) (taken_found c.look.new.seat.me.0 c.args.row c.in-Synched.joined c.in-Err.field-0 has other agree),
    )

pub returns-in-Ok-clause-out : goal.returns-in-Ok-clause-out
returns-in-Ok-clause-out g c =
    let saw_it : c.look.new.seat.me.0 ≡ saw c.args.row (Synched c.in-Synched.joined) c.args.seat.now.me.0 = (search rules) in
    let took = c.in-Ok.ensures.took in (
      took.0,
      subst (λ (v : View _). Has v.results (c.args.row.thread, took.0)) (sym took.2) (inl refl),
      took.1,
      comes_from g.M.Resident.stands c.args.board.now.shape.first.value.items c.args.seat.now.me.0.seen c.look.new.seat.me.0.seen c.take_committed.new.seat.me.0.seen c.args.row c.in-Synched.joined.own took.0 c.look.new.seat.me.1 c.args.seat.now.me.1 c.take_committed.new.seat.me.1
          (subst (λ (v : View _). Learns (λ q. q ≡ c.args.row) c.args.seat.now.me.0.seen v.seen) (sym saw_it) (learns_look c.args.row (Synched c.in-Synched.joined) c.args.seat.now.me.0.seen))
          c.look.ensures.sits.2 took.3,
    )

pub returns-in-Ok-clause-some : goal.returns-in-Ok-clause-some
returns-in-Ok-clause-some g c = record {
  untaken = search rules;
  taken = search rules;
  joined = search rules;
  held = search rules;
  drafts = search rules;
  lasts = search rules;
  next = search rules;
  alive = search rules;
  free = search rules;
  opened = search rules;
  words = search rules;
  joins = search rules;
  takes = search rules;
  bound = search rules;
  carried = search rules;
  begun = search rules;
  started = search rules;
  ended = search rules;
}

pub take_committed-requires-clause-words : goal.take_committed-requires-clause-words
take_committed-requires-clause-words g c =
    let saw_it : c.look.new.seat.me.0 ≡ saw c.args.row (Synched c.in-Synched.joined) c.args.seat.now.me.0 = (search rules) in
    opened_words c.args.board.now.shape.layout c.look.new.seat.me.0.seen c.args.row c.look.ensures.sits.1.9 (subst (λ (v : View _). Has v.seen.opened c.args.row) (sym saw_it) (inl refl))
