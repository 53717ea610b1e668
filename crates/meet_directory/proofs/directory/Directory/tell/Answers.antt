use Rattle.std.proofs.Common.{arith, ⊎_elim, inr, subst, sym, ap, ◌∙◌}
use Rattle.meet_directory.specs.Directory.{Has}
use Rattle.meet_directory.proofs.Keeping.{has_left, has_right, no_pair_missed, nothing_overlooked}
use Rattle.meet_directory.proofs.Sitting.{some_words, tells, hears, glances}
use Rattle.meet_directory.proofs.directory.Directory.tell.Goals as goal

pub split_seat-told-requires : goal.split_seat-told-requires
split_seat-told-requires c = (c.requires.sits.0.0, some_words c.args.self.now, tells c.args.self.now c.args.from.now)

pub join_seat-requires : goal.join_seat-requires
join_seat-requires c = let told = c.split_seat-told.ensures in (
  c.requires.sits.1.0,
  told.3 ∙ c.requires.sits.0.0,
  ap (λ m. m.1) told.4,
  some_words c.args.self.now,
  hears c.args.self.now c.args.to.now c.split_seat-told.result,
)

pub load-requires : goal.load-requires
load-requires c = (c.join_seat.ensures.0 ∙ c.requires.sits.1.0, some_words c.args.self.now, glances c.args.self.now c.join_seat.new.seat 0 (omega arith))

pub returns-clause-looks : goal.returns-clause-looks
returns-clause-looks c a h =
    let told = ap (λ m. m.0.looks) c.split_seat-told.ensures.4 in
    let both = ap (λ m. m.0.looks) c.join_seat.ensures.2 in
    let seen = ap (λ m. m.0.looks) c.load.ensures.2.0 in
    subst (λ xs. Has xs a) (sym seen) (inr (subst (λ xs. Has xs a) (sym both) (⊎_elim
    (λ (x : Has c.args.from.now.me.0.looks a). has_right c.args.to.now.me.0.looks c.split_seat-told.result.me.0.looks a (subst (λ xs. Has xs a) (sym told) x))
    (λ (y : Has c.args.to.now.me.0.looks a). has_left c.args.to.now.me.0.looks c.split_seat-told.result.me.0.looks a y)
    h)))

pub returns-clause-marks : goal.returns-clause-marks
returns-clause-marks c a h =
    let told = ap (λ m. m.0.marks) c.split_seat-told.ensures.4 in
    let both = ap (λ m. m.0.marks) c.join_seat.ensures.2 in
    let seen = ap (λ m. m.0.marks) c.load.ensures.2.0 in
    subst (λ xs. Has xs a) (sym seen) (inr (subst (λ xs. Has xs a) (sym both) (⊎_elim
    (λ (x : Has c.args.from.now.me.0.marks a). has_right c.args.to.now.me.0.marks c.split_seat-told.result.me.0.marks a (subst (λ xs. Has xs a) (sym told) x))
    (λ (y : Has c.args.to.now.me.0.marks a). has_left c.args.to.now.me.0.marks c.split_seat-told.result.me.0.marks a y)
    h)))

pub returns-clause-no_pair_missed : goal.returns-clause-no_pair_missed
returns-clause-no_pair_missed c = no_pair_missed c.load.new.seat.me.0 c.load.ensures.2.1

pub returns-clause-nothing_overlooked : goal.returns-clause-nothing_overlooked
returns-clause-nothing_overlooked c = nothing_overlooked c.load.new.seat.me.0 c.load.ensures.2.1
