use Rattle.std.proofs.Common.{rules, ◌≡◌, ◌+◌, ◌*◌, ◌<◌, None, Some, ℕ, sym, inl, ap, ◌∙◌, subst, arith, refl, unwrap_or, Option}
use Rattle.protocol_values.specs.Words.{count_of}
use Rattle.protocol_values.specs.declared.Direction.{Direction}
use Rattle.protocol_values.specs.declared.Row.{Row}
use Rattle.cell_table.specs.declared.view.View.{View}
use Rattle.cell_table.specs.Sight.{Has}
use Rattle.cell_table.specs.Views.{read_word}
use Rattle.cell_table.proofs.Directions.{direction_below, direction_same}
use Rattle.cell_table.proofs.Offers.{count_and_head, head_place}
use Rattle.cell_table.proofs.Truths.{opened_words}
use Rattle.cell.proofs.reading.opened_direction.Goals as goal
use Rattle.cell.proofs.reading.opened_direction.Goals.{After-read_head}

-- the number that was read
counted : {M : Type 0} (r : Row) (count : ℕ) (v w : View M) → w ≡ read_word r 1 count v → Has w.seen.words (r, 1, count)
counted r count v w e = subst (λ (u : View _). Has u.seen.words (r, 1, count)) (sym e) (inl refl)

pub returns-in_err-count-clause-same : goal.returns-in_err-count-clause-same
returns-in_err-count-clause-same g c d seen =
    let below = direction_below _ _ c.read.new.seat.me.0.seen c.read.ensures.sits.1.3 c.args.row c.args.n d c.read.result (counted c.args.row c.read.result c.args.seat.now.me.0 c.read.new.seat.me.0 c.read.ensures.read) seen in
    let none : count_of c.read.result ≡ None = (search rules) in
    let bad : c.args.n < 0 = subst (λ (x : Option ℕ). c.args.n < unwrap_or x 0) none below in
    absurd (omega arith)

pub returns-then-n-count-clause-same : goal.returns-then-n-count-clause-same
returns-then-n-count-clause-same g c d seen =
    let below = direction_below _ _ c.read.new.seat.me.0.seen c.read.ensures.sits.1.3 c.args.row c.args.n d c.read.result (counted c.args.row c.read.result c.args.seat.now.me.0 c.read.new.seat.me.0 c.read.ensures.read) seen in
    let some : count_of c.read.result ≡ Some c.in_ok-count.count = (search rules) in
    let bad : c.args.n < c.in_ok-count.count = subst (λ (x : Option ℕ). c.args.n < unwrap_or x 0) some below in
    absurd (omega (arith, c.if-n-count.true))

words : (g : _) (c : After-read_head g) → Has c.read-head.new.seat.me.0.seen.words (c.args.row, 1, c.read.result) × Has c.read-head.new.seat.me.0.seen.words (c.args.row, 2 + 4 * c.args.n, c.read-head.result)
words g c = count_and_head _ _ _ c.args.row c.args.n _ _ c.read.ensures.read c.read-head.ensures.read

pub read_head-requires : goal.read_head-requires
read_head-requires g c =
    let has = count_and_head _ _ _ c.args.row c.args.n _ _ c.read.ensures.read c.read-head.ensures.read in
    sym (head_place c.args.n c.read-head.result) ∙ c.read-head.ensures.sits.1.3.formed c.args.row (2 + 4 * c.args.n) c.read-head.result has.1

pub returns-clause-some : goal.returns-clause-some
returns-clause-some g c =
    let some : count_of c.read.result ≡ Some c.in_ok-count.count = (search rules) in (
      (search rules),
      record {
        count = c.read.result;
        counted = (words g c).0;
        below = subst (λ (x : Option ℕ). c.args.n < unwrap_or x 0) (sym some) (omega (arith, c.if-n-count.false));
        head = c.read-head.result;
        has_head = (words g c).1;
        scopes = c.read_head.result.scopes;
        is = c.read_head.ensures;
      },
    )

pub returns-clause-same : goal.returns-clause-same
returns-clause-same g c d seen =
    ap (λ (x : Direction). Some x)
    (direction_same _ _ c.read-head.new.seat.me.0.seen c.read-head.ensures.sits.1.3 c.args.row c.args.n d c.read-head.result c.read_head.result (words g c).1 c.read_head.ensures seen)

pub read-requires-clause-words : goal.read-requires-clause-words
read-requires-clause-words g c = opened_words c.args.board.now.shape.layout c.args.seat.now.me.0.seen c.args.row c.requires.0.9 c.requires.2

pub read-head-requires-clause-words : goal.read-head-requires-clause-words
read-head-requires-clause-words g c = opened_words c.args.board.now.shape.layout c.args.seat.now.me.0.seen c.args.row c.requires.0.9 c.requires.2

pub first_place-begin-requires : goal.first_place-begin-requires
first_place-begin-requires g c = (c.requires.1, opened_words c.args.board.now.shape.layout c.args.seat.now.me.0.seen c.args.row c.requires.0.9 c.requires.2)
