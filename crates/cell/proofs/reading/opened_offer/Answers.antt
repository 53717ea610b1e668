use Rattle.std.proofs.Common.{rules, ◌≡◌, ◌+◌, ◌*◌, ◌<◌, None, Some, ℕ, sym, ◌∙◌, subst, arith, unwrap_or, Option}
use Rattle.protocol_values.specs.Words.{count_of}
use Rattle.protocol_values.specs.declared.Row.{Row}
use Rattle.cell_table.specs.Sight.{Has, Learns}
use Rattle.cell_table.proofs.Offers.{ReadOffer, count_and_head, head_place, offer_words, read_formed, read_have, seen_below, seen_same}
use Rattle.cell_table.proofs.Truths.{opened_words}
use Rattle.cell.proofs.Learning.{learns_then}
use Rattle.cell.proofs.reading.opened_offer.Goals as goal
use Rattle.cell.proofs.reading.opened_offer.Goals.{After-read_atom-third, After-read_offer}

pub returns-in_err-count-clause-same : goal.returns-in_err-count-clause-same
returns-in_err-count-clause-same g c o seen =
    let below = seen_below _ _ c.args.seat.now.me.0 _ c.args.row c.args.n c.read.result o c.read.ensures.read c.read.ensures.sits.1.3 seen in
    let none : count_of c.read.result ≡ None = (search rules) in
    let bad : c.args.n < 0 = subst (λ (x : Option ℕ). c.args.n < unwrap_or x 0) none below in
    absurd (omega arith)

pub returns-then-n-count-clause-same : goal.returns-then-n-count-clause-same
returns-then-n-count-clause-same g c o seen =
    let below = seen_below _ _ c.args.seat.now.me.0 _ c.args.row c.args.n c.read.result o c.read.ensures.read c.read.ensures.sits.1.3 seen in
    let some : count_of c.read.result ≡ Some c.in_ok-count.count = (search rules) in
    let bad : c.args.n < c.in_ok-count.count = subst (λ (x : Option ℕ). c.args.n < unwrap_or x 0) some below in
    absurd (omega (arith, c.if-n-count.true))

pub read_head-requires : goal.read_head-requires
read_head-requires g c =
    let has = count_and_head _ _ _ c.args.row c.args.n _ _ c.read.ensures.read c.read-head.ensures.read in
    sym (head_place c.args.n c.read-head.result) ∙ c.read-head.ensures.sits.1.3.formed c.args.row (2 + 4 * c.args.n) c.read-head.result has.1

words : (g : _) (c : After-read_atom-third g) → ReadOffer c.read_atom-third.new.seat.me.0.seen c.args.row c.args.n c.read.result c.read-head.result c.read_atom-first.result c.read_atom-second.result c.read_atom-third.result
words g c =
    let has = count_and_head _ _ _ c.args.row c.args.n _ _ c.read.ensures.read c.read-head.ensures.read in
    offer_words c.read-head.new.seat.me.0.seen c.read_atom-first.new.seat.me.0.seen c.read_atom-second.new.seat.me.0.seen c.read_atom-third.new.seat.me.0.seen c.args.row c.args.n _ _ _ _ _ c.read_head.result c.atoms_told-atoms.result
    has.0 has.1 c.read_head.ensures c.atoms_told-atoms.ensures
    c.read_atom-first.ensures.learns c.read_atom-second.ensures.learns c.read_atom-third.ensures.learns
    c.read_atom-first.ensures.read c.read_atom-second.ensures.read c.read_atom-third.ensures.read
    (c.read_atom-first.ensures.atom, c.read_atom-second.ensures.atom, c.read_atom-third.ensures.atom)

pub read_offer-requires : goal.read_offer-requires
read_offer-requires g c = read_formed _ _ c.read_atom-third.new.seat.me.0.seen c.args.row c.args.n _ _ _ _ _ c.read_atom-third.ensures.sits.1.3 (words g c)

below_count : (g : _) (c : After-read_offer g) → c.args.n < unwrap_or (count_of c.read.result) 0
below_count g c =
    let some : count_of c.read.result ≡ Some c.in_ok-count.count = (search rules) in
    subst (λ (x : Option ℕ). c.args.n < unwrap_or x 0) (sym some) (omega (arith, c.if-n-count.false))

is_opened : (g : _) (c : After-read_offer g) → Has c.read_atom-third.new.seat.me.0.seen.opened c.args.row
is_opened g c = (search rules)

pub returns-clause-some : goal.returns-clause-some
returns-clause-some g c = (is_opened g c, read_have _ c.args.row c.args.n _ _ _ _ _ c.read_offer.result (words g c.before) (below_count g c) c.read_offer.ensures)

pub returns-clause-same : goal.returns-clause-same
returns-clause-same g c o seen = sym c.read_offer.ensures ∙ seen_same _ _ c.read_atom-third.new.seat.me.0.seen c.args.row c.args.n _ _ _ _ _ o (words g c.before) c.read_atom-third.ensures.sits.1.3 seen

pub read-requires-clause-words : goal.read-requires-clause-words
read-requires-clause-words g c = opened_words c.args.board.now.shape.layout c.args.seat.now.me.0.seen c.args.row c.requires.0.9 c.requires.2

pub read-head-requires-clause-words : goal.read-head-requires-clause-words
read-head-requires-clause-words g c = opened_words c.args.board.now.shape.layout c.args.seat.now.me.0.seen c.args.row c.requires.0.9 c.requires.2

pub first_place-begin-requires : goal.first_place-begin-requires
first_place-begin-requires g c = (c.requires.1, opened_words c.args.board.now.shape.layout c.args.seat.now.me.0.seen c.args.row c.requires.0.9 c.requires.2)

pub returns-clause-learns : goal.returns-clause-learns
returns-clause-learns g c =
    let Own : Row → Type 0 = λ q. q ≡ c.args.row in
    let to_head : Learns Own c.args.seat.now.me.0.seen c.read-head.new.seat.me.0.seen = (search rules) in
    let to_first = learns_then Own _ _ _ to_head c.read_atom-first.ensures.learns in
    learns_then Own _ _ _ (learns_then Own _ _ _ to_first c.read_atom-second.ensures.learns) c.read_atom-third.ensures.learns
