use Rattle.std.proofs.Common.{rules, ◌≡◌, ℕ, length, ◌++◌, ◌∷◌, [], sym, ap, subst, ◌∙◌}
use Rattle.protocol_ledger.specs.Openings.{opening_of}
use Rattle.cell_table.specs.declared.view.Shape.{Shape}
use Rattle.protocol_ledger.specs.declared.layout.Layout.{Layout}
use Rattle.cell.specs.Calls.{AllHaveWords, PassOf}
use Rattle.cell_table.specs.Rule.{dealer, dealt_from, dealt_pass, seen_nothing}
use Rattle.cell_table.specs.Sight.{AreSettled, Coherent, OpenHaveWords}
use Rattle.cell_table.specs.Views.{opening_in}
use Rattle.cell_table.proofs.Dealing.{each_more, nothing_agrees, nothing_open}
use Rattle.cell.proofs.cells.Cells.next_of.Goals as goal

pub loop-number-preserved : goal.loop-number-preserved
loop-number-preserved g c =
    let shape : Shape g.row.M.Denot = c.in_ok-board.board.shape in
    let dealt : c.deal-seat.result.me ≡ (dealt_pass (dealer shape c.loop-number.number), []) =
    c.deal-seat.ensures.pass.1
    ∙ ap (λ (n : ℕ). (dealt_pass (dealer shape n), [])) (let e : c.from-in-loop-number.result ≡ c.loop-number.number = (search rules) in e) in
    let id : c.deal-seat.result.table_id ≡ c.in_ok-board.board.words.shared.table_id = (search rules) in
    let pass : PassOf g.row.M.Denot = record { of = record { id = c.deal-seat.result.table_id; threads = c.deal-seat.result.me.0.threads; rows = c.deal-seat.result.me.0.rows; layout = c.deal-seat.result.me.0.layout; passes = c.deal-seat.result.me.0.passes; lives = c.deal-seat.result.me.0.lives; nacks = c.deal-seat.result.me.0.nacks; first = c.deal-seat.result.me.0.first }; seen = c.deal-seat.result.me.0.seen; made = c.deal-seat.result.me.0.made; results = c.deal-seat.result.me.0.results; out = c.deal-seat.result.me.1 } in
    let pushed : c.push.new.self.items ≡ c.loop-number.dealt.items ++ pass ∷ [] = (search rules) in
    record {
      here = (search rules);
      dealer = (search rules);
      passes = (search rules);
      count = (search rules);
      each = each_more (λ (k : ℕ) (p : PassOf g.row.M.Denot). p ≡ record { of = record { id = c.in_ok-board.board.words.shared.table_id; threads = shape.threads; rows = shape.rows; layout = shape.layout; passes = shape.passes; lives = (opening_in shape).threads; nacks = (opening_in shape).nacks; first = shape.first.value.items }; seen = seen_nothing (dealt_from (opening_in shape) shape.threads shape.passes k); made = []; results = []; out = [] })
          c.loop-number.dealt.items c.push.new.self.items pass c.loop-number.number c.loop-number.invariant.count pushed
          (λ i. record { of = record { id = id i; threads = (dealt i).0.threads; rows = (dealt i).0.rows; layout = (dealt i).0.layout; passes = (dealt i).0.passes; lives = (dealt i).0.lives; nacks = (dealt i).0.nacks; first = (dealt i).0.first }; seen = (dealt i).0.seen; made = (dealt i).0.made; results = (dealt i).0.results; out = (dealt i).1 })
          c.loop-number.invariant.each;
    }

-- each pass is one of this table's
pub returns-clause-passes : goal.returns-clause-passes
returns-clause-passes g c number pass e =
    let is = c.loop-number.invariant.each number pass e in
    let shape : Shape g.row.M.Denot = c.in_ok-board.board.shape in
    let opening : opening_in shape ≡ opening_of c.args.opening.now = c.loop-number.invariant.passes.1 in
    let threads : shape.threads ≡ length c.args.opening.now.threads.items = (search rules) in
    let passes : shape.passes ≡ c.args.passes = (search rules) in (
      (
        ap (λ (p : PassOf g.row.M.Denot). p.of.id) is,
        ap (λ (p : PassOf g.row.M.Denot). p.of.threads) is,
        ap (λ (p : PassOf g.row.M.Denot). p.of.rows) is,
        ap (λ (p : PassOf g.row.M.Denot). p.of.passes) is,
        subst (λ (p : PassOf g.row.M.Denot). Coherent shape.threads shape.rows p.seen) (sym is) (nothing_agrees _ _ (dealt_from (opening_in shape) shape.threads shape.passes number)),
        ap (λ (p : PassOf g.row.M.Denot). p.of.first) is,
        ap (λ (p : PassOf g.row.M.Denot). p.of.lives) is,
        ap (λ (p : PassOf g.row.M.Denot). p.of.nacks) is,
        subst (λ (p : PassOf g.row.M.Denot). AreSettled (opening_in shape) p.seen) (sym is) (λ n stamp h. absurd h),
        ap (λ (p : PassOf g.row.M.Denot). p.of.layout) is,
        subst (λ (p : PassOf g.row.M.Denot). OpenHaveWords shape.layout p.seen) (sym is) (nothing_open shape.layout (dealt_from (opening_in shape) shape.threads shape.passes number)),
      ),
      ap (λ (p : PassOf g.row.M.Denot). p.seen) is ∙ (λ i. seen_nothing (dealt_from (opening i) (threads i) (passes i) number)),
      ap (λ (p : PassOf g.row.M.Denot). p.made) is,
    )

pub returns-clause-results : goal.returns-clause-results
returns-clause-results g c number pass e =
    let is = c.loop-number.invariant.each number pass e in
    (ap (λ (p : PassOf g.row.M.Denot). p.results) is, ap (λ (p : PassOf g.row.M.Denot). p.out) is)

-- as many words are spare as the table has
pub invariant_of-result : goal.invariant_of-result
invariant_of-result g c =
    let words = c.in_ok-spare.ensures.sized in
    let size : c.in_ok-board.board.shape.threads ≡ length c.args.opening.now.threads.items = (search rules) in
    let rows : c.in_ok-board.board.shape.rows ≡ c.args.rows = (search rules) in
    let same : c.in_ok-board.board.shape.layout ≡ c.args.layout = (search rules) in
    (words ∙ (search rules), search rules, search rules, search rules, λ whole. subst (λ (z : Layout × ℕ × ℕ). AllHaveWords z.0 z.1 z.2) (λ i. (sym same i, sym size i, sym rows i)) (c.requires.whole whole))
