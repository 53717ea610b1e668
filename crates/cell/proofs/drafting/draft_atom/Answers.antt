use Rattle.std.proofs.Common.{◌+◌, ◌*◌, ◌≡◌, ◌∙◌, sym, subst, arith}
use Rattle.cell_table.specs.declared.view.View.{View}
use Rattle.cell_table.specs.Sight.{Redrafts}
use Rattle.cell.specs.Attempts.{OnlyDrafts}
use Rattle.cell_table.proofs.Offers.{atom_place}
use Rattle.cell.proofs.Redrafting.{one_draft, redrafts_word}
use Rattle.cell.proofs.drafting.draft_atom.Goals as goal

pub draft-requires-clause-place : goal.draft-requires-clause-place
draft-requires-clause-place g c =
    let few = c.requires.atom.0 in
    let low = c.requires.atom.1 in
    let high = c.requires.atom.2 in
    (omega arith, omega arith, atom_place c.args.k c.args.n c.args.word low high ∙ c.requires.atom.3)

pub returns-then-has-clause-made : goal.returns-then-has-clause-made
returns-then-has-clause-made g c =
    subst (λ (v : View _). OnlyDrafts c.args.row c.args.seat.now.me.0.made v.made) (sym c.draft.ensures.drafted)
    (one_draft c.args.row (2 + c.args.k + 4 * c.args.n) c.args.word c.args.seat.now.me.0.made)

pub returns-then-has-clause-others : goal.returns-then-has-clause-others
returns-then-has-clause-others g c =
    subst (λ (v : View _). Redrafts (λ q p. (q ≡ c.args.row) × (p ≡ 2 + c.args.k + 4 * c.args.n)) c.args.seat.now.me.0.seen v.seen) (sym c.draft.ensures.drafted)
    (redrafts_word c.args.row (2 + c.args.k + 4 * c.args.n) c.args.word c.args.seat.now.me.0.seen)
