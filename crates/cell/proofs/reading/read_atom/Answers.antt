use Rattle.std.proofs.Common.{◌+◌, ◌*◌, ℕ, sym, inl, ◌∙◌, subst, refl}
use Rattle.protocol_values.specs.Words.{atom_of, atom_word}
use Rattle.cell_table.specs.declared.view.View.{View}
use Rattle.cell_table.specs.Sight.{Has}
use Rattle.cell_table.proofs.Offers.{atom_place}
use Rattle.cell_table.proofs.Truths.{opened_words}
use Rattle.cell.proofs.reading.read_atom.Goals as goal

-- the atom stands at its place, and the table's words are well-formed
pub returns-then-has-clause-atom : goal.returns-then-has-clause-atom
returns-then-has-clause-atom g c =
    let place : ℕ = 2 + c.args.k + 4 * c.args.n in
    let has : Has c.read.new.seat.me.0.seen.words (c.args.row, place, c.read.result) =
    subst (λ (v : View _). Has v.seen.words (c.args.row, place, c.read.result)) (sym c.read.ensures.read) (inl refl) in
    sym (atom_place c.args.k c.args.n c.read.result c.requires.place.1 c.requires.place.2) ∙ c.read.ensures.sits.1.3.formed c.args.row place c.read.result has

pub returns-else-has-clause-atom : goal.returns-else-has-clause-atom
unfolding atom_of atom_word
returns-else-has-clause-atom g c = refl

pub read-requires-clause-words : goal.read-requires-clause-words
read-requires-clause-words g c = opened_words c.args.board.now.shape.layout c.args.seat.now.me.0.seen c.args.row c.requires.sits.0.9 c.requires.sits.2
