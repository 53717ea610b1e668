use Rattle.std.proofs.Common.{◌≡◌, ◌≢◌, ◌∙◌, ap, eqb, rules, subst, sym, ℕ}
use mathlib.Core.Option.{none}
use prog.Atomic.{either}
use Rattle.atomic_table.specs.Table.{Allows, step}
use Rattle.cell_table.specs.declared.view.Shape.{Shape}
use Rattle.cell_table.specs.Rule.{Keeps}
use Rattle.protocol_values.specs.declared.NackWord.TheVariants.{Unbound}
use Rattle.cell_table.specs.Told.{FoundNack, nack_read, tried_bind}
use Rattle.cell_table.specs.Views.{saw_nack}
use Rattle.cell_table.proofs.Allowing.{sits_still}
use Rattle.cell_table.proofs.Binding.{bind_allowed, looked_same}
use Rattle.cell_table.proofs.board.Board.bind_nack.Goals as goal

pub compare_exchange-found-requires : goal.compare_exchange-found-requires
compare_exchange-found-requires g c = (
  search rules,
  search rules,
  subst (λ (z : Shape g.row.M.Denot × ℕ × ℕ). Allows (Keeps g.M.Resident.stands z.0) c.args.self.now.words.shared.table_id.slots c.args.seat.now.id c.args.seat.now.me c.nack_place.result (λ n. either (eqb n z.1) z.2 n) (tried_bind g.M.Resident.stands (step c.args.self.now.words.shared.table_id.slots c.nack_place.result z.1 z.2 none) c.args.seat.now.me)) (λ i. (sym c.args.self.now.keyed i, sym c.pack_nack-free.ensures i, sym c.pack_nack-word.ensures i))
      (bind_allowed g.M.Resident.stands c.args.self.now.shape c.args.self.now.words.shared.table_id.slots c.args.seat.now.id c.nack_place.result c.args.seat.now.me c.args.nack (search rules) (search rules) (search rules) (search rules) c.args.bound c.requires.range c.requires.resting (search rules) (search rules) c.requires.alive (search rules)),
)

pub returns-in-Unbound-clause-sits : goal.returns-in-Unbound-clause-sits
returns-in-Unbound-clause-sits g c =
    let told = c.compare_exchange-found.ensures.2 c.args.nack c.args.bound (search rules) c.requires.range c.pack_nack-word.ensures in
    let free : nack_read c.compare_exchange-found.result ≡ Unbound = (search rules) in
    let is = (told.0 free).0 in
    ((search rules), sits_still c.args.self.now c.args.seat.now c.compare_exchange-found.new.seat (search rules) (search rules) (ap (λ z. z.0.threads) is) (ap (λ z. z.0.rows) is) (ap (λ z. z.0.layout) is) (ap (λ z. z.0.first) is) (ap (λ z. z.0.lives) is) (ap (λ z. z.0.nacks) is) told.2, ap (λ z. z.1) is)

pub returns-in-Unbound-clause-bound : goal.returns-in-Unbound-clause-bound
returns-in-Unbound-clause-bound g c =
    let told = c.compare_exchange-found.ensures.2 c.args.nack c.args.bound (search rules) c.requires.range c.pack_nack-word.ensures in
    let free : nack_read c.compare_exchange-found.result ≡ Unbound = (search rules) in
    let is = told.0 free in
    (ap (λ z. z.0) is.0, is.1, is.2)

pub returns-in_default : goal.returns-in_default
returns-in_default g c =
    let told = c.compare_exchange-found.ensures.2 c.args.nack c.args.bound (search rules) c.requires.range c.pack_nack-word.ensures in
    let says : nack_read c.compare_exchange-found.result ≡ c.nack_in.result = (search rules) in
    let other : c.nack_in.result ≢ Unbound = c.in_default.not-Unbound in
    let found = told.1 (λ e. other (sym says ∙ e)) in
    let same = looked_same c.args.nack (nack_read c.compare_exchange-found.result) c.args.seat.now.me.0 in
    record {
      sits = ((search rules), sits_still c.args.self.now c.args.seat.now c.compare_exchange-found.new.seat (search rules) (search rules) (ap (λ z. z.0.threads) found.0 ∙ same.0) (ap (λ z. z.0.rows) found.0 ∙ same.1) (ap (λ z. z.0.layout) found.0 ∙ same.5) (ap (λ z. z.0.first) found.0 ∙ same.2) (ap (λ z. z.0.lives) found.0 ∙ same.3) (ap (λ z. z.0.nacks) found.0 ∙ same.4) told.2, ap (λ z. z.1) found.0);
      bound = tt;
      found = (
        other,
        ap (λ z. z.0) found.0 ∙ ap (λ w. saw_nack c.args.nack w c.args.seat.now.me.0) says,
        subst (FoundNack g.M.Resident.stands c.args.seat.now.me.0 c.args.nack c.args.bound) says found.1,
      );
    }
