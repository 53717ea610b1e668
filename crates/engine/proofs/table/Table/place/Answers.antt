use Rattle.std.proofs.Common.{refl, arith}
use Rattle.engine.specs.Tables.{line_at, state_of}
use Rattle.engine.proofs.Results.{on-err}
use Rattle.engine.proofs.Tabling.{comes-sits, keeps-waits, lined-sits, sound-waits}
use Rattle.engine.proofs.table.Table.place.Goals as goal

pub returns-in_err-index-clause-sound : goal.returns-in_err-index-clause-sound
returns-in_err-index-clause-sound c = on-err _ _ (sound-waits (state_of c.args.self.now) _ (line_at c.args.self.now) c.in_err-index.ensures.err refl refl refl c.requires)

pub returns-in_err-index-clause-err : goal.returns-in_err-index-clause-err
returns-in_err-index-clause-err c = on-err _ _ (keeps-waits (state_of c.args.self.now) _ c.in_err-index.ensures.err refl refl (omega arith))

pub returns-clause-ok : goal.returns-clause-ok
returns-clause-ok c =
    let next = c.in-Some.ensures in
    record {
      comes = comes-sits (state_of c.args.self.now) _ c.in_ok-index.index c.args.offers.now c.in_ok-index.ensures.ok refl refl (omega arith);
      unlisted = lined-sits (state_of c.args.self.now) _ _ (line_at c.args.self.now) c.in_ok-index.index c.args.offers.now c.in_ok-index.ensures.ok (omega arith) c.requires;
      next = omega arith;
    }
