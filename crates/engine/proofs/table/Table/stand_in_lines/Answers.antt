use Rattle.std.proofs.Common.{◌∙◌, ℕ}
use Rattle.std.proofs.lemmas.Option.{slice_get-get_or}
use Rattle.engine.specs.Lines.{Lined}
use Rattle.engine.specs.Tables.{line_at, state_of}
use Rattle.engine.proofs.Lining.{lined-sifts}
use Rattle.engine.proofs.Results.{on-err}
use Rattle.engine.proofs.Sounding.{adds-one}
use Rattle.engine.proofs.Tabling.{adds-in, known-then, sifts-in}
use Rattle.engine.proofs.table.Table.stand_in_lines.Goals as goal

pub stand_in_line-requires-clause-known : goal.stand_in_line-requires-clause-known
stand_in_line-requires-clause-known c =
    let at = slice_get-get_or c.args.offers.now c.loop-own.own _ c.loop-own-test.true in
    known-then (state_of c.loop-own.self) (state_of c.args.self.now) _ c.loop-own.invariant.state (c.requires.known c.loop-own.own _ at)

pub stand_in_line-requires-clause-needs : goal.stand_in_line-requires-clause-needs
stand_in_line-requires-clause-needs c = c.requires.none c.loop-own.own _ (slice_get-get_or c.args.offers.now c.loop-own.own _ c.loop-own-test.true)

pub returns-in_err-stand_in_line-clause-err : goal.returns-in_err-stand_in_line-clause-err
returns-in_err-stand_in_line-clause-err c =
    let s = state_of c.args.self.now in
    let sifts = sifts-in (state_of c.loop-own.self) s _ _ c.loop-own.invariant.state c.in_err-stand_in_line.ensures.err in
    let lined = lined-sifts s.places s.next (line_at c.loop-own.self) (line_at c.stand_in_line.new.self) _ c.args.sync.index c.loop-own.own c.in_err-stand_in_line.ensures.same.lines sifts c.loop-own.invariant.lined in
    let here : (from : ℕ) × Lined s.places s.next (line_at c.stand_in_line.new.self) c.args.sync.index from = (c.loop-own.own, lined) in
    on-err _ _ here

pub loop-own-preserved : goal.loop-own-preserved
loop-own-preserved c =
    let s = state_of c.args.self.now in
    let at = slice_get-get_or c.args.offers.now c.loop-own.own _ c.loop-own-test.true in
    record {
      lined = adds-one s.places s.next c.args.sync.generation (line_at c.loop-own.self) (line_at c.stand_in_line.new.self) c.args.offers.now _ c.args.sync.index c.loop-own.own c.requires.next c.requires.waits at
          c.in_ok-stand_in_line.ensures.same.lines (adds-in (state_of c.loop-own.self) s _ _ _ c.loop-own.invariant.state c.in_ok-stand_in_line.ensures.ok) c.loop-own.invariant.lined;
      state = c.in_ok-stand_in_line.ensures.same.state ∙ c.loop-own.invariant.state;
    }
