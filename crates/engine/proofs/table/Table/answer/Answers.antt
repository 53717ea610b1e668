use Rattle.std.proofs.Common.{◌∙◌, sym}
use Rattle.engine.specs.Tables.{state_of}
use Rattle.engine.proofs.Tabling.{not-ready-side}
use Rattle.engine.proofs.table.Table.answer.Goals as goal

pub returns-in_err-taken-in-Send-clause-tries : goal.returns-in_err-taken-in-Send-clause-tries
returns-in_err-taken-in-Send-clause-tries c =
    let takes = c.in_err-taken-in-Send.ensures.takes in
    rw c.from_residual-in_err-taken-in-Send.ensures (takes.0, not-ready-side (state_of c.args.self.now) c.args.offer _ (sym c.other_side.ensures ∙ c.in_ok-other_side-in-Send.was) takes.1)
