use Rattle.std.proofs.Common.{sym, ap, ◌∙◌}
use Rattle.std.specs.Prelude.{option_and_then}
use Rattle.protocol_ledger.specs.Ledgers.{commit_named}
use Rattle.protocol_ledger.specs.Tables.{offer_at}
use Rattle.protocol_ledger.specs.Sheets.{table_of}
use Rattle.protocol_ledger.proofs.sheet.Sheet.named.Goals as goal

pub returns-in_err-joined : goal.returns-in_err-joined
returns-in_err-joined c =
    c.from_residual.ensures ∙ sym (ap (option_and_then (commit_named (offer_at (table_of c.args.self.now)) c.args.row)) (sym c.joined.ensures ∙ c.in_err-joined.was))

pub returns : goal.returns
returns c =
    c.commit_named.ensures ∙ sym (ap (option_and_then (commit_named (offer_at (table_of c.args.self.now)) c.args.row)) (sym c.in_ok-joined.ensures))
