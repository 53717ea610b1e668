use Rattle.std.proofs.Common.{sym}
use Rattle.script_token.proofs.Names.{IsUtf8-from_name}
use Rattle.script_token.proofs.kind.name.Goals as goal

pub returns-in-Err : goal.returns-in-Err
returns-in-Err c = absurd (c.in-Err.ensures.cases.0 (IsUtf8-from_name c.args.text.now (sym c.if-not-is_name.ensures)))
