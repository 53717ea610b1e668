use Rattle.std.proofs.Common.{rules}
use Rattle.script_token.proofs.kind.number.Goals as goal

pub returns : goal.returns
returns c = search rules
