use Rattle.std.proofs.Common.{rules}
use Rattle.meet_directory.proofs.Bits.{next_bit_from, no_bit_from}
use Rattle.meet_directory.proofs.steps.next_thread.Goals as goal

pub returns-then-rest-eq0 : goal.returns-then-rest-eq0
returns-then-rest-eq0 c = no_bit_from c.args.word c.args.from (search rules)

pub returns : goal.returns
returns c = next_bit_from c.args.word c.args.from (search rules) (search rules) (search rules)
