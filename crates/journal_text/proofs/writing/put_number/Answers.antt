use Rattle.std.proofs.Common.{arith}
use Rattle.std.proofs.lemmas.Fmt.{length-decimal-le}
use Rattle.journal_text.proofs.writing.put_number.Goals as goal

pub write_digits-requires : goal.write_digits-requires
write_digits-requires c = (let short = length-decimal-le 10 c.from.result (omega arith) (omega arith) (omega arith) in (omega arith, omega arith))

pub returns-clause-width : goal.returns-clause-width
returns-clause-width c = (let short = length-decimal-le 10 c.from.result (omega arith) (omega arith) (omega arith) in (omega (arith, c.write_digits.ensures.start), omega (arith, c.write_digits.ensures.start)))
