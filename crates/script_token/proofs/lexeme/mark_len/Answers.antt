use Rattle.std.proofs.Common.{◌≡◌, eqb, false, get_or, refl, ap, arith, tests}
use Rattle.script_token.proofs.Numerals.{and_false}
use Rattle.std.proofs.lemmas.List.{get_or_past}
use Rattle.script_token.proofs.Cutting.{mark_one, mark_arrow}
use Rattle.script_token.proofs.lexeme.mark_len.Goals as goal

pub returns-then-bytes-ne60-clause-front : goal.returns-then-bytes-ne60-clause-front
returns-then-bytes-ne60-clause-front c =
    let e : eqb (get_or c.args.bytes.now 0 0) 60 ≡ false = search (arith, tests) in
    mark_one c.args.bytes.now c.requires.some c.requires.mark (rw e refl)

pub returns-then-bytes-eq1-clause-front : goal.returns-then-bytes-eq1-clause-front
returns-then-bytes-eq1-clause-front c =
    let other : eqb (get_or c.args.bytes.now 1 0) 45 ≡ false = ap (λ n. eqb n 45) (get_or_past c.args.bytes.now 1 0 (omega arith)) in
    mark_one c.args.bytes.now c.requires.some c.requires.mark (rw other (and_false (eqb (get_or c.args.bytes.now 0 0) 60)))

pub returns-then-bytes-eq45-clause-front : goal.returns-then-bytes-eq45-clause-front
returns-then-bytes-eq45-clause-front c = mark_arrow c.args.bytes.now (omega arith) (omega arith) (omega arith)

pub returns-else-bytes-eq45-clause-front : goal.returns-else-bytes-eq45-clause-front
returns-else-bytes-eq45-clause-front c =
    let other : eqb (get_or c.args.bytes.now 1 0) 45 ≡ false = search (arith, tests) in
    mark_one c.args.bytes.now c.requires.some c.requires.mark (rw other (and_false (eqb (get_or c.args.bytes.now 0 0) 60)))
