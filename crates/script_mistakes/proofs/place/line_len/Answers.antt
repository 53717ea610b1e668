use Rattle.std.proofs.Common.{◌≡◌, ◌==◌, sym, arith, length}
use Rattle.std.proofs.lemmas.Bool.Decides.{Decides-eqb}
use Rattle.std.proofs.lemmas.List.Sums.{position_or_len_is}
use Rattle.script_mistakes.proofs.place.line_len.Goals as goal

pub returns-then-byte-eq10-clause-place : goal.returns-then-byte-eq10-clause-place
returns-then-byte-eq10-clause-place c = sym (position_or_len_is (λ b. b == 10) c.args.bytes.now c.loop-place.place 0 (omega (arith, c.loop-place-test.true)) c.loop-place.invariant (λ within. (Decides-eqb _ 10).1 c.if-byte-eq10.true))

pub returns-clause-place : goal.returns-clause-place
returns-clause-place c =
    let all : c.loop-place.place ≡ length c.args.bytes.now = omega (arith, c.loop-place-test.false, c.loop-place.auto.place-end) in
    sym (position_or_len_is (λ b. b == 10) c.args.bytes.now (length c.args.bytes.now) 0 (omega arith) (λ k lt. c.loop-place.invariant k (omega (arith, lt, all))) (λ within. absurd (omega (arith, within))))
