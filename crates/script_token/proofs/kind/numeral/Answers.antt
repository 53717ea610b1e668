use Rattle.std.proofs.Common.{◌≡◌, ◌+◌, ◌*◌, ◌<◌, ℕ, List, ◌∷◌, length, get_or, drop, Option, sym, ◌∙◌, arith}
use Rattle.std.proofs.lemmas.List.{at_drop_more, at_drop_all}
use Rattle.script_token.specs.Tokens.{numeral_from}
use Rattle.script_token.proofs.Numerals.{numeral-large, numeral-more, numeral-bad, numeral-end}
use Rattle.script_token.proofs.kind.numeral.Goals as goal

turn : (n : ℕ) (text : List ℕ) (i : ℕ) (whole : Option ℕ) → i < length text → numeral_from n (drop i text) ≡ whole
    → numeral_from n (get_or text i 0 ∷ drop (i + 1) text) ≡ whole
turn n text i whole h e = sym (at_drop_more (numeral_from n) text i 0 h) ∙ e

pub returns-in_err-digit : goal.returns-in_err-digit
returns-in_err-digit c =
    let t = turn _ _ _ _ c.loop-byte-test.true c.loop-byte.invariant.same in
    let e = numeral-bad c.loop-byte.value (get_or c.args.text.now c.loop-byte.byte-index 0) (drop (c.loop-byte.byte-index + 1) c.args.text.now) (sym c.in_err-digit.ensures) in
    c.from_residual.ensures ∙ sym e ∙ t

pub returns-in_err-checked_mul : goal.returns-in_err-checked_mul
returns-in_err-checked_mul c =
    let t = turn _ _ _ _ c.loop-byte-test.true c.loop-byte.invariant.same in
    let e = numeral-more c.loop-byte.value (get_or c.args.text.now c.loop-byte.byte-index 0) c.in_ok-digit.digit (drop (c.loop-byte.byte-index + 1) c.args.text.now) (sym c.in_ok-digit.ensures) in
    let large = numeral-large (c.loop-byte.value * 10 + c.in_ok-digit.digit) (drop (c.loop-byte.byte-index + 1) c.args.text.now) (omega (arith, c.in_err-checked_mul.ensures)) in
    c.from_residual-in_err-checked_mul.ensures ∙ sym large ∙ sym e ∙ t

pub returns-in_err-value : goal.returns-in_err-value
returns-in_err-value c =
    let t = turn _ _ _ _ c.loop-byte-test.true c.loop-byte.invariant.same in
    let e = numeral-more c.loop-byte.value (get_or c.args.text.now c.loop-byte.byte-index 0) c.in_ok-digit.digit (drop (c.loop-byte.byte-index + 1) c.args.text.now) (sym c.in_ok-digit.ensures) in
    let large = numeral-large (c.loop-byte.value * 10 + c.in_ok-digit.digit) (drop (c.loop-byte.byte-index + 1) c.args.text.now) (omega (arith, c.in_err-value.ensures, c.in_ok-checked_mul.ensures)) in
    c.from_residual-in_err-value.ensures ∙ sym large ∙ sym e ∙ t

pub returns : goal.returns
returns c =
    let e = at_drop_all (numeral_from c.loop-byte.value) c.args.text.now c.loop-byte.byte-index c.loop-byte-test.false in
    sym (numeral-end c.loop-byte.value c.loop-byte.invariant.small) ∙ sym e ∙ c.loop-byte.invariant.same

pub loop-byte-preserved : goal.loop-byte-preserved
loop-byte-preserved c =
    let t = turn _ _ _ _ c.loop-byte-test.true c.loop-byte.invariant.same in
    let e = numeral-more c.loop-byte.value (get_or c.args.text.now c.loop-byte.byte-index 0) c.in_ok-digit.digit (drop (c.loop-byte.byte-index + 1) c.args.text.now) (sym c.in_ok-digit.ensures) in
    let v : c.in_ok-value.value ≡ c.loop-byte.value * 10 + c.in_ok-digit.digit = omega (arith, c.in_ok-value.ensures, c.in_ok-checked_mul.ensures) in
    record { same = rw v (sym e ∙ t); small = omega (arith, c.in_ok-value.ensures) }
