use Rattle.std.proofs.Common.{◌≡◌, ◌<◌, ◌&&◌, ℕ, Bool, true, false, List, take, get_or, sym, ap, ◌∙◌, arith, refl, zero, suc}
use Rattle.std.specs.List.{list_all}
use Rattle.std.proofs.lemmas.List.Folds.{list_all_more}
use Rattle.script_token.specs.Tokens.{is_word}
use Rattle.script_token.proofs.Cutting.{run_before, run_whole}
use Rattle.script_token.proofs.lexeme.run_len.Goals as goal

positive : (bytes : List ℕ) (i : ℕ) → is_word (get_or bytes 0 0) ≡ true → is_word (get_or bytes i 0) ≡ false → 0 < i
positive bytes zero first here = (let e : true ≡ false = sym first ∙ here in absurd cc)
positive bytes (suc i) first here = omega arith

pub returns-then-not-is_word-clause-some : goal.returns-then-not-is_word-clause-some
returns-then-not-is_word-clause-some c = positive c.args.bytes.now c.loop-i.i c.requires.word (sym c.if-not-is_word.ensures)

pub returns-then-not-is_word-clause-front : goal.returns-then-not-is_word-clause-front
returns-then-not-is_word-clause-front c =
    run_before c.args.bytes.now c.loop-i.i (positive c.args.bytes.now c.loop-i.i c.requires.word (sym c.if-not-is_word.ensures)) c.loop-i-test.true c.loop-i.invariant (sym c.if-not-is_word.ensures)

pub loop-i-preserved : goal.loop-i-preserved
loop-i-preserved c =
    list_all_more is_word c.args.bytes.now c.loop-i.i 0 c.loop-i-test.true
    ∙ both (list_all is_word (take c.loop-i.i c.args.bytes.now)) (is_word (get_or c.args.bytes.now c.loop-i.i 0)) c.loop-i.invariant (sym c.if-not-is_word.ensures)
  where
    both : (a b : Bool) → a ≡ true → b ≡ true → (a && b) ≡ true
    both a b p q = rw (p, q) refl

pub returns-clause-front : goal.returns-clause-front
returns-clause-front c =
    run_whole c.args.bytes.now c.requires.some (ap (λ (n : ℕ). list_all is_word (take n c.args.bytes.now)) (omega (arith, c.loop-i-test.false)) ∙ c.loop-i.invariant)
