use Rattle.std.proofs.Common.{◌≡◌, ◌+◌, ℕ, List, [], ◌∷◌, ◌++◌, length, sym, ap, ◌∙◌, append_assoc, append-nil, arith, rules, tests}
use Rattle.script_token.specs.Lexemes.{lexemes, starts_from, start_at}
use Rattle.script_token.proofs.Cutting.{starts_front, starts_end}
use Rattle.script_token.proofs.lexeme.token_starts.Goals as goal

pub loop-rest-preserved : goal.loop-rest-preserved
loop-rest-preserved c =
    let rest = c.loop-rest.rest.now in
    let w = c.split_at.result.0.now in
    let after = c.split_at.result.1.now in
    let at = c.loop-rest.at in
    let front : lexemes rest ≡ w ∷ lexemes after = rw (c.split_at.ensures.front, c.split_at.ensures.back) c.lexeme_len.ensures.front in
    let old = c.loop-rest.starts.items in
    let len : length after + c.lexeme_len.result ≡ length rest = c.split_at.ensures.back_len in
    let first : length w ≡ c.lexeme_len.result = c.split_at.ensures.front_len in
    record {
      starts = rw c.in_ok-put_start.ensures (append_assoc old (start_at at w) (starts_from (at + length w) (lexemes after)) ∙ ap (λ (x : List ℕ). old ++ x) (sym (starts_front at rest w after front)) ∙ c.loop-rest.invariant.starts);
      at = omega (arith, len, first, c.loop-rest.invariant.at);
    }

pub returns : goal.returns
returns c =
    let none : length c.loop-rest.rest.now ≡ 0 = search (rules, tests) in
    let old = c.loop-rest.starts.items in
    let e : starts_from c.loop-rest.at (lexemes c.loop-rest.rest.now) ≡ [] = starts_end c.loop-rest.at c.loop-rest.rest.now none in
    sym (append-nil old) ∙ ap (λ (x : List ℕ). old ++ x) (sym e) ∙ c.loop-rest.invariant.starts
