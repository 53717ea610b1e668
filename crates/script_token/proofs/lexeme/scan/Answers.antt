use Rattle.std.proofs.Common.{◌≡◌, ◌+◌, ℕ, List, [], ◌∷◌, ◌++◌, length, sym, ap, ◌∙◌, append_assoc, append-nil, arith, rules, tests}
use Rattle.script_token.specs.Lexemes.{lexemes, tokens_from, line_after, token_at, seen}
use Rattle.script_token.specs.Tokens.{Token}
use Rattle.script_token.proofs.Cutting.{tokens_front, line_front, tokens_end, line_end, line_step}
use Rattle.script_token.proofs.lexeme.scan.Goals as goal

pub loop-rest-preserved : goal.loop-rest-preserved
loop-rest-preserved c =
    let rest = c.loop-rest.rest.now in
    let w = c.split_at.result.0.now in
    let after = c.split_at.result.1.now in
    let line = c.loop-rest.last_line in
    let front : lexemes rest ≡ w ∷ lexemes after = rw (c.split_at.ensures.front, c.split_at.ensures.back) c.lexeme_len.ensures.front in
    let line-is = c.line_after-last_line.ensures in
    let old = seen c.loop-rest.placed.items in
    let len : length after + c.lexeme_len.result ≡ length rest = c.split_at.ensures.back_len in
    record {
      tokens = rw (c.in_ok-put_token.ensures, line-is) (append_assoc old (token_at line w) (tokens_from (line_after line w) (lexemes after)) ∙ ap (λ (x : List (Token × ℕ)). old ++ x) (sym (tokens_front line rest w after front)) ∙ c.loop-rest.invariant.tokens);
      last = rw line-is (sym (line_front line rest w after front) ∙ c.loop-rest.invariant.last);
      small = omega (arith, line-is, line_step line w, len, c.lexeme_len.ensures.some, c.loop-rest.invariant.small);
    }

pub returns-clause-tokens : goal.returns-clause-tokens
returns-clause-tokens c =
    let none : length c.loop-rest.rest.now ≡ 0 = search (rules, tests) in
    let old = seen c.loop-rest.placed.items in
    let e : tokens_from c.loop-rest.last_line (lexemes c.loop-rest.rest.now) ≡ [] = tokens_end c.loop-rest.last_line c.loop-rest.rest.now none in
    sym (append-nil old) ∙ ap (λ (x : List (Token × ℕ)). old ++ x) (sym e) ∙ c.loop-rest.invariant.tokens

pub returns-clause-last : goal.returns-clause-last
returns-clause-last c =
    let none : length c.loop-rest.rest.now ≡ 0 = search (rules, tests) in
    sym (line_end c.loop-rest.last_line c.loop-rest.rest.now none) ∙ c.loop-rest.invariant.last
