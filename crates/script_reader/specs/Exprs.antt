-- Reading from left to right: expressions, tests and lists.
use Rattle.std.specs.Prelude.{ℕ, zero, suc, ◌-◌, List, [], ◌∷◌, ◌++◌, map, length, Option, Some, None, Result, Ok, is_some, ◌||◌, if◌then◌else◌}
use Rattle.std.specs.Option.{option_map}
use Rattle.script_token.specs.Tokens.{Token}
use Rattle.script_reader.specs.Steps.{Told, ◌>>=◌, stop_at, repeated, name_at, number_at, next_is, accept_at, expect_at, read_name_at, meaning, Here}
use Rattle.script_grammar.specs.Meaning.{if_some, Parts, parts_term, whole}
use Rattle.script_tree.specs.Trees.{Term, Expr, Test, term_of}
use Rattle.script_token.specs.declared.kind.Symbol.TheVariants.{OpenParen, CloseParen, Plus, Minus, Comma, Equal, Less}
use Rattle.script_reader.specs.declared.fault.Problem.{Problem}
use Rattle.script_reader.specs.declared.fault.Problem.TheVariants.{Syntax, UnknownName, TooMany}
use Rattle.script_reader.specs.declared.expr.Sum.{Sum as SeenSum}
use Rattle.script_tree.specs.declared.tree.Term.{Term as SeenTerm}
use Rattle.script_tree.specs.declared.tree.Operand.TheVariants.{Number, Named}
use Rattle.script_tree.specs.declared.tree.Sign.{Sign}
use Rattle.script_tree.specs.declared.tree.Sign.TheVariants as signs
use Rattle.script_tree.specs.declared.tree.Relation.{Relation}
use Rattle.script_tree.specs.declared.tree.Relation.TheVariants as relations

abbrev pub signed_of : Sign × SeenTerm → Sign × Term
signed_of p = (p.0, term_of p.1)

abbrev pub parts_of : SeenSum → Parts
parts_of s = (s.first, map signed_of s.more.items)

-- a number, a name, or in parentheses what `inner` reads
unfoldable pub operand_with : (List Token → Result (Parts × List Token) Told) → ℕ → Here → List Token → Result (Parts × List Token) Told
operand_with inner nesting h ts =
    if_some (number_at ts) (λ n. accept_at nesting ts >>= λ rest. Ok ((Number n, []), rest))
    (if is_some (name_at ts)
    then (read_name_at nesting h ts >>= λ x. Ok ((Named x.0, []), x.1))
    else (if next_is OpenParen ts
    then (do
      rest ← accept_at nesting ts
      x ← inner rest
      rest ← expect_at (nesting - 1) CloseParen x.1
      Ok (x.0, rest))
    else stop_at Syntax ts))

abbrev pub sign_at : List Token → Option Sign
sign_at ts = if next_is Plus ts then Some signs.Plus else (if next_is Minus ts then Some signs.Minus else None)

abbrev pub with_term : Parts → Sign → Parts → Parts
with_term p sign t = (p.0, p.1 ++ (sign, parts_term t) ∷ [])

-- one more term, if there is a sign
abbrev pub term_step : (List Token → Result (Parts × List Token) Told) → ℕ → Parts × List Token → Option (Result (Parts × List Token) Told)
term_step operand nesting s =
    option_map (λ sign.
    accept_at nesting s.1 >>= λ rest.
    operand rest >>= λ t.
    Ok (with_term s.0 sign t.0, t.1))
    (sign_at s.1)

unfoldable pub sum_with : (List Token → Result (Parts × List Token) Told) → ℕ → List Token → Result (Parts × List Token) Told
sum_with operand nesting ts = operand ts >>= repeated (term_step operand nesting) (length ts)

unfoldable pub operand_at : ℕ → Here → List Token → Result (Parts × List Token) Told
operand_at zero h ts = operand_with (λ ts. stop_at Syntax ts) zero h ts
operand_at (suc r) h ts = operand_with (sum_with (operand_at r h) r) (suc r) h ts

unfoldable pub sum_at : ℕ → Here → List Token → Result (Parts × List Token) Told
sum_at nesting h ts = sum_with (operand_at nesting h) nesting ts

unfoldable pub expr_at : ℕ → Here → List Token → Result (Expr × List Token) Told
expr_at nesting h ts = sum_at nesting h ts >>= λ x. Ok (whole x.0, x.1)

unfoldable pub relation_at : ℕ → List Token → Result (Relation × List Token) Told
relation_at nesting ts =
    if next_is Equal ts
    then (accept_at nesting ts >>= λ rest. Ok (relations.Equal, rest))
    else (expect_at nesting Less ts >>= λ rest. Ok (relations.Less, rest))

unfoldable pub test_at : ℕ → Here → List Token → Result (Test × List Token) Told
test_at nesting h ts = do
  left ← expr_at nesting h ts
  relation ← relation_at nesting left.1
  right ← expr_at nesting h relation.1
  Ok (record { left = left.0; relation = relation.0; right = right.0 }, right.1)

-- what is wrong at the first token of a fourth member
unfoldable pub fourth_at : Here → List Token → Problem
fourth_at h ts =
    if_some (name_at ts) (λ name. if is_some (meaning h name) then TooMany else UnknownName)
    (if is_some (number_at ts) || next_is OpenParen ts then TooMany else Syntax)

-- at most three members
unfoldable pub members_at : ℕ → Here → List Token → Result (List Expr × List Token) Told
members_at nesting h ts =
    if next_is CloseParen ts
    then Ok ([], ts)
    else (do
      a ← expr_at nesting h ts
      if next_is Comma a.1
          then (do
            rest ← accept_at nesting a.1
            b ← expr_at nesting h rest
            if next_is Comma b.1
                then (do
                  rest ← accept_at nesting b.1
                  c ← expr_at nesting h rest
                  if next_is Comma c.1
                      then (accept_at nesting c.1 >>= λ rest. stop_at (fourth_at h rest) rest)
                      else Ok (a.0 ∷ b.0 ∷ c.0 ∷ [], c.1))
                else Ok (a.0 ∷ b.0 ∷ [], b.1))
          else Ok (a.0 ∷ [], a.1))

unfoldable pub list_at : ℕ → Here → List Token → Result (List Expr × List Token) Told
list_at nesting h ts = do
  rest ← expect_at nesting OpenParen ts
  x ← members_at (nesting - 1) h rest
  rest ← expect_at (nesting - 1) CloseParen x.1
  Ok (x.0, rest)
