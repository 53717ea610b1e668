-- The tokens of a text are good ones.
use Rattle.std.proofs.Common.{◌≡◌, ℕ, ◌≤◌, Bool, true, false, cond, ◌&&◌, leb, get_or, List, [], ◌∷◌, ◌++◌, map, Option, Some, None, refl, arith}
use Rattle.std.specs.List.{list_all}
use Rattle.std.proofs.lemmas.Bool.Decides.{nat_tests}
use Rattle.script_token.specs.Tokens.{Token, Fixed, Name, Number, Bad, keyword_of, mark_of, or_else, symbol_or, is_digit, is_name, value_from, has_leading_zero, numeral_from, number_of, number_token, name_or_number, token_of}
use Rattle.script_token.specs.Lexemes.{lexemes, is_white, line_after, tokens_from}
use Rattle.script_token.specs.declared.kind.Symbol.{Symbol}
use Rattle.script.specs.Scripts.{tokens_of}

-- A name and a number are good where they are what their spelling says.

unfoldable pub Good : Token → Type 0
Good (Fixed symbol) = Unit {0}
Good (Name text) = (is_name text ≡ true) × (token_of text ≡ Name text)
Good (Number n) = n ≤ 4294967295
Good Bad = Unit {0}

unfoldable pub AllGood : List Token → Type 0
AllGood [] = Unit {0}
AllGood (t ∷ ts) = Good t × AllGood ts

small_number : (w : List ℕ) (n : ℕ) → number_of w ≡ Some n → n ≤ 4294967295
small_number w n e = at_zero (has_leading_zero w) e
  where
    at_small : (v : Bool) → leb (value_from 0 w) 4294967295 ≡ v → cond v (Some (value_from 0 w)) None ≡ Some n → n ≤ 4294967295
    at_small false is f = absurd cc
    at_small true is f = (let m = value_from 0 w in let same : m ≡ n = cc in let few : m ≤ 4294967295 = grind (arith, nat_tests) in omega arith)

    at_digits : (v : Bool) → cond (v && leb (value_from 0 w) 4294967295) (Some (value_from 0 w)) None ≡ Some n → n ≤ 4294967295
    at_digits false f = absurd cc
    at_digits true f = at_small (leb (value_from 0 w) 4294967295) refl f

    at_zero : (v : Bool) → cond v None (numeral_from 0 w) ≡ Some n → n ≤ 4294967295
    at_zero true f = absurd cc
    at_zero false f = at_digits (list_all is_digit w) f

good_token : (w : List ℕ) → Good (token_of w)
unfolding token_of Good
good_token w = at_symbol (or_else (keyword_of w) (mark_of w)) refl
  where
    at_number : (o : Option ℕ) → number_of w ≡ o → Good (number_token o)
    at_number (Some n) is = small_number w n is
    at_number None is = tt

    at_name : or_else (keyword_of w) (mark_of w) ≡ None → (v : Bool) → is_name w ≡ v → Good (cond v (Name w) (number_token (number_of w)))
    at_name none true is = (is, rw (none, is) refl)
    at_name none false is = at_number (number_of w) refl

    at_symbol : (o : Option Symbol) → or_else (keyword_of w) (mark_of w) ≡ o → Good (symbol_or o (name_or_number w))
    at_symbol (Some s) is = tt
    at_symbol None is = at_name is (is_name w) refl

-- the tokens of each text are good
good_from : (line : ℕ) (ws : List (List ℕ)) → AllGood (map (λ (p : Token × ℕ). p.0) (tokens_from line ws))
unfolding tokens_from AllGood
good_from line [] = tt
good_from line (w ∷ ws) = at_white (good_from (line_after line w) ws) (is_white (get_or w 0 0))
  where
    at_white : AllGood (map (λ (p : Token × ℕ). p.0) (tokens_from (line_after line w) ws))
        → (v : Bool) → AllGood (map (λ (p : Token × ℕ). p.0) (cond v [] ((token_of w, line) ∷ []) ++ tokens_from (line_after line w) ws))
    at_white next true = next
    at_white next false = (good_token w, next)

pub texts_are_good : (bytes : List ℕ) → AllGood (tokens_of bytes)
texts_are_good bytes = good_from 1 (lexemes bytes)
