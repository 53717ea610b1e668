-- The lexemes of a text, and its tokens with their lines.
use Rattle.std.specs.Prelude.{ℕ, ◌+◌, List, [], ◌∷◌, ◌++◌, map, length, slice_index, Bool, false, ◌||◌, ◌&&◌, ◌==◌, if◌then◌else◌}
use Rattle.script_token.specs.Tokens.{Token, is_word, token_of, view}
use Rattle.script_token.specs.declared.lexeme.Placed.{Placed}

-- whether a byte and the lexeme behind it are one: two bytes of words, or `<-`
abbrev pub joins : ℕ → List ℕ → Bool
joins b [] = false
joins b (c ∷ w) = (is_word b && is_word c) || ((b == 60) && (c == 45))

abbrev pub put : ℕ → List (List ℕ) → List (List ℕ)
put b [] = (b ∷ []) ∷ []
put b (w ∷ ws) = if joins b w then (b ∷ w) ∷ ws else (b ∷ []) ∷ w ∷ ws

-- The bytes, cut into lexemes. Each byte of white space is a lexeme of its own, as each mark but `<-` is.
unfoldable pub lexemes : List ℕ → List (List ℕ)
lexemes [] = []
lexemes (b ∷ bytes) = put b (lexemes bytes)

-- space, tab, line end, carriage return
abbrev pub is_white : ℕ → Bool
is_white b = (b == 32) || ((b == 9) || ((b == 10) || (b == 13)))

-- the token that a lexeme at a line is, with its line; none for white space
abbrev pub token_at : ℕ → List ℕ → List (Token × ℕ)
token_at line w = if is_white (slice_index w 0) then [] else (token_of w, line) ∷ []

abbrev pub line_after : ℕ → List ℕ → ℕ
line_after line w = if slice_index w 0 == 10 then line + 1 else line

-- the tokens of lexemes, of which the first stands at the line
unfoldable pub tokens_from : ℕ → List (List ℕ) → List (Token × ℕ)
tokens_from line [] = []
tokens_from line (w ∷ ws) = token_at line w ++ tokens_from (line_after line w) ws

-- The tokens of a text, each with its line: one more than the line ends before it.
abbrev pub placed_tokens : List ℕ → List (Token × ℕ)
placed_tokens bytes = tokens_from 1 (lexemes bytes)

-- the line behind lexemes, of which the first stands at the line
unfoldable pub line_behind : ℕ → List (List ℕ) → ℕ
line_behind line [] = line
line_behind line (w ∷ ws) = line_behind (line_after line w) ws

-- the line at which a text ends: one more than all its line ends
abbrev pub last_line : List ℕ → ℕ
last_line bytes = line_behind 1 (lexemes bytes)

abbrev pub seen_at : Placed → Token × ℕ
seen_at p = (view p.token, p.line)

abbrev pub seen : List Placed → List (Token × ℕ)
seen ps = map seen_at ps

-- where the token begins that a lexeme behind so many bytes is; none for white space
abbrev pub start_at : ℕ → List ℕ → List ℕ
start_at at w = if is_white (slice_index w 0) then [] else at ∷ []

-- where the tokens of lexemes begin, of which the first stands behind so many bytes
unfoldable pub starts_from : ℕ → List (List ℕ) → List ℕ
starts_from at [] = []
starts_from at (w ∷ ws) = start_at at w ++ starts_from (at + length w) ws

-- how many bytes of a text stand before each of its tokens
abbrev pub token_starts : List ℕ → List ℕ
token_starts bytes = starts_from 0 (lexemes bytes)
