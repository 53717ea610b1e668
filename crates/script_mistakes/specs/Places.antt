-- Where a token stands in a text, and the line there.
use Rattle.std.specs.Prelude.{ℕ, ◌+◌, ◌-◌, List, [], ◌∷◌, ◌++◌, map, length, take, drop, slice_index, ◌||◌, ◌==◌, nat_lt, if◌then◌else◌, codes}
use Rattle.std.specs.List.{before_first}
use Rattle.script_token.specs.Lexemes.{token_starts}

-- how many bytes stand before the token from which on so many are left; all, where none is
abbrev pub place_left : List ℕ → ℕ → ℕ
place_left bytes left =
    if (left == 0) || nat_lt (length (token_starts bytes)) left then length bytes else slice_index (token_starts bytes) (length (token_starts bytes) - left)

-- the column behind a byte in column n
abbrev pub next_column : ℕ → ℕ → ℕ
next_column n b = if b == 10 then 1 else n + 1

-- the column behind bytes, the first of which stands in column n
abbrev pub column_from : ℕ → List ℕ → ℕ
column_from n [] = n
column_from n (b ∷ bytes) = column_from (next_column n b) bytes

-- the column, from 1, of the byte that stands behind so many
abbrev pub column_at : List ℕ → ℕ → ℕ
column_at bytes at = column_from 1 (take at bytes)

-- the bytes from the beginning of the line on in which this one stands
abbrev pub from_line : List ℕ → ℕ → List ℕ
from_line bytes at = drop (at - (column_at bytes at - 1)) bytes

-- what stands above a byte of a line: a tab above a tab, else a space
abbrev pub blank : ℕ → ℕ
blank b = if b == 9 then 9 else 32

-- how a byte of a line is shown: one that is no text would steer a terminal
abbrev pub shown : ℕ → ℕ
shown b = if b == 9 then 9 else if b == 13 then 32 else if nat_lt b 32 || (b == 127) then 63 else b

-- the line in which the byte stands that is behind so many, and below it a mark under that byte
abbrev pub excerpt_text : List ℕ → ℕ → List ℕ
excerpt_text bytes at =
    map shown (before_first (λ b. b == 10) (from_line bytes at)) ++ 10 ∷ (map blank (take (column_at bytes at - 1) (from_line bytes at)) ++ codes "^\n")
