-- Why a text is no script, in one line.
use Rattle.std.specs.Prelude.{◌≡◌, ◌⊎◌, ℕ, ◌<◌, ◌≤◌, List, [], ◌∷◌, ◌++◌, length, Option, Some, None, Err, codes}
use Rattle.std.specs.Fmt.{decimal}
use Rattle.script_token.specs.Lexemes.{placed_tokens, last_line}
use Rattle.script_reader.specs.Steps.{Told}
use Rattle.script.specs.Scripts.{Script, script_at, line_left, tokens_of}
use Rattle.script.specs.Spelling.{Spells}
use Rattle.script_mistakes.specs.Places.{column_at, place_left}
use Rattle.script_mistakes.specs.Telling.{number_of, problem_words}

-- a line and a column of a file, and a fault with its number and what it is
abbrev pub there_line : ℕ → ℕ → ℕ → List ℕ → List ℕ
there_line line column number words = codes ":" ++ decimal line ++ codes ":" ++ decimal column ++ codes ": fault " ++ decimal number ++ codes ": " ++ words ++ 10 ∷ []

-- behind the name of the file
abbrev pub short_line : List ℕ → ℕ → ℕ → ℕ → List ℕ → List ℕ
short_line name line column number words = name ++ there_line line column number words

abbrev pub short_text : List ℕ → List ℕ → Told → List ℕ
short_text name bytes told =
    short_line name (line_left (placed_tokens bytes) (last_line bytes) told.1) (column_at bytes (place_left bytes told.1)) (number_of told.0) (problem_words told.0 told.1)

-- the first fault of the text, and where it stands
pub record TellsFirst (name bytes text : List ℕ) : Type 0 where
  pub fits : length bytes ≤ 65536
  pub told : Told
  pub is : script_at (tokens_of bytes) ≡ Err told
  pub text_is : text ≡ short_text name bytes told

-- what is told of a text in the file of this name; nothing, where it is a script
abbrev pub TellsWhyShort : List ℕ → List ℕ → Option (List ℕ) → Type 0
TellsWhyShort name bytes None = (length bytes ≤ 65536) × ((s : Script) × Spells bytes s)
TellsWhyShort name bytes (Some text) = ((65536 < length bytes) × (text ≡ short_line name 1 1 16 (codes "the text has more than 65536 bytes"))) ⊎ TellsFirst name bytes text
