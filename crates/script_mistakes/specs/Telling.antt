-- Why a text is no script.
use Rattle.std.specs.Prelude.{◌≡◌, ◌⊎◌, ℕ, ◌-◌, ◌<◌, ◌≤◌, List, [], ◌∷◌, ◌++◌, length, take, Option, Some, None, Err, ◌==◌, if◌then◌else◌, codes}
use Rattle.std.specs.Fmt.{decimal}
use Rattle.std.specs.List.{flat_map}
use Rattle.script_token.specs.Tokens.{Token}
use Rattle.script_token.specs.Lexemes.{placed_tokens, last_line}
use Rattle.script_reader.specs.Steps.{Told}
use Rattle.script_reader.specs.declared.fault.Problem.{Problem}
use Rattle.script_reader.specs.declared.fault.Problem.TheVariants.{Syntax, UnknownName, Twice, TooMany, LoopWithoutSync}
use Rattle.script.specs.Scripts.{Script, script_at, line_left, tokens_of}
use Rattle.script.specs.Spelling.{Spells}
use Rattle.script_mistakes.specs.Expected.{AreExpected}
use Rattle.script_mistakes.specs.declared.kind.Kind.{Kind}
use Rattle.script_mistakes.specs.declared.kind.Kind.TheVariants as kinds
use Rattle.script_mistakes.specs.Words.{spelling}
use Rattle.script_mistakes.specs.Places.{column_at, excerpt_text, place_left}

-- the number that a problem is told with
abbrev pub number_of : Problem → ℕ
number_of Syntax = 11
number_of UnknownName = 12
number_of Twice = 13
number_of TooMany = 14
number_of LoopWithoutSync = 15

-- what it is, where so many tokens are left
abbrev pub problem_words : Problem → ℕ → List ℕ
problem_words Syntax left = if left == 0 then codes "the text ends too early" else codes "the grammar does not allow this here"
problem_words UnknownName left = codes "nothing that is known here has this name"
problem_words Twice left = codes "this stands for something already"
problem_words TooMany left = codes "this is one too many"
problem_words LoopWithoutSync left = codes "the body of this loop does not begin with a sync"

-- a fault with its number, its line and its column, and what it is
abbrev pub fault_line : ℕ → ℕ → ℕ → List ℕ → List ℕ
fault_line number line column words = codes "fault " ++ decimal number ++ codes " line " ++ decimal line ++ codes " column " ++ decimal column ++ codes ": " ++ words ++ 10 ∷ []

abbrev pub head_text : List ℕ → Told → List ℕ
head_text bytes told =
    fault_line (number_of told.0) (line_left (placed_tokens bytes) (last_line bytes) told.1) (column_at bytes (place_left bytes told.1)) (problem_words told.0 told.1)

abbrev pub kind_text : Kind → List ℕ
kind_text kinds.Name = codes "a name"
kind_text kinds.Number = codes "a number"
kind_text (kinds.Symbol symbol) = codes "`" ++ spelling symbol ++ codes "`"
kind_text kinds.End = codes "the end of the text"

-- the kinds, with commas between them
abbrev pub kinds_text : List Kind → List ℕ
kinds_text [] = []
kinds_text (kind ∷ others) = kind_text kind ++ flat_map (λ other. codes ", " ++ kind_text other) others

-- the line of the kinds of what may stand at a place; nothing, where there are none
abbrev pub stand_text : List Kind → List ℕ
stand_text [] = []
stand_text (kind ∷ others) = codes "here may stand: " ++ kinds_text (kind ∷ others) ++ 10 ∷ []

-- the kinds of what may stand at the fault of tokens; none, where the grammar allows what stands there
abbrev pub HasExpected : List Token → Told → List Kind → Type 0
HasExpected ts (Syntax, left) kinds = AreExpected kinds (take (length ts - left) ts)
HasExpected ts (UnknownName, left) kinds = kinds ≡ []
HasExpected ts (Twice, left) kinds = kinds ≡ []
HasExpected ts (TooMany, left) kinds = kinds ≡ []
HasExpected ts (LoopWithoutSync, left) kinds = kinds ≡ []

-- The first fault of the text, where it stands, and what may stand there. Words of help stand before the last.
pub record TellsFault (bytes text : List ℕ) : Type 0 where
  pub fits : length bytes ≤ 65536
  pub told : Told
  pub is : script_at (tokens_of bytes) ≡ Err told
  pub kinds : List Kind
  pub expected : HasExpected (tokens_of bytes) told kinds
  pub help : List ℕ
  pub text_is : text ≡ head_text bytes told ++ excerpt_text bytes (place_left bytes told.1) ++ help ++ stand_text kinds

abbrev pub long_text : List ℕ
long_text = codes "fault 16: the text has more than 65536 bytes\n"

-- what is told of a text; nothing, where it is a script
abbrev pub TellsWhyNot : List ℕ → Option (List ℕ) → Type 0
TellsWhyNot bytes None = (length bytes ≤ 65536) × ((s : Script) × Spells bytes s)
TellsWhyNot bytes (Some text) = ((65536 < length bytes) × (text ≡ long_text)) ⊎ TellsFault bytes text
