-- Which fault of a text is to be told: by the grammar and the notes of what is written, apart from how it is
-- read.
use Rattle.std.specs.Prelude.{◌≡◌, ◌⊎◌, ℕ, ◌<◌, ◌≤◌, List, [], ◌++◌, length, Result, Err}
use Rattle.script_token.specs.Tokens.{Token}
use Rattle.script_token.specs.Lexemes.{placed_tokens, last_line}
use Rattle.script_reader.specs.Steps.{Told}
use Rattle.script_grammar.specs.Written.{Script as Written, script_tokens}
use Rattle.script_faults.specs.BlockNotes.{script_notes}
use Rattle.script_faults.specs.Laws.{Demanded, Answered}
use Rattle.script.specs.Scripts.{script_at, tokens_of, line_left, fault_at}
use Rattle.script.specs.declared.script.Script.{Script}
use Rattle.script.specs.declared.fault.ScriptFault.{ScriptFault}
use Rattle.script.specs.declared.fault.ScriptFault.TheVariants as faults

-- nothing follows
abbrev pub Ended : List Token → Type 0
Ended rest = rest ≡ []

-- the tokens of a script, and what follows
abbrev pub script_spell : Written → List Token → List Token
script_spell s rest = script_tokens s ++ rest

-- of a script that is written the first fault is told if it has one, and of any tokens the one that is demanded
abbrev pub ScriptsAreAnswered : Type 0
ScriptsAreAnswered = Answered script_spell script_notes Ended (λ ts. script_at ts)

-- the fault that is demanded of the text's tokens, and how many of them are left from the one whose line is told
abbrev pub IsFirstFault : List ℕ → Told → Type 0
IsFirstFault bytes told = Demanded script_spell script_notes Ended (tokens_of bytes) told

-- as it is told, with its line
abbrev pub told_fault : List ℕ → Told → ScriptFault
told_fault bytes told = fault_at told.0 (line_left (placed_tokens bytes) (last_line bytes) told.1)

-- the text is not too long, and the fault is its first, with its line
pub record TellsFirst (bytes : List ℕ) (fault : ScriptFault) : Type 0 where
  pub told : Told
  pub is : fault ≡ told_fault bytes told
  pub first : IsFirstFault bytes told
  pub fits : length bytes ≤ 65536

-- What a fault that is told says of the text: the text is too long, or else the fault is its first. So
-- that a text is too long comes before all other faults.
abbrev pub Tells : List ℕ → ScriptFault → Type 0
Tells bytes faults.Memory = Unit {0}
Tells bytes faults.TooLong = 65536 < length bytes
Tells bytes (faults.Syntax line) = TellsFirst bytes (faults.Syntax line)
Tells bytes (faults.UnknownName line) = TellsFirst bytes (faults.UnknownName line)
Tells bytes (faults.Twice line) = TellsFirst bytes (faults.Twice line)
Tells bytes (faults.TooMany line) = TellsFirst bytes (faults.TooMany line)
Tells bytes (faults.LoopWithoutSync line) = TellsFirst bytes (faults.LoopWithoutSync line)

-- the first fault of a text that is not too long is told, unless memory ran out
abbrev pub FirstIsTold : List ℕ → Result Script ScriptFault → Type 0
FirstIsTold bytes answer = (told : Told) → IsFirstFault bytes told → length bytes ≤ 65536 → (answer ≡ Err (told_fault bytes told)) ⊎ (answer ≡ Err faults.Memory)
