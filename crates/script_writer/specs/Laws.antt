-- What is written is read again. Of a script it is known that some text spells it, and not which; so neither
-- is it told how its canonical text does.
use Rattle.std.specs.Prelude.{◌≡◌, ℕ, ◌≤◌, List, length, Ok}
use Rattle.script.specs.Scripts.{Script, text_at}
use Rattle.script.specs.Spelling.{Spells, IsSpelled}
use Rattle.script_writer.specs.Canon.{Canon}

-- the bytes spell the script
abbrev pub IsSpelledBy : List ℕ → Script → Type 0
IsSpelledBy bytes s = ∥ Spells bytes s ∥₁

-- and are read as it, where they are not too many
abbrev pub IsReadFrom : List ℕ → Script → Type 0
IsReadFrom bytes s = length bytes ≤ 65536 → text_at bytes ≡ Ok s

-- the canonical text of a script spells it
abbrev pub IsSpelledByCanon : Type 0
IsSpelledByCanon = (s : Script) → IsSpelled s → IsSpelledBy (Canon s) s

-- and is read as it
abbrev pub IsReadAgain : Type 0
IsReadAgain = (s : Script) → IsSpelled s → IsReadFrom (Canon s) s

-- scripts that have one canonical text are one
abbrev pub HasItsOwnCanon : Type 0
HasItsOwnCanon = (s t : Script) → IsSpelled s → IsSpelled t → Canon s ≡ Canon t → s ≡ t
