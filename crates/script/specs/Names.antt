-- The names that a script declares.
use Rattle.std.specs.Prelude.{◌≡◌, ◌≢◌, ℕ, true, List, [], ◌∷◌, map}
use Rattle.std.specs.List.{AllByRecursion}
use Rattle.script_token.specs.Tokens.{is_name}
use Rattle.script.specs.Sources.{Script}
use Rattle.script.specs.Spelling.{IsSpelled}

-- no two of them are the same
abbrev pub AreDistinct : List (List ℕ) → Type 0
AreDistinct [] = Unit {0}
AreDistinct (text ∷ texts) = AllByRecursion (λ other. text ≢ other) texts × AreDistinct texts

-- each is a letter and then letters, digits and `_`, and no two are the same
abbrev pub AreNames : List (List ℕ) → Type 0
AreNames texts = AllByRecursion (λ text. is_name text ≡ true) texts × AreDistinct texts

-- the names that a script declares
abbrev pub DeclaresNames : Type 0
DeclaresNames = (s : Script) → IsSpelled s → AreNames s.channels × AreNames (map (λ p. p.name) s.processes)
