-- What checking a script prints.
use Rattle.std.specs.Prelude.{◌≡◌, ℕ, ◌≤◌, List, [], ◌∷◌, ◌++◌, length, codes}
use Rattle.std.specs.Fmt.{decimal}
use Rattle.script.specs.Sources.{Script}
use Rattle.script.specs.Spelling.{Spells}

abbrev pub check_line : ℕ → ℕ → List ℕ
check_line processes channels = codes "processes " ++ decimal processes ++ codes " channels " ++ decimal channels ++ 10 ∷ []

-- The bytes spell a script and are not too many, and the text tells how many processes and channels it has.
pub record IsChecked (bytes text : List ℕ) : Type 0 where
  pub script : Script
  pub spells : Spells bytes script
  pub fits : length bytes ≤ 65536
  pub is : text ≡ check_line (length script.processes) (length script.channels)
