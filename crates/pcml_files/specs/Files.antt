-- What is read of a file, and when a file is too large.
use Rattle.std.specs.Prelude.{◌≡◌, ◌⊎◌, ◌<◌, ◌≤◌, ℕ, List, length, take}

-- the most bytes of a journal or a schedule
abbrev pub Fits : List ℕ → Type 0
Fits bytes = length bytes ≤ 16777216

abbrev pub IsTooLarge : List ℕ → Type 0
IsTooLarge bytes = 16777216 < length bytes

-- the whole file or, of one that is too large, a beginning that is too large as well
abbrev pub IsReadOf : List ℕ → List ℕ → Type 0
IsReadOf whole bytes = (bytes ≡ whole) ⊎ (IsTooLarge bytes × (n : ℕ) × (bytes ≡ take n whole))

-- what is read of a file that holds such bytes
abbrev pub IsRead : (List ℕ → Type 0) → List ℕ → Type 0
IsRead Holds bytes = (whole : List ℕ) × Holds whole × IsReadOf whole bytes
