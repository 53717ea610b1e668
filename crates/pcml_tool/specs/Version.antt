-- What is told of the version.
use Rattle.std.specs.Prelude.{ℕ, List, [], ◌∷◌, ◌++◌, codes}

abbrev pub version_line : List ℕ
version_line = codes "pcml 1.1.0, proved with logic dac8208d650f15bf by rattle-kit-13f" ++ 10 ∷ []
