-- A text that something was appended to.
use Rattle.std.specs.Prelude.{◌≡◌, ℕ, List, ◌++◌}
use Rattle.std.specs.String.{string_bytes}
use Rattle.std.specs.declared.string.String.{String}

abbrev pub Adds : {Z : Type 0} → String Z → String Z → List ℕ → Type 0
Adds before after text = string_bytes after ≡ string_bytes before ++ text
