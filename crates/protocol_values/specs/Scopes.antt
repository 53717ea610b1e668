-- A mask of scopes: bit k is set where scope k is one of them.
use Rattle.std.specs.Prelude.{ℕ, ◌/◌, ◌%◌, ◌^◌, ◌==◌, Bool}

abbrev pub has_scope : ℕ → ℕ → Bool
has_scope scopes k = scopes / 2 ^ k % 2 == 1
