-- When `==` is the same as being the same.
use Rattle.std.specs.Prelude.{◌≡◌, ◌↔◌, IsTrue, Bool}

abbrev pub IsEquality : {A : Type 0} → (A → A → Bool) → Type 0
IsEquality {A} eq = (left right : A) → IsTrue (eq left right) ↔ (left ≡ right)
