-- Lines of those who wait.
use Rattle.std.specs.Prelude.{◌≡◌, ◌⊎◌, ◌==◌, ℕ, Bool, not, List, [], ◌∷◌}
use Rattle.std.specs.List.{list_any}
use Rattle.channels.specs.declared.waiting.Side.{Side}
use Rattle.channels.specs.declared.waiting.Side.TheVariants.{Send, Receive}
use Rattle.channels.specs.declared.waiting.Waiting.{Waiting}

abbrev pub opposite : Side → Side
opposite Send = Receive
opposite Receive = Send

abbrev pub IsIn : List Waiting → Waiting → Type 0
IsIn [] w = ⊥
IsIn (x ∷ xs) w = (x ≡ w) ⊎ IsIn xs w

-- whether somebody of another ticket stands in the line
abbrev pub has_other : ℕ → List Waiting → Bool
has_other ticket waiting = list_any (λ w. not (w.ticket == ticket)) waiting
