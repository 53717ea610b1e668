-- Names that C gives: no bytes are none.
use Rattle.std.specs.Prelude.{◌≡◌, ℕ, List, [], ◌∷◌, Option, None, Some}
use Rattle.pcml_request.specs.declared.request.Wanted.{Wanted}
use Rattle.pcml_request.specs.declared.request.Wanted.TheVariants.{Each, Lacking}

abbrev pub given : List ℕ → Option (List ℕ)
given [] = None
given (byte ∷ bytes) = Some (byte ∷ bytes)

-- Where names are needed, the outcomes are wanted in which one of their processes has not ended, and else all.
abbrev pub Wants : Option (List ℕ) → Wanted → Type 0
Wants None Each = Unit {0}
Wants (Some names) (Lacking needed) = needed.now ≡ names
Wants names wanted = ⊥
