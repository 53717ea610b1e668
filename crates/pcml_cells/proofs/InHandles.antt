-- A call on what a pass keeps, told of the pass.
use Rattle.std.proofs.Common.{◌≡◌, refl, subst, sym, ℕ}
use Rattle.std.specs.Prelude.{Some}
use Rattle.cell_hand.specs.Hands.{HandOf}
use Rattle.cell_hand.specs.declared.kept.Kept.{Kept}
use Rattle.cell_hand.specs.declared.kept.Kept.TheVariants.{Hand}
use Rattle.pcml_cells.specs.Owned.{InHandle}
use Rattle.pcml_cells.specs.Answers.{Does, Told}

-- it was in a handle
pub told : (before after : InHandle) (b was k : Kept) (answer : ℕ) (By : HandOf → HandOf → Type 0) → before ≡ Some b → was ≡ b → after ≡ Some k → Does was k answer By
    → Told before after answer By
told before after b was k answer By e w f d =
    subst (λ (x : InHandle). Told x after answer By) (sym e) (k, f, subst (λ (x : Kept). Does x k answer By) w d)

-- it was a hand
pub by_hand : (was : Kept) (h k : HandOf) (answer : ℕ) (By : HandOf → HandOf → Type 0) → was ≡ Hand h → By h k → Does was (Hand k) answer By
by_hand was h k answer By e b = subst (λ (x : Kept). Does x (Hand k) answer By) (sym e) (k, refl, b)
