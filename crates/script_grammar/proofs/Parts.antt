-- What a meaning says of its parts.
use Rattle.std.proofs.Common.{◌≡◌, Bool, true, false, cond, Option, Some, None, refl}
use Rattle.script_grammar.specs.Meaning.{◌>>=◌}

pub record Parted {A B : Type 0} (o : Option A) (f : A → Option B) (y : B) : Type 0 where
  pub first : A
  pub is : o ≡ Some first
  pub then : f first ≡ Some y

pub part : {A B : Type 0} (o : Option A) (f : A → Option B) (y : B) → (o >>= f) ≡ Some y → Parted o f y
part (Some x) f y e = record { first = x; is = refl; then = e }
part None f y e = absurd cc

pub some_is : {A : Type 0} (x y : A) → ◌≡◌ {A = Option A} (Some x) (Some y) → x ≡ y
some_is x y e = cc

pub if_else_some : {P B : Type 0} (b : Bool) (x : Option B) (y : B) → cond b x None ≡ Some y → (b ≡ true → x ≡ Some y → P) → P
if_else_some true x y e f = f refl e
if_else_some false x y e f = absurd cc

pub unless_some : {P B : Type 0} (b : Bool) (x : Option B) (y : B) → cond b None x ≡ Some y → (b ≡ false → x ≡ Some y → P) → P
unless_some true x y e f = absurd cc
unless_some false x y e f = f refl e
