-- What holds of each element holds of the first and of the rest.
use Rattle.std.proofs.Common.{◌≡◌, List, [], ◌∷◌, suc, zero, arith, subst, sym, ◌++◌, Bool, true, false, Contains}
use Rattle.std.specs.Prelude.{All, if◌then◌else◌}
use Rattle.std.proofs.lemmas.List.Elements.{All-append}

pub all_head : {A : Type 0} (P : A → Type 0) (x : A) (xs : List A) → All P (x ∷ xs) → P x
all_head P x xs a = a 0 x (omega arith)

pub all_rest : {A : Type 0} (P : A → Type 0) (x : A) (xs : List A) → All P (x ∷ xs) → All P xs
all_rest P x xs a k d h = a (suc k) d (omega (arith, h))

pub all_one : {A : Type 0} (P : A → Type 0) (x : A) → P x → All P (x ∷ [])
all_one P x p zero d h = p
all_one P x p (suc k) d h = absurd (omega arith)

pub all_none : {A : Type 0} (P : A → Type 0) → All P []
all_none P k d h = absurd (omega (arith, h))

pub all_is : {A : Type 0} (P : A → Type 0) (xs ys : List A) → xs ≡ ys → All P xs → All P ys
all_is P xs ys same a = subst (λ (zs : List _). All P zs) same a

pub all_pushed : {A : Type 0} (P : A → Type 0) (pushed : Bool) (xs zs : List A) (x : A) → zs ≡ (if pushed then xs ++ x ∷ [] else xs) → All P xs → P x → All P zs
all_pushed P true xs zs x is a p = all_is P _ zs (sym is) (All-append P xs (x ∷ []) a (all_one P x p))
all_pushed P false xs zs x is a p = all_is P _ zs (sym is) a

pub all_at : {A : Type 0} (P : A → Type 0) (xs : List A) (x : A) → All P xs → Contains xs x → P x
all_at P xs x all has = subst P has.2 (all has.0 x has.1)
