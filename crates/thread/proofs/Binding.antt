-- Laws of going on.
use Rattle.std.proofs.Common.{◌≡◌, refl}
use Rattle.std.specs.Prelude.{⊤, Result, Ok, Err, Bool, true, false, if◌then◌else◌}
use Rattle.thread.specs.declared.Fault.{Fault}
use Rattle.thread.specs.After.{State, Outcome, Goes, Offers, Finishes, Fails, Strays, ◌>>=◌, given}

-- going on twice is going on once
pub bind_assoc : {A B C : Type 0} (x : Outcome A) (f : A → Outcome B) (g : B → Outcome C) → x >>= f >>= g ≡ (x >>= λ a. f a >>= g)
bind_assoc (Goes a) f g = refl
bind_assoc (Offers tree printed) f g = refl
bind_assoc (Finishes printed left) f g = refl
bind_assoc (Fails fault printed left) f g = refl
bind_assoc Strays f g = refl

-- a fact of the value that it goes on with, if it does
abbrev pub IfGoes : {A : Type 0} → Outcome A → (A → Type 0) → Type 0
IfGoes (Goes a) P = P a
IfGoes (Offers tree printed) P = ⊤
IfGoes (Finishes printed left) P = ⊤
IfGoes (Fails fault printed left) P = ⊤
IfGoes Strays P = ⊤

pub bind_goes : {A B : Type 0} (x : Outcome A) (f : A → Outcome B) (P : A → Type 0) (Q : B → Type 0) → IfGoes x P → ((a : A) → P a → IfGoes (f a) Q) → IfGoes (x >>= f) Q
bind_goes (Goes a) f P Q h next = next a h
bind_goes (Offers tree printed) f P Q h next = tt
bind_goes (Finishes printed left) f P Q h next = tt
bind_goes (Fails fault printed left) f P Q h next = tt
bind_goes Strays f P Q h next = tt

pub bind_same : {A B : Type 0} (x : Outcome A) (f g : A → Outcome B) (P : A → Type 0) → IfGoes x P → ((a : A) → P a → f a ≡ g a) → (x >>= f) ≡ (x >>= g)
bind_same (Goes a) f g P h same = same a h
bind_same (Offers tree printed) f g P h same = refl
bind_same (Finishes printed left) f g P h same = refl
bind_same (Fails fault printed left) f g P h same = refl
bind_same Strays f g P h same = refl

pub bind_each : {A B : Type 0} (x : Outcome A) (f g : A → Outcome B) → ((a : A) → f a ≡ g a) → (x >>= f) ≡ (x >>= g)
bind_each (Goes a) f g same = same a
bind_each (Offers tree printed) f g same = refl
bind_each (Finishes printed left) f g same = refl
bind_each (Fails fault printed left) f g same = refl
bind_each Strays f g same = refl

pub given_goes : {A : Type 0} (s : State) (r : Result A Fault) → IfGoes (given s r) (λ a. ⊤)
given_goes s (Ok a) = tt
given_goes s (Err fault) = tt

pub if_goes : {A : Type 0} (b : Bool) (x y : Outcome A) (P : A → Type 0) → IfGoes x P → IfGoes y P → IfGoes (if b then x else y) P
if_goes true x y P first second = first
if_goes false x y P first second = second

pub goes_weaker : {A : Type 0} (x : Outcome A) (P Q : A → Type 0) → ((a : A) → P a → Q a) → IfGoes x P → IfGoes x Q
goes_weaker (Goes a) P Q weaker h = weaker a h
goes_weaker (Offers tree printed) P Q weaker h = tt
goes_weaker (Finishes printed left) P Q weaker h = tt
goes_weaker (Fails fault printed left) P Q weaker h = tt
goes_weaker Strays P Q weaker h = tt

pub goes_anyhow : {A : Type 0} (x : Outcome A) → IfGoes x (λ _. ⊤)
goes_anyhow (Goes a) = tt
goes_anyhow (Offers tree printed) = tt
goes_anyhow (Finishes printed left) = tt
goes_anyhow (Fails fault printed left) = tt
goes_anyhow Strays = tt
