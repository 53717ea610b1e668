-- Laws of going on where the thread is kept.
use Rattle.std.proofs.Common.{◌≡◌, refl}
use Rattle.std.specs.Prelude.{⊤, Result, Ok, Err}
use Rattle.thread.specs.declared.Fault.{Fault}
use Rattle.thread.specs.Standing.{State, Outcome, Goes, Offers, Finishes, Fails, Strays, ◌>>=◌, given}

-- going on twice is going on once
pub bind_assoc : {A B C : Type 0} (x : Outcome A) (f : A → Outcome B) (g : B → Outcome C) → x >>= f >>= g ≡ (x >>= λ a. f a >>= g)
bind_assoc (Goes a) f g = refl
bind_assoc (Offers tree at) f g = refl
bind_assoc (Finishes at) f g = refl
bind_assoc (Fails fault at) f g = refl
bind_assoc Strays f g = refl

-- a fact of the value that it goes on with, if it does
abbrev pub IfGoes : {A : Type 0} → Outcome A → (A → Type 0) → Type 0
IfGoes (Goes a) P = P a
IfGoes (Offers tree at) P = ⊤
IfGoes (Finishes at) P = ⊤
IfGoes (Fails fault at) P = ⊤
IfGoes Strays P = ⊤

pub bind_goes : {A B : Type 0} (x : Outcome A) (f : A → Outcome B) (P : A → Type 0) (Q : B → Type 0) → IfGoes x P → ((a : A) → P a → IfGoes (f a) Q) → IfGoes (x >>= f) Q
bind_goes (Goes a) f P Q h next = next a h
bind_goes (Offers tree at) f P Q h next = tt
bind_goes (Finishes at) f P Q h next = tt
bind_goes (Fails fault at) f P Q h next = tt
bind_goes Strays f P Q h next = tt

pub bind_same : {A B : Type 0} (x : Outcome A) (f g : A → Outcome B) (P : A → Type 0) → IfGoes x P → ((a : A) → P a → f a ≡ g a) → (x >>= f) ≡ (x >>= g)
bind_same (Goes a) f g P h same = same a h
bind_same (Offers tree at) f g P h same = refl
bind_same (Finishes at) f g P h same = refl
bind_same (Fails fault at) f g P h same = refl
bind_same Strays f g P h same = refl

pub bind_each : {A B : Type 0} (x : Outcome A) (f g : A → Outcome B) → ((a : A) → f a ≡ g a) → (x >>= f) ≡ (x >>= g)
bind_each (Goes a) f g same = same a
bind_each (Offers tree at) f g same = refl
bind_each (Finishes at) f g same = refl
bind_each (Fails fault at) f g same = refl
bind_each Strays f g same = refl

pub given_goes : {A : Type 0} (s : State) (r : Result A Fault) → IfGoes (given s r) (λ a. ⊤)
given_goes s (Ok a) = tt
given_goes s (Err fault) = tt

pub goes_weaker : {A : Type 0} (x : Outcome A) (P Q : A → Type 0) → ((a : A) → P a → Q a) → IfGoes x P → IfGoes x Q
goes_weaker (Goes a) P Q weaker h = weaker a h
goes_weaker (Offers tree at) P Q weaker h = tt
goes_weaker (Finishes at) P Q weaker h = tt
goes_weaker (Fails fault at) P Q weaker h = tt
goes_weaker Strays P Q weaker h = tt

pub goes_anyhow : {A : Type 0} (x : Outcome A) → IfGoes x (λ _. ⊤)
goes_anyhow (Goes a) = tt
goes_anyhow (Offers tree at) = tt
goes_anyhow (Finishes at) = tt
goes_anyhow (Fails fault at) = tt
goes_anyhow Strays = tt
