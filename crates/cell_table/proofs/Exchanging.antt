-- What an exchange comes to.
use Rattle.std.proofs.Common.{IfErr, IfOk, Result, Ok, Err}

-- AN EXCHANGE was made, or it found another cell
pub exchange_made : {A B : Type 0} (x : Result A B) (P : Type 0) (Q : A → Type 0) → ((a : A) → P → Q a) → IfOk x (λ a. P) → IfOk x Q
exchange_made (Ok a) P Q f h = f a h
exchange_made (Err b) P Q f h = tt

pub exchange_refused : {A B : Type 0} (x : Result A B) (P Q : B → Type 0) → ((b : B) → P b → Q b) → IfErr x P → IfErr x Q
exchange_refused (Ok a) P Q f h = tt
exchange_refused (Err b) P Q f h = f b h

pub exchange_either : {A B : Type 0} (x : Result A B) (P : Type 0) (Q : B → Type 0) (R : Type 0) → (P → R) → ((b : B) → Q b → R) → IfOk x (λ a. P) → IfErr x Q → R
exchange_either (Ok a) P Q R f g h i = f h
exchange_either (Err b) P Q R f g h i = g b i
