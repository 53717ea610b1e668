-- What a call has given, where it is left with an error, and where it repeats steps.
use Rattle.std.proofs.Common.{◌≡◌, ℕ, zero, suc, ◌+◌, ◌-◌, ◌<◌, ◌≤◌, List, [], ◌∷◌, ◌++◌, map, Option, Some, None, Result, Ok, IsErrAnd, sym, ap, ◌∙◌, arith}
use Rattle.std.proofs.lemmas.Result.{err_from_is_err_and}
use Rattle.std.proofs.lemmas.List.{map-append}
use Rattle.script_reader.specs.Steps.{Told, ◌>>=◌, Fails, Gives, repeated}
use Rattle.script_reader.specs.declared.fault.Stop.{Stop}
use Rattle.script_reader.specs.declared.fault.Stop.TheVariants.{Memory, At}

pub gives_err : {X Y : Type 0} (view : X → Y) (r : Result X Stop) (e : Stop) (read : Result Y Told) → IsErrAnd r (λ y. y ≡ e) → Fails e read → Gives view r read
gives_err view r e read left h = (let p = err_from_is_err_and r left in rw (p.1, p.2) h)

pub fails_same : {Y : Type 0} (e : Stop) (a b : Result Y Told) → a ≡ b → Fails e a → Fails e b
fails_same Memory a b same h = tt
fails_same (At fault) a b same h = sym same ∙ h

pub fails_bind : {A B : Type 0} (e : Stop) (r : Result A Told) (f : A → Result B Told) → Fails e r → Fails e (r >>= f)
fails_bind Memory r f h = tt
fails_bind (At fault) r f h = ap (λ x. x >>= f) h

-- a step that was there
pub repeated_step : {S : Type 0} (step : S → Option (Result S Told)) (count turn : ℕ) (s : S) (r whole : Result S Told)
    → turn < count → step s ≡ Some r → repeated step (count - turn) s ≡ whole → (r >>= repeated step (count - (turn + 1))) ≡ whole
unfolding repeated
repeated_step {S} step count turn s r whole h is e =
    let n : count - turn ≡ suc (count - (turn + 1)) = omega arith in
    let more : repeated step (suc (count - (turn + 1))) s ≡ whole = ap (λ (k : ℕ). repeated step k s) (sym n) ∙ e in
    (rw is at more)

pub repeated_none : {S : Type 0} (step : S → Option (Result S Told)) (n : ℕ) (s : S) (whole : Result S Told) → step s ≡ None → repeated step n s ≡ whole → whole ≡ Ok s
unfolding repeated
repeated_none step zero s whole is e = sym e
repeated_none step (suc n) s whole is e = sym (rw is at e)

pub repeated_all : {S : Type 0} (step : S → Option (Result S Told)) (count turn : ℕ) (s : S) (whole : Result S Told) → count ≤ turn → repeated step (count - turn) s ≡ whole → whole ≡ Ok s
unfolding repeated
repeated_all step count turn s whole h e =
    let n : count - turn ≡ zero = omega arith in
    sym e ∙ ap (λ (k : ℕ). repeated step k s) n

-- after a step that was read
pub goes_on : {S : Type 0} (step : S → Option (Result S Told)) (n : ℕ) (r : Result S Told) (s : S) (whole : Result S Told) → r ≡ Ok s → (r >>= repeated step n) ≡ whole → repeated step n s ≡ whole
goes_on step n r s whole done e = ap (λ x. x >>= repeated step n) (sym done) ∙ e

pub map_more : {A B : Type 0} (f : A → B) (xs ys : List A) (x : A) → ys ≡ xs ++ x ∷ [] → map f ys ≡ map f xs ++ f x ∷ []
map_more f xs ys x e = ap (map f) e ∙ map-append f xs (x ∷ [])
