-- What is told of a whole file, of which a beginning was read.
use Rattle.std.proofs.Common.{ℕ, zero, suc, ◌≤◌, List, [], ◌∷◌, length, take, Result, Ok, Err, IfOk, arith}

pub with_ok : {T E : Type 0} (r : Result T E) (P Q : T → Type 0) → IfOk r P → ((x : T) → P x → Q x) → IfOk r Q
with_ok (Ok x) P Q h f = f x h
with_ok (Err e) P Q h f = tt

pub take_shorter : (n : ℕ) (xs : List ℕ) → length (take n xs) ≤ length xs
take_shorter zero xs = omega arith
take_shorter (suc n) [] = omega arith
take_shorter (suc n) (x ∷ xs) = (let more = take_shorter n xs in omega (arith, more))
