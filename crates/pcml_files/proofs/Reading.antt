-- What is read of a reader up to a limit.
use Rattle.std.proofs.Common.{◌≡◌, ℕ, List, [], ◌++◌, take, Option, Some, None, IfSome, ap, subst}
use Rattle.std.specs.Option.{option_map}
use Rattle.std.specs.Io.Take.{take_remaining}
use Rattle.std.specs.declared.io.traits.Take.{Take}

known_first : (known : Option (List ℕ)) (limit : ℕ) (bytes : List ℕ) → IfSome (option_map (take limit) known) (λ xs. bytes ≡ xs) → IfSome known (λ all. bytes ≡ take limit all)
known_first None limit bytes is = tt
known_first (Some all) limit bytes is = is

-- read to its end behind nothing, a reader with a limit gives what stands first in the reader itself
pub first_read : {R : Type 0} (remaining : R → Option (List ℕ)) (reader : R) (limited : Take R) (limit : ℕ) (old bytes : List ℕ) → limited.inner ≡ reader → limited.limit ≡ limit → old ≡ [] → IfSome (take_remaining remaining limited) (λ xs. bytes ≡ old ++ xs) → IfSome (remaining reader) (λ all. bytes ≡ take limit all)
first_read remaining reader limited limit old bytes inner same none is =
    let behind_nothing = subst (λ (l : List ℕ). IfSome (take_remaining remaining limited) (λ xs. bytes ≡ l ++ xs)) none is in
    let so_many = subst (λ (n : ℕ). IfSome (option_map (take n) (remaining limited.inner)) (λ xs. bytes ≡ xs)) same behind_nothing in
    known_first (remaining reader) limit bytes (subst (λ (o : Option (List ℕ)). IfSome (option_map (take limit) o) (λ xs. bytes ≡ xs)) (ap remaining inner) so_many)
