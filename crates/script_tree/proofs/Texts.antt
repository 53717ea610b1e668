-- Names that are kept as text.
use Rattle.std.proofs.Common.{◌≡◌, ℕ, zero, suc, List, [], ◌∷◌, length, slice_get, String, Global, refl}
use Rattle.std.specs.Option.{option_map}
use Rattle.std.specs.String.{string_bytes}
use Rattle.std.proofs.lemmas.List.{length-map}
use Rattle.script_tree.specs.Processes.{string_texts}

pub length_texts : (xs : List (String Global)) → length (string_texts xs) ≡ length xs
length_texts xs = length-map xs string_bytes

pub get_texts : (xs : List (String Global)) (i : ℕ) → slice_get (string_texts xs) i ≡ option_map string_bytes (slice_get xs i)
get_texts [] i = refl
get_texts (x ∷ xs) zero = refl
get_texts (x ∷ xs) (suc i) = get_texts xs i
