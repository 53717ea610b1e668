-- Names are text.
use Rattle.std.proofs.Common.{◌≡◌, ◌<◌, ℕ, true, List, [], ◌∷◌, arith, get_or, zero, suc}
use Rattle.std.proofs.lemmas.Bool.Decides.{nat_tests}
use Rattle.std.specs.List.{list_all}
use Rattle.std.specs.Str.{IsUtf8}
use Rattle.std.proofs.lemmas.Bool.{and_parts}
use Rattle.std.proofs.lemmas.Str.{IsUtf8-from_ascii}
use Rattle.script_token.specs.Tokens.{is_word, is_letter, is_name}

is_word-ascii : (b : ℕ) → is_word b ≡ true → b < 128
is_word-ascii b h = grind (arith, nat_tests)

all_ascii : (w : List ℕ) → list_all is_word w ≡ true → (i : ℕ) → get_or w i 0 < 128
all_ascii [] h i = omega arith
all_ascii (b ∷ w) h zero = is_word-ascii b (and_parts (is_word b) (list_all is_word w) h).0
all_ascii (b ∷ w) h (suc i) = all_ascii w (and_parts (is_word b) (list_all is_word w) h).1 i

pub IsUtf8-from_name : (w : List ℕ) → is_name w ≡ true → IsUtf8 w
IsUtf8-from_name w h = IsUtf8-from_ascii w (all_ascii w (and_parts (is_letter (get_or w 0 0)) (list_all is_word w) h).1)
