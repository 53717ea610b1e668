-- Where a word stands first, in tokens and in what is seen of them.
use Rattle.std.proofs.Common.{◌≡◌, ℕ, zero, suc, ◌+◌, ◌<◌, ◌≤◌, Bool, true, false, not, cond, List, [], ◌∷◌, length, map, take, drop, get_or, ◌++◌, add-one, refl, sym, ap, ◌∙◌, arith}
use Rattle.std.specs.List.{after_first, before_first, position_or_len}
use Rattle.std.proofs.lemmas.List.{drop_all, drop-map, length_push, take-map}
use Rattle.script_token.specs.Tokens.{Token}
use Rattle.pcml_why_sites.specs.Writing.{Written, behind, is_process, part, texts_below, written_in}

step : (b : Bool) (m n i : ℕ) → cond (not b) (1 + m) 0 ≡ suc i → (m ≡ i → i ≡ n) → suc i ≡ cond (not b) (1 + n) 0
step true m n i e more = absurd (omega arith)
step false m n i e more = let same : i ≡ n = more (omega arith) in omega arith

-- the first i elements fail, and the next one passes
pub stops-at : {X : Type 0} (p : X → Bool) (xs : List X) (i : ℕ) (d : X) → i < length xs → position_or_len p (take i xs) ≡ i → p (get_or xs i d) ≡ true → i ≡ position_or_len p xs
stops-at p [] i d within before here = absurd (omega arith)
stops-at p (x ∷ xs) zero d within before here = rw here refl
stops-at p (x ∷ xs) (suc i) d within before here =
    step (p x) (position_or_len p (take i xs)) (position_or_len p xs) i before (λ e. stops-at p xs i d (omega arith) e here)

position-map : {X Y : Type 0} (p : Y → Bool) (f : X → Y) (xs : List X) → position_or_len p (map f xs) ≡ position_or_len (λ x. p (f x)) xs
position-map p f [] = refl
position-map p f (x ∷ xs) = ap (λ (n : ℕ). cond (not (p (f x))) (1 + n) 0) (position-map p f xs)

pub before-map : {X Y : Type 0} (p : Y → Bool) (f : X → Y) (xs : List X) (n : ℕ) → n ≡ position_or_len (λ x. p (f x)) xs → map f (take n xs) ≡ before_first p (map f xs)
before-map p f xs n is = sym (take-map f n xs) ∙ ap (λ (k : ℕ). take k (map f xs)) (is ∙ sym (position-map p f xs))

pub after-map : {X Y : Type 0} (p : Y → Bool) (f : X → Y) (xs : List X) (n : ℕ) → n ≡ position_or_len (λ x. p (f x)) xs → map f (drop (n + 1) xs) ≡ after_first p (map f xs)
after-map p f xs n is = sym (drop-map f (n + 1) xs) ∙ ap (λ (k : ℕ). drop (k + 1) (map f xs)) (is ∙ sym (position-map p f xs))

pub none-left : {X : Type 0} (xs : List X) (n : ℕ) → length xs ≤ n → drop n xs ≡ drop (n + 1) xs
none-left xs n past = drop_all n xs past ∙ sym (drop_all (n + 1) xs (omega arith))

pub more-rest : (tokens : List (Token × ℕ)) (n : ℕ) (old new : List (Token × ℕ)) → old ≡ behind tokens n → new ≡ after_first (λ p. is_process p.0) old → new ≡ behind tokens (n + 1)
more-rest tokens n old new before e = rw add-one (e ∙ ap (λ (ps : List (Token × ℕ)). after_first (λ p. is_process p.0) ps) before)

pub more-texts : (tokens : List (Token × ℕ)) (n : ℕ) (old : List (List Written)) (rest : List (Token × ℕ)) (new : List Written) → old ≡ texts_below tokens n → rest ≡ behind tokens (n + 1)
    → new ≡ written_in (before_first (λ p. is_process p.0) rest) → old ++ new ∷ [] ≡ texts_below tokens (n + 1)
more-texts tokens n old rest new before is_behind e =
    let is : rest ≡ behind tokens (suc n) = rw add-one at is_behind in
    rw add-one (ap (λ (ws : List (List Written)). ws ++ new ∷ []) before ∙ ap (λ (ws : List Written). texts_below tokens n ++ ws ∷ []) (e ∙ ap (λ (ps : List (Token × ℕ)). written_in (before_first (λ p. is_process p.0) ps)) is))

more : (n : ℕ) → n + 1 ≡ suc n
more n = omega arith

pub length-texts : (tokens : List (Token × ℕ)) (n : ℕ) → length (texts_below tokens n) ≡ n
length-texts tokens zero = refl
length-texts tokens (suc n) = length_push (texts_below tokens n) (written_in (part tokens n)) ∙ ap (λ (k : ℕ). k + 1) (length-texts tokens n) ∙ more n
