-- A name that is looked up stands in front, and a name that stands in front is found, where names are names
-- and no two are the same.
use Rattle.std.proofs.Common.{◌≡◌, ℕ, suc, ◌+◌, ◌<◌, Bool, true, false, eqb, ltb, leb, List, [], ◌∷◌, ◌++◌, length, take, drop, get_or, Option, Some, None, refl, sym, ap, ◌∙◌, append_assoc, arith, tests, inl, inr}
use Rattle.std.specs.List.{list_all}
use Rattle.std.specs.Option.{option_map}
use Rattle.std.specs.Str.{bytes_eq}
use Rattle.std.proofs.lemmas.Bool.{and_parts, eqb-true, ltb-true}
use Rattle.std.proofs.lemmas.List.{drop_more, take_more}
use Rattle.std.proofs.lemmas.Option.{some_pair_parts}
use Rattle.std.proofs.lemmas.Slice.Eq.{bytes_eq-Decides}
use Rattle.script_token.specs.Tokens.{is_word, is_letter, is_name}
use Rattle.script_grammar.specs.Meaning.{place}
use Rattle.digits.specs.Reading.{◌>>=◌}
use Rattle.digits.proofs.Numbers.{bind_some, chosen, chosen_some}
use Rattle.digits.proofs.Forms.{Reads}
use Rattle.script.specs.Names.{AreNames}
use Rattle.journal_text.specs.Reading.{after_byte, before_word, word_at, named_at}
use Rattle.journal_text.proofs.Chains.{are_apart, at_place, place_apart}

pub byte_takes : (end : ℕ) (bytes rest : List ℕ) → after_byte end bytes ≡ Some rest → bytes ≡ end ∷ rest
byte_takes end [] rest e = absurd cc
byte_takes end (b ∷ bytes) rest e =
    let c = chosen_some (eqb b end) bytes rest e in
    let is : b ≡ end = eqb-true b end c.0 in
    ap (λ (x : ℕ). x ∷ bytes) is ∙ ap (λ (x : List ℕ). end ∷ x) c.1

-- WORDS

-- what stands in front up to the first byte before `0`, and that byte
record IsInFront (bytes word : List ℕ) (behind : ℕ) (rest : List ℕ) : Type 0 where
  parts : bytes ≡ word ++ behind ∷ rest
  ends : behind < 48

word_takes : (bytes word : List ℕ) (behind : ℕ) (rest : List ℕ) → word_at bytes ≡ Some ((word, behind), rest) → IsInFront bytes word behind rest
unfolding word_at
word_takes [] word behind rest e = absurd cc
word_takes (b ∷ bytes) word behind rest e =
    elim (chosen (ltb b 48) (Some (([], b), bytes)) (before_word (b ∷ []) (word_at bytes)) (Some ((word, behind), rest)) e) [
      | inl h ↦
          let same = some_pair_parts ([], b) (word, behind) bytes rest h.1 in
          let none : [] ≡ word = ap (λ (p : List ℕ × ℕ). p.0) same.0 in
          let is : b ≡ behind = ap (λ (p : List ℕ × ℕ). p.1) same.0 in
          let after : bytes ≡ rest = same.1 in
          let low : b < 48 = ltb-true b 48 h.0 in
          record { parts = ap (λ (x : ℕ). x ∷ bytes) is ∙ ap (λ (x : List ℕ). behind ∷ x) after ∙ ap (λ (x : List ℕ). x ++ behind ∷ rest) none; ends = omega arith }
      | inr h ↦
          let w = bind_some (word_at bytes) (λ w. Some ((b ∷ w.0.0, w.0.1), w.1)) ((word, behind), rest) h.1 in
          let t = word_takes bytes w.0.0.0 w.0.0.1 w.0.1 w.1 in
          let same = some_pair_parts (b ∷ w.0.0.0, w.0.0.1) (word, behind) w.0.1 rest w.2 in
          let front : b ∷ w.0.0.0 ≡ word = ap (λ (p : List ℕ × ℕ). p.0) same.0 in
          let is : w.0.0.1 ≡ behind = ap (λ (p : List ℕ × ℕ). p.1) same.0 in
          record {
            parts = ap (λ (x : List ℕ). b ∷ x) t.parts ∙ ap (λ (x : ℕ). b ∷ w.0.0.0 ++ x ∷ w.0.1) is ∙ ap (λ (x : List ℕ). b ∷ w.0.0.0 ++ behind ∷ x) same.1 ∙ ap (λ (x : List ℕ). x ++ behind ∷ rest) front;
            ends = omega (arith, t.ends, is);
          }
    ]

word_byte : (b : ℕ) → is_word b ≡ true → ltb b 48 ≡ false
word_byte b e = by_test (ltb b 48) refl
  where
    above : (n : ℕ) → b < n → leb n b ≡ false
    above n h = search (arith, tests)

    by_test : (t : Bool) → ltb b 48 ≡ t → t ≡ false
    by_test true h =
        let low : b < 48 = ltb-true b 48 h in
        let last : eqb b 95 ≡ false = search (arith, tests) in
        let none : is_word b ≡ false = rw (above 97 (omega arith), above 65 (omega arith), above 48 low, last) refl in
        let clash : true ≡ false = sym e ∙ none in absurd cc
    by_test false h = refl

word_again : (word : List ℕ) (behind : ℕ) (rest : List ℕ) → list_all is_word word ≡ true → behind < 48 → word_at (word ++ behind ∷ rest) ≡ Some ((word, behind), rest)
unfolding word_at
word_again [] behind rest h low = (let ends : ltb behind 48 ≡ true = search (arith, tests) in rw ends refl)
word_again (b ∷ word) behind rest h low =
    let p = and_parts (is_word b) (list_all is_word word) h in
    rw (word_byte b p.0, word_again word behind rest p.1 low) refl

-- a word byte by byte, as the loop reads it

pub before_nothing : (read : Option ((List ℕ × ℕ) × List ℕ)) → before_word [] read ≡ read
before_nothing None = refl
before_nothing (Some w) = refl

before_both : (x y : List ℕ) (read : Option ((List ℕ × ℕ) × List ℕ)) → before_word x (before_word y read) ≡ before_word (x ++ y) read
before_both x y None = refl
before_both x y (Some w) = ap (λ (front : List ℕ). Some ((front, w.0.1), w.1)) (sym (append_assoc x y w.0.0))

pub word_on : (bytes : List ℕ) (at : ℕ) → at < length bytes → ltb (get_or bytes at 0) 48 ≡ false → before_word (take at bytes) (word_at (drop at bytes)) ≡ before_word (take (at + 1) bytes) (word_at (drop (at + 1) bytes))
unfolding word_at
word_on bytes at h e =
    let b = get_or bytes at 0 in
    let step : word_at (b ∷ drop (at + 1) bytes) ≡ before_word (b ∷ []) (word_at (drop (at + 1) bytes)) = rw e refl in
    ap (λ (rest : List ℕ). before_word (take at bytes) (word_at rest)) (drop_more bytes at 0 h) ∙ ap (before_word (take at bytes)) step ∙ before_both (take at bytes) (b ∷ []) (word_at (drop (at + 1) bytes))
    ∙ ap (λ (front : List ℕ). before_word front (word_at (drop (at + 1) bytes))) (sym (take_more bytes at 0 h))

-- NAMES

record IsPlace (text : List ℕ) (names : List (List ℕ)) (n : ℕ) : Type 0 where
  within : n < length names
  is : text ≡ get_or names n []

map_some : (o : Option ℕ) (n : ℕ) → option_map (λ k. k + 1) o ≡ Some n → (k : ℕ) × (o ≡ Some k) × (k + 1 ≡ n)
map_some None n e = absurd cc
map_some (Some k) n e = (k, refl, cc)

place_takes : (text : List ℕ) (names : List (List ℕ)) (n : ℕ) → place text names ≡ Some n → IsPlace text names n
place_takes text [] n e = absurd cc
place_takes text (x ∷ names) n e =
    elim (chosen (bytes_eq text x) (Some 0) (option_map (λ k. k + 1) (place text names)) (Some n) e) [
      | inl h ↦
          let zero-is : 0 ≡ n = cc (h.1) in
          record { within = omega (arith, zero-is); is = (bytes_eq-Decides text x).0 h.0 ∙ ap (λ (k : ℕ). get_or (x ∷ names) k []) zero-is }
      | inr h ↦
          let k = map_some (place text names) n h.1 in
          let t = place_takes text names k.0 k.1 in
          let next : suc k.0 ≡ n = omega (arith, k.2) in
          record { within = omega (arith, t.within, k.2); is = t.is ∙ ap (λ (m : ℕ). get_or (x ∷ names) m []) next }
    ]

-- a name and the byte that ends it
abbrev pub ended_name : List (List ℕ) → ℕ → ℕ → List ℕ
ended_name names end n = get_or names n [] ++ end ∷ []

-- the number of a name, and the byte behind it
pub names_read : (names : List (List ℕ)) → AreNames names → Reads {X = ℕ × ℕ} (λ p. p) (named_at names) (λ p. ended_name names p.1 p.0) (λ p. (p.0 < length names) × (p.1 < 48))
unfolding named_at
names_read names h = record {
  takes = λ bytes p rest e.
      let w = bind_some (word_at bytes) (λ word. place word.0.0 names >>= λ n. Some ((n, word.0.1), word.1)) (p, rest) e in
      let n = bind_some (place w.0.0.0 names) (λ n. Some ((n, w.0.0.1), w.0.1)) (p, rest) w.2 in
      let same = some_pair_parts (n.0, w.0.0.1) p w.0.1 rest n.2 in
      let t = word_takes bytes w.0.0.0 w.0.0.1 w.0.1 w.1 in
      let at = place_takes w.0.0.0 names n.0 n.1 in
      record {
        from = (n.0, w.0.0.1);
        value = sym same.0;
        parts = t.parts ∙ ap (λ (x : List ℕ). x ++ w.0.0.1 ∷ w.0.1) at.is ∙ ap (λ (x : List ℕ). get_or names n.0 [] ++ w.0.0.1 ∷ x) same.1 ∙ sym (append_assoc (get_or names n.0 []) (w.0.0.1 ∷ []) rest);
        fits = (at.within, t.ends);
      };
  again = λ p rest fits.
      let name = get_or names p.0 [] in
      let word = (and_parts (is_letter (get_or name 0 0)) (list_all is_word name) (at_place (λ y. is_name y ≡ true) names p.0 h.0 fits.0)).1 in
      ap (named_at names) (append_assoc name (p.1 ∷ []) rest) ∙ rw (word_again name p.1 rest word fits.1, place_apart names name p.0 (are_apart names h.1) fits.0 refl) refl;
}
