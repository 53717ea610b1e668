-- Readers of the front of the bytes, each with the text that it reads, and how two are joined.
use Rattle.std.proofs.Common.{◌≡◌, ◌⊎◌, ℕ, ◌^◌, ◌<◌, ◌≤◌, true, false, cond, eqb, List, [], ◌∷◌, ◌++◌, length, take, drop, Option, Some, None, refl, sym, ap, ◌∙◌, append_assoc, arith, tests, inl, inr}
use Rattle.std.specs.Fmt.{decimal}
use Rattle.std.specs.Prelude.{nat_eq}
use Rattle.std.specs.Cmp.Lexicographic.{same_text, pointwise}
use Rattle.std.proofs.Math.Seq.{take-append_seam, drop-append_seam}
use Rattle.std.proofs.lemmas.Bool.{eqb-false, eqb-true}
use Rattle.std.proofs.lemmas.Option.{some_pair_parts}
use Rattle.std.proofs.lemmas.List.{take-append-drop}
use Rattle.digits.specs.Reading.{◌>>=◌, leading_at, ended_by, number_at, count_at, begins, after_word, or_else}
use Rattle.digits.proofs.Numbers.{bind_some, chosen, chosen_some, number_takes, number_again}

-- what a reader took from the front: the value that was made of x, whose text stood there
pub record Takes {X Y : Type 0} (make : X → Y) (text : X → List ℕ) (Fits : X → Type 0) (bytes : List ℕ) (y : Y) (rest : List ℕ) : Type 0 where
  pub from : X
  pub value : y ≡ make from
  pub parts : bytes ≡ text from ++ rest
  pub fits : Fits from

-- what is read is what the text says, and what a text says is read, whatever follows it
pub record Reads {X Y : Type 0} (make : X → Y) (read : List ℕ → Option (Y × List ℕ)) (text : X → List ℕ) (Fits : X → Type 0) : Type 0 where
  pub takes : (bytes : List ℕ) (y : Y) (rest : List ℕ) → read bytes ≡ Some (y, rest) → Takes make text Fits bytes y rest
  pub again : (x : X) (rest : List ℕ) → Fits x → read (text x ++ rest) ≡ Some (make x, rest)

abbrev pub joined : {A B Y : Type 0} → (A → B → Y) → (List ℕ → Option (A × List ℕ)) → (List ℕ → Option (B × List ℕ)) → List ℕ → Option (Y × List ℕ)
joined make first second bytes = first bytes >>= λ a. second a.1 >>= λ b. Some (make a.0 b.0, b.1)

pub both : {X Z A B Y : Type 0} (make : A → B → Y) {m : X → A} {n : Z → B} {first : List ℕ → Option (A × List ℕ)} {second : List ℕ → Option (B × List ℕ)} {t : X → List ℕ} {u : Z → List ℕ} {F : X → Type 0} {G : Z → Type 0}
    → Reads m first t F → Reads n second u G → Reads {X = X × Z} (λ p. make (m p.0) (n p.1)) (joined make first second) (λ p. t p.0 ++ u p.1) (λ p. F p.0 × G p.1)
both make {m} {n} {first} {second} {t} {u} h k = record {
  takes = λ bytes y rest e.
      let a = bind_some (first bytes) (λ a. second a.1 >>= λ b. Some (make a.0 b.0, b.1)) (y, rest) e in
      let b = bind_some (second a.0.1) (λ b. Some (make a.0.0 b.0, b.1)) (y, rest) a.2 in
      let p = h.takes bytes a.0.0 a.0.1 a.1 in
      let q = k.takes a.0.1 b.0.0 b.0.1 b.1 in
      let same = some_pair_parts (make a.0.0 b.0.0) y b.0.1 rest b.2 in
      record {
        from = (p.from, q.from);
        value = sym same.0 ∙ ap (λ c. make c b.0.0) p.value ∙ ap (λ c. make (m p.from) c) q.value;
        parts = p.parts ∙ ap (λ (s : List ℕ). t p.from ++ s) (q.parts ∙ ap (λ (s : List ℕ). u q.from ++ s) same.1) ∙ sym (append_assoc (t p.from) (u q.from) rest);
        fits = (p.fits, q.fits);
      };
  again = λ x rest fits.
      ap (joined make first second) (append_assoc (t x.0) (u x.1) rest) ∙ rw (h.again x.0 (u x.1 ++ rest) fits.0, k.again x.1 rest fits.1) refl;
}

-- the same value, made further
abbrev pub then_made : {A Y : Type 0} → (A → Y) → (List ℕ → Option (A × List ℕ)) → List ℕ → Option (Y × List ℕ)
then_made make read bytes = read bytes >>= λ a. Some (make a.0, a.1)

pub made : {X A Y : Type 0} (make : A → Y) {m : X → A} {read : List ℕ → Option (A × List ℕ)} {t : X → List ℕ} {F : X → Type 0}
    → Reads m read t F → Reads {X = X} (λ x. make (m x)) (then_made make read) t F
made make {m} {read} {t} h = record {
  takes = λ bytes y rest e.
      let a = bind_some (read bytes) (λ a. Some (make a.0, a.1)) (y, rest) e in
      let p = h.takes bytes a.0.0 a.0.1 a.1 in
      let same = some_pair_parts (make a.0.0) y a.0.1 rest a.2 in
      record {
        from = p.from;
        value = sym same.0 ∙ ap (λ c. make c) p.value;
        parts = p.parts ∙ ap (λ (s : List ℕ). t p.from ++ s) same.1;
        fits = p.fits;
      };
  again = λ x rest fits. rw (h.again x rest fits) refl;
}

-- ---- numbers

-- what was read with the byte behind it, where that is the end
pub ending : {A : Type 0} (end : ℕ) (t : A → List ℕ) (F : A → Type 0) {read : List ℕ → Option ((A × ℕ) × List ℕ)} → end < 48
    → Reads {X = A × ℕ} (λ p. p) read (λ p. t p.0 ++ p.1 ∷ []) (λ p. F p.0 × (p.1 < 48)) → Reads {X = A} (λ a. a) (λ bytes. ended_by end (read bytes)) (λ a. t a ++ end ∷ []) F
ending {A = A} end t F {read} low h = record {
  takes = λ bytes y rest e.
      let a = bind_some (read bytes) (λ x. cond (eqb x.0.1 end) (Some (x.0.0, x.1)) None) (y, rest) e in
      let c = chosen_some (eqb a.0.0.1 end) (a.0.0.0, a.0.1) (y, rest) a.2 in
      let p = h.takes bytes a.0.0 a.0.1 a.1 in
      let behind : p.from.1 ≡ end = sym (ap (λ (x : A × ℕ). x.1) p.value) ∙ eqb-true a.0.0.1 end c.0 in
      let after : a.0.1 ≡ rest = ap (λ (x : A × List ℕ). x.1) c.1 in
      record {
        from = p.from.0;
        value = sym (ap (λ (x : A × List ℕ). x.0) c.1) ∙ ap (λ (x : A × ℕ). x.0) p.value;
        parts = p.parts ∙ ap (λ (b : ℕ). (t p.from.0 ++ b ∷ []) ++ a.0.1) behind ∙ ap (λ (s : List ℕ). (t p.from.0 ++ end ∷ []) ++ s) after;
        fits = p.fits.0;
      };
  again = λ a rest fits. let same : eqb end end ≡ true = search arith in rw (h.again (a, end) rest (fits, low), same) refl;
}

abbrev pub ended : ℕ → ℕ → List ℕ
ended end n = decimal n ++ end ∷ []

-- a number, and the byte behind it
pub leadings : (limit : ℕ) → limit < 2 ^ 64 → Reads {X = ℕ × ℕ} (λ p. p) (leading_at limit) (λ p. ended p.1 p.0) (λ p. (p.0 ≤ limit) × (p.1 < 48))
leadings limit small = record {
  takes = λ bytes n rest e.
      let t = number_takes limit bytes n.0 n.1 rest small e in
      record { from = n; value = refl; parts = t.parts ∙ sym (append_assoc (decimal n.0) (n.1 ∷ []) rest); fits = (t.within, t.ends) };
  again = λ n rest fits. ap (leading_at limit) (append_assoc (decimal n.0) (n.1 ∷ []) rest) ∙ number_again limit n.0 n.1 rest small fits.1 fits.0;
}

pub numbers : (limit end : ℕ) → limit < 2 ^ 64 → end < 48 → Reads {X = ℕ} (λ n. n) (number_at limit end) (ended end) (λ n. n ≤ limit)
unfolding number_at
numbers limit end small low = ending end decimal (λ n. n ≤ limit) low (leadings limit small)

not_zero : (x y : ℕ × List ℕ) → cond (eqb x.0 0) None (Some x) ≡ Some y → (1 ≤ x.0) × (Some x ≡ Some y)
not_zero x y e =
    elim (chosen (eqb x.0 0) None (Some x) (Some y) e) [
      | inl h ↦ absurd cc
      | inr h ↦ let other : x.0 ≡ 0 → ⊥ = eqb-false x.0 0 h.0 in (omega arith, h.1)
    ]

positive_test : (n : ℕ) → 1 ≤ n → eqb n 0 ≡ false
positive_test n h = search (arith, tests)

pub counts : (limit end : ℕ) → limit < 2 ^ 64 → end < 48 → Reads {X = ℕ} (λ n. n) (count_at limit end) (ended end) (λ n. (1 ≤ n) × (n ≤ limit))
unfolding count_at
counts limit end small low = record {
  takes = λ bytes n rest e.
      let a = bind_some (number_at limit end bytes) (λ n. cond (eqb n.0 0) None (Some n)) (n, rest) e in
      let g = not_zero a.0 (n, rest) a.2 in
      let same = some_pair_parts a.0.0 n a.0.1 rest g.1 in
      let p = (numbers limit end small low).takes bytes n rest (a.1 ∙ g.1) in
      record { from = p.from; value = p.value; parts = p.parts; fits = (omega (arith, g.0, same.0, p.value), p.fits) };
  again = λ n rest fits.
      let positive : eqb n 0 ≡ false = positive_test n fits.0 in
      rw ((numbers limit end small low).again n rest fits.1, positive) refl;
}

-- ---- words

pub word_takes : (word bytes : List ℕ) → begins bytes word ≡ true → bytes ≡ word ++ drop (length word) bytes
word_takes word bytes e =
    let front : take (length word) bytes ≡ word = same_text _ _ (sym e) in
    sym (take-append-drop (length word) bytes) ∙ ap (λ (t : List ℕ). t ++ drop (length word) bytes) front

itself : (word : List ℕ) → pointwise nat_eq word word ≡ true
itself [] = refl
itself (b ∷ word) = (let same : eqb b b ≡ true = search arith in rw (same, itself word) refl)

begins_again : (word bytes : List ℕ) → begins (word ++ bytes) word ≡ true
begins_again word bytes = ap (λ (front : List ℕ). pointwise nat_eq front word) (take-append_seam word bytes) ∙ itself word

pub after_again : (word bytes : List ℕ) → after_word word (word ++ bytes) ≡ Some bytes
after_again word bytes = rw (begins_again word bytes) (ap (λ (rest : List ℕ). Some rest) (drop-append_seam word bytes))

-- a word, and what stands behind it
pub worded : {X A Y : Type 0} (word : List ℕ) (make : A → Y) {m : X → A} {read : List ℕ → Option (A × List ℕ)} {t : X → List ℕ} {F : X → Type 0}
    → Reads m read t F → Reads {X = X} (λ x. make (m x)) (λ bytes. after_word word bytes >>= λ rest. read rest >>= λ a. Some (make a.0, a.1)) (λ x. word ++ t x) F
worded word make {m} {read} {t} h = record {
  takes = λ bytes y rest e.
      let a = bind_some (after_word word bytes) (λ rest. read rest >>= λ a. Some (make a.0, a.1)) (y, rest) e in
      let w = chosen_some (begins bytes word) (drop (length word) bytes) a.0 a.1 in
      let p = (made make h).takes a.0 y rest a.2 in
      record {
        from = p.from;
        value = p.value;
        parts = word_takes word bytes w.0 ∙ ap (λ (s : List ℕ). word ++ s) (w.1 ∙ p.parts) ∙ sym (append_assoc word (t p.from) rest);
        fits = p.fits;
      };
  again = λ x rest fits.
      ap (λ (s : List ℕ). after_word word s >>= λ rest. read rest >>= λ a. Some (make a.0, a.1)) (append_assoc word (t x) rest)
      ∙ rw (after_again word (t x ++ rest), h.again x rest fits) refl;
}

-- ONE OF TWO

abbrev pub either : {A B C : Type 0} → (A → C) → (B → C) → A ⊎ B → C
either f g (inl a) = f a
either f g (inr b) = g b

abbrev pub Either : {A B : Type 0} → (A → Type 0) → (B → Type 0) → A ⊎ B → Type 0
Either F G (inl a) = F a
Either F G (inr b) = G b

pub first_or_second : {A : Type 0} (o p : Option A) (y : A) → or_else o p ≡ Some y → (o ≡ Some y) ⊎ (p ≡ Some y)
first_or_second None p y e = inr e
first_or_second (Some x) p y e = inl e

-- the first reader that succeeds, where the first does not read what the second reads
module _ {X Z Y : Type 0} {m : X → Y} {n : Z → Y} {first second : List ℕ → Option (Y × List ℕ)} {t : X → List ℕ} {u : Z → List ℕ} {F : X → Type 0} {G : Z → Type 0}
    (h : Reads m first t F) (k : Reads n second u G) (apart : (z : Z) (rest : List ℕ) → G z → first (u z ++ rest) ≡ None) where
  choice_again : (x : X ⊎ Z) (rest : List ℕ) → Either F G x → or_else (first (either t u x ++ rest)) (second (either t u x ++ rest)) ≡ Some (either m n x, rest)
  choice_again (inl x) rest fits = rw (h.again x rest fits) refl
  choice_again (inr z) rest fits = rw (apart z rest fits, k.again z rest fits) refl

  pub choice : Reads {X = X ⊎ Z} (either m n) (λ bytes. or_else (first bytes) (second bytes)) (either t u) (Either F G)
  choice = record {
    takes = λ bytes y rest e.
        elim (first_or_second (first bytes) (second bytes) (y, rest) e) [
          | inl a ↦ (let p = h.takes bytes y rest a in record { from = inl p.from; value = p.value; parts = p.parts; fits = p.fits })
          | inr b ↦ (let p = k.takes bytes y rest b in record { from = inr p.from; value = p.value; parts = p.parts; fits = p.fits })
        ];
    again = choice_again;
  }

-- ANOTHER FORM OF THE TEXT

-- each value that is read was written so, and each value that fits is read from its text
pub settled : {X Y : Type 0} (text : Y → List ℕ) (Fits : Y → Type 0) {m : X → Y} {read : List ℕ → Option (Y × List ℕ)} {t : X → List ℕ} {F : X → Type 0}
    → Reads m read t F → ((x : X) → F x → (t x ≡ text (m x)) × Fits (m x)) → ((y : Y) → Fits y → (x : X) × (m x ≡ y) × F x)
    → Reads {X = Y} (λ y. y) read text Fits
settled {Y = Y} text Fits {m} {read} {t} h there back = record {
  takes = λ bytes y rest e.
      let p = h.takes bytes y rest e in
      let q = there p.from p.fits in
      record {
        from = m p.from;
        value = p.value;
        parts = p.parts ∙ ap (λ (s : List ℕ). s ++ rest) q.0;
        fits = q.1;
      };
  again = λ y rest fits.
      let x = back y fits in
      let q = there x.0 x.2 in
      ap (λ (s : List ℕ). read (s ++ rest)) (ap text (sym x.1) ∙ sym q.0) ∙ h.again x.0 rest x.2 ∙ ap (λ (z : Y). Some (z, rest)) x.1;
}
