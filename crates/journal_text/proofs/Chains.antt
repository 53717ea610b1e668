-- The chains of the names in one slot.
use Rattle.std.proofs.Common.{◌≡◌, ◌≢◌, ◌⊎◌, ℕ, zero, suc, ◌+◌, ◌-◌, ◌<◌, ◌≤◌, Bool, true, false, cond, eqb, List, [], ◌∷◌, ◌++◌, length, take, get_or, set, replicate, Some, None, refl, sym, ap, subst, ◌∙◌, arith, rules, inl, inr}
use Rattle.std.specs.List.{AllByRecursion}
use Rattle.std.specs.Str.{bytes_eq}
use Rattle.std.proofs.lemmas.Bool.{eqb-true, eqb-false}
use Rattle.std.proofs.lemmas.Slice.Eq.{bytes_eq-Decides}
use Rattle.std.proofs.Math.ListN.{get_or-append}
use Rattle.std.proofs.Math.Seq.{get_or-append_seam}
use Rattle.std.proofs.lemmas.Grind.{get_or-set_at}
use Rattle.std.proofs.lemmas.List.{get_or-map, get_or-replicate, get_or-set_other, length-append, length-map, length-replicate, length-set, take_more}
use denote.Ref.{Bor}
use Rattle.script_reader.specs.Places.{texts}
use Rattle.script_grammar.specs.Meaning.{place}
use Rattle.script.specs.Names.{AreDistinct}
use Rattle.journal_text.specs.Names.{AreWithin}
use Rattle.journal_text.specs.Slots.{hash_step, hash_from, hash_of, slot_of, last_in, AreHeads, AreLinks, AreApart}

unlike : (x y : List ℕ) → (x ≡ y → ⊥) → bytes_eq x y ≡ false
unlike x y h = by_test (bytes_eq x y) refl
  where
    by_test : (b : Bool) → bytes_eq x y ≡ b → b ≡ false
    by_test true e = absurd (h ((bytes_eq-Decides x y).0 e))
    by_test false e = refl

-- SLOTS

hash_more : (text : List ℕ) (hash byte : ℕ) → hash_from hash (text ++ byte ∷ []) ≡ hash_step (hash_from hash text) byte
unfolding hash_from
hash_more [] hash byte = refl
hash_more (b ∷ text) hash byte = hash_more text (hash_step hash b) byte

-- the hash of a text byte by byte, as a loop takes it
pub hash_begun : 0 ≡ hash_of []
unfolding hash_from
hash_begun = refl

pub hash_on : (text : List ℕ) (at hash next : ℕ) → at < length text → hash ≡ hash_of (take at text) → next ≡ hash_step hash (get_or text at 0) → next ≡ hash_of (take (at + 1) text)
hash_on text at hash next h e step =
    step ∙ ap (λ (n : ℕ). hash_step n (get_or text at 0)) e ∙ sym (hash_more (take at text) 0 (get_or text at 0)) ∙ ap hash_of (sym (take_more text at 0 h))

-- CHAINS

-- what is so of the first of a chain, counted from 1: it is in the slot, and none from it on is
pub record IsLast (slot : ℕ) (names : List (List ℕ)) (n at : ℕ) : Type 0 where
  pub within : at ≤ n
  pub there : 0 < at → slot_of (get_or names (at - 1) []) ≡ slot
  pub none : (k : ℕ) → at ≤ k → k < n → slot_of (get_or names k []) ≢ slot

pub is_last : (slot : ℕ) (names : List (List ℕ)) (n : ℕ) → IsLast slot names n (last_in slot names n)
unfolding last_in
is_last slot names zero = record { within = omega arith; there = λ h. absurd (omega arith); none = λ k p q. absurd (omega arith) }
is_last slot names (suc n) = by_test (is_last slot names n) (eqb (slot_of (get_or names n [])) slot) refl
  where
    at_last : (k n : ℕ) → k < suc n → (k < n) ⊎ (k ≡ n)
    at_last k n h = search (rules, arith)

    by_test : IsLast slot names n (last_in slot names n) → (b : Bool) → eqb (slot_of (get_or names n [])) slot ≡ b → IsLast slot names (suc n) (cond b (suc n) (last_in slot names n))
    by_test before true e = record {
      within = omega arith;
      there = λ h. let one : suc n - 1 ≡ n = omega arith in ap (λ (k : ℕ). slot_of (get_or names k [])) one ∙ eqb-true _ slot e;
      none = λ k p q. absurd (omega arith);
    }
    by_test before false e =
        record {
          within = omega (arith, before.within);
          there = before.there;
          none = λ k p q same. elim (at_last k n q) [ inl less ↦ before.none k p less same | inr is ↦ eqb-false _ slot e (sym (ap (λ (m : ℕ). slot_of (get_or names m [])) is) ∙ same) ];
        }

-- a text, and what it is looked up by, one name after the other

pub heads_begun : (names : List (List ℕ)) → AreHeads names 0 (replicate 1024 0)
unfolding last_in
heads_begun names = record { count = length-replicate {A = ℕ} 1024 0; each = λ slot h. get_or-replicate 1024 slot 0 0 h }

pub heads_more : (names : List (List ℕ)) (n : ℕ) (heads : List ℕ) (slot : ℕ) → AreHeads names n heads → slot ≡ slot_of (get_or names n []) → slot < 1024 → AreHeads names (n + 1) (set heads slot (n + 1))
unfolding last_in
heads_more names n heads slot h is small = record { count = length-set heads slot (n + 1) ∙ h.count; each = λ s low. by_test s low (eqb (slot_of (get_or names n [])) s) refl }
  where
    one : n + 1 ≡ suc n
    one = omega arith

    by_test : (s : ℕ) → s < 1024 → (b : Bool) → eqb (slot_of (get_or names n [])) s ≡ b → get_or (set heads slot (n + 1)) s 0 ≡ last_in s names (n + 1)
    by_test s low true e =
        let same : s ≡ slot = sym (eqb-true _ s e) ∙ sym is in
        rw (one, e) (get_or-set_at heads slot s (suc n) 0 same (omega (arith, h.count)))
    by_test s low false e =
        let other : s ≢ slot = λ same. eqb-false _ s e (sym is ∙ sym same) in
        rw (one, e) (get_or-set_other heads slot s (suc n) 0 other ∙ h.each s low)

pub links_begun : (names : List (List ℕ)) → AreLinks names 0 []
links_begun names = record { count = refl; each = λ k h. absurd (omega arith) }

pub links_more : (names : List (List ℕ)) (n : ℕ) (links : List ℕ) (link : ℕ) → AreLinks names n links → link ≡ last_in (slot_of (get_or names n [])) names n → AreLinks names (n + 1) (links ++ link ∷ [])
links_more names n links link h is = record { count = simp length-append (omega (arith, h.count)); each = λ k less. elim (at_last k less) [ inl low ↦ get_or-append links (link ∷ []) 0 k (omega (arith, h.count)) ∙ h.each k low | inr same ↦ at_end k same ] }
  where
    at_last : (k : ℕ) → k < n + 1 → (k < n) ⊎ (k ≡ n)
    at_last k less = search (rules, arith)

    at_end : (k : ℕ) → k ≡ n → get_or (links ++ link ∷ []) k 0 ≡ last_in (slot_of (get_or names k [])) names k
    at_end k same =
        let place : k ≡ length links = same ∙ sym h.count in
        ap (λ (i : ℕ). get_or (links ++ link ∷ []) i 0) place ∙ get_or-append_seam links link [] 0 ∙ is ∙ sym (ap (λ (i : ℕ). last_in (slot_of (get_or names i [])) names i) same)

-- the names from the number on are no such text, and the one before it, counted from 1, is in the text's slot
pub record IsSought (names : List (List ℕ)) (text : List ℕ) (next : ℕ) : Type 0 where
  pub within : next ≤ length names
  pub there : 0 < next → slot_of (get_or names (next - 1) []) ≡ slot_of text
  pub none : (k : ℕ) → next ≤ k → k < length names → get_or names k [] ≢ text

pub begun : (names : List (List ℕ)) (text : List ℕ) (next : ℕ) → next ≡ last_in (slot_of text) names (length names) → IsSought names text next
begun names text next e =
    let last = is_last (slot_of text) names (length names) in
    rw e (record { within = last.within; there = last.there; none = λ k p q same. last.none k p q (ap slot_of same) })

pub goes_on : (names : List (List ℕ)) (text : List ℕ) (number next : ℕ) → IsSought names text (number + 1) → get_or names number [] ≢ text → next ≡ last_in (slot_of (get_or names number [])) names number → IsSought names text next
goes_on names text number next h other e =
    let one : number + 1 - 1 ≡ number = omega arith in
    let slot : slot_of (get_or names number []) ≡ slot_of text = ap (λ (k : ℕ). slot_of (get_or names k [])) (sym one) ∙ h.there (omega arith) in
    let last = is_last (slot_of (get_or names number [])) names number in
    rw e (record {
      within = omega (arith, last.within, h.within);
      there = λ p. last.there p ∙ slot;
      none = λ k p q same. elim (parted k number) [ inl less ↦ last.none k p less (ap slot_of same ∙ sym slot) | inr more ↦ elim more [ inl is ↦ other (sym (ap (λ (m : ℕ). get_or names m []) is) ∙ same) | inr past ↦ h.none k past q same ] ];
    })
  where
    parted : (k n : ℕ) → (k < n) ⊎ ((k ≡ n) ⊎ (n + 1 ≤ k))
    parted k n = search (rules, arith)

-- PLACES

pub place_first : (names : List (List ℕ)) (text : List ℕ) (n : ℕ) → n < length names → get_or names n [] ≡ text → ((k : ℕ) → k < n → get_or names k [] ≢ text) → place text names ≡ Some n
place_first [] text n h is none = absurd (omega arith)
place_first (x ∷ names) text zero h is none = (let same : bytes_eq text x ≡ true = (bytes_eq-Decides text x).1 (sym is) in rw same refl)
place_first (x ∷ names) text (suc n) h is none =
    let other : bytes_eq text x ≡ false = unlike text x (λ e. none 0 (omega arith) (sym e)) in
    let more : n + 1 ≡ suc n = omega arith in
    rw (other, place_first names text n (omega (arith, h)) is (λ k p. none (suc k) (omega (arith, p)))) (ap (λ (m : ℕ). Some m) more)

pub place_none : (names : List (List ℕ)) (text : List ℕ) → ((k : ℕ) → k < length names → get_or names k [] ≢ text) → place text names ≡ None
place_none [] text none = refl
place_none (x ∷ names) text none =
    let other : bytes_eq text x ≡ false = unlike text x (λ e. none 0 (omega arith) (sym e)) in
    rw (other, place_none names text (λ k p. none (suc k) (omega (arith, p)))) refl

-- of names that are all different, the one that is found is the first
pub place_apart : (names : List (List ℕ)) (text : List ℕ) (n : ℕ) → AreApart names → n < length names → get_or names n [] ≡ text → place text names ≡ Some n
place_apart names text n apart h is = place_first names text n h is (λ k p same. let e : k ≡ n = apart k n (omega arith) h (same ∙ sym is) in absurd (omega arith))

-- what is so of each is so of the one with the number k
pub at_place : (P : List ℕ → Type 0) (names : List (List ℕ)) (k : ℕ) → AllByRecursion P names → k < length names → P (get_or names k [])
at_place P [] k h l = absurd (omega (arith, l))
at_place P (x ∷ names) zero h l = h.0
at_place P (x ∷ names) (suc k) h l = at_place P names k h.1 (omega (arith, l))

pub are_apart : (names : List (List ℕ)) → AreDistinct names → AreApart names
are_apart [] h j k p q e = absurd (omega arith)
are_apart (x ∷ names) h zero zero p q e = refl
are_apart (x ∷ names) h zero (suc k) p q e = absurd (at_place (λ other. x ≢ other) names k h.0 (omega (arith, q)) e)
are_apart (x ∷ names) h (suc j) zero p q e = absurd (at_place (λ other. x ≢ other) names j h.0 (omega (arith, p)) (sym e))
are_apart (x ∷ names) h (suc j) (suc k) p q e = ap suc (are_apart names h.1 j k (omega (arith, p)) (omega (arith, q)) e)

-- NAMES BEHIND REFERENCES

pub texts_length : (names : List (Bor (List ℕ))) → length (texts names) ≡ length names
texts_length names = length-map names (λ x. x.now)

-- what a read of the names gives
pub texts_at : (names : List (Bor (List ℕ))) (k : ℕ) (name : Bor (List ℕ)) → k < length names → name ≡ get_or names k name → get_or (texts names) k [] ≡ name.now
texts_at names k name h e = get_or-map (λ x. x.now) names k name [] h ∙ ap (λ (x : Bor (List ℕ)). x.now) (sym e)

-- a name that is read is not longer than the longest
pub within_at : (longest : ℕ) (names : List (Bor (List ℕ))) (k : ℕ) (name : Bor (List ℕ)) → AreWithin longest (texts names) → k < length names → name ≡ get_or names k name → length name.now ≤ longest
within_at longest names k name h less e = subst (λ (text : List ℕ). length text ≤ longest) (texts_at names k name less e) (h k)
