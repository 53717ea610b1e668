-- The greatest stamp of the earlier commits of a kind.
use Rattle.std.proofs.Common.{◌≡◌, ◌⊎◌, ℕ, ◌≤◌, max, List, [], ◌∷◌, ◌++◌, Contains, refl, sym, subst, arith, inl, inr, ⊎_elim}
use Rattle.std.proofs.lemmas.Bool.{cases_lt}
use Rattle.protocol_values.specs.declared.Commit.{Commit}
use Rattle.protocol_values.specs.Commits.{stamp_of}
use Rattle.journal_replay.specs.Runs.{IsGreatest}
use Rattle.journal_replay.proofs.Lists.{contains-before, contains-last, contains-cases}

-- one more commit
abbrev pub more : List Commit → Commit → List Commit
more es c = es ++ c ∷ []

pub in-more : (es : List Commit) (c d : Commit) → Contains es d → Contains (more es c) d
in-more es c d h = contains-before es c d h

pub last-more : (es : List Commit) (c : Commit) → Contains (more es c) c
last-more es c = contains-last es c

pub more-cases : (es : List Commit) (c d : Commit) → Contains (more es c) d → Contains es d ⊎ (c ≡ d)
more-cases es c d h = contains-cases es c d h

-- a commit that is not of the kind changes nothing
pub greatest-other : (es : List Commit) (c : Commit) (Kind : Commit → Type 0) (n : ℕ) → IsGreatest es Kind n → (Kind c → ⊥) → IsGreatest (more es c) Kind n
greatest-other es c Kind n g none = record {
  above = λ d there kind. ⊎_elim (λ earlier. g.above d earlier kind) (λ same. absurd (none (subst Kind (sym same) kind))) (more-cases es c d there);
  there = ⊎_elim (λ e. inl e) (λ w. inr (w.0, in-more es c w.0 w.1, w.2, w.3)) g.there;
}

-- a commit of the kind whose stamp is above all the others
pub greatest-this : (es : List Commit) (c : Commit) (Kind : Commit → Type 0) (n : ℕ) → ((d : Commit) → Contains es d → Kind d → stamp_of d ≤ n) → Kind c → stamp_of c ≡ n → IsGreatest (more es c) Kind n
greatest-this es c Kind n others kind stamp = record {
  above = λ d there k. ⊎_elim (λ earlier. others d earlier k) (λ same. subst (λ (x : Commit). stamp_of x ≤ n) same (omega (arith, stamp))) (more-cases es c d there);
  there = inr (c, last-more es c, kind, stamp);
}

-- the same commits in other words
pub greatest-same : (es : List Commit) (K L : Commit → Type 0) (n : ℕ) → ((d : Commit) → K d → L d) → ((d : Commit) → L d → K d) → IsGreatest es K n → IsGreatest es L n
greatest-same es K L n to from g = record {
  above = λ d there kind. g.above d there (from d kind);
  there = ⊎_elim (λ e. inl e) (λ w. inr (w.0, w.1, to w.0 w.2, w.3)) g.there;
}

-- the same of these commits in other words
pub greatest-within : (es : List Commit) (K L : Commit → Type 0) (n : ℕ) → ((d : Commit) → Contains es d → K d → L d) → ((d : Commit) → Contains es d → L d → K d) → IsGreatest es K n → IsGreatest es L n
greatest-within es K L n to from g = record {
  above = λ d there kind. g.above d there (from d there kind);
  there = ⊎_elim (λ e. inl e) (λ w. inr (w.0, w.1, to w.0 w.1 w.2, w.3)) g.there;
}

first-of : (es : List Commit) (K L : Commit → Type 0) (a n : ℕ) → IsGreatest es K a → n ≡ a → (n ≡ 0) ⊎ ((d : Commit) × Contains es d × (K d ⊎ L d) × (stamp_of d ≡ n))
first-of es K L a n g e = ⊎_elim (λ z. inl (omega (arith, z, e))) (λ w. inr (w.0, w.1, inl w.2, omega (arith, w.3, e))) g.there

second-of : (es : List Commit) (K L : Commit → Type 0) (a n : ℕ) → IsGreatest es L a → n ≡ a → (n ≡ 0) ⊎ ((d : Commit) × Contains es d × (K d ⊎ L d) × (stamp_of d ≡ n))
second-of es K L a n g e = ⊎_elim (λ z. inl (omega (arith, z, e))) (λ w. inr (w.0, w.1, inr w.2, omega (arith, w.3, e))) g.there

greater : (a b : ℕ) → (max a b ≡ a) ⊎ (max a b ≡ b)
greater a b = ⊎_elim (λ lt. inr (omega (arith, lt))) (λ ge. inl (omega (arith, ge))) (cases_lt a b)

-- of either kind
pub greatest-either : (es : List Commit) (K L : Commit → Type 0) (a b : ℕ) → IsGreatest es K a → IsGreatest es L b → IsGreatest es (λ d. K d ⊎ L d) (max a b)
greatest-either es K L a b g h = record {
  above = λ d there kind. ⊎_elim (λ k. omega (arith, g.above d there k)) (λ l. omega (arith, h.above d there l)) kind;
  there = ⊎_elim (λ e. first-of es K L a (max a b) g e) (λ e. second-of es K L b (max a b) h e) (greater a b);
}

below : (es : List Commit) (K : Commit → Type 0) (a b : ℕ) → IsGreatest es K a → IsGreatest es K b → a ≤ b
below es K a b g h = ⊎_elim (λ z. omega (arith, z)) (λ w. omega (arith, h.above w.0 w.1 w.2, w.3)) g.there

-- there is only one
pub greatest-one : (es : List Commit) (K : Commit → Type 0) (a b : ℕ) → IsGreatest es K a → IsGreatest es K b → a ≡ b
greatest-one es K a b g h = omega (arith, below es K a b g h, below es K b a h g)

pub greatest-none : (K : Commit → Type 0) → IsGreatest [] K 0
greatest-none K = record { above = λ d there kind. absurd (omega (arith, there.1)); there = inl refl }
