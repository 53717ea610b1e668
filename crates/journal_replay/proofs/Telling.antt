-- What is told of each thread: in a list that grows by one, and of how one thread ended and what it printed together.
use Rattle.std.proofs.Common.{◌≡◌, ℕ, ◌+◌, List, [], ◌∷◌, ◌++◌, length, slice_get, Some, sym, ap, ◌∙◌, subst, ⊎_elim}
use Rattle.std.proofs.lemmas.List.{length_push}
use Rattle.std.proofs.lemmas.Option.{same_Some, some_pair_parts}
use Rattle.script_tree.specs.Processes.{Proc}
use Rattle.thread.specs.After.{after}
use Rattle.protocol_values.specs.declared.Atom.{Atom}
use Rattle.thread.specs.declared.end.End.{End}
use Rattle.journal_replay.specs.Runs.{Config, EndsAs, end_of}
use Rattle.journal_replay.proofs.Lists.{slice_get-more}

-- so many elements, of each of which it holds at its place
abbrev pub HoldsOf : {A : Type 0} → (ℕ → A → Type 0) → ℕ → List A → Type 0
HoldsOf {A} P n xs = (length xs ≡ n) × ((t : ℕ) (x : A) → slice_get xs t ≡ Some x → P t x)

pub holds-more : {A : Type 0} (P : ℕ → A → Type 0) (n : ℕ) (xs ys : List A) (x : A) → HoldsOf P n xs → P n x → ys ≡ xs ++ x ∷ [] → HoldsOf P (n + 1) ys
holds-more P n xs ys x before last e = subst (HoldsOf P (n + 1)) (sym e) (
  length_push xs x ∙ ap (λ (m : ℕ). m + 1) before.0,
  λ t y is. ⊎_elim
      (λ h. before.1 t y h.1)
      (λ h. subst (λ (m : ℕ). P m y) (sym (h.0 ∙ before.0)) (subst (P n) h.1 last))
      (slice_get-more xs x y t is),
)

-- a thread ends in one way, and printed one thing
pub ends-one : (ps : List Proc) (rows t : ℕ) (config : Config) (end other : End) (told printed : List Atom) → EndsAs ps rows t config end told → EndsAs ps rows t config other printed → (end ≡ other) × (told ≡ printed)
ends-one ps rows t config end other told printed one two =
    let process : one.process ≡ two.process = same_Some one.process two.process (sym one.is_its ∙ two.is_its) in
    ⊎_elim
    (λ a. ⊎_elim
    (λ b. some_pair_parts end other told printed
    (sym a.1 ∙ ap (λ (p : Proc). end_of rows (length (config t)) (after p.body (length p.variables) t (config t))) process ∙ b.1))
    (λ b. absurd (b.0 a.0))
    two.ends)
    (λ a. ⊎_elim
    (λ b. absurd (a.0 b.0))
    (λ b. (a.1 ∙ sym b.1, a.2 ∙ sym b.2))
    two.ends)
    one.ends

-- how a thread ended and what it printed, each told with something of the other
pub ends-both : (ps : List Proc) (rows t : ℕ) (config : Config) (end other : End) (printed told : List Atom) → EndsAs ps rows t config end told → EndsAs ps rows t config other printed → EndsAs ps rows t config end printed
ends-both ps rows t config end other printed told one two =
    subst (λ (e : End). EndsAs ps rows t config e printed) (sym (ends-one ps rows t config end other told printed one two).0) two
