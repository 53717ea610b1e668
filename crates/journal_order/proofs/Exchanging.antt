-- Two commits that stand next to each other in a run change places.
use Rattle.std.proofs.Common.{◌≡◌, ℕ, ◌≤◌, List, [], ◌∷◌, Contains, refl, sym, ap, ◌∙◌, subst, inl, inr, ⊎_elim}
use Rattle.script_tree.specs.Processes.{Proc}
use Rattle.protocol_values.specs.declared.Commit.{Commit}
use Rattle.protocol_values.specs.Commits.{stamp_of}
use Rattle.journal_replay.specs.Runs.{Config, CountsFor, HasThread, IsGreatest, Follows, applied, config_of}
use Rattle.journal_replay.proofs.Greatest.{more, in-more, last-more, more-cases}
use Rattle.journal_replay.proofs.Standing.{config_of-more, counts}
use Rattle.journal_order.proofs.Runs.{RunsOn}
use Rattle.journal_order.proofs.Swapping.{follows-at, at-follows, uncounted, second-first, first-second, commute}

-- the same commits in whatever order, which lead to the same configuration
pub record Alike (es fs : List Commit) : Type 0 where
  pub config : config_of es ≡ config_of fs
  pub to : (c : Commit) → Contains es c → Contains fs c
  pub from : (c : Commit) → Contains fs c → Contains es c

greatest-alike : (es fs : List Commit) (Kind : Commit → Type 0) (n : ℕ) → Alike es fs → IsGreatest es Kind n → IsGreatest fs Kind n
greatest-alike es fs Kind n same g = record {
  above = λ d there kind. g.above d (same.from d there) kind;
  there = ⊎_elim (λ e. inl e) (λ w. inr (w.0, same.to w.0 w.1, w.2, w.3)) g.there;
}

follows-alike : (ps : List Proc) (rows : ℕ) (es fs : List Commit) (c : Commit) → Alike es fs → Follows ps rows es c → Follows ps rows fs c
follows-alike ps rows es fs c same f =
    let g = follows-at ps rows es (config_of fs) c same.config f in
    at-follows ps rows fs (config_of fs) c refl
    (record { legal = g.legal; greatest = g.greatest; is = greatest-alike es fs (CountsFor ps (config_of fs) c) g.greatest same g.is; stamp = g.stamp })

more-to : (es fs : List Commit) (c d : Commit) → ((x : Commit) → Contains es x → Contains fs x) → Contains (more es c) d → Contains (more fs c) d
more-to es fs c d to h = ⊎_elim (λ before. in-more fs c d (to d before)) (λ e. subst (Contains (more fs c)) e (last-more fs c)) (more-cases es c d h)

alike-more : (es fs : List Commit) (c : Commit) → Alike es fs → Alike (more es c) (more fs c)
alike-more es fs c same = record {
  config = config_of-more es c ∙ ap (λ (config : Config). applied config c) same.config ∙ sym (config_of-more fs c);
  to = λ d h. more-to es fs c d same.to h;
  from = λ d h. more-to fs es c d same.from h;
}

pub runs-alike : (ps : List Proc) (rows : ℕ) (es fs cs : List Commit) → Alike es fs → RunsOn ps rows es cs → RunsOn ps rows fs cs
runs-alike ps rows es fs [] same run = tt
runs-alike ps rows es fs (c ∷ cs) same run = (follows-alike ps rows es fs c same run.0, runs-alike ps rows (more es c) (more fs c) cs (alike-more es fs c same) run.1)

-- the last two commits the other way round
swapped : (es : List Commit) (c d x : Commit) → Contains (more (more es c) d) x → Contains (more (more es d) c) x
swapped es c d x h = ⊎_elim
    (λ before. ⊎_elim
    (λ old. in-more (more es d) c x (in-more es d x old))
    (λ e. subst (Contains (more (more es d) c)) e (last-more (more es d) c))
    (more-cases es c x before))
    (λ e. in-more (more es d) c x (subst (Contains (more es d)) e (last-more es d)))
    (more-cases (more es c) d x h)

-- the second of two commits stands first as well, and the first behind it
pub record Swaps (ps : List Proc) (rows : ℕ) (es : List Commit) (c d : Commit) : Type 0 where
  pub first : Follows ps rows es d
  pub second : Follows ps rows (more es d) c
  pub alike : Alike (more (more es c) d) (more (more es d) c)

pub swap : (ps : List Proc) (rows : ℕ) (es : List Commit) (c d : Commit) → Follows ps rows es c → Follows ps rows (more es c) d → stamp_of d ≤ stamp_of c → Swaps ps rows es c d
swap ps rows es c d f g le =
    let config = config_of es in
    let one = follows-at ps rows es config c refl f in
    let two = follows-at ps rows (more es c) (applied config c) d (config_of-more es c) g in
    let none = uncounted ps rows es (applied config c) c d two le in
    let apart : (t : ℕ) → HasThread c t → HasThread d t → ⊥ = λ t h k. none (counts ps (applied config c) d c t k (inl h)) in
    let earlier = second-first ps rows config es c d one two none in
    let later = first-second ps rows config es c d one earlier.legal apart in
    record {
      first = at-follows ps rows es config d refl earlier;
      second = at-follows ps rows (more es d) (applied config d) c (config_of-more es d) later;
      alike = record {
        config = config_of-more (more es c) d ∙ ap (λ (x : Config). applied x d) (config_of-more es c) ∙ commute config c d apart
            ∙ ap (λ (x : Config). applied x c) (sym (config_of-more es d)) ∙ sym (config_of-more (more es d) c);
        to = λ x h. swapped es c d x h;
        from = λ x h. swapped es d c x h;
      };
    }
