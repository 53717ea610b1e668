-- What is true of each run: its commits made its results, each thread made few, and no stamp is above the number of all syncs.
use Rattle.std.proofs.Common.{◌≡◌, ℕ, zero, suc, ◌+◌, ◌<◌, ◌≤◌, List, [], ◌∷◌, length, take, slice_get, Some, Contains, refl, sym, ap, ◌∙◌, subst, arith, ⊎_elim}
use Rattle.std.proofs.lemmas.List.{take_all, take_more}
use Rattle.std.proofs.lemmas.Option.{get_or_from_slice_get}
use Rattle.script_tree.specs.Processes.{Proc}
use Rattle.protocol_values.specs.declared.Commit.{Commit}
use Rattle.protocol_values.specs.Commits.{stamp_of}
use Rattle.journal_replay.specs.Runs.{Config, Follows, IsRun, config_of}
use Rattle.journal_replay.specs.Standing.{AreMade}
use Rattle.journal_replay.proofs.Counting.{Short, all_syncs, grows}
use Rattle.journal_replay.proofs.Greatest.{more, more-cases}
use Rattle.journal_replay.proofs.Standing.{config_of-more, made-more}

pub record Sound (ps : List Proc) (rows : ℕ) (journal : List Commit) : Type 0 where
  pub made : AreMade (config_of journal) journal
  pub short : Short ps rows (config_of journal)
  pub stamps : (c : Commit) → Contains journal c → stamp_of c ≤ all_syncs ps rows (config_of journal)

sound-none : (ps : List Proc) (rows : ℕ) → Sound ps rows []
sound-none ps rows = record {
  made = λ d t there has. absurd (omega (arith, there.1));
  short = λ t. omega arith;
  stamps = λ c there. absurd (omega (arith, there.1));
}

sound-more : (ps : List Proc) (rows : ℕ) (es : List Commit) (c : Commit) → Sound ps rows es → Follows ps rows es c → Sound ps rows (more es c)
sound-more ps rows es c sound f =
    let config = config_of es in
    let is = sym (config_of-more es c) in
    let grew = grows ps rows config c sound.short f.legal in
    let below : f.greatest ≤ all_syncs ps rows config = ⊎_elim (λ z. omega (arith, z)) (λ w. omega (arith, sound.stamps w.0 w.1, w.3)) f.is.there in
    record {
      made = subst (λ (x : Config). AreMade x (more es c)) is (made-more ps rows es c sound.made f);
      short = subst (λ (x : Config). Short ps rows x) is grew.short;
      stamps = λ d there. subst (λ (x : Config). stamp_of d ≤ all_syncs ps rows x) is
          (⊎_elim
          (λ before. omega (arith, sound.stamps d before, grew.more))
          (λ same. omega (arith, ap stamp_of same, f.stamp, below, grew.more))
          (more-cases es c d there));
    }

pub some-at : {A : Type 0} (xs : List A) (i : ℕ) → i < length xs → (x : A) × (slice_get xs i ≡ Some x)
some-at [] i lt = absurd (omega (arith, lt))
some-at (x ∷ xs) zero lt = (x, refl)
some-at (x ∷ xs) (suc i) lt = some-at xs i (omega (arith, lt))

-- the first so many commits, and the one behind them
pub take-one : (commits : List Commit) (i : ℕ) (c : Commit) → slice_get commits i ≡ Some c → i < length commits → take (i + 1) commits ≡ more (take i commits) c
take-one commits i c is lt = take_more commits i c lt ∙ ap (λ (x : Commit). more (take i commits) x) (get_or_from_slice_get commits i c c is)

sound-take : (ps : List Proc) (rows : ℕ) (commits : List Commit) → IsRun ps rows commits → (i : ℕ) → i ≤ length commits → Sound ps rows (take i commits)
sound-take ps rows commits run zero le = sound-none ps rows
sound-take ps rows commits run (suc i) le =
    let lt : i < length commits = omega (arith, le) in
    let w = some-at commits i lt in
    let next : suc i ≡ i + 1 = omega arith in
    subst (Sound ps rows) (sym (ap (λ (n : ℕ). take n commits) next ∙ take-one commits i w.0 w.1 lt))
    (sound-more ps rows (take i commits) w.0 (sound-take ps rows commits run i (omega (arith, le))) (run i w.0 w.1))

pub run-sound : (ps : List Proc) (rows : ℕ) (commits : List Commit) → IsRun ps rows commits → Sound ps rows commits
run-sound ps rows commits run =
    subst (Sound ps rows) (take_all (length commits) commits (omega arith)) (sound-take ps rows commits run (length commits) (omega arith))
