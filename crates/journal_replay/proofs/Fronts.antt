-- The first commits of a run are a run, and a list of commits breaks off at one place.
use Rattle.std.proofs.Common.{◌≡◌, ℕ, ◌+◌, ◌<◌, ◌≤◌, List, ◌++◌, take, drop, sym, ◌∙◌, subst, arith, ⊎_elim, take-take, take-append-drop}
use Rattle.std.proofs.lemmas.Bool.{cases_lt}
use Rattle.std.proofs.lemmas.List.{take-append-le}
use Rattle.std.proofs.lemmas.Option.{slice_get_within}
use Rattle.std.proofs.Math.Nat.{eq-or-lt_of_le}
use Rattle.script_tree.specs.Processes.{Proc}
use Rattle.protocol_values.specs.declared.Commit.{Commit}
use Rattle.journal_replay.specs.Runs.{BreaksOffAt, Follows, IsRun}
use Rattle.journal_replay.proofs.Lists.{slice_get-first}

run-before : (ps : List Proc) (rows : ℕ) (first rest : List Commit) → IsRun ps rows (first ++ rest) → IsRun ps rows first
run-before ps rows first rest run i c is =
    let within = slice_get_within first i c is in
    subst (λ (cs : List Commit). Follows ps rows cs c) (take-append-le i first rest (omega (arith, within)))
    (run i c (slice_get-first first rest i within ∙ is))

pub run-front : (ps : List Proc) (rows : ℕ) (commits : List Commit) (n : ℕ) → IsRun ps rows commits → IsRun ps rows (take n commits)
run-front ps rows commits n run = run-before ps rows (take n commits) (drop n commits) (subst (IsRun ps rows) (sym (take-append-drop n commits)) run)

-- where the first j are a run, it breaks off at none of them
not-within : (ps : List Proc) (rows : ℕ) (commits : List Commit) (i j : ℕ) → BreaksOffAt ps rows commits i → IsRun ps rows (take j commits) → i < j → ⊥
not-within ps rows commits i j breaks run lt =
    breaks.broken (subst (IsRun ps rows) (take-take (i + 1) j commits (omega (arith, lt))) (run-front ps rows (take j commits) (i + 1) run))

pub breaks-once : (ps : List Proc) (rows : ℕ) (commits : List Commit) (i j : ℕ) → BreaksOffAt ps rows commits i → BreaksOffAt ps rows commits j → i ≡ j
breaks-once ps rows commits i j one two = ⊎_elim
    (λ (lt : i < j). absurd (not-within ps rows commits i j one two.run lt))
    (λ (le : j ≤ i). ⊎_elim (λ (e : j ≡ i). sym e) (λ (lt : j < i). absurd (not-within ps rows commits j i two one.run lt)) (eq-or-lt_of_le le))
    (cases_lt i j)

pub breaks-not-run : (ps : List Proc) (rows : ℕ) (commits : List Commit) (i : ℕ) → BreaksOffAt ps rows commits i → IsRun ps rows commits → ⊥
breaks-not-run ps rows commits i breaks run = breaks.broken (run-front ps rows commits (i + 1) run)
