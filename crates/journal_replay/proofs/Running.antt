-- Runs, as they grow by a commit.
use Rattle.std.proofs.Common.{◌≡◌, ℕ, ◌<◌, List, [], length, take, get_or, sym, ap, ◌∙◌, subst, arith, ⊎_elim}
use Rattle.std.proofs.lemmas.List.{take_more}
use Rattle.std.proofs.lemmas.Option.{none-some}
use Rattle.script_tree.specs.Processes.{Proc}
use Rattle.protocol_values.specs.declared.Commit.{Commit}
use Rattle.journal_replay.specs.Runs.{Follows, IsRun, BreaksOffAt}
use Rattle.journal_replay.proofs.Greatest.{more}
use Rattle.journal_replay.proofs.Lists.{slice_get-last, slice_get-more, take-first, take-whole}

pub run-none : (ps : List Proc) (rows : ℕ) → IsRun ps rows []
run-none ps rows i c e = absurd (none-some c e)

pub run-more : (ps : List Proc) (rows : ℕ) (journal : List Commit) (c : Commit) → IsRun ps rows journal → Follows ps rows journal c → IsRun ps rows (more journal c)
run-more ps rows journal c run f i d is = ⊎_elim
    (λ h. subst (λ (cs : List Commit). Follows ps rows cs d) (sym (take-first i journal c (omega (arith, h.0)))) (run i d h.1))
    (λ h.
    let whole : take i (more journal c) ≡ journal = ap (λ (n : ℕ). take n (more journal c)) h.0 ∙ take-whole journal c in
    subst (λ (cs : List Commit). Follows ps rows cs d) (sym whole) (subst (λ (x : Commit). Follows ps rows journal x) h.1 f))
    (slice_get-more journal c d i is)

-- the last commit of a run follows
pub run-last : (ps : List Proc) (rows : ℕ) (journal : List Commit) (c : Commit) → IsRun ps rows (more journal c) → Follows ps rows journal c
run-last ps rows journal c run =
    subst (λ (cs : List Commit). Follows ps rows cs c) (take-whole journal c) (run (length journal) c (slice_get-last journal c))

-- with a commit that does not follow, the commits are no run
pub breaks-off : (ps : List Proc) (rows : ℕ) (commits : List Commit) (i : ℕ) (d : Commit) → i < length commits → IsRun ps rows (take i commits) →
    (Follows ps rows (take i commits) (get_or commits i d) → ⊥) → BreaksOffAt ps rows commits i
breaks-off ps rows commits i d within run refused = record {
  within = within;
  run = run;
  broken = λ longer. refused (run-last ps rows (take i commits) (get_or commits i d) (subst (IsRun ps rows) (take_more commits i d within) longer));
}
