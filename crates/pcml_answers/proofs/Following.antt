-- The commits that may come next behind a run have lines.
use Rattle.std.proofs.Common.{suc, ℕ, ◌≤◌, List, [], ◌∷◌, Contains, refl, arith}
use Rattle.std.specs.List.{AllByRecursion}
use Rattle.protocol_values.specs.declared.Commit.{Commit}
use Rattle.script.specs.Sources.{Script}
use Rattle.script.specs.Spelling.{IsSpelled}
use Rattle.journal_text.specs.Journals.{HasLine}
use Rattle.journal_text.specs.Names.{names_of}
use Rattle.journal_replay.specs.Runs.{Follows, IsRun}
use Rattle.journal_replay.proofs.Greatest.{more}
use Rattle.journal_replay.proofs.Lists.{slice_get-last}
use Rattle.journal_replay.proofs.Running.{run-more}
use Rattle.journal_text.proofs.Lining.{run_has_lines}
use Rattle.journal_text.proofs.Running.{all_at}
use Rattle.journal_replay.specs.Nexting.{TellsNext}

each_of : {A : Type 0} (P : A → Type 0) (xs : List A) → ((x : A) → Contains xs x → P x) → AllByRecursion P xs
each_of P [] holds = tt
each_of P (x ∷ xs) holds = (holds x (0, omega arith, refl), each_of P xs (λ y (k, within, is). holds y (suc k, omega (arith, within), is)))

pub next_has_lines : (s : Script) (rows : ℕ) (journal told : List Commit) → IsSpelled s → rows ≤ 67107840 → IsRun s.processes rows journal → TellsNext s.processes rows journal told → AllByRecursion (HasLine (names_of s)) told
next_has_lines s rows journal told spelled few run next = each_of (HasLine (names_of s)) told (λ c in_told.
    let follows : Follows s.processes rows journal c = (next.each c).0 in_told in
    let lines = run_has_lines s spelled rows few (more journal c) (run-more s.processes rows journal c run follows) in
    all_at (HasLine (names_of s)) (more journal c) _ c lines (slice_get-last journal c))
