-- Runs, commit by commit from the front.
use Rattle.std.proofs.Common.{◌≡◌, ℕ, zero, suc, ◌<◌, ◌≤◌, List, [], ◌∷◌, ◌++◌, length, take, slice_get, Some, refl, sym, append_assoc, append-nil, subst, arith}
use Rattle.std.specs.Prelude.{⊤}
use Rattle.std.proofs.lemmas.List.{take_at, take-take}
use Rattle.std.proofs.lemmas.Option.{none-some}
use Rattle.script_tree.specs.Processes.{Proc}
use Rattle.protocol_values.specs.declared.Base.{Base}
use Rattle.protocol_values.specs.declared.Base.TheVariants.{Send, Recv, Always, OnNack, OnEnd}
use Rattle.protocol_values.specs.declared.Cause.TheVariants as cause
use Rattle.protocol_values.specs.declared.Commit.{Commit}
use Rattle.protocol_values.specs.declared.Commit.TheVariants.{Pair, Alone}
use Rattle.protocol_values.specs.declared.Row.{Row}
use Rattle.journal_replay.specs.Runs.{Config, Follows, IsLegal, IsRun, MayTake, config_of}
use Rattle.journal_replay.proofs.Greatest.{more}
use Rattle.journal_replay.proofs.Lists.{slice_get-middle}
use Rattle.journal_replay.proofs.Running.{run-none, run-more}

-- after these earlier commits, each commit follows those before it
abbrev pub RunsOn : List Proc → ℕ → List Commit → List Commit → Type 0
RunsOn ps rows earlier [] = ⊤
RunsOn ps rows earlier (c ∷ cs) = Follows ps rows earlier c × RunsOn ps rows (more earlier c) cs

pub runs-on : (ps : List Proc) (rows : ℕ) (earlier cs : List Commit) → IsRun ps rows (earlier ++ cs) → RunsOn ps rows earlier cs
runs-on ps rows earlier [] run = tt
runs-on ps rows earlier (c ∷ cs) run = (
  subst (λ (es : List Commit). Follows ps rows es c) (take_at earlier (c ∷ cs) (length earlier) refl) (run (length earlier) c (slice_get-middle earlier cs c)),
  runs-on ps rows (more earlier c) cs (subst (IsRun ps rows) (sym (append_assoc earlier (c ∷ []) cs)) run),
)

pub run-from : (ps : List Proc) (rows : ℕ) (earlier cs : List Commit) → IsRun ps rows earlier → RunsOn ps rows earlier cs → IsRun ps rows (earlier ++ cs)
run-from ps rows earlier [] run on = subst (IsRun ps rows) (sym (append-nil earlier)) run
run-from ps rows earlier (c ∷ cs) run on =
    subst (IsRun ps rows) (append_assoc earlier (c ∷ []) cs) (run-from ps rows (more earlier c) cs (run-more ps rows earlier c run on.0) on.1)

pub run-whole : (ps : List Proc) (rows : ℕ) (cs : List Commit) → RunsOn ps rows [] cs → IsRun ps rows cs
run-whole ps rows cs on = run-from ps rows [] cs (run-none ps rows) on

-- what stands in the front of a list stands in the list
pub get-take : {A : Type 0} (n : ℕ) (xs : List A) (i : ℕ) (x : A) → slice_get (take n xs) i ≡ Some x → (i < n) × (slice_get xs i ≡ Some x)
get-take zero xs i x e = absurd (none-some x e)
get-take (suc n) [] i x e = absurd (none-some x e)
get-take (suc n) (y ∷ xs) zero x e = (omega arith, e)
get-take (suc n) (y ∷ xs) (suc i) x e = let h = get-take n xs i x e in (omega (arith, h.0), h.1)

-- the front of a run is one
pub run-front : (ps : List Proc) (rows : ℕ) (commits : List Commit) (n : ℕ) → IsRun ps rows commits → IsRun ps rows (take n commits)
run-front ps rows commits n run i c is =
    let h = get-take n commits i c is in
    subst (λ (es : List Commit). Follows ps rows es c) (sym (take-take i n commits (omega (arith, h.0)))) (run i c h.1)

-- a run in so many rows is one in more
takes-wider : (ps : List Proc) (rows more-rows : ℕ) (config : Config) (at : Row × ℕ) (b : Base) → rows ≤ more-rows → MayTake ps rows config at b → MayTake ps more-rows config at b
takes-wider ps rows more-rows config at b wider m = record {
  started = m.started;
  can = record {
    few = (let few = m.can.few in omega (arith, few, wider));
    next = m.can.next;
    event = m.can.event;
    offered = m.can.offered;
    base = m.can.base;
    is = m.can.is;
    same = m.can.same;
  };
}

legal-wider : (ps : List Proc) (rows more-rows : ℕ) (config : Config) (c : Commit) → rows ≤ more-rows → IsLegal ps rows config c → IsLegal ps more-rows config c
legal-wider ps rows more-rows config (Pair sender receiver chan msg stamp) wider h =
    (h.0, takes-wider ps rows more-rows config sender (Send chan msg) wider h.1, takes-wider ps rows more-rows config receiver (Recv chan) wider h.2)
legal-wider ps rows more-rows config (Alone at (cause.Always m) stamp) wider h = takes-wider ps rows more-rows config at (Always m) wider h
legal-wider ps rows more-rows config (Alone at (cause.Nack n) stamp) wider h = (takes-wider ps rows more-rows config at (OnNack n) wider h.0, h.1)
legal-wider ps rows more-rows config (Alone at (cause.End t) stamp) wider h = (takes-wider ps rows more-rows config at (OnEnd t) wider h.0, h.1, h.2)

pub run-wider : (ps : List Proc) (rows more-rows : ℕ) (journal : List Commit) → rows ≤ more-rows → IsRun ps rows journal → IsRun ps more-rows journal
run-wider ps rows more-rows journal wider run i c is =
    let f = run i c is in
    record { legal = legal-wider ps rows more-rows (config_of (take i journal)) c wider f.legal; greatest = f.greatest; is = f.is; stamp = f.stamp }
