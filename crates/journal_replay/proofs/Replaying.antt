-- A replay, commit by commit.
use Rattle.std.proofs.Common.{◌≡◌, false, refl, slice_get, ℕ, ◌+◌, ◌*◌, ◌-◌, ◌<◌, ◌≤◌, List, ◌++◌, ◌∷◌, [], length, take, get_or, Option, Some, None, MatchOption, sym, ap, ◌∙◌, append_assoc, subst, arith}
use Rattle.std.specs.Coded.{le_prop}
use Rattle.std.proofs.lemmas.List.{take_more}
use Rattle.std.proofs.lemmas.Option.{none-some, slice_get-get_or, slice_get_within}
use Rattle.script_tree.specs.Processes.{Proc}
use Rattle.protocol_values.specs.declared.Commit.{Commit}
use Rattle.journal_replay.specs.declared.state.State.{State}
use Rattle.thread_strand.specs.declared.strand.Strand.{Strand}
use Rattle.journal_replay.specs.declared.threads.Threads.{Threads}
use Rattle.journal_replay.specs.Reaching.{AreAfter, IsReached}
use Rattle.journal_replay.specs.Replays.{TellsEnabled}
use Rattle.journal_replay.specs.Runs.{BreaksOffAt, Follows, IsLegal, IsMaximal, IsRun, config_of}
use Rattle.journal_replay.specs.Searching.{HasRoom, NoneMay, total}
use Rattle.journal_replay.specs.Standing.{Commits, IsOrdered, MayBe}
use Rattle.journal_replay.proofs.Bounding.{bounded-more, room, total-bound, total-grows}
use Rattle.journal_replay.proofs.Finding.{follows-from, follows-to, found-legal}
use Rattle.journal_replay.proofs.Greatest.{more}
use Rattle.journal_replay.proofs.Running.{run-more, breaks-off}
use Rattle.journal_replay.proofs.Standing.{stands-more}

-- what the state finds may come next, follows
pub follows : (ps : List Proc) (rows : ℕ) (journal : List Commit) (c : Commit) (s : Threads) → AreAfter ps rows journal s → MayBe s.strands.items s.rows c → Follows ps rows journal c
follows ps rows journal c s stands m =
    subst (λ (n : ℕ). Follows ps n journal c) stands.rows_are (follows-from ps journal s.strands.items s.rows c m.below stands.strands m.may m.stamp)

pub replay-stops : (ps : List Proc) (rows : ℕ) (commits : List Commit) (i : ℕ) (d : Commit) (s : Threads) → AreAfter ps rows (take i commits) s → i < length commits →
    (MayBe s.strands.items s.rows (get_or commits i d) → ⊥) → BreaksOffAt ps rows commits i
replay-stops ps rows commits i d s stands within refused = breaks-off ps rows commits i d within stands.run (λ f.
    let here : Follows ps s.rows (take i commits) (get_or commits i d) = subst (λ (n : ℕ). Follows ps n (take i commits) (get_or commits i d)) (sym stands.rows_are) f in
    let w = follows-to ps (take i commits) s.strands.items s.rows (get_or commits i d) stands.strands here in
    refused (record { below = w.0; may = w.1; stamp = w.2 }))

-- what stays as the threads go on
abbrev pub Frames : Threads → Threads → Type 0
Frames s t = (t.rows ≡ s.rows) × (t.later ≡ s.later)

-- a state goes on by a commit that it finds
pub stands-next : (ps : List Proc) (rows : ℕ) (journal : List Commit) (c : Commit) (s t : Threads) → AreAfter ps rows journal s →
    MayBe s.strands.items s.rows c → Commits c s.strands.items t.strands.items → Frames s t → AreAfter ps rows (more journal c) t
stands-next ps rows journal c s t stands m made same =
    let f = follows ps rows journal c s stands m in
    let here : MayBe s.strands.items rows c = subst (λ (n : ℕ). MayBe s.strands.items n c) stands.rows_are m in
    record {
      rows_are = same.0 ∙ stands.rows_are;
      few = stands.few;
      low = stands.low;
      placed = stands.placed;
      later = λ quiet. stands.later (sym same.1 ∙ quiet);
      run = run-more ps rows journal c stands.run f;
      strands = stands-more ps rows journal c s.strands.items t.strands.items stands.strands f made;
      bounded = bounded-more rows c s.strands.items t.strands.items stands.bounded here made;
    }

pub replay-goes : (ps : List Proc) (rows : ℕ) (commits : List Commit) (i : ℕ) (d : Commit) (s t : Threads) → AreAfter ps rows (take i commits) s → i < length commits →
    MayBe s.strands.items s.rows (get_or commits i d) → Commits (get_or commits i d) s.strands.items t.strands.items → Frames s t →
    AreAfter ps rows (take (i + 1) commits) t
replay-goes ps rows commits i d s t stands within m made same =
    subst (λ (cs : List Commit). AreAfter ps rows cs t) (sym (take_more commits i d within))
    (stands-next ps rows (take i commits) (get_or commits i d) s t stands m made same)

-- a state that stands behind some commits of a run finds the next one
pub may-be : (ps : List Proc) (rows : ℕ) (commits : List Commit) (i : ℕ) (d : Commit) (s : Threads) → AreAfter ps rows (take i commits) s → IsRun ps rows commits → i < length commits → MayBe s.strands.items s.rows (get_or commits i d)
may-be ps rows commits i d s stands run within =
    let c = get_or commits i d in
    let here : Follows ps s.rows (take i commits) c = subst (λ (n : ℕ). Follows ps n (take i commits) c) (sym stands.rows_are) (run i c (slice_get-get_or commits i d within)) in
    let w = follows-to ps (take i commits) s.strands.items s.rows c stands.strands here in
    record { below = w.0; may = w.1; stamp = w.2 }

-- where the state finds no commit, the run is maximal
pub maximal : (ps : List Proc) (rows : ℕ) (journal : List Commit) (s : Threads) → AreAfter ps rows journal s → NoneMay s.strands.items s.rows → IsMaximal ps rows (config_of journal)
maximal ps rows journal s stands none c legal =
    let here : IsLegal ps s.rows (config_of journal) c = subst (λ (n : ℕ). IsLegal ps n (config_of journal) c) (sym stands.rows_are) legal in
    let w = found-legal ps journal s.strands.items s.rows c stands.strands here in
    none c w.0 w.1

abbrev Fits : Threads → Type 0
Fits s = HasRoom s.strands.items × (length s.strands.items ≤ 64)

Fits-prop : (s : Threads) → IsProp (Fits s)
Fits-prop s = hlevel le_prop

pub after-room : (ps : List Proc) (rows : ℕ) (journal : List Commit) (s : Threads) → AreAfter ps rows journal s → Fits s
after-room ps rows journal s stands =
    let few : length s.strands.items ≤ 64 = omega (arith, stands.strands.stands.count, stands.few) in
    (room rows s.strands.items stands.bounded few stands.low, few)

pub reached-room : (s : Threads) → IsReached s → HasRoom s.strands.items × (length s.strands.items ≤ 64)
reached-room s h = ∥∥₁_rec (Fits-prop s) (λ w. after-room w.0 w.1 w.2 s w.3) h

-- what spawns a thread stands behind it
after-placed : (ps : List Proc) (rows : ℕ) (journal : List Commit) (s : Threads) → AreAfter ps rows journal s → (t from : ℕ) (x : Strand) → slice_get s.strands.items t ≡ Some x → x.spawner ≡ Some from → t < from
after-placed ps rows journal s stands t from x is by = stands.placed t from (sym (stands.strands.stands.each t x is).spawner ∙ by)

after-later : (ps : List Proc) (rows : ℕ) (journal : List Commit) (s : Threads) → AreAfter ps rows journal s → s.later ≡ false → (t : ℕ) (x : Strand) → slice_get s.strands.items t ≡ Some x → (o : Option ℕ) → x.spawner ≡ o → o ≡ None
after-later ps rows journal s stands quiet t x is None by = refl
after-later ps rows journal s stands quiet t x is (Some from) by =
    let low : t < length ps = omega (arith, slice_get_within s.strands.items t x is, stands.strands.stands.count) in
    absurd (none-some from (sym (stands.later quiet t low) ∙ sym (stands.strands.stands.each t x is).spawner ∙ by))

pub after-order : (ps : List Proc) (rows : ℕ) (journal : List Commit) (s : Threads) → AreAfter ps rows journal s → IsOrdered s
after-order ps rows journal s stands = record {
  few = omega (arith, stands.strands.stands.count, stands.few);
  placed = after-placed ps rows journal s stands;
  later = λ quiet t x is. after-later ps rows journal s stands quiet t x is x.spawner refl;
}

no-prop : IsProp ⊥
no-prop = λ x y. absurd x

none-of : (o : Option ℕ) → ((from : ℕ) → o ≡ Some from → ⊥) → o ≡ None
none-of None never = refl
none-of (Some from) never = absurd (never from refl)

pub reached-order : (s : Threads) → IsReached s → IsOrdered s
reached-order s h = record {
  few = ∥∥₁_rec le_prop (λ w. (after-order w.0 w.1 w.2 s w.3).few) h;
  placed = λ t from x is by. ∥∥₁_rec le_prop (λ w. after-placed w.0 w.1 w.2 s w.3 t from x is by) h;
  later = λ quiet t x is. none-of x.spawner (λ from by. ∥∥₁_rec no-prop (λ w. none-some from (sym (after-later w.0 w.1 w.2 s w.3 quiet t x is x.spawner refl) ∙ by)) h);
}

pub tells-enabled : (s : State) (o : Option Commit) → MatchOption o (NoneMay s.threads.strands.items s.threads.rows) (MayBe s.threads.strands.items s.threads.rows) → TellsEnabled s o
tells-enabled s None none = λ ps rows journal stands. maximal ps rows journal s.threads stands none
tells-enabled s (Some c) may = λ ps rows journal stands. follows ps rows journal c s.threads stands may

-- one more commit of a settling
pub reached-next : (c : Commit) (s t : Threads) → IsReached s → MayBe s.strands.items s.rows c → Commits c s.strands.items t.strands.items → Frames s t → IsReached t
reached-next c s t h m made same =
    ∥∥₁_rec squash₁ (λ w. ∣ (w.0, w.1, more w.2 c, stands-next w.0 w.1 w.2 c s t w.3 m made same) ∣₁) h

pub settles-next : (ps : List Proc) (rows : ℕ) (journal added : List Commit) (c : Commit) (s t : Threads) → AreAfter ps rows (journal ++ added) s →
    MayBe s.strands.items s.rows c → Commits c s.strands.items t.strands.items → Frames s t → AreAfter ps rows (journal ++ (added ++ c ∷ [])) t
settles-next ps rows journal added c s t stands m made same =
    subst (λ (cs : List Commit). AreAfter ps rows cs t) (append_assoc journal added (c ∷ []))
    (stands-next ps rows (journal ++ added) c s t stands m made same)

-- how many syncs are left
abbrev pub left : Threads → ℕ
left s = length s.strands.items * s.rows - total s.strands.items

after-falls : (ps : List Proc) (rows : ℕ) (journal : List Commit) (c : Commit) (s t : Threads) → AreAfter ps rows journal s →
    MayBe s.strands.items s.rows c → Commits c s.strands.items t.strands.items → Frames s t → left t < left s
after-falls ps rows journal c s t stands m made same =
    let next = stands-next ps rows journal c s t stands m made same in
    let more_syncs = total-grows c s.strands.items t.strands.items made in
    let bound = total-bound rows t.strands.items next.bounded in
    let count : length t.strands.items ≡ length s.strands.items = next.strands.stands.count ∙ sym stands.strands.stands.count in
    let old : length s.strands.items * s.rows ≡ length t.strands.items * rows =
    ap (λ (n : ℕ). n * s.rows) (sym count) ∙ ap (λ (n : ℕ). length t.strands.items * n) stands.rows_are in
    let new : length t.strands.items * t.rows ≡ length t.strands.items * rows = ap (λ (n : ℕ). length t.strands.items * n) next.rows_are in
    omega (arith, more_syncs, bound, old, new)

pub left-falls : (c : Commit) (s t : Threads) → IsReached s → MayBe s.strands.items s.rows c → Commits c s.strands.items t.strands.items → Frames s t → left t < left s
left-falls c s t h m made same = ∥∥₁_rec le_prop (λ w. after-falls w.0 w.1 w.2 c s t w.3 m made same) h
