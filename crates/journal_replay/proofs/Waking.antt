-- Who spawns a process, and how the threads start that are due.
use Rattle.std.proofs.Common.{◌≡◌, ℕ, zero, suc, ◌+◌, ◌<◌, ◌≤◌, Bool, true, false, cond, ◌||◌, List, [], ◌∷◌, length, get_or, slice_get, Option, Some, None, is_some, option_and_then, refl, sym, ap, ◌∙◌, subst, arith, ⊎_elim}
use Rattle.std.proofs.lemmas.Bool.{cases_eq, false≢true}
use Rattle.std.proofs.lemmas.Option.{same_Some, slice_get_within}
use Rattle.script_tree.specs.Processes.{Proc}
use Rattle.script_tree.specs.Spawning.{IsPlaced, has_bit, spawner, spawner_from, spawns_block}
use Rattle.thread.specs.After.{Chosen}
use Rattle.protocol_values.specs.declared.Commit.{Commit}
use Rattle.protocol_values.specs.declared.Commit.TheVariants.{Pair, Alone}
use Rattle.protocol_values.specs.declared.Message.TheVariants.{Empty}
use Rattle.thread_strand.specs.declared.strand.Strand.{Strand}
use Rattle.journal_replay.specs.declared.threads.Threads.{Threads}
use Rattle.journal_replay.specs.Runs.{message_by}
use Rattle.journal_replay.specs.Standing.{IsOrdered, OneGrows, OneStarts, Takes, SomeStart, NoneStarts, Start, TriesStart, Wakes, first_with, stamp_of_start, start_stamp}
use Rattle.thread_strand.specs.Strands.{stamp_from}
use Rattle.journal_replay.proofs.Standing.{BeginsEach, at-other, at-same, takes-count, started-now, started-other, started-same}

-- MASKS

-- the first mask with the bit
pub first-found : (t s : ℕ) (masks : List ℕ) (i k : ℕ) → i < length masks → ((j : ℕ) → j < i → has_bit (get_or masks j 0) t ≡ false) → has_bit (get_or masks i 0) t ≡ true →
    k ≡ s + i → first_with t s masks ≡ Some k
first-found t s [] i k lt none there e = absurd (omega (arith, lt))
first-found t s (m ∷ ms) zero k lt none there e = ap (λ (b : Bool). cond b (Some s) (first_with t (s + 1) ms)) there ∙ ap Some (omega (arith, e))
first-found t s (m ∷ ms) (suc i) k lt none there e =
    ap (λ (b : Bool). cond b (Some s) (first_with t (s + 1) ms)) (none 0 (omega arith))
    ∙ first-found t (s + 1) ms i k (omega (arith, lt)) (λ j low. none (suc j) (omega (arith, low))) there (omega (arith, e))

pub first-none : (t s : ℕ) (masks : List ℕ) → ((j : ℕ) → j < length masks → has_bit (get_or masks j 0) t ≡ false) → first_with t s masks ≡ None
first-none t s [] none = refl
first-none t s (m ∷ ms) none =
    ap (λ (b : Bool). cond b (Some s) (first_with t (s + 1) ms)) (none 0 (omega arith))
    ∙ first-none t (s + 1) ms (λ j low. none (suc j) (omega (arith, low)))

-- the masks are of the processes' texts
pub first-is : (t s : ℕ) (masks : List ℕ) (ps : List Proc) → length masks ≡ length ps → ((j m : ℕ) (p : Proc) → slice_get masks j ≡ Some m → slice_get ps j ≡ Some p → has_bit m t ≡ spawns_block t p.body) →
    first_with t s masks ≡ spawner_from t s ps
first-is t s [] [] count are = refl
first-is t s [] (p ∷ ps) count are = absurd (omega (arith, count))
first-is t s (m ∷ ms) [] count are = absurd (omega (arith, count))
first-is t s (m ∷ ms) (p ∷ ps) count are =
    ap (λ (b : Bool). cond b (Some s) (first_with t (s + 1) ms)) (are 0 m p refl refl)
    ∙ ap (cond (spawns_block t p.body) (Some s)) (first-is t (s + 1) ms ps (omega (arith, count)) (λ j x q there is. are (suc j) x q there is))

-- THREADS THAT ARE DUE

-- a thread that starts changes nothing for those behind it
stamp-kept : (old new : List Strand) (t u : ℕ) → OneStarts t old new → (x : Strand) (o : Option ℕ) → x.spawner ≡ o → ((from : ℕ) → x.spawner ≡ Some from → u < from) → t < u →
    stamp_of_start new u x ≡ stamp_of_start old u x
stamp-kept old new t u w x None by placed lt =
    ap (λ (o : Option ℕ). cond x.started None (option_and_then (λ s. stamp_from u (slice_get new s)) o)) by
    ∙ sym (ap (λ (o : Option ℕ). cond x.started None (option_and_then (λ s. stamp_from u (slice_get old s)) o)) by)
stamp-kept old new t u w x (Some from) by placed lt =
    let low = placed from by in
    ap (λ (o : Option ℕ). cond x.started None (option_and_then (λ s. stamp_from u (slice_get new s)) o)) by
    ∙ ap (λ (s : Option Strand). cond x.started None (stamp_from u s)) (started-other t from old new w (λ e. omega (arith, e, low, lt)))
    ∙ sym (ap (λ (o : Option ℕ). cond x.started None (option_and_then (λ s. stamp_from u (slice_get old s)) o)) by)

abbrev pub Placed : List Strand → Type 0
Placed strands = (t from : ℕ) (x : Strand) → slice_get strands t ≡ Some x → x.spawner ≡ Some from → t < from

due-kept : (old new : List Strand) (t u : ℕ) → OneStarts t old new → Placed old → t < u → (o : Option Strand) → slice_get old u ≡ o → start_stamp old u ≡ None → start_stamp new u ≡ None
due-kept old new t u w placed lt None is none =
    ap (option_and_then (stamp_of_start new u)) (started-other t u old new w (λ e. omega (arith, e, lt)) ∙ is)
due-kept old new t u w placed lt (Some x) is none =
    ap (option_and_then (stamp_of_start new u)) (started-other t u old new w (λ e. omega (arith, e, lt)) ∙ is)
    ∙ stamp-kept old new t u w x x.spawner refl (λ from by. placed u from x is by) lt
    ∙ ap (option_and_then (stamp_of_start old u)) (sym is) ∙ none

-- the threads from this one on have started, where they are due
pub record WakesFrom (t : ℕ) (old new : List Strand) : Type 0 where
  pub within : t ≤ 64
  pub some : SomeStart old new
  pub all : (u : ℕ) → t ≤ u → start_stamp new u ≡ None
  pub placed : Placed new

past : (strands : List Strand) (u : ℕ) → length strands ≤ u → slice_get strands u ≡ None
past [] u le = refl
past (x ∷ xs) zero le = absurd (omega (arith, le))
past (x ∷ xs) (suc u) le = past xs u (omega (arith, le))

pub wakes-none : (s : Threads) (n : ℕ) → n ≡ length s.strands.items → IsOrdered s → WakesFrom n s.strands.items s.strands.items
wakes-none s n count order = record {
  within = omega (arith, count, order.few);
  some = NoneStarts;
  all = λ u le. ap (option_and_then (stamp_of_start s.strands.items u)) (past s.strands.items u (omega (arith, count, le)));
  placed = order.placed;
}

placed-started : (t : ℕ) (old new : List Strand) → OneStarts t old new → Placed old → Placed new
placed-started t old new w placed u from x is by = ⊎_elim
    (λ e.
    let same : started-now t old new w ≡ x = same_Some (started-now t old new w) x (sym (started-same t old new w) ∙ ap (slice_get new) (sym e) ∙ is) in
    omega (arith, e, placed t from w.before w.was (ap (λ (y : Strand). y.spawner) same ∙ by)))
    (λ ne. placed u from x (sym (started-other t u old new w ne) ∙ is) by)
    (cases_eq u t)

pub wakes-more : (t : ℕ) (old middle new : List Strand) (b : Bool) → WakesFrom (t + 1) old middle → TriesStart t middle new b → WakesFrom t old new
wakes-more t old middle new true w one = record {
  within = omega (arith, w.within);
  some = Start t w.some one;
  all = λ u le. ⊎_elim
      (λ e.
      subst (λ (v : ℕ). start_stamp new v ≡ None) (sym e)
      (ap (option_and_then (stamp_of_start new t)) (started-same t middle new one)))
      (λ ne. due-kept middle new t u one w.placed (omega (arith, le, ne)) (slice_get middle u) refl (w.all u (omega (arith, le, ne))))
      (cases_eq u t);
  placed = placed-started t middle new one w.placed;
}
wakes-more t old middle new false w (none, same) = subst (WakesFrom t old) (sym same) (record {
  within = omega (arith, w.within);
  some = w.some;
  all = λ u le. ⊎_elim
      (λ e. subst (λ (v : ℕ). start_stamp middle v ≡ None) (sym e) none)
      (λ ne. w.all u (omega (arith, le, ne)))
      (cases_eq u t);
  placed = w.placed;
})

pub quiet-more : (old middle new : List Strand) (t : ℕ) (woke b : Bool) → (woke ≡ false → middle ≡ old) → TriesStart t middle new b → (woke || b) ≡ false → new ≡ old
quiet-more old middle new t true b quiet one e = absurd (false≢true (sym e))
quiet-more old middle new t false true quiet one e = absurd (false≢true (sym e))
quiet-more old middle new t false false quiet one e = one.1 ∙ quiet refl

pub wakes-all : (t : ℕ) (old new : List Strand) → WakesFrom t old new → t ≤ 0 → Wakes old new
wakes-all t old new w none = record { some = w.some; all = λ u. w.all u (omega (arith, none)) }

-- where no text spawns a process, none is due
nobody-due : (strands : List Strand) (t : ℕ) (x : Strand) → x.spawner ≡ None → (b : Bool) → x.started ≡ b → stamp_of_start strands t x ≡ None
nobody-due strands t x none true e = ap (λ (b : Bool). cond b None (option_and_then (λ s. stamp_from t (slice_get strands s)) x.spawner)) e
nobody-due strands t x none false e =
    ap (λ (b : Bool). cond b None (option_and_then (λ s. stamp_from t (slice_get strands s)) x.spawner)) e
    ∙ ap (option_and_then (λ s. stamp_from t (slice_get strands s))) none

none-due : (strands : List Strand) (t : ℕ) → ((u : ℕ) (x : Strand) → slice_get strands u ≡ Some x → x.spawner ≡ None) → (o : Option Strand) → slice_get strands t ≡ o → start_stamp strands t ≡ None
none-due strands t nobody None e = ap (option_and_then (stamp_of_start strands t)) e
none-due strands t nobody (Some x) e = ap (option_and_then (stamp_of_start strands t)) e ∙ nobody-due strands t x (nobody t x e) x.started refl

pub wakes-nobody : (s : Threads) → IsOrdered s → s.later ≡ false → Wakes s.strands.items s.strands.items
wakes-nobody s order quiet = record { some = NoneStarts; all = λ t. none-due s.strands.items t (order.later quiet) (slice_get s.strands.items t) refl }

-- what a commit leaves of who spawns whom
grown-was : (t u stamp : ℕ) (r : Chosen) (old new : List Strand) → OneGrows t r stamp old new → (x : Strand) → slice_get new u ≡ Some x → (y : Strand) × (slice_get old u ≡ Some y) × (x.spawner ≡ y.spawner)
grown-was t u stamp r old new w x is = ⊎_elim
    (λ e.
    let same : w.behind ≡ x = same_Some w.behind x (sym (at-same t stamp r old new w) ∙ ap (slice_get new) (sym e) ∙ is) in
    (w.before, ap (slice_get old) e ∙ w.was, ap (λ (y : Strand). y.spawner) (sym same) ∙ w.grows.spawner))
    (λ ne. (x, sym (at-other t u stamp r old new w ne) ∙ is, refl))
    (cases_eq u t)

taken-was : (c : Commit) (old new : List Strand) → Takes c old new → (u : ℕ) (x : Strand) → slice_get new u ≡ Some x → (y : Strand) × (slice_get old u ≡ Some y) × (x.spawner ≡ y.spawner)
taken-was (Pair sender receiver chan msg stamp) old new w u x is =
    let second = grown-was receiver.0.thread u stamp (receiver.1, msg) w.0 new w.2 x is in
    let first = grown-was sender.0.thread u stamp (sender.1, Empty) old w.0 w.1 second.0 second.1 in
    (first.0, first.1, second.2 ∙ first.2)
taken-was (Alone at why stamp) old new w u x is = grown-was at.0.thread u stamp (at.1, message_by why) old new w x is

pub ordered-taken : (c : Commit) (s t : Threads) → IsOrdered s → Takes c s.strands.items t.strands.items → t.later ≡ s.later → IsOrdered t
ordered-taken c s t order w same = record {
  few = omega (arith, takes-count c s.strands.items t.strands.items w, order.few);
  placed = λ u from x is by.
      let k = taken-was c s.strands.items t.strands.items w u x is in
      order.placed u from k.0 k.1 (sym k.2 ∙ by);
  later = λ quiet u x is.
      let k = taken-was c s.strands.items t.strands.items w u x is in
      k.2 ∙ order.later (sym same ∙ quiet) u k.0 k.1;
}

-- who spawns the threads at the beginning
pub later-more : (ps : List Proc) (later : Bool) (n : ℕ) (o : Option ℕ) → (later ≡ false → (t : ℕ) → t < n → spawner ps t ≡ None) → o ≡ spawner ps n → (later || is_some o) ≡ false →
    (t : ℕ) → t < n + 1 → spawner ps t ≡ None
later-more ps true n o before is quiet t lt = absurd (false≢true (sym quiet))
later-more ps false n (Some s) before is quiet t lt = absurd (false≢true (sym quiet))
later-more ps false n None before is quiet t lt = ⊎_elim
    (λ e. ap (spawner ps) e ∙ sym is)
    (λ ne. before refl t (omega (arith, lt, ne)))
    (cases_eq t n)

pub begins-placed : (ps : List Proc) (strands : List Strand) → IsPlaced ps → BeginsEach ps strands → Placed strands
begins-placed ps strands placed begins t from x is by =
    let w = begins.each t x is in placed t from (sym w.2.spawner ∙ by)

pub begins-later : (ps : List Proc) (strands : List Strand) → ((t : ℕ) → t < length strands → spawner ps t ≡ None) → BeginsEach ps strands → (t : ℕ) (x : Strand) → slice_get strands t ≡ Some x → x.spawner ≡ None
begins-later ps strands nobody begins t x is = let w = begins.each t x is in w.2.spawner ∙ nobody t (slice_get_within strands t x is)
