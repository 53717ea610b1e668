-- How far each thread got, by a walk along the commits.
use Rattle.std.proofs.Common.{◌⊎◌, ◌≡◌, ◌∙◌, ◌+◌, ◌<◌, ◌≤◌, ℕ, zero, suc, ◌∷◌, [], List, Some, ap, arith, inl, inr, length, length-set, refl, set, slice_get, subst, sym, ⊎_elim}
use Rattle.std.specs.Prelude.{Contains}
use Rattle.std.proofs.lemmas.Bool.{cases_eq, cases_lt}
use Rattle.std.proofs.lemmas.Option.{same_Some, slice_get_cases, slice_get_read, slice_get_within}
use Rattle.protocol_values.specs.declared.Commit.{Commit}
use Rattle.protocol_values.specs.declared.Commit.TheVariants.{Alone, Pair}
use Rattle.protocol_values.specs.declared.Row.{Row}
use Rattle.protocol_values.specs.Commits.{stamp_of}
use Rattle.protocol_ledger.specs.Ledgers.{HasCommit, Involves, IsLawful, Ledger}
use Rattle.protocol_ledger.specs.Openings.{AreStarts, HaveReached, IsPast, Notes, NotesCommit}
use Rattle.protocol_ledger.specs.declared.reached.Reached.{Reached}
use Rattle.protocol_ledger.proofs.Closing.{IsLastBefore, NoneFrom, commit_inside, last_found}

get_set_same : {A : Type 0} (xs : List A) (t : ℕ) (y : A) → t < length xs → slice_get (set xs t y) t ≡ Some y
get_set_same [] t y lt = absurd (omega (arith, lt))
get_set_same (x ∷ xs) zero y lt = refl
get_set_same (x ∷ xs) (suc t) y lt = get_set_same xs t y (omega (arith, lt))

get_set_other : {A : Type 0} (xs : List A) (t u : ℕ) (y : A) → (u ≡ t → ⊥) → slice_get (set xs t y) u ≡ slice_get xs u
get_set_other [] t u y ne = refl
get_set_other (x ∷ xs) zero zero y ne = absurd (ne refl)
get_set_other (x ∷ xs) zero (suc u) y ne = refl
get_set_other (x ∷ xs) (suc t) zero y ne = refl
get_set_other (x ∷ xs) (suc t) (suc u) y ne = get_set_other xs t u y (λ same. ne (ap suc same))

-- what is noted of a thread, of whose rows these were noted
pub record HasNoted (l : Ledger) (noted : Row → Type 0) (t : ℕ) (reached : Reached) : Type 0 where
  pub last : IsLastBefore l t reached.rows reached.stamp
  pub below : (g : ℕ) → noted (record { thread = t; sync = g }) → g < reached.rows

pub record HaveNoted (l : Ledger) (noted : Row → Type 0) (all : List Reached) : Type 0 where
  pub count : length all ≡ l.threads
  pub each : (t : ℕ) (reached : Reached) → slice_get all t ≡ Some reached → HasNoted l noted t reached

-- and one row more
abbrev pub AndRow : (Row → Type 0) → Row → Row → Type 0
AndRow noted row r = noted r ⊎ (r ≡ row)

note_kept : (l : Ledger) (noted : Row → Type 0) (row : Row) (t : ℕ) (reached : Reached) → (t ≡ row.thread → row.sync < reached.rows) → HasNoted l noted t reached → HasNoted l (AndRow noted row) t reached
note_kept l noted row t reached already has = record {
  last = has.last;
  below = λ g there. ⊎_elim (λ (before : noted (record { thread = t; sync = g })). has.below g before)
      (λ (same : record { thread = t; sync = g } ≡ row). let low = already (ap (λ (r : Row). r.thread) same) in let sync : g ≡ row.sync = ap (λ (r : Row). r.sync) same in omega (arith, low, sync)) there;
}

note_new : (l : Ledger) (noted : Row → Type 0) (row : Row) (c : Commit) (before : Reached) → HasCommit l c → Involves c row → before.rows ≤ row.sync → HasNoted l noted row.thread before
    → HasNoted l (AndRow noted row) row.thread (record { stamp = stamp_of c; rows = row.sync + 1 })
unfolding IsLastBefore
note_new l noted row c before has involved low was = record {
  last = inr (c, row.sync, refl, has, involved, refl);
  below = λ g there. ⊎_elim (λ (earlier : noted (record { thread = row.thread; sync = g })). let under = was.below g earlier in omega (arith, under, low))
      (λ (same : record { thread = row.thread; sync = g } ≡ row). let sync : g ≡ row.sync = ap (λ (r : Row). r.sync) same in omega (arith, sync)) there;
}

pub note_row : (l : Ledger) (noted : Row → Type 0) (row : Row) (c : Commit) (old new : List Reached) → HasCommit l c → Involves c row → row.thread < l.threads → Notes row (stamp_of c) old new → HaveNoted l noted old
    → HaveNoted l (AndRow noted row) new
note_row l noted row c old new has involved inside (inl kept) was = record {
  count = ap (λ (all : List Reached). length all) kept.0 ∙ was.count;
  each = λ t reached is.
      let before : slice_get old t ≡ Some reached = ap (λ (all : List Reached). slice_get all t) (sym kept.0) ∙ is in
      note_kept l noted row t reached (λ same. kept.1 reached (ap (slice_get old) (sym same) ∙ before)) (was.each t reached before);
}
note_row l noted row c old new has involved inside (inr put) was = record {
  count = ap (λ (all : List Reached). length all) put.0 ∙ length-set old row.thread next ∙ was.count;
  each = λ t reached is.
      let there : slice_get (set old row.thread next) t ≡ Some reached = ap (λ (all : List Reached). slice_get all t) (sym put.0) ∙ is in
      ⊎_elim
      (λ (same : t ≡ row.thread).
      let one : next ≡ reached = same_Some next reached (sym (get_set_same old row.thread next low) ∙ ap (slice_get (set old row.thread next)) (sym same) ∙ there) in
      subst (HasNoted l (AndRow noted row) t) one (subst (λ (u : ℕ). HasNoted l (AndRow noted row) u next) (sym same) (note_new l noted row c first.0 has involved (put.1 first.0 first.1) (was.each row.thread first.0 first.1))))
      (λ (other : t ≡ row.thread → ⊥).
      let before : slice_get old t ≡ Some reached = sym (get_set_other old row.thread t next other) ∙ there in
      note_kept l noted row t reached (λ same. absurd (other same)) (was.each t reached before))
      (cases_eq t row.thread);
}
  where
    next : Reached
    next = record { stamp = stamp_of c; rows = row.sync + 1 }

    low : row.thread < length old
    low = (let count = was.count in omega (arith, count, inside))

    first : (before : Reached) × (slice_get old row.thread ≡ Some before)
    first = ⊎_elim (λ is. (is.0, is.2)) (λ past. let over = past.0 in absurd (omega (arith, over, low))) (slice_get_cases old row.thread).1

-- the row is in one of the first commits
abbrev pub IsInFirst : List Commit → ℕ → Row → Type 0
IsInFirst commits i row = (k : ℕ) × (c : Commit) × (k < i) × (slice_get commits k ≡ Some c) × Involves c row

fewer : (l : Ledger) (noted less : Row → Type 0) (all : List Reached) → ((row : Row) → less row → noted row) → HaveNoted l noted all → HaveNoted l less all
fewer l noted less all has was = record { count = was.count; each = λ t reached is. record { last = (was.each t reached is).last; below = λ g there. (was.each t reached is).below g (has _ there) } }

-- a row of the first commits and the next is one of the first, or of the next
of_next : (commits : List Commit) (i : ℕ) (c : Commit) → slice_get commits i ≡ Some c → (row : Row) → IsInFirst commits (i + 1) row → IsInFirst commits i row ⊎ Involves c row
of_next commits i c is row there = ⊎_elim (λ (before : there.0 < i). inl (there.0, there.1, before, there.3, there.4))
    (λ (last : i ≤ there.0).
    let same : there.0 ≡ i = (let low = there.2 in omega (arith, low, last)) in
    inr (subst (λ (d : Commit). Involves d row) (same_Some there.1 c (sym there.3 ∙ ap (slice_get commits) same ∙ is)) there.4))
    (cases_lt there.0 i)

pub noted_none : (l : Ledger) (commits : List Commit) (all : List Reached) → AreStarts l all → HaveNoted l (IsInFirst commits 0) all
unfolding IsLastBefore
noted_none l commits all starts = record {
  count = starts.0;
  each = λ t reached is. record {
    last = inl (ap (λ (r : Reached). r.rows) (starts.1 t reached is), ap (λ (r : Reached). r.stamp) (starts.1 t reached is));
    below = λ g there. let low = there.2 in absurd (omega (arith, low));
  };
}

pub noted_more : (l : Ledger) (commits : List Commit) (i : ℕ) (c : Commit) (old new : List Reached) → IsLawful l → HasCommit l c → slice_get commits i ≡ Some c → NotesCommit c old new → HaveNoted l (IsInFirst commits i) old
    → HaveNoted l (IsInFirst commits (i + 1)) new
noted_more l commits i (Pair sender receiver channel message stamp) old new lawful has is notes was =
    let c = Pair sender receiver channel message stamp in
    let sends : Involves c sender.0 = (sender.1, inl refl) in
    let receives : Involves c receiver.0 = (receiver.1, inr refl) in
    let first = note_row l (IsInFirst commits i) sender.0 c old notes.0 has sends (commit_inside l lawful c has sender.0 sends).0 notes.1 was in
    let both = note_row l (AndRow (IsInFirst commits i) sender.0) receiver.0 c notes.0 new has receives (commit_inside l lawful c has receiver.0 receives).0 notes.2 first in
    fewer l _ (IsInFirst commits (i + 1)) new
    (λ row there. ⊎_elim (λ before. inl (inl before))
    (λ of. ⊎_elim (λ (at : sender ≡ (row, of.0)). inl (inr (ap (λ (x : Row × ℕ). x.0) (sym at)))) (λ (at : receiver ≡ (row, of.0)). inr (ap (λ (x : Row × ℕ). x.0) (sym at))) of.1)
    (of_next commits i c is row there))
    both
noted_more l commits i (Alone at cause stamp) old new lawful has is notes was =
    let c = Alone at cause stamp in
    let takes : Involves c at.0 = (at.1, refl) in
    let one = note_row l (IsInFirst commits i) at.0 c old new has takes (commit_inside l lawful c has at.0 takes).0 notes was in
    fewer l _ (IsInFirst commits (i + 1)) new
    (λ row there. ⊎_elim (λ before. inl before) (λ of. inr (ap (λ (x : Row × ℕ). x.0) (sym of.1))) (of_next commits i c is row there))
    one

place_of : (commits : List Commit) (c : Commit) → Contains commits c → (k : ℕ) × (slice_get commits k ≡ Some c)
place_of commits c there = (there.0, slice_get_read commits (length commits) there.0 c refl there.1 (sym there.2))

pub noted_all : (l : Ledger) (commits : List Commit) (n : ℕ) (all : List Reached) → IsLawful l → length commits ≤ n → ((c : Commit) → HasCommit l c → Contains commits c) → HaveNoted l (IsInFirst commits n) all → HaveReached l all
unfolding NoneFrom
noted_all l commits n all lawful over listed was = (
  was.count,
  λ t reached is.
      let has = was.each t reached is in
      let past : IsPast l t reached.rows = λ c g there of.
      let at = place_of commits c (listed c there) in
      has.below g (at.0, c, (let low = slice_get_within commits at.0 c at.1 in omega (arith, low, over)), at.1, of) in
      record {
        last = last_found l t reached.rows reached.stamp lawful has.last (λ c g behind there of. let low = past c g there of in absurd (omega (arith, low, behind)));
        past = past;
      },
)
