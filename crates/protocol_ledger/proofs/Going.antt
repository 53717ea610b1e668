-- Openings from which a table can go on: that of a first table, and what a lawful ledger tells of its end.
use Rattle.std.proofs.Common.{◌≡◌, ◌≢◌, ◌≤◌, ◌+◌, ◌*◌, ℕ, suc, List, [], ◌∷◌, length, map, get_or, slice_get, max, Some, sym, refl, ap, ◌∙◌, subst, ⊎_elim, arith}
use Rattle.std.specs.List.{fold, range_with_len}
use Rattle.std.specs.Prelude.{All}
use Rattle.std.proofs.lemmas.List.{length-replicate}
use Rattle.std.proofs.lemmas.List.Elements.{All-cons, All-from_get_or, All-nil, All-replicate}
use Rattle.std.proofs.lemmas.Option.{slice_get-get_or}
use Rattle.std.proofs.Math.Nat.{mul-le-mul_right}
use Rattle.protocol_values.specs.declared.Commit.{Commit}
use Rattle.protocol_values.specs.declared.Course.{Course}
use Rattle.protocol_values.specs.declared.Course.TheVariants as course
use Rattle.protocol_values.specs.declared.NackName.{NackName}
use Rattle.protocol_values.specs.Commits.{stamp_of}
use Rattle.protocol_ledger.specs.declared.opening.Life.{Life}
use Rattle.protocol_ledger.specs.declared.opening.Life.TheVariants as life
use Rattle.protocol_ledger.specs.declared.opening.NackState.{NackState}
use Rattle.protocol_ledger.specs.declared.opening.NackState.TheVariants as state
use Rattle.protocol_ledger.specs.Ledgers.{HasCommit, Involves, IsEnabledHere, IsLawful, Ledger, LivesAt, carried_in, commits_in, course_in, joined_in, marks_in, offer_in}
use Rattle.protocol_ledger.specs.Openings.{IsLastStamp, IsOpening, LeadsOn, Opening, TellsEnd, TellsNack, first_life, greatest, life_of, nack_numbered, stamp_in, start_opening}
use Rattle.protocol_ledger.specs.Tables.{start_of}
use Rattle.protocol_ledger.proofs.Keeping.{few_commits}
use Rattle.protocol_ledger.proofs.LedgerLemmas.{start_greatest, start_threads}

-- A FIRST TABLE'S

no_stamp : (later : ℕ) (ts : List ℕ) → All (λ (x : Life × ℕ). x.0 ≡ life.Unstarted → x.1 ≡ 0) (map (first_life later) ts)
no_stamp later [] = All-nil (λ (x : Life × ℕ). x.0 ≡ life.Unstarted → x.1 ≡ 0)
no_stamp later (t ∷ ts) = All-cons (λ (x : Life × ℕ). x.0 ≡ life.Unstarted → x.1 ≡ 0) (first_life later t) (map (first_life later) ts) (λ e. refl) (no_stamp later ts)

pub start_opens : (threads rows later : ℕ) → 1 ≤ threads → threads ≤ 64 → rows ≤ 1024 → IsOpening (start_opening threads later) rows
start_opens threads rows later some few small =
    let n = start_threads threads later in
    record {
      some = omega (arith, n, some);
      few = omega (arith, n, few);
      all_nacks = length-replicate (threads * 64) state.Unbound ∙ ap (λ (m : ℕ). m * 64) (sym n);
      unstarted = no_stamp later (range_with_len 0 threads);
      enabled = All-replicate (λ (s : NackState). s ≢ state.Enabled 0) (threads * 64) state.Unbound (λ e. let bad : state.Unbound ≡ state.Enabled 0 = e in cc);
      room =
          let z = start_greatest threads later in
          let most : threads * rows ≤ 64 * rows = mul-le-mul_right rows few in
          let same : length (start_opening threads later).threads * rows ≡ threads * rows = ap (λ (m : ℕ). m * rows) n in
          omega (arith, z, most, same, small);
    }

-- WHAT A LAWFUL LEDGER TELLS OF ITS END

fold_below : {X : Type 0} (h : X → ℕ) (top a : ℕ) (xs : List X) → a ≤ top → ((i : ℕ) (x : X) → slice_get xs i ≡ Some x → h x ≤ top) → fold (λ most x. max most (h x)) a xs ≤ top
fold_below h top a [] low each = low
fold_below h top a (x ∷ xs) low each = fold_below h top (max a (h x)) xs (let here = each 0 x refl in omega arith) (λ i y e. each (suc i) y e)

module _ (l : Ledger) (lawful : IsLawful l) (o : Opening) (tells : TellsEnd l o.threads o.nacks) where
  abbrev top : ℕ
  top = l.opening + length (commits_in l)

  last_below : (t s : ℕ) → IsLastStamp l t s → s ≤ top
  last_below t s is = ⊎_elim
      (λ (e : s ≡ start_of (course_in l t)). let b : start_of (course_in l t) ≤ top = lawful.starts t in omega (arith, b, e))
      (λ (h : (c : Commit) × (g : ℕ) × HasCommit l c × Involves c (record { thread = t; sync = g }) × (stamp_of c ≡ s)).
      let b : stamp_of h.0 ≤ top = lawful.bounded h.0 h.2 in
      let e = h.4 in
      omega (arith, b, e))
      is.there

  state_below : (n : NackName) (s : NackState) → TellsNack l n s → stamp_in s ≤ top
  state_below n state.Unbound h = omega arith
  state_below n state.Unsettled h = omega arith
  state_below n state.Dead h = omega arith
  state_below n (state.Enabled stamp) h = ⊎_elim
      (λ (e : carried_in l n ≡ Some stamp). let b : stamp ≤ top = (let c = lawful.carried n stamp e in let d : l.opening ≤ top = omega arith in omega (arith, c, d)) in omega (arith, b))
      (λ (x : (e : IsEnabledHere (joined_in l) (offer_in l) (marks_in l) n) × (stamp_of e.commit ≡ stamp)).
      let b : stamp_of x.0.commit ≤ top = lawful.bounded x.0.commit x.0.inside in
      let e = x.1 in
      omega (arith, b, e))
      h.1

  told_state : (i : ℕ) (s : NackState) → slice_get o.nacks i ≡ Some s → (n : NackName) × TellsNack l n s
  told_state i s e =
      let n = nack_numbered i in
      (n, tells.1.1 n s (omega arith) (ap (slice_get o.nacks) (let same : n.thread * 64 + n.k ≡ i = omega arith in same) ∙ e))

  pub told_greatest : greatest o ≤ l.opening + l.threads * l.rows
  told_greatest =
      let few = few_commits l.threads l.rows (joined_in l) (offer_in l) in
      let lasts = fold_below (λ (x : Life × ℕ). x.1) top 0 o.threads (omega arith) (λ t x e. last_below t x.1 (tells.0.1 t x.0 x.1 e).1) in
      let states = fold_below stamp_in top 0 o.nacks (omega arith) (λ i s e. let told = told_state i s e in state_below told.0 s told.1) in
      omega (arith, few, lasts, states)

  -- a thread that waits to be started has no commit, so no stamp
  waits_first : (t s : ℕ) → course.Unstarted ≡ course_in l t → IsLastStamp l t s → s ≡ 0
  waits_first t s e is = ⊎_elim
      (λ (same : s ≡ start_of (course_in l t)). same ∙ ap start_of (sym e))
      (λ (h : (c : Commit) × (g : ℕ) × HasCommit l c × Involves c (record { thread = t; sync = g }) × (stamp_of c ≡ s)).
      absurd (subst (λ (c : Course). LivesAt c h.1) (sym e) (lawful.lived h.0 (record { thread = t; sync = h.1 }) h.2 h.3)))
      is.there

  unstarted_is : (c : Course) → life.Unstarted ≡ life_of c → course.Unstarted ≡ c
  unstarted_is course.Unstarted e = refl
  unstarted_is (course.Running start) e = let bad : life.Unstarted ≡ life.Running = e in cc
  unstarted_is (course.Ended start sync) e = let bad : life.Unstarted ≡ life.Ended = e in cc

  never_zero : (n : NackName) (s : NackState) → TellsNack l n s → s ≢ state.Enabled 0
  never_zero n state.Unbound h e = let bad : state.Unbound ≡ state.Enabled 0 = e in cc
  never_zero n state.Unsettled h e = let bad : state.Unsettled ≡ state.Enabled 0 = e in cc
  never_zero n state.Dead h e = let bad : state.Dead ≡ state.Enabled 0 = e in cc
  never_zero n (state.Enabled stamp) h e = let z : stamp ≡ 0 = ap stamp_in e in let some = h.0 in absurd (omega (arith, z, some))

  pub told_opens : LeadsOn l o
  told_opens rows some few room =
      let size = tells.0.0 in
      record {
        some = omega (arith, size, some);
        few = omega (arith, size, few);
        all_nacks = tells.1.0 ∙ ap (λ (n : ℕ). n * 64) (sym size);
        unstarted = All-from_get_or (λ (x : Life × ℕ). x.0 ≡ life.Unstarted → x.1 ≡ 0) o.threads (life.Unstarted, 0) (λ t h e.
            let x = get_or o.threads t (life.Unstarted, 0) in
            let told = tells.0.1 t x.0 x.1 (slice_get-get_or o.threads t (life.Unstarted, 0) h) in
            waits_first t x.1 (unstarted_is (course_in l t) (sym e ∙ told.0)) told.1);
        enabled = All-from_get_or (λ (s : NackState). s ≢ state.Enabled 0) o.nacks state.Unbound (λ i h.
            let s = get_or o.nacks i state.Unbound in
            let told = told_state i s (slice_get-get_or o.nacks i state.Unbound h) in
            never_zero told.0 s told.1);
        room = let same : length o.threads * rows ≡ l.threads * rows = ap (λ (n : ℕ). n * rows) size in omega (arith, same, room);
      }
