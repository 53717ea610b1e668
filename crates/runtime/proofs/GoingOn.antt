-- A season goes on where the machines of the one before stand: what became of a nack there belongs to an earlier sync of its thread.
use Rattle.std.proofs.Common.{append_assoc, ◌≡◌, ◌≢◌, ◌⊎◌, ◌+◌, ◌*◌, ◌<◌, ◌≤◌, ℕ, zero, suc, List, [], ◌∷◌, ◌++◌, length, map, take, get_or, replicate, Contains, Option, Some, slice_get, refl, sym, ap, ◌∙◌, subst, inl, inr, arith, ⊎_elim}
use Rattle.std.proofs.Math.Seq.{take-append-add}
use Rattle.std.proofs.lemmas.Bool.{cases_lt}
use Rattle.std.proofs.lemmas.List.{get_or_past, length-append, length-take-le, take-append-le}
use Rattle.std.proofs.lemmas.Option.{get_or_from_slice_get, none-some, same_Some, slice_get-get_or, slice_get_within}
use Rattle.protocol_values.specs.declared.Binding.{Binding}
use Rattle.protocol_values.specs.declared.Cause.TheVariants as cause
use Rattle.protocol_values.specs.declared.Commit.{Commit}
use Rattle.protocol_values.specs.declared.Commit.TheVariants.{Pair, Alone}
use Rattle.protocol_values.specs.declared.Course.{Course}
use Rattle.protocol_values.specs.declared.Course.TheVariants as course
use Rattle.protocol_values.specs.declared.NackName.{NackName}
use Rattle.protocol_values.specs.declared.Offer.{Offer}
use Rattle.protocol_values.specs.declared.Row.{Row}
use Rattle.script_tree.specs.Processes.{Proc}
use Rattle.script_tree.specs.Spawning.{AreSpawnedOnce, IsPlaced}
use Rattle.thread.specs.After.{Chosen}
use Rattle.thread.specs.Machines.{IsOpen, StartsAs, Thread}
use Rattle.protocol_ledger.specs.Acting.{HasStart}
use Rattle.protocol_ledger.specs.Ledgers.{HasCommit, IsLawful, Ledger, LivesAt, Takes, binding_in, carried_in, course_in, offer_in}
use Rattle.protocol_ledger.specs.Openings.{Opening, TellsEnd, TellsNack, life_of, state_in, thread_in, word_for}
use Rattle.protocol_ledger.specs.Standing.{AreResults, Result}
use Rattle.protocol_ledger.specs.Tables.{bound_row, carried_by}
use Rattle.protocol_ledger.specs.declared.opening.Life.{Life}
use Rattle.protocol_ledger.specs.declared.opening.Life.TheVariants as life
use Rattle.protocol_ledger.specs.declared.opening.NackState.{NackState}
use Rattle.protocol_ledger.specs.declared.opening.NackState.TheVariants as nack
use Rattle.protocol_ledger.proofs.Results.{one-results}
use Rattle.cell.specs.Calls.{GridOf, opening_at}
use Rattle.cell_table.specs.Rule.{AreMachines}
use Rattle.cell_table.specs.Sight.{WasSettled}
use Rattle.journal_replay.specs.Runs.{IsOffering}
use Rattle.journal_order.specs.Laws.{HasScopeAt}
use Rattle.runtime_worker.specs.declared.resident.Suspended.{Suspended}
use Rattle.runtime_worker.specs.Machines.{AreFirst, AreNew, IsAtSync, IsTable, SyncsHaveWords}
use Rattle.runtime_worker.specs.Widths.{AllOfferAtMost}
use Rattle.runtime_worker.proofs.Machines.{has_scope}
use Rattle.runtime_worker.proofs.Processes.{process_of}
use Rattle.runtime_run.specs.Machines.{AreLeftBy, StandsOver}
use Rattle.runtime.specs.Season.{IsClosed, IsLedgerOver, IsTableOf, NoneSettledWaits}
use Rattle.runtime.specs.declared.season.ClosedSeason.{ClosedSeason}
use Rattle.runtime.specs.Between.{AreHad, GoOnBelow, GoesOnFrom, HasResults, count_in, had_by}

-- HOW MANY RESULTS each machine has
pub counted : (first : List (Option Suspended)) → AreHad first (map count_in first)
counted [] t start e = absurd (none-some (Some start) e)
counted (s ∷ first) zero start e = ap count_in (same_Some s (Some start) e)
counted (s ∷ first) (suc t) start e = counted first t start e

-- ONE THREAD MORE
get_left : {A : Type 0} (xs ys : List A) (t : ℕ) (x : A) → slice_get xs t ≡ Some x → slice_get (xs ++ ys) t ≡ Some x
get_left [] ys t x e = absurd (none-some x e)
get_left (y ∷ xs) ys zero x e = e
get_left (y ∷ xs) ys (suc t) x e = get_left xs ys t x e

get_last : {A : Type 0} (xs : List A) (x : A) (t : ℕ) → t ≡ length xs → slice_get (xs ++ x ∷ []) t ≡ Some x
get_last [] x zero e = refl
get_last [] x (suc t) e = absurd (omega (arith, e))
get_last (y ∷ xs) x zero e = absurd (omega (arith, e))
get_last (y ∷ xs) x (suc t) e = get_last xs x t (omega (arith, e))

-- what was left, one further
pub whole_next : {A : Type 0} (all yielded rest left : List A) (x : A) → all ≡ yielded ++ rest → rest ≡ x ∷ left → all ≡ (yielded ++ x ∷ []) ++ left
whole_next all yielded rest left x whole is = whole ∙ ap (λ (xs : List _). yielded ++ xs) is ∙ sym (append_assoc yielded (x ∷ []) left)

pub at_next : {A : Type 0} (all yielded left : List A) (x : A) → all ≡ (yielded ++ x ∷ []) ++ left → slice_get all (length yielded) ≡ Some x
at_next all yielded left x whole = ap (λ (xs : List _). slice_get xs (length yielded)) whole ∙ get_left (yielded ++ x ∷ []) left (length yielded) x (get_last yielded x (length yielded) refl)

pub go_on_none : (ps : List Proc) (lives : List (Life × ℕ)) (machines : List (Option Thread)) → GoOnBelow ps lives machines 0 [] [] []
go_on_none ps lives machines = record { lives_are = refl; machines_are = refl; ended_are = refl; each = λ t low. absurd (omega (arith, low)) }

pub go_on_more : (ps : List Proc) (lives : List (Life × ℕ)) (machines : List (Option Thread)) (n : ℕ) (next : List (Life × ℕ)) (first : List (Option Suspended)) (ended : List (Option Thread)) (process : Proc) (was : Life × ℕ) (m : Option Thread) (is : Life × ℕ) (s : Option Suspended)
    (e : Option Thread) → GoOnBelow ps lives machines n next first ended → slice_get ps n ≡ Some process → slice_get lives n ≡ Some was → slice_get machines n ≡ Some m → GoesOnFrom process n was m is s e
    → GoOnBelow ps lives machines (n + 1) (next ++ is ∷ []) (first ++ s ∷ []) (ended ++ e ∷ [])
go_on_more ps lives machines n next first ended process was m is s e before there life machine goes = record {
  lives_are = length-append next (is ∷ []) ∙ ap (λ (k : ℕ). k + 1) before.lives_are;
  machines_are = length-append first (s ∷ []) ∙ ap (λ (k : ℕ). k + 1) before.machines_are;
  ended_are = length-append ended (e ∷ []) ∙ ap (λ (k : ℕ). k + 1) before.ended_are;
  each = λ t low. ⊎_elim
      (λ (same : t ≡ n). (
        process,
        was,
        m,
        is,
        s,
        ap (slice_get ps) same ∙ there,
        ap (slice_get lives) same ∙ life,
        ap (slice_get machines) same ∙ machine,
        get_last next is t (same ∙ sym before.lives_are),
        get_last first s t (same ∙ sym before.machines_are),
        e,
        get_last ended e t (same ∙ sym before.ended_are),
        subst (λ (u : ℕ). GoesOnFrom process u was m is s e) (sym same) goes,
      ))
      (λ (below : t < n).
      let g = before.each t below in (
        g.0,
        g.1,
        g.2,
        g.3,
        g.4,
        g.5,
        g.6,
        g.7,
        get_left next (is ∷ []) t g.3 g.8,
        get_left first (s ∷ []) t g.4 g.9,
        g.10,
        get_left ended (e ∷ []) t g.10 g.11,
        g.12,
      ))
      (Rattle.std.proofs.Math.Nat.eq-or-lt_of_le (let h : t ≤ n = omega (arith, low) in h));
}

-- WHO STANDS THERE AT FIRST

-- a machine is new, or it is the one that was left, at its open sync
pub stands_first : (process : Proc) (t : ℕ) (was : Life × ℕ) (m : Option Thread) (is : Life × ℕ) (s : Option Suspended) (end : Option Thread) (x : Suspended) → GoesOnFrom process t was m is s end → s ≡ Some x
    → ((was.0 ≡ life.Unstarted) × StartsAs process t x.machine.value) ⊎ ((m ≡ Some x.machine.value) × IsOpen x.machine.value.phase)
stands_first process t (life.Unstarted, stamp) m is s end x goes e =
    inl (refl, subst (λ (y : Suspended). StartsAs process t y.machine.value) (same_Some goes.1.0 x (sym goes.1.1 ∙ e)) goes.1.2)
stands_first process t (life.Running, stamp) m is s end x goes e = ⊎_elim
    (λ on.
    let same = same_Some on.1.0 x (sym on.1.1 ∙ e) in
    inr (on.1.2 ∙ ap (λ (y : Suspended). Some y.machine.value) same, subst (λ (y : Suspended). IsOpen y.machine.value.phase) same on.1.3))
    (λ over. absurd (none-some x (sym over.1 ∙ e)))
    goes
stands_first process t (life.Ended, stamp) m is s end x goes e = absurd (none-some x (sym goes.1 ∙ e))

-- who has not ended has one
someone : (process : Proc) (t : ℕ) (was : Life × ℕ) (m : Option Thread) (is : Life × ℕ) (s : Option Suspended) (end : Option Thread) → GoesOnFrom process t was m is s end → is.0 ≢ life.Ended → (x : Suspended) × (s ≡ Some x)
someone process t (life.Unstarted, stamp) m is s end goes alive = (goes.1.0, goes.1.1)
someone process t (life.Running, stamp) m is s end goes alive = ⊎_elim (λ on. (on.1.0, on.1.1)) (λ over. absurd (alive (ap (λ (x : Life × ℕ). x.0) over.0))) goes
someone process t (life.Ended, stamp) m is s end goes alive = absurd (alive (ap (λ (x : Life × ℕ). x.0) goes.0))

-- and who waits did so before
pub waited : (process : Proc) (t : ℕ) (was : Life × ℕ) (m : Option Thread) (is : Life × ℕ) (s : Option Suspended) (end : Option Thread) → GoesOnFrom process t was m is s end → is.0 ≡ life.Unstarted → was.0 ≡ life.Unstarted
waited process t (life.Unstarted, stamp) m is s end goes e = refl
waited process t (life.Running, stamp) m is s end goes e = ⊎_elim
    (λ on. let bad : life.Running ≡ life.Unstarted = sym (ap (λ (x : Life × ℕ). x.0) on.0) ∙ e in cc)
    (λ over. let bad : life.Ended ≡ life.Unstarted = sym (ap (λ (x : Life × ℕ). x.0) over.0) ∙ e in cc)
    goes
waited process t (life.Ended, stamp) m is s end goes e = let bad : life.Ended ≡ life.Unstarted = sym (ap (λ (x : Life × ℕ). x.0) goes.0) ∙ e in cc

unstarted_course : (c : Course) → life.Unstarted ≡ life_of c → c ≡ course.Unstarted
unstarted_course course.Unstarted e = refl
unstarted_course (course.Running start) e = let bad : life.Unstarted ≡ life.Running = e in cc
unstarted_course (course.Ended start sync) e = let bad : life.Unstarted ≡ life.Ended = e in cc

waits_or_not : (x : Life) → (x ≡ life.Unstarted) ⊎ (x ≢ life.Unstarted)
waits_or_not life.Unstarted = inl refl
waits_or_not life.Running = inr (λ e. let bad : life.Running ≡ life.Unstarted = e in cc)
waits_or_not life.Ended = inr (λ e. let bad : life.Ended ≡ life.Unstarted = e in cc)

-- WHAT BECAME OF A NACK

-- a nack that is settled in an opening has a place there
settled_place : (o : Opening) (n : NackName) (stamp : ℕ) → WasSettled o n stamp → slice_get o.nacks (n.thread * 64 + n.k) ≡ Some (state_in o n)
settled_place o n stamp was = ⊎_elim
    (λ (h : n.thread * 64 + n.k < length o.nacks). slice_get-get_or o.nacks (n.thread * 64 + n.k) nack.Unbound h)
    (λ (h : length o.nacks ≤ n.thread * 64 + n.k). absurd (none-some stamp (sym (ap (λ (s : NackState). carried_by (word_for s)) (get_or_past o.nacks (n.thread * 64 + n.k) nack.Unbound h)) ∙ was)))
    (cases_lt (n.thread * 64 + n.k) (length o.nacks))

-- it was carried, or the row to which it is bound is in a commit
abbrev IsSettledIn : Ledger → NackName → Type 0
IsSettledIn l n = ((stamp : ℕ) × (carried_in l n ≡ Some stamp)) ⊎ ((b : Binding) × (binding_in l n ≡ Some b) × ((c : Commit) × (chosen : ℕ) × HasCommit l c × Takes c (bound_row n b) chosen))

told_settled : (l : Ledger) (n : NackName) (state : NackState) (stamp : ℕ) → TellsNack l n state → carried_by (word_for state) ≡ Some stamp → IsSettledIn l n
told_settled l n nack.Unbound stamp tells e = absurd (none-some stamp e)
told_settled l n nack.Unsettled stamp tells e = absurd (none-some stamp e)
told_settled l n nack.Dead stamp tells e = ⊎_elim (λ carried. inl (0, carried)) (λ dead. inr (dead.binding, dead.is_bound, (dead.commit, dead.chosen, dead.inside, dead.takes))) tells
told_settled l n (nack.Enabled at) stamp tells e = ⊎_elim (λ carried. inl (at, carried)) (λ x. inr (x.0.binding, x.0.is_bound, (x.0.commit, x.0.chosen, x.0.inside, x.0.takes))) tells.1

-- who takes an offer makes it
pub takes_offered : (l : Ledger) (c : Commit) (r : Row) (n : ℕ) → IsLawful l → HasCommit l c → Takes c r n → (o : Offer) × (offer_in l r n ≡ Some o)
takes_offered l (Pair sender receiver chan msg stamp) r n lawful has takes =
    let fits = lawful.fits (Pair sender receiver chan msg stamp) has in
    ⊎_elim
    (λ (e : sender ≡ (r, n)). (fits.1.0, ap (λ (x : Row × ℕ). offer_in l x.0 x.1) (sym e) ∙ fits.1.1))
    (λ (e : receiver ≡ (r, n)). (fits.2.0, ap (λ (x : Row × ℕ). offer_in l x.0 x.1) (sym e) ∙ fits.2.1))
    takes
takes_offered l (Alone at (cause.Always m) stamp) r n lawful has takes =
    let fits = lawful.fits (Alone at (cause.Always m) stamp) has in
    (fits.0, ap (λ (x : Row × ℕ). offer_in l x.0 x.1) (sym takes) ∙ fits.1)
takes_offered l (Alone at (cause.Nack k) stamp) r n lawful has takes =
    let fits = lawful.fits (Alone at (cause.Nack k) stamp) has in
    (fits.0.0, ap (λ (x : Row × ℕ). offer_in l x.0 x.1) (sym takes) ∙ fits.0.1)
takes_offered l (Alone at (cause.End p) stamp) r n lawful has takes =
    let fits = lawful.fits (Alone at (cause.End p) stamp) has in
    (fits.0.0, ap (λ (x : Row × ℕ). offer_in l x.0 x.1) (sym takes) ∙ fits.0.1)

-- RESULTS

taken_there : (n : ℕ) (rs : List Result) (g : ℕ) (r : Result) → slice_get (take n rs) g ≡ Some r → slice_get rs g ≡ Some r
taken_there zero rs g r e = absurd (none-some r e)
taken_there (suc n) [] g r e = absurd (none-some r e)
taken_there (suc n) (x ∷ rs) zero r e = e
taken_there (suc n) (x ∷ rs) (suc g) r e = taken_there n rs g r e

-- the first so many results of a thread are those of a shorter list
first_results : (l : Ledger) (t : ℕ) (few many : List Result) → IsLawful l → length few ≤ length many → AreResults l t few → AreResults l t many → few ≡ take (length few) many
first_results l t few many lawful low one all =
    one-results l t few (take (length few) many) lawful (sym (length-take-le (length few) many low)) one (λ g r e. all g r (taken_there (length few) many g r e))

scope_longer : (ps : List Proc) (t k g : ℕ) (from more : List Chosen) → HasScopeAt ps t from k g → HasScopeAt ps t (from ++ more) k g
scope_longer ps t k g from more there =
    let within = there.within in
    let size = length-append from more in
    record {
      within = omega (arith, within, size);
      event = there.event;
      offered = subst (λ (rs : List Chosen). IsOffering ps t rs there.event) (sym (take-append-le g from more within)) there.offered;
      scope = there.scope;
    }

-- ONE SEASON AND THE NEXT
module _ (old : GridOf Suspended) (table : IsTable old) (threads : old.threads ≡ length table.processes) (waiting : NoneSettledWaits (opening_at old)) (l : Ledger) (over : IsLedgerOver old l)
    (had : List ℕ) (counts : AreHad old.first had) (machines : List (Option Thread)) (left : AreLeftBy old.first l machines)
    (all : (c : Commit) → HasCommit l c → HasResults had machines c)
    (o : Opening) (tells : TellsEnd l o.threads o.nacks) (lives : List (Life × ℕ)) (first : List (Option Suspended)) (ended : List (Option Thread))
    (goes : GoOnBelow table.processes o.threads machines (length table.processes) lives first ended) where
  -- where the next one begins
  abbrev next : Opening
  next = record { threads = lives; nacks = o.nacks }

  -- of a thread that waits no nack is settled
  never_waits : (n : NackName) → n.k < 64 → n.thread < length table.processes → course_in l n.thread ≡ course.Unstarted → IsSettledIn l n → ⊥
  never_waits n low within waits (inl was) =
      let old_life = thread_in (opening_at old) n.thread in
      let settled : WasSettled (opening_at old) n was.0 = sym (over.carried n (omega (arith, within, threads), low)) ∙ was.1 in
      ⊎_elim
      (λ (e : old_life.0 ≡ life.Unstarted). waiting n was.0 low e settled)
      (λ (ne : old_life.0 ≢ life.Unstarted). subst (λ (c : Course). HasStart c old_life.1) waits (over.before n.thread old_life.1 (ne, refl)))
      (waits_or_not old_life.0)
  never_waits n low within waits (inr bound) =
      subst (λ (c : Course). LivesAt c bound.0.sync) waits (over.lawful.lived bound.2.0 (bound_row n bound.0) bound.2.2 (bound.2.1, bound.2.3))

  -- of a thread that goes on it belongs to a sync that the thread made
  module _ (t : ℕ) (m : Thread) (is : slice_get machines t ≡ Some (Some m)) where
    stands : StandsOver old.first l t m
    stands = left.1 t m is

    abbrev from : List Chosen
    from = stands.machine.start.machine.value.results

    whole : m.results ≡ from ++ stands.results
    whole = ap (λ (x : Thread). x.results) (sym stands.value) ∙ stands.machine.given

    made : (n : NackName) → n.k < 64 → n.thread ≡ t → t < length table.processes → IsSettledIn l n → (g : ℕ) × (g < length m.results) × HasScopeAt table.processes t m.results n.k g
    made n low e within (inl was) =
        let settled : WasSettled (opening_at old) n was.0 = sym (over.carried n (omega (arith, within, threads, e), low)) ∙ was.1 in
        let earlier = table.settled n was.0 stands.machine.start low settled (ap (slice_get old.first) e ∙ stands.machine.is_first) in
        let results : length m.results ≡ length from + length stands.results = ap (λ (l : List Chosen). length l) whole ∙ length-append from stands.results in
        let below = earlier.1 in (
          earlier.0,
          omega (arith, below, results),
          subst (λ (rs : List Chosen). HasScopeAt table.processes t rs n.k earlier.0) (sym whole)
              (scope_longer table.processes t n.k earlier.0 from stands.results (subst (λ (u : ℕ). HasScopeAt table.processes u from n.k earlier.0) e earlier.2)),
        )
    made n low e within (inr bound) =
        let b = bound.0 in
        let row = bound_row n b in
        let o = takes_offered l bound.2.0 row bound.2.1 over.lawful bound.2.2 bound.2.3 in
        let s = over.acts.offers row bound.2.1 o.0 o.1 in
        let had_it = all bound.2.0 bound.2.2 n.thread b.sync (bound.2.1, bound.2.3) in
        let same : had_it.0 ≡ m = same_Some had_it.0 m (same_Some (Some had_it.0) (Some m) (sym had_it.1 ∙ ap (slice_get machines) e ∙ is)) in
        let number : had_by had n.thread ≡ length from = ap (had_by had) e ∙ counts t stands.machine.start stands.machine.is_first in
        let results : length m.results ≡ length from + length stands.results = ap (λ (l : List Chosen). length l) whole ∙ length-append from stands.results in
        let more : had_by had n.thread + b.sync < length m.results = subst (λ (x : Thread). had_by had n.thread + b.sync < length x.results) same had_it.2 in
        let count = s.count in
        let below : length s.results ≤ length stands.results = omega (arith, more, number, results, count) in
        let part : s.results ≡ take (length s.results) stands.results = first_results l t s.results stands.results over.lawful below (subst (λ (u : ℕ). AreResults l u s.results) e s.are) stands.are in
        let stood = s.standing.1.0 in
        let start : stood.start ≡ stands.machine.start =
        same_Some stood.start stands.machine.start (same_Some (Some stood.start) (Some stands.machine.start) (sym stood.is_first ∙ ap (slice_get old.first) e ∙ stands.machine.is_first)) in
        let begins : s.standing.0.machine.value.results ≡ take (length from + b.sync) m.results =
        stood.given
        ∙ (λ i. (start i).machine.value.results ++ part i)
        ∙ ap (λ (k : ℕ). from ++ take k stands.results) count
        ∙ sym (take-append-add from stands.results b.sync)
        ∙ ap (take (length from + b.sync)) (sym whole) in (
          length from + b.sync,
          omega (arith, more, number),
          subst (λ (u : ℕ). HasScopeAt table.processes u m.results n.k (length from + b.sync)) e
              (has_scope old table n.thread m.results s.results s.standing.0 s.offers s.nacks (length from + b.sync) b.scope n.k s.standing.1 begins (omega (arith, more, number)) (s.no_others b.scope n.k bound.1)),
        )

  -- what stands there at first, place by place
  at_first : (t : ℕ) (x : Suspended) → slice_get first t ≡ Some (Some x)
      → (p : Proc) × (t < length table.processes) × (slice_get table.processes t ≡ Some p) × (((course_in l t ≡ course.Unstarted) × StartsAs p t x.machine.value) ⊎ ((slice_get machines t ≡ Some (Some x.machine.value)) × IsOpen x.machine.value.phase))
  at_first t x e =
      let low = slice_get_within first t (Some x) e in
      let count = goes.machines_are in
      let within : t < length table.processes = omega (arith, low, count) in
      let g = goes.each t within in
      let was = g.1 in
      let stood = stands_first g.0 t was g.2 g.3 g.4 g.10 x g.12 (same_Some g.4 (Some x) (sym g.9 ∙ e)) in (
        g.0,
        within,
        g.5,
        ⊎_elim
            (λ new. inl (unstarted_course (course_in l t) (sym new.0 ∙ (tells.0.1 t was.0 was.1 g.6).0), new.1))
            (λ kept. inr (g.7 ∙ ap Some kept.0, kept.1))
            stood,
      )

  pub next_first : AreFirst table.processes first
  next_first = (
    goes.machines_are,
    λ t x e.
        let a = at_first t x e in (
          a.0,
          a.2,
          ⊎_elim
              (λ new. inl new.1)
              (λ kept.
              let s = left.1 t x.machine.value kept.0 in
              let p = process_of table.processes old.first t s.suspended s.results table.first s.machine in
              let same : p.0 ≡ a.0 = same_Some p.0 a.0 (sym p.1 ∙ a.2) in
              inr (subst (λ (z : Proc × Thread). IsAtSync z.0 t z.1) (λ i. (same i, s.value i)) (record {
                limits = p.2.limits;
                place = p.2.place;
                body = p.2.body;
                variables = p.2.variables;
                thread = p.2.thread;
                is_open = subst (λ (m : Thread). IsOpen m.phase) (sym s.value) kept.1;
                after = s.machine.after;
                in_range = s.machine.in_range;
                told = s.machine.told;
              })))
              a.3,
        ),
  )

  pub next_machines : AreMachines next first
  next_machines =
      let places = goes.machines_are in
      let count = goes.lives_are in
      inr (
        places ∙ sym count,
        λ t low alive.
            let g = goes.each t (omega (arith, low, count)) in
            let is : thread_in next t ≡ g.3 = get_or_from_slice_get lives t g.3 (life.Unstarted, 0) g.8 in
            let x = someone g.0 t g.1 g.2 g.3 g.4 g.10 g.12 (λ e. alive (ap (λ (y : Life × ℕ). y.0) is ∙ e)) in
            (x.0, g.9 ∙ ap Some x.1),
      )

  pub next_settled : (n : NackName) (stamp : ℕ) (start : Suspended) → n.k < 64 → WasSettled next n stamp → slice_get first n.thread ≡ Some (Some start)
      → (g : ℕ) × (g < length start.machine.value.results) × HasScopeAt table.processes n.thread start.machine.value.results n.k g
  next_settled n stamp start low was is =
      let a = at_first n.thread start is in
      let settled = told_settled l n (state_in o n) stamp (tells.1.1 n (state_in o n) low (settled_place o n stamp was)) was in
      ⊎_elim
      (λ new. absurd (never_waits n low a.1 new.0 settled))
      (λ kept. made n.thread start.machine.value kept.0 n low refl a.1 settled)
      a.3

  pub next_waiting : NoneSettledWaits next
  next_waiting n stamp low waits was =
      let place = slice_get_within o.nacks (n.thread * 64 + n.k) (state_in o n) (settled_place o n stamp was) in
      let count = tells.1.0 in
      let within : n.thread < length table.processes = (let size = over.size in omega (arith, place, count, size, threads)) in
      let g = goes.each n.thread within in
      let is : thread_in next n.thread ≡ g.3 = get_or_from_slice_get lives n.thread g.3 (life.Unstarted, 0) g.8 in
      let waited_so : g.1.0 ≡ life.Unstarted = waited g.0 n.thread g.1 g.2 g.3 g.4 g.10 g.12 (sym (ap (λ (y : Life × ℕ). y.0) is) ∙ waits) in
      never_waits n low within (unstarted_course (course_in l n.thread) (sym waited_so ∙ (tells.0.1 n.thread g.1.0 g.1.1 g.6).0)) (told_settled l n (state_in o n) stamp (tells.1.1 n (state_in o n) low (settled_place o n stamp was)) was)

-- SO A SEASON LEADS TO THE NEXT
pub record NextOf (ps : List Proc) (o : Opening) (first : List (Option Suspended)) : Type 0 where
  pub count : length o.threads ≡ length ps
  pub are : AreFirst ps first
  pub machines : AreMachines o first
  pub settled : (n : NackName) (stamp : ℕ) (start : Suspended) → n.k < 64 → WasSettled o n stamp → slice_get first n.thread ≡ Some (Some start) → (g : ℕ) × (g < length start.machine.value.results) × HasScopeAt ps n.thread start.machine.value.results n.k g
  pub waiting : NoneSettledWaits o

pub next_of : (ps : List Proc) (x : ClosedSeason) (closed : IsClosed ps x) (machines : List (Option Thread)) → AreLeftBy closed.cells.first x.ledger machines → ((d : Commit) → HasCommit x.ledger d → HasResults x.had.items machines d) → (lives : List (Life × ℕ)) (first : List (Option Suspended)) (ended : List (Option Thread))
    → GoOnBelow ps x.opening.threads.items machines (length ps) lives first ended → NextOf ps (record { threads = lives; nacks = x.opening.nacks.items }) first
next_of ps x closed machines left results lives first ended goes =
    let of = closed.of in
    let table = of.table in
    let o : Opening = record { threads = x.opening.threads.items; nacks = x.opening.nacks.items } in
    let same : table.processes ≡ ps = of.processes in
    let threads : closed.cells.threads ≡ length table.processes = of.threads ∙ ap (λ (qs : List Proc). length qs) (sym same) in
    let on : GoOnBelow table.processes o.threads machines (length table.processes) lives first ended = subst (λ (qs : List Proc). GoOnBelow qs o.threads machines (length qs) lives first ended) (sym same) goes in
    subst (λ (qs : List Proc). NextOf qs (record { threads = lives; nacks = o.nacks }) first) same (record {
      count = on.lives_are;
      are = next_first closed.cells table threads of.waiting x.ledger closed.over x.had.items closed.had machines left results o closed.tells lives first ended on;
      machines = next_machines closed.cells table threads of.waiting x.ledger closed.over x.had.items closed.had machines left results o closed.tells lives first ended on;
      settled = next_settled closed.cells table threads of.waiting x.ledger closed.over x.had.items closed.had machines left results o closed.tells lives first ended on;
      waiting = next_waiting closed.cells table threads of.waiting x.ledger closed.over x.had.items closed.had machines left results o closed.tells lives first ended on;
    })

-- whose table is one of machines again
pub table_of_next : (old cells : GridOf Suspended) (ps : List Proc) (o : Opening) (first : List (Option Suspended)) → IsTableOf ps old → NextOf ps o first → AllOfferAtMost cells.layout.offers ps → SyncsHaveWords cells → cells.first ≡ first → opening_at cells ≡ o → (1 ≤ cells.rows) × (cells.rows ≤ 1024) → cells.threads ≡ length o.threads
    → length o.nacks ≡ cells.threads * 64 → IsTableOf ps cells
table_of_next old cells ps o first of next narrow words is begins rows threads states = record {
  table = record {
    rows = rows;
    processes = ps;
    some = subst (λ (qs : List Proc). 1 ≤ length qs) of.processes of.table.some;
    few = subst (λ (qs : List Proc). length qs ≤ 64) of.processes of.table.few;
    first = subst (AreFirst ps) (sym is) next.are;
    placed = subst IsPlaced of.processes of.table.placed;
    once = subst AreSpawnedOnce of.processes of.table.once;
    narrow = narrow;
    words = words;
    settled = λ n stamp start low was there. next.settled n stamp start low (subst (λ (x : Opening). WasSettled x n stamp) begins was) (ap (λ (l : List (Option Suspended)). slice_get l n.thread) (sym is) ∙ there);
  };
  processes = refl;
  threads = threads ∙ next.count;
  lives = ap (λ (x : Opening). length x.threads) begins ∙ sym threads;
  states = ap (λ (x : Opening). length x.nacks) begins ∙ states;
  waiting = subst NoneSettledWaits (sym begins) next.waiting;
}

-- A FIRST SEASON begins with new machines, of which none was given anything
none_had : (n t : ℕ) → ◌≡◌ {A = ℕ} (get_or (replicate n 0) t 0) 0
none_had zero t = refl
none_had (suc n) zero = refl
none_had (suc n) (suc t) = none_had n t

pub new_had : (ps : List Proc) (first : List (Option Suspended)) (n : ℕ) → AreNew ps first → AreHad first (replicate n 0)
new_had ps first n new t start e = none_had n t ∙ sym (ap (λ (l : List Chosen). length l) (new.1 t start e).2.results)

-- THE COMMITS of a list, by their places
pub contains_at : (cs : List Commit) (k : ℕ) (c : Commit) → slice_get cs k ≡ Some c → Contains cs c
contains_at cs k c e = (k, slice_get_within cs k c e, get_or_from_slice_get cs k c c e)

pub place_of_commit : (cs : List Commit) (c : Commit) → Contains cs c → (k : ℕ) × (slice_get cs k ≡ Some c)
place_of_commit cs c (k, low, e) = (k, slice_get-get_or cs k c low ∙ ap Some e)
