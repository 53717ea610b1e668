-- Machines that catch up with the results of their table stand over it still.
use Rattle.std.proofs.Common.{◌≡◌, ◌⊎◌, ℕ, ◌+◌, ◌<◌, ◌≤◌, List, [], ◌∷◌, ◌++◌, length, Option, Some, slice_get, refl, sym, ap, ◌∙◌, subst, inl, inr, arith, ⊎_elim}
use Rattle.std.proofs.lemmas.Bool.{cases_eq}
use Rattle.std.proofs.lemmas.List.{length-append, length-set}
use Rattle.std.proofs.lemmas.Option.{same_Some, slice_get_within}
use Rattle.protocol_values.specs.declared.Base.{Base}
use Rattle.protocol_values.specs.declared.Base.TheVariants.{Always, Send}
use Rattle.protocol_values.specs.declared.Cause.{Cause}
use Rattle.protocol_values.specs.declared.Cause.TheVariants as cause
use Rattle.protocol_values.specs.declared.Commit.{Commit}
use Rattle.protocol_values.specs.declared.Commit.TheVariants.{Pair, Alone}
use Rattle.protocol_values.specs.declared.Message.{Message}
use Rattle.protocol_values.specs.declared.Message.TheVariants.{Empty}
use Rattle.protocol_values.specs.declared.Row.{Row}
use Rattle.script_tree.specs.Processes.{Proc}
use Rattle.script_tree.specs.declared.tree.Block.{Block as Tree}
use Rattle.journal.specs.Concluding.{RunTrees}
use Rattle.thread.specs.After.{Chosen}
use Rattle.thread.specs.Machines.{HasStopped, Thread}
use Rattle.thread.specs.Ranges.{BaseIsIn, MessageIsIn}
use Rattle.protocol_ledger.specs.Acting.{ActsAs, Before, acts_in}
use Rattle.protocol_ledger.specs.Ledgers.{HasCommit, IsLawful, Ledger, Offers, offer_in}
use Rattle.protocol_ledger.specs.Standing.{Result}
use Rattle.protocol_values.specs.Commits.{Gives}
use Rattle.protocol_ledger.proofs.Closing.{each_pushed}
use Rattle.cell.proofs.Lists.{all_one}
use Rattle.journal_replay.specs.Runs.{message_by}
use Rattle.runtime_worker.specs.declared.resident.Suspended.{Suspended}
use Rattle.runtime_worker.specs.Machines.{AreFirst, doings}
use Rattle.runtime_worker.proofs.Processes.{process_of}
use Rattle.runtime_worker.proofs.Ranging.{base_in_range}
use Rattle.runtime_worker.proofs.Spawns.{resumed_is}
use Rattle.runtime_run.specs.Machines.{AreLeftBy, StandsOver}
use Rattle.runtime.specs.Between.{AreHad, CatchesUp, CatchesUpAt, CatchesUpWith, GiveInRange, GoesOnBy, HasResults, had_by}
use Rattle.runtime_run.proofs.Resting.{get_set_other, get_set_same}

-- ONE MACHINE

no_fewer : (had g : ℕ) (chosen : Chosen) (old new : Thread) → CatchesUp had g chosen old new → length old.results ≤ length new.results
no_fewer had g chosen old new c = ⊎_elim
    (λ (same : new ≡ old). let e : length new.results ≡ length old.results = ap (λ (m : Thread). length m.results) same in omega (arith, e))
    (λ (on : (had + g ≡ length old.results) × GoesOnBy chosen old new).
    let e : length new.results ≡ length old.results + 1 = ap (λ (l : List Chosen). length l) on.1.results ∙ length-append old.results (chosen ∷ []) in
    omega (arith, e))
    c.1

has_stopped : (had g : ℕ) (chosen : Chosen) (old new : Thread) → HasStopped old.phase → CatchesUp had g chosen old new → HasStopped new.phase
has_stopped had g chosen old new stopped c = ⊎_elim
    (λ (same : new ≡ old). subst (λ (m : Thread). HasStopped m.phase) (sym same) stopped)
    (λ (on : (had + g ≡ length old.results) × GoesOnBy chosen old new). on.1.stopped)
    c.1

same_tree : (had g : ℕ) (chosen : Chosen) (old new : Thread) → CatchesUp had g chosen old new → new.body ≡ old.body
same_tree had g chosen old new c = ⊎_elim
    (λ (same : new ≡ old). ap (λ (m : Thread). m.body) same)
    (λ (on : (had + g ≡ length old.results) × GoesOnBy chosen old new). on.1.process.body)
    c.1

-- THE MACHINE AT ONE PLACE
module _ (had : List ℕ) (at : Row × ℕ) (message : Message) (old new : List (Option Thread)) (c : CatchesUpAt had at message old new) where
  within : at.0.thread < length old
  within = slice_get_within old at.0.thread (Some c.before) c.was

  here : slice_get new at.0.thread ≡ Some (Some c.behind)
  here = ap (λ (l : List (Option Thread)). slice_get l at.0.thread) c.is ∙ get_set_same old at.0.thread (Some c.behind) within

  -- what lies at a place is the machine that caught up, or what lay there before
  place_cases : (t : ℕ) (m : Thread) → slice_get new t ≡ Some (Some m) → ((t ≡ at.0.thread) × (m ≡ c.behind)) ⊎ (slice_get old t ≡ Some (Some m))
  place_cases t m e = ⊎_elim
      (λ (same : t ≡ at.0.thread). inl (same, same_Some m c.behind (same_Some (Some m) (Some c.behind) (sym e ∙ ap (slice_get new) same ∙ here))))
      (λ (other : t ≡ at.0.thread → ⊥). inr (sym (ap (λ (l : List (Option Thread)). slice_get l t) c.is ∙ get_set_other old at.0.thread t (Some c.behind) other) ∙ e))
      (cases_eq t at.0.thread)

  -- a machine that lay there has no fewer results
  still_there : (t : ℕ) (m : Thread) → slice_get old t ≡ Some (Some m) → (n : Thread) × (slice_get new t ≡ Some (Some n)) × (length m.results ≤ length n.results)
  still_there t m e = ⊎_elim
      (λ (same : t ≡ at.0.thread).
      let is : m ≡ c.before = same_Some m c.before (same_Some (Some m) (Some c.before) (sym e ∙ ap (slice_get old) same ∙ c.was)) in
      let more = no_fewer (had_by had at.0.thread) at.0.sync (at.1, message) c.before c.behind c.catches in
      (c.behind, ap (slice_get new) same ∙ here, (let count : length m.results ≡ length c.before.results = ap (λ (x : Thread). length x.results) is in omega (arith, more, count))))
      (λ (other : t ≡ at.0.thread → ⊥). (m, ap (λ (l : List (Option Thread)). slice_get l t) c.is ∙ get_set_other old at.0.thread t (Some c.behind) other ∙ e, omega arith))
      (cases_eq t at.0.thread)

  pub trees_at : (trees : List Tree) → RunTrees trees old → RunTrees trees new
  trees_at trees run t m e = ⊎_elim
      (λ (own : (t ≡ at.0.thread) × (m ≡ c.behind)).
      ap (slice_get trees) own.0 ∙ run at.0.thread c.before c.was ∙ ap (λ (b : Tree). Some b) (sym (same_tree (had_by had at.0.thread) at.0.sync (at.1, message) c.before c.behind c.catches))
      ∙ ap (λ (x : Thread). Some x.body) (sym own.1))
      (λ (before : slice_get old t ≡ Some (Some m)). run t m before)
      (place_cases t m e)

  pub stopped_at : ((t : ℕ) (m : Thread) → slice_get old t ≡ Some (Some m) → HasStopped m.phase) → (t : ℕ) (m : Thread) → slice_get new t ≡ Some (Some m) → HasStopped m.phase
  stopped_at all t m e = ⊎_elim
      (λ (own : (t ≡ at.0.thread) × (m ≡ c.behind)).
      subst (λ (x : Thread). HasStopped x.phase) (sym own.1) (has_stopped (had_by had at.0.thread) at.0.sync (at.1, message) c.before c.behind (all at.0.thread c.before c.was) c.catches))
      (λ (before : slice_get old t ≡ Some (Some m)). all t m before)
      (place_cases t m e)

  has_row : (g : ℕ) → g ≡ at.0.sync → (m : Thread) × (slice_get new at.0.thread ≡ Some (Some m)) × (had_by had at.0.thread + g < length m.results)
  has_row g e = (c.behind, here, (let has = c.catches.0 in omega (arith, has, e)))

  kept_at : (d : Commit) → HasResults had old d → HasResults had new d
  kept_at d has t g v =
      let h = has t g v in
      let s = still_there t h.0 h.1 in
      let count = h.2 in
      let more = s.2 in
      (s.0, s.1, omega (arith, count, more))

pub stopped_with : (had : List ℕ) (c : Commit) (old new : List (Option Thread)) → CatchesUpWith had c old new → ((t : ℕ) (m : Thread) → slice_get old t ≡ Some (Some m) → HasStopped m.phase) → (t : ℕ) (m : Thread) → slice_get new t ≡ Some (Some m)
    → HasStopped m.phase
stopped_with had (Pair sender receiver chan msg stamp) old new c all = stopped_at had receiver msg c.0 new c.2 (stopped_at had sender Empty old c.0 c.1 all)
stopped_with had (Alone at why stamp) old new c all = stopped_at had at (message_by why) old new c all

pub trees_with : (had : List ℕ) (c : Commit) (old new : List (Option Thread)) → CatchesUpWith had c old new → (trees : List Tree) → RunTrees trees old → RunTrees trees new
trees_with had (Pair sender receiver chan msg stamp) old new c trees run = trees_at had receiver msg c.0 new c.2 trees (trees_at had sender Empty old c.0 c.1 trees run)
trees_with had (Alone at why stamp) old new c trees run = trees_at had at (message_by why) old new c trees run

pub kept_with : (had : List ℕ) (c : Commit) (old new : List (Option Thread)) → CatchesUpWith had c old new → (d : Commit) → HasResults had old d → HasResults had new d
kept_with had (Pair sender receiver chan msg stamp) old new c d has = kept_at had receiver msg c.0 new c.2 d (kept_at had sender Empty old c.0 c.1 d has)
kept_with had (Alone at why stamp) old new c d has = kept_at had at (message_by why) old new c d has

-- each row of the commit that the machines caught up with has its result
pub has_with : (had : List ℕ) (c : Commit) (old new : List (Option Thread)) → CatchesUpWith had c old new → HasResults had new c
has_with had (Pair sender receiver chan msg stamp) old new c t g v = ⊎_elim
    (λ (e : sender ≡ (record { thread = t; sync = g }, v.0)).
    let row : sender.0 ≡ record { thread = t; sync = g } = ap (λ (x : Row × ℕ). x.0) e in
    let h = has_row had sender Empty old c.0 c.1 sender.0.sync refl in
    let s = still_there had receiver msg c.0 new c.2 sender.0.thread h.0 h.1 in
    let count = h.2 in
    let more = s.2 in
    subst (λ (r : Row). (m : Thread) × (slice_get new r.thread ≡ Some (Some m)) × (had_by had r.thread + r.sync < length m.results)) row (s.0, s.1, omega (arith, count, more)))
    (λ (e : receiver ≡ (record { thread = t; sync = g }, v.0)).
    let row : receiver.0 ≡ record { thread = t; sync = g } = ap (λ (x : Row × ℕ). x.0) e in
    subst (λ (r : Row). (m : Thread) × (slice_get new r.thread ≡ Some (Some m)) × (had_by had r.thread + r.sync < length m.results)) row (has_row had receiver msg c.0 new c.2 receiver.0.sync refl))
    v.1
has_with had (Alone at why stamp) old new c t g v =
    let row : at.0 ≡ record { thread = t; sync = g } = ap (λ (x : Row × ℕ). x.0) v.1 in
    subst (λ (r : Row). (m : Thread) × (slice_get new r.thread ≡ Some (Some m)) × (had_by had r.thread + r.sync < length m.results)) row (has_row had at (message_by why) old new c at.0.sync refl)

-- what a commit that stands alone gives
gives_alone : (at : Row × ℕ) (why : Cause) (stamp : ℕ) → Gives (Alone at why stamp) at.0 (at.1, message_by why)
gives_alone at (cause.Always m) stamp = (refl, refl)
gives_alone at (cause.Nack n) stamp = (refl, refl)
gives_alone at (cause.End p) stamp = (refl, refl)

-- OVER A TABLE
module _ (ps : List Proc) (first : List (Option Suspended)) (l : Ledger) (had : List ℕ) (are : AreFirst ps first) (counts : AreHad first had) (ranges : GiveInRange l) where
  -- a machine that went on by the result of its thread's next row
  went_on : (t g : ℕ) (chosen : Chosen) (old new : Thread) (c : Commit) (s : StandsOver first l t old) → had_by had t + g ≡ length old.results → GoesOnBy chosen s.suspended.machine.value new → HasCommit l c → Gives c (record { thread = t; sync = g }) chosen
      → StandsOver first l t new
  went_on t g chosen old new c s next on has gives =
      let begun = counts t s.machine.start s.machine.is_first in
      let count : length old.results ≡ length s.machine.start.machine.value.results + length s.results =
      ap (λ (m : Thread). length m.results) (sym s.value) ∙ ap (λ (rs : List Chosen). length rs) s.machine.given ∙ length-append s.machine.start.machine.value.results s.results in
      let number : g ≡ length s.results = omega (arith, begun, count, next) in
      let thread : new.thread ≡ t = on.process.thread ∙ (process_of ps first t s.suspended s.results are s.machine).2.thread in
      record {
        suspended = record { machine = record s.suspended.machine { value = new } };
        value = refl;
        results = s.results ++ chosen ∷ [];
        machine =
            resumed_is first s.suspended (record { machine = record s.suspended.machine { value = new } }) t s.results chosen s.machine on.process on.results on.spawned on.after on.stopped thread
            (all_one (λ (r : Chosen). MessageIsIn r.1) chosen (ranges c (record { thread = t; sync = g }) chosen has gives));
        stopped = on.stopped;
        are = each_pushed (λ (i : ℕ) (r : Result). (d : Commit) × HasCommit l d × Gives d (record { thread = t; sync = i }) r) s.results chosen s.are
            (c, has, subst (λ (i : ℕ). Gives c (record { thread = t; sync = i }) chosen) number gives);
      }

  caught_up : (t g : ℕ) (chosen : Chosen) (old new : Thread) (c : Commit) → StandsOver first l t old → CatchesUp (had_by had t) g chosen old new → HasCommit l c → Gives c (record { thread = t; sync = g }) chosen → StandsOver first l t new
  caught_up t g chosen old new c s catches has gives = ⊎_elim
      (λ (same : new ≡ old). subst (StandsOver first l t) (sym same) s)
      (λ (on : (had_by had t + g ≡ length old.results) × GoesOnBy chosen old new). went_on t g chosen old new c s on.0 (subst (λ (m : Thread). GoesOnBy chosen m new) (sym s.value) on.1) has gives)
      catches.1

  left_at : (at : Row × ℕ) (message : Message) (old new : List (Option Thread)) (c : Commit) → AreLeftBy first l old → CatchesUpAt had at message old new → HasCommit l c → Gives c at.0 (at.1, message) → AreLeftBy first l new
  left_at at message old new c left x has gives = (
    ap (λ (ms : List (Option Thread)). length ms) x.is ∙ length-set old at.0.thread (Some x.behind) ∙ left.0,
    λ t m e. ⊎_elim
        (λ (own : (t ≡ at.0.thread) × (m ≡ x.behind)).
        subst (λ (z : ℕ × Thread). StandsOver first l z.0 z.1) (λ i. (sym own.0 i, sym own.1 i))
        (caught_up at.0.thread at.0.sync (at.1, message) x.before x.behind c (left.1 at.0.thread x.before x.was) x.catches has gives))
        (λ (before : slice_get old t ≡ Some (Some m)). left.1 t m before)
        (place_cases had at message old new x t m e),
  )

  pub left_with : (c : Commit) (old new : List (Option Thread)) → AreLeftBy first l old → CatchesUpWith had c old new → HasCommit l c → AreLeftBy first l new
  left_with (Pair sender receiver chan msg stamp) old new left x has =
      left_at receiver msg x.0 new (Pair sender receiver chan msg stamp) (left_at sender Empty old x.0 (Pair sender receiver chan msg stamp) left x.1 has (inl (refl, refl))) x.2 has (inr (refl, refl))
  left_with (Alone at why stamp) old new left x has = left_at at (message_by why) old new (Alone at why stamp) left x has (gives_alone at why stamp)

-- THE COMMITS BELOW ONE NUMBER
abbrev pub CatchesUpBelow : List ℕ → List Commit → ℕ → List (Option Thread) → List (Option Thread) → Type 0
CatchesUpBelow had commits n old new =
    (ps : List Proc) (first : List (Option Suspended)) (l : Ledger) → AreFirst ps first → AreHad first had → GiveInRange l → ((k : ℕ) (c : Commit) → slice_get commits k ≡ Some c → HasCommit l c) → AreLeftBy first l old
    → AreLeftBy first l new × ((k : ℕ) (c : Commit) → k < n → slice_get commits k ≡ Some c → HasResults had new c)

pub caught_none : (had : List ℕ) (commits : List Commit) (old : List (Option Thread)) → CatchesUpBelow had commits 0 old old
caught_none had commits old ps first l are counts ranges all left = (left, λ k c below is. absurd (omega (arith, below)))

pub caught_more : (had : List ℕ) (commits : List Commit) (n : ℕ) (x : Commit) (from old new : List (Option Thread)) → slice_get commits n ≡ Some x → CatchesUpWith had x old new → CatchesUpBelow had commits n from old → CatchesUpBelow had commits (n + 1) from new
caught_more had commits n x from old new at catches before ps first l are counts ranges all left =
    let b = before ps first l are counts ranges all left in (
      left_with ps first l had are counts ranges x old new b.0 catches (all n x at),
      λ k c below is. ⊎_elim
          (λ (same : k ≡ n). subst (HasResults had new) (same_Some x c (sym at ∙ ap (slice_get commits) (sym same) ∙ is)) (has_with had x old new catches))
          (λ (less : k < n). kept_with had x old new catches c (b.1 k c less is))
          (Rattle.std.proofs.Math.Nat.eq-or-lt_of_le (let h : k ≤ n = omega (arith, below) in h)),
    )

-- WHAT COMMITS GIVE has room in words, since machines of processes offered it
module _ (ps : List Proc) (first : List (Option Suspended)) (before : Before) (l : Ledger) (are : AreFirst ps first) (few : length ps ≤ 64) (lawful : IsLawful l) (acts : ActsAs before (acts_in doings first) l) where
  offered_in_range : (at : Row × ℕ) (b : Base) → Offers (offer_in l) at b → BaseIsIn b
  offered_in_range at b o =
      let s = acts.offers at.0 at.1 o.0 o.1 in
      subst BaseIsIn o.2 (base_in_range ps first at.0.thread s.standing.0 s.results s.offers s.nacks are few s.standing.1 at.1 o.0 (s.offered at.1 o.0 o.1))

  pub give_in_range : GiveInRange l
  give_in_range (Pair sender receiver chan msg stamp) r chosen has gives = ⊎_elim
      (λ (e : (sender.0 ≡ r) × (chosen ≡ (sender.1, Empty))). subst (λ (x : Chosen). MessageIsIn x.1) (sym e.1) tt)
      (λ (e : (receiver.0 ≡ r) × (chosen ≡ (receiver.1, msg))). subst (λ (x : Chosen). MessageIsIn x.1) (sym e.1) (offered_in_range sender (Send chan msg) (lawful.fits (Pair sender receiver chan msg stamp) has).1))
      gives
  give_in_range (Alone at (cause.Always m) stamp) r chosen has gives = subst (λ (x : Chosen). MessageIsIn x.1) (sym gives.1) (offered_in_range at (Always m) (lawful.fits (Alone at (cause.Always m) stamp) has))
  give_in_range (Alone at (cause.Nack n) stamp) r chosen has gives = subst (λ (x : Chosen). MessageIsIn x.1) (sym gives.1) tt
  give_in_range (Alone at (cause.End p) stamp) r chosen has gives = subst (λ (x : Chosen). MessageIsIn x.1) (sym gives.1) tt
