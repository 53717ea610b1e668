-- What a worker does with a machine keeps what is known of it.
use Rattle.std.proofs.Common.{◌⊎◌, ◌≡◌, ◌<◌, ◌≤◌, ◌+◌, ℕ, zero, suc, Bool, true, false, ◌*◌, List, [], ◌∷◌, ◌++◌, length, map, replicate, take, Option, Some, get_or, slice_get, sym, refl, ap, ◌∙◌, subst, inl, inr, ⊎_elim, arith}
use Rattle.std.specs.Prelude.{IsFalse, ◌≢◌}
use Rattle.std.proofs.Math.Seq.{take-append-add, take-length}
use Rattle.std.proofs.lemmas.Bool.{cases_lt}
use Rattle.std.proofs.lemmas.List.{get_or-replicate, get_or_past, length-append, length-map, length-replicate, take-append-le}
use Rattle.std.proofs.lemmas.Option.{get_or_from_slice_get, none-some, same_Some, slice_get-get_or, slice_get_within}
use Rattle.event.specs.Tree.{scope_nacks}
use Rattle.atomic_table.specs.Table.{rest}
use Rattle.protocol_values.specs.declared.Binding.{Binding}
use Rattle.protocol_values.specs.declared.NackName.{NackName}
use Rattle.protocol_values.specs.declared.Offer.{Offer}
use Rattle.protocol_values.specs.declared.Row.{Row}
use Rattle.script_tree.specs.Processes.{Proc}
use Rattle.script_tree.specs.Spawning.{AreSpawnedOnce, IsPlaced}
use Rattle.thread.specs.After.{Chosen}
use Rattle.thread.specs.Machines.{Broken, IsOpen, Open, Over, Phase, Ready, StartsAs, Stuck, Tells, nacks_in, offers_in}
use Rattle.thread.specs.declared.machine.Turn.TheVariants as turn
use Rattle.protocol_ledger.specs.Standing.{binding_of}
use Rattle.protocol_ledger.specs.declared.opening.NackState.{NackState}
use Rattle.protocol_ledger.specs.declared.opening.NackState.TheVariants.{Unbound}
use Rattle.protocol_ledger.specs.Openings.{Opening, start_opening, state_in, word_for}
use Rattle.protocol_ledger.specs.Tables.{bound_row, carried_by}
use Rattle.protocol_ledger.specs.Worlds.{nack_of_row}
use Rattle.journal_replay.specs.Runs.{IsOffering}
use Rattle.journal_order.specs.Laws.{HasScopeAt}
use Rattle.journal_ledger.specs.Ledgers.{ProcessOffers}
use Rattle.journal_order.proofs.Nacks.{one-sync}
use Rattle.cell.specs.Attempts.{Bound, BoundBefore}
use Rattle.cell_table.specs.Told.{IsEarlier}
use Rattle.protocol_ledger.specs.declared.layout.Layout.{Layout}
use Rattle.protocol_ledger.specs.Short.{even, rows_of}
use Rattle.protocol_ledger.proofs.Short.{even_rows}
use Rattle.cell.specs.Calls.{GridOf, Holds, PassOf, opening_at}
use Rattle.cell_table.specs.declared.view.Seen.{Seen}
use Rattle.cell_table.specs.Rule.{IsReady}
use Rattle.cell_table.specs.Sight.{AreSettled, Has, IsDraft, Redrafts, WasSettled, see_bound}
use Rattle.runtime_worker.specs.declared.resident.Suspended.{Suspended}
use Rattle.runtime_worker.proofs.Processes.{new_first, offers_as}
use Rattle.thread.proofs.Rising.{after_rises, Rises, rises_below, rises_once}
use Rattle.runtime_worker.specs.Widths.{AllOfferAtMost}
use Rattle.runtime_worker.specs.Machines.{AreBound, AreFirst, AreNew, IsNow, IsTable, LeavesOthers, OnlyBinds, StandsFor, SyncsHaveWords, doings}

-- WHAT OTHER THREADS ARE LEFT WITH

pub leaves_then : (t : ℕ) (s u v : Seen) → LeavesOthers t s u → LeavesOthers t u v → LeavesOthers t s v
leaves_then t s u v f g r apart held h = let a = f r apart held h in g r apart a.0 a.1

pub leaves_bound : (r : Row) (k : ℕ) (b : Binding) (s : Seen) → LeavesOthers r.thread s (see_bound (nack_of_row r k) b s)
leaves_bound r k b s x apart held h = (
  held,
  (
    h.0,
    h.1,
    λ n c i. ⊎_elim
        (λ (e : (nack_of_row r k, b) ≡ (n, c)). λ at. apart (ap (λ (y : Row). y.thread) (sym at) ∙ ap (λ (z : NackName × Binding). z.0.thread) (sym e)))
        (λ (old : Has s.bound (n, c)). h.2 n c old)
        i,
    h.3,
  ),
)

-- BINDING

-- the nack of a scope, as it is read
pub at_scope : (ns items : List ℕ) (i : ℕ) → items ≡ ns → i < length items → slice_get ns i ≡ Some (get_or items i 0)
at_scope ns items i same within = ap (λ (l : List ℕ). slice_get l i) (sym same) ∙ slice_get-get_or items i 0 within

pub bound_more : (r : Row) (nacks : List ℕ) (count k : ℕ) (s t u : Seen) → AreBound r nacks count s t → slice_get nacks count ≡ Some k → u ≡ see_bound (nack_of_row r k) (record { sync = r.sync; scope = count }) t → AreBound r nacks (count + 1) s u
bound_more r nacks count k s t u before at is = record {
  bound = λ scope n below e. subst (λ (z : Seen). Has z.bound (nack_of_row r n, binding_of r scope)) (sym is) (there scope n below e);
  only = λ n b h. ⊎_elim
      (λ (e : (nack_of_row r k, record { sync = r.sync; scope = count }) ≡ (n, b)). inr (count, k, at, (omega arith), ap (λ (z : NackName × Binding). z.0) (sym e), ap (λ (z : NackName × Binding). z.1) (sym e)))
      (λ (old : Has t.bound (n, b)). further (before.only n b old))
      (subst (λ (z : Seen). Has z.bound (n, b)) is h);
}
  where
    further : {n : NackName} {b : Binding} → Has s.bound (n, b) ⊎ ((scope : ℕ) × (m : ℕ) × (slice_get nacks scope ≡ Some m) × (scope < count) × (n ≡ nack_of_row r m) × (b ≡ binding_of r scope))
        → Has s.bound (n, b) ⊎ ((scope : ℕ) × (m : ℕ) × (slice_get nacks scope ≡ Some m) × (scope < count + 1) × (n ≡ nack_of_row r m) × (b ≡ binding_of r scope))
    further (inl old) = inl old
    further (inr new) = inr (new.0, new.1, new.2, (let below = new.3 in omega (arith, below)), new.4, new.5)

    there : (scope n : ℕ) → scope < count + 1 → slice_get nacks scope ≡ Some n → Has (see_bound (nack_of_row r k) (record { sync = r.sync; scope = count }) t).bound (nack_of_row r n, binding_of r scope)
    there scope n below e = ⊎_elim
        (λ (same : scope ≡ count).
        let one : k ≡ n = same_Some k n (sym at ∙ ap (slice_get nacks) (sym same) ∙ e) in
        inl (λ i. (nack_of_row r (one i), binding_of r (sym same i))))
        (λ (lower : scope < count). inr (before.bound scope n lower e))
        (Rattle.std.proofs.Math.Nat.eq-or-lt_of_le (let h : scope ≤ count = omega arith in h))

-- and nothing else is bound to the row, where nothing was before
pub only_scopes : (r : Row) (nacks : List ℕ) (count : ℕ) (s t : Seen) → AreBound r nacks count s t → ((n : NackName) (b : Binding) → Has s.bound (n, b) → bound_row n b ≢ r)
    → (scope k : ℕ) → Has t.bound (nack_of_row r k, binding_of r scope) → slice_get nacks scope ≡ Some k
only_scopes r nacks count s t are free scope k h = ⊎_elim
    (λ (old : Has s.bound (nack_of_row r k, binding_of r scope)). absurd (free (nack_of_row r k) (binding_of r scope) old refl))
    (λ (new : (q : ℕ) × (n : ℕ) × (slice_get nacks q ≡ Some n) × (q < count) × (nack_of_row r k ≡ nack_of_row r n) × (binding_of r scope ≡ binding_of r q)).
    ap (slice_get nacks) (ap (λ (b : Binding). b.scope) new.5) ∙ new.2 ∙ ap Some (ap (λ (x : NackName). x.k) (sym new.4)))
    (are.only (nack_of_row r k) (binding_of r scope) h)

-- MACHINES

pub offers_of_open : (p : Phase) (os : List Offer) (ns : List ℕ) → p ≡ Open os ns → offers_in p ≡ os
offers_of_open p os ns e = ap offers_in e

-- a machine whose turn is an offering is at an open sync
pub open_phase : (p : Phase) → Tells turn.Offering p → p ≡ Open (offers_in p) (nacks_in p)
open_phase Ready h = absurd h
open_phase (Open os ns) h = refl
open_phase Over h = absurd h
open_phase (Stuck fault) h = absurd h
open_phase Broken h = absurd h

pub open_is : (p : Phase) → IsOpen p → p ≡ Open (offers_in p) (nacks_in p)
open_is Ready h = absurd h
open_is (Open os ns) h = refl
open_is Over h = absurd h
open_is (Stuck fault) h = absurd h
open_is Broken h = absurd h

-- FIRST MACHINES

-- one machine more, of the next process
pub first_more : (ps : List Proc) (first : List Suspended) (t : ℕ) (p : Proc) (m : Suspended)
    → (length first ≡ t) × ((i : ℕ) (n : Suspended) → slice_get first i ≡ Some n → (q : Proc) × (slice_get ps i ≡ Some q) × StartsAs q i n.machine.value)
    → slice_get ps t ≡ Some p → StartsAs p t m.machine.value
    → (length (first ++ m ∷ []) ≡ t + 1) × ((i : ℕ) (n : Suspended) → slice_get (first ++ m ∷ []) i ≡ Some n → (q : Proc) × (slice_get ps i ≡ Some q) × StartsAs q i n.machine.value)
first_more ps first t p m before at starts = (
  length-append first (m ∷ []) ∙ ap (λ (n : ℕ). n + 1) before.0,
  λ i n e. ⊎_elim
      (λ (old : slice_get first i ≡ Some n). before.1 i n old)
      (λ (new : (i ≡ length first) × (m ≡ n)). (p, ap (slice_get ps) (new.0 ∙ before.0) ∙ at, subst (λ (z : ℕ × Suspended). StartsAs p z.0 z.1.machine.value) (λ j. (sym (new.0 ∙ before.0) j, new.1 j)) starts))
      (get_end first m n i e),
)
  where
    get_end : (l : List Suspended) (a b : Suspended) (j : ℕ) → slice_get (l ++ a ∷ []) j ≡ Some b → (slice_get l j ≡ Some b) ⊎ ((j ≡ length l) × (a ≡ b))
    get_end [] a b zero e = inr (refl, same_Some a b e)
    get_end [] a b (suc j) e = absurd (none-some b e)
    get_end (x ∷ xs) a b zero e = inl e
    get_end (x ∷ xs) a b (suc j) e = ⊎_elim (λ h. inl h) (λ h. inr (ap suc h.0, h.1)) (get_end xs a b j e)

-- what came out last
pub holds_from : (p : PassOf Suspended) (r : Row) (value : Option Suspended) (c : List (ℕ × Option Suspended)) → p.out ≡ (r.thread, value) ∷ c → Holds p r value
holds_from p r value c e = e ∙ ap (λ (l : List (ℕ × Option Suspended)). (r.thread, value) ∷ l) (sym (ap rest e))

-- a list of machines as what lies in the slots at first
some_there : (xs : List Suspended) (t : ℕ) (m : Suspended) → slice_get (map Some xs) t ≡ Some (Some m) → slice_get xs t ≡ Some m
some_there [] t m e = absurd (none-some (Some m) e)
some_there (x ∷ xs) zero m e = same_Some (Some x) (Some m) e
some_there (x ∷ xs) (suc t) m e = some_there xs t m e

pub first_all : (ps : List Proc) (xs : List Suspended) → (length xs ≡ length ps) × ((i : ℕ) (n : Suspended) → slice_get xs i ≡ Some n → (q : Proc) × (slice_get ps i ≡ Some q) × StartsAs q i n.machine.value) → AreNew ps (map Some xs)
first_all ps xs are = (length-map xs Some ∙ are.0, λ t m e. are.1 t m (some_there xs t m e))

-- before a first table no nack was settled
pub none_settled : (threads later : ℕ) (n : NackName) (stamp : ℕ) → WasSettled (start_opening threads later) n stamp → ⊥
none_settled threads later n stamp was =
    let at : ℕ = n.thread * 64 + n.k in
    let is : state_in (start_opening threads later) n ≡ Unbound = ⊎_elim
    (λ (h : at < threads * 64). get_or-replicate (threads * 64) at Unbound Unbound h)
    (λ (h : threads * 64 ≤ at). get_or_past (replicate (threads * 64) Unbound) at Unbound (let size = length-replicate {A = NackState} (threads * 64) Unbound in omega arith))
    (cases_lt at (threads * 64)) in
    none-some stamp (sym (ap (λ (s : NackState). carried_by (word_for s)) is) ∙ was)

-- in a table whose threads have words for all rows each sync has
pub even_words : (cells : GridOf Suspended) (offers rows : ℕ) → cells.layout ≡ even offers rows → cells.rows ≡ rows → length cells.first ≤ 64 → SyncsHaveWords cells
even_words cells offers rows laid size few t m results os ns stands below =
    let its : t < length cells.first = slice_get_within cells.first t (Some stands.0.start) stands.0.is_first in
    let all : rows_of cells.layout t ≡ rows = ap (λ (y : Layout). rows_of y t) laid ∙ even_rows offers rows t (omega arith) in
    omega arith

-- so a table that begins with new machines is one
unfoldable pub table_of_first : (cells : GridOf Suspended) (ps : List Proc) (first : List (Option Suspended)) → cells.first ≡ first → AreNew ps first → 1 ≤ length ps → length ps ≤ 64 → IsPlaced ps → AreSpawnedOnce ps → AllOfferAtMost cells.layout.offers ps → SyncsHaveWords cells → (1 ≤ cells.rows) × (cells.rows ≤ 1024)
    → (threads later : ℕ) → opening_at cells ≡ start_opening threads later → IsTable cells
table_of_first cells ps first is are some few placed once narrow words rows threads later begins = record {
  rows = rows;
  processes = ps;
  some = some;
  few = few;
  first = subst (AreFirst ps) (sym is) (new_first ps first are);
  placed = placed;
  once = once;
  narrow = narrow;
  words = words;
  settled = λ n stamp start low was there. absurd (none_settled threads later n stamp (subst (λ (o : Opening). WasSettled o n stamp) begins was));
}

pub is_housing : (cells : GridOf Suspended) → IsTable cells → 0 < length cells.first
is_housing cells table = (let same = table.first.0 in let some = table.some in omega (arith, same, some))

-- a machine that has come to an open sync is ready to be parked once its nacks are bound and its offers drafted
pub ready : (first : List (Option Suspended)) (p q d : PassOf Suspended) (r : Row) (m : Suspended) → IsNow first p r m → m.machine.value.phase ≡ Open (offers_in m.machine.value.phase) (nacks_in m.machine.value.phase)
    → ((n : NackName) (b : Binding) → Has p.seen.bound (n, b) → bound_row n b ≢ r) → OnlyBinds p q → AreBound r (nacks_in m.machine.value.phase) (length (nacks_in m.machine.value.phase)) p.seen q.seen
    → Redrafts (λ x k. x ≡ r) q.seen d.seen → d.results ≡ q.results → IsDraft d.seen r (offers_in m.machine.value.phase) → IsReady doings first d.results d.seen r m
ready first p q d r m now open_now free only are redrafts results drafted = record {
  earlier = now.earlier;
  count = now.count;
  seen = subst (λ (l : List (ℕ × List Chosen)). (now.earlier ≡ []) ⊎ Has l (r.thread, now.earlier)) (sym (results ∙ only.results)) now.seen;
  offers = offers_in m.machine.value.phase;
  nacks = nacks_in m.machine.value.phase;
  standing = (now.machine, open_now);
  drafted = drafted;
  bound = λ scope k e. subst (λ (l : List (NackName × Binding)). Has l (nack_of_row r k, binding_of r scope)) (sym redrafts.bound) (are.bound scope k (slice_get_within (nacks_in m.machine.value.phase) scope k e) e);
  no_others = λ scope k h. only_scopes r (nacks_in m.machine.value.phase) (length (nacks_in m.machine.value.phase)) p.seen q.seen are free scope k
      (subst (λ (l : List (NackName × Binding)). Has l (nack_of_row r k, binding_of r scope)) redrafts.bound h);
  begun = λ zero. subst (λ (l : List Row). Has l r) (sym (redrafts.begun ∙ only.begun)) (now.begun zero);
}

-- NACKS ARE NEW. A machine that stands for the row's thread comes there to an event with such nacks of its scopes.
module _ (cells : GridOf Suspended) (table : IsTable cells) (t : ℕ) where
  offered : (results : List Chosen) (m : Suspended) (os : List Offer) (ns : List ℕ) → StandsFor cells.first m t results os ns → ProcessOffers table.processes t m.machine.value.results os ns
  offered results m os ns stands = offers_as table.processes cells.first t m results os ns table.first stands

  pub nacks_rise : (results : List Chosen) (m : Suspended) (os : List Offer) (ns : List ℕ) → StandsFor cells.first m t results os ns → Rises 0 64 ns
  nacks_rise results m os ns stands =
      let o = offered results m os ns stands in
      subst (Rises 0 64) o.scopes (after_rises o.offered.process.body (length o.offered.process.variables) t m.machine.value.results o.event o.offered.said o.offered.offers)

  -- of a thread whose first so many results are the machine's, that sync has the scope
  pub has_scope : (whole results : List Chosen) (m : Suspended) (os : List Offer) (ns : List ℕ) (g scope k : ℕ) → StandsFor cells.first m t results os ns → m.machine.value.results ≡ take g whole → g ≤ length whole → slice_get ns scope ≡ Some k
      → HasScopeAt table.processes t whole k g
  has_scope whole results m os ns g scope k stands begins within e =
      let o = offered results m os ns stands in
      let at : slice_get (scope_nacks o.event) scope ≡ Some k = ap (λ (l : List ℕ). slice_get l scope) o.scopes ∙ e in
      record {
        within = within;
        event = o.event;
        offered = subst (λ (rs : List Chosen). IsOffering table.processes t rs o.event) begins o.offered;
        scope = (scope, slice_get_within (scope_nacks o.event) scope k at, get_or_from_slice_get (scope_nacks o.event) scope k k at);
      }

  -- THE MACHINE that stands for the thread at an event with this nack: the nack is of no earlier sync
  module _ (earlier : List Chosen) (m : Suspended) (os : List Offer) (ns : List ℕ) (scope k : ℕ) (stands : StandsFor cells.first m t earlier os ns) (e : slice_get ns scope ≡ Some k) where
    abbrev whole : List Chosen
    whole = m.machine.value.results

    abbrev from : List Chosen
    from = stands.0.start.machine.value.results

    size : length whole ≡ length from + length earlier
    size = ap (λ (l : List Chosen). length l) stands.0.given ∙ length-append from earlier

    no_other : (g : ℕ) → HasScopeAt table.processes t whole k g → g < length whole → ⊥
    no_other g there below =
        let one : g ≡ length whole = one-sync table.processes t whole k g (length whole) there (has_scope whole earlier m os ns (length whole) scope k stands (sym (take-length whole)) (omega arith) e) in
        omega (arith, one, below)

    -- so no earlier row has it
    pub none_earlier : (all : List (ℕ × List Chosen)) (b : Binding) → (earlier ≡ []) ⊎ Has all (t, earlier) → b.sync < length earlier → IsEarlier doings cells.first all (record { thread = t; k = k }) b → ⊥
    none_earlier all b seen below before =
        let is = before.standing.0 in
        let g = length from + b.sync in
        let has : Has all (t, earlier) = ⊎_elim (λ none. absurd (let no : length earlier ≡ 0 = ap (λ (l : List Chosen). length l) none in omega (arith, no, below))) (λ h. h) seen in
        let start : is.start ≡ stands.0.start = same_Some is.start stands.0.start (same_Some (Some is.start) (Some stands.0.start) (sym is.is_first ∙ stands.0.is_first)) in
        let begins : before.value.machine.value.results ≡ take g whole =
        is.given ∙ (λ i. (start i).machine.value.results ++ before.begins earlier has (omega (arith, below)) i) ∙ sym (take-append-add from earlier b.sync) ∙ ap (λ (l : List Chosen). take g l) (sym stands.0.given) in
        no_other g (has_scope whole before.results before.value before.offers before.nacks g b.scope k before.standing begins (omega (arith, below, size)) before.scope) (omega (arith, below, size))

    -- nor was it settled before the table
    pub never_settled : (stamp : ℕ) → WasSettled (opening_at cells) (record { thread = t; k = k }) stamp → ⊥
    never_settled stamp was =
        let below = (rises_below 0 64 ns scope k (nacks_rise earlier m os ns stands) e).1 in
        let old = table.settled (record { thread = t; k = k }) stamp stands.0.start below was stands.0.is_first in
        let there = old.2 in
        let low = old.1 in
        let begins : take old.0 from ≡ take old.0 whole = sym (take-append-le old.0 from earlier (omega (arith, low))) ∙ ap (λ (l : List Chosen). take old.0 l) (sym stands.0.given) in
        no_other old.0
        (record {
          within = omega (arith, low, size);
          event = there.event;
          offered = subst (λ (rs : List Chosen). IsOffering table.processes t rs there.event) begins there.offered;
          scope = there.scope;
        })
        (omega (arith, low, size))

-- so a nack that the row needs is not bound before
pub binds : (cells : GridOf Suspended) (p : PassOf Suspended) (r : Row) (m : Suspended) (scope k : ℕ) (s t : Seen) (answer : Bool)
    → IsTable cells → IsNow cells.first p r m → (open_now : m.machine.value.phase ≡ Open (offers_in m.machine.value.phase) (nacks_in m.machine.value.phase)) → slice_get (nacks_in m.machine.value.phase) scope ≡ Some k
    → ((n : NackName) (b : Binding) → Has p.seen.bound (n, b) → bound_row n b ≢ r) → AreBound r (nacks_in m.machine.value.phase) scope p.seen s
    → ((n : NackName) (a b : Binding) → Has t.bound (n, a) → Has t.bound (n, b) → a ≡ b) → AreSettled (opening_at cells) t
    → Bound s t k r scope answer → (IsFalse answer → BoundBefore doings cells.first p.results t k r)
    → t ≡ see_bound (nack_of_row r k) (record { sync = r.sync; scope = scope }) s
binds cells p r m scope k s t true table now open_now e free before one settled bound earlier = bound.0
binds cells p r m scope k s t false table now open_now e free before one settled bound earlier = absurd (⊎_elim
    (λ old. ⊎_elim (λ other. twice_bound old other) (λ carried. never carried.0 carried.1) (earlier refl))
    (λ carried. never carried.0 (subst (λ (z : Seen). Has z.carried (nack_of_row r k, carried.0)) (sym carried.1) (inl refl)))
    bound)
  where
    stands : StandsFor cells.first m r.thread now.earlier (offers_in m.machine.value.phase) (nacks_in m.machine.value.phase)
    stands = (now.machine, open_now)

    -- it is not carried
    never : (stamp : ℕ) → Has t.carried (nack_of_row r k, stamp) → ⊥
    never stamp has = never_settled cells table r.thread now.earlier m (offers_in m.machine.value.phase) (nacks_in m.machine.value.phase) scope k stands e stamp (settled (nack_of_row r k) stamp has)

    -- it is no other scope's
    twice : (b : Binding) → b.sync ≡ r.sync → Has p.seen.bound (nack_of_row r k, b) ⊎ ((q : ℕ) × (n : ℕ) × (slice_get (nacks_in m.machine.value.phase) q ≡ Some n) × (q < scope) × (nack_of_row r k ≡ nack_of_row r n) × (b ≡ binding_of r q)) → ⊥
    twice b here (inl old) = free (nack_of_row r k) b old (λ i. record { thread = r.thread; sync = here i })
    twice b here (inr new) =
        let number : k ≡ new.1 = ap (λ (x : NackName). x.k) new.4 in
        let rise = nacks_rise cells table r.thread now.earlier m (offers_in m.machine.value.phase) (nacks_in m.machine.value.phase) stands in
        let place : scope ≡ new.0 = rises_once 0 64 (nacks_in m.machine.value.phase) scope new.0 k rise e (new.2 ∙ ap Some (sym number)) in
        let below = new.3 in
        omega (arith, place, below)

    -- it is bound to an earlier row, or to this one already
    twice_bound : ((b : Binding) × (t ≡ see_bound (nack_of_row r k) b s) × (b.sync ≤ r.sync) × (b.sync ≡ r.sync → Has s.bound (nack_of_row r k, b)))
        → ((b : Binding) × Has t.bound (nack_of_row r k, b) × ((b.sync < r.sync) → IsEarlier doings cells.first p.results (nack_of_row r k) b)) → ⊥
    twice_bound bound other =
        let b = bound.0 in
        let same : b ≡ other.0 = one (nack_of_row r k) b other.0 (subst (λ (z : Seen). Has z.bound (nack_of_row r k, b)) (sym bound.1) (inl refl)) other.1 in
        let at : b.sync ≡ other.0.sync = ap (λ (c : Binding). c.sync) same in
        ⊎_elim
        (λ (here : b.sync ≡ r.sync). twice b here (before.only (nack_of_row r k) b (bound.3 here)))
        (λ (below : b.sync < r.sync).
        none_earlier cells table r.thread now.earlier m (offers_in m.machine.value.phase) (nacks_in m.machine.value.phase) scope k stands e p.results other.0 now.seen
        (let size = now.count in omega (arith, at, below, size)) (other.2 (omega (arith, at, below))))
        (Rattle.std.proofs.Math.Nat.eq-or-lt_of_le bound.2)
