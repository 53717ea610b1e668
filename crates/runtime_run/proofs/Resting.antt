-- What a run leaves of all machines.
use Rattle.std.proofs.Common.{All, ◌≡◌, ℕ, zero, suc, ◌<◌, List, [], ◌∷◌, ◌++◌, Contains, length, map, set, take, Option, Some, None, slice_get, refl, sym, ap, ◌∙◌, subst, inl, inr, arith, ⊎_elim}
use Rattle.std.proofs.lemmas.Bool.{cases_eq}
use Rattle.std.proofs.lemmas.List.{length-map, length-set, map-append}
use Rattle.std.proofs.lemmas.List.Elements.{Contains-append_cases, Contains-append_left, Contains-append_right}
use Rattle.std.proofs.lemmas.Option.{get_or_from_slice_get, none-some, same_Some, slice_get-map}
use Rattle.std.specs.Option.{option_map}
use Rattle.script_tree.specs.Processes.{Proc}
use Rattle.thread.specs.After.{Chosen}
use Rattle.thread.specs.Machines.{HasStopped, Thread}
use Rattle.protocol_ledger.specs.Ledgers.{Ledger}
use Rattle.protocol_ledger.specs.Standing.{AreResults}
use Rattle.cell_table.specs.Closings.{HandedOut, HandsOut}
use Rattle.cell_table.specs.Sight.{Has}
use Rattle.cell.specs.Calls.{GridOf, IsPassOf, PassOf}
use Rattle.journal.specs.Concluding.{AreStanding, StandsIn}
use Rattle.runtime_worker.specs.declared.resident.Rest.{Rest}
use Rattle.runtime_worker.specs.declared.resident.Suspended.{Suspended}
use Rattle.runtime_worker.specs.declared.worker.Leavings.{Leavings}
use Rattle.runtime_worker.specs.Workers.{IsLeavingsOf}
use Rattle.runtime_run.specs.Workers.{AreParted}
use Rattle.runtime_worker.specs.Machines.{AreNew, IsAtRest, IsMachineOf, doings}
use Rattle.runtime_run.specs.Machines.{AreLeft, AreLeftBy, AreOut, ComesFrom, StandsOver, machine_in}
use Rattle.runtime_worker.proofs.Processes.{new_first, new_given, process_of, spawned_fewer}
use Rattle.cell.proofs.Lists.{all_at, all_is}

pub contains_map : {A B : Type 0} (f : A → B) (xs : List A) (x : A) → Contains xs x → Contains (map f xs) (f x)
contains_map f [] x h = absurd (omega (arith, h.1))
contains_map f (y ∷ xs) x (zero, lt, e) = (0, omega arith, ap f e)
contains_map f (y ∷ xs) x (suc i, lt, e) = let h = contains_map f xs x (i, omega (arith, lt), e) in (suc h.0, omega (arith, h.1), h.2)

some_left : (left : List Leavings) (k : ℕ) → k < length left → (l : Leavings) × (slice_get left k ≡ Some l)
some_left [] k lt = absurd (omega (arith, lt))
some_left (l ∷ left) zero lt = (l, refl)
some_left (l ∷ left) (suc k) lt = some_left left k (omega (arith, lt))

-- A RUN'S END

no_results : (l : Ledger) (t : ℕ) → AreResults l t []
no_results l t = λ g result e. absurd (none-some result e)

over_home : (first : List (Option Suspended)) (l : Ledger) (t : ℕ) (s : Suspended) → HandedOut doings first l t s → StandsOver first l t s.machine.value
over_home first l t s h =
    let standing = h.offers.standing in
    record { suspended = s; value = refl; results = h.offers.results; machine = standing.0; stopped = subst HasStopped (sym standing.1) tt; are = h.offers.are }

over_rest : (first : List (Option Suspended)) (l : Ledger) (told : List (ℕ × List Chosen)) (r : Rest) → ((t : ℕ) (results : List Chosen) → Has told (t, results) → AreResults l t results) → IsAtRest first told r → StandsOver first l r.thread r.suspended.machine.value
over_rest first l told r results h = record {
  suspended = r.suspended;
  value = refl;
  results = h.results;
  machine = h.machine;
  stopped = h.stopped;
  are = ⊎_elim
      (λ none. subst (AreResults l r.thread) (sym none) (no_results l r.thread))
      (λ has. results r.thread h.results has)
      h.seen;
}

-- each machine at rest is so by the results of one of the passes
abbrev pub RestWith : List (Option Suspended) → List (PassOf Suspended) → List Rest → Type 0
RestWith first passes rests = (r : Rest) → Contains rests r → (p : PassOf Suspended) × Contains passes p × IsAtRest first p.results r

pub rest_with : (cells : GridOf Suspended) (left : List Leavings) (passes : List (PassOf Suspended)) (rests : List Rest) → All (λ l. IsLeavingsOf cells l) left → AreParted left passes rests → RestWith cells.first passes rests
rest_with cells left passes rests all parted r has =
    let w = parted.1 r has in
    let here = all_at (λ (l : Leavings). IsLeavingsOf cells l) left w.0 all w.1 in (
      w.0.pass,
      subst (λ (ps : List (PassOf Suspended)). Contains ps w.0.pass) (sym parted.0) (contains_map (λ (l : Leavings). l.pass) left w.0 w.1),
      all_at (IsAtRest cells.first w.0.pass.results) w.0.rests.items r here.1 w.2,
    )

pub passes_of : (cells : GridOf Suspended) (left : List Leavings) (passes : List (PassOf Suspended)) (rests : List Rest) → All (λ l. IsLeavingsOf cells l) left → AreParted left passes rests → All (λ p. IsPassOf cells p) passes
passes_of cells left passes rests all parted =
    all_is (λ (p : PassOf Suspended). IsPassOf cells p) (map (λ (l : Leavings). l.pass) left) passes (sym parted.0) (λ k d lt.
    let within : k < length left = omega (arith, lt, length-map left (λ (l : Leavings). l.pass)) in
    let w = some_left left k within in
    let is : slice_get (map (λ (l : Leavings). l.pass) left) k ≡ Some w.0.pass = slice_get-map (λ (l : Leavings). l.pass) left k ∙ ap (option_map (λ (l : Leavings). l.pass)) w.1 in
    subst (λ (p : PassOf Suspended). IsPassOf cells p) (sym (get_or_from_slice_get (map (λ (l : Leavings). l.pass) left) k w.0.pass d is))
    (subst (λ (l : Leavings). IsLeavingsOf cells l) (get_or_from_slice_get left k w.0 w.0 w.1) (all k w.0 within)).0)

pub parted_none : AreParted [] [] []
parted_none = (refl, λ r has. absurd (omega (arith, has.1)))

pub nothing_left : {A : Type 0} (xs : List A) → length xs ≡ 0 → xs ≡ []
nothing_left [] e = refl
nothing_left (x ∷ xs) e = absurd (omega (arith, e))

-- the passes and the machines of one worker more
pub parted_more : (left : List Leavings) (passes : List (PassOf Suspended)) (rests : List Rest) (l : Leavings) → AreParted left passes rests → AreParted (left ++ l ∷ []) (passes ++ l.pass ∷ []) (rests ++ l.rests.items)
parted_more left passes rests l parted = (
  ap (λ (ps : List (PassOf Suspended)). ps ++ l.pass ∷ []) parted.0 ∙ sym (map-append (λ (x : Leavings). x.pass) left (l ∷ [])),
  λ r has. ⊎_elim
      (λ old. let w = parted.1 r old in (w.0, Contains-append_left left (l ∷ []) w.0 w.1, w.2))
      (λ new. (l, Contains-append_right left (l ∷ []) l (0, omega arith, refl), new))
      (Contains-append_cases rests l.rests.items r has),
)

pub left_by : (first : List (Option Suspended)) (l : Ledger) (passes : List (PassOf Suspended)) (homes : List (Option Suspended)) (rests : List Rest) (machines : List (Option Thread)) → length homes ≡ length first →
    HandsOut doings first l homes → ((p : PassOf Suspended) (t : ℕ) (results : List Chosen) → Contains passes p → Has p.results (t, results) → AreResults l t results) → RestWith first passes rests → AreLeft homes rests machines → AreLeftBy first l machines
left_by first l passes homes rests machines count hands results all left = (
  left.0 ∙ count,
  λ t m is. ⊎_elim
      (λ home. subst (StandsOver first l t) home.2 (over_home first l t home.0 (hands t home.0 home.1)))
      (λ rest.
      let w = all rest.0 rest.1 in
      subst (λ (z : ℕ × Thread). StandsOver first l z.0 z.1) (λ i. (rest.2 i, rest.3 i)) (over_rest first l w.0.results rest.0 (λ u rs h. results w.0 u rs w.1 h) w.2))
      (left.1 t m is),
)

-- A FIRST TABLE'S MACHINES, which were given nothing before

stands_of : (ps : List Proc) (first : List (Option Suspended)) (l : Ledger) (t : ℕ) (s : Suspended) (results : List Chosen) → AreNew ps first → IsMachineOf first s t results → HasStopped s.machine.value.phase → AreResults l t results →
    StandsIn ps l t s.machine.value
stands_of ps first l t s results are is stopped told =
    let p = process_of ps first t s results (new_first ps first are) is in
    let runs = p.2 in
    record {
      stands = record { process = p.0; is_its = p.1; body = runs.body; variables = runs.variables; thread = runs.thread; given = refl; stopped = stopped; after = is.after };
      are = subst (AreResults l t) (sym (new_given ps first t s results are is)) told;
      told = λ n u low has. is.told n u low (spawned_fewer ps t u s.machine.value (take n s.machine.value.results) p.0 p.1 runs has);
    }

pub left_standing : (ps : List Proc) (first : List (Option Suspended)) (l : Ledger) (machines : List (Option Thread)) → AreNew ps first → AreLeftBy first l machines → AreStanding ps l machines
left_standing ps first l machines are left = (
  left.0 ∙ are.0,
  λ t m is.
      let over = left.1 t m is in
      let stopped : HasStopped over.suspended.machine.value.phase = subst (λ (x : Thread). HasStopped x.phase) (sym over.value) over.stopped in
      subst (StandsIn ps l t) over.value (stands_of ps first l t over.suspended over.results are over.machine stopped over.are),
)

-- MACHINES OUT OF THEIR BOXES

pub get_set_same : {A : Type 0} (xs : List A) (t : ℕ) (y : A) → t < length xs → slice_get (set xs t y) t ≡ Some y
get_set_same [] t y lt = absurd (omega (arith, lt))
get_set_same (x ∷ xs) zero y lt = refl
get_set_same (x ∷ xs) (suc t) y lt = get_set_same xs t y (omega (arith, lt))

pub get_set_other : {A : Type 0} (xs : List A) (t u : ℕ) (y : A) → (u ≡ t → ⊥) → slice_get (set xs t y) u ≡ slice_get xs u
get_set_other [] t u y ne = refl
get_set_other (x ∷ xs) zero zero y ne = absurd (ne refl)
get_set_other (x ∷ xs) zero (suc u) y ne = refl
get_set_other (x ∷ xs) (suc t) zero y ne = refl
get_set_other (x ∷ xs) (suc t) (suc u) y ne = get_set_other xs t u y (λ e. ne (omega (arith, e)))

in_home : (h : Option Suspended) (m : Thread) → machine_in h ≡ Some m → (s : Suspended) × (◌≡◌ {A = Option (Option Suspended)} (Some h) (Some (Some s))) × (s.machine.value ≡ m)
in_home None m e = absurd (none-some m e)
in_home (Some s) m e = (s, refl, same_Some s.machine.value m e)

pub home_at : (homes : List (Option Suspended)) (t : ℕ) (m : Thread) → slice_get (map machine_in homes) t ≡ Some (Some m) → (s : Suspended) × (slice_get homes t ≡ Some (Some s)) × (s.machine.value ≡ m)
home_at [] t m e = absurd (none-some (Some m) e)
home_at (h ∷ homes) zero m e = in_home h m (same_Some (machine_in h) (Some m) e)
home_at (h ∷ homes) (suc t) m e = home_at homes t m e

pub left_home : (homes : List (Option Suspended)) (machines : List (Option Thread)) → AreOut homes machines → AreLeft homes [] machines
left_home homes machines e = (
  ap (λ (l : List (Option Thread)). length l) e ∙ length-map homes machine_in,
  λ t m is. inl (home_at homes t m (sym (ap (λ (l : List (Option Thread)). slice_get l t) e) ∙ is)),
)

comes_more : (homes : List (Option Suspended)) (rests : List Rest) (r : Rest) (t : ℕ) (m : Thread) → ComesFrom homes rests t m → ComesFrom homes (rests ++ r ∷ []) t m
comes_more homes rests r t m (inl home) = inl home
comes_more homes rests r t m (inr rest) = inr (rest.0, Contains-append_left rests (r ∷ []) rest.0 rest.1, rest.2, rest.3)

pub left_more : (homes : List (Option Suspended)) (rests : List Rest) (r : Rest) (machines : List (Option Thread)) → AreLeft homes rests machines → AreLeft homes (rests ++ r ∷ []) machines
left_more homes rests r machines left = (left.0, λ t m is. comes_more homes rests r t m (left.1 t m is))

pub left_put : (homes : List (Option Suspended)) (rests : List Rest) (r : Rest) (machines : List (Option Thread)) → AreLeft homes rests machines → r.thread < length machines →
    AreLeft homes (rests ++ r ∷ []) (set machines r.thread (Some r.suspended.machine.value))
left_put homes rests r machines left lt = (
  length-set machines r.thread (Some r.suspended.machine.value) ∙ left.0,
  λ t m is. ⊎_elim
      (λ e.
      let here = same_Some (Some r.suspended.machine.value) (Some m) (sym (get_set_same machines r.thread (Some r.suspended.machine.value) lt) ∙ ap (slice_get (set machines r.thread (Some r.suspended.machine.value))) (sym e) ∙ is) in
      inr (r, Contains-append_right rests (r ∷ []) r (0, omega arith, refl), sym e, same_Some r.suspended.machine.value m here))
      (λ ne. comes_more homes rests r t m (left.1 t m (sym (get_set_other machines r.thread t (Some r.suspended.machine.value) ne) ∙ is)))
      (cases_eq t r.thread),
)
