-- Which processes a process can spawn: those that stand before it.
use Rattle.std.proofs.Common.{◌≡◌, ◌∙◌, ◌+◌, ◌<◌, ◌≤◌, ℕ, zero, suc, List, [], ◌∷◌, Some, Bool, true, false, ap, arith, cond, refl, slice_get, subst, sym, ⊎_elim}
use Rattle.std.proofs.lemmas.Bool.{cases_Bool, eqb-true, false≢true, or_cases}
use Rattle.std.proofs.lemmas.Option.{none-some, same_Some}
use Rattle.script_tree.specs.Limits.{BlockIsIn, EventIsIn, Known, MembersAreIn, StmtIsIn}
use Rattle.script_tree.specs.Processes.{Proc}
use Rattle.script_tree.specs.Spawning.{IsPlaced, spawner_from, spawns_block, spawns_event, spawns_members, spawns_stmt}
use Rattle.script_tree.specs.Trees.{Event, Sends, Receives, IsReady, IsNever, IsCancelled, IsJoined, Chooses, Wraps, Guards, Nacks, Events, NoMembers, Members, Stmt, Lets, Prints, Syncs, Branches, Loops, LoopsForever, Ends, Spawns, Block, Stops, Runs}

mutual
  pub block_inside : (k : Known) (t : ℕ) (b : Block) → BlockIsIn k b → spawns_block t b ≡ true → t < k.processes
  block_inside k t Stops is h = absurd (false≢true h)
  block_inside k t (Runs stmt rest) is h = ⊎_elim (stmt_inside k t stmt is.0) (block_inside k t rest is.1) (or_cases (spawns_stmt t stmt) (spawns_block t rest) h)

  stmt_inside : (k : Known) (t : ℕ) (s : Stmt) → StmtIsIn k s → spawns_stmt t s ≡ true → t < k.processes
  stmt_inside k t (Lets name value) is h = absurd (false≢true h)
  stmt_inside k t (Prints value) is h = absurd (false≢true h)
  stmt_inside k t (Syncs names event) is h = event_inside k t event is.1.0 h
  stmt_inside k t (Branches test first second) is h = ⊎_elim (block_inside k t first is.1.0) (block_inside k t second is.1.1) (or_cases (spawns_block t first) (spawns_block t second) h)
  stmt_inside k t (Loops times names event rest) is h = ⊎_elim (event_inside k t event is.1.0) (block_inside k t rest is.1.1.1) (or_cases (spawns_event t event) (spawns_block t rest) h)
  stmt_inside k t (LoopsForever names event rest) is h = ⊎_elim (event_inside k t event is.1.0) (block_inside k t rest is.1.1.1) (or_cases (spawns_event t event) (spawns_block t rest) h)
  stmt_inside k t Ends is h = absurd (false≢true h)
  stmt_inside k t (Spawns process) is h = subst (λ (n : ℕ). n < k.processes) (eqb-true process t h) is

  event_inside : (k : Known) (t : ℕ) (e : Event) → EventIsIn k e → spawns_event t e ≡ true → t < k.processes
  event_inside k t (Sends channel list) is h = absurd (false≢true h)
  event_inside k t (Receives channel) is h = absurd (false≢true h)
  event_inside k t (IsReady list) is h = absurd (false≢true h)
  event_inside k t IsNever is h = absurd (false≢true h)
  event_inside k t (IsCancelled nack) is h = absurd (false≢true h)
  event_inside k t (IsJoined process) is h = absurd (false≢true h)
  event_inside k t (Chooses members) is h = members_inside k t members is h
  event_inside k t (Wraps event names list) is h = event_inside k t event is.0 h
  event_inside k t (Guards body event) is h = ⊎_elim (block_inside k t body is.0) (event_inside k t event is.1) (or_cases (spawns_block t body) (spawns_event t event) h)
  event_inside k t (Nacks name body event) is h = ⊎_elim (block_inside k t body is.1.0) (event_inside k t event is.1.1) (or_cases (spawns_block t body) (spawns_event t event) h)

  members_inside : (k : Known) (t : ℕ) (m : Events) → MembersAreIn k m → spawns_members t m ≡ true → t < k.processes
  members_inside k t NoMembers is h = absurd (false≢true h)
  members_inside k t (Members event others) is h = ⊎_elim (event_inside k t event is.0) (members_inside k t others is.1) (or_cases (spawns_event t event) (spawns_members t others) h)

-- THE FIRST SPAWNER of a process is one that spawns it, and no process before that one does

first_spawns : (t at s : ℕ) (ps : List Proc) → spawner_from t at ps ≡ Some s → (i : ℕ) × (p : Proc) × (s ≡ at + i) × (slice_get ps i ≡ Some p) × (spawns_block t p.body ≡ true)
first_spawns t at s [] is = absurd (none-some s is)
first_spawns t at s (p ∷ ps) is = ⊎_elim
    (λ (yes : spawns_block t p.body ≡ true).
    let same = same_Some at s (sym (ap (λ (c : Bool). cond c (Some at) (spawner_from t (at + 1) ps)) yes) ∙ is) in
    (0, p, omega (arith, same), refl, yes))
    (λ (no : spawns_block t p.body ≡ false).
    let w = first_spawns t (at + 1) s ps (sym (ap (λ (c : Bool). cond c (Some at) (spawner_from t (at + 1) ps)) no) ∙ is) in
    (suc w.0, w.1, (let far = w.2 in omega (arith, far)), w.3, w.4))
    (cases_Bool (spawns_block t p.body))

is_spawned : (t at i : ℕ) (p : Proc) (ps : List Proc) → slice_get ps i ≡ Some p → spawns_block t p.body ≡ true → (s : ℕ) × (spawner_from t at ps ≡ Some s) × (s ≤ at + i)
is_spawned t at i p [] is spawns = absurd (none-some p is)
is_spawned t at zero p (q ∷ ps) is spawns =
    (at, ap (λ (c : Bool). cond c (Some at) (spawner_from t (at + 1) ps)) (ap (λ (r : Proc). spawns_block t r.body) (same_Some q p is) ∙ spawns), omega arith)
is_spawned t at (suc i) p (q ∷ ps) is spawns = ⊎_elim
    (λ (yes : spawns_block t q.body ≡ true). (at, ap (λ (c : Bool). cond c (Some at) (spawner_from t (at + 1) ps)) yes, omega arith))
    (λ (no : spawns_block t q.body ≡ false).
    let w = is_spawned t (at + 1) i p ps is spawns in
    (w.0, ap (λ (c : Bool). cond c (Some at) (spawner_from t (at + 1) ps)) no ∙ w.1, (let low = w.2 in omega (arith, low))))
    (cases_Bool (spawns_block t q.body))

-- each process stands behind all that it spawns
abbrev pub EachBehind : List Proc → ℕ → Type 0
EachBehind ps n = (s : ℕ) (p : Proc) (t : ℕ) → s < n → slice_get ps s ≡ Some p → spawns_block t p.body ≡ true → t < s

pub placed_each : (ps : List Proc) (n : ℕ) → ((s : ℕ) (p : Proc) → slice_get ps s ≡ Some p → s < n) → EachBehind ps n → IsPlaced ps
placed_each ps n all each t s is =
    let w = first_spawns t 0 s ps is in
    let low = each w.0 w.1 t (all w.0 w.1 w.3) w.3 w.4 in
    let same = w.2 in
    omega (arith, low, same)

pub not_placed : (ps : List Proc) (s t : ℕ) (p : Proc) → slice_get ps s ≡ Some p → spawns_block t p.body ≡ true → s ≤ t → IsPlaced ps → ⊥
not_placed ps s t p is spawns behind placed =
    let w = is_spawned t 0 s p ps is spawns in
    let before = placed t w.0 w.1 in
    let first = w.2 in
    omega (arith, before, first, behind)
