-- The nacks of an event's scopes are numbered one above the other, below 64: a process takes its nacks in turn.
use Rattle.std.proofs.Common.{◌≡◌, ℕ, zero, suc, ◌+◌, ◌<◌, ◌≤◌, List, [], ◌∷◌, ◌++◌, Option, Some, None, Result, Ok, Err, Bool, true, false, length, slice_get, refl, ap, subst, arith, nat_le}
use Rattle.std.proofs.lemmas.Bool.Decides.{nat_tests}
use Rattle.std.proofs.lemmas.Option.{none-some, same_Some}
use Rattle.std.specs.Prelude.{⊤, if◌then◌else◌}
use Rattle.event.specs.Tree.{Tree, wraps_at, scope_nacks}
use Rattle.script_tree.specs.Trees.{Event, Sends, Receives, IsReady, IsNever, IsCancelled, IsJoined, Chooses, Wraps, Guards, Nacks, Events, NoMembers, Members, Stmt, Lets, Prints, Syncs, Branches, Loops, LoopsForever, Ends, Spawns, Block, Stops, Runs}
use Rattle.protocol_values.specs.declared.Message.{Message}
use Rattle.thread.specs.declared.Fault.{Fault}
use Rattle.thread.specs.Values.{expr_value, list_value, test_value, with_names}
use Rattle.thread.specs.After.{Said, State, Chosen, Outcome, Goes, Offers, Finishes, Fails, Strays, ◌>>=◌, given, received, Wrapping, wrapped_once, wrapped, Formed, committed, synced_with, synced, times, formed, with_nack, as_wrap, as_scope, as_first, run_block, run_stmt, resolve, resolve_all, start, finished, after}

-- each number is above the one before it, the first is not below `low`, and all are below `high`
abbrev pub Rises : ℕ → ℕ → List ℕ → Type 0
Rises low high [] = low ≤ high
Rises low high (n ∷ ns) = (low ≤ n) × Rises (n + 1) high ns

rises_up : (low high : ℕ) (ns : List ℕ) → Rises low high ns → low ≤ high
rises_up low high [] h = h
rises_up low high (n ∷ ns) h = (let up = rises_up (n + 1) high ns h.1 in omega (arith, h.0, up))

rises_wider : (low high floor top : ℕ) (ns : List ℕ) → floor ≤ low → high ≤ top → Rises low high ns → Rises floor top ns
rises_wider low high floor top [] under over h = omega (arith, under, over, h)
rises_wider low high floor top (n ∷ ns) under over h = (omega (arith, under, h.0), rises_wider (n + 1) high (n + 1) top ns (omega arith) over h.1)

rises_on : (low middle high : ℕ) (ns ms : List ℕ) → Rises low middle ns → Rises middle high ms → Rises low high (ns ++ ms)
rises_on low middle high [] ms h k = rises_wider middle high low high ms h (omega arith) k
rises_on low middle high (n ∷ ns) ms h k = (h.0, rises_on (n + 1) middle high ns ms h.1 k)

pub rises_below : (low high : ℕ) (ns : List ℕ) (i n : ℕ) → Rises low high ns → slice_get ns i ≡ Some n → (low ≤ n) × (n < high)
rises_below low high [] i n h e = absurd (none-some n e)
rises_below low high (m ∷ ns) zero n h e =
    let same : m ≡ n = same_Some m n e in
    let up = rises_up (m + 1) high ns h.1 in
    (omega (arith, same, h.0), omega (arith, same, up))
rises_below low high (m ∷ ns) (suc i) n h e =
    let k = rises_below (m + 1) high ns i n h.1 e in
    (omega (arith, h.0, k.0), k.1)

-- no number stands at two places
pub rises_once : (low high : ℕ) (ns : List ℕ) (i j n : ℕ) → Rises low high ns → slice_get ns i ≡ Some n → slice_get ns j ≡ Some n → i ≡ j
rises_once low high [] i j n h e f = absurd (none-some n e)
rises_once low high (m ∷ ns) zero zero n h e f = refl
rises_once low high (m ∷ ns) zero (suc j) n h e f = absurd (let same : m ≡ n = same_Some m n e in let k = (rises_below (m + 1) high ns j n h.1 f).0 in omega (arith, same, k))
rises_once low high (m ∷ ns) (suc i) zero n h e f = absurd (let same : m ≡ n = same_Some m n f in let k = (rises_below (m + 1) high ns i n h.1 e).0 in omega (arith, same, k))
rises_once low high (m ∷ ns) (suc i) (suc j) n h e f = ap suc (rises_once (m + 1) high ns i j n h.1 e f)

-- OUTCOMES: what it goes on with, or the event that it offers
abbrev Fine : {A : Type 0} → Outcome A → (A → Type 0) → Type 0
Fine (Goes a) P = P a
Fine (Offers tree printed) P = Rises 0 64 (scope_nacks tree)
Fine (Finishes printed left) P = ⊤
Fine (Fails fault printed left) P = ⊤
Fine Strays P = ⊤

bind_fine : {A B : Type 0} (x : Outcome A) (f : A → Outcome B) (P : A → Type 0) (Q : B → Type 0) → Fine x P → ((a : A) → P a → Fine (f a) Q) → Fine (x >>= f) Q
bind_fine (Goes a) f P Q h next = next a h
bind_fine (Offers tree printed) f P Q h next = h
bind_fine (Finishes printed left) f P Q h next = tt
bind_fine (Fails fault printed left) f P Q h next = tt
bind_fine Strays f P Q h next = tt

fine_weaker : {A : Type 0} (x : Outcome A) (P Q : A → Type 0) → ((a : A) → P a → Q a) → Fine x P → Fine x Q
fine_weaker (Goes a) P Q weaker h = weaker a h
fine_weaker (Offers tree printed) P Q weaker h = h
fine_weaker (Finishes printed left) P Q weaker h = tt
fine_weaker (Fails fault printed left) P Q weaker h = tt
fine_weaker Strays P Q weaker h = tt

given_fine : {A : Type 0} (s : State) (x : Result A Fault) → Fine (given s x) (λ a. ⊤)
given_fine s (Ok a) = tt
given_fine s (Err fault) = tt

if_fine : {A : Type 0} (b : Bool) (x y : Outcome A) (P : A → Type 0) → (b ≡ true → Fine x P) → (b ≡ false → Fine y P) → Fine (if b then x else y) P
if_fine true x y P first second = first refl
if_fine false x y P first second = second refl

-- THREADS. At most 64 nacks are taken, and none is given back.
abbrev From : ℕ → State → Type 0
From low s = (low ≤ s.nacks) × (s.nacks ≤ 64)

abbrev FormedFrom : ℕ → Formed → Type 0
FormedFrom low f = Rises low f.state.nacks (scope_nacks f.tree) × (f.state.nacks ≤ 64)

received_fine : (low : ℕ) (names : Option (List ℕ)) (message : Message) (s : State) → From low s → Fine (received names message s) (From low)
received_fine low names message s h =
    bind_fine (given s (with_names names message s.store)) _ (λ _. ⊤) (From low) (given_fine s _) (λ store k. h)

wrapped_once_fine : (low : ℕ) (w : Option Wrapping) (message : Message) (s : State) → From low s → Fine (wrapped_once w message s) (λ g. From low g.state)
wrapped_once_fine low None message s h = h
wrapped_once_fine low (Some w) message s h =
    bind_fine (received w.names message s) _ (From low) (λ g. From low g.state) (received_fine low w.names message s h) (λ t k.
    bind_fine (given t (list_value t.store w.list)) _ (λ _. ⊤) (λ g. From low g.state) (given_fine t _) (λ changed i. k))

wrapped_fine : (low : ℕ) (wraps : List Wrapping) (ns : List ℕ) (message : Message) (s : State) → From low s → Fine (wrapped wraps ns message s) (λ g. From low g.state)
wrapped_fine low wraps [] message s h = h
wrapped_fine low wraps (n ∷ ns) message s h =
    bind_fine (wrapped_once (slice_get wraps n) message s) _ (λ g. From low g.state) (λ g. From low g.state) (wrapped_once_fine low (slice_get wraps n) message s h) (λ g k.
    wrapped_fine low wraps ns g.message g.state k)

committed_fine : (low : ℕ) (names : Option (List ℕ)) (f : Formed) (numbers : Option (List ℕ)) (message : Message) (s : State) → From low s → Fine (committed names f numbers message s) (From low)
committed_fine low names f None message s h = tt
committed_fine low names f (Some numbers) message s h =
    bind_fine (wrapped f.wraps numbers message s) _ (λ g. From low g.state) (From low) (wrapped_fine low f.wraps numbers message s h) (λ g k.
    received_fine low names g.message g.state k)

synced_with_fine : (low : ℕ) (names : Option (List ℕ)) (f : Formed) (left : List Chosen) → FormedFrom low f → Fine (synced_with names f left) (From low)
synced_with_fine low names f [] h = rises_wider low f.state.nacks 0 64 (scope_nacks f.tree) (omega arith) h.1 h.0
synced_with_fine low names f (c ∷ left) h =
    committed_fine low names f (wraps_at f.tree c.0) c.1 (record f.state { left = left }) (rises_up low f.state.nacks (scope_nacks f.tree) h.0, h.1)

synced_fine : (low : ℕ) (names : Option (List ℕ)) (f : Formed) → FormedFrom low f → Fine (synced names f) (From low)
synced_fine low names f h = synced_with_fine low names f f.state.left h

-- what is so from a number that is reached is so from one that was reached before
block_from : (low : ℕ) (s : State) (x : Outcome State) → From low s → Fine x (From s.nacks) → Fine x (From low)
block_from low s x h k = fine_weaker x (From s.nacks) (From low) (λ t i. (omega (arith, h.0, i.0), i.1)) k

event_from : (low : ℕ) (s : State) (x : Outcome Formed) → From low s → Fine x (FormedFrom s.nacks) → Fine x (FormedFrom low)
event_from low s x h k = fine_weaker x (FormedFrom s.nacks) (FormedFrom low) (λ f i. (rises_wider s.nacks f.state.nacks low f.state.nacks (scope_nacks f.tree) h.0 (omega arith) i.0, i.1)) k

times_fine : (n : ℕ) (turn : State → Outcome State) → ((s : State) → s.nacks ≤ 64 → Fine (turn s) (From s.nacks)) → (s : State) → s.nacks ≤ 64 → Fine (times n turn s) (From s.nacks)
times_fine zero turn fine s h = (omega arith, h)
times_fine (suc n) turn fine s h =
    bind_fine (turn s) (times n turn) (From s.nacks) (From s.nacks) (fine s h) (λ t k. block_from s.nacks t (times n turn t) k (times_fine n turn fine t k.1))

turn_fine : (names : Option (List ℕ)) (event : State → Outcome Formed) (rest : State → Outcome State) → ((s : State) → s.nacks ≤ 64 → Fine (event s) (FormedFrom s.nacks)) → ((s : State) → s.nacks ≤ 64 → Fine (rest s) (From s.nacks))
    → (s : State) → s.nacks ≤ 64 → Fine (event s >>= synced names >>= rest) (From s.nacks)
turn_fine names event rest forms fine s h =
    bind_fine (event s >>= synced names) rest (From s.nacks) (From s.nacks)
    (bind_fine (event s) (synced names) (FormedFrom s.nacks) (From s.nacks) (forms s h) (λ f k. synced_fine s.nacks names f k))
    (λ t k. block_from s.nacks t (rest t) k (fine t k.1))

-- the nack that is taken is the one below all that follow
with_nack_fine : (name : ℕ) (s : State) → s.nacks ≤ 64 → Fine (with_nack name s) (From (s.nacks + 1))
with_nack_fine name s h = if_fine (nat_le 64 s.nacks) _ _ (From (s.nacks + 1)) (λ full. tt) (λ few. (omega arith, grind (arith, nat_tests, few)))

base_fine : {A : Type 0} (wraps : List Wrapping) (s : State) (x : Outcome A) (f : A → Outcome Formed) → Fine x (λ _. ⊤) → ((a : A) → Fine (f a) (FormedFrom s.nacks)) → Fine (x >>= f) (FormedFrom s.nacks)
base_fine wraps s x f h forms = bind_fine x f (λ _. ⊤) (FormedFrom s.nacks) h (λ a k. forms a)

mutual
  block_fine : (b : Block) (s : State) → s.nacks ≤ 64 → Fine (run_block b s) (From s.nacks)
  block_fine Stops s h = (omega arith, h)
  block_fine (Runs stmt rest) s h =
      bind_fine (run_stmt stmt s) (run_block rest) (From s.nacks) (From s.nacks) (stmt_fine stmt s h) (λ t k. block_from s.nacks t (run_block rest t) k (block_fine rest t k.1))

  stmt_fine : (stmt : Stmt) (s : State) → s.nacks ≤ 64 → Fine (run_stmt stmt s) (From s.nacks)
  stmt_fine (Lets name value) s h =
      bind_fine (given s (expr_value s.store value)) _ (λ _. ⊤) (From s.nacks) (given_fine s _) (λ a k. (omega arith, h))
  stmt_fine (Prints value) s h =
      bind_fine (given s (expr_value s.store value)) _ (λ _. ⊤) (From s.nacks) (given_fine s _) (λ a k. (omega arith, h))
  stmt_fine (Syncs names event) s h =
      bind_fine (resolve event [] s) (synced names) (FormedFrom s.nacks) (From s.nacks) (event_fine event [] s h) (λ f k. synced_fine s.nacks names f k)
  stmt_fine (Branches test first second) s h =
      bind_fine (given s (test_value s.store test)) _ (λ _. ⊤) (From s.nacks) (given_fine s _) (λ holds k.
      if_fine holds _ _ (From s.nacks) (λ _. block_fine first s h) (λ _. block_fine second s h))
  stmt_fine (Loops number names event rest) s h =
      times_fine number (λ t. resolve event [] t >>= synced names >>= run_block rest) (turn_fine names (resolve event []) (run_block rest) (event_fine event []) (block_fine rest)) s h
  stmt_fine (LoopsForever names event rest) s h =
      times_fine (suc (length s.left)) (λ t. resolve event [] t >>= synced names >>= run_block rest) (turn_fine names (resolve event []) (run_block rest) (event_fine event []) (block_fine rest)) s h
  stmt_fine Ends s h = tt
  stmt_fine (Spawns process) s h = (omega arith, h)

  event_fine : (event : Event) (wraps : List Wrapping) (s : State) → s.nacks ≤ 64 → Fine (resolve event wraps s) (FormedFrom s.nacks)
  event_fine (Sends channel list) wraps s h = base_fine wraps s (given s _) (formed wraps s) (given_fine s _) (λ base. (omega arith, h))
  event_fine (Receives channel) wraps s h = base_fine wraps s (given s _) (formed wraps s) (given_fine s _) (λ base. (omega arith, h))
  event_fine (IsReady list) wraps s h = base_fine wraps s (given s _) (formed wraps s) (given_fine s _) (λ base. (omega arith, h))
  event_fine IsNever wraps s h = (omega arith, h)
  event_fine (IsJoined process) wraps s h = (omega arith, h)
  event_fine (IsCancelled nack) wraps s h = base_fine wraps s (given s _) (formed wraps s) (given_fine s _) (λ base. (omega arith, h))
  event_fine (Chooses members) wraps s h = members_fine members wraps s h
  event_fine (Wraps event names list) wraps s h =
      bind_fine (resolve event _ s) (as_wrap (length wraps)) (FormedFrom s.nacks) (FormedFrom s.nacks) (event_fine event _ s h) (λ f k. k)
  event_fine (Guards body event) wraps s h =
      bind_fine (run_block body s) (resolve event wraps) (From s.nacks) (FormedFrom s.nacks) (block_fine body s h) (λ t k.
      event_from s.nacks t (resolve event wraps t) k (event_fine event wraps t k.1))
  event_fine (Nacks name body event) wraps s h =
      let low = s.nacks + 1 in
      bind_fine (with_nack name s >>= run_block body >>= resolve event wraps) (as_scope s.nacks) (FormedFrom low) (FormedFrom s.nacks)
      (bind_fine (with_nack name s >>= run_block body) (resolve event wraps) (From low) (FormedFrom low)
      (bind_fine (with_nack name s) (run_block body) (From low) (From low) (with_nack_fine name s h) (λ t k.
      block_from low t (run_block body t) k (block_fine body t k.1)))
      (λ t k. event_from low t (resolve event wraps t) k (event_fine event wraps t k.1)))
      (λ f k. ((omega arith, k.0), k.1))

  members_fine : (members : Events) (wraps : List Wrapping) (s : State) → s.nacks ≤ 64 → Fine (resolve_all members wraps s) (FormedFrom s.nacks)
  members_fine NoMembers wraps s h = (omega arith, h)
  members_fine (Members event others) wraps s h =
      bind_fine (resolve event wraps s) _ (FormedFrom s.nacks) (FormedFrom s.nacks) (event_fine event wraps s h) (λ f k.
      bind_fine (resolve_all others f.wraps f.state) (as_first f) (FormedFrom f.state.nacks) (FormedFrom s.nacks) (members_fine others f.wraps f.state k.1) (λ g l.
      (rises_on s.nacks f.state.nacks g.state.nacks (scope_nacks f.tree) (scope_nacks g.tree) k.0 l.0, l.1)))

-- the event that a process comes to has such nacks
pub after_rises : (body : Block) (variables thread : ℕ) (results : List Chosen) (tree : Tree) (said : Said) → after body variables thread results ≡ Offers tree said → Rises 0 64 (scope_nacks tree)
after_rises body variables thread results tree said e =
    subst (λ (x : Outcome State). Fine x (λ s. ⊤)) e
    (bind_fine (run_block body (start thread variables results)) finished (From 0) (λ s. ⊤) (block_fine body (start thread variables results) (omega arith)) (λ s h. tt))
