-- What a process has spawned its text spawns, and who spawns a process.
use Rattle.std.proofs.Common.{◌≡◌, ℕ, zero, suc, ◌+◌, Bool, true, false, cond, List, [], ◌∷◌, length, Some, None, slice_get, Contains, refl, sym, ap, ◌∙◌, subst, arith}
use Rattle.std.proofs.lemmas.Bool.{eq-eqb, false≢true, or_left, or_right}
use Rattle.std.proofs.lemmas.Option.{none-some, same_Some}
use Rattle.std.specs.Prelude.{⊤}
use Rattle.script_tree.specs.Processes.{Proc}
use Rattle.script_tree.specs.Spawning.{AreSpawnedOnce, spawner, spawner_from, spawns_block, spawns_event, spawns_members, spawns_stmt}
use Rattle.script_tree.specs.Trees.{Event, Sends, Receives, IsReady, IsNever, IsCancelled, IsJoined, Chooses, Wraps, Guards, Nacks, Events, NoMembers, Members, Stmt, Lets, Prints, Syncs, Branches, Loops, LoopsForever, Ends, Spawns, Block, Stops, Runs}
use Rattle.thread.specs.After.{Chosen, State, Outcome, Goes, Offers, Finishes, Fails, Strays}
use Rattle.thread.proofs.Keeping.{Rule, AnyValues, EachOf, MessageOf, ResultsOf, Keeps, EventOf, MembersOf, StmtOf, BlockOf, any_name, any_expr, any_list, after_keeps, into_name, from_name}
use Rattle.protocol_values.specs.declared.Message.{Message}
use Rattle.protocol_values.specs.declared.Message.TheVariants.{Empty, One, Two, Three}
use Rattle.journal_replay.specs.Starting.{HasSpawned, spawned_in}

-- WHAT A PROCESS SPAWNS ITS TEXT SPAWNS

-- of each process that is spawned a fact holds
abbrev spawning : (ℕ → Type 0) → ℕ → Rule
spawning Q t = record {
  thread = t;
  Good = λ a. ⊤;
  Taken = λ k. ⊤;
  Scoped = λ k. ⊤;
  Small = λ n. ⊤;
  Literal = λ n. ⊤;
  Named = λ c. ⊤;
  Spawned = Q;
  Joined = λ p. ⊤;
  Into = λ c. ⊤;
  From = λ c. ⊤;
  literal = λ n h. tt;
  total = λ n h. tt;
  less = λ m n h. tt;
  channel = λ c h. tt;
  into = λ c h. h;
  from = λ c h. h;
  nack = λ k few h. (tt, tt, tt);
}

module _ (Q : ℕ → Type 0) (t : ℕ) where
  abbrev rule : Rule
  rule = spawning Q t

  any : AnyValues rule
  any = record { literal = λ n. tt; named = λ c. tt }

  mutual
    block_of : (b : Block) → ((q : ℕ) → spawns_block q b ≡ true → Q q) → BlockOf rule b
    block_of Stops h = tt
    block_of (Runs stmt rest) h = (
      stmt_of stmt (λ q e. h q (or_left (spawns_stmt q stmt) (spawns_block q rest) e)),
      block_of rest (λ q e. h q (or_right (spawns_stmt q stmt) (spawns_block q rest) e)),
    )

    stmt_of : (s : Stmt) → ((q : ℕ) → spawns_stmt q s ≡ true → Q q) → StmtOf rule s
    stmt_of (Lets name value) h = any_expr rule any value
    stmt_of (Prints value) h = any_expr rule any value
    stmt_of (Syncs names event) h = (event_of event h, tt)
    stmt_of (Branches test first second) h = (
      block_of first (λ q e. h q (or_left (spawns_block q first) (spawns_block q second) e)),
      block_of second (λ q e. h q (or_right (spawns_block q first) (spawns_block q second) e)),
    )
    stmt_of (Loops times names event rest) h = (
      (event_of event (λ q e. h q (or_left (spawns_event q event) (spawns_block q rest) e)), tt),
      block_of rest (λ q e. h q (or_right (spawns_event q event) (spawns_block q rest) e)),
    )
    stmt_of (LoopsForever names event rest) h = (
      (event_of event (λ q e. h q (or_left (spawns_event q event) (spawns_block q rest) e)), tt),
      block_of rest (λ q e. h q (or_right (spawns_event q event) (spawns_block q rest) e)),
    )
    stmt_of Ends h = tt
    stmt_of (Spawns process) h = h process (eq-eqb process process refl)

    event_of : (e : Event) → ((q : ℕ) → spawns_event q e ≡ true → Q q) → EventOf rule e
    event_of (Sends channel list) h = (into_name rule channel (any_name rule any channel), any_list rule any list)
    event_of (Receives channel) h = from_name rule channel (any_name rule any channel)
    event_of (IsReady list) h = any_list rule any list
    event_of IsNever h = tt
    event_of (IsCancelled nack) h = any_name rule any nack
    event_of (IsJoined process) h = tt
    event_of (Chooses members) h = members_of members h
    event_of (Wraps event names list) h = (event_of event h, any_list rule any list)
    event_of (Guards body event) h = (
      block_of body (λ q e. h q (or_left (spawns_block q body) (spawns_event q event) e)),
      event_of event (λ q e. h q (or_right (spawns_block q body) (spawns_event q event) e)),
    )
    event_of (Nacks name body event) h = (
      block_of body (λ q e. h q (or_left (spawns_block q body) (spawns_event q event) e)),
      event_of event (λ q e. h q (or_right (spawns_block q body) (spawns_event q event) e)),
    )

    members_of : (m : Events) → ((q : ℕ) → spawns_members q m ≡ true → Q q) → MembersOf rule m
    members_of NoMembers h = tt
    members_of (Members event others) h = (
      event_of event (λ q e. h q (or_left (spawns_event q event) (spawns_members q others) e)),
      members_of others (λ q e. h q (or_right (spawns_event q event) (spawns_members q others) e)),
    )

  results_of : (rs : List Chosen) → ResultsOf (λ a. ⊤) rs
  results_of [] = tt
  results_of ((n, m) ∷ rs) = (message_of m, results_of rs)
    where
      message_of : (m : Message) → MessageOf (λ a. ⊤) m
      message_of Empty = tt
      message_of (One a) = tt
      message_of (Two a b) = (tt, tt)
      message_of (Three a b c) = (tt, (tt, tt))

  each_spawned : (x : Outcome State) → Keeps rule x (λ s. ⊤) → EachOf Q (spawned_in x)
  each_spawned (Goes value) h = tt
  each_spawned (Offers tree said) h = h.said.spawned
  each_spawned (Finishes said left) h = h.spawned
  each_spawned (Fails fault said left) h = h.spawned
  each_spawned Strays h = tt

  each_contains : (xs : List ℕ) (q : ℕ) → EachOf Q xs → Contains xs q → Q q
  each_contains [] q h c = absurd (omega (arith, c.1))
  each_contains (x ∷ xs) q h (zero, lt, e) = subst Q e h.0
  each_contains (x ∷ xs) q h (suc i, lt, e) = each_contains xs q h.1 (i, omega (arith, lt), e)

pub text_spawns : (ps : List Proc) (s : ℕ) (p : Proc) (rs : List Chosen) (t : ℕ) → slice_get ps s ≡ Some p → HasSpawned ps s rs t → spawns_block t p.body ≡ true
text_spawns ps s p rs t is has =
    let Q : ℕ → Type 0 = λ q. spawns_block q has.process.body ≡ true in
    let kept = after_keeps (spawning Q s) has.process.body (length has.process.variables) rs tt (block_of Q s has.process.body (λ q e. e)) (results_of Q s rs) in
    let here = each_contains Q s _ t (each_spawned Q s _ kept) has.spawned in
    subst (λ (q : Proc). spawns_block t q.body ≡ true) (same_Some has.process p (sym has.is_its ∙ is)) here

-- WHO SPAWNS A PROCESS

-- no text of these spawns it
abbrev pub NoText : List Proc → ℕ → Type 0
NoText ps t = (s : ℕ) (p : Proc) → slice_get ps s ≡ Some p → spawns_block t p.body ≡ false

-- the first whose text spawns it, behind so many
pub no_spawner : (t n : ℕ) (ps : List Proc) → NoText ps t → spawner_from t n ps ≡ None
no_spawner t n [] h = refl
no_spawner t n (p ∷ ps) h = ap (λ (b : Bool). cond b (Some n) (spawner_from t (n + 1) ps)) (h 0 p refl) ∙ no_spawner t (n + 1) ps (λ s q is. h (suc s) q is)

pub none_spawns : (t n : ℕ) (ps : List Proc) → spawner_from t n ps ≡ None → NoText ps t
none_spawns t n [] e = λ s q is. absurd (none-some q is)
none_spawns t n (p ∷ ps) e = at_first (λ f. none_spawns t (n + 1) ps f) (spawns_block t p.body) refl e
  where
    at_first : (spawner_from t (n + 1) ps ≡ None → NoText ps t) → (b : Bool) → spawns_block t p.body ≡ b → cond b (Some n) (spawner_from t (n + 1) ps) ≡ None → NoText (p ∷ ps) t
    at_first rest true is f s q here = absurd (none-some n (sym f))
    at_first rest false is f zero q here = ap (λ (x : Proc). spawns_block t x.body) (sym (same_Some p q here)) ∙ is
    at_first rest false is f (suc s) q here = rest f s q here

-- where some text spawns it, one of the texts is the first
record Spawner (t n : ℕ) (ps : List Proc) : Type 0 where
  place : ℕ
  process : Proc
  there : slice_get ps place ≡ Some process
  spawns : spawns_block t process.body ≡ true
  first : spawner_from t n ps ≡ Some (n + place)

some_spawns : (t n : ℕ) (ps : List Proc) (s : ℕ) (q : Proc) → slice_get ps s ≡ Some q → spawns_block t q.body ≡ true → Spawner t n ps
some_spawns t n [] s q is spawns = absurd (none-some q is)
some_spawns t n (p ∷ ps) s q is spawns = at_first (λ i here. some_spawns t (n + 1) ps i q here spawns) (spawns_block t p.body) refl s is
  where
    later : Spawner t (n + 1) ps → spawns_block t p.body ≡ false → Spawner t n (p ∷ ps)
    later w none = record {
      place = suc w.place;
      process = w.process;
      there = w.there;
      spawns = w.spawns;
      first = ap (λ (b : Bool). cond b (Some n) (spawner_from t (n + 1) ps)) none ∙ w.first ∙ ap (λ (k : ℕ). Some k) (omega arith);
    }

    at_first : ((i : ℕ) → slice_get ps i ≡ Some q → Spawner t (n + 1) ps) → (b : Bool) → spawns_block t p.body ≡ b → (s : ℕ) → slice_get (p ∷ ps) s ≡ Some q → Spawner t n (p ∷ ps)
    at_first rest true e s here = record {
      place = 0;
      process = p;
      there = refl;
      spawns = e;
      first = ap (λ (b : Bool). cond b (Some n) (spawner_from t (n + 1) ps)) e ∙ ap (λ (k : ℕ). Some k) (omega arith);
    }
    at_first rest false e zero here = absurd (false≢true (sym e ∙ ap (λ (x : Proc). spawns_block t x.body) (same_Some p q here) ∙ spawns))
    at_first rest false e (suc s) here = later (rest s here) e

pub spawner_is : (ps : List Proc) → AreSpawnedOnce ps → (s t : ℕ) (p : Proc) → slice_get ps s ≡ Some p → spawns_block t p.body ≡ true → spawner ps t ≡ Some s
spawner_is ps once s t p is spawns =
    let w = some_spawns t 0 ps s p is spawns in
    let same = once t w.place s w.process p w.there is w.spawns spawns in
    let place : 0 + w.place ≡ s = omega (arith, same) in
    w.first ∙ ap (λ (k : ℕ). Some k) place
