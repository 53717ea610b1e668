-- A nack stands in the scopes of one sync alone: where a process is run on, it offers no event again that has the nack.
use Rattle.std.proofs.Common.{◌≡◌, ◌⊎◌, ℕ, zero, suc, ◌+◌, ◌<◌, ◌≤◌, List, [], ◌∷◌, ◌++◌, Option, Some, None, Result, Ok, Err, Bool, true, false, length, slice_get, refl, sym, subst, arith, nat_le, inl, inr, ⊎_elim}
use Rattle.std.proofs.lemmas.Bool.{cases_eq}
use Rattle.std.proofs.lemmas.List.{length-append}
use Rattle.std.proofs.lemmas.List.Elements.{All-nil, All-cons}
use Rattle.std.specs.Prelude.{⊤, All, if◌then◌else◌}
use Rattle.event.specs.Tree.{Tree, Single, Nothing, Or, Wrap, Scope, base_count, wraps_at}
use Rattle.script_tree.specs.Limits.{base_count as bases_of}
use Rattle.script_tree.specs.Trees.{Event, Sends, Receives, IsReady, IsNever, IsCancelled, IsJoined, Chooses, Wraps, Guards, Nacks, Events, NoMembers, Members, Stmt, Lets, Prints, Syncs, Branches, Loops, LoopsForever, Ends, Spawns, Block, Stops, Runs, LoopBody}
use Rattle.protocol_values.specs.declared.Atom.TheVariants.{Nack}
use Rattle.protocol_values.specs.declared.Base.{Base}
use Rattle.protocol_values.specs.declared.Base.TheVariants.{Send, Recv, Always, OnNack, OnEnd, Never}
use Rattle.protocol_values.specs.declared.Message.{Message}
use Rattle.protocol_values.specs.declared.Message.TheVariants.{Empty, One, Two, Three}
use Rattle.thread.specs.declared.Fault.{Fault}
use Rattle.thread.specs.declared.Fault.TheVariants.{Range}
use Rattle.thread.specs.Values.{Store, expr_value, list_value, test_value, with_names}
use Rattle.thread.specs.After.{with_printed, with_spawned, State, Chosen, Outcome, Goes, Offers, Finishes, Fails, Strays, ◌>>=◌, given, received, Wrapping, Having, wrapped_once, wrapped, Formed, committed, synced_with, synced, times, send_value, recv_value, always_value, cancelled_value, formed, with_variable, with_nack, as_wrap, as_scope, as_first, run_block, run_stmt, resolve, resolve_all, start, finished, after}
use Rattle.thread.proofs.Binding.{IfGoes}
use Rattle.thread.proofs.Keeping.{Rule, EachOf, BaseOf, MessageOf, ResultsOf, TreeOf, PlaceOf, WrapsAre, StateIs, FormedIs, Keeps, any_block, any_event, any_list, committed_keeps, synced_keeps, block_keeps, event_keeps, AnyText}
use Rattle.thread.proofs.Taking.{turn_on, turn_takes}

module _ (k : ℕ) where
  -- no scope has the nack
  abbrev pub Without : Tree → Type 0
  Without tree = TreeOf (λ a. ⊤) (λ p. ⊤) (λ n. n ≡ k → ⊥) tree

  -- it offers no event that has the nack, and goes on with this
  abbrev pub Quiet : {A : Type 0} → Outcome A → (A → Type 0) → Type 0
  Quiet (Goes a) P = P a
  Quiet (Offers tree printed) P = Without tree
  Quiet (Finishes printed left) P = ⊤
  Quiet (Fails fault printed left) P = ⊤
  Quiet Strays P = ⊤

  quiet_bind : {A B : Type 0} (x : Outcome A) (f : A → Outcome B) (P : A → Type 0) (Q : B → Type 0) → Quiet x P → ((a : A) → P a → Quiet (f a) Q) → Quiet (x >>= f) Q
  quiet_bind (Goes a) f P Q h next = next a h
  quiet_bind (Offers tree printed) f P Q h next = h
  quiet_bind (Finishes printed left) f P Q h next = tt
  quiet_bind (Fails fault printed left) f P Q h next = tt
  quiet_bind Strays f P Q h next = tt

  -- BEHIND THE NACK

  abbrev Behind : State → Type 0
  Behind s = k < s.nacks

  abbrev FormedBehind : Formed → Type 0
  FormedBehind f = (k < f.state.nacks) × Without f.tree

  abbrev behind : ℕ → Rule
  behind t = record {
    thread = t;
    Good = λ a. ⊤;
    Taken = λ n. k < n;
    Scoped = λ n. n ≡ k → ⊥;
    Small = λ n. ⊤;
    Literal = λ n. ⊤;
    Named = λ c. ⊤;
    Spawned = λ p. ⊤;
    Joined = λ p. ⊤;
    Into = λ c. ⊤;
    From = λ c. ⊤;
    literal = λ n h. tt;
    total = λ n h. tt;
    less = λ m n h. tt;
    channel = λ c h. tt;
    into = λ c h. h;
    from = λ c h. h;
    nack = λ n few h. (tt, omega (arith, h), λ e. omega (arith, e, h));
  }

  any_text : (t : ℕ) → AnyText (behind t)
  any_text t = record { values = record { literal = λ n. tt; named = λ c. tt }; small = λ n. tt; spawned = λ p. tt; joined = λ p. tt }

  any_store : (store : Store) → All (PlaceOf (λ a. ⊤)) store
  any_store [] = All-nil (PlaceOf (λ a. ⊤))
  any_store (None ∷ store) = All-cons (PlaceOf (λ a. ⊤)) None store tt (any_store store)
  any_store (Some a ∷ store) = All-cons (PlaceOf (λ a. ⊤)) (Some a) store tt (any_store store)

  any_each : {A : Type 0} (xs : List A) → EachOf (λ a. ⊤) xs
  any_each [] = tt
  any_each (x ∷ xs) = (tt, any_each xs)

  any_message : (m : Message) → MessageOf (λ a. ⊤) m
  any_message Empty = tt
  any_message (One a) = tt
  any_message (Two a b) = (tt, tt)
  any_message (Three a b c) = (tt, (tt, tt))

  any_base : (b : Base) → BaseOf (λ a. ⊤) (λ p. ⊤) b
  any_base (Send channel message) = (tt, any_message message)
  any_base (Recv channel) = tt
  any_base (Always message) = any_message message
  any_base (OnNack n) = tt
  any_base (OnEnd thread) = tt
  any_base Never = tt

  any_results : (rs : List Chosen) → ResultsOf (λ a. ⊤) rs
  any_results [] = tt
  any_results (c ∷ rs) = (any_message c.1, any_results rs)

  any_wraps : (t : ℕ) (wraps : List Wrapping) → WrapsAre (behind t) wraps
  any_wraps t [] = tt
  any_wraps t (w ∷ wraps) = (any_list (behind t) (any_text t).values w.list, any_wraps t wraps)

  is_behind : (s : State) → Behind s → StateIs (behind s.thread) s
  is_behind s h = record { thread = refl; nacks = h; store = any_store s.store; said = record { printed = any_each s.said.printed; spawned = any_each s.said.spawned }; left = any_results s.left }

  quiet_of : {A : Type 0} (t : ℕ) (x : Outcome A) (P Q : A → Type 0) → ((a : A) → P a → Q a) → Keeps (behind t) x P → Quiet x Q
  quiet_of t (Goes a) P Q weaker h = weaker a h
  quiet_of t (Offers tree printed) P Q weaker h = h.parts
  quiet_of t (Finishes printed left) P Q weaker h = tt
  quiet_of t (Fails fault printed left) P Q weaker h = tt
  quiet_of t Strays P Q weaker h = tt

  quiet_block : (b : Block) (s : State) → Behind s → Quiet (run_block b s) Behind
  quiet_block b s h =
      quiet_of s.thread (run_block b s) (StateIs (behind s.thread)) Behind (λ t i. i.nacks) (block_keeps (behind s.thread) b s (any_block (behind s.thread) (any_text s.thread) b) (is_behind s h))

  formed_behind : (t n : ℕ) (f : Formed) → FormedIs (behind t) n f → FormedBehind f
  formed_behind t n f i = (i.state.nacks, i.tree)

  quiet_event : (event : Event) (wraps : List Wrapping) (s : State) → Behind s → Quiet (resolve event wraps s) FormedBehind
  quiet_event event wraps s h =
      quiet_of s.thread (resolve event wraps s) (FormedIs (behind s.thread) (bases_of event)) FormedBehind (formed_behind s.thread (bases_of event))
      (event_keeps (behind s.thread) event wraps s (any_event (behind s.thread) (any_text s.thread) event) (any_wraps s.thread wraps) (is_behind s h))

  quiet_members : (members : Events) (wraps : List Wrapping) (s : State) → Behind s → Quiet (resolve_all members wraps s) FormedBehind
  quiet_members members wraps s h = quiet_event (Chooses members) wraps s h

  quiet_synced : (names : Option (List ℕ)) (f : Formed) → FormedBehind f → Quiet (synced names f) Behind
  quiet_synced names f h =
      let t = f.state.thread in
      quiet_of t (synced names f) (StateIs (behind t)) Behind (λ s i. i.nacks)
      (synced_keeps (behind t) (base_count f.tree) names f tt (record { tree = h.1; count = refl; wraps = any_wraps t f.wraps; state = is_behind f.state h.0 }))

  quiet_committed : (names : Option (List ℕ)) (f : Formed) (numbers : Option (List ℕ)) (m : Message) (s : State) → Behind s → Quiet (committed names f numbers m s) Behind
  quiet_committed names f numbers m s h =
      quiet_of s.thread (committed names f numbers m s) (StateIs (behind s.thread)) Behind (λ t i. i.nacks)
      (committed_keeps (behind s.thread) names f numbers m s (any_wraps s.thread f.wraps) (any_message m) (is_behind s h))

  quiet_turn : (turn : LoopBody) (s : State) → Behind s → Quiet (turn_on turn s) Behind
  quiet_turn turn s h =
      quiet_bind (resolve turn.event [] s >>= synced turn.names) (run_block turn.rest) Behind Behind
      (quiet_bind (resolve turn.event [] s) (synced turn.names) FormedBehind Behind (quiet_event turn.event [] s h) (λ f i. quiet_synced turn.names f i))
      (λ t i. quiet_block turn.rest t i)

  quiet_times : (n : ℕ) (turn : LoopBody) (s : State) → Behind s → Quiet (times n (turn_on turn) s) Behind
  quiet_times zero turn s h = h
  quiet_times (suc n) turn s h = quiet_bind (turn_on turn s) (times n (turn_on turn)) Behind Behind (quiet_turn turn s h) (λ t i. quiet_times n turn t i)

  -- A SHORT RUN AND A LONGER ONE

  module _ (r : Chosen) (others : List Chosen) where
    abbrev longer : State → State
    longer s = record s { left = s.left ++ r ∷ others }

    abbrev formed_longer : Formed → Formed
    formed_longer f = record f { state = longer f.state }

    abbrev having_longer : Having → Having
    having_longer h = record h { state = longer h.state }

    -- The short run goes on, and the longer one with it. Where the short one offers an event that has the nack, the nack is no
    -- earlier one, and the longer one is quiet from there on.
    abbrev pub Both : {A : Type 0} → ℕ → Outcome A → Outcome A → (A → A → Type 0) → (A → Type 0) → Type 0
    Both {A} low (Goes a) y R Q = (b : A) × (y ≡ Goes b) × R a b
    Both low (Offers tree printed) y R Q = (Without tree → ⊥) → (low ≤ k) × Quiet y Q
    Both low (Finishes printed left) y R Q = ⊤
    Both low (Fails fault printed left) y R Q = ⊤
    Both low Strays y R Q = ⊤

    bind_both : {A B : Type 0} (low : ℕ) (x y : Outcome A) (f g : A → Outcome B) (R : A → A → Type 0) (Q : A → Type 0) (S : B → B → Type 0) (T : B → Type 0) →
        Both low x y R Q → ((a b : A) → R a b → Both low (f a) (g b) S T) → (low ≤ k → (b : A) → Q b → Quiet (g b) T) → Both low (x >>= f) (y >>= g) S T
    bind_both {A} {B} low (Goes a) y f g R Q S T h next on =
        subst (λ (z : Outcome A). Both low (f a) (z >>= g) S T) (sym h.1) (next a h.0 h.2)
    bind_both low (Offers tree printed) y f g R Q S T h next on = λ has. let w = h has in (w.0, quiet_bind y g Q T w.1 (on w.0))
    bind_both low (Finishes printed left) y f g R Q S T h next on = tt
    bind_both low (Fails fault printed left) y f g R Q S T h next on = tt
    bind_both low Strays y f g R Q S T h next on = tt

    both_weaker : {A : Type 0} (low floor : ℕ) (x y : Outcome A) (R S : A → A → Type 0) (Q : A → Type 0) → floor ≤ low → ((a b : A) → R a b → S a b) → Both low x y R Q → Both floor x y S Q
    both_weaker low floor (Goes a) y R S Q le weaker h = (h.0, h.1, weaker a h.0 h.2)
    both_weaker low floor (Offers tree printed) y R S Q le weaker h = λ has. let w = h has in (omega (arith, le, w.0), w.1)
    both_weaker low floor (Finishes printed left) y R S Q le weaker h = tt
    both_weaker low floor (Fails fault printed left) y R S Q le weaker h = tt
    both_weaker low floor Strays y R S Q le weaker h = tt

    both_and : {A : Type 0} (low : ℕ) (x y : Outcome A) (R : A → A → Type 0) (Q P : A → Type 0) → Both low x y R Q → IfGoes x P → Both low x y (λ a b. R a b × P a) Q
    both_and low (Goes a) y R Q P h p = (h.0, h.1, (h.2, p))
    both_and low (Offers tree printed) y R Q P h p = h
    both_and low (Finishes printed left) y R Q P h p = tt
    both_and low (Fails fault printed left) y R Q P h p = tt
    both_and low Strays y R Q P h p = tt

    given_both : {A : Type 0} (low : ℕ) (s : State) (x : Result A Fault) (Q : A → Type 0) → Both low (given s x) (given (longer s) x) (λ a b. b ≡ a) Q
    given_both low s (Ok a) Q = (a, refl, refl)
    given_both low s (Err fault) Q = tt

    abbrev Longer : ℕ → State → State → Type 0
    Longer low a b = (b ≡ longer a) × (low ≤ a.nacks)

    abbrev HavingLonger : ℕ → Having → Having → Type 0
    HavingLonger low a b = (b ≡ having_longer a) × (low ≤ a.state.nacks)

    abbrev FormedLonger : ℕ → Formed → Formed → Type 0
    FormedLonger low a b = (b ≡ formed_longer a) × (low ≤ a.state.nacks) × (Without a.tree ⊎ ((low ≤ k) × (k < a.state.nacks)))

    abbrev Nothing' : {A : Type 0} → A → Type 0
    Nothing' a = ⊥

    -- COMMITS

    received_both : (low : ℕ) (names : Option (List ℕ)) (m : Message) (s : State) → low ≤ s.nacks → Both low (received names m s) (received names m (longer s)) (Longer low) Nothing'
    received_both low names m s le =
        bind_both low (given s (with_names names m s.store)) (given (longer s) (with_names names m s.store)) _ _ (λ a b. b ≡ a) Nothing' (Longer low) Nothing' (given_both low s _ Nothing')
        (λ a b e. (record (longer s) { store = b }, refl, (ap_store s a b e, le)))
        (λ _ b h. absurd h)
      where
        ap_store : (s : State) (a b : Store) → b ≡ a → record (longer s) { store = b } ≡ longer (record s { store = a })
        ap_store s a b e = λ i. record (longer s) { store = e i }

    wrapped_once_both : (low : ℕ) (w : Option Wrapping) (m : Message) (s : State) → low ≤ s.nacks → Both low (wrapped_once w m s) (wrapped_once w m (longer s)) (HavingLonger low) Nothing'
    wrapped_once_both low None m s le = (record { message = m; state = longer s }, refl, (refl, le))
    wrapped_once_both low (Some w) m s le =
        bind_both low (received w.names m s) (received w.names m (longer s)) _ _ (Longer low) Nothing' (HavingLonger low) Nothing' (received_both low w.names m s le)
        (λ a b h.
        let P : State → Type 0 = λ t. Both low (given a (list_value a.store w.list) >>= λ changed. Goes (record { message = changed; state = a })) (given t (list_value t.store w.list) >>= λ changed. Goes (record { message = changed; state = t })) (HavingLonger low) Nothing' in
        subst P (sym h.0)
        (bind_both low (given a (list_value a.store w.list)) (given (longer a) (list_value a.store w.list)) _ _ (λ x y. y ≡ x) Nothing' (HavingLonger low) Nothing' (given_both low a _ Nothing')
        (λ x y e. (record { message = y; state = longer a }, refl, (λ i. record { message = e i; state = longer a }, h.1)))
        (λ _ y i. absurd i)))
        (λ _ b h. absurd h)

    wrapped_both : (low : ℕ) (wraps : List Wrapping) (ns : List ℕ) (m : Message) (s : State) → low ≤ s.nacks → Both low (wrapped wraps ns m s) (wrapped wraps ns m (longer s)) (HavingLonger low) Nothing'
    wrapped_both low wraps [] m s le = (record { message = m; state = longer s }, refl, (refl, le))
    wrapped_both low wraps (n ∷ ns) m s le =
        bind_both low (wrapped_once (slice_get wraps n) m s) (wrapped_once (slice_get wraps n) m (longer s)) _ _ (HavingLonger low) Nothing' (HavingLonger low) Nothing' (wrapped_once_both low (slice_get wraps n) m s le)
        (λ a b h.
        let P : Having → Type 0 = λ t. Both low (wrapped wraps ns a.message a.state) (wrapped wraps ns t.message t.state) (HavingLonger low) Nothing' in
        subst P (sym h.0) (wrapped_both low wraps ns a.message a.state h.1))
        (λ _ b h. absurd h)

    committed_both : (low : ℕ) (names : Option (List ℕ)) (f g : Formed) (numbers : Option (List ℕ)) (m : Message) (s : State) → g.wraps ≡ f.wraps → low ≤ s.nacks →
        Both low (committed names f numbers m s) (committed names g numbers m (longer s)) (Longer low) Nothing'
    committed_both low names f g None m s same le = tt
    committed_both low names f g (Some numbers) m s same le =
        let P : List Wrapping → Type 0 = λ wraps. Both low (wrapped f.wraps numbers m s >>= λ h. received names h.message h.state) (wrapped wraps numbers m (longer s) >>= λ h. received names h.message h.state) (Longer low) Nothing' in
        subst P (sym same)
        (bind_both low (wrapped f.wraps numbers m s) (wrapped f.wraps numbers m (longer s)) _ _ (HavingLonger low) Nothing' (Longer low) Nothing' (wrapped_both low f.wraps numbers m s le)
        (λ a b h.
        let S : Having → Type 0 = λ t. Both low (received names a.message a.state) (received names t.message t.state) (Longer low) Nothing' in
        subst S (sym h.0) (received_both low names a.message a.state h.1))
        (λ _ b h. absurd h))

    quiet_any : {A : Type 0} (y : Outcome A) (Q : A → Type 0) → Quiet y Nothing' → Quiet y Q
    quiet_any (Goes a) Q h = absurd h
    quiet_any (Offers tree printed) Q h = h
    quiet_any (Finishes printed left) Q h = tt
    quiet_any (Fails fault printed left) Q h = tt
    quiet_any Strays Q h = tt

    both_any : {A : Type 0} (low : ℕ) (x y : Outcome A) (R : A → A → Type 0) (Q : A → Type 0) → Both low x y R Nothing' → Both low x y R Q
    both_any low (Goes a) y R Q h = h
    both_any low (Offers tree printed) y R Q h = λ has. let w = h has in (w.0, quiet_any y Q w.1)
    both_any low (Finishes printed left) y R Q h = tt
    both_any low (Fails fault printed left) y R Q h = tt
    both_any low Strays y R Q h = tt

    synced_with_both : (low : ℕ) (names : Option (List ℕ)) (f : Formed) (left : List Chosen) → FormedLonger low f (formed_longer f) →
        Both low (synced_with names f left) (synced_with names (formed_longer f) (left ++ r ∷ others)) (Longer low) Behind
    synced_with_both low names f [] h = λ has. ⊎_elim
        (λ w. absurd (has w))
        (λ w. (w.0, quiet_committed names (formed_longer f) (wraps_at f.tree r.0) r.1 (record f.state { left = others }) w.1))
        h.2
    synced_with_both low names f (c ∷ left) h =
        let s : State = record f.state { left = left } in
        both_any low (committed names f (wraps_at f.tree c.0) c.1 s) (committed names (formed_longer f) (wraps_at f.tree c.0) c.1 (longer s)) (Longer low) Behind
        (committed_both low names f (formed_longer f) (wraps_at f.tree c.0) c.1 s refl h.1)

    synced_both : (low : ℕ) (names : Option (List ℕ)) (f g : Formed) → FormedLonger low f g → Both low (synced names f) (synced names g) (Longer low) Behind
    synced_both low names f g h =
        subst (λ (x : Formed). Both low (synced names f) (synced names x) (Longer low) Behind) (sym h.0)
        (synced_with_both low names f f.state.left (refl, h.1, h.2))

    -- LOOPS

    abbrev TurnBoth : LoopBody → Type 0
    TurnBoth turn = (low : ℕ) (s : State) → low ≤ s.nacks → Both low (turn_on turn s) (turn_on turn (longer s)) (Longer low) Behind

    times_both : (n : ℕ) (turn : LoopBody) → TurnBoth turn → (low : ℕ) (s : State) → low ≤ s.nacks → Both low (times n (turn_on turn) s) (times n (turn_on turn) (longer s)) (Longer low) Behind
    times_both zero turn both low s le = (longer s, refl, (refl, le))
    times_both (suc n) turn both low s le =
        bind_both low (turn_on turn s) (turn_on turn (longer s)) (times n (turn_on turn)) (times n (turn_on turn)) (Longer low) Behind (Longer low) Behind (both low s le)
        (λ a b h. subst (λ (t : State). Both low (times n (turn_on turn) a) (times n (turn_on turn) t) (Longer low) Behind) (sym h.0) (times_both n turn both low a h.1))
        (λ _ b h. quiet_times n turn b h)

    -- with more turns than the short run has results
    endless_both : (n m : ℕ) (turn : LoopBody) → TurnBoth turn → (low : ℕ) (s : State) → low ≤ s.nacks → length s.left < n → n ≤ m →
        Both low (times n (turn_on turn) s) (times m (turn_on turn) (longer s)) (Longer low) Behind
    endless_both zero m turn both low s le few more = absurd (omega (arith, few))
    endless_both (suc n) zero turn both low s le few more = absurd (omega (arith, more))
    endless_both (suc n) (suc m) turn both low s le few more =
        bind_both low (turn_on turn s) (turn_on turn (longer s)) (times n (turn_on turn)) (times m (turn_on turn)) (λ a b. Longer low a b × (length a.left < length s.left)) Behind (Longer low) Behind
        (both_and low (turn_on turn s) (turn_on turn (longer s)) (Longer low) Behind (λ t. length t.left < length s.left) (both low s le) (turn_takes turn s))
        (λ a b h. subst (λ (t : State). Both low (times n (turn_on turn) a) (times m (turn_on turn) t) (Longer low) Behind) (sym h.0.0)
        (endless_both n m turn both low a h.0.1 (omega (arith, h.1, few)) (omega (arith, more))))
        (λ _ b h. quiet_times m turn b h)

    turn_both : (turn : LoopBody) → ((low : ℕ) (s : State) → low ≤ s.nacks → Both low (resolve turn.event [] s) (resolve turn.event [] (longer s)) (FormedLonger low) FormedBehind) →
        ((low : ℕ) (s : State) → low ≤ s.nacks → Both low (run_block turn.rest s) (run_block turn.rest (longer s)) (Longer low) Behind) → TurnBoth turn
    turn_both turn forms keeps low s le =
        bind_both low (resolve turn.event [] s >>= synced turn.names) (resolve turn.event [] (longer s) >>= synced turn.names) (run_block turn.rest) (run_block turn.rest) (Longer low) Behind (Longer low) Behind
        (bind_both low (resolve turn.event [] s) (resolve turn.event [] (longer s)) (synced turn.names) (synced turn.names) (FormedLonger low) FormedBehind (Longer low) Behind (forms low s le)
        (λ a b h. synced_both low turn.names a b h) (λ _ b h. quiet_synced turn.names b h))
        (λ a b h. subst (λ (t : State). Both low (run_block turn.rest a) (run_block turn.rest t) (Longer low) Behind) (sym h.0) (keeps low a h.1))
        (λ _ b h. quiet_block turn.rest b h)

    -- EVERY PART

    base_both : (low : ℕ) (wraps : List Wrapping) (s : State) (x : Result Base Fault) → low ≤ s.nacks → Both low (given s x >>= formed wraps s) (given (longer s) x >>= formed wraps (longer s)) (FormedLonger low) FormedBehind
    base_both low wraps s (Ok base) le = (record { tree = Single base; wraps = wraps; state = longer s }, refl, (refl, le, inl (any_base base)))
    base_both low wraps s (Err fault) le = tt

    with_nack_both : (low name : ℕ) (s : State) → Both low (with_nack name s) (with_nack name (longer s)) (Longer (s.nacks + 1)) Behind
    with_nack_both low name s = at_limit (nat_le 64 s.nacks)
      where
        with_one : State → State
        with_one t = with_variable name (Nack (record { thread = t.thread; k = t.nacks })) (record t { nacks = t.nacks + 1 })

        at_limit : (full : Bool) → Both low (if full then Fails Range s.said s.left else Goes (with_one s)) (if full then Fails Range (longer s).said (longer s).left else Goes (with_one (longer s))) (Longer (s.nacks + 1)) Behind
        at_limit true = tt
        at_limit false = (with_one (longer s), refl, (refl, omega arith))

    if_both : {A : Type 0} (b : Bool) (low : ℕ) (x y v w : Outcome A) (R : A → A → Type 0) (Q : A → Type 0) → Both low x y R Q → Both low v w R Q → Both low (if b then x else v) (if b then y else w) R Q
    if_both true low x y v w R Q first second = first
    if_both false low x y v w R Q first second = second

    quiet_if : {A : Type 0} (b : Bool) (x y : Outcome A) (Q : A → Type 0) → Quiet x Q → Quiet y Q → Quiet (if b then x else y) Q
    quiet_if true x y Q first second = first
    quiet_if false x y Q first second = second

    mutual
      pub block_both : (b : Block) (low : ℕ) (s : State) → low ≤ s.nacks → Both low (run_block b s) (run_block b (longer s)) (Longer low) Behind
      block_both Stops low s le = (longer s, refl, (refl, le))
      block_both (Runs stmt rest) low s le =
          bind_both low (run_stmt stmt s) (run_stmt stmt (longer s)) (run_block rest) (run_block rest) (Longer low) Behind (Longer low) Behind (stmt_both stmt low s le)
          (λ a b h. subst (λ (t : State). Both low (run_block rest a) (run_block rest t) (Longer low) Behind) (sym h.0) (block_both rest low a h.1))
          (λ _ b h. quiet_block rest b h)

      stmt_both : (stmt : Stmt) (low : ℕ) (s : State) → low ≤ s.nacks → Both low (run_stmt stmt s) (run_stmt stmt (longer s)) (Longer low) Behind
      stmt_both (Lets name value) low s le =
          bind_both low (given s (expr_value s.store value)) (given (longer s) (expr_value s.store value)) _ _ (λ a b. b ≡ a) Nothing' (Longer low) Behind (given_both low s _ Nothing')
          (λ a b e. (with_variable name b (longer s), refl, (λ i. with_variable name (e i) (longer s), le)))
          (λ _ b h. absurd h)
      stmt_both (Prints value) low s le =
          bind_both low (given s (expr_value s.store value)) (given (longer s) (expr_value s.store value)) _ _ (λ a b. b ≡ a) Nothing' (Longer low) Behind (given_both low s _ Nothing')
          (λ a b e. (record (longer s) { said = with_printed b s.said }, refl, (λ i. record (longer s) { said = with_printed (e i) s.said }, le)))
          (λ _ b h. absurd h)
      stmt_both (Syncs names event) low s le =
          bind_both low (resolve event [] s) (resolve event [] (longer s)) (synced names) (synced names) (FormedLonger low) FormedBehind (Longer low) Behind (event_both event [] low s le)
          (λ a b h. synced_both low names a b h) (λ _ b h. quiet_synced names b h)
      stmt_both (Branches test first second) low s le =
          bind_both low (given s (test_value s.store test)) (given (longer s) (test_value s.store test)) _ _ (λ a b. b ≡ a) Nothing' (Longer low) Behind (given_both low s _ Nothing')
          (λ a b e. subst (λ (x : Bool). Both low (if a then run_block first s else run_block second s) (if x then run_block first (longer s) else run_block second (longer s)) (Longer low) Behind) (sym e)
          (if_both a low (run_block first s) (run_block first (longer s)) (run_block second s) (run_block second (longer s)) (Longer low) Behind (block_both first low s le) (block_both second low s le)))
          (λ _ b h. absurd h)
      stmt_both (Loops number names event rest) low s le =
          let turn : LoopBody = record { names = names; event = event; rest = rest } in
          times_both number turn (turn_both turn (event_both event []) (block_both rest)) low s le
      stmt_both (LoopsForever names event rest) low s le =
          let turn : LoopBody = record { names = names; event = event; rest = rest } in
          endless_both (suc (length s.left)) (suc (length (s.left ++ r ∷ others))) turn (turn_both turn (event_both event []) (block_both rest)) low s le (omega arith)
          (omega (arith, length-append s.left (r ∷ others)))
      stmt_both Ends low s le = tt
      stmt_both (Spawns process) low s le = (record (longer s) { said = with_spawned process s.said }, refl, (refl, le))

      event_both : (event : Event) (wraps : List Wrapping) (low : ℕ) (s : State) → low ≤ s.nacks → Both low (resolve event wraps s) (resolve event wraps (longer s)) (FormedLonger low) FormedBehind
      event_both (Sends channel list) wraps low s le = base_both low wraps s (send_value s.store channel list) le
      event_both (Receives channel) wraps low s le = base_both low wraps s (recv_value s.store channel) le
      event_both (IsReady list) wraps low s le = base_both low wraps s (always_value s.store list) le
      event_both IsNever wraps low s le = (record { tree = Single Never; wraps = wraps; state = longer s }, refl, (refl, le, inl tt))
      event_both (IsJoined process) wraps low s le = (record { tree = Single (OnEnd process); wraps = wraps; state = longer s }, refl, (refl, le, inl tt))
      event_both (IsCancelled nack) wraps low s le = base_both low wraps s (cancelled_value s.store nack) le
      event_both (Chooses members) wraps low s le = members_both members wraps low s le
      event_both (Wraps event names list) wraps low s le =
          bind_both low (resolve event _ s) (resolve event _ (longer s)) (as_wrap (length wraps)) (as_wrap (length wraps)) (FormedLonger low) FormedBehind (FormedLonger low) FormedBehind (event_both event _ low s le)
          (λ a b h. (record b { tree = Wrap (length wraps) b.tree }, refl, (λ i. record (h.0 i) { tree = Wrap (length wraps) (h.0 i).tree }, h.1, h.2)))
          (λ _ b h. h)
      event_both (Guards body event) wraps low s le =
          bind_both low (run_block body s) (run_block body (longer s)) (resolve event wraps) (resolve event wraps) (Longer low) Behind (FormedLonger low) FormedBehind (block_both body low s le)
          (λ a b h. subst (λ (t : State). Both low (resolve event wraps a) (resolve event wraps t) (FormedLonger low) FormedBehind) (sym h.0) (event_both event wraps low a h.1))
          (λ _ b h. quiet_event event wraps b h)
      event_both (Nacks name body event) wraps low s le =
          let up = s.nacks + 1 in
          both_weaker s.nacks low (with_nack name s >>= run_block body >>= resolve event wraps >>= as_scope s.nacks) (with_nack name (longer s) >>= run_block body >>= resolve event wraps >>= as_scope s.nacks) (FormedLonger s.nacks) (FormedLonger low) FormedBehind le
          (λ a b h. (h.0, omega (arith, le, h.1), ⊎_elim (λ w. inl w) (λ w. inr (omega (arith, le, w.0), w.1)) h.2))
          (both_weaker up s.nacks _ _ (FormedLonger s.nacks) (FormedLonger s.nacks) FormedBehind (omega arith) (λ a b h. h)
          (bind_both up (with_nack name s >>= run_block body >>= resolve event wraps) (with_nack name (longer s) >>= run_block body >>= resolve event wraps) (as_scope s.nacks) (as_scope s.nacks) (FormedLonger up) FormedBehind (FormedLonger s.nacks) FormedBehind
          (bind_both up (with_nack name s >>= run_block body) (with_nack name (longer s) >>= run_block body) (resolve event wraps) (resolve event wraps) (Longer up) Behind (FormedLonger up) FormedBehind
          (bind_both up (with_nack name s) (with_nack name (longer s)) (run_block body) (run_block body) (Longer up) Behind (Longer up) Behind (with_nack_both up name s)
          (λ a b h. subst (λ (t : State). Both up (run_block body a) (run_block body t) (Longer up) Behind) (sym h.0) (block_both body up a h.1))
          (λ _ b h. quiet_block body b h))
          (λ a b h. subst (λ (t : State). Both up (resolve event wraps a) (resolve event wraps t) (FormedLonger up) FormedBehind) (sym h.0) (event_both event wraps up a h.1))
          (λ _ b h. quiet_event event wraps b h))
          (λ a b h. (
            record b { tree = Scope s.nacks b.tree },
            refl,
            (
              λ i. record (h.0 i) { tree = Scope s.nacks (h.0 i).tree },
              omega (arith, h.1),
              ⊎_elim
                  (λ w. ⊎_elim (λ e. inr (omega (arith, e), omega (arith, e, h.1))) (λ ne. inl (ne, w)) (cases_eq s.nacks k))
                  (λ w. inr (omega (arith, w.0), w.1)) h.2,
            ),
          ))
          (λ above b h. (h.0, (λ e. omega (arith, e, above), h.1)))))

      members_both : (members : Events) (wraps : List Wrapping) (low : ℕ) (s : State) → low ≤ s.nacks → Both low (resolve_all members wraps s) (resolve_all members wraps (longer s)) (FormedLonger low) FormedBehind
      members_both NoMembers wraps low s le = (record { tree = Nothing; wraps = wraps; state = longer s }, refl, (refl, le, inl tt))
      members_both (Members event others') wraps low s le =
          bind_both low (resolve event wraps s) (resolve event wraps (longer s)) _ _ (FormedLonger low) FormedBehind (FormedLonger low) FormedBehind (event_both event wraps low s le)
          (λ f g h.
          let low' = f.state.nacks in
          subst (λ (x : Formed). Both low (resolve_all others' f.wraps f.state >>= as_first f) (resolve_all others' x.wraps x.state >>= as_first x) (FormedLonger low) FormedBehind) (sym h.0)
          (both_weaker low' low (resolve_all others' f.wraps f.state >>= as_first f) (resolve_all others' f.wraps (longer f.state) >>= as_first (formed_longer f)) (FormedLonger low) (FormedLonger low) FormedBehind h.1 (λ a b i. i)
          (bind_both low' (resolve_all others' f.wraps f.state) (resolve_all others' f.wraps (longer f.state)) (as_first f) (as_first (formed_longer f)) (FormedLonger low') FormedBehind (FormedLonger low) FormedBehind
          (members_both others' f.wraps low' f.state (omega arith))
          (λ a b i. (
            record b { tree = Or f.tree b.tree },
            refl,
            (
              λ j. record (i.0 j) { tree = Or f.tree (i.0 j).tree },
              omega (arith, h.1, i.1),
              ⊎_elim
                  (λ w. ⊎_elim (λ v. inl (w, v)) (λ v. inr (omega (arith, h.1, v.0), v.1)) i.2)
                  (λ w. inr (w.0, omega (arith, w.1, i.1))) h.2,
            ),
          ))
          (λ above b i. ⊎_elim (λ w. (i.0, (w, i.1))) (λ w. absurd (omega (arith, above, w.1))) h.2))))
          (λ _ b h. quiet_bind (resolve_all others' b.wraps b.state) (as_first b) FormedBehind FormedBehind (quiet_members others' b.wraps b.state h.0) (λ g i. (i.0, (h.1, i.1))))

    -- WHOLE PROCESSES

    pub after_both : (body : Block) (variables thread : ℕ) (results : List Chosen) → Both 0 (after body variables thread results) (after body variables thread (results ++ r ∷ others)) (λ a b. ⊤) (λ a. ⊤)
    after_both body variables thread results =
        bind_both 0 (run_block body (start thread variables results)) (run_block body (start thread variables (results ++ r ∷ others))) finished finished (Longer 0) Behind (λ a b. ⊤) (λ a. ⊤)
        (block_both body 0 (start thread variables results) (omega arith))
        (λ a b h. tt)
        (λ _ b h. tt)
