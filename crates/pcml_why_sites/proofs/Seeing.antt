-- A walk sees how a process stands.
use Rattle.std.proofs.Common.{◌≡◌, ℕ, zero, suc, List, [], ◌∷◌, ◌++◌, Option, None, Some, Result, Bool, true, false, length, refl, sym, ap, ◌∙◌, subst, subst₂, arith, append_assoc, append-nil, nat_le}
use Rattle.std.specs.Prelude.{◌<◌, ⊤, if◌then◌else◌}
use Rattle.event.specs.Tree.{Single, Or, Wrap, Scope, wraps_at}
use Rattle.script_tree.specs.Trees.{Event, Sends, Receives, IsReady, IsNever, IsCancelled, IsJoined, Chooses, Wraps, Guards, Nacks as NacksEvent, Events, NoMembers, Members, Stmt, Lets, Prints, Syncs, Branches, Loops, LoopsForever, Ends, Spawns, Block, Stops, Runs}
use Rattle.protocol_values.specs.declared.Base.{Base}
use Rattle.protocol_values.specs.declared.Base.TheVariants.{OnEnd, Never}
use Rattle.protocol_values.specs.declared.Message.{Message}
use Rattle.thread.specs.After.{Chosen, State, Wrapping, Having, Formed, start}
use Rattle.pcml_why_sites.specs.Standing.{Standing, Goes, Offers, Finishes, Fails, Strays, ◌>>=◌, given, received, wrapped, committed, synced_with, synced, times, send_value, recv_value, always_value, cancelled_value, formed, with_nack, run_block, run_stmt, resolve, resolve_all, finished, standing}
use Rattle.pcml_why_sites.specs.Troubles.{expr_value, test_value}
use Rattle.pcml_why_sites.specs.Walks as walks
use Rattle.pcml_why_sites.specs.Walks.{View, view_of, Walked, On, Halts, ◌>>=◌ as ◌>>>◌, walk_names, wrapped_in, pass, pass_all, passed, taken, walk_nack, walk_block, walk_stmt, walk_event, walk_members, walk_start}
use Rattle.pcml_why_sites.specs.WalkEnds as ends
use Rattle.pcml_why_sites.specs.Stands.{IsTold}
use Rattle.pcml_why_sites.specs.declared.stand.Stand.{Stand}
use Rattle.pcml_why_sites.specs.declared.stand.Stand.TheVariants as told
use Rattle.pcml_why_sites.specs.declared.trouble.Trouble.{Trouble}
use Rattle.pcml_why_sites.specs.declared.walk.Passage.{Passage}
use Rattle.pcml_why_sites.specs.declared.walk.Passage.TheVariants.{Through, Past}
use Rattle.pcml_why_sites.specs.declared.walk.Stop.TheVariants as stop
use Rattle.pcml_why_sites.proofs.Passing.{Seen, bind_seen, map_seen, StateSeen, bind_states, value_seen, HavingSeen, received_seen, Carries, TreeCarries, base_carries, wrap_tree, scope_tree, or_tree}

-- an event that was resolved: wraps were put behind those before, and its tree carries what passes, whatever comes behind
record FormedAs (passes : ℕ → Message → View → Walked Passage) (wraps : List Wrapping) (f : Formed) : Type 0 where
  more : List Wrapping
  is : f.wraps ≡ wraps ++ more
  carries : (later : List Wrapping) → TreeCarries passes (f.wraps ++ later) f.tree

abbrev FormedSeen : (ℕ → Message → View → Walked Passage) → List Wrapping → Formed → ⊤ → View → Type 0
FormedSeen passes wraps f done v = (view_of f.state ≡ v) × FormedAs passes wraps f

base_formed : (wraps : List Wrapping) (s : State) (b : Base) → FormedSeen passed wraps (record { tree = Single b; wraps = wraps; state = s }) tt (view_of s)
base_formed wraps s b = (refl, record { more = []; is = sym (append-nil wraps); carries = λ later. base_carries (wraps ++ later) b })

base_seen : (wraps : List Wrapping) (s : State) (r : Result Base Trouble) → Seen (FormedSeen passed wraps) (given s r >>= formed wraps s) (walks.given (view_of s) r >>> λ base. On tt)
base_seen wraps s r = value_seen (FormedSeen passed wraps) s r (formed wraps s) (λ base. On tt) (base_formed wraps s)

wrap_formed : (passes : ℕ → Message → View → Walked Passage) (wraps : List Wrapping) (w : Wrapping) (f : Formed) → FormedAs passes (wraps ++ w ∷ []) f →
    FormedAs (λ n m v. passes n m v >>> wrapped_in w.names w.list) wraps (record f { tree = Wrap (length wraps) f.tree })
wrap_formed passes wraps w f h =
    let is : f.wraps ≡ wraps ++ w ∷ h.more = h.is ∙ append_assoc wraps (w ∷ []) h.more in
    record {
      more = w ∷ h.more;
      is = is;
      carries = λ later.
          let all : f.wraps ++ later ≡ wraps ++ w ∷ (h.more ++ later) = ap (λ ws. ws ++ later) is ∙ append_assoc wraps (w ∷ h.more) later in
          subst (λ ws. TreeCarries (λ n m v. passes n m v >>> wrapped_in w.names w.list) ws (Wrap (length wraps) f.tree)) (sym all)
          (wrap_tree passes wraps (h.more ++ later) w f.tree (subst (λ ws. TreeCarries passes ws f.tree) all (h.carries later)));
    }

scope_formed : (passes : ℕ → Message → View → Walked Passage) (wraps : List Wrapping) (k : ℕ) (f : Formed) → FormedAs passes wraps f → FormedAs passes wraps (record f { tree = Scope k f.tree })
scope_formed passes wraps k f h = record { more = h.more; is = h.is; carries = λ later. scope_tree passes (f.wraps ++ later) k f.tree (h.carries later) }

or_formed : (passes others : ℕ → Message → View → Walked Passage) (wraps : List Wrapping) (f g : Formed) → FormedAs passes wraps f → FormedAs others f.wraps g →
    FormedAs (λ n m v. passes n m v >>> walks.or_else (λ left w. others left m w)) wraps (record g { tree = Or f.tree g.tree })
or_formed passes others wraps f g h k = record {
  more = h.more ++ k.more;
  is = k.is ∙ ap (λ ws. ws ++ k.more) h.is ∙ append_assoc wraps h.more k.more;
  carries = λ later.
      let all : f.wraps ++ (k.more ++ later) ≡ g.wraps ++ later = sym (append_assoc f.wraps k.more later) ∙ ap (λ ws. ws ++ later) (sym k.is) in
      or_tree passes others (g.wraps ++ later) f.tree g.tree (subst (λ ws. TreeCarries passes ws f.tree) all (h.carries (k.more ++ later))) (k.carries later);
}

-- COMMITS

committed_seen : (names : Option (List ℕ)) (f : Formed) (count n : ℕ) (p : Walked Passage) (m : Message) (s : State) (x : Option (List ℕ)) → Carries f.wraps count p n m s x → Seen StateSeen (committed names f x m s) (p >>> walks.committed names)
committed_seen names f count n p m s (Some numbers) h = bind_seen HavingSeen StateSeen (wrapped f.wraps numbers m s) p _ _ h through
  where
    through : (h : Having) (b : Passage) (v : View) → HavingSeen h b v → Seen StateSeen (received names h.message h.state) (walks.committed names b v)
    through h (Through changed) v is = subst₂ (λ m u. Seen StateSeen (received names h.message h.state) (walk_names names m u)) is.0 is.1 (received_seen names h.message h.state)
    through h (Past left) v is = absurd is
committed_seen names f count n p m s None h = subst (λ q. Seen StateSeen Strays (q >>> walks.committed names)) (sym h.2) tt

taken_seen : (names : Option (List ℕ)) (e : Event) (f : Formed) (left : List Chosen) → FormedAs (pass e) [] f → Seen StateSeen (synced_with names f left) (taken names e left (view_of f.state))
taken_seen names e f [] h = refl
taken_seen names e f (c ∷ left) h =
    let s = record f.state { left = left } in
    committed_seen names f _ c.0 (pass e c.0 c.1 (view_of s)) c.1 s (wraps_at f.tree c.0) (subst (λ ws. TreeCarries (pass e) ws f.tree) (append-nil f.wraps) (h.carries []) c.0 c.1 s)

-- a sync, whose event is seen
sync_seen : (names : Option (List ℕ)) (e : Event) (x : Standing Formed) (y : Walked ⊤) → Seen (FormedSeen (pass e) []) x y → Seen StateSeen (x >>= synced names) (y >>> walks.synced names e)
sync_seen names e x y h =
    bind_seen (FormedSeen (pass e) []) StateSeen x y (synced names) (walks.synced names e) h
    (λ f done v k. subst (λ w. Seen StateSeen (synced names f) (taken names e w.left w)) k.0 (taken_seen names e f f.state.left k.1))

-- LOOPS AND NACKS

times_seen : (n : ℕ) (one : State → Standing State) (other : View → Walked ⊤) → ((s : State) → Seen StateSeen (one s) (other (view_of s))) → (s : State) → Seen StateSeen (times n one s) (walks.times n other (view_of s))
times_seen zero one other same s = refl
times_seen (suc n) one other same s = bind_states StateSeen (one s) (other (view_of s)) (times n one) (λ done. walks.times n other) (same s) (times_seen n one other same)

if_seen : (b : Bool) (x y : Standing State) (v w : Walked ⊤) → Seen StateSeen x v → Seen StateSeen y w → Seen StateSeen (if b then x else y) (if b then v else w)
if_seen true x y v w first second = first
if_seen false x y v w first second = second

nack_seen : (name : ℕ) (s : State) → Seen StateSeen (with_nack name s) (walk_nack name (view_of s))
nack_seen name s = if_seen (nat_le 64 s.nacks) _ _ _ _ (refl, refl) refl

-- STATEMENTS AND EVENTS

turn_seen : (names : Option (List ℕ)) (e : Event) (one : State → Standing Formed) (other : View → Walked ⊤) (rest : State → Standing State) (more : View → Walked ⊤) → ((s : State) → Seen (FormedSeen (pass e) []) (one s) (other (view_of s))) → ((s : State) → Seen StateSeen (rest s) (more (view_of s)))
    → (s : State) → Seen StateSeen (one s >>= synced names >>= rest) (other (view_of s) >>> walks.synced names e >>> λ done. more)
turn_seen names e one other rest more same behind s =
    bind_states StateSeen (one s >>= synced names) (other (view_of s) >>> walks.synced names e) rest (λ done. more) (sync_seen names e (one s) (other (view_of s)) (same s)) behind

mutual
  pub block_seen : (b : Block) (s : State) → Seen StateSeen (run_block b s) (walk_block b (view_of s))
  block_seen Stops s = refl
  block_seen (Runs stmt rest) s = bind_states StateSeen (run_stmt stmt s) (walk_stmt stmt (view_of s)) (run_block rest) (λ done. walk_block rest) (stmt_seen stmt s) (block_seen rest)

  stmt_seen : (stmt : Stmt) (s : State) → Seen StateSeen (run_stmt stmt s) (walk_stmt stmt (view_of s))
  stmt_seen (Lets name value) s = value_seen StateSeen s (expr_value s.store value) _ _ (λ atom. refl)
  stmt_seen (Prints value) s = value_seen StateSeen s (expr_value s.store value) _ _ (λ atom. refl)
  stmt_seen (Syncs names event) s = sync_seen names event (resolve event [] s) (walk_event event (view_of s)) (event_seen event [] s)
  stmt_seen (Branches test first second) s =
      value_seen StateSeen s (test_value s.store test) _ _ (λ holds. if_seen holds _ _ _ _ (block_seen first s) (block_seen second s))
  stmt_seen (Loops number names event rest) s =
      times_seen number (λ t. resolve event [] t >>= synced names >>= run_block rest) (λ v. walk_event event v >>> walks.synced names event >>> λ done. walk_block rest) (turn_seen names event (resolve event []) (walk_event event) (run_block rest) (walk_block rest) (event_seen event []) (block_seen rest)) s
  stmt_seen (LoopsForever names event rest) s =
      times_seen (suc (length s.left)) (λ t. resolve event [] t >>= synced names >>= run_block rest) (λ v. walk_event event v >>> walks.synced names event >>> λ done. walk_block rest) (turn_seen names event (resolve event []) (walk_event event) (run_block rest) (walk_block rest) (event_seen event []) (block_seen rest)) s
  stmt_seen Ends s = refl
  stmt_seen (Spawns process) s = refl

  event_seen : (e : Event) (wraps : List Wrapping) (s : State) → Seen (FormedSeen (pass e) wraps) (resolve e wraps s) (walk_event e (view_of s))
  event_seen (Sends channel list) wraps s = base_seen wraps s (send_value s.store channel list)
  event_seen (Receives channel) wraps s = base_seen wraps s (recv_value s.store channel)
  event_seen (IsReady list) wraps s = base_seen wraps s (always_value s.store list)
  event_seen IsNever wraps s = base_formed wraps s Never
  event_seen (IsCancelled nack) wraps s = base_seen wraps s (cancelled_value s.store nack)
  event_seen (IsJoined process) wraps s = base_formed wraps s (OnEnd process)
  event_seen (Chooses members) wraps s = members_seen members wraps s
  event_seen (Wraps event names list) wraps s =
      let w : Wrapping = record { names = names; list = list } in
      map_seen (FormedSeen (pass event) (wraps ++ w ∷ [])) (FormedSeen (pass (Wraps event names list)) wraps) (resolve event (wraps ++ w ∷ []) s) (walk_event event (view_of s)) (λ f. record f { tree = Wrap (length wraps) f.tree }) (event_seen event (wraps ++ w ∷ []) s)
      (λ f done v k. (k.0, wrap_formed (pass event) wraps w f k.1))
  event_seen (Guards body event) wraps s =
      bind_states (FormedSeen (pass event) wraps) (run_block body s) (walk_block body (view_of s)) (resolve event wraps) (λ done. walk_event event) (block_seen body s) (event_seen event wraps)
  event_seen (NacksEvent name body event) wraps s =
      map_seen (FormedSeen (pass event) wraps) (FormedSeen (pass event) wraps) (with_nack name s >>= run_block body >>= resolve event wraps) (walk_nack name (view_of s) >>> (λ done. walk_block body) >>> λ done. walk_event event) (λ f. record f { tree = Scope s.nacks f.tree })
      (bind_states (FormedSeen (pass event) wraps) (with_nack name s >>= run_block body) (walk_nack name (view_of s) >>> λ done. walk_block body) (resolve event wraps) (λ done. walk_event event)
      (bind_states StateSeen (with_nack name s) (walk_nack name (view_of s)) (run_block body) (λ done. walk_block body) (nack_seen name s) (block_seen body)) (event_seen event wraps))
      (λ f done v k. (k.0, scope_formed (pass event) wraps s.nacks f k.1))

  members_seen : (es : Events) (wraps : List Wrapping) (s : State) → Seen (FormedSeen (pass_all es) wraps) (resolve_all es wraps s) (walk_members es (view_of s))
  members_seen NoMembers wraps s = (refl, record { more = []; is = sym (append-nil wraps); carries = λ later n m t. (n, omega arith, refl) })
  members_seen (Members event others) wraps s =
      bind_seen (FormedSeen (pass event) wraps) (FormedSeen (pass_all (Members event others)) wraps) (resolve event wraps s) (walk_event event (view_of s)) _ (λ done. walk_members others) (event_seen event wraps s)
      (λ f done v k.
      map_seen (FormedSeen (pass_all others) f.wraps) (FormedSeen (pass_all (Members event others)) wraps) (resolve_all others f.wraps f.state) (walk_members others v) (λ g. record g { tree = Or f.tree g.tree })
      (subst (λ u. Seen (FormedSeen (pass_all others) f.wraps) (resolve_all others f.wraps f.state) (walk_members others u)) k.0 (members_seen others f.wraps f.state))
      (λ g done w l. (l.0, or_formed (pass event) (pass_all others) wraps f g k.1 l.1)))

-- WHOLE BODIES

-- what is told at the end of a walk is how the process stands
ends_told : (x : Standing State) (y : Walked ⊤) (stand : Stand) → Seen StateSeen x y → ends.IsTold y stand → IsTold (x >>= finished) stand
ends_told (Goes s) (On done v) told.Finishes h is = ap (λ (w : View). w.left) h ∙ is
ends_told (Goes s) (On done v) told.Strays h is = subst (λ (w : View). 0 < length w.left) (sym h) is
ends_told (Goes s) (On done v) stand h is = absurd is
ends_told (Finishes s) (Halts stop.Finishes v) told.Finishes h is = ap (λ (w : View). w.left) h ∙ is
ends_told (Finishes s) (Halts stop.Finishes v) told.Strays h is = subst (λ (w : View). 0 < length w.left) (sym h) is
ends_told (Finishes s) (Halts stop.Finishes v) stand h is = absurd is
ends_told (Offers tree s) (Halts stop.Offers v) (told.Offers variables) h is = is ∙ sym (ap (λ (w : View). w.store) h)
ends_told (Offers tree s) (Halts stop.Offers v) stand h is = absurd is
ends_told (Fails trouble s) (Halts (stop.Fails u) v) (told.Fails variables t) h is =
    (is.0 ∙ sym (ap (λ (w : View). w.store) h.1), is.1 ∙ h.0, ap (λ (w : View). w.left) h.1 ∙ is.2)
ends_told (Fails trouble s) (Halts (stop.Fails u) v) told.Strays h is = subst (λ (w : View). 0 < length w.left) (sym h.1) is
ends_told (Fails trouble s) (Halts (stop.Fails u) v) stand h is = absurd is
ends_told Strays (Halts stop.Strays v) told.Strays h is = tt
ends_told Strays (Halts stop.Strays v) stand h is = absurd is
ends_told x y stand h is = absurd h

pub walk_told : (body : Block) (variables thread : ℕ) (results : List Chosen) (stand : Stand) → ends.IsTold (walk_block body (walk_start thread variables results)) stand → IsTold (standing body variables thread results) stand
walk_told body variables thread results stand is =
    let s = start thread variables results in
    ends_told (run_block body s) (walk_block body (view_of s)) stand (block_seen body s) is
