-- An event that is resolved stage by stage comes to what it comes to by its parts.
use Rattle.std.proofs.Common.{◌≡◌, ℕ, ◌+◌, ◌≤◌, ◌^◌, List, [], ◌∷◌, ◌++◌, Result, Ok, Err, drop, get_or, length, map, refl, sym, ap, ap₂, ◌∙◌, arith, append_assoc, append-nil, length-append}
use Rattle.std.proofs.lemmas.List.{drop-append-le, length-drop, length-map, map-append}
use Rattle.std.proofs.Math.Seq.{drop-append_seam}
use Rattle.std.proofs.Math.ListN.{get_or-append}
use Rattle.std.specs.Prelude.{⊤, bit_or}
use Rattle.thread_code.specs.Stages.{Stage, Offered, Performed, Made, stages, stages_of_all}
use Rattle.event.specs.Tree.{Single, Nothing, Or, Wrap, Scope}
use Rattle.script_tree.specs.Lined.{base_count, nack_count, bases_of_all, nacks_of_all}
use Rattle.script_tree.specs.Lined.{Event, Sends, Receives, IsReady, IsNever, IsCancelled, IsJoined, Chooses, Wraps, Guards, Nacks, Events, NoMembers, Members, Block}
use Rattle.protocol_values.specs.declared.Base.{Base}
use Rattle.protocol_values.specs.declared.Base.TheVariants.{Never}
use Rattle.protocol_values.specs.declared.Offer.{Offer}
use Rattle.thread.specs.declared.Fault.{Fault}
use Rattle.thread.specs.After.{Wrapping}
use Rattle.thread.specs.Standing.{set_line, State, Outcome, Goes, ◌>>=◌, Formed, given, formed, with_nack, as_wrap, as_scope, as_first, run_block, resolve, resolve_all}
use Rattle.thread.specs.Fitting.{masks, nacks_made}
use Rattle.thread.specs.Resolving.{Lists, Listed, base_value, formed_as, no_lists, run_stage, run_stages, with_offer, with_scope}
use Rattle.thread.specs.Shapes.{choice_with, tree_with, wraps_in, wraps_in_all}
use Rattle.thread.proofs.Going.{IfGoes, bind_assoc, bind_each, bind_goes, bind_same, given_goes, goes_anyhow, goes_weaker}

-- LISTS

abbrev pub bases_of : Lists → List Base
bases_of l = map (λ (o : Offer). o.base) l.offers

abbrev pub joined : Lists → Lists → Lists
joined l m = record { offers = l.offers ++ m.offers; nacks = l.nacks ++ m.nacks }

joined_nothing : (l : Lists) → joined l no_lists ≡ l
joined_nothing l = ap₂ (λ os ns. record { offers = os; nacks = ns }) (append-nil l.offers) (append-nil l.nacks)

joined_assoc : (l m n : Lists) → joined (joined l m) n ≡ joined l (joined m n)
joined_assoc l m n = ap₂ (λ os ns. record { offers = os; nacks = ns }) (append_assoc l.offers m.offers n.offers) (append_assoc l.nacks m.nacks n.nacks)

abbrev behind : Lists → Listed → Listed
behind l r = record r { lists = joined l r.lists }

-- COUNTS

pub masks-append : (ss more : List Stage) → masks (ss ++ more) ≡ masks ss ++ masks more
masks-append [] more = refl
masks-append (Offered event scopes ∷ ss) more = ap (λ ms. scopes ∷ ms) (masks-append ss more)
masks-append (Performed body ∷ ss) more = masks-append ss more
masks-append (Made name ∷ ss) more = masks-append ss more

pub nacks_made-append : (ss more : List Stage) → nacks_made (ss ++ more) ≡ nacks_made ss + nacks_made more
nacks_made-append [] more = omega arith
nacks_made-append (Offered event scopes ∷ ss) more = nacks_made-append ss more
nacks_made-append (Performed body ∷ ss) more = nacks_made-append ss more
nacks_made-append (Made name ∷ ss) more = omega (arith, nacks_made-append ss more)

-- the stages of an event make as many offers and nacks as it has
mutual
  pub offers_of : (a n : ℕ) (e : Event) → length (masks (stages a n e)) ≡ base_count e
  offers_of a n (Sends channel list) = refl
  offers_of a n (Receives channel) = refl
  offers_of a n (IsReady list) = refl
  offers_of a n IsNever = refl
  offers_of a n (IsCancelled nack) = refl
  offers_of a n (IsJoined process) = refl
  offers_of a n (Chooses members) = offers_of_all a n members
  offers_of a n (Wraps e names list) = offers_of a n e
  offers_of a n (Guards body e) = offers_of a n e
  offers_of a n (Nacks name body e) = offers_of (bit_or a (2 ^ n)) (n + 1) e

  pub offers_of_all : (a n : ℕ) (members : Events) → length (masks (stages_of_all a n members)) ≡ bases_of_all members
  offers_of_all a n NoMembers = refl
  offers_of_all a n (Members e others) =
      ap length (masks-append (stages a n e) (stages_of_all a (n + nack_count e) others))
      ∙ length-append (masks (stages a n e)) (masks (stages_of_all a (n + nack_count e) others))
      ∙ ap₂ (λ x y. x + y) (offers_of a n e) (offers_of_all a (n + nack_count e) others)

mutual
  pub nacks_of : (a n : ℕ) (e : Event) → nacks_made (stages a n e) ≡ nack_count e
  nacks_of a n (Sends channel list) = refl
  nacks_of a n (Receives channel) = refl
  nacks_of a n (IsReady list) = refl
  nacks_of a n IsNever = refl
  nacks_of a n (IsCancelled nack) = refl
  nacks_of a n (IsJoined process) = refl
  nacks_of a n (Chooses members) = nacks_of_each a n members
  nacks_of a n (Wraps e names list) = nacks_of a n e
  nacks_of a n (Guards body e) = nacks_of a n e
  nacks_of a n (Nacks name body e) = ap (λ k. 1 + k) (nacks_of (bit_or a (2 ^ n)) (n + 1) e)

  pub nacks_of_each : (a n : ℕ) (members : Events) → nacks_made (stages_of_all a n members) ≡ nacks_of_all members
  nacks_of_each a n NoMembers = refl
  nacks_of_each a n (Members e others) =
      nacks_made-append (stages a n e) (stages_of_all a (n + nack_count e) others)
      ∙ ap₂ (λ x y. x + y) (nacks_of a n e) (nacks_of_each a (n + nack_count e) others)

-- so many offers and nacks
abbrev pub Counts : ℕ → ℕ → Listed → Type 0
Counts bases nacks r = (length r.lists.offers ≡ bases) × (length r.lists.nacks ≡ nacks)

-- WHAT BELONGS TO OTHERS

-- an event takes its base events and its nacks from the front
mutual
  pub tree_front : (w : ℕ) (e : Event) (bs more : List Base) (ns others : List ℕ) → base_count e ≤ length bs → nack_count e ≤ length ns → tree_with w e (bs ++ more) (ns ++ others) ≡ tree_with w e bs ns
  tree_front w (Sends channel list) bs more ns others h k = ap Single (get_or-append bs more Never 0 h)
  tree_front w (Receives channel) bs more ns others h k = ap Single (get_or-append bs more Never 0 h)
  tree_front w (IsReady list) bs more ns others h k = ap Single (get_or-append bs more Never 0 h)
  tree_front w IsNever bs more ns others h k = ap Single (get_or-append bs more Never 0 h)
  tree_front w (IsCancelled nack) bs more ns others h k = ap Single (get_or-append bs more Never 0 h)
  tree_front w (IsJoined process) bs more ns others h k = ap Single (get_or-append bs more Never 0 h)
  tree_front w (Chooses members) bs more ns others h k = choice_front w members bs more ns others h k
  tree_front w (Wraps e names list) bs more ns others h k = ap (Wrap w) (tree_front (w + 1) e bs more ns others h k)
  tree_front w (Guards body e) bs more ns others h k = tree_front w e bs more ns others h k
  tree_front w (Nacks name body e) bs more ns others h k =
      ap₂ Scope (get_or-append ns others 0 0 (omega (arith, k)))
      (ap (tree_with w e (bs ++ more)) (drop-append-le 1 ns others (omega (arith, k))) ∙ tree_front w e bs more (drop 1 ns) others h (omega (arith, k, length-drop 1 ns)))

  pub choice_front : (w : ℕ) (es : Events) (bs more : List Base) (ns others : List ℕ) → bases_of_all es ≤ length bs → nacks_of_all es ≤ length ns → choice_with w es (bs ++ more) (ns ++ others) ≡ choice_with w es bs ns
  choice_front w NoMembers bs more ns others h k = refl
  choice_front w (Members e es) bs more ns others h k =
      ap₂ Or (tree_front w e bs more ns others (omega (arith, h)) (omega (arith, k)))
      (ap₂ (choice_with (w + length (wraps_in e)) es) (drop-append-le (base_count e) bs more (omega (arith, h))) (drop-append-le (nack_count e) ns others (omega (arith, k)))
      ∙ choice_front (w + length (wraps_in e)) es (drop (base_count e) bs) more (drop (nack_count e) ns) others (omega (arith, h, length-drop (base_count e) bs)) (omega (arith, k, length-drop (nack_count e) ns)))

behind_front : {A : Type 0} (k : ℕ) (xs ys : List A) → length xs ≡ k → drop k (xs ++ ys) ≡ ys
behind_front k xs ys h = ap (λ n. drop n (xs ++ ys)) (sym h) ∙ drop-append_seam xs ys

module _ (line : ℕ) where
  -- the body of a guard or a nack, and then the line of the sync
  abbrev performed : Block → State → Outcome State
  performed body s = run_block body s >>= set_line line

  -- STAGES

  -- a stage puts what it makes behind what is there
  stage_behind : (stage : Stage) (l : Lists) (s : State) → run_stage line stage l s ≡ (run_stage line stage no_lists s >>= λ r. Goes (behind l r))
  stage_behind (Offered event scopes) l s =
      sym (bind_assoc (given s (base_value s.store event)) _ _ ∙ bind_each (given s (base_value s.store event)) _ _ (λ base. ap (λ ns. Goes (record { lists = record { offers = l.offers ++ record { base = base; scopes = scopes } ∷ []; nacks = ns }; state = s })) (append-nil l.nacks)))
  stage_behind (Performed body) l s =
      sym (bind_assoc (performed body s) _ _ ∙ bind_each (performed body s) _ _ (λ t. ap (λ m. Goes (record { lists = m; state = t })) (joined_nothing l)))
  stage_behind (Made name) l s =
      sym (bind_assoc (with_nack name s) _ _ ∙ bind_each (with_nack name s) _ _ (λ t. ap (λ os. Goes (record { lists = record { offers = os; nacks = l.nacks ++ s.nacks ∷ [] }; state = t })) (append-nil l.offers)))

  abbrev pub AreBehind : List Stage → Type 0
  AreBehind ss = (l : Lists) (s : State) → run_stages line ss l s ≡ (run_stages line ss no_lists s >>= λ r. Goes (behind l r))

  more_behind : (ss : List Stage) → AreBehind ss → (l : Lists) (r : Listed) → run_stages line ss (joined l r.lists) r.state ≡ (run_stages line ss r.lists r.state >>= λ q. Goes (behind l q))
  more_behind ss are l r =
      are (joined l r.lists) r.state
      ∙ bind_each (run_stages line ss no_lists r.state) _ _ (λ q. ap (λ m. Goes (record q { lists = m })) (joined_assoc l r.lists q.lists))
      ∙ sym (bind_assoc (run_stages line ss no_lists r.state) (λ q. Goes (behind r.lists q)) (λ q. Goes (behind l q)))
      ∙ ap (λ x. x >>= λ q. Goes (behind l q)) (sym (are r.lists r.state))

  pub stages_behind : (ss : List Stage) → AreBehind ss
  stages_behind [] l s = ap (λ m. Goes (record { lists = m; state = s })) (sym (joined_nothing l))
  stages_behind (stage ∷ ss) l s =
      ap (λ x. x >>= λ r. run_stages line ss r.lists r.state) (stage_behind stage l s)
      ∙ bind_assoc (run_stage line stage no_lists s) (λ r. Goes (behind l r)) (λ r. run_stages line ss r.lists r.state)
      ∙ bind_each (run_stage line stage no_lists s) _ _ (more_behind ss (stages_behind ss) l)
      ∙ sym (bind_assoc (run_stage line stage no_lists s) (λ r. run_stages line ss r.lists r.state) (λ r. Goes (behind l r)))

  -- some stages, and then others
  pub stages_then : (ss more : List Stage) (l : Lists) (s : State) → run_stages line (ss ++ more) l s ≡ (run_stages line ss l s >>= λ r. run_stages line more r.lists r.state)
  stages_then [] more l s = refl
  stages_then (stage ∷ ss) more l s =
      bind_each (run_stage line stage l s) _ _ (λ r. stages_then ss more r.lists r.state)
      ∙ sym (bind_assoc (run_stage line stage l s) (λ r. run_stages line ss r.lists r.state) (λ r. run_stages line more r.lists r.state))

  stages_count : (ss : List Stage) (l : Lists) (s : State) → IfGoes (run_stages line ss l s) (Counts (length l.offers + length (masks ss)) (length l.nacks + nacks_made ss))
  stages_count [] l s = (omega arith, omega arith)
  stages_count (Offered event scopes ∷ ss) l s =
      let C = Counts (length l.offers + length (masks (Offered event scopes ∷ ss))) (length l.nacks + nacks_made ss) in
      bind_goes (run_stage line (Offered event scopes) l s) _ (Counts (length l.offers + 1) (length l.nacks)) C
      (bind_goes (given s (base_value s.store event)) _ (λ _. ⊤) (Counts (length l.offers + 1) (length l.nacks)) (given_goes s _) (λ base h. (length-append l.offers _, refl)))
      (λ r h. goes_weaker (run_stages line ss r.lists r.state) _ C (λ q k. (omega (arith, k.0, h.0), omega (arith, k.1, h.1))) (stages_count ss r.lists r.state))
  stages_count (Performed body ∷ ss) l s =
      let C = Counts (length l.offers + length (masks ss)) (length l.nacks + nacks_made ss) in
      bind_goes (run_stage line (Performed body) l s) _ (Counts (length l.offers) (length l.nacks)) C
      (bind_goes (performed body s) _ (λ _. ⊤) (Counts (length l.offers) (length l.nacks)) (goes_anyhow (performed body s)) (λ t h. (refl, refl)))
      (λ r h. goes_weaker (run_stages line ss r.lists r.state) _ C (λ q k. (omega (arith, k.0, h.0), omega (arith, k.1, h.1))) (stages_count ss r.lists r.state))
  stages_count (Made name ∷ ss) l s =
      let C = Counts (length l.offers + length (masks ss)) (length l.nacks + nacks_made (Made name ∷ ss)) in
      bind_goes (run_stage line (Made name) l s) _ (Counts (length l.offers) (length l.nacks + 1)) C
      (bind_goes (with_nack name s) _ (λ _. ⊤) (Counts (length l.offers) (length l.nacks + 1)) (goes_anyhow (with_nack name s)) (λ t h. (refl, length-append l.nacks _)))
      (λ r h. goes_weaker (run_stages line ss r.lists r.state) _ C (λ q k. (omega (arith, k.0, h.0), omega (arith, k.1, h.1))) (stages_count ss r.lists r.state))

  event_counts : (a n : ℕ) (e : Event) (s : State) → IfGoes (run_stages line (stages a n e) no_lists s) (Counts (base_count e) (nack_count e))
  event_counts a n e s =
      goes_weaker (run_stages line (stages a n e) no_lists s) _ (Counts (base_count e) (nack_count e))
      (λ r h. (omega (arith, h.0, offers_of a n e), omega (arith, h.1, nacks_of a n e))) (stages_count (stages a n e) no_lists s)

  -- EVENTS

  abbrev formed_by : Event → List Wrapping → Listed → Formed
  formed_by e ws r = record { tree = tree_with (length ws) e (bases_of r.lists) r.lists.nacks; wraps = ws ++ wraps_in e; state = r.state }

  abbrev chosen_by : Events → List Wrapping → Listed → Formed
  chosen_by es ws r = record { tree = choice_with (length ws) es (bases_of r.lists) r.lists.nacks; wraps = ws ++ wraps_in_all es; state = r.state }

  abbrev as_offered : ℕ → State → Base → Outcome Listed
  as_offered a s base = Goes (record { lists = with_offer base a no_lists; state = s })

  abbrev as_single : List Wrapping → Listed → Outcome Formed
  as_single ws r = Goes (record { tree = Single (get_or (bases_of r.lists) 0 Never); wraps = ws ++ []; state = r.state })

  base_forms : (v : Result Base Fault) (a : ℕ) (ws : List Wrapping) (s : State) → (given s v >>= formed ws s)
      ≡ (given s v >>= as_offered a s >>= (λ r. run_stages line [] r.lists r.state) >>= as_single ws)
  base_forms (Ok base) a ws s = ap (λ w. Goes (record { tree = Single base; wraps = w; state = s })) (sym (append-nil ws))
  base_forms (Err fault) a ws s = refl

  -- a guard, and then the event
  guard_forms : (ss : List Stage) (body : Block) (event : State → Outcome Formed) (f : Listed → Formed) (s : State) → ((t : State) → event t ≡ (run_stages line ss no_lists t >>= λ r. Goes (f r))) →
      (performed body s >>= event) ≡ (run_stages line (Performed body ∷ ss) no_lists s >>= λ r. Goes (f r))
  guard_forms ss body event f s same =
      bind_each (performed body s) event (λ t. run_stages line ss no_lists t >>= λ r. Goes (f r)) same
      ∙ sym (bind_assoc (run_stage line (Performed body) no_lists s) (λ r. run_stages line ss r.lists r.state) (λ r. Goes (f r)) ∙ bind_assoc (performed body s) (λ t. Goes (record { lists = no_lists; state = t })) (λ r. run_stages line ss r.lists r.state >>= λ q. Goes (f q)))

  -- a nack's block and its event
  nack_forms : (ss : List Stage) (body : Block) (event : State → Outcome Formed) (f g : Listed → Formed) (k : ℕ) (t : State) →
      ((u : State) → event u ≡ (run_stages line ss no_lists u >>= λ r. Goes (f r))) → ((r : Listed) → as_scope k (f r) ≡ Goes (g (behind (with_scope k no_lists) r))) →
      (performed body t >>= λ u. event u >>= as_scope k) ≡ (run_stages line (Performed body ∷ ss) (with_scope k no_lists) t >>= λ r. Goes (g r))
  nack_forms ss body event f g k t same scoped =
      let l = with_scope k no_lists in
      bind_each (performed body t) _ (λ u. run_stages line ss l u >>= λ r. Goes (g r)) (λ u.
      ap (λ x. x >>= as_scope k) (same u)
      ∙ bind_assoc (run_stages line ss no_lists u) (λ r. Goes (f r)) (as_scope k)
      ∙ bind_each (run_stages line ss no_lists u) _ _ scoped
      ∙ sym (bind_assoc (run_stages line ss no_lists u) (λ r. Goes (behind l r)) (λ r. Goes (g r)))
      ∙ ap (λ x. x >>= λ r. Goes (g r)) (sym (stages_behind ss l u)))
      ∙ sym (bind_assoc (run_stage line (Performed body) l t) (λ r. run_stages line ss r.lists r.state) (λ r. Goes (g r)) ∙ bind_assoc (performed body t) (λ u. Goes (record { lists = l; state = u })) (λ r. run_stages line ss r.lists r.state >>= λ q. Goes (g q)))

  -- an event, and then the others of its choice
  members_form : (ss more : List Stage) (first : State → Outcome Formed) (f : Listed → Formed) (rest : Formed → Outcome Formed) (g : Listed → Formed) (bases nacks : ℕ) (s : State) →
      (first s ≡ (run_stages line ss no_lists s >>= λ r. Goes (f r))) →
      IfGoes (run_stages line ss no_lists s) (Counts bases nacks) →
      ((r : Listed) → Counts bases nacks r → rest (f r) ≡ (run_stages line more no_lists r.state >>= λ q. Goes (g (behind r.lists q)))) →
      (first s >>= rest) ≡ (run_stages line (ss ++ more) no_lists s >>= λ r. Goes (g r))
  members_form ss more first f rest g bases nacks s same counts others =
      ap (λ x. x >>= rest) same
      ∙ bind_assoc (run_stages line ss no_lists s) (λ r. Goes (f r)) rest
      ∙ bind_same (run_stages line ss no_lists s) (λ r. rest (f r)) (λ r. run_stages line more r.lists r.state >>= λ q. Goes (g q)) (Counts bases nacks) counts (λ r c.
      others r c
      ∙ sym (bind_assoc (run_stages line more no_lists r.state) (λ q. Goes (behind r.lists q)) (λ q. Goes (g q)))
      ∙ ap (λ x. x >>= λ q. Goes (g q)) (sym (stages_behind more r.lists r.state)))
      ∙ sym (bind_assoc (run_stages line ss no_lists s) (λ r. run_stages line more r.lists r.state) (λ r. Goes (g r)))
      ∙ ap (λ x. x >>= λ r. Goes (g r)) (sym (stages_then ss more no_lists s))

  -- the trees of a choice's members, of their own base events and nacks
  first_alone : (w : ℕ) (e : Event) (l m : Lists) → length l.offers ≡ base_count e → length l.nacks ≡ nack_count e → tree_with w e (bases_of (joined l m)) (l.nacks ++ m.nacks) ≡ tree_with w e (bases_of l) l.nacks
  first_alone w e l m bases nacks =
      ap (λ bs. tree_with w e bs (l.nacks ++ m.nacks)) (map-append (λ (o : Offer). o.base) l.offers m.offers)
      ∙ tree_front w e (bases_of l) (bases_of m) l.nacks m.nacks (omega (arith, bases, length-map l.offers (λ (o : Offer). o.base))) (omega (arith, nacks))

  others_alone : (w : ℕ) (es : Events) (k n : ℕ) (l m : Lists) → length l.offers ≡ k → length l.nacks ≡ n → choice_with w es (drop k (bases_of (joined l m))) (drop n (l.nacks ++ m.nacks)) ≡ choice_with w es (bases_of m) m.nacks
  others_alone w es k n l m bases nacks =
      ap₂ (choice_with w es)
      (ap (drop k) (map-append (λ (o : Offer). o.base) l.offers m.offers) ∙ behind_front k (bases_of l) (bases_of m) (length-map l.offers (λ (o : Offer). o.base) ∙ bases))
      (behind_front n l.nacks m.nacks nacks)

  mutual
    pub resolves : (a n : ℕ) (e : Event) (ws : List Wrapping) (s : State) → resolve line e ws s ≡ (run_stages line (stages a n e) no_lists s >>= λ r. Goes (formed_by e ws r))
    resolves a n (Sends channel list) ws s = base_forms (base_value s.store (Sends channel list)) a ws s
    resolves a n (Receives channel) ws s = base_forms (base_value s.store (Receives channel)) a ws s
    resolves a n (IsReady list) ws s = base_forms (base_value s.store (IsReady list)) a ws s
    resolves a n IsNever ws s = base_forms (Ok Never) a ws s
    resolves a n (IsCancelled nack) ws s = base_forms (base_value s.store (IsCancelled nack)) a ws s
    resolves a n (IsJoined process) ws s = base_forms (base_value s.store (IsJoined process)) a ws s
    resolves a n (Chooses members) ws s = resolves_all a n members ws s
    resolves a n (Wraps e names list) ws s =
        let w : Wrapping = record { names = names; list = list } in
        ap (λ x. x >>= as_wrap (length ws)) (resolves a n e (ws ++ w ∷ []) s)
        ∙ bind_assoc (run_stages line (stages a n e) no_lists s) (λ r. Goes (formed_by e (ws ++ w ∷ []) r)) (as_wrap (length ws))
        ∙ bind_each (run_stages line (stages a n e) no_lists s) _ _ (λ r.
        ap₂ (λ k v. Goes (record { tree = Wrap (length ws) (tree_with k e (bases_of r.lists) r.lists.nacks); wraps = v; state = r.state })) (length-append ws (w ∷ [])) (append_assoc ws (w ∷ []) (wraps_in e)))
    resolves a n (Guards body e) ws s =
        guard_forms (stages a n e) body (resolve line e ws) (formed_by e ws) s (λ t. resolves a n e ws t)
    resolves a n (Nacks name body e) ws s =
        let ss = stages (bit_or a (2 ^ n)) (n + 1) e in
        let f = formed_by (Nacks name body e) ws in
        ap (λ x. x >>= resolve line e ws >>= as_scope s.nacks) (bind_assoc (with_nack name s) (run_block body) (set_line line))
        ∙ bind_assoc (with_nack name s >>= performed body) (resolve line e ws) (as_scope s.nacks)
        ∙ bind_assoc (with_nack name s) (performed body) (λ u. resolve line e ws u >>= as_scope s.nacks)
        ∙ bind_each (with_nack name s) _ (λ t. run_stages line (Performed body ∷ ss) (with_scope s.nacks no_lists) t >>= λ r. Goes (f r))
        (λ t. nack_forms ss body (resolve line e ws) (formed_by e ws) f s.nacks t (λ u. resolves (bit_or a (2 ^ n)) (n + 1) e ws u) (λ r. refl))
        ∙ sym (bind_assoc (run_stage line (Made name) no_lists s) (λ r. run_stages line (Performed body ∷ ss) r.lists r.state) (λ r. Goes (f r))
        ∙ bind_assoc (with_nack name s) (λ t. Goes (record { lists = with_scope s.nacks no_lists; state = t })) (λ r. run_stages line (Performed body ∷ ss) r.lists r.state >>= λ q. Goes (f q)))

    pub resolves_all : (a n : ℕ) (es : Events) (ws : List Wrapping) (s : State) → resolve_all line es ws s ≡ (run_stages line (stages_of_all a n es) no_lists s >>= λ r. Goes (chosen_by es ws r))
    resolves_all a n NoMembers ws s = ap (λ v. Goes (record { tree = Nothing; wraps = v; state = s })) (sym (append-nil ws))
    resolves_all a n (Members e es) ws s =
        let ss = stages a n e in
        let more = stages_of_all a (n + nack_count e) es in
        members_form ss more (resolve line e ws) (formed_by e ws) (λ f. resolve_all line es f.wraps f.state >>= as_first f) (chosen_by (Members e es) ws) (base_count e) (nack_count e) s
        (resolves a n e ws s) (event_counts a n e s) (λ r c.
        ap (λ x. x >>= as_first (formed_by e ws r)) (resolves_all a (n + nack_count e) es (ws ++ wraps_in e) r.state)
        ∙ bind_assoc (run_stages line more no_lists r.state) (λ q. Goes (chosen_by es (ws ++ wraps_in e) q)) (as_first (formed_by e ws r))
        ∙ bind_each (run_stages line more no_lists r.state) _ _ (λ q.
        ap (λ t. Goes (record { tree = t; wraps = (ws ++ wraps_in e) ++ wraps_in_all es; state = q.state }))
        (ap₂ Or (sym (first_alone (length ws) e r.lists q.lists c.0 c.1)) (ap (λ k. choice_with k es (bases_of q.lists) q.lists.nacks) (length-append ws (wraps_in e)) ∙ sym (others_alone (length ws + length (wraps_in e)) es (base_count e) (nack_count e) r.lists q.lists c.0 c.1)))
        ∙ ap (λ v. Goes (record { tree = (chosen_by (Members e es) ws (behind r.lists q)).tree; wraps = v; state = q.state })) (append_assoc ws (wraps_in e) (wraps_in_all es))))

  -- a whole event
  pub resolves_whole : (e : Event) (s : State) → resolve line e [] s ≡ (run_stages line (stages 0 0 e) no_lists s >>= λ r. Goes (formed_as e r.lists r.state))
  resolves_whole e s = resolves 0 0 e [] s
