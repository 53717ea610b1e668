-- A message that passes out of an event goes through the wraps that the event's tree has round its base event.
use Rattle.std.proofs.Common.{◌≡◌, ℕ, zero, suc, ◌+◌, ◌≤◌, List, [], ◌∷◌, ◌++◌, Option, None, Some, drop, get_or, length, slice_get, refl, sym, ap, ◌∙◌, subst, subst₂, arith, append_assoc, append-nil, length-append}
use Rattle.std.specs.Option.{option_map}
use Rattle.std.specs.Prelude.{⊤}
use Rattle.event.proofs.TreeLemmas.{wraps_at-first, wraps_at-second, wraps_at-Wrap, wraps_at-Scope, base_count-Or, base_count-Wrap, base_count-Scope}
use Rattle.event.specs.Tree.{Tree, Single, Or, wraps_at, base_count as bases_in}
use Rattle.script_tree.specs.Lined.{base_count, bases_of_all, nack_count}
use Rattle.script_tree.specs.Lined.{Event, Sends, Receives, IsReady, IsNever, IsCancelled, IsJoined, Chooses, Wraps, Guards, Nacks, Events, NoMembers, Members}
use Rattle.protocol_values.specs.declared.Base.{Base}
use Rattle.protocol_values.specs.declared.Base.TheVariants.{Never}
use Rattle.protocol_values.specs.declared.Message.{Message}
use Rattle.thread.specs.After.{Wrapping}
use Rattle.thread.specs.Standing.{State, Outcome, Goes, Offers, Finishes, Fails, Strays, ◌>>=◌, Having, committed, received, wrapped, wrapped_once}
use Rattle.thread.specs.Passing.{Passage, Through, Past, or_else, pass, pass_all, passed, wrapped_in}
use Rattle.thread.specs.Resolving.{Lists, formed_as, tree_as}
use Rattle.thread.specs.Shapes.{choice_with, tree_with, wraps_in, wraps_in_all}
use Rattle.thread.proofs.Going.{bind_assoc, bind_each}

-- one more wrap
wrapped_then : (all : List Wrapping) (ns : List ℕ) (w : ℕ) (m : Message) (s : State) → wrapped all (ns ++ w ∷ []) m s ≡ (wrapped all ns m s >>= λ h. wrapped_once (slice_get all w) h.message h.state)
wrapped_then all [] w m s = again (wrapped_once (slice_get all w) m s)
  where
    again : (x : Outcome Having) → (x >>= λ h. Goes (record { message = h.message; state = h.state })) ≡ x
    again (Goes h) = refl
    again (Offers tree at) = refl
    again (Finishes at) = refl
    again (Fails fault at) = refl
    again Strays = refl
wrapped_then all (n ∷ ns) w m s =
    bind_each (wrapped_once (slice_get all n) m s) _ _ (λ h. wrapped_then all ns w h.message h.state)
    ∙ sym (bind_assoc (wrapped_once (slice_get all n) m s) (λ h. wrapped all ns h.message h.state) (λ h. wrapped_once (slice_get all w) h.message h.state))

at_seam : {A : Type 0} (xs : List A) (y : A) (ys : List A) → slice_get (xs ++ y ∷ ys) (length xs) ≡ Some y
at_seam [] y ys = refl
at_seam (x ∷ xs) y ys = at_seam xs y ys

-- where base event n has these wraps, the message goes through them; where there is none such, it is looked for behind
abbrev Carries : List Wrapping → ℕ → Passage → ℕ → Message → State → Option (List ℕ) → Type 0
Carries all count p n m s (Some numbers) = p ≡ Through (wrapped all numbers m s)
Carries all count p n m s None = (k : ℕ) × (n ≡ count + k) × (p ≡ Past k)

base_carries : (all : List Wrapping) (b : Base) (n : ℕ) (m : Message) (s : State) → Carries all 1 (passed n m s) n m s (wraps_at (Single b) n)
base_carries all b zero m s = refl
base_carries all b (suc n) m s = (n, omega arith, refl)

wrap_carries : (all : List Wrapping) (w : ℕ) (wr : Wrapping) (count n : ℕ) (p : Passage) (m : Message) (s : State) (x : Option (List ℕ)) → slice_get all w ≡ Some wr → Carries all count p n m s x → Carries all count (wrapped_in wr p) n m s (option_map (λ ns. ns ++ w ∷ []) x)
wrap_carries all w wr count n p m s (Some numbers) there h =
    ap (wrapped_in wr) h
    ∙ ap Through (ap (λ o. wrapped all numbers m s >>= λ h. wrapped_once o h.message h.state) (sym there) ∙ sym (wrapped_then all numbers w m s))
wrap_carries all w wr count n p m s None there h = (h.0, h.1, ap (wrapped_in wr) h.2)

-- behind the first members
past_carries : (all : List Wrapping) (first count n k : ℕ) (p : Passage) (m : Message) (s : State) (x : Option (List ℕ)) → n ≡ first + k → Carries all count p k m s x → Carries all (first + count) p n m s x
past_carries all first count n k p m s (Some numbers) is h = h
past_carries all first count n k p m s None is h = (h.0, omega (arith, is, h.1), h.2)

or_carries : (all : List Wrapping) (t u : Tree) (first count n : ℕ) (p : Passage) (others : ℕ → Passage) (m : Message) (s : State) (x : Option (List ℕ)) → wraps_at t n ≡ x → bases_in t ≡ first →
    Carries all first p n m s x → ((k : ℕ) → Carries all count (others k) k m s (wraps_at u k)) → Carries all (first + count) (or_else p others) n m s (wraps_at (Or t u) n)
or_carries all t u first count n p others m s (Some numbers) is same h more =
    subst (Carries all (first + count) (or_else p others) n m s) (sym (wraps_at-first t u n numbers is)) (ap (λ q. or_else q others) h)
or_carries all t u first count n p others m s None is same h more =
    let behind : wraps_at (Or t u) n ≡ wraps_at u h.0 = ap (wraps_at (Or t u)) (h.1 ∙ ap (λ c. c + h.0) (sym same)) ∙ wraps_at-second t u h.0 in
    subst₂ (λ q x. Carries all (first + count) q n m s x) (sym (ap (λ q. or_else q others) h.2)) (sym behind) (past_carries all first count n h.0 (others h.0) m s (wraps_at u h.0) h.1 (more h.0))

-- base events are as many as in the text
mutual
  bases_with : (w : ℕ) (e : Event) (bs : List Base) (ns : List ℕ) → bases_in (tree_with w e bs ns) ≡ base_count e
  bases_with w (Sends channel list) bs ns = refl
  bases_with w (Receives channel) bs ns = refl
  bases_with w (IsReady list) bs ns = refl
  bases_with w IsNever bs ns = refl
  bases_with w (IsCancelled nack) bs ns = refl
  bases_with w (IsJoined process) bs ns = refl
  bases_with w (Chooses members) bs ns = bases_with_all w members bs ns
  bases_with w (Wraps e names list) bs ns = base_count-Wrap w (tree_with (w + 1) e bs ns) ∙ bases_with (w + 1) e bs ns
  bases_with w (Guards body e) bs ns = bases_with w e bs ns
  bases_with w (Nacks name body e) bs ns = base_count-Scope (get_or ns 0 0) (tree_with w e bs (drop 1 ns)) ∙ bases_with w e bs (drop 1 ns)

  bases_with_all : (w : ℕ) (es : Events) (bs : List Base) (ns : List ℕ) → bases_in (choice_with w es bs ns) ≡ bases_of_all es
  bases_with_all w NoMembers bs ns = refl
  bases_with_all w (Members e es) bs ns =
      let others = choice_with (w + length (wraps_in e)) es (drop (base_count e) bs) (drop (nack_count e) ns) in
      omega (arith, base_count-Or (tree_with w e bs ns) others, bases_with w e bs ns, bases_with_all (w + length (wraps_in e)) es (drop (base_count e) bs) (drop (nack_count e) ns))

mutual
  carries : (e : Event) (ws more : List Wrapping) (bs : List Base) (ns : List ℕ) (n : ℕ) (m : Message) (s : State) → Carries ((ws ++ wraps_in e) ++ more) (base_count e) (pass e n m s) n m s (wraps_at (tree_with (length ws) e bs ns) n)
  carries (Sends channel list) ws more bs ns n m s = base_carries ((ws ++ []) ++ more) (get_or bs 0 Never) n m s
  carries (Receives channel) ws more bs ns n m s = base_carries ((ws ++ []) ++ more) (get_or bs 0 Never) n m s
  carries (IsReady list) ws more bs ns n m s = base_carries ((ws ++ []) ++ more) (get_or bs 0 Never) n m s
  carries IsNever ws more bs ns n m s = base_carries ((ws ++ []) ++ more) (get_or bs 0 Never) n m s
  carries (IsCancelled nack) ws more bs ns n m s = base_carries ((ws ++ []) ++ more) (get_or bs 0 Never) n m s
  carries (IsJoined process) ws more bs ns n m s = base_carries ((ws ++ []) ++ more) (get_or bs 0 Never) n m s
  carries (Chooses members) ws more bs ns n m s = carries_all members ws more bs ns n m s
  carries (Wraps e names list) ws more bs ns n m s =
      let wr : Wrapping = record { names = names; list = list } in
      let w = length ws in
      let all = (ws ++ wr ∷ wraps_in e) ++ more in
      let t = tree_with (w + 1) e bs ns in
      let inner = subst₂ (λ every tree. Carries every (base_count e) (pass e n m s) n m s (wraps_at tree n))
      (ap (λ l. l ++ more) (append_assoc ws (wr ∷ []) (wraps_in e))) (ap (λ k. tree_with k e bs ns) (length-append ws (wr ∷ []))) (carries e (ws ++ wr ∷ []) more bs ns n m s) in
      let there : slice_get all w ≡ Some wr = ap (λ l. slice_get l w) (append_assoc ws (wr ∷ wraps_in e) more) ∙ at_seam ws wr (wraps_in e ++ more) in
      subst (Carries all (base_count e) (wrapped_in wr (pass e n m s)) n m s) (sym (wraps_at-Wrap w t n)) (wrap_carries all w wr (base_count e) n (pass e n m s) m s (wraps_at t n) there inner)
  carries (Guards body e) ws more bs ns n m s = carries e ws more bs ns n m s
  carries (Nacks name body e) ws more bs ns n m s =
      subst (Carries ((ws ++ wraps_in e) ++ more) (base_count e) (pass e n m s) n m s) (sym (wraps_at-Scope (get_or ns 0 0) (tree_with (length ws) e bs (drop 1 ns)) n)) (carries e ws more bs (drop 1 ns) n m s)

  carries_all : (es : Events) (ws more : List Wrapping) (bs : List Base) (ns : List ℕ) (n : ℕ) (m : Message) (s : State) → Carries ((ws ++ wraps_in_all es) ++ more) (bases_of_all es) (pass_all es n m s) n m s (wraps_at (choice_with (length ws) es bs ns) n)
  carries_all NoMembers ws more bs ns n m s = (n, omega arith, refl)
  carries_all (Members e es) ws more bs ns n m s =
      let all = (ws ++ (wraps_in e ++ wraps_in_all es)) ++ more in
      let t = tree_with (length ws) e bs ns in
      let u = choice_with (length ws + length (wraps_in e)) es (drop (base_count e) bs) (drop (nack_count e) ns) in
      let same : (ws ++ wraps_in e) ++ (wraps_in_all es ++ more) ≡ all =
      sym (append_assoc (ws ++ wraps_in e) (wraps_in_all es) more) ∙ ap (λ l. l ++ more) (append_assoc ws (wraps_in e) (wraps_in_all es)) in
      let first = subst (λ every. Carries every (base_count e) (pass e n m s) n m s (wraps_at t n)) same (carries e ws (wraps_in_all es ++ more) bs ns n m s) in
      let others : (k : ℕ) → Carries all (bases_of_all es) (pass_all es k m s) k m s (wraps_at u k) = λ k.
      subst₂ (λ every tree. Carries every (bases_of_all es) (pass_all es k m s) k m s (wraps_at tree k))
      (ap (λ l. l ++ more) (append_assoc ws (wraps_in e) (wraps_in_all es))) (ap (λ w. choice_with w es (drop (base_count e) bs) (drop (nack_count e) ns)) (length-append ws (wraps_in e)))
      (carries_all es (ws ++ wraps_in e) more (drop (base_count e) bs) (drop (nack_count e) ns) k m s) in
      or_carries all t u (base_count e) (bases_of_all es) n (pass e n m s) (λ k. pass_all es k m s) m s (wraps_at t n) refl (bases_with (length ws) e bs ns) first others

-- WHOLE EVENTS

abbrev outcome_of : Passage → Outcome Having
outcome_of (Through o) = o
outcome_of (Past k) = Strays

abbrev IsThrough : Passage → Type 0
IsThrough (Through o) = ⊤
IsThrough (Past k) = ⊥

commits_by : (all : List Wrapping) (names : Option (List ℕ)) (e : Event) (l : Lists) (t : State) (count n : ℕ) (p : Passage) (o : Outcome Having) (m : Message) (s : State) (x : Option (List ℕ)) → all ≡ wraps_in e → Carries all count p n m s x → p ≡ Through o →
    committed names (formed_as e l t) x m s ≡ (o >>= λ h. received names h.message h.state)
commits_by all names e l t count n p o m s (Some numbers) is h through =
    ap (λ y. y >>= λ h. received names h.message h.state) (ap (λ every. wrapped every numbers m s) (sym is) ∙ ap outcome_of (sym h ∙ through))
commits_by all names e l t count n p o m s None is h through = absurd (subst IsThrough (sym through ∙ h.2) tt)

all_of : (e : Event) → ([] ++ wraps_in e) ++ [] ≡ wraps_in e
all_of e = append-nil (wraps_in e)

-- the message that came through is what the commit gives
pub pass_commits : (names : Option (List ℕ)) (e : Event) (l : Lists) (t : State) (n : ℕ) (m : Message) (s : State) (o : Outcome Having) → pass e n m s ≡ Through o → committed names (formed_as e l t) (wraps_at (tree_as e l) n) m s ≡ (o >>= λ h. received names h.message h.state)
pass_commits names e l t n m s o through =
    commits_by (([] ++ wraps_in e) ++ []) names e l t (base_count e) n (pass e n m s) o m s (wraps_at (tree_as e l) n) (all_of e) (carries e [] [] _ l.nacks n m s) through

not_behind : (all : List Wrapping) (count n k : ℕ) (p : Passage) (m : Message) (s : State) (x : Option (List ℕ)) → Carries all count p n m s x → p ≡ Past k → count ≤ n
not_behind all count n k p m s (Some numbers) h past = absurd (subst IsThrough (sym h ∙ past) tt)
not_behind all count n k p m s None h past = omega (arith, h.1)

carried : (all every : List Wrapping) (count n : ℕ) (p : Passage) (m : Message) (s : State) (x : Option (List ℕ)) (numbers : List ℕ) → all ≡ every → x ≡ Some numbers → Carries all count p n m s x → p ≡ Through (wrapped every numbers m s)
carried all every count n p m s x numbers same is h =
    subst (λ a. p ≡ Through (wrapped a numbers m s)) same (subst (Carries all count p n m s) is h)

-- where these wraps are round the base event, the message goes out through them
pub pass_wraps : (e : Event) (l : Lists) (n : ℕ) (m : Message) (s : State) (numbers : List ℕ) → wraps_at (tree_as e l) n ≡ Some numbers → pass e n m s ≡ Through (wrapped (wraps_in e) numbers m s)
pass_wraps e l n m s numbers is =
    carried (([] ++ wraps_in e) ++ []) (wraps_in e) (base_count e) n (pass e n m s) m s (wraps_at (tree_as e l) n) numbers (all_of e) is (carries e [] [] _ l.nacks n m s)

-- a message from one of the event's base events comes through
pub passes_through : (e : Event) (n k : ℕ) (m : Message) (s : State) → pass e n m s ≡ Past k → base_count e ≤ n
passes_through e n k m s past = not_behind (([] ++ wraps_in e) ++ []) (base_count e) n k (pass e n m s) m s (wraps_at (tree_with 0 e [] []) n) (carries e [] [] [] [] n m s) past

-- a wrap on the way
pub wrap_passes : (e : Event) (w : Wrapping) (n : ℕ) (m inner : Message) (s t : State) (o : Outcome Having) → pass e n m s ≡ Through (Goes (record { message = inner; state = t })) → wrapped_once (Some w) inner t ≡ o → pass (Wraps e w.names w.list) n m s ≡ Through o
wrap_passes e w n m inner s t o through wraps = ap (wrapped_in w) through ∙ ap Through wraps
