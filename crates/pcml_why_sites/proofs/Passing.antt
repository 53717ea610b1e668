-- A message that passes out of an event goes through the wraps that the event's tree has round its base event.
use Rattle.std.proofs.Common.{◌≡◌, ℕ, zero, suc, ◌+◌, List, [], ◌∷◌, ◌++◌, Option, None, Some, Result, Ok, Err, length, slice_get, refl, sym, ap, ◌∙◌, subst, subst₂, arith}
use Rattle.std.specs.Option.{option_map}
use Rattle.std.specs.Prelude.{⊤}
use Rattle.event.proofs.TreeLemmas.{wraps_at-first, wraps_at-second, wraps_at-Wrap, wraps_at-Scope, base_count-Or, base_count-Wrap, base_count-Scope}
use Rattle.event.specs.Tree.{Tree, Single, Or, Wrap, Scope, wraps_at, base_count}
use Rattle.protocol_values.specs.declared.Base.{Base}
use Rattle.protocol_values.specs.declared.Message.{Message}
use Rattle.thread.specs.After.{State, Wrapping, Having}
use Rattle.pcml_why_sites.specs.Standing.{Standing, Goes, Offers, Finishes, Fails, Strays, ◌>>=◌, given, received, wrapped_once, wrapped}
use Rattle.pcml_why_sites.specs.Troubles.{list_value, with_names}
use Rattle.pcml_why_sites.specs.Walks as walks
use Rattle.pcml_why_sites.specs.Walks.{View, view_of, Walked, On, Halts, ◌>>=◌ as ◌>>>◌, walk_names, walk_wrap, passed, wrapped_in, or_else}
use Rattle.pcml_why_sites.specs.declared.trouble.Trouble.{Trouble}
use Rattle.pcml_why_sites.specs.declared.walk.Passage.{Passage}
use Rattle.pcml_why_sites.specs.declared.walk.Passage.TheVariants.{Through, Past}
use Rattle.pcml_why_sites.specs.declared.walk.Stop.TheVariants as stop

-- WHAT A WALK SEES

-- both go on, with values of which this holds, or both stop in the same way
abbrev pub Seen : {A B : Type 0} → (A → B → View → Type 0) → Standing A → Walked B → Type 0
Seen R (Goes a) (On b v) = R a b v
Seen R (Offers tree s) (Halts stop.Offers v) = view_of s ≡ v
Seen R (Finishes s) (Halts stop.Finishes v) = view_of s ≡ v
Seen R (Fails trouble s) (Halts (stop.Fails told) v) = (told ≡ trouble) × (view_of s ≡ v)
Seen R Strays (Halts stop.Strays v) = ⊤
Seen R one other = ⊥

pub bind_seen : {A B C D : Type 0} (R : A → B → View → Type 0) (S : C → D → View → Type 0) (x : Standing A) (y : Walked B) (f : A → Standing C) (g : B → View → Walked D) → Seen R x y → ((a : A) (b : B) (v : View) → R a b v → Seen S (f a) (g b v)) → Seen S (x >>= f) (y >>> g)
bind_seen R S (Goes a) (On b v) f g h next = next a b v h
bind_seen R S (Offers tree s) (Halts stop.Offers v) f g h next = h
bind_seen R S (Finishes s) (Halts stop.Finishes v) f g h next = h
bind_seen R S (Fails trouble s) (Halts (stop.Fails told) v) f g h next = h
bind_seen R S Strays (Halts stop.Strays v) f g h next = tt
bind_seen R S x y f g h next = absurd h

-- it goes on with what another makes of its value
pub map_seen : {A B C : Type 0} (R : A → B → View → Type 0) (S : C → B → View → Type 0) (x : Standing A) (y : Walked B) (f : A → C) → Seen R x y → ((a : A) (b : B) (v : View) → R a b v → S (f a) b v) → Seen S (x >>= λ a. Goes (f a)) y
map_seen R S (Goes a) (On b v) f h next = next a b v h
map_seen R S (Offers tree s) (Halts stop.Offers v) f h next = h
map_seen R S (Finishes s) (Halts stop.Finishes v) f h next = h
map_seen R S (Fails trouble s) (Halts (stop.Fails told) v) f h next = h
map_seen R S Strays (Halts stop.Strays v) f h next = tt
map_seen R S x y f h next = absurd h

abbrev pub StateSeen : State → ⊤ → View → Type 0
StateSeen s done v = view_of s ≡ v

pub bind_states : {C D : Type 0} (S : C → D → View → Type 0) (x : Standing State) (y : Walked ⊤) (f : State → Standing C) (g : ⊤ → View → Walked D) → Seen StateSeen x y → ((s : State) → Seen S (f s) (g tt (view_of s))) → Seen S (x >>= f) (y >>> g)
bind_states S x y f g h next = bind_seen StateSeen S x y f g h (λ s done v is. subst (λ w. Seen S (f s) (g tt w)) is (next s))

pub value_seen : {A C D : Type 0} (S : C → D → View → Type 0) (s : State) (r : Result A Trouble) (f : A → Standing C) (g : A → View → Walked D) → ((a : A) → Seen S (f a) (g a (view_of s))) → Seen S (given s r >>= f) (walks.given (view_of s) r >>> g)
value_seen S s (Ok a) f g next = next a
value_seen S s (Err trouble) f g next = (refl, refl)

-- WRAPS

abbrev pub HavingSeen : Having → Passage → View → Type 0
HavingSeen h (Through changed) v = (h.message ≡ changed) × (view_of h.state ≡ v)
HavingSeen h (Past left) v = ⊥

pub received_seen : (names : Option (List ℕ)) (m : Message) (s : State) → Seen StateSeen (received names m s) (walk_names names m (view_of s))
received_seen names m s = value_seen StateSeen s (with_names names m s.store) _ _ (λ store. refl)

wrapped_once_seen : (w : Wrapping) (m : Message) (s : State) → Seen HavingSeen (wrapped_once (Some w) m s) (walk_wrap w.names w.list m (view_of s))
wrapped_once_seen w m s =
    bind_states HavingSeen (received w.names m s) (walk_names w.names m (view_of s)) _ _ (received_seen w.names m s)
    (λ t. value_seen HavingSeen t (list_value t.store w.list) _ _ (λ changed. (refl, refl)))

-- a wrap takes the message on
wrap_seen : (w : Wrapping) (x : Standing Having) (p : Walked Passage) → Seen HavingSeen x p → Seen HavingSeen (x >>= λ h. wrapped_once (Some w) h.message h.state) (p >>> wrapped_in w.names w.list)
wrap_seen w x p seen = bind_seen HavingSeen HavingSeen x p _ _ seen through
  where
    through : (h : Having) (b : Passage) (v : View) → HavingSeen h b v → Seen HavingSeen (wrapped_once (Some w) h.message h.state) (wrapped_in w.names w.list b v)
    through h (Through changed) v is = subst₂ (λ m u. Seen HavingSeen (wrapped_once (Some w) h.message h.state) (walk_wrap w.names w.list m u)) is.0 is.1 (wrapped_once_seen w h.message h.state)
    through h (Past left) v is = absurd is

-- other members are not asked for
or_seen : (others : ℕ → View → Walked Passage) (x : Standing Having) (p : Walked Passage) → Seen HavingSeen x p → Seen HavingSeen x (p >>> or_else others)
or_seen others (Goes h) (On (Through changed) v) seen = seen
or_seen others (Offers tree s) (Halts stop.Offers v) seen = seen
or_seen others (Finishes s) (Halts stop.Finishes v) seen = seen
or_seen others (Fails trouble s) (Halts (stop.Fails told) v) seen = seen
or_seen others Strays (Halts stop.Strays v) seen = tt
or_seen others x p seen = absurd seen

bind_assoc : {A B C : Type 0} (x : Standing A) (f : A → Standing B) (g : B → Standing C) → x >>= f >>= g ≡ (x >>= λ a. f a >>= g)
bind_assoc (Goes a) f g = refl
bind_assoc (Offers tree s) f g = refl
bind_assoc (Finishes s) f g = refl
bind_assoc (Fails trouble s) f g = refl
bind_assoc Strays f g = refl

bind_each : {A B : Type 0} (x : Standing A) (f g : A → Standing B) → ((a : A) → f a ≡ g a) → (x >>= f) ≡ (x >>= g)
bind_each (Goes a) f g same = same a
bind_each (Offers tree s) f g same = refl
bind_each (Finishes s) f g same = refl
bind_each (Fails trouble s) f g same = refl
bind_each Strays f g same = refl

-- one more wrap
wrapped_then : (all : List Wrapping) (ns : List ℕ) (w : ℕ) (m : Message) (s : State) → wrapped all (ns ++ w ∷ []) m s ≡ (wrapped all ns m s >>= λ h. wrapped_once (slice_get all w) h.message h.state)
wrapped_then all [] w m s = again (wrapped_once (slice_get all w) m s)
  where
    again : (x : Standing Having) → (x >>= λ h. Goes (record { message = h.message; state = h.state })) ≡ x
    again (Goes h) = refl
    again (Offers tree s) = refl
    again (Finishes s) = refl
    again (Fails trouble s) = refl
    again Strays = refl
wrapped_then all (n ∷ ns) w m s =
    bind_each (wrapped_once (slice_get all n) m s) _ _ (λ h. wrapped_then all ns w h.message h.state)
    ∙ sym (bind_assoc (wrapped_once (slice_get all n) m s) (λ h. wrapped all ns h.message h.state) (λ h. wrapped_once (slice_get all w) h.message h.state))

at_seam : {A : Type 0} (xs : List A) (y : A) (ys : List A) → slice_get (xs ++ y ∷ ys) (length xs) ≡ Some y
at_seam [] y ys = refl
at_seam (x ∷ xs) y ys = at_seam xs y ys

-- PASSAGES

-- where base event n has these wraps, the message goes through them; where there is none such, it is looked for behind
abbrev pub Carries : List Wrapping → ℕ → Walked Passage → ℕ → Message → State → Option (List ℕ) → Type 0
Carries all count p n m s (Some numbers) = Seen HavingSeen (wrapped all numbers m s) p
Carries all count p n m s None = (k : ℕ) × (n ≡ count + k) × (p ≡ On (Past k) (view_of s))

-- a tree, under these wraps, carries what passes so
abbrev pub TreeCarries : (ℕ → Message → View → Walked Passage) → List Wrapping → Tree → Type 0
TreeCarries passes all t = (n : ℕ) (m : Message) (s : State) → Carries all (base_count t) (passes n m (view_of s)) n m s (wraps_at t n)

pub base_carries : (all : List Wrapping) (b : Base) → TreeCarries passed all (Single b)
base_carries all b zero m s = (refl, refl)
base_carries all b (suc n) m s = (n, omega arith, refl)

wrap_carries : (all : List Wrapping) (k : ℕ) (w : Wrapping) (count n : ℕ) (p : Walked Passage) (m : Message) (s : State) (x : Option (List ℕ)) → slice_get all k ≡ Some w → Carries all count p n m s x → Carries all count (p >>> wrapped_in w.names w.list) n m s (option_map (λ ns. ns ++ k ∷ []) x)
wrap_carries all k w count n p m s (Some numbers) there h =
    subst (λ y. Seen HavingSeen y (p >>> wrapped_in w.names w.list))
    (ap (λ o. wrapped all numbers m s >>= λ h. wrapped_once o h.message h.state) (sym there) ∙ sym (wrapped_then all numbers k m s)) (wrap_seen w (wrapped all numbers m s) p h)
wrap_carries all k w count n p m s None there h = (h.0, h.1, ap (λ q. q >>> wrapped_in w.names w.list) h.2)

pub wrap_tree : (passes : ℕ → Message → View → Walked Passage) (before more : List Wrapping) (w : Wrapping) (t : Tree) →
    TreeCarries passes (before ++ w ∷ more) t → TreeCarries (λ n m v. passes n m v >>> wrapped_in w.names w.list) (before ++ w ∷ more) (Wrap (length before) t)
wrap_tree passes before more w t h n m s =
    let all = before ++ w ∷ more in
    let k = length before in
    let p = passes n m (view_of s) in
    subst₂ (λ count x. Carries all count (p >>> wrapped_in w.names w.list) n m s x) (sym (base_count-Wrap k t)) (sym (wraps_at-Wrap k t n))
    (wrap_carries all k w (base_count t) n p m s (wraps_at t n) (at_seam before w more) (h n m s))

pub scope_tree : (passes : ℕ → Message → View → Walked Passage) (all : List Wrapping) (k : ℕ) (t : Tree) → TreeCarries passes all t → TreeCarries passes all (Scope k t)
scope_tree passes all k t h n m s =
    subst₂ (λ count x. Carries all count (passes n m (view_of s)) n m s x) (sym (base_count-Scope k t)) (sym (wraps_at-Scope k t n)) (h n m s)

-- behind the first members
past_carries : (all : List Wrapping) (first count whole n k : ℕ) (p : Walked Passage) (m : Message) (s : State) (x : Option (List ℕ)) → n ≡ first + k → whole ≡ first + count → Carries all count p k m s x → Carries all whole p n m s x
past_carries all first count whole n k p m s (Some numbers) is both h = h
past_carries all first count whole n k p m s None is both h = (h.0, omega (arith, is, both, h.1), h.2)

or_carries : (others : ℕ → Message → View → Walked Passage) (all : List Wrapping) (t u : Tree) (n : ℕ) (p : Walked Passage) (m : Message) (s : State) (x : Option (List ℕ)) → wraps_at t n ≡ x → Carries all (base_count t) p n m s x → TreeCarries others all u →
    Carries all (base_count (Or t u)) (p >>> or_else (λ left v. others left m v)) n m s (wraps_at (Or t u) n)
or_carries others all t u n p m s (Some numbers) is h more =
    subst (Carries all (base_count (Or t u)) (p >>> or_else (λ left v. others left m v)) n m s) (sym (wraps_at-first t u n numbers is)) (or_seen (λ left v. others left m v) (wrapped all numbers m s) p h)
or_carries others all t u n p m s None is h more =
    let k = h.0 in
    let behind : wraps_at (Or t u) n ≡ wraps_at u k = ap (wraps_at (Or t u)) h.1 ∙ wraps_at-second t u k in
    subst₂ (λ q x. Carries all (base_count (Or t u)) q n m s x) (sym (ap (λ q. q >>> or_else (λ left v. others left m v)) h.2)) (sym behind)
    (past_carries all (base_count t) (base_count u) (base_count (Or t u)) n k (others k m (view_of s)) m s (wraps_at u k) h.1 (base_count-Or t u) (more k m s))

pub or_tree : (passes others : ℕ → Message → View → Walked Passage) (all : List Wrapping) (t u : Tree) → TreeCarries passes all t → TreeCarries others all u →
    TreeCarries (λ n m v. passes n m v >>> or_else (λ left w. others left m w)) all (Or t u)
or_tree passes others all t u h more n m s = or_carries others all t u n (passes n m (view_of s)) m s (wraps_at t n) refl (h n m s) more
