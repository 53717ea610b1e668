-- The tree that an event's offers and nacks stand for makes these offers, with these nacks.
use Rattle.std.proofs.Common.{◌≡◌, ℕ, zero, suc, ◌+◌, ◌≤◌, ◌^◌, List, [], ◌∷◌, ◌++◌, drop, get_or, take, length, map, refl, sym, ap, ap₂, ◌∙◌, subst, subst₂, arith}
use Rattle.std.proofs.lemmas.List.{length-drop, length-map, length-take-le, nil_from_length, take-append-drop}
use Rattle.std.proofs.Math.Seq.{drop-append_seam, take-append_seam}
use Rattle.std.specs.Prelude.{bit_or}
use Rattle.thread_code.specs.Stages.{stages, stages_of_all}
use Rattle.event.proofs.StepLemmas.{offers_within-Single, offers_within-Or, offers_within-Wrap, offers_within-Scope, offers_within-offers}
use Rattle.event.proofs.TreeLemmas.{scope_count-Or}
use Rattle.event.specs.Steps.{offers_within}
use Rattle.event.specs.Tree.{Tree, Single, Or, Wrap, offers, scope_count, scope_nacks}
use Rattle.script_tree.specs.Lined.{base_count, nack_count, bases_of_all, nacks_of_all}
use Rattle.script_tree.specs.Lined.{Event, Sends, Receives, IsReady, IsNever, IsCancelled, IsJoined, Chooses, Wraps, Guards, Nacks, Events, NoMembers, Members}
use Rattle.protocol_values.specs.declared.Base.{Base}
use Rattle.protocol_values.specs.declared.Base.TheVariants.{Never}
use Rattle.protocol_values.specs.declared.Offer.{Offer}
use Rattle.thread.specs.Fitting.{masks, nacks_made}
use Rattle.thread.specs.Resolving.{Lists, tree_as}
use Rattle.thread.specs.Shapes.{choice_with, tree_with, wraps_in}
use Rattle.thread.proofs.Staging.{masks-append, nacks_of, offers_of, offers_of_all, tree_front}

-- the base events and the masks of offers
abbrev bases : List Offer → List Base
bases os = map (λ (o : Offer). o.base) os

abbrev pub scopes : List Offer → List ℕ
scopes os = map (λ (o : Offer). o.scopes) os

-- scopes are as many as nacks in the text
mutual
  scopes_with : (w : ℕ) (e : Event) (bs : List Base) (ns : List ℕ) → scope_count (tree_with w e bs ns) ≡ nack_count e
  scopes_with w (Sends channel list) bs ns = refl
  scopes_with w (Receives channel) bs ns = refl
  scopes_with w (IsReady list) bs ns = refl
  scopes_with w IsNever bs ns = refl
  scopes_with w (IsCancelled nack) bs ns = refl
  scopes_with w (IsJoined process) bs ns = refl
  scopes_with w (Chooses members) bs ns = scopes_with_all w members bs ns
  scopes_with w (Wraps e names list) bs ns = scopes_with (w + 1) e bs ns
  scopes_with w (Guards body e) bs ns = scopes_with w e bs ns
  scopes_with w (Nacks name body e) bs ns = omega (arith, scopes_with w e bs (drop 1 ns))

  scopes_with_all : (w : ℕ) (es : Events) (bs : List Base) (ns : List ℕ) → scope_count (choice_with w es bs ns) ≡ nacks_of_all es
  scopes_with_all w NoMembers bs ns = refl
  scopes_with_all w (Members e es) bs ns =
      let others = choice_with (w + length (wraps_in e)) es (drop (base_count e) bs) (drop (nack_count e) ns) in
      omega (arith, scope_count-Or (tree_with w e bs ns) others, scopes_with w e bs ns, scopes_with_all (w + length (wraps_in e)) es (drop (base_count e) bs) (drop (nack_count e) ns))

-- one offer
one_offer : (a n : ℕ) (os : List Offer) → scopes os ≡ a ∷ [] → (o : Offer) × (os ≡ o ∷ []) × (o.scopes ≡ a)
one_offer a n [] h = absurd (no_cons h)
  where
    no_cons : [] ≡ a ∷ [] → ⊥
    no_cons h = let no : 0 ≡ 1 = ap length h in omega (arith, no)
one_offer a n (o ∷ []) h = (o, refl, ap (λ l. first l) h)
  where
    first : List ℕ → ℕ
    first [] = 0
    first (x ∷ xs) = x
one_offer a n (o ∷ p ∷ os) h = absurd (let no = ap length h in omega (arith, no))

-- what is asked of the offers and the nacks of an event, and what its tree then makes
abbrev Have : ℕ → List ℕ → List Offer → List ℕ → Type 0
Have nacks ms os ns = (scopes os ≡ ms) × (length ns ≡ nacks)

abbrev Makes : ℕ → ℕ → Tree → List Offer → List ℕ → Type 0
Makes a n t os ns = (offers_within a n t ≡ os) × (scope_nacks t ≡ ns)

base_makes : (a n : ℕ) (e : Event) (os : List Offer) (ns : List ℕ) → ((bs : List Base) (ks : List ℕ) → tree_with 0 e bs ks ≡ Single (get_or bs 0 Never)) → Have 0 (a ∷ []) os ns → Makes a n (Single (get_or (bases os) 0 Never)) os ns
base_makes a n e os ns is h =
    let one = one_offer a n os h.0 in (
      offers_within-Single a n (get_or (bases os) 0 Never)
          ∙ ap (λ l. record { base = get_or (bases l) 0 Never; scopes = a } ∷ []) one.1
          ∙ ap (λ m. record { base = one.0.base; scopes = m } ∷ []) (sym one.2)
          ∙ sym one.1,
      sym (nil_from_length ns h.1),
    )

wrap_makes : (a n w : ℕ) (t : Tree) (os : List Offer) (ns : List ℕ) → Makes a n t os ns → Makes a n (Wrap w t) os ns
wrap_makes a n w t os ns h = (offers_within-Wrap a n w t ∙ h.0, h.1)

-- the offers and nacks of one member, and those of the others
or_makes : (a n : ℕ) (t u : Tree) (os ps : List Offer) (ns ks : List ℕ) (whole : List Offer) (all : List ℕ) → Makes a n t os ns → Makes a (n + scope_count t) u ps ks → os ++ ps ≡ whole → ns ++ ks ≡ all → Makes a n (Or t u) whole all
or_makes a n t u os ps ns ks whole all first second offered made =
    (offers_within-Or a n t u ∙ ap₂ (λ x y. x ++ y) first.0 second.0 ∙ offered, ap₂ (λ x y. x ++ y) first.1 second.1 ∙ made)

map-take : {A B : Type 0} (f : A → B) (k : ℕ) (xs : List A) → map f (take k xs) ≡ take k (map f xs)
map-take f zero xs = refl
map-take f (suc k) [] = refl
map-take f (suc k) (x ∷ xs) = ap (λ l. f x ∷ l) (map-take f k xs)

map-drop : {A B : Type 0} (f : A → B) (k : ℕ) (xs : List A) → map f (drop k xs) ≡ drop k (map f xs)
map-drop f zero xs = refl
map-drop f (suc k) [] = refl
map-drop f (suc k) (x ∷ xs) = map-drop f k xs

-- the tree of a member is that of its own base events and nacks
own_tree : (w : ℕ) (e : Event) (bs : List Base) (ns : List ℕ) → base_count e ≤ length bs → nack_count e ≤ length ns → tree_with w e bs ns ≡ tree_with w e (take (base_count e) bs) (take (nack_count e) ns)
own_tree w e bs ns h k =
    ap₂ (tree_with w e) (sym (take-append-drop (base_count e) bs)) (sym (take-append-drop (nack_count e) ns))
    ∙ tree_front w e (take (base_count e) bs) (drop (base_count e) bs) (take (nack_count e) ns) (drop (nack_count e) ns) (omega (arith, length-take-le (base_count e) bs h)) (omega (arith, length-take-le (nack_count e) ns k))

-- the scopes of the first member, and those of the others
first_scopes : (ms more : List ℕ) (k : ℕ) (os : List Offer) → length ms ≡ k → scopes os ≡ ms ++ more → scopes (take k os) ≡ ms
first_scopes ms more k os len h = map-take (λ (o : Offer). o.scopes) k os ∙ ap (take k) h ∙ ap (λ j. take j (ms ++ more)) (sym len) ∙ take-append_seam ms more

other_scopes : (ms more : List ℕ) (k : ℕ) (os : List Offer) → length ms ≡ k → scopes os ≡ ms ++ more → scopes (drop k os) ≡ more
other_scopes ms more k os len h = map-drop (λ (o : Offer). o.scopes) k os ∙ ap (drop k) h ∙ ap (λ j. drop j (ms ++ more)) (sym len) ∙ drop-append_seam ms more

mutual
  makes : (a n w : ℕ) (e : Event) (os : List Offer) (ns : List ℕ) → Have (nack_count e) (masks (stages a n e)) os ns → Makes a n (tree_with w e (bases os) ns) os ns
  makes a n w (Sends channel list) os ns h = base_makes a n (Sends channel list) os ns (λ bs ks. refl) h
  makes a n w (Receives channel) os ns h = base_makes a n (Receives channel) os ns (λ bs ks. refl) h
  makes a n w (IsReady list) os ns h = base_makes a n (IsReady list) os ns (λ bs ks. refl) h
  makes a n w IsNever os ns h = base_makes a n IsNever os ns (λ bs ks. refl) h
  makes a n w (IsCancelled nack) os ns h = base_makes a n (IsCancelled nack) os ns (λ bs ks. refl) h
  makes a n w (IsJoined process) os ns h = base_makes a n (IsJoined process) os ns (λ bs ks. refl) h
  makes a n w (Chooses members) os ns h = makes_all a n w members os ns h
  makes a n w (Wraps e names list) os ns h = wrap_makes a n w (tree_with (w + 1) e (bases os) ns) os ns (makes a n (w + 1) e os ns h)
  makes a n w (Guards body e) os ns h = makes a n w e os ns h
  makes a n w (Nacks name body e) os [] h = absurd (let no = h.1 in omega (arith, no))
  makes a n w (Nacks name body e) os (k ∷ ns) h =
      let inner = makes (bit_or a (2 ^ n)) (n + 1) w e os ns (h.0, omega (arith, h.1)) in
      (offers_within-Scope a n k (tree_with w e (bases os) ns) ∙ inner.0, ap (λ l. k ∷ l) inner.1)

  makes_all : (a n w : ℕ) (es : Events) (os : List Offer) (ns : List ℕ) → Have (nacks_of_all es) (masks (stages_of_all a n es)) os ns → Makes a n (choice_with w es (bases os) ns) os ns
  makes_all a n w NoMembers os ns h =
      (sym (nil_from_length os (sym (length-map os (λ (o : Offer). o.scopes)) ∙ ap length h.0)), sym (nil_from_length ns h.1))
  makes_all a n w (Members e es) os ns h =
      let k = base_count e in
      let j = nack_count e in
      let more = n + nack_count e in
      let v = w + length (wraps_in e) in
      let parted = h.0 ∙ masks-append (stages a n e) (stages_of_all a more es) in
      let many : length os ≡ k + bases_of_all es = sym (length-map os (λ (o : Offer). o.scopes)) ∙ ap length h.0 ∙ offers_of_all a n (Members e es) in
      let first = makes a n w e (take k os) (take j ns) (first_scopes (masks (stages a n e)) (masks (stages_of_all a more es)) k os (offers_of a n e) parted, length-take-le j ns (omega (arith, h.1))) in
      let others = makes_all a more v es (drop k os) (drop j ns) (other_scopes (masks (stages a n e)) (masks (stages_of_all a more es)) k os (offers_of a n e) parted, omega (arith, length-drop j ns, h.1)) in
      let tree : tree_with w e (bases os) ns ≡ tree_with w e (bases (take k os)) (take j ns) =
      own_tree w e (bases os) ns (omega (arith, many, length-map os (λ (o : Offer). o.base))) (omega (arith, h.1)) ∙ ap (λ bs. tree_with w e bs (take j ns)) (sym (map-take (λ (o : Offer). o.base) k os)) in
      let choice : choice_with v es (drop k (bases os)) (drop j ns) ≡ choice_with v es (bases (drop k os)) (drop j ns) =
      ap (λ bs. choice_with v es bs (drop j ns)) (sym (map-drop (λ (o : Offer). o.base) k os)) in
      let count : n + scope_count (tree_with w e (bases os) ns) ≡ more = ap (λ x. n + x) (scopes_with w e (bases os) ns) in
      or_makes a n (tree_with w e (bases os) ns) (choice_with v es (drop k (bases os)) (drop j ns)) (take k os) (drop k os) (take j ns) (drop j ns) os ns
      (subst (λ t. Makes a n t (take k os) (take j ns)) (sym tree) first)
      (subst₂ (λ m t. Makes a m t (drop k os) (drop j ns)) (sym count) (sym choice) others)
      (take-append-drop k os) (take-append-drop j ns)

-- of a whole event
pub tree_offers : (e : Event) (l : Lists) → scopes l.offers ≡ masks (stages 0 0 e) → length l.nacks ≡ nacks_made (stages 0 0 e) → offers (tree_as e l) ≡ l.offers
tree_offers e l h k = sym (offers_within-offers (tree_as e l)) ∙ (makes 0 0 0 e l.offers l.nacks (h, k ∙ nacks_of 0 0 e)).0

pub tree_nacks : (e : Event) (l : Lists) → scopes l.offers ≡ masks (stages 0 0 e) → length l.nacks ≡ nacks_made (stages 0 0 e) → scope_nacks (tree_as e l) ≡ l.nacks
tree_nacks e l h k = (makes 0 0 0 e l.offers l.nacks (h, k ∙ nacks_of 0 0 e)).1
