-- Whoever leaves the table is gathered by one pass, once.
use Rattle.std.proofs.Common.{slice_set, ◌⊎◌, ◌≡◌, ◌≢◌, ◌<◌, ℕ, List, [], ◌∷◌, ◌++◌, length, sym, refl, ap, ◌∙◌, subst, inl, inr, ⊎_elim}
use Rattle.std.proofs.lemmas.Bool.{cases_eq}
use mathlib.Core.Option.{some}
use lib.ListN.{get_elem?}
use Rattle.atomic_table.proofs.Lists.{at_longer, at_set, set_else, set_here}
use Rattle.protocol_values.specs.declared.Step.{Step}
use Rattle.cell_table.specs.declared.view.Stage.TheVariants.{Aside, Left, Resting}
use Rattle.cell_table.specs.declared.view.View.{View}
use Rattle.cell_table.specs.Rule.{AreDistinct, Gathers, HasLeft, Seated, heard_pass, left_pass, spent_pass, told_last}
use Rattle.cell_table.specs.Sight.{Has}
use Rattle.cell_table.proofs.Handing.{slot_inside}
use Rattle.cell_table.proofs.Seating.{at_end}

-- in two lists joined
in_either : {A : Type 0} (xs ys : List A) (x : A) → Has (xs ++ ys) x → Has xs x ⊎ Has ys x
in_either [] ys x h = inr h
in_either (y ∷ xs) ys x (inl e) = inl (inl e)
in_either (y ∷ xs) ys x (inr h) = ⊎_elim (λ (a : Has xs x). inl (inr a)) (λ (b : Has ys x). inr b) (in_either xs ys x h)

both_distinct : (xs ys : List (ℕ × List Step)) → AreDistinct xs → AreDistinct ys → ((seat : ℕ) (a b : List Step) → Has xs (seat, a) → Has ys (seat, b) → ⊥) → AreDistinct (xs ++ ys)
both_distinct [] ys a b apart = b
both_distinct (x ∷ xs) ys a b apart = (
  λ steps h. ⊎_elim (λ (i : Has xs (x.0, steps)). a.0 steps i) (λ (i : Has ys (x.0, steps)). apart x.0 x.1 steps (inl refl) i) (in_either xs ys (x.0, steps) h),
  both_distinct xs ys a.1 b (λ seat c d i j. apart seat c d (inr i) j),
)

module _ {M : Type 0} where
  -- A CHANGE OF THE VIEWS in which none gathers more: whoever had left has, and each has gathered what it had, or nothing
  abbrev Was : List (View M) → ℕ → View M → Type 0
  Was vs j u = ((v : View M) × (get_elem? vs j ≡ some v) × (u.gathered ≡ v.gathered)) ⊎ (u.gathered ≡ [])

  gathers_by : (vs ws : List (View M)) → ((seat : ℕ) (steps : List Step) → HasLeft vs seat steps → HasLeft ws seat steps) → ((j : ℕ) (u : View M) → get_elem? ws j ≡ some u → Was vs j u) → Gathers vs → Gathers ws
  gathers_by vs ws keep was before = record {
    left = λ j u seat steps e h. left_by j u seat steps (was j u e) h;
    once = λ i j x y seat a b e f g h. once_by i j x y seat a b (was i x e) (was j y f) g h;
    distinct = λ j u e. distinct_by j u (was j u e);
  }
    where
      left_by : (j : ℕ) (u : View M) (seat : ℕ) (steps : List Step) → Was vs j u → Has u.gathered (seat, steps) → HasLeft ws seat steps
      left_by j u seat steps (inl o) h = keep seat steps (before.left j o.0 seat steps o.1 (subst (λ (l : List (ℕ × List Step)). Has l (seat, steps)) o.2 h))
      left_by j u seat steps (inr n) h = absurd (subst (λ (l : List (ℕ × List Step)). Has l (seat, steps)) n h)

      once_by : (i j : ℕ) (x y : View M) (seat : ℕ) (a b : List Step) → Was vs i x → Was vs j y → Has x.gathered (seat, a) → Has y.gathered (seat, b) → i ≡ j
      once_by i j x y seat a b (inl o) (inl p) g h = before.once i j o.0 p.0 seat a b o.1 p.1 (subst (λ (l : List (ℕ × List Step)). Has l (seat, a)) o.2 g) (subst (λ (l : List (ℕ × List Step)). Has l (seat, b)) p.2 h)
      once_by i j x y seat a b (inl o) (inr n) g h = absurd (subst (λ (l : List (ℕ × List Step)). Has l (seat, b)) n h)
      once_by i j x y seat a b (inr n) p g h = absurd (subst (λ (l : List (ℕ × List Step)). Has l (seat, a)) n g)

      distinct_by : (j : ℕ) (u : View M) → Was vs j u → AreDistinct u.gathered
      distinct_by j u (inl o) = subst AreDistinct (sym o.2) (before.distinct j o.0 o.1)
      distinct_by j u (inr n) = subst AreDistinct (sym n) tt

  -- whoever had left is still there, where another view is new
  still_left : (vs : List (View M)) (id : ℕ) (v w : View M) → get_elem? vs id ≡ some v → (v.stage ≡ Left → (w.threads ≡ v.threads) × (w.stage ≡ Left) × (w.seat ≡ v.seat) × (w.made ≡ v.made)) → (seat : ℕ) (steps : List Step) → HasLeft vs seat steps → HasLeft (slice_set vs id w) seat steps
  still_left vs id v w view same seat steps o = ⊎_elim
      (λ (here : o.0 ≡ id).
      let is : o.1 ≡ v = mathlib.Core.Option.some-injective o.1 v (sym o.2 ∙ ap (get_elem? vs) here ∙ view) in
      let s = same (ap (λ (z : View M). z.stage) (sym is) ∙ o.4) in
      (id, w, set_here vs id w (slot_inside vs id v view), subst (λ (n : ℕ). 0 < n) (ap (λ (z : View M). z.threads) is ∙ sym s.0) o.3, s.1, s.2 ∙ ap (λ (z : View M). z.seat) (sym is) ∙ o.5, s.3 ∙ ap (λ (z : View M). z.made) (sym is) ∙ o.6))
      (λ (other : o.0 ≡ id → ⊥). (o.0, o.1, set_else vs id o.0 w other ∙ o.2, o.3, o.4, o.5, o.6))
      (cases_eq o.0 id)

  pub gathers_set : (vs : List (View M)) (id : ℕ) (v w : View M) → get_elem? vs id ≡ some v → w.gathered ≡ v.gathered → (v.stage ≡ Left → (w.threads ≡ v.threads) × (w.stage ≡ Left) × (w.seat ≡ v.seat) × (w.made ≡ v.made)) → Gathers vs → Gathers (slice_set vs id w)
  gathers_set vs id v w view same left before = gathers_by vs (slice_set vs id w) (still_left vs id v w view left)
      (λ j u e. ⊎_elim
      (λ (a : (j ≡ id) × (w ≡ u)). inl (v, ap (get_elem? vs) a.0 ∙ view, ap (λ (z : View M). z.gathered) (sym a.1) ∙ same))
      (λ (a : (j ≢ id) × (get_elem? vs j ≡ some u)). inl (u, a.1, refl))
      (at_set vs id j w u e))
      before

  -- A PASS MORE that has gathered nothing
  longer_left : (vs : List (View M)) (w : View M) (seat : ℕ) (steps : List Step) → HasLeft vs seat steps → HasLeft (vs ++ w ∷ []) seat steps
  longer_left vs w seat steps o = (o.0, o.1, at_longer vs (w ∷ []) o.0 o.1 o.2, o.3, o.4, o.5, o.6)

  pub gathers_more : (vs : List (View M)) (w : View M) → w.gathered ≡ [] → Gathers vs → Gathers (vs ++ w ∷ [])
  gathers_more vs w none before = gathers_by vs (vs ++ w ∷ []) (longer_left vs w)
      (λ j u e. ⊎_elim
      (λ (old : get_elem? vs j ≡ some u). inl (u, old, refl))
      (λ (new : (j ≡ length vs) × (w ≡ u)). inr (ap (λ (z : View M). z.gathered) (sym new.1) ∙ none))
      (at_end vs w u j e))
      before

  -- at the start there is nobody
  pub gathers_start : (w : View M) → w.gathered ≡ [] → Gathers (w ∷ [])
  gathers_start w none = gathers_more [] w none (record {
    left = λ j u seat steps e h. absurd (mathlib.Core.Option.some-ne-none u (sym e));
    once = λ i j x y seat a b e f g h. absurd (mathlib.Core.Option.some-ne-none x (sym e));
    distinct = λ j u e. absurd (mathlib.Core.Option.some-ne-none u (sym e));
  })

  -- ONE PASS LEAVES: its seat is nobody's who left before
  module _ (vs : List (View M)) (id : ℕ) (v : View M) (view : get_elem? vs id ≡ some v) (at_table : 0 < v.threads) (rests : v.stage ≡ Resting) (seated : Seated vs) (before : Gathers vs) where
    abbrev after : List (View M)
    after = slice_set vs id (left_pass v) ++ told_last v ∷ []

    not_left : v.stage ≡ Left → ⊥
    not_left e = let bad : Resting ≡ Left = sym rests ∙ e in cc

    not_aside : (u : View M) → u.stage ≡ Left → u.stage ≢ Aside
    not_aside u e f = let bad : Left ≡ Aside = sym e ∙ f in cc

    rests_on : v.stage ≢ Aside
    rests_on f = let bad : Resting ≡ Aside = sym rests ∙ f in cc

    -- nobody who left has its seat
    free : (steps : List Step) → HasLeft vs v.seat steps → ⊥
    free steps o =
        let same : o.0 ≡ id = seated.one_seat o.0 id o.1 v o.2 view o.3 at_table (not_aside o.1 o.4) rests_on o.5 in
        not_left (ap (λ (z : View M). z.stage) (mathlib.Core.Option.some-injective v o.1 (sym view ∙ ap (get_elem? vs) (sym same) ∙ o.2)) ∙ o.4)

    keep : (seat : ℕ) (steps : List Step) → HasLeft vs seat steps → HasLeft after seat steps
    keep seat steps o = longer_left (slice_set vs id (left_pass v)) (told_last v) seat steps (still_left vs id v (left_pass v) view (λ e. absurd (not_left e)) seat steps o)

    now : HasLeft after v.seat v.made
    now = longer_left (slice_set vs id (left_pass v)) (told_last v) v.seat v.made (id, left_pass v, set_here vs id (left_pass v) (slot_inside vs id v view), at_table, refl, refl, refl)

    -- a pass that was there, or the new one
    abbrev Is : ℕ → View M → Type 0
    Is j u = ((x : View M) × (get_elem? vs j ≡ some x) × (u.gathered ≡ x.gathered)) ⊎ ((j ≡ length (slice_set vs id (left_pass v))) × (told_last v ≡ u))

    is : (j : ℕ) (u : View M) → get_elem? after j ≡ some u → Is j u
    is j u e = ⊎_elim
        (λ (old : get_elem? (slice_set vs id (left_pass v)) j ≡ some u). ⊎_elim
        (λ (a : (j ≡ id) × (left_pass v ≡ u)). inl (v, ap (get_elem? vs) a.0 ∙ view, ap (λ (z : View M). z.gathered) (sym a.1)))
        (λ (a : (j ≢ id) × (get_elem? vs j ≡ some u)). inl (u, a.1, refl))
        (at_set vs id j (left_pass v) u old))
        (λ (new : (j ≡ length (slice_set vs id (left_pass v))) × (told_last v ≡ u)). inr new)
        (at_end (slice_set vs id (left_pass v)) (told_last v) u j e)

    -- what the new one has gathered
    abbrev IsIts : ℕ → List Step → Type 0
    IsIts seat steps = let x : ℕ × List Step = (v.seat, v.made) in let y : ℕ × List Step = (seat, steps) in x ≡ y

    its : (u : View M) (seat : ℕ) (steps : List Step) → told_last v ≡ u → Has u.gathered (seat, steps) → IsIts seat steps
    its u seat steps same h = ⊎_elim (λ (e : IsIts seat steps). e) (λ (no : ⊥). absurd no) (subst (λ (z : View M). Has z.gathered (seat, steps)) (sym same) h)

    left_is : (j : ℕ) (u : View M) (seat : ℕ) (steps : List Step) → Is j u → Has u.gathered (seat, steps) → HasLeft after seat steps
    left_is j u seat steps (inl o) h = keep seat steps (before.left j o.0 seat steps o.1 (subst (λ (l : List (ℕ × List Step)). Has l (seat, steps)) o.2 h))
    left_is j u seat steps (inr n) h = subst (λ (z : ℕ × List Step). HasLeft after z.0 z.1) (its u seat steps n.1 h) now

    once_is : (i j : ℕ) (x y : View M) (seat : ℕ) (a b : List Step) → Is i x → Is j y → Has x.gathered (seat, a) → Has y.gathered (seat, b) → i ≡ j
    once_is i j x y seat a b (inl o) (inl p) g h = before.once i j o.0 p.0 seat a b o.1 p.1 (subst (λ (l : List (ℕ × List Step)). Has l (seat, a)) o.2 g) (subst (λ (l : List (ℕ × List Step)). Has l (seat, b)) p.2 h)
    once_is i j x y seat a b (inl o) (inr n) g h = absurd (free a (subst (λ (k : ℕ). HasLeft vs k a) (ap (λ (z : ℕ × List Step). z.0) (sym (its y seat b n.1 h))) (before.left i o.0 seat a o.1 (subst (λ (l : List (ℕ × List Step)). Has l (seat, a)) o.2 g))))
    once_is i j x y seat a b (inr n) (inl o) g h = absurd (free b (subst (λ (k : ℕ). HasLeft vs k b) (ap (λ (z : ℕ × List Step). z.0) (sym (its x seat a n.1 g))) (before.left j o.0 seat b o.1 (subst (λ (l : List (ℕ × List Step)). Has l (seat, b)) o.2 h))))
    once_is i j x y seat a b (inr n) (inr m) g h = n.0 ∙ sym m.0

    distinct_is : (j : ℕ) (u : View M) → Is j u → AreDistinct u.gathered
    distinct_is j u (inl o) = subst AreDistinct (sym o.2) (before.distinct j o.0 o.1)
    distinct_is j u (inr n) = subst (λ (z : View M). AreDistinct z.gathered) n.1 ((λ steps h. h), tt)

    pub gathers_left : Gathers after
    gathers_left = record {
      left = λ j u seat steps e. left_is j u seat steps (is j u e);
      once = λ i j x y seat a b e f. once_is i j x y seat a b (is i x e) (is j y f);
      distinct = λ j u e. distinct_is j u (is j u e);
    }

  -- ONE PASS HEARS what another tells, which is spent then: it has gathered what both had
  module _ (vs : List (View M)) (id : ℕ) (v : View M) (other : ℕ) (w : View M) (view : get_elem? vs id ≡ some v) (apart : other ≡ id → ⊥) (told : get_elem? vs other ≡ some w) (aside : w.stage ≡ Aside) (before : Gathers vs) where
    abbrev heard_views : List (View M)
    heard_views = slice_set (slice_set vs id (heard_pass v w)) other spent_pass

    told_there : get_elem? (slice_set vs id (heard_pass v w)) other ≡ some w
    told_there = set_else vs id other (heard_pass v w) apart ∙ told

    keeps_left : (seat : ℕ) (steps : List Step) → HasLeft vs seat steps → HasLeft heard_views seat steps
    keeps_left seat steps o = still_left (slice_set vs id (heard_pass v w)) other w spent_pass told_there (λ e. let bad : Left ≡ Aside = sym e ∙ aside in cc) seat steps
        (still_left vs id v (heard_pass v w) view (λ e. (refl, e, refl, refl)) seat steps o)

    -- from whom a pass has what it has gathered: from itself, or from the one that told it
    abbrev From : ℕ → View M → Type 0
    From j u = ((j ≡ id) × (heard_pass v w ≡ u)) ⊎ (((j ≢ id) × (j ≢ other) × (get_elem? vs j ≡ some u)) ⊎ (spent_pass ≡ u))

    from : (j : ℕ) (u : View M) → get_elem? heard_views j ≡ some u → From j u
    from j u e = ⊎_elim
        (λ (a : (j ≡ other) × (spent_pass ≡ u)). inr (inr a.1))
        (λ (a : (j ≢ other) × (get_elem? (slice_set vs id (heard_pass v w)) j ≡ some u)). ⊎_elim
        (λ (b : (j ≡ id) × (heard_pass v w ≡ u)). inl b)
        (λ (b : (j ≢ id) × (get_elem? vs j ≡ some u)). inr (inl (b.0, a.0, b.1)))
        (at_set vs id j (heard_pass v w) u a.1))
        (at_set (slice_set vs id (heard_pass v w)) other j spent_pass u e)

    -- one who had it before
    abbrev Source : ℕ → ℕ → List Step → Type 0
    Source j seat steps = (i : ℕ) × (u : View M) × (get_elem? vs i ≡ some u) × Has u.gathered (seat, steps) × ((i ≡ j) ⊎ ((i ≡ other) × (j ≡ id)))

    source : (j : ℕ) (u : View M) (seat : ℕ) (steps : List Step) → From j u → Has u.gathered (seat, steps) → Source j seat steps
    source j u seat steps (inl b) h = ⊎_elim
        (λ (mine : Has v.gathered (seat, steps)). (id, v, view, mine, inl (sym b.0)))
        (λ (his : Has w.gathered (seat, steps)). (other, w, told, his, inr (refl, b.0)))
        (in_either v.gathered w.gathered (seat, steps) (subst (λ (z : View M). Has z.gathered (seat, steps)) (sym b.1) h))
    source j u seat steps (inr (inl b)) h = (j, u, b.2, h, inl refl)
    source j u seat steps (inr (inr b)) h = absurd (subst (λ (z : View M). Has z.gathered (seat, steps)) (sym b) h)

    one_of : (i j a b : ℕ) → a ≡ b → (a ≡ i) ⊎ ((a ≡ other) × (i ≡ id)) → (b ≡ j) ⊎ ((b ≡ other) × (j ≡ id)) → (i ≡ other → ⊥) → (j ≡ other → ⊥) → i ≡ j
    one_of i j a b same (inl e) (inl f) m n = sym e ∙ same ∙ f
    one_of i j a b same (inl e) (inr f) m n = absurd (m (sym e ∙ same ∙ f.0))
    one_of i j a b same (inr e) (inl f) m n = absurd (n (sym f ∙ sym same ∙ e.0))
    one_of i j a b same (inr e) (inr f) m n = e.1 ∙ sym f.1

    not_other : (j : ℕ) (u : View M) (seat : ℕ) (steps : List Step) → From j u → Has u.gathered (seat, steps) → j ≡ other → ⊥
    not_other j u seat steps (inl b) h e = apart (sym e ∙ b.0)
    not_other j u seat steps (inr (inl b)) h e = b.1 e
    not_other j u seat steps (inr (inr b)) h e = subst (λ (z : View M). Has z.gathered (seat, steps)) (sym b) h

    distinct_from : (j : ℕ) (u : View M) → From j u → AreDistinct u.gathered
    distinct_from j u (inl b) = subst (λ (z : View M). AreDistinct z.gathered) b.1
        (both_distinct v.gathered w.gathered (before.distinct id v view) (before.distinct other w told) (λ seat a c g h. apart (before.once other id w v seat c a told view h g)))
    distinct_from j u (inr (inl b)) = before.distinct j u b.2
    distinct_from j u (inr (inr b)) = subst (λ (z : View M). AreDistinct z.gathered) b tt

    pub gathers_heard : Gathers heard_views
    gathers_heard = record {
      left = λ j u seat steps e h. let o = source j u seat steps (from j u e) h in keeps_left seat steps (before.left o.0 o.1 seat steps o.2 o.3);
      once = λ i j x y seat a b e f g h.
          let o = source i x seat a (from i x e) g in
          let p = source j y seat b (from j y f) h in
          one_of i j o.0 p.0 (before.once o.0 p.0 o.1 p.1 seat a b o.2 p.2 o.3 p.3) o.4 p.4 (not_other i x seat a (from i x e) g) (not_other j y seat b (from j y f) h);
      distinct = λ j u e. distinct_from j u (from j u e);
    }
