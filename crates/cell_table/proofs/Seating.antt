-- Who sits where: each pass that makes steps has a seat of its own, whatever passes do, tell one another and are dealt.
use Rattle.std.proofs.Common.{slice_set, ◌⊎◌, ◌≡◌, ◌≢◌, ◌<◌, ◌≤◌, ℕ, zero, suc, List, [], ◌∷◌, ◌++◌, length, sym, refl, ap, ◌∙◌, subst, inl, inr, ⊎_elim, arith}
use mathlib.Core.Option.{some}
use lib.ListN.{get_elem?}
use Rattle.atomic_table.proofs.Lists.{at_set}
use Rattle.protocol_values.specs.declared.Cell.{Cell}
use Rattle.protocol_values.specs.declared.Cell.TheVariants.{Fresh, Waiting, Claimed, Synched, Taken}
use Rattle.protocol_values.specs.declared.Row.{Row}
use Rattle.protocol_values.specs.declared.Step.{Step}
use Rattle.protocol_values.specs.declared.Step.TheVariants.{Bind}
use Rattle.cell_table.specs.declared.view.Shape.{Shape}
use Rattle.cell_table.specs.declared.view.Stage.TheVariants.{Aside, Left, Resting}
use Rattle.cell_table.specs.declared.view.View.{View}
use Rattle.cell_table.specs.Rule.{HasActed, Seated, dealer, heard_pass, left_pass, spent_pass}
use Rattle.cell_table.specs.Sight.{Has}
use Rattle.cell_table.specs.Views.{did, saw}

-- a list with one more at its end
pub at_end : {A : Type 0} (l : List A) (a b : A) (j : ℕ) → get_elem? (l ++ a ∷ []) j ≡ some b → (get_elem? l j ≡ some b) ⊎ ((j ≡ length l) × (a ≡ b))
at_end [] a b zero e = inr (refl, mathlib.Core.Option.some-injective a b e)
at_end [] a b (suc j) e = absurd (mathlib.Core.Option.some-ne-none b (sym e))
at_end (x ∷ xs) a b zero e = inl e
at_end (x ∷ xs) a b (suc j) e = ⊎_elim (λ h. inl h) (λ h. inr (ap suc h.0, h.1)) (at_end xs a b j e)

module _ {M : Type 0} where
  -- no pass among these makes steps at this seat
  abbrev IsFree : List (View M) → ℕ → Type 0
  IsFree vs seat = (j : ℕ) (u : View M) → get_elem? vs j ≡ some u → 0 < u.threads → u.stage ≢ Aside → u.seat ≢ seat

  -- what is so of a view by itself
  pub record SitsWell (w : View M) : Type 0 where
    pub aside : w.stage ≡ Aside → (w.made ≡ []) × (w.seen.held ≡ [])
    pub gone : w.threads ≡ 0 → w.made ≡ []
    pub binders : (k : ℕ) (r : Row) (scope : ℕ) → Has w.made (Bind k r scope) → Has w.seen.held r
    pub begun : (r : Row) → Has w.seen.begun r → Has w.seen.held r

  pub sits_well : (vs : List (View M)) (id : ℕ) (v : View M) → get_elem? vs id ≡ some v → Seated vs → SitsWell v
  sits_well vs id v view before = record { aside = before.aside id v view; gone = before.gone id v view; binders = λ k r scope h. before.binders id v k r scope view h; begun = λ r h. before.begun id v r view h }

  -- a pass that has made a step, or holds a row, does not stand aside
  pub acts : (vs : List (View M)) (id : ℕ) (v : View M) → Seated vs → get_elem? vs id ≡ some v → HasActed v → v.stage ≢ Aside
  acts vs id v seated view (inl made) e = made (seated.aside id v view e).0
  acts vs id v seated view (inr held) e = subst (λ (l : List Row). Has l held.0) (seated.aside id v view e).1 held.1

  -- and one that has made a step is of the table still
  pub stays_of : (step : Step) (vs : List (View M)) (id : ℕ) (v : View M) → Seated vs → get_elem? vs id ≡ some v → Has v.made step → 0 < v.threads
  stays_of step vs id v seated view made = by_size v.threads refl
    where
      by_size : (n : ℕ) → v.threads ≡ n → 0 < v.threads
      by_size zero e = absurd (subst (λ (l : List Step). Has l step) (seated.gone id v view e) made)
      by_size (suc n) e = omega (arith, e)

  -- ONE PASS GOES ON: the view w stands where v stood
  pub record GoesOn (v w : View M) : Type 0 where
    pub acts : 0 < w.threads → w.stage ≢ Aside → (0 < v.threads) × (v.stage ≢ Aside) × (w.seat ≡ v.seat)
    pub deals : 0 < w.threads → w.dealt < w.passes → (0 < v.threads) × (v.dealt < v.passes) × (v.dealt ≤ w.dealt)
    pub well : SitsWell w

  module _ (vs : List (View M)) (id : ℕ) (v w : View M) (view : get_elem? vs id ≡ some v) (on : GoesOn v w) (before : Seated vs) where
    abbrev Was : ℕ → View M → Type 0
    Was j u = ((j ≡ id) × (w ≡ u)) ⊎ ((j ≢ id) × (get_elem? vs j ≡ some u))

    acts_so : (u : View M) → w ≡ u → 0 < u.threads → u.stage ≢ Aside → (0 < v.threads) × (v.stage ≢ Aside) × (u.seat ≡ v.seat)
    acts_so u e = subst (λ (z : View M). 0 < z.threads → z.stage ≢ Aside → (0 < v.threads) × (v.stage ≢ Aside) × (z.seat ≡ v.seat)) e on.acts

    deals_so : (u : View M) → w ≡ u → 0 < u.threads → u.dealt < u.passes → (0 < v.threads) × (v.dealt < v.passes) × (v.dealt ≤ u.dealt)
    deals_so u e = subst (λ (z : View M). 0 < z.threads → z.dealt < z.passes → (0 < v.threads) × (v.dealt < v.passes) × (v.dealt ≤ z.dealt)) e on.deals

    well_by : (j : ℕ) (u : View M) → Was j u → SitsWell u
    well_by j u (inl a) = subst SitsWell a.1 on.well
    well_by j u (inr a) = sits_well vs j u a.1 before

    one_by : (i j : ℕ) (x y : View M) → Was i x → Was j y → 0 < x.threads → 0 < y.threads → x.stage ≢ Aside → y.stage ≢ Aside → x.seat ≡ y.seat → i ≡ j
    one_by i j x y (inl a) (inl b) s t p q same = a.0 ∙ sym b.0
    one_by i j x y (inl a) (inr b) s t p q same = let o = acts_so x a.1 s p in a.0 ∙ before.one_seat id j v y view b.1 o.0 t o.1 q (sym o.2 ∙ same)
    one_by i j x y (inr a) (inl b) s t p q same = let o = acts_so y b.1 t q in before.one_seat i id x v a.1 view s o.0 p o.1 (same ∙ o.2) ∙ sym b.0
    one_by i j x y (inr a) (inr b) s t p q same = before.one_seat i j x y a.1 b.1 s t p q same

    seat_by : (n : ℕ) → ((j : ℕ) (u : View M) → get_elem? vs j ≡ some u → 0 < u.threads → u.stage ≢ Aside → u.seat < n)
        → (j : ℕ) (u : View M) → Was j u → 0 < u.threads → u.stage ≢ Aside → u.seat < n
    seat_by n all j u (inl a) t q = let o = acts_so u a.1 t q in subst (λ (m : ℕ). m < n) (sym o.2) (all id v view o.0 o.1)
    seat_by n all j u (inr a) t q = all j u a.1 t q

    dealing_by : (i : ℕ) (u : View M) → Was i u → 0 < u.threads → u.dealt < u.passes
        → (i ≡ 0) × ((j : ℕ) (x : View M) → get_elem? (slice_set vs id w) j ≡ some x → 0 < x.threads → x.stage ≢ Aside → x.seat < u.dealt)
    dealing_by i u (inl a) t d =
        let o = deals_so u a.1 t d in
        let was = before.dealing id v view o.0 o.1 in
        (a.0 ∙ was.0, λ j x e s q. let low : x.seat < v.dealt = seat_by v.dealt was.1 j x (at_set vs id j w x e) s q in let more : v.dealt ≤ u.dealt = o.2 in omega arith)
    dealing_by i u (inr a) t d =
        let was = before.dealing i u a.1 t d in
        (was.0, λ j x e s q. seat_by u.dealt was.1 j x (at_set vs id j w x e) s q)

    pub seated_set : Seated (slice_set vs id w)
    seated_set = record {
      aside = λ j u e. (well_by j u (at_set vs id j w u e)).aside;
      one_seat = λ i j x y e f. one_by i j x y (at_set vs id i w x e) (at_set vs id j w y f);
      dealing = λ i u e. dealing_by i u (at_set vs id i w u e);
      gone = λ j u e. (well_by j u (at_set vs id j w u e)).gone;
      binders = λ j u k r scope e. (well_by j u (at_set vs id j w u e)).binders k r scope;
      begun = λ j u r e. (well_by j u (at_set vs id j w u e)).begun r;
    }

  -- A PASS MORE
  module _ (vs : List (View M)) (w : View M) (well : SitsWell w) (no_dealer : w.dealt < w.passes → ⊥)
      (free : 0 < w.threads → w.stage ≢ Aside → IsFree vs w.seat)
      (dealt : 0 < w.threads → w.stage ≢ Aside → (i : ℕ) (u : View M) → get_elem? vs i ≡ some u → 0 < u.threads → u.dealt < u.passes → w.seat < u.dealt)
      (before : Seated vs) where
    abbrev IsThere : ℕ → View M → Type 0
    IsThere j u = (get_elem? vs j ≡ some u) ⊎ ((j ≡ length vs) × (w ≡ u))

    free_so : (u : View M) → w ≡ u → 0 < u.threads → u.stage ≢ Aside → IsFree vs u.seat
    free_so u e = subst (λ (z : View M). 0 < z.threads → z.stage ≢ Aside → IsFree vs z.seat) e free

    dealt_so : (x : View M) → w ≡ x → 0 < x.threads → x.stage ≢ Aside → (i : ℕ) (u : View M) → get_elem? vs i ≡ some u → 0 < u.threads → u.dealt < u.passes → x.seat < u.dealt
    dealt_so x e = subst (λ (z : View M). 0 < z.threads → z.stage ≢ Aside → (i : ℕ) (u : View M) → get_elem? vs i ≡ some u → 0 < u.threads → u.dealt < u.passes → z.seat < u.dealt) e dealt

    more_well : (j : ℕ) (u : View M) → IsThere j u → SitsWell u
    more_well j u (inl e) = sits_well vs j u e before
    more_well j u (inr a) = subst SitsWell a.1 well

    more_one : (i j : ℕ) (x y : View M) → IsThere i x → IsThere j y → 0 < x.threads → 0 < y.threads → x.stage ≢ Aside → y.stage ≢ Aside → x.seat ≡ y.seat → i ≡ j
    more_one i j x y (inl e) (inl f) s t p q same = before.one_seat i j x y e f s t p q same
    more_one i j x y (inl e) (inr b) s t p q same = absurd (free_so y b.1 t q i x e s p same)
    more_one i j x y (inr a) (inl f) s t p q same = absurd (free_so x a.1 s p j y f t q (sym same))
    more_one i j x y (inr a) (inr b) s t p q same = a.0 ∙ sym b.0

    more_below : (i : ℕ) (u : View M) → get_elem? vs i ≡ some u → 0 < u.threads → u.dealt < u.passes → ((j : ℕ) (x : View M) → get_elem? vs j ≡ some x → 0 < x.threads → x.stage ≢ Aside → x.seat < u.dealt)
        → (j : ℕ) (x : View M) → IsThere j x → 0 < x.threads → x.stage ≢ Aside → x.seat < u.dealt
    more_below i u e t d all j x (inl f) s q = all j x f s q
    more_below i u e t d all j x (inr b) s q = dealt_so x b.1 s q i u e t d

    more_dealing : (i : ℕ) (u : View M) → IsThere i u → 0 < u.threads → u.dealt < u.passes
        → (i ≡ 0) × ((j : ℕ) (x : View M) → get_elem? (vs ++ w ∷ []) j ≡ some x → 0 < x.threads → x.stage ≢ Aside → x.seat < u.dealt)
    more_dealing i u (inl e) t d = let was = before.dealing i u e t d in (was.0, λ j x f. more_below i u e t d was.1 j x (at_end vs w x j f))
    more_dealing i u (inr a) t d = absurd (subst (λ (z : View M). z.dealt < z.passes → ⊥) a.1 no_dealer d)

    pub seated_more : Seated (vs ++ w ∷ [])
    seated_more = record {
      aside = λ j u e. (more_well j u (at_end vs w u j e)).aside;
      one_seat = λ i j x y e f. more_one i j x y (at_end vs w x i e) (at_end vs w y j f);
      dealing = λ i u e. more_dealing i u (at_end vs w u i e);
      gone = λ j u e. (more_well j u (at_end vs w u j e)).gone;
      binders = λ j u k r scope e. (more_well j u (at_end vs w u j e)).binders k r scope;
      begun = λ j u r e. (more_well j u (at_end vs w u j e)).begun r;
    }

  -- how many passes there are, and which have left to this one
  abbrev pub others_of : View M → ℕ × List (ℕ × List Step)
  others_of v = (v.passes, v.gathered)

  -- A CALL THAT LEARNS
  abbrev pub Stays : View M → View M → Type 0
  Stays v w =
      (w.threads ≡ v.threads) × (others_of w ≡ others_of v) × (w.dealt ≡ v.dealt) × (w.stage ≡ v.stage) × (w.seen.held ≡ v.seen.held)
      × ((r : Row) → Has w.seen.begun r → Has v.seen.begun r ⊎ Has v.seen.held r)

  pub saw_stays : (r : Row) (c : Cell) (v : View M) → Stays v (saw r c v)
  saw_stays r Fresh v = (refl, refl, refl, refl, refl, λ q h. inl h)
  saw_stays r Waiting v = (refl, refl, refl, refl, refl, λ q h. inl h)
  saw_stays r Claimed v = (refl, refl, refl, refl, refl, λ q h. inl h)
  saw_stays r (Synched j) v = (refl, refl, refl, refl, refl, λ q h. inl h)
  saw_stays r (Taken j) v = (refl, refl, refl, refl, refl, λ q h. inl h)

  pub seated_seen : (vs : List (View M)) (id : ℕ) (v w : View M) → get_elem? vs id ≡ some v → Stays v w → w.seat ≡ v.seat → w.made ≡ v.made → Seated vs → Seated (slice_set vs id w)
  seated_seen vs id v w view stays seat made before =
      let well = sits_well vs id v view before in
      seated_set vs id v w view (record {
        acts = λ t s. (subst (λ (n : ℕ). 0 < n) stays.0 t, (λ e. s (stays.3 ∙ e)), seat);
        deals = λ t d. let p : w.passes ≡ v.passes = ap (λ (z : ℕ × List (ℕ × List Step)). z.0) stays.1 in let q = stays.2 in (subst (λ (n : ℕ). 0 < n) stays.0 t, omega arith, omega arith);
        well = record {
          aside = λ e. let a = well.aside (sym stays.3 ∙ e) in (made ∙ a.0, stays.4 ∙ a.1);
          gone = λ e. made ∙ well.gone (sym stays.0 ∙ e);
          binders = λ k r scope h. subst (λ (l : List Row). Has l r) (sym stays.4) (well.binders k r scope (subst (λ (l : List Step). Has l (Bind k r scope)) made h));
          begun = λ r h. subst (λ (l : List Row). Has l r) (sym stays.4) (⊎_elim (λ (old : Has v.seen.begun r). well.begun r old) (λ (held : Has v.seen.held r). held) (stays.5 r h));
        };
      }) before

  -- A STEP of a pass
  pub record MovesOn (v w : View M) (step : Step) : Type 0 where
    pub same : (w.threads ≡ v.threads) × (others_of w ≡ others_of v) × (w.dealt ≡ v.dealt)
    pub acted : v.stage ≢ Aside
    pub goes : v.stage ≢ Left
    pub acts : w.stage ≢ Aside
    pub held : (r : Row) → Has v.seen.held r → Has w.seen.held r
    pub begun : (r : Row) → Has w.seen.begun r → Has v.seen.begun r
    pub binds : (k : ℕ) (r : Row) (scope : ℕ) → step ≡ Bind k r scope → Has w.seen.held r

  pub seated_step : (vs : List (View M)) (id : ℕ) (v w : View M) (step : Step) → get_elem? vs id ≡ some v → 0 < v.threads → w.seat ≡ v.seat → w.made ≡ v.made → MovesOn v w step → Seated vs → Seated (slice_set vs id (did step w))
  seated_step vs id v w step view at_table seat made on before =
      let well = sits_well vs id v view before in
      let same = on.same in
      seated_set vs id v (did step w) view (record {
        acts = λ t s. (at_table, on.acted, seat);
        deals = λ t d. let p : w.passes ≡ v.passes = ap (λ (z : ℕ × List (ℕ × List Step)). z.0) same.1 in let q = same.2 in (at_table, omega arith, omega arith);
        well = record {
          aside = λ e. absurd (on.acts e);
          gone = λ e. let p = same.0 in absurd (omega arith);
          binders = λ k r scope. ⊎_elim
              (λ (new : step ≡ Bind k r scope). on.binds k r scope new)
              (λ (old : Has w.made (Bind k r scope)). on.held r (well.binders k r scope (subst (λ (l : List Step). Has l (Bind k r scope)) made old)));
          begun = λ r h. on.held r (well.begun r (on.begun r h));
        };
      }) before

  -- A PASS THAT HEARS something, or leaves
  pub seated_heard : (vs : List (View M)) (id : ℕ) (v told : View M) → get_elem? vs id ≡ some v → Seated vs → Seated (slice_set vs id (heard_pass v told))
  seated_heard vs id v told view before =
      let well = sits_well vs id v view before in
      seated_set vs id v (heard_pass v told) view (record {
        acts = λ t s. (t, s, refl);
        deals = λ t d. (t, d, omega arith);
        well = record { aside = λ e. well.aside e; gone = λ e. well.gone e; binders = λ k r scope h. well.binders k r scope h; begun = λ r h. well.begun r h };
      }) before

  pub seated_left : (vs : List (View M)) (id : ℕ) (v : View M) → get_elem? vs id ≡ some v → 0 < v.threads → v.stage ≡ Resting → Seated vs → Seated (slice_set vs id (left_pass v))
  seated_left vs id v view at_table rests before =
      let well = sits_well vs id v view before in
      seated_set vs id v (left_pass v) view (record {
        acts = λ t s. (t, (λ e. let bad : Resting ≡ Aside = sym rests ∙ e in cc), refl);
        deals = λ t d. (t, d, omega arith);
        well = record { aside = λ e. (let bad : Left ≡ Aside = e in cc); gone = λ e. well.gone e; binders = λ k r scope h. well.binders k r scope h; begun = λ r h. well.begun r h };
      }) before

  -- THE PASS THAT HAS TOLD ALL
  pub seated_spent : (vs : List (View M)) (id : ℕ) (v : View M) → get_elem? vs id ≡ some v → Seated vs → Seated (slice_set vs id spent_pass)
  seated_spent vs id v view before = seated_set vs id v spent_pass view (record {
    acts = λ t. absurd (omega arith);
    deals = λ t. absurd (omega arith);
    well = record { aside = λ e. (refl, refl); gone = λ e. refl; binders = λ k r scope h. absurd h; begun = λ r h. absurd h };
  }) before

  -- THE START
  pub seated_start : (shape : Shape M) → Seated (dealer shape 0 ∷ [])
  seated_start shape = record {
    aside = λ j u e rests. subst (λ (z : View M). (z.made ≡ []) × (z.seen.held ≡ [])) (only j u e).1 (refl, refl);
    one_seat = λ i j x y e f s t p q same. (only i x e).0 ∙ sym (only j y f).0;
    dealing = λ i u e t d. ((only i u e).0, λ j x f s q. absurd (q (ap (λ (z : View M). z.stage) (sym (only j x f).1))));
    gone = λ j u e t. subst (λ (z : View M). z.made ≡ []) (only j u e).1 refl;
    binders = λ j u k r scope e. subst (λ (z : View M). Has z.made (Bind k r scope) → Has z.seen.held r) (only j u e).1 (λ h. absurd h);
    begun = λ j u r e. subst (λ (z : View M). Has z.seen.begun r → Has z.seen.held r) (only j u e).1 (λ h. absurd h);
  }
    where
      only : (j : ℕ) (u : View M) → get_elem? (dealer shape 0 ∷ []) j ≡ some u → (j ≡ 0) × (dealer shape 0 ≡ u)
      only zero u e = (refl, mathlib.Core.Option.some-injective _ _ e)
      only (suc j) u e = absurd (mathlib.Core.Option.some-ne-none u (sym e))
