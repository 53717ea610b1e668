-- A look at a nack, and a bind, are admitted by the rule.
use Rattle.std.proofs.Common.{List, length, ◌+◌, ◌≤◌, false, ◌∷◌, inl, inr, ◌⊎◌, slice_index, slice_set, ◌≡◌, ◌≢◌, ℕ, ◌<◌, true, sym, refl, ap, ◌∙◌, subst, ⊎_elim, arith, unwrap_or, Option, Some, None, eqb, length-set}
use Rattle.std.proofs.lemmas.List.{set-get_or}
use Rattle.std.proofs.lemmas.Bool.{and_from, false≢true, lt-ltb}
use mathlib.Core.Option.{some, none}
use lib.ListN.{get_elem?}
use prog.Atomic.{either}
use Rattle.atomic_table.specs.Table.{State, Me, Allows, Act, Valid, step, keeps, stepped, carried_after}
use Rattle.atomic_table.proofs.Lists.{exchanged}
use Rattle.protocol_ledger.specs.declared.layout.Layout.{Layout}
use Rattle.protocol_values.specs.Words.{nack_of, nack_word, IsBindingInRange}
use Rattle.protocol_values.proofs.WordLemmas.{nack_of-nack_word, nack_word-nack_of}
use Rattle.protocol_values.specs.declared.NackName.{NackName}
use Rattle.protocol_values.specs.declared.Binding.{Binding}
use Rattle.protocol_values.specs.declared.NackWord.{NackWord}
use Rattle.protocol_values.specs.declared.NackWord.TheVariants.{Bound, Carried, Unbound}
use Rattle.protocol_values.specs.declared.Course.{Course}
use Rattle.protocol_values.specs.declared.Row.{Row}
use Rattle.protocol_ledger.specs.Tables.{Table, bound_row, cell_at, course_at, is_fresh, is_nack, is_taken, nack_at, nack_says, binding_at, bound_by, carried_at, carried_by}
use Rattle.protocol_values.specs.Values.{joined_of}
use Rattle.protocol_ledger.specs.Openings.{Opening, greatest}
use Rattle.protocol_ledger.specs.Worlds.{World, holder_at, with_nack, with_table}
use Rattle.protocol_ledger.specs.Kept.{Kept}
use Rattle.protocol_ledger.proofs.Linking.{cases_Option, some_inj, some_parts}
use Rattle.protocol_ledger.specs.Short.{HasWords, short_nack_place, widen}
use Rattle.protocol_ledger.proofs.Places.{word_bound}
use Rattle.protocol_ledger.proofs.Short.{set_nack, short_nack}
use Rattle.cell_table.proofs.Shortness.{same_short_nack}
use Rattle.protocol_ledger.proofs.Readings.{bound_is, carried_is, says_inside, carried_after_bind, course_after_bind, binding_bound, binding_kept, binding_was, cell_after_bind}
use Rattle.protocol_ledger.proofs.Keeping.{holder_same, taken_before}
use Rattle.cell_table.specs.declared.view.View.{View}
use Rattle.cell_table.specs.declared.view.Shape.{Shape}
use Rattle.cell_table.specs.declared.view.Stage.TheVariants.{Aside, Left, Resting}
use Rattle.cell_table.specs.Sight.{Has, SawEnded}
use Rattle.protocol_ledger.specs.Acting.{EndsAt, HasStart}
use Rattle.cell_table.specs.Views.{Knows, bind_of, bound_nack, carried_nack, did, saw_nack, opening_in}
use Rattle.cell_table.specs.Rule.{IsToBegin, Keeps, beginning}
use Rattle.cell_table.proofs.Standing.{is_earlier}
use Rattle.protocol_ledger.specs.Standing.{Stands}
use Rattle.protocol_values.specs.declared.Step.{Step}
use Rattle.protocol_values.specs.declared.Step.TheVariants.{Draft, Open, Look, Read, Claim, Yield, Join, Seal, Grant, Take, Bind, Start, Finish}
use Rattle.protocol_values.specs.declared.Cell.{Cell}
use Rattle.protocol_values.specs.declared.Cell.TheVariants.{Fresh, Waiting, Claimed, Synched, Taken}
use Rattle.cell_table.specs.Told.{AgreesNack, AgreesWithItself, AtNack, FoundNack, InsideNack, IsEarlier, looked_nack, nack_read, tried_bind}
use Rattle.cell_table.proofs.Allowing.{sized}
use Rattle.cell_table.proofs.Following.{Follows, knows_bound, knows_follows, alive_unseen, stand_ends}
use Rattle.cell_table.proofs.Others.{learn_nack}
use Rattle.cell_table.proofs.Truths.{with_itself}
use Rattle.cell_table.proofs.Seating.{Stays}
use Rattle.cell_table.proofs.Turning.{keeps_step, keeps_view, moved_coherent, open_words, world_kept}

pub nack_from : (t : Table) (n : NackName) → n.thread < t.threads → n.k < 64 → is_nack t n ≡ true
unfolding is_nack
nack_from t n h k = and_from _ _ (lt-ltb n.thread t.threads h) (lt-ltb n.k 64 k)

-- one word stands for one binding
one_binding : (b c : Binding) → IsBindingInRange b → IsBindingInRange c → nack_word (Bound b) ≡ nack_word (Bound c) → b ≡ c
one_binding b c g h e =
    let both : Some (Bound b) ≡ Some (Bound c) = sym (nack_of-nack_word (Bound b) g) ∙ ap nack_of e ∙ nack_of-nack_word (Bound c) h in
    bound_inj b c (some_inj (Bound b) (Bound c) both)
  where
    binding_of : NackWord → Binding
    binding_of Unbound = b
    binding_of (Bound x) = x
    binding_of (Carried stamp) = b

    bound_inj : (x y : Binding) → Bound x ≡ Bound y → x ≡ y
    bound_inj x y same = ap binding_of same

-- a nack's word, by what it says of a binding, and of a stamp
bound_so : (w : NackWord) (b : Binding) → bound_by w ≡ Some b → w ≡ Bound b
bound_so Unbound b e = let bad : None ≡ Some b = e in cc
bound_so (Bound c) b e = ap Bound (some_inj c b e)
bound_so (Carried stamp) b e = let bad : None ≡ Some b = e in cc

carried_so : (w : NackWord) (stamp : ℕ) → carried_by w ≡ Some stamp → w ≡ Carried stamp
carried_so Unbound stamp e = let bad : None ≡ Some stamp = e in cc
carried_so (Bound c) stamp e = let bad : None ≡ Some stamp = e in cc
carried_so (Carried s) stamp e = ap Carried (some_inj s stamp e)

module _ {M : Type 0} where
  -- a look at a nack leaves what a pass knows of its table
  pub looked_same : (n : NackName) (says : NackWord) (v : View M) → ((saw_nack n says v).threads ≡ v.threads) × ((saw_nack n says v).rows ≡ v.rows) × ((saw_nack n says v).first ≡ v.first) × ((saw_nack n says v).lives ≡ v.lives) × ((saw_nack n says v).nacks ≡ v.nacks) × ((saw_nack n says v).layout ≡ v.layout)
  looked_same n Unbound v = (refl, refl, refl, refl, refl, refl)
  looked_same n (Bound b) v = (refl, refl, refl, refl, refl, refl)
  looked_same n (Carried stamp) v = (refl, refl, refl, refl, refl, refl)

  -- what was seen by then agrees with itself
  coherent_nack : (w : World) (owner : Row → ℕ) (id : ℕ) (v : View M) (n : NackName) (says : NackWord) → Knows w owner id (saw_nack n says v) → Kept w → ((r : Row) → is_fresh (cell_at w.table r) ≡ false → HasWords v.layout r) → AgreesWithItself (saw_nack n says v)
  coherent_nack w owner id v n Unbound k kept words = with_itself w owner id v k kept words
  coherent_nack w owner id v n (Bound b) k kept words = with_itself w owner id (bound_nack n b v) k kept words
  coherent_nack w owner id v n (Carried stamp) k kept words = with_itself w owner id (carried_nack n stamp v) k kept words

  -- a nack is bound to no row behind a held Fresh one
  not_behind : (w : World) (owner : Row → ℕ) (id : ℕ) (v : View M) → Knows w owner id v → Kept w → (nack : NackName) (b c : Binding) → binding_at w.table nack ≡ Some c
      → Has v.seen.held (bound_row nack b) → ¬ Has v.seen.opened (bound_row nack b) → c.sync ≤ b.sync
  not_behind w owner id v knows kept nack b c is held unopened =
      let low : c.sync < b.sync + 1 = Rattle.std.proofs.Math.Nat.lt_of_not-le (λ (above : b.sync + 1 ≤ c.sync).
      let below : b.sync < c.sync = omega arith in ⊎_elim
      (λ (none : holder_at w (bound_row nack c) ≡ None). kept.bound nack c is none)
      (λ (some : (seat : ℕ) × (holder_at w (bound_row nack c) ≡ Some seat)).
      let taken : is_taken (cell_at w.table (bound_row nack b)) ≡ true = taken_before w kept (bound_row nack b) (bound_row nack c) refl below (inr some) in
      let bad : false ≡ true = sym (ap is_taken (knows.fresh (bound_row nack b) held unopened)) ∙ taken in
      cc)
      (cases_Option (holder_at w (bound_row nack c)))) in
      omega arith

-- THE WORLD AFTER A BIND
bind_lives : (w : World) (m : NackName) (b : Binding) → is_nack w.table m ≡ true → (p : ℕ) → course_at (with_nack w.table m b) p ≡ course_at w.table p
bind_lives w m b nack p = ap (λ (f : ℕ → Course). f p) (course_after_bind w.table m b nack)

pub follows_bind : (w : World) (m : NackName) (b : Binding) → Kept w → IsBindingInRange b → is_nack w.table m ≡ true → nack_says w.table m ≡ Unbound → Follows w (with_table w (with_nack w.table m b))
unfolding with_nack
follows_bind w m b kept range nack free = record {
  threads = refl;
  rows = refl;
  seats = refl;
  fresh = λ r h. cell_after_bind w.table m b r nack ∙ h;
  opened = λ r h. ap is_fresh (cell_after_bind w.table m b r nack) ∙ h;
  joined = λ r. ap joined_of (cell_after_bind w.table m b r nack);
  taken = λ r h. ap is_taken (cell_after_bind w.table m b r nack) ∙ h;
  claimed = λ r h. cell_after_bind w.table m b r nack ∙ h;
  unclaimed = λ r h. sym (cell_after_bind w.table m b r nack) ∙ h;
  words = λ r p i low high. word_bound w.table m b r p nack i high;
  held = λ r s h. holder_same w (with_nack w.table m b) r refl refl ∙ h;
  behind = λ t s h. h;
  bound = λ n c e. binding_kept w.table m b nack free n c e;
  carried = λ n. ap (λ (f : NackName → Option ℕ). f n) (carried_after_bind w.table m b kept.sized nack range free);
  starts = λ p s h. subst (λ (c : Course). HasStart c s) (sym (bind_lives w m b nack p)) h;
  ends = λ p g h. subst (λ (c : Course). EndsAt c g) (sym (bind_lives w m b nack p)) h;
}

taken_opened : (c : Cell) → is_taken c ≡ true → is_fresh c ≡ false
taken_opened Fresh e = absurd (false≢true e)
taken_opened Waiting e = refl
taken_opened Claimed e = refl
taken_opened (Synched j) e = refl
taken_opened (Taken j) e = refl

module _ {M : Type 0} (stands : Stands M) where
  -- A pass that makes a step on the word of a nack
  module _ (shape : Shape M) (id place : ℕ) (me : Me (Option M) (View M)) (nack : NackName)
      (threads : me.0.threads ≡ shape.threads) (rows : me.0.rows ≡ shape.rows) (wide : me.0.layout ≡ shape.layout)
      (inside : InsideNack shape.threads nack) (here : place ≡ short_nack_place shape.layout nack) where
    at_table : 0 < me.0.threads
    at_table = let i = inside.0 in omega arith

    one_nack : (m : NackName) → InsideNack me.0.threads m → place ≡ short_nack_place me.0.layout m → nack ≡ m
    one_nack m i e =
        let there : InsideNack shape.threads m = subst (λ (n : ℕ). InsideNack n m) threads i in
        let same = same_short_nack shape.layout shape.threads nack m inside there (sym here ∙ e ∙ (λ j. short_nack_place (wide j) m)) in
        λ x. record { thread = same.0 x; k = same.1 x }

    module _ (s : State (Option M) (View M)) (k : Keeps stands shape s) (view : get_elem? s.views id ≡ some me.0) where
      known : Knows k.world k.owner id me.0
      known = k.knows id me.0 view at_table

      kept : Kept k.world
      kept = world_kept stands shape s k

      is_its_nack : is_nack k.world.table nack ≡ true
      is_its_nack = ap (λ (t : Table). is_nack t nack) k.table ∙ nack_from (sized shape s.words) nack inside.0 inside.1

      word_is : nack_at k.world.table nack ≡ slice_index s.words place
      unfolding nack_at
      word_is = ap (λ (t : Table). nack_at t nack) k.table ∙ short_nack shape.layout shape.rows k.fits shape.threads s.words k.sized nack inside.0 inside.1 ∙ ap (slice_index s.words) (sym here)

      says_is : nack_says k.world.table nack ≡ nack_read (slice_index s.words place)
      says_is = says_inside k.world.table nack is_its_nack ∙ ap (λ w. unwrap_or (nack_of w) Unbound) word_is

      binding_is : binding_at k.world.table nack ≡ bound_by (nack_read (slice_index s.words place))
      binding_is = bound_is k.world.table nack ∙ ap bound_by says_is

      carried_now : carried_at k.world.table nack ≡ carried_by (nack_read (slice_index s.words place))
      carried_now = carried_is k.world.table nack ∙ ap carried_by says_is

      -- where it only learns
      learnt : (w : View M) → w.seat ≡ me.0.seat → w.made ≡ me.0.made → w.results ≡ me.0.results → beginning w ≡ beginning me.0 → Stays me.0 w → ((r : Row) → IsToBegin w r → IsToBegin me.0 r) → Knows k.world k.owner id w → Keeps stands shape (stepped s place (slice_index s.words place) id me.1 w keeps)
      learnt w seat made seen first stays begins knows = keeps_view stands shape s k id me.0 w _ view at_table seat made seen first stays begins (set-get_or s.words place 0) knows

      first_kept : (o : NackWord) → beginning (saw_nack nack o me.0) ≡ beginning me.0
      first_kept Unbound = refl
      first_kept (Bound b) = refl
      first_kept (Carried stamp) = refl

      stays_kept : (o : NackWord) → Stays me.0 (saw_nack nack o me.0)
      stays_kept Unbound = (refl, refl, refl, refl, refl, λ q h. inl h)
      stays_kept (Bound b) = (refl, refl, refl, refl, refl, λ q h. inl h)
      stays_kept (Carried stamp) = (refl, refl, refl, refl, refl, λ q h. inl h)

      begins_kept : (o : NackWord) (r : Row) → IsToBegin (saw_nack nack o me.0) r → IsToBegin me.0 r
      begins_kept Unbound r h = h
      begins_kept (Bound b) r h = h
      begins_kept (Carried stamp) r h = h

      -- what the pass has seen then agrees with itself
      agreed : (x : ℕ) (w : View M) → w.threads ≡ me.0.threads → Keeps stands shape (stepped s place x id me.1 w keeps) → AgreesWithItself w
      agreed x w size after = moved_coherent stands shape s.views _ _ id me.0 w view size at_table after

      -- a look at a nack makes no step
      seat_kept : (o : NackWord) → (saw_nack nack o me.0).seat ≡ me.0.seat
      seat_kept Unbound = refl
      seat_kept (Bound b) = refl
      seat_kept (Carried stamp) = refl

      made_kept : (o : NackWord) → (saw_nack nack o me.0).made ≡ me.0.made
      made_kept Unbound = refl
      made_kept (Bound b) = refl
      made_kept (Carried stamp) = refl

      results_kept : (o : NackWord) → (saw_nack nack o me.0).results ≡ me.0.results
      results_kept Unbound = refl
      results_kept (Bound b) = refl
      results_kept (Carried stamp) = refl

      sees : Knows k.world k.owner id (saw_nack nack (nack_read (slice_index s.words place)) me.0)
      sees = learn_nack k.world k.owner id me.0 nack (nack_read (slice_index s.words place)) known says_is

      agrees_nack : (m : NackName) → nack ≡ m → AgreesNack me.0 m (nack_read (slice_index s.words place))
      agrees_nack m e = subst (λ (n : NackName). AgreesNack me.0 n (nack_read (slice_index s.words place))) e ((λ b h. bound_so (nack_read (slice_index s.words place)) b (sym binding_is ∙ known.bound nack b h)), λ stamp h. carried_so (nack_read (slice_index s.words place)) stamp (sym carried_now ∙ known.carried nack stamp h))

      -- a word that is not that of an unbound nack says something of it
      not_free : slice_index s.words place ≢ nack_word Unbound → nack_read (slice_index s.words place) ≢ Unbound
      not_free other =
          let o = some_parts (nack_of (nack_at k.world.table nack)) (kept.formed.nacks nack is_its_nack) in
          by_word o.0 (ap nack_of (sym word_is) ∙ o.1)
        where
          by_word : (w : NackWord) → nack_of (slice_index s.words place) ≡ Some w → nack_read (slice_index s.words place) ≢ Unbound
          by_word Unbound e says = other (nack_word-nack_of (slice_index s.words place) Unbound e).1
          by_word (Bound c) e says = let bad : Bound c ≡ Unbound = sym (ap (λ (w : Option NackWord). unwrap_or w Unbound) e) ∙ says in cc
          by_word (Carried stamp) e says = let bad : Carried stamp ≡ Unbound = sym (ap (λ (w : Option NackWord). unwrap_or w Unbound) e) ∙ says in cc

      -- a nack that is bound to an earlier row of a held row's thread
      earlier_there : (b : Binding) → Has me.0.seen.held (bound_row nack b) → (c : Binding) → binding_at k.world.table nack ≡ Some c → c.sync < b.sync → 0 < length me.0.first → IsEarlier stands me.0.first me.0.results nack c
      earlier_there b held c is below filled =
          let firsts : me.0.first ≡ shape.first.value.items = ap (λ (z : List (Option M) × Opening × Layout). z.0) (k.firsts id me.0 view at_table) in
          let taken : is_taken (cell_at k.world.table (bound_row nack c)) ≡ true = taken_before k.world kept (bound_row nack c) (bound_row nack b) refl below (inr (me.0.seat, (known.mine (bound_row nack b) held).1)) in
          subst (λ (l : List (Option M)). IsEarlier stands l me.0.results nack c) (sym firsts)
          (is_earlier stands shape.first.value.items k.world k.owner id me.0 known kept nack c (k.housed (subst (λ (l : List (Option M)). 0 < length l) firsts filled)).rows (λ t rs h. k.results id me.0 t rs view h)
          (taken_opened (cell_at k.world.table (bound_row nack c)) taken) is)

      -- what the pass learns where the nack is not free
      found_so : (b : Binding) → Has me.0.seen.held (bound_row nack b) → ¬ Has me.0.seen.opened (bound_row nack b) → (w : NackWord) → nack_read (slice_index s.words place) ≡ w → w ≢ Unbound → FoundNack stands me.0 nack b w
      found_so b held unopened Unbound e other = other refl
      found_so b held unopened (Bound c) e other =
          let is : binding_at k.world.table nack ≡ Some c = binding_is ∙ ap bound_by e in
          (not_behind k.world k.owner id me.0 known kept nack b c is held unopened, (λ h. known.binds nack c is h), λ below filled. earlier_there b held c is below filled)
      found_so b held unopened (Carried stamp) e other = λ c h. let bad : None ≡ Some c = sym (binding_is ∙ ap bound_by e) ∙ known.bound nack c h in cc

      -- the nack is bound to a held row that is not opened
      module _ (b : Binding) (range : IsBindingInRange b) (resting : me.0.stage ≡ Resting) (held : Has me.0.seen.held (bound_row nack b)) (unopened : ¬ Has me.0.seen.opened (bound_row nack b)) (alive : ¬ SawEnded me.0.seen nack.thread)
          (free : nack_says k.world.table nack ≡ Unbound) where
        abbrev later : World
        later = with_table k.world (with_nack k.world.table nack b)

        follows : Follows k.world later
        follows = follows_bind k.world nack b kept range is_its_nack free

        no_end : (t g : ℕ) → EndsAt (course_at later.table t) g → EndsAt (course_at k.world.table t) g
        no_end t g h = subst (λ (c : Course). EndsAt c g) (bind_lives k.world nack b is_its_nack t) h

        was : (n : NackName) (c : Binding) → binding_at later.table n ≡ Some c → (binding_at k.world.table n ≡ Some c) ⊎ ((nack ≡ n) × (b ≡ c))
        was n c e = binding_was k.world.table nack b kept.sized is_its_nack range n c e

        others : (j : ℕ) (u : View M) → j ≢ id → Knows k.world k.owner j u → Knows later k.owner j u
        others j u n knows = knows_follows k.world later k.owner j u follows no_end (λ m c e o. ⊎_elim
            (λ (old : binding_at k.world.table m ≡ Some c). inl old)
            (λ (new : (nack ≡ m) × (b ≡ c)). absurd (n (sym o ∙ (λ i. k.owner (bound_row (sym new.0 i) (sym new.1 i))) ∙ (known.mine (bound_row nack b) held).0)))
            (was m c e)) knows

        own : Knows later k.owner id (bound_nack nack b me.0)
        own = knows_bound k.world later k.owner id me.0 ((nack, b) ∷ me.0.seen.bound) follows no_end
            (λ n c h. inr h)
            (λ n c h. there n c h)
            (λ n c e o. ⊎_elim
            (λ (old : binding_at k.world.table n ≡ Some c). inl old)
            (λ (new : (nack ≡ n) × (b ≡ c)). inr (inl (λ i. (new.0 i, new.1 i))))
            (was n c e))
            known
          where
            there : (n : NackName) (c : Binding) → Has ((nack, b) ∷ me.0.seen.bound) (n, c) → binding_at later.table n ≡ Some c
            there n c (inl e) = subst (λ (z : NackName × Binding). binding_at later.table z.0 ≡ Some z.1) e (binding_bound k.world.table nack b kept.sized is_its_nack range)
            there n c (inr h) = follows.bound n c (known.bound n c h)

        rests : me.0.stage ≢ Aside
        rests e = let bad : Resting ≡ Aside = sym resting ∙ e in cc

        stays_on : me.0.stage ≢ Left
        stays_on e = let bad : Resting ≡ Left = sym resting ∙ e in cc

        -- the row of a bind
        row_bound : Step → Row
        row_bound (Draft x p n) = x
        row_bound (Open x) = x
        row_bound (Look x) = x
        row_bound (Read x p) = x
        row_bound (Claim x) = x
        row_bound (Yield x) = x
        row_bound (Join x n y m) = x
        row_bound (Seal x) = x
        row_bound (Grant x n) = x
        row_bound (Take x) = x
        row_bound (Bind n x scope) = x
        row_bound (Start x thread) = x
        row_bound (Finish x) = x

        binds : Keeps stands shape (stepped s place (nack_word (Bound b)) id me.1 (did (bind_of nack b) (bound_nack nack b me.0)) keeps)
        unfolding with_nack row_bound
        binds =
            let mine = known.mine (bound_row nack b) held in
            keeps_step stands shape s k id me.0 (bound_nack nack b me.0) _ k.owner view at_table refl refl refl (λ q h. h) (bind_of nack b) tt tt tt
            (known.seat, (mine.1, known.fresh (bound_row nack b) held unopened, alive_unseen k.world me.0.seen nack.thread (stand_ends k.world k.owner id me.0 known (bound_row nack b) (inl (held, unopened))) alive, inside.1, range.scope, free))
            (record { same = (refl, refl, refl); acted = rests; goes = stays_on; acts = rests; held = λ q h. h; begun = λ q h. h; binds = λ n q scope e. subst (Has me.0.seen.held) (ap row_bound e) held }) (λ t rs h. inl h)
            (ap (λ (t : Table). with_nack t nack b) k.table
            ∙ ap (λ (ws : List ℕ). record { threads = shape.threads; rows = shape.rows; words = ws; opening = greatest (opening_in shape) })
            (sym (set_nack shape.layout shape.rows k.fits shape.threads s.words k.sized nack (nack_word (Bound b)) inside.0 inside.1) ∙ ap (λ (n : ℕ). widen shape.layout shape.rows shape.threads (slice_set s.words n (nack_word (Bound b)))) (sym here)))
            (length-set s.words place (nack_word (Bound b)))
            (λ j u n e t. others j u n (k.knows j u e t))
            own

  module _ (shape : Shape M) (slots id place : ℕ) (me : Me (Option M) (View M)) (nack : NackName)
      (threads : me.0.threads ≡ shape.threads) (rows : me.0.rows ≡ shape.rows) (wide : me.0.layout ≡ shape.layout)
      (inside : InsideNack shape.threads nack) where
    pub look_nack_allowed : place ≡ short_nack_place shape.layout nack → Allows (Keeps stands shape) slots id me place (λ n. n) (looked_nack (step slots place 0 0 none) me)
    look_nack_allowed here s k homes view range =
        let o = nack_read (slice_index s.words place) in (
          saw_nack nack o me.0,
          keeps,
          tt,
          learnt shape id place me nack threads rows wide inside here s k view (saw_nack nack o me.0) (seat_kept shape id place me nack threads rows wide inside here s k view o) (made_kept shape id place me nack threads rows wide inside here s k view o) (results_kept shape id place me nack threads rows wide inside here s k view o) (first_kept shape id place me nack threads rows wide inside here s k view o) (stays_kept shape id place me nack threads rows wide inside here s k view o) (begins_kept shape id place me nack threads rows wide inside here s k view o) (sees shape id place me nack threads rows wide inside here s k view),
          λ m at.
              let same = one_nack shape id place me nack threads rows wide inside here m at.0 at.1 in (
                ap (λ (n : NackName). (saw_nack n o me.0, me.1)) same,
                agrees_nack shape id place me nack threads rows wide inside here s k view m same,
                coherent_nack k.world k.owner id me.0 nack o (sees shape id place me nack threads rows wide inside here s k view) (world_kept stands shape s k) (open_words stands shape s k wide),
              ),
        )

    -- a nack of a held row's thread: where it is not bound, it is bound to the row
    pub bind_allowed : (b : Binding) → IsBindingInRange b → me.0.stage ≡ Resting → Has me.0.seen.held (bound_row nack b) → ¬ Has me.0.seen.opened (bound_row nack b) → (¬ SawEnded me.0.seen nack.thread) → place ≡ short_nack_place shape.layout nack
        → Allows (Keeps stands shape) slots id me place (λ x. either (eqb x (nack_word Unbound)) (nack_word (Bound b)) x) (tried_bind stands (step slots place (nack_word Unbound) (nack_word (Bound b)) none) me)
    bind_allowed b in_range resting held unopened alive here s k homes view range =
        let x = slice_index s.words place in
        let read = binding_is shape id place me nack threads rows wide inside here s k view in
        let knows = known shape id place me nack threads rows wide inside here s k view in
        let one : (m : NackName) → AtNack (step {S = Option M} slots place (nack_word Unbound) (nack_word (Bound b)) none) me m → nack ≡ m = λ m at. one_nack shape id place me nack threads rows wide inside here m at.0 at.1 in
        exchanged x (nack_word Unbound) (nack_word (Bound b))
        (λ y. (w : View M) × (a : Act (Option M)) × Valid s.homes me.1 a × Keeps stands shape (stepped s place y id me.1 w a) × tried_bind stands (step slots place (nack_word Unbound) (nack_word (Bound b)) none) me x (w, carried_after me.1 a))
        (λ e.
        let unbound_read : nack_read x ≡ Unbound = ap (λ w. unwrap_or (nack_of w) Unbound) e ∙ ap (λ (w : Option NackWord). unwrap_or w Unbound) (nack_of-nack_word Unbound tt) in
        let free : nack_says k.world.table nack ≡ Unbound = says_is shape id place me nack threads rows wide inside here s k view ∙ unbound_read in
        let unbound : binding_at k.world.table nack ≡ None = read ∙ ap bound_by unbound_read in
        let uncarried : carried_at k.world.table nack ≡ None = carried_now shape id place me nack threads rows wide inside here s k view ∙ ap carried_by unbound_read in
        let after = did (bind_of nack b) (bound_nack nack b me.0) in
        let moved : Keeps stands shape (stepped s place (nack_word (Bound b)) id me.1 after keeps) = binds shape id place me nack threads rows wide inside here s k view b in_range resting held unopened alive free in (
          after,
          keeps,
          tt,
          moved,
          λ m c at c_range second. (
            λ f. let same = one_binding b c in_range c_range second in
                let nack_same = one m at in (
                  (λ z. (did (bind_of (nack_same z) (same z)) (bound_nack (nack_same z) (same z) me.0), me.1)),
                  (λ d h. let bad : None ≡ Some d = sym unbound ∙ knows.bound nack d (subst (λ (n : NackName). Has me.0.seen.bound (n, d)) (sym nack_same) h) in cc),
                  λ stamp h. let bad : None ≡ Some stamp = sym uncarried ∙ knows.carried nack stamp (subst (λ (n : NackName). Has me.0.seen.carried (n, stamp)) (sym nack_same) h) in cc,
                ),
            λ other. absurd (other unbound_read),
            agreed shape id place me nack threads rows wide inside here s k view (nack_word (Bound b)) after refl moved,
          ),
        ))
        (λ f.
        let says : NackWord = nack_read x in
        let taken : says ≢ Unbound = not_free shape id place me nack threads rows wide inside here s k view f in
        let after = saw_nack nack says me.0 in
        let seen = sees shape id place me nack threads rows wide inside here s k view in
        let found : FoundNack stands me.0 nack b says = found_so shape id place me nack threads rows wide inside here s k view b held unopened says refl taken in
        let moved : Keeps stands shape (stepped s place x id me.1 after keeps) =
        learnt shape id place me nack threads rows wide inside here s k view after (seat_kept shape id place me nack threads rows wide inside here s k view says) (made_kept shape id place me nack threads rows wide inside here s k view says) (results_kept shape id place me nack threads rows wide inside here s k view says) (first_kept shape id place me nack threads rows wide inside here s k view says) (stays_kept shape id place me nack threads rows wide inside here s k view says) (begins_kept shape id place me nack threads rows wide inside here s k view says) seen in (
          after,
          keeps,
          tt,
          moved,
          λ m c at c_range second. (
            λ g. absurd (taken g),
            λ other.
                let nack_same = one m at in
                let tried : b ≡ c = one_binding b c in_range c_range second in (
                  (λ z. (saw_nack (nack_same z) says me.0, me.1)),
                  subst (λ (z : NackName × Binding). FoundNack stands me.0 z.0 z.1 says) (λ i. (nack_same i, tried i)) found,
                ),
            coherent_nack k.world k.owner id me.0 nack says seen (world_kept stands shape s k) (open_words stands shape s k wide),
          ),
        ))
