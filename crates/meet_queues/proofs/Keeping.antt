-- Each step of a hand keeps the rule.
use Rattle.std.proofs.Common.{◌≡◌, ◌≢◌, ℕ, zero, suc, ◌+◌, ◌<◌, ◌≤◌, ◌==◌, ◌&&◌, cond, eqb, if◌then◌else◌, Bool, true, false, List, [], ◌∷◌, ◌++◌, length, set, sym, refl, ap, ◌∙◌, subst, ◌⊎◌, ⊎_elim, inl, inr, Option, Some, None, All, arith}
use Rattle.std.proofs.lemmas.Bool.{cases_Bool, and_parts, eqb-true, eqb-false, eq-eqb, ne_eqb}
use Rattle.std.proofs.lemmas.List.{append_assoc}
use Rattle.std.proofs.lemmas.List.Elements.{All-append, All-head, All-nil, All-push, All-tail, All-weaker}
use mathlib.Core.Option.{some, some-ne-none}
use lib.ListN.{get_elem?}
use Rattle.atomic_table.proofs.Lists.{at_set}
use Rattle.meet_queues.specs.declared.entries.Entry.{Entry}
use Rattle.meet_queues.specs.declared.entries.QueueView.{QueueView}
use Rattle.meet_queues.specs.Hands.{Before, Fits, HandsOver, InOrder, IsPast, after_deal, dealer, dealt, following, gets, is_of, puts, settled, taker, total, weigh}
use Rattle.meet_queues.proofs.Ordering.{all_parts, in_order_end, in_order_push, in_order_without}

none_some : (n : ℕ) → None ≡ Some n → ⊥
none_some n p = let bad : None ≡ Some n = p in cc

number_inj : (m n : ℕ) → Some m ≡ Some n → m ≡ n
number_inj m n p = cc

following_is : (o : Option ℕ) (k n : ℕ) → o ≡ Some k → following o ≡ Some n → n ≡ suc k
following_is None k n p q = absurd (none_some k p)
following_is (Some j) k n p q = sym (number_inj (suc j) n q) ∙ ap suc (number_inj j k p)

-- a function with another value at one place
abbrev changed : (ℕ → ℕ) → ℕ → ℕ → ℕ → ℕ
changed f k value n = cond (eqb n k) value (f n)

changed_here : (f : ℕ → ℕ) (k value : ℕ) → changed f k value k ≡ value
changed_here f k value = ap (λ (b : Bool). cond b value (f k)) (eq-eqb k k refl)

changed_else : (f : ℕ → ℕ) (k value n : ℕ) → n ≢ k → changed f k value n ≡ f n
changed_else f k value n other = ap (λ (b : Bool). cond b value (f n)) (ne_eqb n k other)

module _ {T : Type 0} where
  some_inj : (a b : QueueView T) → some a ≡ some b → a ≡ b
  some_inj a b h = cc

  -- WEIGHTS
  weigh_append : (h : Entry T → ℕ) (xs ys : List (Entry T)) → weigh h (xs ++ ys) ≡ weigh h xs + weigh h ys
  weigh_append h [] ys = omega arith
  weigh_append h (x ∷ xs) ys = let p = weigh_append h xs ys in omega arith

  total_snoc : (f : QueueView T → ℕ) (vs : List (QueueView T)) (w : QueueView T) → total f (vs ++ w ∷ []) ≡ total f vs + f w
  total_snoc f [] w = omega arith
  total_snoc f (v ∷ vs) w = let p = total_snoc f vs w in omega arith

  total_set : (f : QueueView T → ℕ) (vs : List (QueueView T)) (port : ℕ) (v w : QueueView T) → get_elem? vs port ≡ some v → total f (set vs port w) + f v ≡ total f vs + f w
  total_set f [] port v w e = absurd (some-ne-none v (sym e))
  total_set f (x ∷ vs) zero v w e = let p : f x ≡ f v = ap f (some_inj x v e) in omega arith
  total_set f (x ∷ vs) (suc port) v w e = let p = total_set f vs port v w e in omega arith

  total_none : (f : QueueView T → ℕ) (vs : List (QueueView T)) → ((port : ℕ) (v : QueueView T) → get_elem? vs port ≡ some v → f v ≡ 0) → total f vs ≡ 0
  total_none f [] none = refl
  total_none f (v ∷ vs) none = let p = none 0 v refl in let q = total_none f vs (λ port u e. none (suc port) u e) in omega arith

  weigh_none : (h : Entry T → ℕ) (P : Entry T → Type 0) (xs : List (Entry T)) → ((x : Entry T) → P x → h x ≡ 0) → All P xs → weigh h xs ≡ 0
  weigh_none h P [] zeros all = refl
  weigh_none h P (x ∷ xs) zeros all = let p = zeros x (All-head P x xs all) in let q = weigh_none h P xs zeros (All-tail P x xs all) in omega arith

  is_of_other : (end count : ℕ) (x : Entry T) → (x.end ≡ end → x.count ≡ count → ⊥) → is_of end count x ≡ 0
  is_of_other end count x differ = ⊎_elim
      (λ (e : ((x.end == end) && (x.count == count)) ≡ true). let parts = and_parts (x.end == end) (x.count == count) e in absurd (differ (eqb-true x.end end parts.0) (eqb-true x.count count parts.1)))
      (λ (e : ((x.end == end) && (x.count == count)) ≡ false). ap (λ (b : Bool). if b then 1 else 0) e)
      (cases_Bool ((x.end == end) && (x.count == count)))

  at_most_one : (end count : ℕ) (x : Entry T) → is_of end count x ≤ 1
  at_most_one end count x = cases ((x.end == end) && (x.count == count))
    where
      cases : (b : Bool) → (if b then 1 else 0) ≤ 1
      cases true = omega arith
      cases false = omega arith

  -- HANDS
  abbrev Each : (ℕ → QueueView T → Type 0) → List (QueueView T) → Type 0
  Each F vs = (port : ℕ) (v : QueueView T) → get_elem? vs port ≡ some v → F port v

  each_set : (F : ℕ → QueueView T → Type 0) (vs : List (QueueView T)) (port : ℕ) (w : QueueView T) → F port w → ((j : ℕ) (u : QueueView T) → j ≢ port → get_elem? vs j ≡ some u → F j u) → Each F (set vs port w)
  each_set F vs port w mine others j u e = ⊎_elim (λ (x : (j ≡ port) × (w ≡ u)). subst (λ (y : ℕ × QueueView T). F y.0 y.1) (λ i. (sym x.0 i, x.1 i)) mine)
      (λ (x : (j ≢ port) × (get_elem? vs j ≡ some u)). others j u x.0 x.1) (at_set vs port j w u e)

  snoc : (vs : List (QueueView T)) (a b : QueueView T) (j : ℕ) → get_elem? (vs ++ a ∷ []) j ≡ some b → (get_elem? vs j ≡ some b) ⊎ ((j ≡ length vs) × (a ≡ b))
  snoc [] a b zero e = inr (refl, some_inj a b e)
  snoc [] a b (suc j) e = absurd (some-ne-none b (sym e))
  snoc (v ∷ vs) a b zero e = inl e
  snoc (v ∷ vs) a b (suc j) e = ⊎_elim (λ (x : get_elem? vs j ≡ some b). inl x) (λ (x : (j ≡ length vs) × (a ≡ b)). inr (ap suc x.0, x.1)) (snoc vs a b j e)

  each_snoc : (F : ℕ → QueueView T → Type 0) (vs : List (QueueView T)) (w : QueueView T) → Each F vs → F (length vs) w → Each F (vs ++ w ∷ [])
  each_snoc F vs w old new j u e = ⊎_elim (λ (x : get_elem? vs j ≡ some u). old j u x)
      (λ (x : (j ≡ length vs) × (w ≡ u)). subst (λ (y : ℕ × QueueView T). F y.0 y.1) (λ i. (sym x.0 i, x.1 i)) new) (snoc vs w u j e)

  none_put : (P : Entry T → Type 0) → All P []
  none_put P = All-nil P

  -- a hand that neither deals, puts nor got anything fits wherever its number does
  new_fits : (deals next : ℕ) (hand_of counts : ℕ → ℕ) (items : List (Entry T)) (port : ℕ) (v : QueueView T) → v.next ≡ None → v.put ≡ [] → v.got ≡ [] → InOrder items
      → ((n : ℕ) → v.number ≡ Some n → (n < next) × (port ≡ hand_of n) × (v.below ≡ counts n)) → Fits deals next hand_of counts items port v
  new_fits deals next hand_of counts items port v no_next no_put no_got ordered numbered = record {
    dealing = λ k p. absurd (none_some k (sym no_next ∙ p));
    numbered = numbered;
    named = subst (All (λ (e : Entry T). v.number ≡ Some e.end)) (sym no_put) (none_put (λ (e : Entry T). v.number ≡ Some e.end));
    early = subst (All (λ (e : Entry T). e.count < v.below)) (sym no_put) (none_put (λ (e : Entry T). e.count < v.below));
    past = subst (All (IsPast counts)) (sym no_got) (none_put (IsPast counts));
    in_order = subst (λ (xs : List (Entry T)). InOrder (xs ++ items)) (sym no_got) ordered;
  }

  -- A NEW QUEUE
  pub begins : HandsOver {T = T} [] (dealer ∷ [])
  begins = record {
    deals = 0;
    next = 0;
    hand_of = λ n. 0;
    counts = λ n. 0;
    undealt = λ n all. refl;
    past = none_put (IsPast (λ n. 0));
    in_order = tt;
    each = first;
    once = λ end count. omega arith;
    kept = λ h. refl;
  }
    where
      first : Each (Fits 0 0 (λ n. 0) (λ n. 0) []) (dealer ∷ [])
      first zero v e = subst (Fits 0 0 (λ n. 0) (λ n. 0) [] 0) (some_inj dealer v e) (record {
        dealing = λ k p. (refl, sym (number_inj 0 k p));
        numbered = λ n p. absurd (none_some n p);
        named = none_put (λ (x : Entry T). None ≡ Some x.end);
        early = none_put (λ (x : Entry T). x.count < 0);
        past = none_put (IsPast (λ n. 0));
        in_order = tt;
      })
      first (suc port) v e = absurd (some-ne-none v (sym e))

  -- a hand without a number may come
  pub admitted : (items : List (Entry T)) (views : List (QueueView T)) → HandsOver items views → HandsOver items (views ++ taker ∷ [])
  admitted items views r = record {
    deals = r.deals;
    next = r.next;
    hand_of = r.hand_of;
    counts = r.counts;
    undealt = r.undealt;
    past = r.past;
    in_order = r.in_order;
    each = each_snoc (Fits r.deals r.next r.hand_of r.counts items) views taker r.each
        (new_fits r.deals r.next r.hand_of r.counts items (length views) taker refl refl refl r.in_order (λ n p. absurd (none_some n p)));
    once = λ end count. let p = total_snoc (λ (v : QueueView T). weigh (is_of end count) v.put) views taker in let q = r.once end count in omega arith;
    kept = λ h. let p = total_snoc (λ (v : QueueView T). weigh h v.put) views taker in let q = total_snoc (λ (v : QueueView T). weigh h v.got) views taker in let s = r.kept h in omega arith;
  }

  -- NUMBERS ARE DEALT
  abbrev Numbered : ℕ → (ℕ → ℕ) → (ℕ → ℕ) → ℕ → QueueView T → Type 0
  Numbered next hand_of counts port v = (n : ℕ) → v.number ≡ Some n → (n < next) × (port ≡ hand_of n) × (v.below ≡ counts n)

  numbered_still : (next : ℕ) (hand_of counts : ℕ → ℕ) (new port : ℕ) (v : QueueView T) → Numbered next hand_of counts port v → Numbered (suc next) (changed hand_of next new) counts port v
  numbered_still next hand_of counts new port v old n is =
      let was = old n is in
      let less = was.0 in
      (omega arith, was.1 ∙ sym (changed_else hand_of next new n (λ (e : n ≡ next). omega arith)), was.2)

  numbered_new : (next : ℕ) (hand_of counts : ℕ → ℕ) (new : ℕ) (v : QueueView T) → v.number ≡ Some next → v.below ≡ counts next → Numbered (suc next) (changed hand_of next new) counts new v
  numbered_new next hand_of counts new v is below n also =
      let same : n ≡ next = number_inj n next (sym also ∙ is) in
      (omega arith, sym (changed_here hand_of next new) ∙ ap (changed hand_of next new) (sym same), below ∙ ap counts (sym same))

  total_forked : (f : QueueView T → ℕ) (vs : List (QueueView T)) (port : ℕ) (v left right : QueueView T) → get_elem? vs port ≡ some v → f left ≡ f v → f right ≡ 0 → total f (set vs port left ++ right ∷ []) ≡ total f vs
  total_forked f vs port v left right at same none =
      let p = total_set f vs port v left at in let q = total_snoc f (set vs port left) right in omega arith

  -- the dealer stays the only one
  others_still : (deals next : ℕ) (hand_of counts : ℕ → ℕ) (items : List (Entry T)) (new port : ℕ) (u : QueueView T) → (¬ (port ≡ deals)) → Fits deals next hand_of counts items port u → Fits deals (suc next) (changed hand_of next new) counts items port u
  others_still deals next hand_of counts items new port u other fits = record {
    dealing = λ k p. absurd (other (fits.dealing k p).0);
    numbered = numbered_still next hand_of counts new port u fits.numbered;
    named = fits.named;
    early = fits.early;
    past = fits.past;
    in_order = fits.in_order;
  }

  pub deals : (port : ℕ) (v : QueueView T) (k : ℕ) → v.next ≡ Some k → (items : List (Entry T)) (views : List (QueueView T)) → HandsOver items views → get_elem? views port ≡ some v → HandsOver items (set views port (after_deal v) ++ dealt v ∷ [])
  deals port v k is items views r at =
      let mine = r.each port v at in
      let dealing = mine.dealing k is in
      let vs : List (QueueView T) = set views port (after_deal v) in
      let F : ℕ → QueueView T → Type 0 = Fits r.deals (suc r.next) (changed r.hand_of r.next (length vs)) r.counts items in
      record {
        deals = r.deals;
        next = suc r.next;
        hand_of = changed r.hand_of r.next (length vs);
        counts = r.counts;
        undealt = λ n all. r.undealt n (omega arith);
        past = r.past;
        in_order = r.in_order;
        each = each_snoc F vs (dealt v)
            (each_set F views port (after_deal v)
            (record {
              dealing = λ n p. (dealing.0, following_is v.next k n is p ∙ ap suc dealing.1);
              numbered = numbered_still r.next r.hand_of r.counts (length vs) port (after_deal v) mine.numbered;
              named = mine.named;
              early = mine.early;
              past = mine.past;
              in_order = mine.in_order;
            })
            (λ j u other e. others_still r.deals r.next r.hand_of r.counts items (length vs) j u (λ (same : j ≡ r.deals). other (same ∙ sym dealing.0)) (r.each j u e)))
            (new_fits r.deals (suc r.next) (changed r.hand_of r.next (length vs)) r.counts items (length vs) (dealt v) refl refl refl r.in_order
            (numbered_new r.next r.hand_of r.counts (length vs) (dealt v) (is ∙ ap (λ (n : ℕ). Some n) dealing.1) (sym (r.undealt r.next (omega arith)))));
        once = λ end count. let p = total_forked (λ (u : QueueView T). weigh (is_of end count) u.put) views port v (after_deal v) (dealt v) at refl refl in let q = r.once end count in omega arith;
        kept = λ h. let p = total_forked (λ (u : QueueView T). weigh h u.put) views port v (after_deal v) (dealt v) at refl refl in let q = total_forked (λ (u : QueueView T). weigh h u.got) views port v (after_deal v) (dealt v) at refl refl in let s = r.kept h in omega arith;
      }

  pub settles : (port : ℕ) (v : QueueView T) (k : ℕ) → v.next ≡ Some k → v.put ≡ [] → v.below ≡ 0 → (items : List (Entry T)) (views : List (QueueView T)) → HandsOver items views → get_elem? views port ≡ some v
      → HandsOver items (set views port (settled v) ++ taker ∷ [])
  settles port v k is nothing below items views r at =
      let mine = r.each port v at in
      let dealing = mine.dealing k is in
      let vs : List (QueueView T) = set views port (settled v) in
      let F : ℕ → QueueView T → Type 0 = Fits r.deals (suc r.next) (changed r.hand_of r.next port) r.counts items in
      record {
        deals = r.deals;
        next = suc r.next;
        hand_of = changed r.hand_of r.next port;
        counts = r.counts;
        undealt = λ n all. r.undealt n (omega arith);
        past = r.past;
        in_order = r.in_order;
        each = each_snoc F vs taker
            (each_set F views port (settled v)
            (record {
              dealing = λ n p. (dealing.0, following_is v.next k n is p ∙ ap suc dealing.1);
              numbered = numbered_new r.next r.hand_of r.counts port (settled v) (is ∙ ap (λ (n : ℕ). Some n) dealing.1) (below ∙ sym (r.undealt r.next (omega arith)));
              named = subst (All (λ (e : Entry T). v.next ≡ Some e.end)) (sym nothing) (none_put (λ (e : Entry T). v.next ≡ Some e.end));
              early = mine.early;
              past = mine.past;
              in_order = mine.in_order;
            })
            (λ j u other e. others_still r.deals r.next r.hand_of r.counts items port j u (λ (same : j ≡ r.deals). other (same ∙ sym dealing.0)) (r.each j u e)))
            (new_fits r.deals (suc r.next) (changed r.hand_of r.next port) r.counts items (length vs) taker refl refl refl r.in_order (λ n p. absurd (none_some n p)));
        once = λ end count. let p = total_forked (λ (u : QueueView T). weigh (is_of end count) u.put) views port v (settled v) taker at refl refl in let q = r.once end count in omega arith;
        kept = λ h. let p = total_forked (λ (u : QueueView T). weigh h u.put) views port v (settled v) taker at refl refl in let q = total_forked (λ (u : QueueView T). weigh h u.got) views port v (settled v) taker at refl refl in let s = r.kept h in omega arith;
      }

  -- ENTRIES ARE PUT
  -- whoever has the number of the end has put less than so many entries: so nobody has put this one
  new_entry : (items : List (Entry T)) (views : List (QueueView T)) (port : ℕ) (v : QueueView T) (e : Entry T) → HandsOver items views → get_elem? views port ≡ some v → v.number ≡ Some e.end → v.below ≤ e.count
      → total (λ (u : QueueView T). weigh (is_of e.end e.count) u.put) views ≡ 0
  new_entry items views port v e r at number fewer = total_none (λ (u : QueueView T). weigh (is_of e.end e.count) u.put) views each
    where
      each : (j : ℕ) (u : QueueView T) → get_elem? views j ≡ some u → weigh (is_of e.end e.count) u.put ≡ 0
      each j u there = ⊎_elim
          (λ (same : eqb j port ≡ true).
          let is : u ≡ v = some_inj u v (sym there ∙ ap (get_elem? views) (eqb-true j port same) ∙ at) in
          ap (λ (w : QueueView T). weigh (is_of e.end e.count) w.put) is
          ∙ weigh_none (is_of e.end e.count) (λ (x : Entry T). x.count < v.below) v.put (λ x less. is_of_other e.end e.count x (λ p q. let low : x.count < v.below = less in omega arith)) (r.each port v at).early)
          (λ (other : eqb j port ≡ false).
          weigh_none (is_of e.end e.count) (λ (x : Entry T). u.number ≡ Some x.end) u.put
          (λ x named. is_of_other e.end e.count x (λ p q.
          let theirs = (r.each j u there).numbered e.end (named ∙ ap (λ (n : ℕ). Some n) p) in
          let mine = (r.each port v at).numbered e.end number in
          absurd (eqb-false j port other (theirs.1 ∙ sym mine.1))))
          (r.each j u there).named)
          (cases_Bool (eqb j port))

  -- what is past an end's count is past it where the count has grown
  still_past : (counts : ℕ → ℕ) (end count : ℕ) (x : Entry T) → counts end ≤ count → IsPast counts x → IsPast (changed counts end (suc count)) x
  still_past counts end count x grown past = ⊎_elim
      (λ (same : eqb x.end end ≡ true).
      let is : x.end ≡ end = eqb-true x.end end same in
      let now : changed counts end (suc count) x.end ≡ suc count = ap (changed counts end (suc count)) is ∙ changed_here counts end (suc count) in
      let was : counts x.end ≡ counts end = ap counts is in
      omega arith)
      (λ (other : eqb x.end end ≡ false).
      let now : changed counts end (suc count) x.end ≡ counts x.end = changed_else counts end (suc count) x.end (eqb-false x.end end other) in
      omega arith)
      (cases_Bool (eqb x.end end))

  -- and such entries are before the next one of that end
  past_before : (counts : ℕ → ℕ) (e x : Entry T) → counts e.end ≤ e.count → IsPast counts x → Before x e
  past_before counts e x grown past same = let is : counts x.end ≡ counts e.end = ap counts same in omega arith

  past_in_order : (counts : ℕ → ℕ) (xs : List (Entry T)) (e : Entry T) → counts e.end ≤ e.count → All (IsPast counts) xs → InOrder xs → InOrder (xs ++ e ∷ [])
  past_in_order counts xs e grown past ordered = in_order_push xs e ordered (All-weaker (IsPast counts) (λ (x : Entry T). Before x e) (λ x p. past_before counts e x grown p) xs past)

  put_fits : (deals next : ℕ) (hand_of counts : ℕ → ℕ) (items : List (Entry T)) (port : ℕ) (u : QueueView T) (e : Entry T) → Fits deals next hand_of counts items port u → counts e.end ≤ e.count → All (IsPast counts) items
      → Numbered next hand_of (changed counts e.end (suc e.count)) port u → Fits deals next hand_of (changed counts e.end (suc e.count)) (items ++ e ∷ []) port u
  put_fits deals next hand_of counts items port u e fits grown past numbered = record {
    dealing = fits.dealing;
    numbered = numbered;
    named = fits.named;
    early = fits.early;
    past = All-weaker (IsPast counts) (IsPast (changed counts e.end (suc e.count))) (λ x p. still_past counts e.end e.count x grown p) u.got fits.past;
    in_order = subst InOrder (append_assoc u.got items (e ∷ [])) (past_in_order counts (u.got ++ items) e grown (All-append (IsPast counts) u.got items fits.past past) fits.in_order);
  }

  pub put_kept : (port : ℕ) (v : QueueView T) (e : Entry T) → v.number ≡ Some e.end → v.below ≤ e.count → (items : List (Entry T)) (views : List (QueueView T)) → HandsOver items views → get_elem? views port ≡ some v
      → HandsOver (items ++ e ∷ []) (set views port (puts v e))
  put_kept port v e number fewer items views r at =
      let w : QueueView T = puts v e in
      let mine = r.each port v at in
      let own = mine.numbered e.end number in
      let is_below : v.below ≡ r.counts e.end = own.2 in
      let grown : r.counts e.end ≤ e.count = omega arith in
      let counts : ℕ → ℕ = changed r.counts e.end (suc e.count) in
      let now : suc e.count ≡ counts e.end = sym (changed_here r.counts e.end (suc e.count)) in
      let fits = put_fits r.deals r.next r.hand_of r.counts items port v e mine grown r.past in
      record {
        deals = r.deals;
        next = r.next;
        hand_of = r.hand_of;
        counts = counts;
        undealt = λ n all. changed_else r.counts e.end (suc e.count) n (λ (p : n ≡ e.end). let less = own.0 in omega arith) ∙ r.undealt n all;
        past = All-push (IsPast counts) items e (All-weaker (IsPast r.counts) (IsPast counts) (λ x p. still_past r.counts e.end e.count x grown p) items r.past) (omega arith);
        in_order = past_in_order r.counts items e grown r.past r.in_order;
        each = each_set (Fits r.deals r.next r.hand_of counts (items ++ e ∷ [])) views port w
            (record {
              dealing = mine.dealing;
              numbered = λ n is. let same : n ≡ e.end = number_inj n e.end (sym is ∙ number) in let was = mine.numbered n is in (was.0, was.1, now ∙ ap counts (sym same));
              named = All-push (λ (x : Entry T). v.number ≡ Some x.end) v.put e mine.named number;
              early = All-push (λ (x : Entry T). x.count < suc e.count) v.put e
                  (All-weaker (λ (x : Entry T). x.count < v.below) (λ (x : Entry T). x.count < suc e.count) (λ x less. let low : x.count < v.below = less in omega arith) v.put mine.early) (omega arith);
              past = All-weaker (IsPast r.counts) (IsPast counts) (λ x p. still_past r.counts e.end e.count x grown p) v.got mine.past;
              in_order = subst InOrder (append_assoc v.got items (e ∷ [])) (past_in_order r.counts (v.got ++ items) e grown (All-append (IsPast r.counts) v.got items mine.past r.past) mine.in_order);
            })
            (λ j u other there.
            let theirs = r.each j u there in
            put_fits r.deals r.next r.hand_of r.counts items j u e theirs grown r.past
            (λ n is. let was = theirs.numbered n is in
            (was.0, was.1, was.2 ∙ sym (changed_else r.counts e.end (suc e.count) n (λ (p : n ≡ e.end). other (was.1 ∙ ap r.hand_of p ∙ sym own.1))))));
        once = one;
        kept = λ h.
            let p = total_set (λ (u : QueueView T). weigh h u.put) views port v w at in
            let q = total_set (λ (u : QueueView T). weigh h u.got) views port v w at in
            let s = r.kept h in
            omega (arith, weigh_append h v.put (e ∷ []), weigh_append h items (e ∷ []));
      }
    where
      one : (end count : ℕ) → total (λ (u : QueueView T). weigh (is_of end count) u.put) (set views port (puts v e)) ≤ 1
      one end count =
          let p = total_set (λ (u : QueueView T). weigh (is_of end count) u.put) views port v (puts v e) at in
          let q = weigh_append (is_of end count) v.put (e ∷ []) in
          let before = r.once end count in
          ⊎_elim
          (λ (same : ((e.end == end) && (e.count == count)) ≡ true).
          let parts = and_parts (e.end == end) (e.count == count) same in
          let none = subst (λ (x : ℕ × ℕ). total (λ (u : QueueView T). weigh (is_of x.0 x.1) u.put) views ≡ 0) (λ i. (eqb-true e.end end parts.0 i, eqb-true e.count count parts.1 i)) (new_entry items views port v e r at number fewer) in
          let most = at_most_one end count e in
          omega arith)
          (λ (other : ((e.end == end) && (e.count == count)) ≡ false).
          let none : is_of end count e ≡ 0 = ap (λ (b : Bool). if b then 1 else 0) other in
          omega arith)
          (cases_Bool ((e.end == end) && (e.count == count)))

  -- ENTRIES ARE GOT
  pub get_kept : (port : ℕ) (v : QueueView T) (entries items : List (Entry T)) (views : List (QueueView T)) → HandsOver (entries ++ items) views → get_elem? views port ≡ some v → HandsOver items (set views port (gets v entries))
  get_kept port v entries items views r at =
      let w : QueueView T = gets v entries in
      let mine = r.each port v at in
      let parts = all_parts (IsPast r.counts) entries items r.past in
      record {
        deals = r.deals;
        next = r.next;
        hand_of = r.hand_of;
        counts = r.counts;
        undealt = r.undealt;
        past = parts.1;
        in_order = in_order_end entries items r.in_order;
        each = each_set (Fits r.deals r.next r.hand_of r.counts items) views port w
            (record {
              dealing = mine.dealing;
              numbered = mine.numbered;
              named = mine.named;
              early = mine.early;
              past = All-append (IsPast r.counts) v.got entries mine.past parts.0;
              in_order = subst InOrder (sym (append_assoc v.got entries items)) mine.in_order;
            })
            (λ j u other there.
            let theirs = r.each j u there in
            record {
              dealing = theirs.dealing;
              numbered = theirs.numbered;
              named = theirs.named;
              early = theirs.early;
              past = theirs.past;
              in_order = in_order_without u.got entries items theirs.in_order;
            });
        once = λ end count. let p = total_set (λ (u : QueueView T). weigh (is_of end count) u.put) views port v w at in let q = r.once end count in omega arith;
        kept = λ h.
            let p = total_set (λ (u : QueueView T). weigh h u.put) views port v w at in
            let q = total_set (λ (u : QueueView T). weigh h u.got) views port v w at in
            let s = r.kept h in
            omega (arith, weigh_append h v.got entries, weigh_append h entries items);
      }
