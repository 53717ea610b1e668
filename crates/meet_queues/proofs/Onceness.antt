-- What is got was put, once, by the end that it names, and one's entries in their order.
use Rattle.std.proofs.Common.{◌≡◌, ℕ, zero, suc, ◌+◌, ◌<◌, ◌≤◌, List, [], ◌∷◌, refl, subst, Some, All, arith}
use Rattle.std.proofs.lemmas.List.Elements.{All-head, All-tail}
use mathlib.Core.Option.{some}
use lib.ListN.{get_elem?}
use Rattle.meet_queues.specs.declared.entries.Entry.{Entry}
use Rattle.meet_queues.specs.declared.entries.QueueView.{QueueView}
use Rattle.meet_queues.specs.Hands.{HandsOver, InOrder, is_of, total, weigh}
use Rattle.meet_queues.specs.Laws.{HandedOverOnce}
use Rattle.meet_queues.proofs.Ordering.{in_order_front}

module _ {T : Type 0} where
  got_once : (entries : List (Entry T)) (hands : List (QueueView T)) (end count : ℕ) → HandsOver entries hands → total (λ (v : QueueView T). weigh (is_of end count) v.got) hands + weigh (is_of end count) entries ≤ 1
  got_once entries hands end count r = let p = r.kept (is_of end count) in let q = r.once end count in omega arith

  got_in_order : (entries : List (Entry T)) (hands : List (QueueView T)) (port : ℕ) (v : QueueView T) → HandsOver entries hands → get_elem? hands port ≡ some v → InOrder v.got
  got_in_order entries hands port v r at = in_order_front v.got entries (r.each port v at).in_order

  -- where the hands weigh something, one of them does
  heavy : (f : QueueView T → ℕ) (vs : List (QueueView T)) → 0 < total f vs → (port : ℕ) × (v : QueueView T) × (get_elem? vs port ≡ some v) × (0 < f v)
  heavy f [] some_ = absurd (omega arith)
  heavy f (v ∷ vs) some_ = at (f v) refl (heavy f vs)
    where
      at : (n : ℕ) → f v ≡ n → (0 < total f vs → (port : ℕ) × (u : QueueView T) × (get_elem? vs port ≡ some u) × (0 < f u)) → (port : ℕ) × (u : QueueView T) × (get_elem? (v ∷ vs) port ≡ some u) × (0 < f u)
      at zero e more = let rest = more (omega arith) in (suc rest.0, rest.1, rest.2, rest.3)
      at (suc n) e more = (0, v, refl, omega arith)

  -- where a list of entries weighs something, what is said of each is said of one that does
  said_of : (h : Entry T → ℕ) (P : Entry T → Type 0) (xs : List (Entry T)) → All P xs → 0 < weigh h xs → (x : Entry T) × (0 < h x) × P x
  said_of h P [] all some_ = absurd (omega arith)
  said_of h P (x ∷ xs) all some_ = at (h x) refl (said_of h P xs (All-tail P x xs all))
    where
      at : (n : ℕ) → h x ≡ n → (0 < weigh h xs → (y : Entry T) × (0 < h y) × P y) → (y : Entry T) × (0 < h y) × P y
      at zero e more = more (omega arith)
      at (suc n) e more = (x, omega arith, All-head P x xs all)

  -- what is weighed names one end: then that end put it
  was_put : (entries : List (Entry T)) (hands : List (QueueView T)) (end : ℕ) (h : Entry T → ℕ) → ((x : Entry T) → 0 < h x → x.end ≡ end) → HandsOver entries hands → 0 < total (λ (v : QueueView T). weigh h v.got) hands + weigh h entries
      → (port : ℕ) × (v : QueueView T) × (get_elem? hands port ≡ some v) × (v.number ≡ Some end) × (0 < weigh h v.put)
  was_put entries hands end h names r some_ =
      let p = r.kept h in
      let found = heavy (λ (v : QueueView T). weigh h v.put) hands (omega arith) in
      let one = said_of h (λ (x : Entry T). found.1.number ≡ Some x.end) found.1.put (r.each found.0 found.1 found.2).named found.3 in
      let named : one.0.end ≡ end = names one.0 one.1 in
      (found.0, found.1, found.2, subst (λ (n : ℕ). found.1.number ≡ Some n) named one.2, found.3)

  pub handed_over : HandedOverOnce {T = T} HandsOver
  handed_over = record { once = got_once; weighed = λ entries hands h r. r.kept h; put = was_put; in_order = got_in_order }
