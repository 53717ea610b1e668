-- Each step of a pass keeps the lane's rule.
use Rattle.std.proofs.Common.{◌≡◌, ℕ, ◌≤◌, [], ◌∷◌, refl, Some}
use Rattle.crossbeam_queue.specs.Fifo.{Forks, Learns, Pops, Pushes}
use Rattle.meet_queues.specs.declared.entries.Entry.{Entry}
use Rattle.meet_queues.specs.declared.entries.QueueView.{QueueView}
use Rattle.meet_queues.specs.Hands.{HandsOver, Held, after_deal, dealt, gets, puts}
use Rattle.meet_queues.proofs.Keeping.{deals, get_kept, put_kept}

module _ {T : Type 0} where
  pub deals_one : (port : ℕ) (v : QueueView T) (k : ℕ) → v.next ≡ Some k → Forks HandsOver port v (after_deal v) (dealt v)
  deals_one port v k is items views r at = deals port v k is items views r at

  pub puts_one : (n port : ℕ) (v : QueueView T) (e : Entry T) → v.number ≡ Some e.end → v.below ≤ e.count → Pushes HandsOver n port v e (λ w. w ≡ puts v e)
  puts_one n port v e number fewer items views short r at = (puts v e, put_kept port v e number fewer items views r at, refl)

  pub takes_one : (port : ℕ) (v : QueueView T) → Pops HandsOver port v (λ e w. w ≡ gets v (e ∷ []))
  takes_one port v e items views r at = (gets v (e ∷ []), get_kept port v (e ∷ []) items views r at, refl)

  pub learns : (port : ℕ) (v : QueueView T) → Learns HandsOver port v (Held v)
  learns port v items views r at = (views, port, r, at)
