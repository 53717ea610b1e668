-- What it comes to that each entry is handed over once.
use Rattle.std.specs.Prelude.{◌≡◌, ℕ, ◌+◌, ◌<◌, ◌≤◌, List, Some}
use mathlib.Core.Option.{some}
use lib.ListN.{get_elem?}
use Rattle.meet_queues.specs.declared.entries.Entry.{Entry}
use Rattle.meet_queues.specs.declared.entries.QueueView.{QueueView}
use Rattle.meet_queues.specs.Hands.{InOrder, is_of, total, weigh}

module _ {T : Type 0} where
  -- the weights of what the hands got, and of what the queue holds
  abbrev pub got_and_held : (Entry T → ℕ) → List (QueueView T) → List (Entry T) → ℕ
  got_and_held h hands entries = total (λ (v : QueueView T). weigh h v.got) hands + weigh h entries

  -- one of the hands put something that weighs, and is that end's
  abbrev pub WasPutBy : (Entry T → ℕ) → ℕ → List (QueueView T) → Type 0
  WasPutBy h end hands = (port : ℕ) × (v : QueueView T) × (get_elem? hands port ≡ some v) × (v.number ≡ Some end) × (0 < weigh h v.put)

-- Whenever the rule holds of what a queue holds and of its hands: what an end put at one of its counts was got
-- once at most, and stands in the queue only where it was not; however entries are weighed, what was put weighs as
-- much as what was got and what stands there; what was got or stands there was put, by the end that it names; and
-- each hand got each end's entries in the order in which it put them.
pub record HandedOverOnce {T : Type 0} (holds : List (Entry T) → List (QueueView T) → Type 0) : Type 0 where
  pub once : (entries : List (Entry T)) (hands : List (QueueView T)) (end count : ℕ) → holds entries hands → got_and_held (is_of end count) hands entries ≤ 1
  pub weighed : (entries : List (Entry T)) (hands : List (QueueView T)) (h : Entry T → ℕ) → holds entries hands → total (λ (v : QueueView T). weigh h v.put) hands ≡ got_and_held h hands entries
  pub put : (entries : List (Entry T)) (hands : List (QueueView T)) (end : ℕ) (h : Entry T → ℕ) → ((e : Entry T) → 0 < h e → e.end ≡ end) → holds entries hands → 0 < got_and_held h hands entries → WasPutBy h end hands
  pub in_order : (entries : List (Entry T)) (hands : List (QueueView T)) (port : ℕ) (v : QueueView T) → holds entries hands → get_elem? hands port ≡ some v → InOrder v.got
