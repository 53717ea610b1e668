-- What the hands of a queue know of it, and the rule that it keeps between any two steps.
use Rattle.std.specs.Prelude.{◌≡◌, ℕ, suc, ◌+◌, ◌<◌, ◌≤◌, ◌==◌, ◌&&◌, if◌then◌else◌, ⊤, List, [], ◌∷◌, ◌++◌, Option, Some, None, All}
use mathlib.Core.Option.{some}
use lib.ListN.{get_elem?}
use Rattle.meet_queues.specs.declared.entries.Entry.{Entry}
use Rattle.meet_queues.specs.declared.entries.QueueView.{QueueView}

abbrev pub following : Option ℕ → Option ℕ
following None = None
following (Some k) = Some (suc k)

module _ {T : Type 0} where
  -- the weights of the entries, added up
  abbrev pub weigh : (Entry T → ℕ) → List (Entry T) → ℕ
  weigh h [] = 0
  weigh h (e ∷ es) = h e + weigh h es

  -- the weights of the hands, added up
  abbrev pub total : (QueueView T → ℕ) → List (QueueView T) → ℕ
  total f [] = 0
  total f (v ∷ vs) = f v + total f vs

  -- 1 for the entry that the end put at that count
  abbrev pub is_of : ℕ → ℕ → Entry T → ℕ
  is_of end count e = if (e.end == end) && (e.count == count) then 1 else 0

  abbrev pub hand : Option ℕ → Option ℕ → ℕ → List (Entry T) → List (Entry T) → QueueView T
  hand number next below put got = record { number = number; next = next; below = below; put = put; got = got }

  -- the first hand deals the others; it has no number, and deals from 0 on
  abbrev pub dealer : QueueView T
  dealer = hand None (Some 0) 0 [] []

  -- a hand with no number takes only
  abbrev pub taker : QueueView T
  taker = hand None None 0 [] []

  -- the dealer after it dealt a hand, and the hand
  abbrev pub after_deal : QueueView T → QueueView T
  after_deal v = hand v.number (following v.next) v.below v.put v.got

  abbrev pub dealt : QueueView T → QueueView T
  dealt v = hand v.next None 0 [] []

  -- the dealer after it took the next number itself
  abbrev pub settled : QueueView T → QueueView T
  settled v = hand v.next (following v.next) v.below v.put v.got

  abbrev pub puts : QueueView T → Entry T → QueueView T
  puts v e = hand v.number v.next (suc e.count) (v.put ++ e ∷ []) v.got

  abbrev pub gets : QueueView T → List (Entry T) → QueueView T
  gets v entries = hand v.number v.next v.below v.put (v.got ++ entries)

  -- the entries are one, which the hand put
  abbrev pub PutsOne : QueueView T → List (Entry T) → QueueView T → Type 0
  PutsOne v entries w = (e : Entry T) × (entries ≡ e ∷ []) × (w ≡ puts v e)

  -- the hand is the end's, and each count that it put is below this one
  abbrev pub IsHandOf : ℕ → ℕ → QueueView T → Type 0
  IsHandOf number count v = (v.number ≡ Some number) × (v.below ≤ count)

  -- of one end's entries, the first was put before the second
  abbrev pub Before : Entry T → Entry T → Type 0
  Before x y = x.end ≡ y.end → x.count < y.count

  -- each end's entries stand in the order in which it put them
  abbrev pub InOrder : List (Entry T) → Type 0
  InOrder [] = ⊤
  InOrder (e ∷ es) = All (Before e) es × InOrder es

  -- the end that put it is past its count
  abbrev pub IsPast : (ℕ → ℕ) → Entry T → Type 0
  IsPast counts e = e.count < counts e.end

  -- One hand deals, with the next number; a number is below it, and is one hand's; what a hand put names its number and
  -- is below its count. What it got, and behind it what the queue holds, is past and in order.
  pub record Fits (deals next : ℕ) (hand_of counts : ℕ → ℕ) (items : List (Entry T)) (port : ℕ) (v : QueueView T) : Type 0 where
    pub dealing : (k : ℕ) → v.next ≡ Some k → (port ≡ deals) × (k ≡ next)
    pub numbered : (n : ℕ) → v.number ≡ Some n → (n < next) × (port ≡ hand_of n) × (v.below ≡ counts n)
    pub named : All (λ (e : Entry T). v.number ≡ Some e.end) v.put
    pub early : All (λ (e : Entry T). e.count < v.below) v.put
    pub past : All (IsPast counts) v.got
    pub in_order : InOrder (v.got ++ items)

  -- no entry was put twice, and however entries are weighed, what was put is what was got, by whichever hands, and what the queue holds
  pub record HandsOver (items : List (Entry T)) (views : List (QueueView T)) : Type 0 where
    pub deals : ℕ
    pub next : ℕ
    pub hand_of : ℕ → ℕ
    pub counts : ℕ → ℕ
    pub undealt : (n : ℕ) → next ≤ n → counts n ≡ 0
    pub past : All (IsPast counts) items
    pub in_order : InOrder items
    pub each : (port : ℕ) (v : QueueView T) → get_elem? views port ≡ some v → Fits deals next hand_of counts items port v
    pub once : (end count : ℕ) → total (λ (v : QueueView T). weigh (is_of end count) v.put) views ≤ 1
    pub kept : (h : Entry T → ℕ) → total (λ (v : QueueView T). weigh h v.put) views ≡ total (λ (v : QueueView T). weigh h v.got) views + weigh h items

  -- at one moment the queue held these entries, while the hand knew this
  abbrev pub Held : QueueView T → List (Entry T) → Type 0
  Held v items = (views : List (QueueView T)) × (port : ℕ) × HandsOver items views × (get_elem? views port ≡ some v)

  abbrev pub WasEmpty : QueueView T → Type 0
  WasEmpty v = Held v []
