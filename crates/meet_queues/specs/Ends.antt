-- What clauses say of an end.
use Rattle.std.specs.Prelude.{◌≡◌, ℕ, ◌+◌, ◌⊎◌, List, [], ◌∷◌, ◌++◌, Some, None, All, map, drop, take, slice_get, slice_set}
use Rattle.protocol_values.specs.declared.Row.{Row}
use Rattle.crossbeam_deque.specs.Handles.{view, IsPassOf, worker_deque, worker_flavor, worker_view, stealer_deque, stealer_flavor}
use Rattle.crossbeam_deque.specs.declared.handles.Stealer.{Stealer}
use Rattle.atomic_blocks.specs.Lent.{RowsId}
use Rattle.std.specs.declared.alloc.Global.{Global}
use Rattle.crossbeam_deque.specs.Injected.{injector_view, IsInjectorPassOf}
use Rattle.meet_queues.specs.declared.entries.Entry.{Entry}
use Rattle.meet_queues.specs.declared.entries.QueueView.{QueueView}
use Rattle.meet_queues.specs.Hands.{IsHandOf, hand, taker}
use Rattle.meet_queues.specs.declared.ends.ReadyEnd.{ReadyEnd}
use Rattle.meet_queues.specs.declared.ends.Other.{Other}
use Rattle.meet_queues.specs.declared.ready.Ready.{Ready}

abbrev pub end_number : ReadyEnd → ℕ
end_number e = e.number

abbrev pub end_count : ReadyEnd → ℕ
end_count e = e.count

-- what the end knows of its own deque and of the injector
abbrev pub own_hand : ReadyEnd → QueueView Row
own_hand e = worker_view e.own

abbrev pub shared_hand : ReadyEnd → QueueView Row
shared_hand e = injector_view e.inlet

abbrev pub got_of : Other → List (Entry Row)
got_of o = (view o.hand).got

-- what it got: from its own deque, from the injector, and from each other's deque
abbrev pub all_got : ReadyEnd → List (List (Entry Row))
all_got e = (own_hand e).got ∷ (shared_hand e).got ∷ map got_of e.others.items

abbrev pub IsOther : Other → Type 0
IsOther o = IsPassOf (stealer_deque o.deque) o.hand × (stealer_flavor o.deque ≡ 0)

-- it is an end of these queues
pub record IsEndOf (ready : Ready) (e : ReadyEnd) : Type 0 where
  pub fifo : worker_flavor e.own ≡ 0
  pub own : IsHandOf e.number e.count (own_hand e)
  pub inlet : IsInjectorPassOf ready.inlet e.inlet
  pub shared : IsHandOf e.number e.count (shared_hand e)
  pub others : All IsOther e.others.items

abbrev pub entry : Row → ReadyEnd → Entry Row
entry row e = record { item = row; end = e.number; count = e.count }

-- one list has one entry more at its end
abbrev pub Grows : List (Entry Row) → List (Entry Row) → Entry Row → Type 0
Grows before after e = after ≡ before ++ e ∷ []

-- the row was put at the back of the own deque or of the injector, and of one of them only; nothing was got
abbrev pub HasPut : ReadyEnd → ReadyEnd → Row → Type 0
HasPut before after row =
    (after.count ≡ before.count + 1) × (all_got after ≡ all_got before)
    × ((Grows (own_hand before).put (own_hand after).put (entry row before) × ((shared_hand after).put ≡ (shared_hand before).put))
    ⊎ (((own_hand after).put ≡ (own_hand before).put) × Grows (shared_hand before).put (shared_hand after).put (entry row before)))

abbrev pub HasPutNothing : ReadyEnd → ReadyEnd → Type 0
HasPutNothing before after = (after.count ≡ before.count) × ((own_hand after).put ≡ (own_hand before).put) × ((shared_hand after).put ≡ (shared_hand before).put)

-- one of the lists has the entry more at its end, and no other list changed
abbrev pub GotOne : List (List (Entry Row)) → List (List (Entry Row)) → Entry Row → Type 0
GotOne before after e =
    (from : ℕ) × (got : List (Entry Row)) × (slice_get before from ≡ Some got) × (after ≡ slice_set before from (got ++ e ∷ []))

-- from one of the queues an entry of that row was got, and no other entry
abbrev pub HasGot : ReadyEnd → ReadyEnd → Row → Type 0
HasGot before after row = (e : Entry Row) × (e.item ≡ row) × GotOne (all_got before) (all_got after) e

-- NEW ENDS
-- a handle of a deque that is taken from at the front
abbrev pub IsThief : {T A V P : Type 0} → Stealer T A V P → Type 0
IsThief t = stealer_flavor t ≡ 0

-- a hand that knows of nothing
abbrev pub IsNewOther : Other → Type 0
IsNewOther o = IsOther o × (view o.hand ≡ taker)

-- which deque it is
abbrev pub deque_of : Other → RowsId × Global
deque_of o = stealer_deque o.deque

abbrev pub own_deque_of : ReadyEnd → RowsId × Global
own_deque_of e = worker_deque e.own

-- all of a list but the one with this number, from the next one on
abbrev pub all_but : {X : Type 0} → ℕ → List X → List X
all_but n xs = drop (n + 1) xs ++ take n xs

-- an end with this number, of these queues, which knows of nothing; what it steals from is left open
pub record IsFresh (ready : Ready) (n : ℕ) (e : ReadyEnd) : Type 0 where
  pub number : e.number ≡ n
  pub count : e.count ≡ 0
  pub fifo : worker_flavor e.own ≡ 0
  pub own : own_hand e ≡ hand (Some n) (Some (n + 1)) 0 [] []
  pub inlet : IsInjectorPassOf ready.inlet e.inlet
  pub shared : shared_hand e ≡ hand (Some n) None 0 [] []

abbrev pub IsAlone : Ready → ℕ → ReadyEnd → Type 0
IsAlone ready n e = IsFresh ready n e × (e.others.items ≡ [])

-- a new end has put and got nothing, and steals from the deques of all the other ends, from the next one on
abbrev pub IsNewEnd : List ReadyEnd → ℕ → ReadyEnd → Type 0
IsNewEnd ends n e =
    (e.number ≡ n) × (e.count ≡ 0) × ((own_hand e).put ≡ []) × ((shared_hand e).put ≡ []) × All (λ (got : List (Entry Row)). got ≡ []) (all_got e)
    × (map deque_of e.others.items ≡ all_but n (map own_deque_of ends))
