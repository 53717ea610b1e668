-- Which offer is put into which room, as the offers are gone through.
use Rattle.std.proofs.Common.{Bool, true, false, ◌≡◌, ◌<◌, ◌≤◌, ◌+◌, ◌*◌, ℕ, List, inl, inr, refl, ap, sym, subst, ◌∙◌, length, arith}
use Rattle.std.specs.Prelude.{Option, Some, None, unwrap_or, IfOk, IfSome, MatchOption, Result, Ok, Err}
use Rattle.std.proofs.lemmas.Bool.{ltb-false, ltb-true}
use Rattle.std.proofs.lemmas.Bool.Decides.{eqb_tells}
use Rattle.protocol_values.specs.declared.Direction.{Direction}
use Rattle.protocol_values.specs.declared.Direction.TheVariants.{Always, Never, OnEnd, OnNack, Recv, Send}
use Rattle.protocol_values.specs.declared.Row.{Row}
use Rattle.cell_table.specs.Sight.{SeesDirection}
use Rattle.cell_table.specs.declared.view.Seen.{Seen}
use Rattle.meet_queues.specs.declared.lane.LanePass.{LanePass}
use Rattle.meet_queues.specs.Lanes.{Offered}
use Rattle.meet.specs.declared.meet.Meet.{Meet}
use Rattle.meet.specs.Rooms.{EachPutsOn, MeetsIn, PutAt, WaitsIn}
use Rattle.meet_scan.specs.Searches.{LacksAt, Lists}
use Rattle.meet.proofs.Putting.{each_on_nothing, put_at_between}
use Rattle.meet_scan.proofs.Reading.{few_directions}

-- an offer waits in one room
waits_once : (meet : Meet) (d : Direction) (a b : ℕ) → WaitsIn meet d a → WaitsIn meet d b → a ≡ b
waits_once meet (Send chan atoms) a b first last = first.1 ∙ sym last.1
waits_once meet (Recv chan) a b first last = first.1 ∙ sym last.1
waits_once meet (OnNack nack) a b first last = first.1 ∙ sym last.1
waits_once meet (Always atoms) a b first last = absurd first
waits_once meet (OnEnd thread) a b first last = first.1 ∙ sym last.1
waits_once meet Never a b first last = absurd first

-- and there is such a room
pub waits_within : (meet : Meet) (d : Direction) (at : ℕ) → length meet.rooms.items ≡ 2 * meet.channels + meet.nacks + meet.ends → WaitsIn meet d at → at < length meet.rooms.items
waits_within meet (Send chan atoms) at sized waits = let low = waits.0 in let is = waits.1 in omega arith
waits_within meet (Recv chan) at sized waits = let low = waits.0 in let is = waits.1 in omega arith
waits_within meet (OnNack nack) at sized waits = let low = waits.0 in let is = waits.1 in omega arith
waits_within meet (Always atoms) at sized waits = absurd waits
waits_within meet (OnEnd thread) at sized waits = let low = waits.0 in let is = waits.1 in omega arith
waits_within meet Never at sized waits = absurd waits

pub meets_within : (meet : Meet) (d : Direction) (at : ℕ) → length meet.rooms.items ≡ 2 * meet.channels + meet.nacks + meet.ends → MeetsIn meet d at → at < length meet.rooms.items
meets_within meet (Send chan atoms) at sized meets = let low = meets.0 in let is = meets.1 in omega arith
meets_within meet (Recv chan) at sized meets = let low = meets.0 in let is = meets.1 in omega arith
meets_within meet (OnNack nack) at sized meets = absurd meets
meets_within meet (Always atoms) at sized meets = absurd meets
meets_within meet (OnEnd thread) at sized meets = absurd meets
meets_within meet Never at sized meets = absurd meets

-- so it is of the room of a nack, and of that of an end
pub nack_within : (meet : Meet) (thread : ℕ) (room : Option ℕ) → length meet.rooms.items ≡ 2 * meet.channels + meet.nacks + meet.ends
    → MatchOption room (¬ (thread < meet.nacks)) (λ at. (thread < meet.nacks) × (at ≡ 2 * meet.channels + thread)) → IfSome room (λ at. at < length meet.rooms.items)
nack_within meet thread None sized is = tt
nack_within meet thread (Some at) sized is = let low = is.0 in let same = is.1 in omega arith

pub end_within : (meet : Meet) (thread : ℕ) (room : Option ℕ) → length meet.rooms.items ≡ 2 * meet.channels + meet.nacks + meet.ends
    → MatchOption room (¬ (thread < meet.ends)) (λ at. (thread < meet.ends) × (at ≡ 2 * meet.channels + meet.nacks + thread)) → IfSome room (λ at. at < length meet.rooms.items)
end_within meet thread None sized is = tt
end_within meet thread (Some at) sized is = let low = is.0 in let same = is.1 in omega arith

pub put_where : {E : Type 0} (meet : Meet) (d : Direction) (found : ℕ) (mine : Offered) (ps qs : List LanePass) (r : Result (Unit {0}) E)
    → WaitsIn meet d found → IfOk r (λ x. PutAt found mine ps qs) → IfOk r (λ x. (at : ℕ) → WaitsIn meet d at → PutAt at mine ps qs)
put_where meet d found mine ps qs (Ok x) waits put = λ at also. subst (λ (n : ℕ). PutAt n mine ps qs) (waits_once meet d found at waits also) put
put_where meet d found mine ps qs (Err e) waits put = tt

-- THE OFFERS ARE PUT one after another
abbrev pub ArePut : Meet → Row → List (Option Direction) → List LanePass → List LanePass → ℕ → Type 0
ArePut meet r directions ps qs n = (k : ℕ) (d : Direction) (at : ℕ) → k < n → Lists directions k d → WaitsIn meet d at → PutAt at (r, k) ps qs

pub next_put : (meet : Meet) (r : Row) (directions : List (Option Direction)) (ps qs rs : List LanePass) (n : ℕ) (d : Direction) → Lists directions n d → EachPutsOn ps qs → EachPutsOn qs rs
    → ArePut meet r directions ps qs n → ((at : ℕ) → WaitsIn meet d at → PutAt at (r, n) qs rs) → ArePut meet r directions ps rs (n + 1)
next_put meet r directions ps qs rs n d listed before after are put k e at low lists waits = elim (eqb_tells k n) [
  | inl is ↦ (
      let here : Lists directions n e = subst (λ (m : ℕ). Lists directions m e) is.1 lists in
      let same : d ≡ e = ap (λ (x : Option Direction). unwrap_or x d) (sym listed ∙ here) in
      subst (λ (m : ℕ). PutAt at (r, m) ps rs) (sym is.1)
      (put_at_between ps qs rs rs at (r, n) before (put at (subst (λ (x : Direction). WaitsIn meet x at) (sym same) waits)) (each_on_nothing rs)))
  | inr other ↦ put_at_between ps ps qs rs at (r, k) (each_on_nothing ps) (are k e at (let apart = other.1 in omega arith) lists waits) after
]

-- all that stand before the list's end
pub ended_put : (meet : Meet) (r : Row) (directions : List (Option Direction)) (ps qs : List LanePass) (n : ℕ) → LacksAt directions n → ArePut meet r directions ps qs n
    → (k : ℕ) (d : Direction) (at : ℕ) → k < 8 → ((m : ℕ) → m ≤ k → ¬ LacksAt directions m) → Lists directions k d → WaitsIn meet d at → PutAt at (r, k) ps qs
ended_put meet r directions ps qs n lacks are k d at few listed lists waits = by_case (Rattle.std.proofs.Math.Dec.ltb k n) refl
  where
    by_case : (b : Bool) → Rattle.std.proofs.Math.Dec.ltb k n ≡ b → PutAt at (r, k) ps qs
    by_case true e = are k d at (ltb-true k n e) lists waits
    by_case false e = absurd (listed n (ltb-false k n e) lacks)

pub all_put : (meet : Meet) (r : Row) (directions : List (Option Direction)) (ps qs : List LanePass) (n : ℕ) → 8 ≤ n → ArePut meet r directions ps qs n
    → (k : ℕ) (d : Direction) (at : ℕ) → k < 8 → ((m : ℕ) → m ≤ k → ¬ LacksAt directions m) → Lists directions k d → WaitsIn meet d at → PutAt at (r, k) ps qs
all_put meet r directions ps qs n all are k d at few listed lists waits = are k d at (omega arith) lists waits

-- so all are put that had been seen before the list was read
pub put_offers : (meet : Meet) (s : Seen) (r : Row) (directions : List (Option Direction)) (ps qs rs ss : List LanePass)
    → ((n : ℕ) (d : Direction) → SeesDirection s r n d → Lists directions n d)
    → ((n : ℕ) → LacksAt directions n → (k : ℕ) (d : Direction) → SeesDirection s r k d → k < n)
    → ((n : ℕ) (d : Direction) (at : ℕ) → n < 8 → ((k : ℕ) → k ≤ n → ¬ LacksAt directions k) → Lists directions n d → WaitsIn meet d at → PutAt at (r, n) qs rs)
    → EachPutsOn ps qs → EachPutsOn rs ss
    → (n : ℕ) (d : Direction) (at : ℕ) → SeesDirection s r n d → WaitsIn meet d at → PutAt at (r, n) ps ss
put_offers meet s r directions ps qs rs ss whole short put before after n d at sees waits =
    put_at_between ps qs rs ss at (r, n) before
    (put n d at (few_directions s r 8 (omega arith) n d sees) (λ k low lacks. let past = short k lacks n d sees in absurd (omega arith)) (whole n d sees) waits)
    after
