-- The passes of rooms: one is read, one is replaced, one joins.
use Rattle.std.proofs.Common.{◌≡◌, ℕ, zero, suc, ◌<◌, ◌≤◌, List, [], ◌∷◌, ◌++◌, Some, None, length, set, slice_get, get_or, sym, subst, refl, ap, ◌∙◌, arith}
use Rattle.std.proofs.lemmas.Option.{get_or_from_slice_get, slice_get_read, slice_get_within}
use Rattle.meet_queues.specs.declared.lane.LanePass.{LanePass}
use Rattle.meet_queues.specs.Lanes.{IsLanePassOf}
use Rattle.meet.specs.declared.rooms.Room.{Room}
use Rattle.meet.specs.Rooms.{Serves}

no_room : (r : Room) → None ≡ Some r → ⊥
no_room r e = let bad : None ≡ Some r = e in cc

same_room : (q r : Room) → Some q ≡ Some r → q ≡ r
same_room q r e = cc

serves_length : (rs : List Room) (ps : List LanePass) → Serves rs ps → length ps ≡ length rs
serves_length [] [] s = refl
serves_length [] (p ∷ ps) s = absurd s
serves_length (r ∷ rs) [] s = absurd s
serves_length (r ∷ rs) (p ∷ ps) s = ap suc (serves_length rs ps s.1)

serves_at : (rs : List Room) (ps : List LanePass) (n : ℕ) (r : Room) (d : LanePass) → Serves rs ps → slice_get rs n ≡ Some r → IsLanePassOf r.lane (get_or ps n d)
serves_at [] [] n r d s e = absurd (no_room r e)
serves_at [] (p ∷ ps) n r d s e = absurd s
serves_at (q ∷ rs) [] n r d s e = absurd s
serves_at (q ∷ rs) (p ∷ ps) zero r d s e = subst (λ (x : Room). IsLanePassOf x.lane p) (same_room q r e) s.0
serves_at (q ∷ rs) (p ∷ ps) (suc n) r d s e = serves_at rs ps n r d s.1 e

serves_set : (rs : List Room) (ps : List LanePass) (n : ℕ) (r : Room) (p : LanePass) → Serves rs ps → slice_get rs n ≡ Some r → IsLanePassOf r.lane p → Serves rs (set ps n p)
serves_set [] [] n r p s e is = absurd (no_room r e)
serves_set [] (x ∷ ps) n r p s e is = absurd s
serves_set (q ∷ rs) [] n r p s e is = absurd s
serves_set (q ∷ rs) (x ∷ ps) zero r p s e is = (subst (λ (y : Room). IsLanePassOf y.lane p) (sym (same_room q r e)) is, s.1)
serves_set (q ∷ rs) (x ∷ ps) (suc n) r p s e is = (s.0, serves_set rs ps n r p s.1 e is)

pub serves_push : (rs : List Room) (ps : List LanePass) (r : Room) (p : LanePass) → Serves rs ps → IsLanePassOf r.lane p → Serves (rs ++ r ∷ []) (ps ++ p ∷ [])
serves_push [] [] r p s is = (is, tt)
serves_push [] (x ∷ ps) r p s is = absurd s
serves_push (q ∷ rs) [] r p s is = absurd s
serves_push (q ∷ rs) (x ∷ ps) r p s is = (s.0, serves_push rs ps r p s.1 is)

-- the pass that stands at a room's place
pub serves_here : (rs : List Room) (ps : List LanePass) (n : ℕ) (r : Room) (p : LanePass) → Serves rs ps → n < length rs → r ≡ get_or rs n r → p ≡ get_or ps n p → IsLanePassOf r.lane p
serves_here rs ps n r p s less room is = subst (IsLanePassOf r.lane) (sym is) (serves_at rs ps n r p s (slice_get_read rs (length rs) n r refl less room))

-- there is one
pub serves_within : (rs : List Room) (ps : List LanePass) (n : ℕ) → Serves rs ps → n < length rs → n < length ps
serves_within rs ps n s less = let same = serves_length rs ps s in omega arith

-- and another stands there
pub serves_now : (rs : List Room) (ps : List LanePass) (n : ℕ) (r : Room) (p : LanePass) → Serves rs ps → n < length rs → r ≡ get_or rs n r → IsLanePassOf r.lane p → Serves rs (set ps n p)
serves_now rs ps n r p s less room is = serves_set rs ps n r p s (slice_get_read rs (length rs) n r refl less room) is

-- where there is no room there is no pass of it
pub no_pass : (rs : List Room) (ps : List LanePass) (n : ℕ) (p : LanePass) → Serves rs ps → length rs ≤ n → slice_get ps n ≡ Some p → ⊥
no_pass rs ps n p s past is = let low = slice_get_within ps n p is in let same = serves_length rs ps s in absurd (omega arith)

-- the pass that was read at a place is the one that stands there
pub one_pass : (ps : List LanePass) (n : ℕ) (p q : LanePass) → slice_get ps n ≡ Some p → q ≡ get_or ps n q → q ≡ p
one_pass ps n p q is read = read ∙ get_or_from_slice_get ps n p q is
