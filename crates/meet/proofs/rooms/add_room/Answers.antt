use Rattle.std.proofs.Common.{◌≡◌, ◌++◌, ◌∷◌, [], ◌+◌, ◌<◌, ◌≤◌, ℕ, List, arith, rules, refl, slice_get, Option, Some, IfSome, subst, sym, length, get_or}
use Rattle.std.proofs.lemmas.List.Elements.{All-get_or, All-pop}
use Rattle.std.proofs.lemmas.Option.{get_or_from_slice_get, slice_get-get_or, slice_get_read, slice_get_within}
use Rattle.meet_queues.proofs.Positioning.{all_at_set}
use Rattle.meet_queues.specs.declared.lane.LanePass.{LanePass}
use Rattle.meet_queues.specs.Lanes.{IsLanePassOf}
use Rattle.meet.specs.declared.rooms.RoomsPass.{RoomsPass}
use Rattle.meet.specs.declared.rooms.Room.{Room}
use Rattle.meet.specs.Rooms.{EachServes, Serves}
use Rattle.meet.proofs.Serving.{serves_push}
use Rattle.meet.proofs.rooms.add_room.Goals as goal

abbrev Both : List Room → Room → ℕ → ℕ → RoomsPass → Type 0
Both rooms room at n p = (n < at → Serves (rooms ++ room ∷ []) p.passes.items) × (at ≤ n → Serves rooms p.passes.items)

at_place : (rooms : List Room) (all : List RoomsPass) (n : ℕ) (p : RoomsPass) → EachServes rooms all → slice_get all n ≡ Some p → Serves rooms p.passes.items
at_place rooms all n p each is =
    subst (λ (x : RoomsPass). Serves rooms x.passes.items) (get_or_from_slice_get all n p p is) (All-get_or (λ (x : RoomsPass). Serves rooms x.passes.items) all n p (slice_get_within all n p is) each)

pub loop-at-init : goal.loop-at-init
loop-at-init c = (
  (λ n p is. ((λ less. absurd (omega arith)), (λ _. at_place c.args.rooms.now.items c.args.all.now.items n p c.requires.each is))),
  c.requires.new.1,
  search rules,
  refl,
  refl,
)

pub loop-at-preserved : goal.loop-at-preserved
loop-at-preserved c =
    let rooms = c.args.rooms.now.items in
    let room = c.args.room in
    let at = c.loop-at.at in
    let old = c.index_mut.result.now in
    let new : RoomsPass = record old { passes = c.push.new.self } in
    let within : at < length c.loop-at.all.items = (search rules) in
    let is = slice_get_read c.loop-at.all.items (length c.loop-at.all.items) at old refl within c.index_mut.ensures.value in
    let popped = All-pop (IsLanePassOf room.lane) c.loop-at.lane_passes.items c.pop.new.self.items c.pop.result c.pop.ensures.items c.loop-at.invariant.1 in
    let lane_is : IsLanePassOf room.lane c.in-Some.lane = subst (λ (o : Option LanePass). IfSome o (IsLanePassOf room.lane)) c.in-Some.is popped.1 in
    let served : Serves (rooms ++ room ∷ []) new.passes.items = subst (Serves (rooms ++ room ∷ [])) (sym c.in_ok-push.ensures.items) (serves_push rooms old.passes.items room c.in-Some.lane ((c.loop-at.invariant.0 at old is).1 (omega arith)) lane_is) in (
      all_at_set (Both rooms room at) (Both rooms room (at + 1)) c.loop-at.all.items at new c.loop-at.invariant.0
          ((λ less. served), (λ more. absurd (omega arith)))
          (λ n p other both. ((λ less. both.0 (omega arith)), (λ more. both.1 (omega arith)))),
      popped.0,
      search rules,
      search rules,
      refl,
    )

pub returns-clause-each : goal.returns-clause-each
returns-clause-each c =
    let rooms = c.args.rooms.now.items in
    let room = c.args.room in (
      (search rules),
      subst (λ (all : List Room). EachServes all c.loop-at.all.items) (sym c.in_ok-push-2.ensures.items)
          (λ n d less. (c.loop-at.invariant.0 n (get_or c.loop-at.all.items n d) (slice_get-get_or c.loop-at.all.items n d less)).0 (search rules)),
    )
