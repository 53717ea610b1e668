use Rattle.std.proofs.Common.{◌≡◌, List, [], ◌∷◌, ◌++◌, map, sym, ap, ◌∙◌, arith}
use Rattle.std.proofs.lemmas.List.{map-append, nil_from_length}
use Rattle.script_tree.specs.Trees.{Members, event_of, events_of}
use Rattle.script_tree.specs.declared.tree.Event.{Event as SeenEvent}
use Rattle.script_tree.specs.declared.tree.Events.{Events as SeenEvents}
use Rattle.script_reader.proofs.Blocking.{chain_on, chain_on-nothing, chain_on-more}
use Rattle.script_reader.proofs.process.link_events.Goals as goal

pub loop-event-init : goal.loop-event-init
loop-event-init c = chain_on-nothing (map event_of c.args.events.items)

pub loop-event-preserved : goal.loop-event-preserved
loop-event-preserved c =
    let event = c.in-Some.event in
    let left = c.pop.new.self.items in
    let items : c.loop-event.events.items ≡ left ++ event ∷ [] = c.in-Some.ensures.items in
    let first = ap (λ (e : SeenEvent). chain_on (Members (event_of e) (events_of c.in_ok-new.field-0.value)) (map event_of left)) c.in_ok-first.ensures.ok in
    let second = ap (λ (e : SeenEvents). chain_on (Members (event_of event) (events_of e)) (map event_of left)) c.in_ok-new.ensures.ok in
    let front = chain_on-more (events_of c.loop-event.linked) (map event_of left) (event_of event) in
    let split = map-append event_of left (event ∷ []) in
    first ∙ second ∙ sym front ∙ ap (chain_on (events_of c.loop-event.linked)) (sym split ∙ ap (map event_of) (sym items)) ∙ c.loop-event.invariant

pub returns : goal.returns
returns c =
    let none : c.loop-event.events.items ≡ [] = nil_from_length c.loop-event.events.items (omega (arith, c.in_default.ensures.cases.0, c.loop-event.events.ok.0)) in
    ap (λ (xs : List SeenEvent). chain_on (events_of c.loop-event.linked) (map event_of xs)) (sym none) ∙ c.loop-event.invariant
