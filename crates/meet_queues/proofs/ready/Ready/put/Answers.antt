use Rattle.std.proofs.Common.{refl, sym, ap, ◌∙◌, [], ◌∷◌, subst}
use Rattle.crossbeam_deque.specs.Handles.{worker_view}
use Rattle.crossbeam_deque.specs.Injected.{injector_view}
use Rattle.crossbeam_deque.specs.Tasks.{Pushes}
use Rattle.protocol_values.specs.declared.Row.{Row}
use Rattle.meet_queues.specs.declared.entries.Entry.{Entry}
use Rattle.meet_queues.specs.Hands.{HandsOver, PutsOne}
use Rattle.meet_queues.specs.Ends.{entry}
use Rattle.meet_queues.proofs.ReadySteps.{hand_kept, hand_put, put_one}
use Rattle.meet_queues.proofs.ready.Ready.put.Goals as goal

pub push_as-requires-clause-pushes : goal.push_as-requires-clause-pushes
push_as-requires-clause-pushes g c = put_one _ _ _ c.requires.here.own.0 c.requires.here.own.1

pub push_as-requires-2-clause-rule : goal.push_as-requires-2-clause-rule
push_as-requires-2-clause-rule g c =
    subst (λ (e : Entry Row). Pushes HandsOver c.args.end.now.inlet.id (injector_view c.args.end.now.inlet) (e ∷ []) (PutsOne (injector_view c.args.end.now.inlet) (e ∷ [])))
    (sym c.in-Err.ensures.rule.0)
    (put_one c.args.end.now.inlet.id (injector_view c.args.end.now.inlet) (entry c.args.row c.args.end.now) c.requires.here.shared.0 c.requires.here.shared.1)

pub returns-clause-here : goal.returns-clause-here
returns-clause-here g c = (
  record {
    fifo = c.in-Err.ensures.same.1 ∙ c.requires.here.fifo;
    own = hand_kept _ _ (worker_view c.args.end.now.own) _ c.requires.here.own c.in-Err.ensures.rule.1;
    inlet = c.in-Ok.ensures.same.0;
    shared = hand_put _ _ (injector_view c.args.end.now.inlet) _ c.in-Err.entry c.requires.here.shared c.in-Ok.ensures.rule (ap (λ (e : Entry Row). e.count) c.in-Err.ensures.rule.0);
    others = c.requires.here.others;
  },
  refl,
)
