use Rattle.std.proofs.Common.{refl, ap}
use Rattle.protocol_values.specs.declared.Row.{Row}
use Rattle.meet_queues.specs.declared.entries.QueueView.{QueueView}
use Rattle.meet_queues.proofs.ReadySteps.{get_one}
use Rattle.meet_queues.proofs.Stealing.{got_first, got_later}
use Rattle.meet_queues.proofs.ready.Ready.get.Goals as goal

pub pop_as-requires-clause-fifo : goal.pop_as-requires-clause-fifo
pop_as-requires-clause-fifo g c = λ fifo. get_one _ _

pub returns-in-Some-clause-got : goal.returns-in-Some-clause-got
returns-in-Some-clause-got g c = (c.in-Some.entry, refl, got_first _ _ _ _ c.in-Some.entry (ap (λ (v : QueueView Row). v.got) c.in-Some.ensures.rule) refl)

pub returns-in-Some-take_shared-clause-got : goal.returns-in-Some-take_shared-clause-got
returns-in-Some-take_shared-clause-got g c = (
  c.in-Some-take_shared.entry,
  refl,
  got_later _ _ _ _ c.in-Some-take_shared.entry (ap (λ (v : QueueView Row). v.got) c.in_default.ensures.rule.0)
      (got_first _ _ _ _ c.in-Some-take_shared.entry (ap (λ (v : QueueView Row). v.got) c.in-Some-take_shared.ensures.got) refl),
)

pub returns-clause-got : goal.returns-clause-got
returns-clause-got g c = (
  c.in_ok-entry.entry,
  refl,
  got_later _ _ _ _ c.in_ok-entry.entry (ap (λ (v : QueueView Row). v.got) c.in_default.ensures.rule.0)
      (got_later _ _ _ _ c.in_ok-entry.entry (ap (λ (v : QueueView Row). v.got) c.in_default-take_shared.ensures.got) c.in_ok-entry.ensures.got),
)
