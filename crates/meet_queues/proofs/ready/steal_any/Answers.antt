use Rattle.std.proofs.Common.{ap, ◌∙◌, rules}
use Rattle.std.proofs.lemmas.List.Elements.{All-set}
use Rattle.protocol_values.specs.declared.Row.{Row}
use Rattle.meet_queues.specs.declared.entries.QueueView.{QueueView}
use Rattle.meet_queues.specs.Ends.{IsOther}
use Rattle.meet_queues.proofs.Stealing.{stolen, not_stolen}
use Rattle.meet_queues.proofs.ready.steal_any.Goals as goal

pub returns-in-Some-clause-got : goal.returns-in-Some-clause-got
returns-in-Some-clause-got c =
    stolen c.args.others.now.items c.loop-at.others.items c.loop-at.at c.index_mut.result.now c.steal.new.other c.in-Some.entry c.loop-at.invariant.1 (search rules) c.index_mut.ensures.value
    (ap (λ (v : QueueView Row). v.got) c.in-Some.ensures.got)

pub loop-at-preserved : goal.loop-at-preserved
loop-at-preserved c = (
  All-set IsOther c.loop-at.others.items c.loop-at.at c.steal.new.other c.steal.ensures.here c.loop-at.invariant.0,
  not_stolen c.loop-at.others.items c.loop-at.at c.index_mut.result.now c.steal.new.other c.index_mut.ensures.value (ap (λ (v : QueueView Row). v.got) c.in_default.ensures.got) ∙ c.loop-at.invariant.1,
  search rules,
)
