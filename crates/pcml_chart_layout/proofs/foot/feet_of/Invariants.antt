use Rattle.journal_replay.proofs.Telling.{HoldsOf}
use Rattle.pcml_chart_layout.specs.Feet.{TellsFoot}
use Rattle.pcml_chart_layout.proofs.foot.feet_of.Given as goal

abbrev pub invariant-loop-thread : goal.invariant-loop-thread
invariant-loop-thread l = HoldsOf (TellsFoot l.state) l.thread l.feet.items
