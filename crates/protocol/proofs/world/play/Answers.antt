use Rattle.protocol_values.specs.declared.Seat.{Seat}
use Rattle.protocol_values.specs.declared.Step.{Step}
use Rattle.protocol_values.specs.declared.Step.TheVariants.{Draft}
use Rattle.protocol.specs.States.{world_of}
use Rattle.protocol_ledger.proofs.Playing.{plays_next, refused_at}
use Rattle.protocol.proofs.world.play.Goals as goal

-- what the loop reads past the end of the schedule
some_step : Seat × Step
some_step = (record { 0 = 0 }, Draft (record { thread = 0; sync = 0 }) 0 0)

pub returns-then-not-step-clause-refused : goal.returns-then-not-step-clause-refused
unfolding some_step
returns-then-not-step-clause-refused c =
    refused_at c.args.world (world_of c.loop-index.world-inside.state) c.args.steps.now c.loop-index.index some_step c.loop-index-test.true c.loop-index.invariant.played c.if-not-step.ensures.decided.0

pub loop-index-preserved : goal.loop-index-preserved
unfolding some_step
loop-index-preserved c = record {
  sound = c.step.ensures.sound;
  played = plays_next c.args.world (world_of c.loop-index.world-inside.state) (world_of c.step.new.self) c.args.steps.now c.loop-index.index some_step c.loop-index-test.true c.loop-index.invariant.played c.if-not-step.ensures.decided;
}
