-- The steps so far are played, and lead to the world as it stands.
use Rattle.std.proofs.Common.{take}
use Rattle.protocol_ledger.specs.Worlds.{Plays}
use Rattle.protocol.specs.States.{world_of, IsSound}
use Rattle.protocol.proofs.world.play.Given as goal

abbrev pub invariant-loop-index : goal.invariant-loop-index
invariant-loop-index l =
    record {
      sound : IsSound l.world-inside.state;
      played : Plays l.fn.world (take l.index l.steps) (world_of l.world-inside.state);
    }
