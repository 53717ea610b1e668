use Rattle.std.proofs.Common.{◌≡◌, ◌++◌, drop, map, take}
use Rattle.channels.specs.Buffers.{untold}
use Rattle.channels.proofs.pulls.Pulls.untell.Given as goal

abbrev pub invariant-loop-pull : goal.invariant-loop-pull
invariant-loop-pull l = l.pull-items ≡ map (untold l.ticket) (take l.pull-index l.fn.self) ++ drop l.pull-index l.fn.self
