use Rattle.std.proofs.Common.{◌≡◌, false, take}
use Rattle.std.specs.List.{list_any}
use Rattle.channels.specs.Buffers.{is_reached}
use Rattle.channels.proofs.buffered.Buffered.is_reached.Given as goal

abbrev pub invariant-loop-pull : goal.invariant-loop-pull
invariant-loop-pull l = list_any (is_reached l.self) (take l.pull-index l.self.pulls) ≡ false
