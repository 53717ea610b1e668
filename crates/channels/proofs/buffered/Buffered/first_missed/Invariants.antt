use Rattle.std.proofs.Common.{◌≡◌, false, take}
use Rattle.std.specs.List.{list_any}
use Rattle.channels.specs.Buffers.{is_missed}
use Rattle.channels.proofs.buffered.Buffered.first_missed.Given as goal

abbrev pub invariant-loop-index : goal.invariant-loop-index
invariant-loop-index l = list_any (is_missed l.self) (take l.index l.self.pulls) ≡ false
