use Rattle.std.proofs.Common.{◌≡◌, ◌++◌, List, false, length}
use Rattle.std.specs.Prelude.{map}
use Rattle.channels.specs.declared.waiting.Waiting.{Waiting}
use Rattle.channels.specs.Lines.{IsIn}
use Rattle.channels.specs.States.{line, with_line}
use Rattle.engine.specs.Lines.{lives}
use Rattle.engine.specs.Places.{shown}
use Rattle.engine.specs.Tables.{sync_of}
use Rattle.engine.proofs.lines.take_live.Given as goal

abbrev pub invariant-loop-waiting : goal.invariant-loop-waiting
invariant-loop-waiting l =
    (dead : List Waiting) × (line l.side l.initial.channel ≡ dead ++ line l.side l.channel) × ((x : Waiting) → IsIn dead x → lives (map (shown sync_of) l.syncs.slots.items) x ≡ false)
    × (l.channel ≡ with_line l.side l.initial.channel (line l.side l.channel))

abbrev pub decreases-loop-waiting : goal.decreases-loop-waiting
decreases-loop-waiting l = length (line l.side l.channel)
