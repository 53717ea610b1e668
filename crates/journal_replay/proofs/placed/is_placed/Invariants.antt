use Rattle.std.proofs.Common.{map}
use Rattle.script_tree.specs.Processes.{proc_of}
use Rattle.journal_replay.proofs.Placing.{EachBehind}
use Rattle.journal_replay.proofs.placed.is_placed.Given as goal

abbrev pub invariant-loop-number : goal.invariant-loop-number
invariant-loop-number l = EachBehind (map proc_of l.processes) l.number
