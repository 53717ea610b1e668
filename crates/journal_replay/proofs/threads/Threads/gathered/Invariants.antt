use Rattle.std.proofs.Common.{◌≡◌, ◌<◌, ◌++◌, ℕ, false, None, length, map}
use Rattle.script_tree.specs.Processes.{proc_of, tree_of}
use Rattle.script_tree.specs.Spawning.{spawner}
use Rattle.journal_replay.proofs.Gathered.{GatheredSo}
use Rattle.journal_replay.proofs.Lines.{TreesSo}
use Rattle.journal_replay.proofs.threads.Threads.gathered.Given as goal

abbrev pub invariant-loop-part : goal.invariant-loop-part
invariant-loop-part l = record {
  whole : l.fn.known.items ≡ l.yielded ++ l.part-iterator.rest.items;
  count : length l.strands.items ≡ length l.yielded;
  gathered : GatheredSo (map proc_of l.processes) l.fn.known.items l.strands.items;
  trees : TreesSo (map tree_of l.processes) l.fn.known.items l.strands.items;
  later : l.later ≡ false → (t : ℕ) → t < length l.strands.items → spawner (map proc_of l.processes) t ≡ None;
}
